-- The calls of desk tools on a group that they keep in lent memory. Of each call: its answer, what every lent word and byte is then, and
-- the group that this stands for. A refusal changes none.
-- Assumes nothing.
use Rattle.std.specs.Prelude.{Bool, cond, ◌||◌, List, ℕ, ◌-◌, ◌*◌, eqb, ltb, length, replicate}
use Rattle.lists.specs.Bytes.{written}
use Rattle.node.specs.Answers.{is_done}
use Rattle.node.specs.Answers.{Answer}
use Rattle.node.specs.Answers.{Done, OutOfRange, NoSuchNode, NoRoom, Crowded}
use Rattle.site.specs.Counts.{packets}
use Rattle.site.specs.Answers.{area_size}
use Rattle.node.specs.declared.Config.{Config}
use Rattle.site.specs.declared.Table.{Table}
use Rattle.site.specs.declared.Event.{Event}
use Rattle.machine.specs.Layout.{site_in}
use Rattle.windows.specs.declared.Window.{Window}
use Rattle.machine.specs.timed.Timed.{first_epoch, timed_load_answer}
use Rattle.machine.specs.timed.Stored.{timed_in, timed_loaded_store}
use Rattle.tally.specs.Counting.{first_tally}
use Rattle.tally.specs.declared.Tally.{Tally}
use Rattle.machine.specs.combined.Kept.{Kept, first_refusal}
use Rattle.machine.specs.combined.Stored.{report_too_short, step_answer, step_store, step_report, step_kept}
use Rattle.std.specs.Prelude.{Option}
use Rattle.std.specs.Prelude.{None, Some}
use Rattle.sites.specs.one.Calls.{table_from, showing, out_node}
use Rattle.group.specs.Places.{freed}
use Rattle.group.specs.Group.{Group, is_number, own_area}
use Rattle.group.specs.Calls.{GroupCall, LoadSite, SiteCall, is_crowded}
use Rattle.group.specs.Steps.{next_places, next_bytes, after_group}
use Rattle.sites.specs.many.Memory.{Memory, memory, Lent, table_size, group_too_short, store_at, day_at, loaded_answer, places_in, group_in}
use Rattle.sites.specs.many.Memory.{store_words, store_bytes, table_with}

-- A beginning: nothing is loaded and every place is free. 15 for memory that is too short
unfoldable pub begin_answer : Memory → Answer
begin_answer m = cond (group_too_short m) NoRoom Done

unfoldable pub begun_table : Memory → List ℕ
begun_table m = cond (group_too_short m) m.table (written m.table 0 (replicate table_size 0))

-- A load: 3 for a number outside 1 to 8, 15 for memory that is too short, then 2 and 16
unfoldable pub group_load_answer : Memory → ℕ → Config → Table → ℕ → List Window → Answer
group_load_answer m a f t D ws = cond (is_number a) (cond (group_too_short m) NoRoom (timed_load_answer f t D ws)) NoSuchNode

abbrev pub loaded_memory : Memory → ℕ → Config → Table → ℕ → List Window → Memory
loaded_memory m a f t D ws =
    let s = timed_loaded_store (store_at m (a - 1)) f t D ws in
    memory (store_words m (a - 1) s) (store_bytes m (a - 1) s) (table_with m.table (freed a (places_in m.table)) (a - 1) (first_epoch D))

unfoldable pub after_load : Memory → ℕ → Config → Table → ℕ → List Window → Memory
after_load m a f t D ws = cond (is_done (group_load_answer m a f t D ws)) (loaded_memory m a f t D ws) m

-- the group then, with any area
unfoldable pub group_loaded : Memory → List ℕ → ℕ → Config → Table → ℕ → List Window → Group
group_loaded m area a f t D ws = cond (group_too_short m) (group_in m area) (after_group (group_in m area) (LoadSite a f t D ws))

-- An event of the group
abbrev pub event_call : ℕ → List Window → Event → GroupCall
event_call a ws e = SiteCall a (record { event = e; windows = ws })

-- the area as the site of number a alone would have it
abbrev pub own_area_in : Memory → List ℕ → ℕ → List ℕ
own_area_in m area a = own_area (group_in m area) a (packets (site_in (store_at m (a - 1))).sent)

-- 15 for an area that is too short, then what the machine answers of the site with an area of its own
unfoldable pub site_step_answer : Memory → List ℕ → ℕ → Lent → Event → Answer
site_step_answer m area a v e =
    cond (ltb (length area) area_size) NoRoom
    (step_answer (store_at m (a - 1)) (day_at m.table (a - 1)) (own_area_in m area a) v.windows v.tally v.out e)

-- the answer: what is said of the number, then of the site, then 17
unfoldable pub group_event_answer : Memory → List ℕ → ℕ → Lent → Event → Answer
group_event_answer m area a v e =
    first_refusal (loaded_answer m a) (first_refusal (site_step_answer m area a v e)
    (cond (is_crowded (group_in m area) (event_call a v.windows e)) Crowded Done))

abbrev pub is_heeded : Memory → List ℕ → ℕ → Lent → Event → Bool
is_heeded m area a v e = is_done (group_event_answer m area a v e)

-- what the machine makes of the site with its day and its tally
abbrev pub own_kept : Memory → List ℕ → ℕ → Lent → Event → Kept
own_kept m area a v e = step_kept (store_at m (a - 1)) (day_at m.table (a - 1)) (own_area_in m area a) v.windows v.tally v.out e

-- an accepted event of number a: its site's storage as with an area of its own, its places, and its day
abbrev pub next_memory : Memory → List ℕ → ℕ → Lent → Event → Memory
next_memory m area a v e =
    let s = store_at m (a - 1) in
    let n = step_store s (day_at m.table (a - 1)) (own_area_in m area a) v.windows v.tally v.out e in
    memory (store_words m (a - 1) n) (store_bytes m (a - 1) n)
    (table_with m.table (next_places (places_in m.table) a (packets (site_in s).sent) e) (a - 1) (own_kept m area a v e).timed.day)

unfoldable pub after_event : Memory → List ℕ → ℕ → Lent → Event → Memory
after_event m area a v e = cond (is_heeded m area a v e) (next_memory m area a v e) m

-- the packet area
unfoldable pub group_area_after : Memory → List ℕ → ℕ → Lent → Event → List ℕ
group_area_after m area a v e = cond (is_heeded m area a v e)
    (next_bytes (group_in m area) (timed_in (store_at m (a - 1)) (day_at m.table (a - 1))) e) area

-- the tally
unfoldable pub group_tally_after : Memory → List ℕ → ℕ → Lent → Event → Tally
group_tally_after m area a v e = cond (is_heeded m area a v e) (own_kept m area a v e).tally v.tally

-- the output for reports
unfoldable pub report_after : Memory → List ℕ → ℕ → Lent → Event → List ℕ
report_after m area a v e =
    cond (is_heeded m area a v e)
    (step_report (store_at m (a - 1)) (day_at m.table (a - 1)) (own_area_in m area a) v.windows v.tally v.out e)
    v.out

-- the group: an accepted event is the group's call
unfoldable pub group_after : Memory → List ℕ → ℕ → Lent → Event → Group
group_after m area a v e = cond (is_heeded m area a v e) (after_group (group_in m area) (event_call a v.windows e)) (group_in m area)

-- A load whose rows are lent as words, three for each of the N nodes: 2 for another number of them, in its place among the refusals
abbrev pub row_count_fits : Config → List ℕ → Bool
row_count_fits f rows = eqb (length rows) (3 * f.nodes)

unfoldable pub rows_answer : Memory → ℕ → Config → List ℕ → ℕ → List Window → Answer
rows_answer m a f rows D ws = cond (row_count_fits f rows) (group_load_answer m a f (table_from rows) D ws)
    (cond (is_number a) (cond (group_too_short m) NoRoom OutOfRange) NoSuchNode)

unfoldable pub after_rows : Memory → ℕ → Config → List ℕ → ℕ → List Window → Memory
after_rows m a f rows D ws = cond (row_count_fits f rows) (after_load m a f (table_from rows) D ws) m

unfoldable pub group_rows : Memory → List ℕ → ℕ → Config → List ℕ → ℕ → List Window → Group
group_rows m area a f rows D ws = cond (row_count_fits f rows) (group_loaded m area a f (table_from rows) D ws) (group_in m area)

-- an accepted load sets the tally of the number anew, whatever it held
unfoldable pub tally_loaded : Memory → ℕ → Config → List ℕ → ℕ → List Window → Tally → Tally
tally_loaded m a f rows D ws t = cond (is_done (rows_answer m a f rows D ws)) first_tally t

-- An event made of three numbers, as a script's line has them: what is said of the number, then 15, then 2 for numbers that make none
abbrev pub group_line_answer : Memory → List ℕ → ℕ → Lent → (Option Event) → Answer
group_line_answer m area a v None =
    first_refusal (loaded_answer m a) (cond (ltb (length area) area_size || report_too_short v.out) NoRoom OutOfRange)
group_line_answer m area a v (Some e) = group_event_answer m area a v e

abbrev pub after_line : Memory → List ℕ → ℕ → Lent → (Option Event) → Memory
after_line m area a v None = m
after_line m area a v (Some e) = after_event m area a v e

abbrev pub area_after_line : Memory → List ℕ → ℕ → Lent → (Option Event) → List ℕ
area_after_line m area a v None = area
area_after_line m area a v (Some e) = group_area_after m area a v e

abbrev pub tally_after_line : Memory → List ℕ → ℕ → Lent → (Option Event) → Tally
tally_after_line m area a v None = v.tally
tally_after_line m area a v (Some e) = group_tally_after m area a v e

abbrev pub report_after_line : Memory → List ℕ → ℕ → Lent → (Option Event) → List ℕ
report_after_line m area a v None = v.out
report_after_line m area a v (Some e) = report_after m area a v e

abbrev pub group_after_line : Memory → List ℕ → ℕ → Lent → (Option Event) → Group
group_after_line m area a v None = group_in m area
group_after_line m area a v (Some e) = group_after m area a v e

-- What a listing shows of node j of number a: what is said of the number, then as of the site alone
unfoldable pub group_node_answer : Memory → ℕ → ℕ → List ℕ → Answer
group_node_answer m a j out = first_refusal (loaded_answer m a) (showing (store_at m (a - 1)) j out)

unfoldable pub node_out : Memory → ℕ → ℕ → List ℕ → List ℕ
node_out m a j out = cond (is_done (loaded_answer m a)) (out_node (store_at m (a - 1)) j out) out
