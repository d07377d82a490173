-- The calls of desk tools on a site that they keep in lent memory, with windows and a tally: its load, its events, and what a
-- listing shows of a node.
-- Of each call: its answer, and what each lent word and byte and the tally hold then. A refusal changes none.
-- Assumes nothing.
use Rattle.std.specs.Prelude.{cond, ◌||◌, List, ◌∷◌, ◌++◌, ℕ, min, ◌+◌, ◌*◌, eqb, ltb, length, get_or, replicate}
use mir.Val.{bool_byte}
use Rattle.lists.specs.All.{tab}
use Rattle.lists.specs.Bytes.{bytes32, written}
use Rattle.allotment.specs.Allotment.{top_request, owners_of}
use Rattle.node.specs.Answers.{is_done}
use Rattle.node.specs.Model.{Node}
use Rattle.node.specs.Answers.{Answer}
use Rattle.node.specs.Answers.{Done, OutOfRange, NoSuchNode, NoRoom}
use Rattle.site.specs.Members.{outside, is_live}
use Rattle.node.specs.declared.Config.{Config}
use Rattle.site.specs.declared.Row.{Row}
use Rattle.site.specs.declared.Table.{Table}
use Rattle.site.specs.Model.{Member}
use Rattle.windows.specs.declared.Window.{Window}
use Rattle.machine.specs.Layout.{Store, too_short, config_in}
use Rattle.machine.specs.Loading.{member_read}
use Rattle.machine.specs.timed.Timed.{Timed, first_epoch, timed_load_answer, loaded_timed}
use Rattle.machine.specs.timed.Stored.{timed_loaded_store}
use Rattle.tally.specs.Counting.{first_tally}
use Rattle.tally.specs.declared.Tally.{Tally}
use Rattle.machine.specs.combined.Kept.{Kept}
use Rattle.machine.specs.combined.Stored.{lent_too_short, step_answer, step_store, step_report, step_kept}
use Rattle.site.specs.declared.Event.{Event}
use Rattle.std.specs.Prelude.{Option}
use Rattle.std.specs.Prelude.{None, Some}
use Rattle.sites.specs.one.Memory.{memory_too_short, day_in, with_day, timed_of, kept_of}

-- the figures of a load
abbrev pub config_from : ℕ → ℕ → ℕ → ℕ → ℕ → Config
config_from nodes slots rounds heard split = record { nodes = nodes; slots = slots; rounds = rounds; min_heard = heard; split = split }

-- row i of lent rows: version, flags and want; for a want above the top request stands the number after it, which is out of range too
abbrev pub row_from : List ℕ → ℕ → Row
row_from rows i = record {
  version = get_or rows (3 * i) 0;
  flags = get_or rows (3 * i + 1) 0;
  want = min (get_or rows (3 * i + 2) 0) (top_request + 1);
}

unfoldable pub table_from : List ℕ → Table
table_from rows = record { rows = tab 32 (row_from rows) }

-- a load: 15; 2 for figures out of range, for rows that are not three words for each node, and for a row out of range; 16
unfoldable pub loading_of : Store → Config → List ℕ → ℕ → List Window → Answer
loading_of s f rows D ws = cond (memory_too_short s) NoRoom
    (cond (eqb (length rows) (3 * f.nodes)) (timed_load_answer f (table_from rows) D ws) OutOfRange)

-- an accepted load writes the site, with the demands of the first epoch, and its day
unfoldable pub after_load : Store → Config → List ℕ → ℕ → List Window → Store
after_load s f rows D ws = cond (is_done (loading_of s f rows D ws)) (with_day (timed_loaded_store s f (table_from rows) D ws) (first_epoch D)) s

-- the site with its day that memory stands for then
unfoldable pub timed_after_load : Store → Config → List ℕ → ℕ → List Window → Timed
timed_after_load s f rows D ws = cond (is_done (loading_of s f rows D ws)) (loaded_timed f (table_from rows) D ws) (timed_of s)

-- an accepted load sets the tally anew, whatever it held
unfoldable pub tally_after_load : Store → Config → List ℕ → ℕ → List Window → Tally → Tally
tally_after_load s f rows D ws t = cond (is_done (loading_of s f rows D ws)) first_tally t

-- an event, made of three numbers as a script's line has them: 15, 2 for numbers that make none, and then as the machine answers
abbrev pub parsed_answer : Store → List ℕ → List Window → Tally → List ℕ → (Option Event) → Answer
parsed_answer s area ws t out None = cond (lent_too_short s area out) NoRoom OutOfRange
parsed_answer s area ws t out (Some e) = step_answer s (day_in s.words) area ws t out e

unfoldable pub site_event_answer : Store → List ℕ → List Window → Tally → List ℕ → (Option Event) → Answer
site_event_answer s area ws t out p = cond (memory_too_short s) NoRoom (parsed_answer s area ws t out p)

-- what memory, area and tally stand for then
abbrev pub parsed_kept : Store → List ℕ → List Window → Tally → List ℕ → (Option Event) → Kept
parsed_kept s area ws t out None = kept_of s area t
parsed_kept s area ws t out (Some e) = step_kept s (day_in s.words) area ws t out e

unfoldable pub kept_after_event : Store → List ℕ → List Window → Tally → List ℕ → (Option Event) → Kept
kept_after_event s area ws t out p = cond (memory_too_short s) (kept_of s area t) (parsed_kept s area ws t out p)

-- an accepted event writes the storage, as the machine does, and the day
abbrev pub parsed_store : Store → List ℕ → List Window → Tally → List ℕ → (Option Event) → Store
parsed_store s area ws t out None = s
parsed_store s area ws t out (Some e) =
    with_day (step_store s (day_in s.words) area ws t out e) (step_kept s (day_in s.words) area ws t out e).timed.day

unfoldable pub after_event : Store → List ℕ → List Window → Tally → List ℕ → (Option Event) → Store
after_event s area ws t out p = cond (is_done (site_event_answer s area ws t out p)) (parsed_store s area ws t out p) s

-- the output for a report
abbrev pub parsed_report : Store → List ℕ → List Window → Tally → List ℕ → (Option Event) → List ℕ
parsed_report s area ws t out None = out
parsed_report s area ws t out (Some e) = step_report s (day_in s.words) area ws t out e

unfoldable pub report_after_event : Store → List ℕ → List Window → Tally → List ℕ → (Option Event) → List ℕ
report_after_event s area ws t out p = cond (memory_too_short s) out (parsed_report s area ws t out p)

-- what a listing shows of a live node: state, version, flags, request and owners
unfoldable pub live_bytes : Node → List ℕ
live_bytes n = 2 ∷ (bytes32 n.version ++ (bytes32 n.flags ++ (n.request ∷ owners_of n.schedule)))

-- of one that is waiting or down the state, 1 or 0, and zeros
unfoldable pub rest_bytes : Member → List ℕ
rest_bytes m = bool_byte m.up ∷ replicate 89 0

abbrev pub node_bytes : Member → List ℕ
node_bytes m = cond (is_live m) (live_bytes m.node) (rest_bytes m)

-- how many bytes that is
abbrev pub shown_size : ℕ
shown_size = 90

-- 15 for storage or an output that are too short, then 3
unfoldable pub showing : Store → ℕ → List ℕ → Answer
showing s j out = cond (too_short s || ltb (length out) shown_size) NoRoom (cond (outside (config_in s) j) NoSuchNode Done)

-- the output: the bytes stand at its start, and every byte behind them is as it was
unfoldable pub out_node : Store → ℕ → List ℕ → List ℕ
out_node s j out = cond (is_done (showing s j out)) (written out 0 (node_bytes (member_read s j))) out

-- of a site in memory, which has its day too
unfoldable pub showing_of : Store → ℕ → List ℕ → Answer
showing_of s j out = cond (memory_too_short s) NoRoom (showing s j out)

unfoldable pub out_node_of : Store → ℕ → List ℕ → List ℕ
out_node_of s j out = cond (memory_too_short s) out (out_node s j out)
