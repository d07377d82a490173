-- Only the contracts of private functions cite these: no public contract and no theorem does.
-- One event of a site whose packets lie by a table of places, from the site's own numbers.
-- Assumes nothing.
use Rattle.std.specs.Prelude.{◌≡◌, Bool, true, false, not, cond, ◌&&◌, ◌||◌, List, [], map, ℕ, ◌+◌, ◌*◌, ltb, leb, length, replicate}
use Rattle.lists.specs.All.{tab}
use Rattle.lists.specs.Bytes.{window}
use Rattle.allotment.specs.Allotment.{total}
use Rattle.node.specs.Answers.{is_done}
use Rattle.node.specs.Negotiation.{packet_of}
use Rattle.node.specs.Answers.{Answer}
use Rattle.node.specs.Answers.{Done, NoRoom, BadWindows, Crowded}
use Rattle.wire.specs.Layout.{packet_size}
use Rattle.site.specs.Counts.{packets}
use Rattle.site.specs.Members.{member_at}
use Rattle.site.specs.Answers.{area_size, site_send, site_hear}
use Rattle.site.specs.Steps.{stored}
use Rattle.node.specs.declared.Config.{Config}
use Rattle.site.specs.declared.Table.{Table}
use Rattle.site.specs.Model.{Site}
use Rattle.site.specs.declared.Event.{Event}
use Rattle.site.specs.declared.Event.TheVariants.{Send, Hear, Close, Take, End, Want, Crash, Restart}
use Rattle.machine.specs.Layout.{Store, words_size, bytes_size, site_in}
use Rattle.machine.specs.steps.After.{sent_store, heard_store}
use Rattle.windows.specs.Windows.{list_ok}
use Rattle.windows.specs.declared.Window.{Window}
use Rattle.machine.specs.timed.Timed.{Timed, first_epoch}
use Rattle.machine.specs.timed.Stored.{timed_in, stored_load_answer, timed_loaded_store}
use Rattle.machine.specs.declared.Day.{Day}
use Rattle.machine.specs.combined.Kept.{Kept, first_refusal}
use Rattle.machine.specs.combined.Stored.{step_answer, step_store, step_report, step_kept}
use Rattle.tally.specs.declared.Tally.{Tally}
use Rattle.group.specs.Places.{entry, place, place_filled, freed}
use Rattle.group.specs.Group.{Group, own_share, common_share, beyond, own_area}
use Rattle.group.specs.Calls.{is_send}
use Rattle.group.specs.Steps.{next_places, next_bytes}
use Rattle.sites.specs.many.Memory.{Memory, memory, Lent, store_at, day_at, site_slot_in, places_in, store_words, store_bytes, table_with}

-- whether an event is a hear
abbrev pub is_hear : Event → Bool
is_hear (Send j) = false
is_hear (Hear j p) = true
is_hear Close = false
is_hear (Take j i) = false
is_hear End = false
is_hear (Want j d) = false
is_hear (Crash j) = false
is_hear (Restart j flags) = false

-- a site by itself: its storage and day, its number, the places and the area
pub record OneSite : Type 0 where
  pub store : Store
  pub day : Day
  pub number : ℕ
  pub places : List ℕ
  pub area : List ℕ

abbrev pub one_site : Store → Day → ℕ → List ℕ → List ℕ → OneSite
one_site s d a places area = record { store = s; day = d; number = a; places = places; area = area }

-- a group of which only the places and the area are looked at
abbrev pub around : OneSite → Group
around x = record { site_slots = []; places = x.places; area = x.area }

abbrev pub timed_of : OneSite → Timed
timed_of x = timed_in x.store x.day

abbrev pub sent_count : OneSite → ℕ
sent_count x = packets (site_in x.store).sent

-- the area as the site would have it by itself
abbrev pub own_by : List ℕ → List ℕ → ℕ → Store → List ℕ
own_by places area a s = own_area (record { site_slots = []; places = places; area = area }) a (packets (site_in s).sent)

abbrev pub own_area_of : OneSite → List ℕ
own_area_of x = own_by x.places x.area x.number x.store

-- what the machine answers and leaves of the site with an area of its own
abbrev pub kept_by : OneSite → Lent → Event → Kept
kept_by x v e = step_kept x.store x.day (own_area_of x) v.windows v.tally v.out e

-- the answer but for 17, and whether it is 17: full is whether the common places are taken
unfoldable pub plain_by : OneSite → Lent → Event → Answer
plain_by x v e = cond (ltb (length x.area) area_size) NoRoom
    (step_answer x.store x.day (own_area_of x) v.windows v.tally v.out e)

unfoldable pub short_by : OneSite → Bool → Lent → Event → Bool
short_by x full v e = is_send e && (is_done (plain_by x v e) && (leb own_share (sent_count x) && full))

unfoldable pub taken_by : OneSite → Bool → Lent → Event → Bool
taken_by x full v e = is_done (plain_by x v e) && not (short_by x full v e)

-- what the call answers, and what day, tally, storage, places, area and output are then
unfoldable pub answer_by : OneSite → Bool → Lent → Event → Answer
answer_by x full v e = cond (short_by x full v e) Crowded (plain_by x v e)

unfoldable pub day_by : OneSite → Bool → Lent → Event → Day
day_by x full v e = cond (taken_by x full v e) (kept_by x v e).timed.day x.day

unfoldable pub tally_by : OneSite → Bool → Lent → Event → Tally
tally_by x full v e = cond (taken_by x full v e) (kept_by x v e).tally v.tally

unfoldable pub lent_store_by : OneSite → Bool → Lent → Event → Store
lent_store_by x full v e =
    cond (taken_by x full v e) (step_store x.store x.day (own_area_of x) v.windows v.tally v.out e) x.store

-- the site that the storage stands for then
unfoldable pub site_by : OneSite → Bool → Lent → Event → Site
site_by x full v e = cond (taken_by x full v e) (kept_by x v e).timed.site (site_in x.store)

unfoldable pub places_by : OneSite → Bool → Lent → Event → List ℕ
places_by x full v e = cond (taken_by x full v e) (next_places x.places x.number (sent_count x) e) x.places

unfoldable pub area_by : OneSite → Bool → Lent → Event → List ℕ
area_by x full v e = cond (taken_by x full v e) (next_bytes (around x) (timed_of x) e) x.area

unfoldable pub report_by : OneSite → Bool → Lent → Event → List ℕ
report_by x full v e =
    cond (taken_by x full v e) (step_report x.store x.day (own_area_of x) v.windows v.tally v.out e) v.out

-- what is said of a list of windows
abbrev pub list_answer : Store → Day → List Window → Answer
list_answer s d ws = cond (list_ok (site_in s).config.nodes d.length ws) Done BadWindows

-- a send, and a hear; o is what is said of the windows
abbrev pub group_send_answer : Store → Answer → ℕ → Answer
group_send_answer s o j = first_refusal (site_send (site_in s) j) o

unfoldable pub send_short : Store → Answer → Bool → ℕ → Bool
send_short s o full j = is_done (group_send_answer s o j) && (leb own_share (packets (site_in s).sent) && full)

unfoldable pub send_taken : Store → Answer → Bool → ℕ → Bool
send_taken s o full j = is_done (group_send_answer s o j) && not (send_short s o full j)

unfoldable pub send_answer : Store → Answer → Bool → ℕ → Answer
send_answer s o full j = cond (send_short s o full j) Crowded (group_send_answer s o j)

unfoldable pub send_store : Store → Answer → Bool → ℕ → Store
send_store s o full j = cond (send_taken s o full j) (sent_store s j) s

unfoldable pub send_places : Store → Answer → Bool → ℕ → ℕ → List ℕ → List ℕ
send_places s o full j a places = cond (send_taken s o full j) (place_filled (entry a (packets (site_in s).sent + 1)) places) places

unfoldable pub send_area : Store → Answer → Bool → ℕ → List ℕ → List ℕ → List ℕ
send_area s o full j places area = cond (send_taken s o full j) (stored area (place 0 places) (packet_of (member_at (site_in s) j).node)) area

abbrev pub group_hear_answer : Store → List ℕ → Answer → ℕ → ℕ → Answer
group_hear_answer s own o j p = first_refusal (site_hear (site_in s) own j p) o

unfoldable pub hear_store : Store → List ℕ → Answer → ℕ → ℕ → Store
hear_store s own o j p = cond (is_done (group_hear_answer s own o j p)) (heard_store s own j p) s

-- the bytes of packet p of number a, by the counts of its site; zeros for a number of no packet
unfoldable pub heard_bytes : List ℕ → List ℕ → List ℕ → ℕ → ℕ → List ℕ
heard_bytes sent places area a p =
    cond (ltb p 1 || ltb (packets sent) p) (replicate packet_size 0) (window packet_size area (packet_size * place (entry a p) places))

-- the common places that are taken, and whether a send looks for one and finds none
unfoldable pub common_in : Memory → ℕ
common_in m = total (map beyond (tab 8 (site_slot_in m)))

abbrev pub common_full : Memory → Event → Bool
common_full m e = is_send e && leb common_share (common_in m)

-- the site at index i of a group's memory, by itself
abbrev pub lone_in : Memory → List ℕ → ℕ → ℕ → OneSite
lone_in m area i a = one_site (store_at m i) (day_at m.table i) a (places_in m.table) area

-- the memory after an event of that site, and after a load at that index
unfoldable pub memory_by : Memory → List ℕ → ℕ → ℕ → Lent → Event → Memory
memory_by m area i a v e =
    let x = lone_in m area i a in
    let s = lent_store_by x (common_full m e) v e in
    memory (store_words m i s) (store_bytes m i s)
    (table_with m.table (places_by x (common_full m e) v e) i (day_by x (common_full m e) v e))

unfoldable pub loaded_by : Memory → ℕ → ℕ → Config → Table → ℕ → List Window → Memory
loaded_by m i a f t D ws =
    let s = timed_loaded_store (store_at m i) f t D ws in
    memory (store_words m i s) (store_bytes m i s)
    (cond (is_done (stored_load_answer (store_at m i) f t D ws)) (table_with m.table (freed a (places_in m.table)) i (first_epoch D))
    m.table)

-- storage of just the length that a site takes
abbrev pub Sized : Store → Type 0
Sized s = (length s.words ≡ words_size) × (length s.bytes ≡ bytes_size)
