-- Specification, 3.9: a group in lent memory, and the group that it stands for, whatever it holds. Words and bytes hold
-- the storage of eight sites, one behind another (crate machine). The table holds the 256 places, and then three words
-- for each number: 1 where a site is loaded, D, and which epoch of the day it is. Memory that is too short stands for a
-- group in which nothing is loaded.
-- Assumes nothing.
use Rattle.std.specs.Prelude.{Bool, not, cond, ◌&&◌, ◌||◌, List, ℕ, ◌+◌, ◌-◌, ◌*◌, ltb, eqb, length, get_or, set, take}
use Rattle.lists.specs.All.{tab}
use Rattle.lists.specs.Bytes.{span, written}
use Rattle.node.specs.Answers.{Answer}
use Rattle.node.specs.Answers.{Done, NoSuchNode, NoRoom}
use Rattle.machine.specs.Layout.{Store, store, words_size, bytes_size}
use Rattle.machine.specs.timed.Stored.{timed_in}
use Rattle.machine.specs.declared.Day.{Day}
use Rattle.windows.specs.declared.Window.{Window}
use Rattle.tally.specs.declared.Tally.{Tally}
use Rattle.group.specs.Places.{top_places}
use Rattle.group.specs.Group.{SiteSlot, Empty, Taken, Group, vacant, is_number}

-- the lent memory of a group beside its packet area
pub record Memory : Type 0 where
  pub words : List ℕ
  pub bytes : List ℕ
  pub table : List ℕ

abbrev pub memory : List ℕ → List ℕ → List ℕ → Memory
memory w b t = record { words = w; bytes = b; table = t }

-- what an event is lent beside them: windows, the tally of its number, and an output for reports
pub record Lent : Type 0 where
  pub windows : List Window
  pub tally : Tally
  pub out : List ℕ

abbrev pub lent : List Window → Tally → List ℕ → Lent
lent ws t out = record { windows = ws; tally = t; out = out }

abbrev pub table_size : ℕ
table_size = 280

abbrev pub group_too_short : Memory → Bool
group_too_short m = ltb (length m.words) (8 * words_size) || (ltb (length m.bytes) (8 * bytes_size) || ltb (length m.table) table_size)

-- the storage of the site at index i
abbrev pub store_at : Memory → ℕ → Store
store_at m i = store (span m.words (words_size * i) words_size) (span m.bytes (bytes_size * i) bytes_size)

-- where the three words of that site stand, and what they say
abbrev pub site_slot_at : ℕ → ℕ
site_slot_at i = top_places + 3 * i

abbrev pub is_taken : List ℕ → ℕ → Bool
is_taken t i = eqb (get_or t (site_slot_at i) 0) 1

abbrev pub day_at : List ℕ → ℕ → Day
day_at t i = record { length = get_or t (site_slot_at i + 1) 0; epoch = get_or t (site_slot_at i + 2) 0 }

unfoldable pub site_slot_in : Memory → ℕ → SiteSlot
site_slot_in m i = cond (is_taken m.table i) (Taken (timed_in (store_at m i) (day_at m.table i))) Empty

-- a number at which a site is loaded
unfoldable pub is_loaded : Memory → ℕ → Bool
is_loaded m a = is_number a && (not (group_too_short m) && is_taken m.table (a - 1))

-- what is said of a number: 15 for memory that is too short, 3 where no site is loaded
unfoldable pub loaded_answer : Memory → ℕ → Answer
loaded_answer m a = cond (is_loaded m a) Done (cond (is_number a && group_too_short m) NoRoom NoSuchNode)

-- the entries of the places
abbrev pub places_in : List ℕ → List ℕ
places_in t = take top_places t

-- the group
unfoldable pub group_in : Memory → List ℕ → Group
group_in m area = cond (group_too_short m) (vacant area)
    (record { site_slots = tab 8 (site_slot_in m); places = places_in m.table; area = area })

-- other storage for the site at index i, and no other word or byte changed
abbrev pub store_words : Memory → ℕ → Store → List ℕ
store_words m i s = written m.words (words_size * i) s.words

abbrev pub store_bytes : Memory → ℕ → Store → List ℕ
store_bytes m i s = written m.bytes (bytes_size * i) s.bytes

-- the site at index i is loaded and has this day, and no other word changed
abbrev pub site_slot_taken : List ℕ → ℕ → Day → List ℕ
site_slot_taken t i d = set (set (set t (site_slot_at i) 1) (site_slot_at i + 1) d.length) (site_slot_at i + 2) d.epoch

-- other entries of the places, with that
abbrev pub table_with : List ℕ → List ℕ → ℕ → Day → List ℕ
table_with t places i d = site_slot_taken (written t 0 places) i d
