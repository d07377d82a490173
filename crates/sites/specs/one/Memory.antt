-- The memory of one site: its storage (crate machine), with the day behind the storage's words.
-- Assumes nothing.
use Rattle.std.specs.Prelude.{Bool, ◌||◌, List, ℕ, ◌+◌, ltb, length, get_or, set}
use Rattle.machine.specs.Layout.{Store, store, words_size, bytes_size}
use Rattle.machine.specs.timed.Stored.{timed_in}
use Rattle.machine.specs.timed.Timed.{Timed}
use Rattle.machine.specs.declared.Day.{Day}
use Rattle.tally.specs.declared.Tally.{Tally}
use Rattle.machine.specs.combined.Kept.{Kept}
use Rattle.machine.specs.combined.Stored.{kept_in}

-- where the epochs of the day stand, and which of them it is; how many words that makes
abbrev pub at_day : ℕ
at_day = words_size

abbrev pub at_epoch : ℕ
at_epoch = words_size + 1

abbrev pub memory_size : ℕ
memory_size = words_size + 2

abbrev pub memory_too_short : Store → Bool
memory_too_short s = ltb (length s.words) memory_size || ltb (length s.bytes) bytes_size

abbrev pub day_in : List ℕ → Day
day_in w = record { length = get_or w at_day 0; epoch = get_or w at_epoch 0 }

abbrev pub day_put : List ℕ → Day → List ℕ
day_put w d = set (set w at_day d.length) at_epoch d.epoch

abbrev pub with_day : Store → Day → Store
with_day s d = store (day_put s.words d) s.bytes

-- the site with its day that memory stands for, and with area and tally
abbrev pub timed_of : Store → Timed
timed_of s = timed_in s (day_in s.words)

abbrev pub kept_of : Store → List ℕ → Tally → Kept
kept_of s area t = kept_in s (day_in s.words) area t
