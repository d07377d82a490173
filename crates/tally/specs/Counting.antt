-- Specification, 3.8 Slots held: the tally, what an epoch adds to it, and which tallies are refused as 14.
-- Assumes nothing.
use Rattle.std.specs.Prelude.{Bool, not, cond, ◌&&◌, List, ℕ, ◌+◌, ◌*◌, eqb, ltb, leb, get_or, replicate}
use Rattle.words.specs.Bits.{digit}
use Rattle.lists.specs.All.{all_below, tab}
use Rattle.allotment.specs.Allotment.{top_slots}
use Rattle.allotment.specs.Model.{Schedule}
use Rattle.tally.specs.Claims.{held_by, sum, claimed}
use Rattle.tally.specs.declared.Tally.{Tally}

-- the most epochs that a tally counts
abbrev pub top_epochs : ℕ
top_epochs = 100000

-- set anew: the epoch that begins with the load is the first one, and nobody holds a slot in it
abbrev pub first_tally : Tally
first_tally = record { epochs = 1; total = 0; slots = replicate 32 0; held = replicate 32 0 }

-- of the node at index i: the slots that it held, and in how many epochs it held any
abbrev pub slots_at : Tally → ℕ → ℕ
slots_at t i = get_or t.slots i 0

abbrev pub held_at : Tally → ℕ → ℕ
held_at t i = get_or t.held i 0

-- the node at index i held slots in no more epochs than were counted, and on average no more than 80 in each of these
abbrev pub tally_entry_ok : Tally → ℕ → Bool
tally_entry_ok t i = leb (held_at t i) t.epochs && leb (slots_at t i) (top_slots * held_at t i)

-- what is not refused as 14: each entry so, and the total is the nodes' sum
unfoldable pub tally_ok : Tally → Bool
tally_ok t = leb t.epochs top_epochs && (all_below 32 (tally_entry_ok t) && eqb t.total (sum 32 (slots_at t)))

-- 100,000 epochs are counted
abbrev pub tally_full : Tally → Bool
tally_full t = eqb t.epochs top_epochs

-- one epoch more, from the schedules with which it begins; the total grows by the slots summed slot by slot
unfoldable pub added : Tally → List Schedule → Tally
added t l =
    record {
      epochs = t.epochs + 1;
      total = t.total + claimed l;
      slots = tab 32 (λ i. slots_at t i + held_by l i);
      held = tab 32 (λ i. held_at t i + digit (ltb 0 (held_by l i)));
    }

-- a full tally stays as it is, and so does one that is refused
unfoldable pub epoch_counted : Tally → List Schedule → Tally
epoch_counted t l = cond (tally_ok t && not (tally_full t)) (added t l) t

-- the same from how many slots each node holds, by node: law `counted-by` (proofs/Valid)
unfoldable pub added_by : Tally → List ℕ → Tally
added_by t h =
    record {
      epochs = t.epochs + 1;
      total = t.total + sum 32 (λ i. get_or h i 0);
      slots = tab 32 (λ i. slots_at t i + get_or h i 0);
      held = tab 32 (λ i. held_at t i + digit (ltb 0 (get_or h i 0)));
    }

unfoldable pub counted_by : Tally → List ℕ → Tally
counted_by t h = cond (tally_ok t && not (tally_full t)) (added_by t h) t
