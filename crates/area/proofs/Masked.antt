-- The masks of a valid area are those of its schedules.
-- Assumes nothing.
use mathlib.Core.Path.{◌≡◌, refl, sym, ap, ap₂, ◌∙◌, subst}
use mathlib.Core.Bool.{true}
use mathlib.Core.List.{List, [], ◌++◌}
use Prim.Native.Nat.{ℕ, ◌+◌, ◌-◌, ◌≤◌, ◌<◌}
use native.Mathlib.Omega.{arith}
use borrow.Author.Tests.{le-leb}
use lib.Dec.{eqb}
use lib.ListN.{length, get_or, drop}
use Rattle.words.specs.Bits.{word_of, how_many}
use Rattle.words.proofs.Tests.{hit, both}
use Rattle.words.proofs.Laws.{word_of-ext, how_many-ext}
use Rattle.masks.specs.Slots.{Masks}
use Rattle.masks.specs.declared.NodeSlots.{NodeSlots}
use Rattle.masks.specs.Slots.{holds, owners_in, owns, masks_of, well_formed}
use Rattle.masks.specs.Bytes.{masks_size, masks_in, no_own, node_slots_of, own_read}
use Rattle.masks.proofs.Owners.{Sized, made-sized, low-made, high-made, count-made, length-owners}
use Rattle.masks.proofs.Tidy.{ones-holds, made_tidy, held-once, holds-owns, count-owned}
use Rattle.masks.proofs.Rows.{masks-back}
use Rattle.masks.proofs.Counts.{count-is}
use Rattle.allotment.specs.Allotment.{owners_of, owner_of, count}
use Rattle.allotment.specs.Model.{Schedule}
use Rattle.allotment.proofs.Schedules.{owners-made, owner_at}
use Rattle.allotment.specs.InPlace.{held_bytes, held_in}
use Rattle.area.specs.Area.{node_size, at_schedule, at_determined, decoded, valid}
use Rattle.area.specs.Slots.{InMasks, SlotsHeld}
use Rattle.area.proofs.Canon.{schedule-at, determined-at, canonical, lengths}
use Rattle.area.proofs.Valid.{size_of}

-- masks at a place that are those of the schedule that is read there
module _ (a q : List ℕ) (at : ℕ) (e : drop at a ≡ held_bytes (held_in a at) ++ q) where
  m : Masks
  m = masks_in a at

  same : m ≡ masks_of (owners_of (held_in a at))
  unfolding m held_bytes
  same = masks-back (masks_of (owners_of (held_in a at))) (made-sized (owners_of (held_in a at))) a q at e

  neat : well_formed m ≡ true
  neat = ap well_formed same ∙ made_tidy (owners_of (held_in a at))

  whole : Sized m
  whole = subst Sized (sym same) (made-sized (owners_of (held_in a at)))

  listed : owners_of (held_in a at) ≡ owners_in m
  unfolding m held_in
  listed = owners-made (owners_in (masks_in a at))

  -- how many slots of the list a node has
  counters : (i : ℕ) → count (i + 1) (owners_of (held_in a at)) ≡ how_many 80 (owns (owners_in m) i)
  unfolding count
  counters i =
      ap (count (i + 1)) listed ∙ count-is (i + 1) (count (i + 1)) refl (λ x l. refl) (owners_in m)
      ∙ ap (λ (n : ℕ). how_many n (λ k. eqb (get_or (owners_in m) k 0) (i + 1))) (length-owners m)

  pub in-masks : InMasks a at (held_in a at)
  unfolding m
  in-masks =
      record {
        slots = λ i k l b. holds-owns m neat i k l b
            ∙ ap (λ (x : ℕ). eqb x (i + 1)) (ap (λ (x : List ℕ). get_or x k 0) (sym listed) ∙ sym (owner_at (held_in a at) k));
        apart = λ i j k l h b. held-once m neat i j k l h b;
        counted = λ i l. count-owned m neat whole i l
            ∙ how_many-ext 80 (owns (owners_in m) i) (holds m i) (λ k b. sym (holds-owns m neat i k l b)) ∙ sym (ones-holds m whole i l);
        owned = λ i l. count-owned m neat whole i l ∙ sym (counters i);
      }

-- the bytes of the schedule that an area holds, and what is behind them
held_at : (a : List ℕ) → valid a ≡ true → drop at_schedule a ≡ held_bytes (decoded a).schedule ++ held_bytes (decoded a).epoch.determined
held_at a v = ap (drop at_schedule) (sym (canonical a v)) ∙ schedule-at (decoded a) (lengths a)

pub slots-held : SlotsHeld
unfolding decoded
slots-held =
    record {
      schedule = λ a v. in-masks a _ at_schedule (held_at a v);
      determined = λ a v. in-masks a [] at_determined (ap (drop at_determined) (sym (canonical a v)) ∙ determined-at (decoded a) (lengths a));
    }

-- what a schedule gives to node j, in words and in number
abbrev pub given : Schedule → ℕ → NodeSlots
given s j = record {
  low = word_of 64 (λ k. eqb (owner_of s k) j);
  high = word_of 16 (λ k. eqb (owner_of s (64 + k)) j);
  count = how_many 80 (λ k. eqb (owner_of s k) j);
}

-- the masks of a schedule's owners hold of node j what the schedule gives to it
given_is : (s : Schedule) (j : ℕ) → 1 ≤ j → j ≤ 32 → node_slots_of (masks_of (owners_of s)) (j - 1) ≡ given s j
given_is s j l m =
    let o = owners_of s in
    let b : j - 1 < 32 = omega (arith, l, m) in
    let e : j - 1 + 1 ≡ j = omega (arith, l) in
    let same : (k : ℕ) → owns o (j - 1) k ≡ eqb (owner_of s k) j = λ k. ap₂ eqb (sym (owner_at s k)) e in
    let x = low-made o (j - 1) b ∙ word_of-ext 64 (owns o (j - 1)) (λ k. eqb (owner_of s k) j) (λ k _. same k) in
    let y = high-made o (j - 1) b ∙ word_of-ext 16 (λ k. owns o (j - 1) (64 + k)) (λ k. eqb (owner_of s (64 + k)) j) (λ k _. same (64 + k)) in
    let z = count-made o (j - 1) b ∙ how_many-ext 80 (owns o (j - 1)) (λ k. eqb (owner_of s k) j) (λ k _. same k) in
    λ i. record { low = x i; high = y i; count = z i }

-- the masks of an area are those of its schedule's owners
masks-are : (a : List ℕ) → valid a ≡ true → masks_in a at_schedule ≡ masks_of (owners_of (decoded a).schedule)
unfolding decoded m
masks-are a v = same a (held_bytes (decoded a).epoch.determined) at_schedule (held_at a v)

-- what is read of node j in an area: its row of the masks there,
pub own_row : (a : List ℕ) → valid a ≡ true → (j : ℕ) → 1 ≤ j → j ≤ 32 → own_read a at_schedule j ≡ node_slots_of (masks_in a at_schedule) (j - 1)
unfolding own_read
own_row a v j l h =
    let z : length a ≡ node_size = size_of a v in
    hit _ (node_slots_of (masks_in a at_schedule) (j - 1)) no_own
    (both (le-leb (at_schedule + masks_size) (length a) (omega (arith, z))) (both (le-leb 1 j l) (le-leb j 32 h)))

-- which is what the area's schedule gives to it
pub own_is : (a : List ℕ) → valid a ≡ true → (j : ℕ) → 1 ≤ j → j ≤ 32 → own_read a at_schedule j ≡ given (decoded a).schedule j
own_is a v j l h = own_row a v j l h ∙ ap (λ (x : Masks). node_slots_of x (j - 1)) (masks-are a v) ∙ given_is (decoded a).schedule j l h
