-- The owners by masks: how many slots a node owns, the ones of its two words that no node before it has; and the owners told of a node.
-- Assumes nothing.
use mathlib.Core.Path.{◌≡◌, sym, ap, ap₂, ◌∙◌}
use mathlib.Core.Bool.{Bool, false, not, cond, ◌&&◌}
use mathlib.Core.List.{List, ◌++◌, append-nil}
use Prim.Native.Nat.{ℕ, ◌+◌, ◌-◌, ◌^◌, ◌≤◌, ◌<◌}
use native.Mathlib.Omega.{arith}
use lib.Bits
use lib.Count.{ones}
use lib.Dec.{eqb, leb}
use lib.ListN.{length, get_or, drop_of_length-le}
use borrow.Author.Tests.{le-leb}
use Rattle.words.specs.Bits.{has_bit, how_many}
use Rattle.words.proofs.Tests.{hit, skip, both}
use Rattle.words.proofs.Laws.{ones-bits, how_many-ext}
use Rattle.masks.specs.Slots.{Masks, low_of, high_of, owners_in, owns}
use Rattle.lists.specs.Bytes.{written}
use Rattle.masks.specs.Air.{owners_to}
use Rattle.masks.specs.Bytes.{masks_size, masks_in, has_room}
use Rattle.masks.specs.Inner.{taken}
use Rattle.masks.proofs.Owners.{length-owners, slot-low, slot-high, holds-low, holds-high}
use Rattle.masks.proofs.Told.{told-all}
use Rattle.allotment.specs.Allotment.{owners_of, owner_of}
use Rattle.allotment.specs.InPlace.{held_in}
use Rattle.allotment.specs.Model.{Schedule}
use Rattle.allotment.proofs.Schedules.{owners-made, owner_at}
use Rattle.allotment.proofs.OwnSlots.{own-bit, own-lt, owns-own}
use Rattle.allotment.proofs.TwoWords.{count-cat}
use Rattle.machine.specs.Acts.{no_node_at}
use Rattle.machine.specs.Layout.{Store, schedules_at}
use Rattle.machine.specs.Loading.{member_read, node_owners_written}
use Rattle.machine.proofs.Whole.{at_place, schedule-read}

-- the ones of a word that another has not are as many as pass a test that says so
own-ones : (n w t : ℕ) (p : ℕ → Bool) → w < 2 ^ n → t < 2 ^ n → ((k : ℕ) → k < n → p k ≡ (has_bit w k && not (has_bit t k)))
    → ones (Bits.bit_xor w (Bits.bit_and w t)) ≡ how_many n p
own-ones n w t p h g e =
    ones-bits n (Bits.bit_xor w (Bits.bit_and w t)) (own-lt n w t h g)
    ∙ how_many-ext n (has_bit (Bits.bit_xor w (Bits.bit_and w t))) p (λ k l. own-bit w t k ∙ sym (e k l))

pub own-count : (m : Masks) (i a b x y : ℕ) → i < 32 → a ≡ low_of m i → b ≡ high_of m i → x ≡ taken m.low i → y ≡ taken m.high i
    → a < 2 ^ 64 → x < 2 ^ 64 → b < 2 ^ 16 → y < 2 ^ 16
    → ones (Bits.bit_xor a (Bits.bit_and a x)) + ones (Bits.bit_xor b (Bits.bit_and b y)) ≡ how_many 80 (owns (owners_in m) i)
own-count m i a b x y l p q r s ha hx hb hy =
    ap₂ ◌+◌
    (own-ones 64 a x (owns (owners_in m) i) ha hx
    (λ k g. owns-own m i l k (omega (arith, g)) ∙ both (holds-low m i k g ∙ ap (λ (w : ℕ). has_bit w k) (sym p))
    (ap not (slot-low (taken m.low i) (taken m.high i) k g ∙ ap (λ (w : ℕ). has_bit w k) (sym r)))))
    (own-ones 16 b y (λ k. owns (owners_in m) i (64 + k)) hb hy
    (λ k g. owns-own m i l (64 + k) (omega (arith, g)) ∙ both (holds-high m i k ∙ ap (λ (w : ℕ). has_bit w k) (sym q))
    (ap not (slot-high (taken m.low i) (taken m.high i) k ∙ ap (λ (w : ℕ). has_bit w k) (sym s)))))
    ∙ sym (count-cat 64 16 (owns (owners_in m) i))

-- the owners of a schedule that is held as masks
pub owners-are : (l : List ℕ) (at : ℕ) {s : Schedule} → s ≡ held_in l at → owners_of s ≡ owners_in (masks_in l at)
unfolding held_in
owners-are l at h = ap owners_of h ∙ owners-made (owners_in (masks_in l at))

-- and how many of them are node j
pub slots-are : (l : List ℕ) (at i j : ℕ) {s : Schedule} → i + 1 ≡ j → s ≡ held_in l at
    → how_many 80 (owns (owners_in (masks_in l at)) i) ≡ how_many 80 (λ k. eqb (owner_of s k) j)
slots-are l at i j e h =
    how_many-ext 80 _ _ (λ k g. sym (ap₂ eqb (owner_at _ k ∙ ap (λ (o : List ℕ). get_or o k 0) (owners-are l at h)) (sym e)))

-- the owners of all nodes, told from masks that have room
pub told-as : (l : List ℕ) (at : ℕ) (out : List ℕ) (to : ℕ) {s : Schedule} → at + masks_size ≤ length l → s ≡ held_in l at
    → cond (has_room l at && leb (to + 80) (length out)) (written out to (owners_to (masks_in l at) 32)) out
    ≡ cond (leb (to + 80) (length out)) (written out to (owners_of s)) out
told-as l at out to r h =
    ap₂ (λ (t : Bool) (o : List ℕ). cond (t && leb (to + 80) (length out)) (written out to o) out) (le-leb _ _ r)
    (told-all (masks_in l at) ∙ sym (owners-are l at h))

-- told over a list of 80, they are that list
pub told-whole : (s : Store) (j : ℕ) (out : List ℕ) → length out ≡ 80 → no_node_at s j ≡ false
    → node_owners_written s j out 0 ≡ owners_of (member_read s j).node.schedule
unfolding node_owners_written
told-whole s j out e p =
    let h = at_place s j p in
    let o = owners_of (member_read s j).node.schedule in
    let k : length o ≡ 80 = ap length (owners-are s.bytes (schedules_at (j - 1)) (schedule-read s j h.0 h.1.0 h.1.1 (j - 1)
    (λ i. j - 1))) ∙ length-owners (masks_in s.bytes (schedules_at (j - 1))) in
    let f : length out ≤ 0 + length o = omega (arith, e, k) in
    let r : 0 + 80 ≤ length out = omega (arith, e) in
    skip _ _ _ _ p (hit _ _ _ (le-leb _ _ r))
    ∙ ap (λ (t : List ℕ). o ++ t) (drop_of_length-le out f) ∙ append-nil o
