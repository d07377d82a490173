-- A schedule as the bytes of its masks: what was written is read back, and bytes that are alike hold the same schedule.
-- Assumes nothing.
use mathlib.Core.Path.{◌≡◌, sym, ap, ap₂, ◌∙◌}
use mathlib.Core.List.{List, ◌++◌, append_assoc}
use Prim.Native.Nat.{ℕ, ◌+◌, ◌*◌, ◌≤◌, ◌<◌}
use native.Mathlib.Omega.{arith}
use lib.ListN.{length, get_or, take, drop}
use lib.Seq.{drop_at, length-take-le}
use Rattle.lists.specs.Bytes.{word32, written}
use Rattle.lists.proofs.Laws.{tab-ext, get_d-zeros}
use Rattle.masks.specs.Slots.{Masks}
use Rattle.masks.specs.Slots.{owners_in, masks_of}
use Rattle.masks.specs.Bytes.{word64, word16, masks_size, at_high, at_held, masks_bytes, masks_in, no_slots}
use Rattle.masks.proofs.Rows.{length-masks, masks-back}
use Rattle.masks.proofs.Owners.{made-sized}
use Rattle.masks.proofs.Owners as owners
use Rattle.masks.proofs.Moves.{none-bytes}
use Rattle.allotment.specs.Allotment.{owners_of, schedule_of, free, next}
use Rattle.allotment.specs.InPlace.{held_bytes, held_in}
use Rattle.allotment.specs.Model.{Schedule}
use Rattle.allotment.proofs.Laws.{owner-range, length-next}
use Rattle.allotment.proofs.Schedules.{owner_at, owners-free, length-free}
use Rattle.allotment.proofs.Schedules as schedules

pub length-held : (s : Schedule) → length (held_bytes s) ≡ masks_size
unfolding held_bytes
length-held s = length-masks (masks_of (owners_of s))

-- that of no owners is all 0
pub free_bytes : held_bytes free ≡ no_slots
unfolding held_bytes
free_bytes = ap (λ (o : List ℕ). masks_bytes (masks_of o)) owners-free ∙ none-bytes

-- a schedule whose owners are numbers of nodes comes back from its bytes
pub held_back : (s : Schedule) → length (owners_of s) ≡ 80 → ((k : ℕ) → k < 80 → get_or (owners_of s) k 0 ≤ 32) → (a q : List ℕ) (at : ℕ)
    → drop at a ≡ held_bytes s ++ q → held_in a at ≡ s
unfolding held_bytes held_in
held_back s l h a q at e =
    ap (λ (m : Masks). schedule_of (owners_in m)) (masks-back (masks_of (owners_of s)) (made-sized (owners_of s)) a q at e)
    ∙ ap schedule_of (owners.owners-made (owners_of s) l h) ∙ schedules.made_again s

-- and from where it was written
pub held-written : (s : Schedule) → length (owners_of s) ≡ 80 → ((k : ℕ) → k < 80 → get_or (owners_of s) k 0 ≤ 32) → (l : List ℕ) (at : ℕ)
    → at ≤ length l → held_in (written l at (held_bytes s)) at ≡ s
held-written s n h l at r =
    let b = held_bytes s in
    let t = drop (at + length b) l in
    held_back s n h (written l at b) t at
    (ap (drop at) (append_assoc (take at l) b t) ∙ drop_at (take at l) (b ++ t) at (length-take-le at l r))

pub free-held : (l : List ℕ) (at : ℕ) → at ≤ length l → held_in (written l at no_slots) at ≡ free
free-held l at r =
    ap (λ (b : List ℕ). held_in (written l at b) at) (sym free_bytes)
    ∙ held-written free length-free (λ k h. omega (arith, ap (λ (o : List ℕ). get_or o k 0) owners-free ∙ get_d-zeros 80 k)) l at r

pub next-held : (s : Schedule) (m : ℕ) (R : List ℕ) (N K : ℕ) (l : List ℕ) (at : ℕ) → at ≤ length l
    → held_in (written l at (held_bytes (next s m R N K))) at ≡ next s m R N K
next-held s m R N K = held-written (next s m R N K) (length-next s m R N K)
    (λ k h. omega (arith, owner_at (next s m R N K) k, owner-range s m R N K k))

-- bytes that are alike hold the same schedule, well formed or not
module _ (l m : List ℕ) (at to : ℕ) (e : (k : ℕ) → k < masks_size → get_or l (at + k) 0 ≡ get_or m (to + k) 0) where
  byte : (p q k : ℕ) → p ≡ at + k → q ≡ to + k → k < masks_size → get_or l p 0 ≡ get_or m q 0
  byte p q k x y h = ap (λ (i : ℕ). get_or l i 0) x ∙ e k h ∙ ap (λ (i : ℕ). get_or m i 0) (sym y)

  word : (p q k : ℕ) → p ≡ at + k → q ≡ to + k → k + 4 ≤ masks_size → word32 l p ≡ word32 m q
  word p q k x y h =
      let a = byte p q k x y (omega arith) in
      let b = byte (p + 1) (q + 1) (k + 1) (omega arith) (omega arith) (omega arith) in
      let c = byte (p + 2) (q + 2) (k + 2) (omega arith) (omega arith) (omega arith) in
      let d = byte (p + 3) (q + 3) (k + 3) (omega arith) (omega arith) (omega arith) in
      λ i. a i * 16777216 + b i * 65536 + c i * 256 + d i

  alike : masks_in l at ≡ masks_in m to
  unfolding masks_in
  alike =
      let low = tab-ext 32 (λ i. word64 l (at + 8 * i)) (λ i. word64 m (to + 8 * i)) (λ i h.
      ap₂ (λ (u v : ℕ). u * 4294967296 + v) (word (at + 8 * i) (to + 8 * i) (8 * i) (omega arith) (omega arith) (omega arith))
      (word (at + 8 * i + 4) (to + 8 * i + 4) (8 * i + 4) (omega arith) (omega arith) (omega arith))) in
      let high = tab-ext 32 (λ i. word16 l (at + at_high + 2 * i)) (λ i. word16 m (to + at_high + 2 * i)) (λ i h.
      ap₂ (λ (u v : ℕ). u * 256 + v)
      (byte (at + at_high + 2 * i) (to + at_high + 2 * i) (at_high + 2 * i) (omega arith) (omega arith) (omega arith))
      (byte (at + at_high + 2 * i + 1) (to + at_high + 2 * i + 1) (at_high + 2 * i + 1) (omega arith) (omega arith) (omega arith))) in
      let counts = tab-ext 32 (λ i. get_or l (at + at_held + i) 0) (λ i. get_or m (to + at_held + i) 0) (λ i h.
      byte (at + at_held + i) (to + at_held + i) (at_held + i) (omega arith) (omega arith) (omega arith)) in
      λ i. record { low = low i; high = high i; counts = counts i }

  pub held-alike : held_in l at ≡ held_in m to
  unfolding held_in
  held-alike = ap (λ (x : Masks). schedule_of (owners_in x)) alike
