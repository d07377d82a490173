-- The area as a site alone would have it: in the part of each of its packets lies what lies in that packet's place.
-- Assumes nothing.
use mathlib.Core.Path.{◌≡◌, refl, sym, ap, ◌∙◌}
use mathlib.Core.List.{List, ◌++◌, append_assoc}
use Prim.Native.Nat.{ℕ, zero, suc, ◌+◌, ◌-◌, ◌*◌, ◌≤◌, ◌<◌}
use native.Mathlib.Omega.{arith}
use lib.ListN.{length, replicate, take, length-append, length-replicate}
use lib.Seq.{take_at, drop_at}
use Rattle.words.proofs.Tests.{same_or_not}
use Rattle.lists.proofs.Laws.{length-tab, window-span}
use Rattle.wire.specs.Layout.{packet_size}
use Rattle.wire.specs.Reads.{part_of}
use Rattle.site.specs.Answers.{area_size}
use Rattle.group.specs.Places.{top_places}
use Rattle.group.specs.Group.{Group, packet_place, part_at, parts_of, own_area}

module _ (g : Group) (a : ℕ) where
  length-parts : (n : ℕ) → length (parts_of (part_at g a) n) ≡ packet_size * n
  unfolding parts_of
  length-parts zero = refl
  length-parts (suc n) =
      let w : length (part_at g a (n + 1)) ≡ packet_size = length-tab packet_size _ in
      let r = length-parts n in
      let e = length-append (parts_of (part_at g a) n) (part_at g a (n + 1)) in
      omega arith

  -- the part of an index, whatever stands behind
  part-at : (n p : ℕ) (z : List ℕ) → p < n → part_of (parts_of (part_at g a) n ++ z) p ≡ part_at g a (p + 1)
  unfolding parts_of
  part-at zero p z l = absurd (omega arith)
  part-at (suc n) p z l =
      ap (λ (x : List ℕ). part_of x p) (append_assoc (parts_of (part_at g a) n) (part_at g a (n + 1)) z)
      ∙ same_or_not p n
      (λ e.
      let k : length (parts_of (part_at g a) n) ≡ packet_size * p = omega (arith, length-parts n) in
      ap (take packet_size) (drop_at (parts_of (part_at g a) n) (part_at g a (n + 1) ++ z) (packet_size * p) k)
      ∙ take_at (part_at g a (n + 1)) z packet_size (length-tab packet_size _)
      ∙ ap (λ (i : ℕ). part_at g a (i + 1)) (sym e))
      (λ e. part-at n p (part_at g a (n + 1) ++ z) (omega arith))

  pub own-part : (n p : ℕ) → p < n → part_of (own_area g a n) p ≡ part_at g a (p + 1)
  unfolding own_area
  own-part n p l = part-at n p _ l

  pub own-long : (n : ℕ) → area_size ≤ length (own_area g a n)
  unfolding own_area
  own-long n =
      let z : List ℕ = replicate (area_size - packet_size * n) 0 in
      let e = length-append (parts_of (part_at g a) n) z in
      let r : length z ≡ area_size - packet_size * n = length-replicate (area_size - packet_size * n) 0 in
      omega (arith, length-parts n)

  -- the bytes of a place are a part of the lent area
  pub place-part : (p : ℕ) → area_size ≤ length g.area → packet_place g a p < top_places → part_at g a p
      ≡ part_of g.area (packet_place g a p)
  place-part p l h = window-span packet_size g.area (packet_size * packet_place g a p) (omega arith)
