use mathlib.Core.Bool.{Bool, true, false}
use mathlib.Core.List.{List}
use mathlib.Core.Path.{◌≡◌, refl, sym, ap, ◌∙◌}
use Prim.Native.Nat.{ℕ, ◌+◌, ◌-◌, ◌*◌, ◌≤◌, ◌<◌, min}
use native.Mathlib.Omega.{arith}
use borrow.Author.Tests.{leb-true, leb-false}
use lib.Dec.{leb}
use lib.ListN.{length, take, drop, length-drop, drop_of_length-le}
use lib.Seq.{take_all}
use Rattle.wire.specs.Layout.{packet_size}
use Rattle.wire.proofs.part_at.Goals as goal

-- what is behind a place, or behind the end
tail : (l : List ℕ) (a x : ℕ) → x ≡ min (length l) a → drop x l ≡ drop a l
tail l a x e = go (leb a (length l)) refl
  where
    go : (t : Bool) → leb a (length l) ≡ t → drop x l ≡ drop a l
    go true f =
        let h : a ≤ length l = leb-true a (length l) f in
        let k : x ≡ a = omega arith in
        ap (λ (i : ℕ). drop i l) k
    go false f =
        let h : length l < a = leb-false a (length l) f in
        drop_of_length-le l {i = x} (omega arith) ∙ sym (drop_of_length-le l {i = a} (omega arith))

-- a part that both ends are kept within the list for
cut : (l : List ℕ) (a n x y : ℕ) → x ≡ min (length l) a → y ≡ min (length l) (a + n) → take (y - x) (drop x l) ≡ take n (drop a l)
cut l a n x y e f = ap (take (y - x)) (tail l a x e) ∙ go (leb (a + n) (length l)) refl
  where
    go : (t : Bool) → leb (a + n) (length l) ≡ t → take (y - x) (drop a l) ≡ take n (drop a l)
    go true g =
        let h : a + n ≤ length l = leb-true (a + n) (length l) g in
        let k : y - x ≡ n = omega arith in
        ap (λ (i : ℕ). take i (drop a l)) k
    go false g =
        let h : length l < a + n = leb-false (a + n) (length l) g in
        let d : length (drop a l) ≡ length l - a = length-drop a l in
        take_all (y - x) (drop a l) (omega arith) ∙ sym (take_all n (drop a l) (omega arith))

pub returns : goal.returns
returns c =
    let l = c.args.area.now in
    cut l (packet_size * c.args.index) packet_size c.min-a.result c.min-e.result
    (c.min-a.ensures ∙ ap (min (length l)) c.part_start.ensures)
    (c.min-e.ensures ∙ ap (λ (k : ℕ). min (length l) (k + packet_size)) c.part_start-2.ensures)
