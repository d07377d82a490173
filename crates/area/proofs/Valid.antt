-- Valid areas, and an area as it is read.
-- Assumes nothing.
use mathlib.Core.Path.{◌≡◌, refl, sym, ap}
use mathlib.Core.Bool.{Bool, true, false, cond, ◌&&◌}
use mathlib.Core.List.{List}
use Prim.Native.Nat.{ℕ}
use borrow.Author.Tests.{eq-eqb, ne_eqb, eqb-true}
use lib.Dec.{eqb}
use lib.ListN.{length}
use Rattle.lists.specs.All.{same}
use Rattle.words.proofs.Tests.{and_left, and_right}
use Rattle.node.specs.Core.{core_of}
use Rattle.range.specs.Range.{in_range}
use Rattle.area.specs.Area.{node_size, decoded, encoded, valid}
use Rattle.area.specs.Steps.{area_read}
use Rattle.node.specs.declared.Core.{Core}
use Rattle.std.specs.Prelude.{◌≢◌, Option, Some, None, is_some}
use Rattle.std.proofs.lemmas.Option.{none-some, same_Some}

-- an area of its length is valid where its node is within the ranges and these are its bytes
pub right-size : (a : List ℕ) → length a ≡ node_size → (in_range (decoded a) && same (encoded (decoded a)) a) ≡ valid a
unfolding valid
right-size a h = sym (ap (λ (t : Bool). t && (in_range (decoded a) && same (encoded (decoded a)) a)) (eq-eqb _ _ h))

-- a valid area has its length, and its node is within the ranges
pub size_of : (a : List ℕ) → valid a ≡ true → length a ≡ node_size
unfolding valid
size_of a v = eqb-true _ _ (and_left (eqb (length a) node_size) (in_range (decoded a) && same (encoded (decoded a)) a) v)

pub range-of : (a : List ℕ) → valid a ≡ true → in_range (decoded a) ≡ true
unfolding valid
range-of a v = and_left (in_range (decoded a)) (same (encoded (decoded a)) a)
    (and_right (eqb (length a) node_size) (in_range (decoded a) && same (encoded (decoded a)) a) v)

-- an area is read where it is valid alone, and gives its node then
pub opened-ok : (a : List ℕ) → is_some (area_read a) ≡ valid a
opened-ok a = go (valid a)
  where
    go : (t : Bool) → is_some (cond t (Some (core_of (decoded a))) None) ≡ t
    go true = refl
    go false = refl

pub opened-core : (a : List ℕ) (c : Core) → area_read a ≡ Some c → c ≡ core_of (decoded a)
opened-core a c e = go (valid a) e
  where
    go : (t : Bool) → cond t (Some (core_of (decoded a))) None ≡ Some c → c ≡ core_of (decoded a)
    go true f = sym (same_Some _ _ f)
    go false f = absurd (none-some _ f)

-- an area of another length is none
pub unsized : (a : List ℕ) → length a ≢ node_size → None ≡ area_read a
unfolding valid
unsized a h =
    sym (ap (λ (t : Bool). cond (t && (in_range (decoded a) && same (encoded (decoded a)) a)) (Some (core_of (decoded a))) None) (ne_eqb _ _ h))
