-- Bytes counted, from the front.
-- Assumes nothing.
use mathlib.Core.Path.{◌≡◌, refl, sym, ap, ◌∙◌, subst}
use Rattle.std.specs.Prelude.{count_by}
use Rattle.std.proofs.lemmas.List.Recursion.{is_count_by}
use mathlib.Core.Bool.{Bool, true, false, cond}
use mathlib.Core.List.{List, [], ◌∷◌}
use Prim.Native.Nat.{ℕ, ◌+◌, ◌-◌, ◌≤◌}
use native.Mathlib.Omega.{arith}
use native.Mathlib.Numerals.{add-one}
use lib.Dec.{eqb}
use lib.ListN.{length, get_or, take, drop, drop_of_length-le}
use lib.Seq.{drop-cons}
use Rattle.text.specs.Read.{before}
use Rattle.text.proofs.Pieces.{behind, behind-is}
use Rattle.why.specs.Refused.{one, byte_count, under, refused_in}

-- the bytes that std counts
pub counts : (c : ℕ) (s : List ℕ) → byte_count c s ≡ count_by (λ b. eqb b c) s
unfolding byte_count
counts c s = is_count_by (byte_count c) (λ b. eqb b c) refl (λ b r. go (eqb b c) (byte_count c r)) s
  where
    go : (t : Bool) (n : ℕ) → cond t 1 0 + n ≡ cond t (1 + n) n
    go true n = refl
    go false n = omega arith

one-le : (c b : ℕ) → one c b ≤ 1
one-le c b = go (eqb b c)
  where
    go : (t : Bool) → cond t 1 0 ≤ 1
    go true = omega arith
    go false = omega arith

-- what is `one` of two bytes
pub small : (r c b : ℕ) → r ≡ one c b → r ≤ 1
small r c b e = subst (λ (k : ℕ). k ≤ 1) (sym e) (one-le c b)

-- what `refused_lines` finds, step by step, is the definition's number
pub counted : (l : List ℕ) (h e n : ℕ) → h ≡ before 10 l → e ≡ before 110 (behind h l) → n ≡ byte_count 10 (take e (behind h l)) → n - 1
    ≡ refused_in l
unfolding refused_in
counted l h e n p q r =
    let u : behind h l ≡ under l = behind-is h l ∙ ap (λ (k : ℕ). drop k l) p in
    let v : take e (behind h l) ≡ take (before 110 (behind h l)) (behind h l) = ap (λ (k : ℕ). take k (behind h l)) q in
    let w : n ≡ byte_count 10 (take (before 110 (under l)) (under l)) = r ∙ ap (byte_count 10) v
    ∙ ap (λ (x : List ℕ). byte_count 10 (take (before 110 x) x)) u in
    ap (λ (k : ℕ). k - 1) w
