-- A number that is written is read back.
-- Assumes nothing.
use mathlib.Core.Path.{◌≡◌, refl, sym, ap, ◌∙◌}
use mathlib.Core.Bool.{Bool, true, false, cond}
use mathlib.Core.List.{List, [], ◌∷◌, ◌++◌, append-nil, append_assoc}
use Prim.Native.Nat.{ℕ, zero, suc, ◌+◌, ◌*◌, ◌/◌, ◌%◌, ◌-◌, ◌≤◌, ◌<◌}
use native.Mathlib.Omega.{arith}
use borrow.Author.Tests.{le-ltb, ltb-true, ltb-false}
use lib.Dec.{ltb}
use lib.ListN.{length, get_or, length-append, get_or-append}
use Rattle.text.specs.Read.{digits_from, number_of}
use Rattle.text.specs.Write.{digits_of, decimal}
use Rattle.std.specs.Prelude.{Some}
use Rattle.text.proofs.Decimal.{tens}
use Rattle.text.proofs.Pieces.{number_digits}

-- one digit
digit : (v d x : ℕ) (r : List ℕ) → d < 10 → v * 10 + d ≡ x → x ≤ 4294967295 → digits_from v ((48 + d) ∷ r) ≡ digits_from x r
unfolding digits_from
digit v d x r h e k =
    let w : v * 10 + (48 + d - 48) ≡ x = omega arith in
    rw (le-ltb (48 + d) 48 (omega arith), le-ltb 57 (48 + d) (omega arith), w, le-ltb 4294967295 x k)

digits-back : (k x : ℕ) (r : List ℕ) → x < tens k → x ≤ 4294967295 → digits_from 0 (digits_of k x ++ r) ≡ digits_from x r
unfolding digits_of tens
digits-back zero x r h m =
    let z : x ≡ 0 = omega arith in
    rw z
digits-back (suc k) x r h m = go (ltb x 10) refl (digits-back k (x / 10) ((48 + x % 10) ∷ r) (omega arith) (omega arith))
  where
    go : (t : Bool) → ltb x 10 ≡ t → digits_from 0 (digits_of k (x / 10) ++ ((48 + x % 10) ∷ r)) ≡ digits_from (x / 10) ((48 + x % 10) ∷ r)
        → digits_from 0 (cond t ((48 + x) ∷ []) (digits_of k (x / 10) ++ ((48 + x % 10) ∷ [])) ++ r) ≡ digits_from x r
    go true e f = digit 0 x x r (ltb-true x 10 e) (omega arith) m
    go false e f = rw (append_assoc (digits_of k (x / 10)) ((48 + x % 10) ∷ []) r)
        (f ∙ digit (x / 10) (x % 10) x r (omega arith) (omega arith) m)

-- the first digit is not 0
leads : (k x : ℕ) → 1 ≤ x → x < tens k → (0 < length (digits_of k x)) × (48 < get_or (digits_of k x) 0 0)
unfolding digits_of tens
leads zero x l h = absurd (omega arith)
leads (suc k) x l h = go (ltb x 10) refl (leads k (x / 10))
  where
    go : (t : Bool) → ltb x 10 ≡ t → (1 ≤ x / 10 → x / 10 < tens k
        → (0 < length (digits_of k (x / 10))) × (48 < get_or (digits_of k (x / 10)) 0 0))
        → (0 < length (cond t ((48 + x) ∷ []) (digits_of k (x / 10) ++ ((48 + x % 10) ∷ []))))
        × (48 < get_or (cond t ((48 + x) ∷ []) (digits_of k (x / 10) ++ ((48 + x % 10) ∷ []))) 0 0)
    go true e f = (omega arith, omega arith)
    go false e f =
        let b : 10 ≤ x = ltb-false x 10 e in
        let p : (0 < length (digits_of k (x / 10))) × (48 < get_or (digits_of k (x / 10)) 0 0) = f (omega arith) (omega arith) in (
          omega (arith, length-append (digits_of k (x / 10)) ((48 + x % 10) ∷ [])),
          rw
              (get_or-append (digits_of k (x / 10)) ((48 + x % 10) ∷ []) 0 0 p.0) p.1,
        )

nonzero : (x : ℕ) → 1 ≤ x → x ≤ 4294967295 → number_of (decimal x) ≡ Some x
unfolding digits_from tens
nonzero x l m =
    let p : (0 < length (decimal x)) × (48 < get_or (decimal x) 0 0) = leads 10 x l (omega arith) in
    number_digits (decimal x) (λ e. omega (arith, e, p.0)) (λ e. omega (arith, e, p.1))
    ∙ ap (digits_from 0) (sym (append-nil (decimal x))) ∙ digits-back 10 x [] (omega arith) m

pub read_back : (x : ℕ) → x ≤ 4294967295 → number_of (decimal x) ≡ Some x
unfolding number_of digits_of
read_back zero m = refl
read_back (suc x) m = nonzero (suc x) (omega arith) m
