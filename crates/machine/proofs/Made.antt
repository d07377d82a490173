-- An array that is made by a call for each index.
-- Assumes nothing.
use mathlib.Core.Path.{◌≡◌, refl, sym, ◌∙◌, subst}
use mathlib.Core.List.{List}
use Prim.Native.Nat.{ℕ, zero, suc, ◌+◌, ◌≤◌, ◌<◌}
use native.Mathlib.Omega.{arith}
use denote.Param.Members.{Mut}
use lib.ListN.{get_or}
use lib.Seq.{ext_get_or}
use Rattle.std.specs.Fn.{Called}
use Rattle.std.specs.Array.{IsFromFnResult, IsFromFnResultFrom}
use Rattle.lists.specs.All.{tab}
use Rattle.lists.proofs.Laws.{length-tab, get_d-tab}

-- each call of f gives h of the index, and leaves f as it was
module _ {F B : Type 0} (g : Mut F (ℕ × Unit {0}) B) (f : F) (h : ℕ → B) (d : B) (N : ℕ)
    (call : (i : ℕ) (y : B) (q : F) → i < N → Called g f (i, tt) y q → (y ≡ h i) × (q ≡ f)) where
  from : (ys : List B) (i n : ℕ) (p : F) → i + n ≤ N → p ≡ f → IsFromFnResultFrom g p ys i n → (k : ℕ) → k < n → get_or ys (i + k) d ≡ h (i + k)
  from ys i zero p m e t k l = absurd (omega (arith, l))
  from ys i (suc n) p m e t zero l =
      let c = call i t.1 t.0 (omega (arith, m)) (subst (λ (x : F). Called g x (i, tt) t.1 t.0) e t.3) in
      let z : i ≡ i + 0 = omega arith in
      subst (λ (j : ℕ). get_or ys j d ≡ h j) z (t.2.1 d ∙ c.0)
  from ys i (suc n) p m e t (suc k) l =
      let c = call i t.1 t.0 (omega (arith, m)) (subst (λ (x : F). Called g x (i, tt) t.1 t.0) e t.3) in
      let z : i + 1 + k ≡ i + suc k = omega arith in
      subst (λ (j : ℕ). get_or ys j d ≡ h j) z (from ys (i + 1) n t.0 (omega (arith, m)) c.1 t.4 k (omega (arith, l)))

  pub made : (ys : List B) → IsFromFnResult g f ys N → ys ≡ tab N h
  made ys r =
      ext_get_or d ys (tab N h) (r.long ∙ sym (length-tab N h))
      (λ i l.
      let j : i < N = omega (arith, l, r.long) in
      let z : 0 + i ≡ i = omega arith in
      subst (λ (x : ℕ). get_or ys x d ≡ h x) z (from ys 0 N f (omega arith) refl r.each i j) ∙ sym (get_d-tab d N h i j))
