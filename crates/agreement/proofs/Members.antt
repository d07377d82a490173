-- A claim of each live member, and the search for a live one.
-- Assumes nothing.
use mathlib.Core.Path.{◌≡◌, refl, sym, ap, ◌∙◌}
use mathlib.Core.Bool.{Bool, true, false, ◌&&◌}
use mathlib.Core.Logic.{◌⊎◌, inl, inr}
use mathlib.Core.List.{List, [], ◌∷◌}
use Prim.Native.Nat.{ℕ, zero, suc}
use lib.ListN.{get_or}
use Rattle.words.proofs.Tests.{met?, clash, and_left, and_right}
use Rattle.node.specs.Model.{Node}
use Rattle.site.specs.Members.{nobody, is_live}
use Rattle.site.specs.Model.{Member}

-- P of the node at index i, if it is live
pub record Each (P : ℕ → Node → Type 0) (i : ℕ) (m : Member) : Type 0 where
  pub live : is_live m ≡ true → P i m.node

pub each_none : {P : ℕ → Node → Type 0} {i : ℕ} (m : Member) → is_live m ≡ false → Each P i m
each_none m e = record { live = λ l. clash (is_live m) l e }

pub each_at : {P : ℕ → Node → Type 0} {i : ℕ} {m n : Member} → m ≡ n → Each P i n → Each P i m
each_at e h = rw e h

-- a live node that passes a test
pub record Found (t : Node → Bool) (l : List Member) : Type 0 where
  pub i : ℕ
  pub live : is_live (get_or l i nobody) ≡ true
  pub yes : t (get_or l i nobody).node ≡ true

-- not one
pub record Miss (t : Node → Bool) (m : Member) : Type 0 where
  pub no : is_live m ≡ true → t m.node ≡ false

found-on : {t : Node → Bool} {x : Member} {l : List Member} → Found t l → Found t (x ∷ l)
found-on r = record { i = suc r.i; live = r.live; yes = r.yes }

pub scan : (t : Node → Bool) (l : List Member) → Found t l ⊎ ((i : ℕ) → Miss t (get_or l i nobody))
scan t [] = inr (λ i. record { no = λ e. clash false e refl })
scan t (m ∷ l) = go (met? (is_live m && t m.node)) (scan t l)
  where
    rest : (is_live m && t m.node) ≡ false → ((i : ℕ) → Miss t (get_or l i nobody)) → (i : ℕ) → Miss t (get_or (m ∷ l) i nobody)
    rest e r zero = record { no = λ y. sym (ap (λ (b : Bool). b && t m.node) y) ∙ e }
    rest e r (suc k) = r k

    go : ((is_live m && t m.node) ≡ true) ⊎ ((is_live m && t m.node) ≡ false) → Found t l ⊎ ((i : ℕ) → Miss t (get_or l i nobody))
        → Found t (m ∷ l) ⊎ ((i : ℕ) → Miss t (get_or (m ∷ l) i nobody))
    go (inl e) r = inl (record { i = 0; live = and_left _ _ e; yes = and_right (is_live m) _ e })
    go (inr e) (inl r) = inl (found-on r)
    go (inr e) (inr r) = inr (rest e r)
