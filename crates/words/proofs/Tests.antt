-- Laws of tests: cases on a test, a choice by a test, and tests joined by `and` and `or`.
-- Assumes nothing.
use mathlib.Core.Path.{◌≡◌, refl, sym, ap, ap₂, ◌∙◌}
use mathlib.Core.Bool.{Bool, true, false, cond, not, ◌&&◌, ◌||◌, true≢false}
use mathlib.Core.Logic.{◌⊎◌, inl, inr, ◌≢◌}
use Prim.Native.Nat.{ℕ}
use lib.Dec.{eqb}
use borrow.Author.Tests.{eqb-true, eqb-false}

-- nothing is both true and false
pub never : {A : Type 0} → true ≡ false → A
never e = absurd (true≢false e)

pub clash : {A : Type 0} (t : Bool) → t ≡ true → t ≡ false → A
clash t e f = never (sym e ∙ f)

-- a test is met or not
pub met? : (t : Bool) → (t ≡ true) ⊎ (t ≡ false)
met? true = inl refl
met? false = inr refl

-- by cases on a test
pub by-test : {A : Type 0} (P : A → Type 0) (t : Bool) (a b : A) → (t ≡ true → P a) → (t ≡ false → P b) → P (cond t a b)
by-test P true a b p q = p refl
by-test P false a b p q = q refl

-- two numbers are the same, or not
pub same_or_not : {P : Type 0} (i j : ℕ) → (i ≡ j → P) → (i ≢ j → P) → P
same_or_not {P} i j p q = go (eqb i j) refl
  where
    go : (t : Bool) → eqb i j ≡ t → P
    go true e = p (eqb-true i j e)
    go false e = q (eqb-false i j e)

-- a choice by a test that is met, and by one that is not
pub hit : {X : Type 0} (t : Bool) (a b : X) → t ≡ true → cond t a b ≡ a
hit t a b e = ap (λ (t : Bool). cond t a b) e

pub skip : {X : Type 0} (t : Bool) (a b r : X) → t ≡ false → b ≡ r → cond t a b ≡ r
skip t a b r e f = ap (λ (t : Bool). cond t a b) e ∙ f

-- two choices by one test that differ only where it is not met, or only where it is
pub past-test : {X : Type 0} (t : Bool) (a b c : X) → (t ≡ false → b ≡ c) → cond t a b ≡ cond t a c
past-test true a b c h = refl
past-test false a b c h = h refl

pub at_test : {X : Type 0} (t : Bool) (a b c : X) → (t ≡ true → a ≡ b) → cond t a c ≡ cond t b c
at_test true a b c h = h refl
at_test false a b c h = refl

-- what is read of a choice: of the one or the other, and what both have
pub read-choice : {A B : Type 0} (F : A → B) (t : Bool) (a b : A) → F (cond t a b) ≡ cond t (F a) (F b)
read-choice F true a b = refl
read-choice F false a b = refl

pub read_same : {A B : Type 0} (F : A → B) (t : Bool) (a b : A) (x : B) → F a ≡ x → F b ≡ x → F (cond t a b) ≡ x
read_same F t a b x p q = by-test (λ y. F y ≡ x) t a b (λ e. p) (λ e. q)

-- what is not true is false, and so is a test that is met only where another is that fails
pub is_false : (a : Bool) → (a ≡ true → ⊥) → a ≡ false
is_false true h = absurd (h refl)
is_false false h = refl

pub only_if : (a b : Bool) → (a ≡ true → b ≡ true) → b ≡ false → a ≡ false
only_if a b f e = is_false a (λ h. clash b (f h) e)

-- a test that asks for another one: not a, or b
pub implied : (a b : Bool) → (not a || b) ≡ true → a ≡ true → b ≡ true
implied true b h e = h
implied false b h e = never (sym e)

pub imply : (a b : Bool) → (a ≡ true → b ≡ true) → (not a || b) ≡ true
imply true b f = f refl
imply false b f = refl

-- and: both, each of the two, and the second where the first is met but not both are
pub both : {a b c d : Bool} → a ≡ b → c ≡ d → (a && c) ≡ (b && d)
both e f = ap₂ ◌&&◌ e f

pub and_left : (a b : Bool) → (a && b) ≡ true → a ≡ true
and_left true b h = refl
and_left false b h = h

pub and_right : (a b : Bool) → (a && b) ≡ true → b ≡ true
and_right true b h = h
and_right false b h = never (sym h)

pub and-rest : (a b : Bool) → (a && b) ≡ false → a ≡ true → b ≡ false
and-rest a b h e = ap (λ (t : Bool). t && b) (sym e) ∙ h

-- or: by the first, by the second, the second where the first fails, one of the two, and neither
pub or-front : (a b : Bool) → a ≡ true → (a || b) ≡ true
or-front a b e = ap (λ (t : Bool). t || b) e

pub or-back : (a b : Bool) → b ≡ true → (a || b) ≡ true
or-back true b e = refl
or-back false b e = e

pub or-rest : (a b : Bool) → (a || b) ≡ true → a ≡ false → b ≡ true
or-rest a b h e = ap (λ (t : Bool). t || b) (sym e) ∙ h

pub or_cases : (a b : Bool) → (a || b) ≡ true → (a ≡ true) ⊎ (b ≡ true)
or_cases true b e = inl refl
or_cases false b e = inr e

pub or-neither : (a b : Bool) → (a || b) ≡ false → (a ≡ false) × (b ≡ false)
or-neither true b e = never e
or-neither false b e = (refl, e)
