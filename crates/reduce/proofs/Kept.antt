-- Which lines are kept, whether they give a number, and what leaving out a single one comes to.
-- Assumes nothing.
use mathlib.Core.Path.{◌≡◌, refl, sym, ap, ap₂, ◌∙◌}
use mathlib.Core.Bool.{Bool, true, false, cond, ◌&&◌, ◌||◌}
use mathlib.Core.List.{List, [], ◌∷◌, ◌++◌}
use mathlib.Core.Logic.{inl, inr}
use Prim.Native.Nat.{ℕ, zero, suc, ◌+◌, ◌≤◌, ◌<◌}
use native.Mathlib.Omega.{arith}
use borrow.Author.Tests.{eq-eqb, ne_eqb}
use lib.Dec.{eqb}
use lib.ListN.{length, drop, length-append}
use Rattle.text.specs.Read.{split}
use Rattle.machine.specs.timed.Calls.{TimedState}
use Rattle.reduce.specs.Reduced.{TextLine, ended, unended, lines_in, joined_lines, gives, LeftOut, without}
use Rattle.reduce.specs.Inner.{Placed, placed_lines, in_front, keep, line_run, line_gives, NextLine, says_of, line_text, line_of}

-- kept by the same test
pub keep_same : (p q : ℕ → Bool) (xs : List Placed) → ((i : ℕ) → p i ≡ q i) → keep p xs ≡ keep q xs
unfolding keep
keep_same p q [] h = refl
keep_same p q (x ∷ xs) h = ap₂ (λ (t : Bool) (r : List TextLine). in_front t x.line r) (h x.at) (keep_same p q xs h)

-- a line that may be left out, in front of others
gives-front : (t : Bool) (a : ℕ) (w : TimedState) (l : TextLine) (ls : List TextLine)
    → gives a w (in_front t l ls) ≡ (line_gives t a w l.says || gives a (line_run t w l.says) ls)
unfolding gives
gives-front true a w l ls = refl
gives-front false a w l ls = refl

pub or-false : (b : Bool) → (b || false) ≡ b
or-false true = refl
or-false false = refl

pub or-true : (b : Bool) → (b || true) ≡ true
or-true true = refl
or-true false = refl

-- the kept lines from a place on
module _ (s : List ℕ) (a : ℕ) (p : ℕ → Bool) where
  abbrev pub gives_by : ℕ → TimedState → Bool
  gives_by at w = gives a w (keep p (placed_lines at (split 10 (drop at s))))

  pub gives-nothing : (at : ℕ) (w : TimedState) → placed_lines at (split 10 (drop at s)) ≡ [] → gives_by at w ≡ false
  unfolding gives keep
  gives-nothing at w h = ap (λ (xs : List Placed). gives a w (keep p xs)) h

  module _ (at n : ℕ) (h : NextLine s at n) (w : TimedState) where
    gives-line : gives_by at w ≡ (line_gives (p at) a w (says_of (line_text s at n))
        || gives_by n (line_run (p at) w (says_of (line_text s at n))))
    unfolding keep
    gives-line =
        ap (λ (xs : List Placed). gives a w (keep p xs)) h.line
        ∙ gives-front (p at) a w (line_of (line_text s at n)) (keep p (placed_lines n (split 10 (drop n s))))

    -- what a step of the line came to, and the state that it left
    pub gives-step : (r : Bool) (u : TimedState) → r ≡ line_gives (p at) a w (says_of (line_text s at n))
        → u ≡ line_run (p at) w (says_of (line_text s at n))
        → gives_by at w ≡ (r || gives_by n u)
    gives-step r u e k = gives-line ∙ ap₂ (λ (t : Bool) (v : TimedState). t || gives_by n v) (sym e) (sym k)

    pub gives-hit : (r : Bool) (u : TimedState) → r ≡ line_gives (p at) a w (says_of (line_text s at n))
        → u ≡ line_run (p at) w (says_of (line_text s at n)) → r ≡ true
        → gives_by at w ≡ true
    gives-hit r u e k g = gives-step r u e k ∙ ap (λ (t : Bool). t || gives_by n u) g

    pub gives-next : (r : Bool) (u : TimedState) → r ≡ line_gives (p at) a w (says_of (line_text s at n))
        → u ≡ line_run (p at) w (says_of (line_text s at n)) → r ≡ false
        → gives_by at w ≡ gives_by n u
    gives-next r u e k g = gives-step r u e k ∙ ap (λ (t : Bool). t || gives_by n u) g

-- all lines, with some left out
pub weaken : (ks ls : List TextLine) (l : TextLine) → LeftOut ks ls → LeftOut ks (l ∷ ls)
weaken [] ls l h = tt
weaken (k ∷ ks) ls l h = inr h

pub left_out : (p : ℕ → Bool) (xs : List Placed) → LeftOut (keep p xs) (keep (λ i. true) xs)
unfolding keep
left_out p [] = tt
left_out p (x ∷ xs) = go (p x.at) (left_out p xs)
  where
    go : (t : Bool) → LeftOut (keep p xs) (keep (λ i. true) xs) → LeftOut (in_front t x.line (keep p xs)) (x.line ∷ keep (λ i. true) xs)
    go true h = inl (refl, h)
    go false h = weaken (keep p xs) (keep (λ i. true) xs) x.line h

-- places that rise, from lo on and below hi
abbrev pub Rising : ℕ → ℕ → List Placed → Type 0
Rising lo hi [] = Unit {0}
Rising lo hi (x ∷ xs) = (lo ≤ x.at) × ((x.at < hi) × Rising (suc x.at) hi xs)

lower : (k lo hi : ℕ) (xs : List Placed) → k ≤ lo → Rising lo hi xs → Rising k hi xs
lower k lo hi [] h r = tt
lower k lo hi (x ∷ xs) h r = (omega (arith, r.0), r.1)

-- a test, but for one place
abbrev pub except : (ℕ → Bool) → ℕ → ℕ → Bool
except p q i = cond (eqb i q) false (p i)

pub except-same : (p : ℕ → Bool) (q : ℕ) → except p q q ≡ false
except-same p q = ap (λ (t : Bool). cond t false (p q)) (eq-eqb q q refl)

pub except-other : (p : ℕ → Bool) (q i : ℕ) → (i ≡ q → ⊥) → except p q i ≡ p i
except-other p q i h = ap (λ (t : Bool). cond t false (p i)) (ne_eqb i q h)

-- places above are not touched
keep-above : (p : ℕ → Bool) (q lo hi : ℕ) (xs : List Placed) → Rising lo hi xs → q < lo → keep (except p q) xs ≡ keep p xs
unfolding keep
keep-above p q lo hi [] r h = refl
keep-above p q lo hi (x ∷ xs) r h =
    ap₂ (λ (t : Bool) (k : List TextLine). in_front t x.line k) (except-other p q x.at (λ e. omega (arith, r.0, h, e)))
    (keep-above p q (suc x.at) hi xs r.1.1 (omega (arith, r.0, h)))

-- the kept line at index i: its place, and what is kept without it
pub record Nth (p : ℕ → Bool) (lo hi : ℕ) (xs : List Placed) (i : ℕ) : Type 0 where
  pub place : ℕ
  pub from : lo ≤ place
  pub to : place < hi
  pub kept : p place ≡ true
  pub is : keep (except p place) xs ≡ without i (keep p xs)

-- the first line is kept or not, and the one meant is another
deeper : (p : ℕ → Bool) (lo hi : ℕ) (x : Placed) (xs : List Placed) (t : Bool) (i j : ℕ) → lo ≤ x.at → p x.at ≡ t
    → without i (in_front t x.line (keep p xs)) ≡ in_front t x.line (without j (keep p xs)) → Nth p (suc x.at) hi xs j
    → Nth p lo hi (x ∷ xs) i
unfolding keep
deeper p lo hi x xs t i j l e z n =
    record {
      place = n.place;
      from = omega (arith, n.from, l);
      to = n.to;
      kept = n.kept;
      is =
          ap₂ (λ (b : Bool) (k : List TextLine). in_front b x.line k)
          (except-other p n.place x.at (λ y. omega (arith, n.from, y)) ∙ e) n.is
          ∙ sym z
          ∙ sym (ap (λ (b : Bool). without i (in_front b x.line (keep p xs))) e);
    }

-- it is the first line
here : (p : ℕ → Bool) (lo hi : ℕ) (x : Placed) (xs : List Placed) → Rising lo hi (x ∷ xs) → p x.at ≡ true → Nth p lo hi (x ∷ xs) 0
unfolding keep without
here p lo hi x xs r e =
    record {
      place = x.at;
      from = r.0;
      to = r.1.0;
      kept = e;
      is =
          ap₂ (λ (b : Bool) (k : List TextLine). in_front b x.line k) (except-same p x.at)
          (keep-above p x.at (suc x.at) hi xs r.1.1 (omega arith))
          ∙ sym (ap (λ (b : Bool). without 0 (in_front b x.line (keep p xs))) e);
    }

pub nth : (p : ℕ → Bool) (lo hi : ℕ) (xs : List Placed) → Rising lo hi xs → (i : ℕ) → i < length (keep p xs) → Nth p lo hi xs i
unfolding keep without
nth p lo hi [] r i h = absurd (omega arith)
nth p lo hi (x ∷ xs) r i h = go (p x.at) i refl h (λ j k. nth p (suc x.at) hi xs r.1.1 j k)
  where
    go : (t : Bool) (i : ℕ) → p x.at ≡ t → i < length (in_front t x.line (keep p xs))
        → ((j : ℕ) → j < length (keep p xs) → Nth p (suc x.at) hi xs j) → Nth p lo hi (x ∷ xs) i
    go true zero e h f = here p lo hi x xs r e
    go true (suc j) e h f = deeper p lo hi x xs true (suc j) j r.0 e refl (f j (omega arith))
    go false i e h f = deeper p lo hi x xs false i i r.0 e refl (f i h)

-- places of lines rise, and none is behind the last byte
pub places-rise : (at : ℕ) (ps : List (List ℕ)) → Rising at (at + length (joined_lines (lines_in ps))) (placed_lines at ps)
unfolding placed_lines lines_in joined_lines
places-rise at [] = tt
places-rise at ([] ∷ []) = tt
places-rise at ((b ∷ l) ∷ []) = (omega arith, (omega arith, tt))
places-rise at (l ∷ m ∷ ls) =
    let r = joined_lines (lines_in (m ∷ ls)) in
    let k : length ((l ++ (10 ∷ [])) ++ r) ≡ length l + 1 + length r = length-append (l ++ (10 ∷ [])) r
    ∙ ap (λ (n : ℕ). n + length r) (length-append l (10 ∷ [])) in
    let z : at + length l + 1 + length r ≡ at + length ((l ++ (10 ∷ [])) ++ r) = omega (arith, k) in
    let q = places-rise (at + length l + 1) (m ∷ ls) in (
      omega arith,
      (
        omega (arith, k),
        lower (suc at) (at + length l + 1) (at + length ((l ++ (10 ∷ [])) ++ r))
            (placed_lines (at + length l + 1) (m ∷ ls)) (omega arith) (rw z at q),
      ),
    )
