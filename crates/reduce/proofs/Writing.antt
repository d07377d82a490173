-- The lines as bytes: kept ones one behind another, and the first lines of a script.
-- Assumes nothing.
use mathlib.Core.Path.{◌≡◌, refl, sym, ap, ap₂, ◌∙◌}
use mathlib.Core.Bool.{Bool, true, false, cond}
use mathlib.Core.List.{List, [], ◌∷◌, ◌++◌, append_assoc}
use Prim.Native.Nat.{ℕ, zero, suc, ◌+◌, ◌-◌, ◌≤◌}
use native.Mathlib.Omega.{arith}
use borrow.Author.Tests.{leb-true, leb-false}
use lib.Dec.{leb}
use lib.ListN.{length, take, drop, length-append, take-append-drop}
use lib.Seq.{take_all, take_at}
use Rattle.lists.specs.Bytes.{Tried}
use Rattle.lists.proofs.Chain.{put, none, tried, not-tried, length-put, front-is}
use Rattle.text.specs.Read.{split}
use Rattle.reduce.specs.Reduced.{TextLine, lines_in, joined_lines}
use Rattle.reduce.specs.Inner.{Placed, placed_lines, in_front, keep, NextLine, line_text, line_of}
use Rattle.reduce.proofs.Lines.{joined-lines, lines-nothing, lines-next, length-next}

-- a line that may be left out, in front of others
joined-front : (t : Bool) (l : TextLine) (ls : List TextLine) → joined_lines (in_front t l ls) ≡ cond t l.text [] ++ joined_lines ls
unfolding joined_lines
joined-front true l ls = refl
joined-front false l ls = refl

module _ (s : List ℕ) (at : ℕ) (p : ℕ → Bool) where
  abbrev kept_text : ℕ → List ℕ
  kept_text i = joined_lines (keep p (placed_lines i (split 10 (drop i s))))

  pub kept-nothing : placed_lines at (split 10 (drop at s)) ≡ [] → kept_text at ≡ []
  unfolding joined_lines keep
  kept-nothing h = ap (λ (xs : List Placed). joined_lines (keep p xs)) h

  pub kept-next : (n : ℕ) → NextLine s at n → kept_text at ≡ cond (p at) (line_text s at n) [] ++ kept_text n
  unfolding keep
  kept-next n h =
      ap (λ (xs : List Placed). joined_lines (keep p xs)) h.line
      ∙ joined-front (p at) (line_of (line_text s at n)) (keep p (placed_lines n (split 10 (drop n s))))

-- how long the first lines are
abbrev pub first_long : ℕ → List TextLine → ℕ
first_long n ls = length (joined_lines (take n ls))

first-none : (n : ℕ) → first_long n [] ≡ 0
unfolding joined_lines
first-none zero = refl
first-none (suc n) = refl

pub first-zero : (n : ℕ) (ls : List TextLine) → n ≡ 0 → first_long n ls ≡ 0
unfolding joined_lines
first-zero zero ls h = refl
first-zero (suc n) ls h = absurd (omega arith)

first_more : (n : ℕ) (l : TextLine) (ls : List TextLine) → first_long (suc n) (l ∷ ls) ≡ length l.text + first_long n ls
unfolding joined_lines
first_more n l ls = length-append l.text (joined_lines (take n ls))

pub first-nothing : (s : List ℕ) (at n : ℕ) → placed_lines at (split 10 (drop at s)) ≡ []
    → first_long n (lines_in (split 10 (drop at s))) ≡ 0
first-nothing s at n h = ap (first_long n) (lines-nothing s at h) ∙ first-none n

pub first-next : (s : List ℕ) (at next n k : ℕ) → n ≡ suc k → NextLine s at next
    → first_long n (lines_in (split 10 (drop at s))) ≡ next - at + first_long k (lines_in (split 10 (drop next s)))
first-next s at next n k e h =
    ap₂ first_long e (lines-next s at next h) ∙ first_more k (line_of (line_text s at next)) (lines_in (split 10 (drop next s)))
    ∙ ap (λ (x : ℕ). x + first_long k (lines_in (split 10 (drop next s)))) (length-next s at next h)

-- nothing is put
pub put-nothing : (l : List ℕ) (at : ℕ) → Tried l at [] at l
put-nothing l at = go (leb (at + 0) (length l)) refl
  where
    go : (t : Bool) → leb (at + 0) (length l) ≡ t → Tried l at [] at l
    go true h = tried (leb-true (at + 0) (length l) h) (none l at)
    go false h = not-tried l [] at (leb-false (at + 0) (length l) h)

-- bytes put over as many
pub whole-put : {l b m : List ℕ} {n : ℕ} → length l ≡ length b → Tried l 0 b n m → m ≡ b
whole-put {l} {b} {m} {n} e t =
    let p = put {at = 0} (omega (arith, e)) t in
    let k : length m ≡ length l = length-put {at = 0} (omega (arith, e)) p in
    sym (take_all n m (omega (arith, k, e, p.to))) ∙ front-is p

-- a part of the lines, and the rest
joined-append : (ks ls : List TextLine) → joined_lines (ks ++ ls) ≡ joined_lines ks ++ joined_lines ls
unfolding joined_lines
joined-append [] ls = refl
joined-append (k ∷ ks) ls = ap (λ (r : List ℕ). k.text ++ r) (joined-append ks ls)
    ∙ sym (append_assoc k.text (joined_lines ks) (joined_lines ls))

module _ (s : List ℕ) (n : ℕ) where
  abbrev first : List ℕ
  first = joined_lines (take n (lines_in (split 10 s)))

  abbrev rest : List ℕ
  rest = joined_lines (drop n (lines_in (split 10 s)))

  cut-lines : s ≡ first ++ rest
  cut-lines = sym (joined-lines s) ∙ ap joined_lines (sym (take-append-drop n (lines_in (split 10 s))))
      ∙ joined-append (take n (lines_in (split 10 s))) (drop n (lines_in (split 10 s)))

  pub first-within : length first ≤ length s
  first-within = omega (arith, ap length cut-lines, length-append first rest)

  pub first-text : (e : ℕ) → e ≡ length first → take e s ≡ first
  first-text e h = ap (take e) cut-lines ∙ take_at first rest e (sym h)

-- what is kept is no longer than all
pub kept-short : (p : ℕ → Bool) (xs : List Placed) → length (joined_lines (keep p xs)) ≤ length (joined_lines (keep (λ i. true) xs))
unfolding keep joined_lines
kept-short p [] = omega arith
kept-short p (x ∷ xs) = go (p x.at) (kept-short p xs)
  where
    go : (t : Bool) → length (joined_lines (keep p xs)) ≤ length (joined_lines (keep (λ i. true) xs))
        → length (joined_lines (in_front t x.line (keep p xs))) ≤ length (x.line.text ++ joined_lines (keep (λ i. true) xs))
    go true h = omega (
      arith,
      h,
      length-append x.line.text (joined_lines (keep p xs)),
      length-append x.line.text
          (joined_lines (keep (λ i. true) xs)),
    )
    go false h = omega (arith, h, length-append x.line.text (joined_lines (keep (λ i. true) xs)))
