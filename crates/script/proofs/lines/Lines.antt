-- The line at a place of a script, as its end was found, and what the pieces are then.
-- Assumes nothing.
use mathlib.Core.Path.{◌≡◌, refl, sym, ap, ◌∙◌}
use mathlib.Core.Bool.{Bool, true, false}
use mathlib.Core.List.{List, [], ◌∷◌}
use Prim.Native.Nat.{ℕ, suc, ◌+◌, ◌-◌, ◌≤◌, ◌<◌}
use native.Mathlib.Omega.{arith}
use borrow.Author.Tests.{eqb-true, eqb-false}
use lib.Dec.{eqb}
use lib.ListN.{length, take, drop, drop_of_length-le, length-drop}
use lib.Seq.{drop-cons, drop-drop, length-take-le}
use Rattle.text.specs.Read.{before, split}
use Rattle.text.proofs.Pieces.{before-le, split-last, split-cut, HasPiece, split-some}
use Rattle.script.specs.lines.Lines.{on_line, line_in, line_at}
use Rattle.script.specs.declared.Line.TheVariants.{Nothing, Open, Ended}

-- a piece with others behind it is an ended line
pub on-cut : {A : Type 0} (none unended : A) (ended : List ℕ → List (List ℕ) → A) (l : List ℕ) (ps : List (List ℕ)) → HasPiece ps
    → on_line none unended ended (l ∷ ps) ≡ ended l ps
unfolding on_line
on-cut none unended ended l [] h = absurd h
on-cut none unended ended [] (p ∷ ps) h = refl
on-cut none unended ended (b ∷ l) (p ∷ ps) h = refl

line-cut : (at : ℕ) (l : List ℕ) (ps : List (List ℕ)) → HasPiece ps → line_in at (l ∷ ps) ≡ Ended (at + length l)
unfolding line_in
line-cut at = on-cut Nothing Open _

-- the line at a place, as its end was found
module _ (s : List ℕ) (at : ℕ) where
  pub line-none : length s ≤ at → line_at s at ≡ Nothing
  unfolding line_in on_line split
  line-none h = rw (drop_of_length-le s h)

  module _ (h : at < length s) (e : ℕ) (f : e ≡ at + before 10 (drop at s)) where
    pub line-open : e ≡ length s → line_at s at ≡ Open
    unfolding line_in on_line
    line-open g = rw (split-last 10 (drop at s) (omega (arith, length-drop at s)), drop-cons s at 0 h)

    pub line-ended : e ≤ length s → (e ≡ length s → ⊥) → line_at s at ≡ Ended e
    line-ended k g =
        let n = before 10 (drop at s) in
        let l : length (drop at s) ≡ length s - at = length-drop at s in
        let m : n ≤ length (drop at s) = before-le 10 (drop at s) in
        ap (line_in at) (split-cut 10 (drop at s) (omega arith))
        ∙ line-cut at (take n (drop at s)) (split 10 (drop (suc n) (drop at s))) (split-some 10 (drop (suc n) (drop at s)))
        ∙ ap (λ (x : ℕ). Ended (at + x)) (length-take-le n (drop at s) m) ∙ ap Ended (sym f)

-- an ended line: its piece, and where its byte 10 stands
pub record Whole (s : List ℕ) (at e : ℕ) : Type 0 where
  pub piece : split 10 (drop at s) ≡ take (e - at) (drop at s) ∷ split 10 (drop (e + 1) s)
  pub from : at ≤ e
  pub within : e < length s

one_piece : (at e : ℕ) (l : List ℕ) → line_in at (l ∷ []) ≡ Ended e → ⊥
unfolding line_in on_line
one_piece at e [] h = let z : ◌≡◌ {A = ℕ} 0 1 = cc in omega arith
one_piece at e (b ∷ l) h = let z : ◌≡◌ {A = ℕ} 0 1 = cc in omega arith

place_of : (a b : ℕ) → Ended a ≡ Ended b → a ≡ b
place_of a b h = cc

pub whole : (s : List ℕ) (at e : ℕ) → line_at s at ≡ Ended e → Whole s at e
whole s at e h = go (eqb (before 10 (drop at s)) (length (drop at s))) refl
  where
    d : List ℕ
    d = drop at s

    go : (t : Bool) → eqb (before 10 (drop at s)) (length (drop at s)) ≡ t → Whole s at e
    go true k = absurd (one_piece at e (drop at s) (sym (ap (line_in at) (split-last 10 (drop at s) (eqb-true _ _ k))) ∙ h))
    go false k =
        let n = before 10 (drop at s) in
        let l : length (drop at s) ≡ length s - at = length-drop at s in
        let m : n ≤ length (drop at s) = before-le 10 (drop at s) in
        let o : n < length (drop at s) = omega (arith, eqb-false n (length (drop at s)) k) in
        let p : split 10 (drop at s) ≡ take n (drop at s) ∷ split 10 (drop (suc n) (drop at s)) = split-cut 10 (drop at s) o in
        let q : length (take n (drop at s)) ≡ n = length-take-le n (drop at s) m in
        let w : line_in at (take n (drop at s) ∷ split 10 (drop (suc n) (drop at s)))
        ≡ Ended (at + length (take n (drop at s))) = line-cut at (take n (drop at s)) (split 10 (drop (suc n) (drop at s)))
        (split-some 10 (drop (suc n) (drop at s))) in
        let z : at + length (take n (drop at s)) ≡ e = place_of _ _ (sym w ∙ ap (line_in at) (sym p) ∙ h) in
        let x : e - at ≡ n = omega arith in
        let y : e + 1 ≡ at + suc n = omega arith in
        record { piece = rw (x, y, ← drop-drop (suc n) at s) p; from = omega arith; within = omega arith }

-- nothing stands at a place: the one piece is empty
pub none_is : (s : List ℕ) (at : ℕ) → line_at s at ≡ Nothing → split 10 (drop at s) ≡ [] ∷ []
unfolding line_in on_line
none_is s at h = go (split 10 (drop at s)) (split-some 10 (drop at s)) h
  where
    go : (ps : List (List ℕ)) → HasPiece ps → line_in at ps ≡ Nothing → ps ≡ [] ∷ []
    go [] k h = absurd k
    go ([] ∷ []) k h = refl
    go ((b ∷ l) ∷ []) k h = absurd (let z : ◌≡◌ {A = ℕ} 0 1 = cc in omega arith)
    go ([] ∷ m ∷ ls) k h = absurd (let z : ◌≡◌ {A = ℕ} 0 1 = cc in omega arith)
    go ((b ∷ l) ∷ m ∷ ls) k h = absurd (let z : ◌≡◌ {A = ℕ} 0 1 = cc in omega arith)

-- a line without byte 10: the one piece is not empty
pub record Unended (s : List ℕ) (at : ℕ) : Type 0 where
  pub first : ℕ
  pub rest : List ℕ
  pub piece : split 10 (drop at s) ≡ (first ∷ rest) ∷ []

pub open_is : (s : List ℕ) (at : ℕ) → line_at s at ≡ Open → Unended s at
unfolding line_in on_line
open_is s at h = go (split 10 (drop at s)) refl h
  where
    go : (ps : List (List ℕ)) → split 10 (drop at s) ≡ ps → line_in at ps ≡ Open → Unended s at
    go [] k h = absurd (let z : ◌≡◌ {A = ℕ} 0 1 = cc in omega arith)
    go ([] ∷ []) k h = absurd (let z : ◌≡◌ {A = ℕ} 0 1 = cc in omega arith)
    go ((b ∷ l) ∷ []) k h = record { first = b; rest = l; piece = k }
    go ([] ∷ m ∷ ls) k h = absurd (let z : ◌≡◌ {A = ℕ} 0 1 = cc in omega arith)
    go ((b ∷ l) ∷ m ∷ ls) k h = absurd (let z : ◌≡◌ {A = ℕ} 0 1 = cc in omega arith)

-- what the pieces at a place come to, as the line there was found
module _ {A : Type 0} (none unended : A) (ended : List ℕ → List (List ℕ) → A) (s : List ℕ) (at : ℕ) where
  pub on_none : line_at s at ≡ Nothing → on_line none unended ended (split 10 (drop at s)) ≡ none
  unfolding on_line
  on_none h = ap (on_line none unended ended) (none_is s at h)

  pub on-open : line_at s at ≡ Open → on_line none unended ended (split 10 (drop at s)) ≡ unended
  unfolding on_line
  on-open h = ap (on_line none unended ended) (open_is s at h).piece

  pub on-whole : {e : ℕ} → Whole s at e → on_line none unended ended (split 10 (drop at s))
      ≡ ended (take (e - at) (drop at s)) (split 10 (drop (e + 1) s))
  on-whole {e} w = ap (on_line none unended ended) w.piece ∙ on-cut none unended ended _ _ (split-some 10 (drop (e + 1) s))
