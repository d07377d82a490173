-- The lines of a script and their places, one by one.
-- Assumes nothing.
use mathlib.Core.Path.{◌≡◌, refl, sym, ap, ap₂, ◌∙◌, subst}
use mathlib.Core.Bool.{Bool, true, false, cond}
use Rattle.std.specs.Prelude.{Option, None}
use mathlib.Core.List.{List, [], ◌∷◌, ◌++◌, append-nil}
use Prim.Native.Nat.{ℕ, zero, suc, ◌+◌, ◌-◌, ◌≤◌, ◌<◌}
use native.Mathlib.Omega.{arith}
use borrow.Author.Tests.{eqb-true}
use lib.Dec.{eqb}
use lib.ListN.{length, get_or, take, drop, length-drop, length-append, drop_of_length-le}
use lib.Seq.{length-take-le, take_all, take_at}
use Rattle.std.proofs.lemmas.List.{get_or_at}
use Rattle.text.specs.Read.{front, split}
use Rattle.text.proofs.Pieces.{HasPiece, split-some}
use Rattle.script.specs.lines.Lines.{line_at}
use Rattle.script.specs.declared.Line.TheVariants.{Nothing, Open, Ended}
use Rattle.site.specs.declared.Event.{Event}
use Rattle.script.specs.events.Events.{event_of}
use Rattle.script.proofs.lines.Lines.{Whole, whole, line-none, none_is, open_is}
use Rattle.reduce.specs.Reduced.{TextLine, ended, unended, lines_in, joined_lines}
use Rattle.reduce.specs.Inner.{Placed, placed_lines, keep, line_text, says_of, line_of, NextLine}

-- no byte 10
abbrev pub Clean : List ℕ → Type 0
Clean [] = Unit {0}
Clean (b ∷ l) = (eqb b 10 ≡ false) × Clean l

abbrev pub AllClean : List (List ℕ) → Type 0
AllClean [] = Unit {0}
AllClean (l ∷ ls) = Clean l × AllClean ls

clean-front : (b : ℕ) (ps : List (List ℕ)) → eqb b 10 ≡ false → AllClean ps → AllClean (front b ps)
unfolding front
clean-front b [] e h = tt
clean-front b (p ∷ ps) e h = ((e, h.0), h.1)

pub split-clean : (s : List ℕ) → AllClean (split 10 s)
unfolding split
split-clean [] = (tt, tt)
split-clean (b ∷ s) = go (eqb b 10) refl (split-clean s)
  where
    go : (t : Bool) → eqb b 10 ≡ t → AllClean (split 10 s) → AllClean (cond t ([] ∷ split 10 s) (front b (split 10 s)))
    go true e h = (tt, h)
    go false e h = clean-front b (split 10 s) e h

-- none at any place
clean-at : (l : List ℕ) (i : ℕ) → Clean l → eqb (get_or l i 0) 10 ≡ false
clean-at [] i h = refl
clean-at (b ∷ l) zero h = h.0
clean-at (b ∷ l) (suc i) h = clean-at l i h.1

-- such a line says nothing, and one that byte 10 ends what stands before it
says-clean : (l : List ℕ) → Clean l → says_of l ≡ None
says-clean l h = ap (λ (t : Bool). cond t (event_of (take (length l - 1) l)) None) (clean-at l (length l - 1) h)

pub says-last : (l : List ℕ) (x : ℕ) → says_of (l ++ (x ∷ [])) ≡ cond (eqb x 10) (event_of l) None
says-last l x =
    let z : length (l ++ (x ∷ [])) - 1 ≡ length l = omega (arith, length-append l (x ∷ [])) in
    ap (λ (n : ℕ). cond (eqb (get_or (l ++ (x ∷ [])) n 0) 10) (event_of (take n (l ++ (x ∷ [])))) None) z
    ∙ ap₂ (λ (y : ℕ) (p : List ℕ). cond (eqb y 10) (event_of p) None) (get_or_at l x [] 0 (length l) refl)
    (take_at l (x ∷ []) (length l) refl)

-- the first byte of the pieces, and a byte 10 in front of them
joined-front : (b : ℕ) (ps : List (List ℕ)) → HasPiece ps → joined_lines (lines_in (front b ps)) ≡ b ∷ joined_lines (lines_in ps)
unfolding joined_lines lines_in front
joined-front b [] h = absurd h
joined-front b ([] ∷ []) h = refl
joined-front b ((x ∷ p) ∷ []) h = refl
joined-front b (p ∷ q ∷ r) h = refl

joined-first : (ps : List (List ℕ)) → HasPiece ps → joined_lines (lines_in ([] ∷ ps)) ≡ 10 ∷ joined_lines (lines_in ps)
unfolding joined_lines lines_in
joined-first [] h = absurd h
joined-first (p ∷ ps) h = refl

-- the lines one behind another are the text
pub joined-lines : (s : List ℕ) → joined_lines (lines_in (split 10 s)) ≡ s
unfolding joined_lines lines_in split
joined-lines [] = refl
joined-lines (b ∷ s) = go (eqb b 10) refl (joined-lines s)
  where
    go : (t : Bool) → eqb b 10 ≡ t → joined_lines (lines_in (split 10 s)) ≡ s
        → joined_lines (lines_in (cond t ([] ∷ split 10 s) (front b (split 10 s)))) ≡ b ∷ s
    go true h e = joined-first (split 10 s) (split-some 10 s) ∙ ap₂ (λ (x : ℕ) (r : List ℕ). x ∷ r) (sym (eqb-true b 10 h)) e
    go false h e = joined-front b (split 10 s) (split-some 10 s) ∙ ap (λ (r : List ℕ). b ∷ r) e

-- a piece with others behind it
placed-cut : (at : ℕ) (l : List ℕ) (ps : List (List ℕ)) → HasPiece ps
    → placed_lines at (l ∷ ps) ≡ record { at = at; line = ended l } ∷ placed_lines (at + length l + 1) ps
unfolding placed_lines
placed-cut at l [] h = absurd h
placed-cut at l (p ∷ ps) h = refl

pub lines_cut : (l : List ℕ) (ps : List (List ℕ)) → HasPiece ps → lines_in (l ∷ ps) ≡ ended l ∷ lines_in ps
unfolding lines_in
lines_cut l [] h = absurd h
lines_cut l (p ∷ ps) h = refl

module _ (s : List ℕ) (at : ℕ) where
  pub placed-none : line_at s at ≡ Nothing → placed_lines at (split 10 (drop at s)) ≡ []
  unfolding placed_lines
  placed-none h = ap (placed_lines at) (none_is s at h)

  pub lines_none : line_at s at ≡ Nothing → lines_in (split 10 (drop at s)) ≡ []
  unfolding lines_in
  lines_none h = ap lines_in (none_is s at h)

  module _ (h : line_at s at ≡ Open) where
    -- the bytes without a byte 10 behind them are all that is left
    open-text : (open_is s at h).first ∷ (open_is s at h).rest ≡ drop at s
    unfolding lines_in joined_lines
    open-text =
        let u = open_is s at h in
        let l = u.first ∷ u.rest in
        sym (append-nil l) ∙ sym (ap (λ (ps : List (List ℕ)). joined_lines (lines_in ps)) u.piece) ∙ joined-lines (drop at s)

    pub open-within : at < length s
    open-within = omega (arith, ap length open-text, length-drop at s)

    pub lines-open : lines_in (split 10 (drop at s)) ≡ unended (drop at s) ∷ []
    unfolding lines_in
    lines-open = ap lines_in (open_is s at h).piece ∙ ap (λ (x : List ℕ). unended x ∷ []) open-text

    pub placed-open : placed_lines at (split 10 (drop at s)) ≡ record { at = at; line = unended (drop at s) } ∷ []
    unfolding placed_lines
    placed-open = ap (placed_lines at) (open_is s at h).piece ∙ ap (λ (x : List ℕ). record { at = at; line = unended x } ∷ []) open-text

  module _ {e : ℕ} (h : Whole s at e) where
    -- the line's bytes without the byte 10
    abbrev pub before_ten : List ℕ
    before_ten = take (e - at) (drop at s)

    pub length-line : length before_ten ≡ e - at
    length-line = length-take-le (e - at) (drop at s) (omega (arith, length-drop at s, h.from, h.within))

    pub placed-line : placed_lines at (split 10 (drop at s)) ≡ record { at = at; line = ended before_ten } ∷ placed_lines (e + 1)
        (split 10 (drop (e + 1) s))
    placed-line =
        let z : at + length before_ten + 1 ≡ e + 1 = omega (arith, length-line, h.from) in
        ap (placed_lines at) h.piece
        ∙ placed-cut at before_ten (split 10 (drop (e + 1) s)) (split-some 10 (drop (e + 1) s))
        ∙ ap (λ (i : ℕ). record { at = at; line = ended before_ten } ∷ placed_lines i (split 10 (drop (e + 1) s))) z

    pub lines-line : lines_in (split 10 (drop at s)) ≡ ended before_ten ∷ lines_in (split 10 (drop (e + 1) s))
    lines-line = ap lines_in h.piece ∙ lines_cut before_ten (split 10 (drop (e + 1) s)) (split-some 10 (drop (e + 1) s))

-- a line with its byte 10, as the script has it
module _ (s : List ℕ) (at : ℕ) {e : ℕ} (h : Whole s at e) where
  long-line : length (before_ten s at h ++ (10 ∷ [])) ≡ e + 1 - at
  long-line = length-append (before_ten s at h) (10 ∷ [])
      ∙ (let z : length (before_ten s at h) + 1 ≡ e + 1 - at = omega (arith, length-line s at h, h.from) in z)

  pub whole-text : take (e + 1 - at) (drop at s) ≡ before_ten s at h ++ (10 ∷ [])
  unfolding joined_lines
  whole-text =
      let l = before_ten s at h ++ (10 ∷ []) in
      let r = joined_lines (lines_in (split 10 (drop (e + 1) s))) in
      let k : drop at s ≡ l ++ r = sym (joined-lines (drop at s)) ∙ ap joined_lines (lines-line s at h) in
      ap (take (e + 1 - at)) k ∙ take_at l r (e + 1 - at) long-line

-- what is found at a place: the line there, and where the one behind it starts
module _ (s : List ℕ) (at : ℕ) where
  pub next-open : line_at s at ≡ Open → NextLine s at (length s)
  unfolding placed_lines
  next-open h =
      let u = open_is s at h in
      let k : line_text s at (length s) ≡ drop at s = take_all (length s - at) (drop at s) (omega (arith, length-drop at s)) in
      let c : Clean (drop at s) = subst Clean (open-text s at h) (subst AllClean u.piece (split-clean (drop at s))).0 in
      let l : unended (drop at s) ≡ line_of (line_text s at (length s)) =
      ap (λ (p : Option Event). record { text = drop at s; says = p }) (sym (says-clean (drop at s) c)) ∙ ap line_of (sym k) in
      record {
        onward = open-within s at h;
        within = omega arith;
        line =
            placed-open s at h
            ∙ ap₂ (λ (x : TextLine) (xs : List Placed). record { at = at; line = x } ∷ xs) l
            (sym (placed-none s (length s) (line-none s (length s) (omega arith))));
      }

  pub next-ended : (e : ℕ) → line_at s at ≡ Ended e → NextLine s at (e + 1)
  next-ended e h =
      let w = whole s at e h in
      let t = whole-text s at w in
      let l : ended (before_ten s at w) ≡ line_of (line_text s at (e + 1)) =
      ap (λ (p : Option Event). record { text = before_ten s at w ++ (10 ∷ []); says = p }) (sym (says-last (before_ten s at w) 10))
      ∙ ap line_of (sym t) in
      record {
        onward = omega (arith, w.from);
        within = omega (arith, w.within);
        line = placed-line s at w
            ∙ ap (λ (x : TextLine). record { at = at; line = x } ∷ placed_lines (e + 1) (split 10 (drop (e + 1) s))) l;
      }

-- the lines without their places
pub all_lines : (at : ℕ) (ps : List (List ℕ)) → keep (λ i. true) (placed_lines at ps) ≡ lines_in ps
unfolding keep placed_lines lines_in
all_lines at [] = refl
all_lines at ([] ∷ []) = refl
all_lines at ((b ∷ l) ∷ []) = refl
all_lines at (l ∷ m ∷ ls) = ap (λ (r : List TextLine). ended l ∷ r) (all_lines (at + length l + 1) (m ∷ ls))

-- line by line
module _ (s : List ℕ) (at next : ℕ) (h : NextLine s at next) where
  pub lines-next : lines_in (split 10 (drop at s)) ≡ line_of (line_text s at next) ∷ lines_in (split 10 (drop next s))
  unfolding keep
  lines-next =
      sym (all_lines at (split 10 (drop at s))) ∙ ap (keep (λ i. true)) h.line
      ∙ ap (λ (r : List TextLine). line_of (line_text s at next) ∷ r) (all_lines next (split 10 (drop next s)))

  pub length-next : length (line_text s at next) ≡ next - at
  length-next = length-take-le (next - at) (drop at s) (omega (arith, length-drop at s, h.onward, h.within))

pub lines-nothing : (s : List ℕ) (at : ℕ) → placed_lines at (split 10 (drop at s)) ≡ [] → lines_in (split 10 (drop at s)) ≡ []
unfolding keep
lines-nothing s at h = sym (all_lines at (split 10 (drop at s))) ∙ ap (keep (λ i. true)) h
