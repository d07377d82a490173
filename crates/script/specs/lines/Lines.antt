-- The line at a place of a script (specification, 7 Script): each line is ended by byte 10.
-- Assumes nothing.
use Rattle.std.specs.Prelude.{List, [], ◌∷◌, ℕ, ◌+◌, length, drop}
use Rattle.text.specs.Read.{split}
use Rattle.script.specs.declared.Line.{Line}
use Rattle.script.specs.declared.Line.TheVariants.{Nothing, Open, Ended}

-- by the first of the pieces between bytes 10: nothing stands there, a line without byte 10, or a line with the pieces behind it
unfoldable pub on_line : {A : Type 0} → A → A → (List ℕ → List (List ℕ) → A) → List (List ℕ) → A
on_line none unended ended [] = none
on_line none unended ended ([] ∷ []) = none
on_line none unended ended ((b ∷ l) ∷ []) = unended
on_line none unended ended (l ∷ m ∷ ls) = ended l (m ∷ ls)

-- what stands from a place on: nothing, a line without byte 10, or a line and the place of its byte 10
unfoldable pub line_in : ℕ → List (List ℕ) → Line
line_in at ps = on_line Nothing Open (λ l ls. Ended (at + length l)) ps

-- the line at a place
abbrev pub line_at : List ℕ → ℕ → Line
line_at s at = line_in at (split 10 (drop at s))
