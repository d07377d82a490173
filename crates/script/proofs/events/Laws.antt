-- A word's number as it is chosen; the fields of an event line, as find found the first space.
-- Assumes nothing.
use mathlib.Core.Path.{◌≡◌, refl, ap₂, ◌∙◌}
use mathlib.Core.Bool.{Bool, cond}
use mathlib.Core.List.{List, [], ◌∷◌}
use native.Mathlib.Omega.{arith}
use Prim.Native.Nat.{ℕ, ◌+◌, ◌≤◌}
use lib.ListN.{length, take, get_or}
use Rattle.text.specs.Read.{before, split}
use Rattle.text.proofs.Pieces.{last-piece, first_piece, behind}
use Rattle.script.specs.lines.Fields.{numbers_of}
use Rattle.script.specs.events.Events.{word_number, event_at, made, fields_of, event_of}
use Rattle.std.specs.Prelude.{Some, None}

-- a number that is chosen, with what its test and the other number are
pub chosen : (n : ℕ) {r y q : ℕ} {t b : Bool} → r ≡ cond t n y → t ≡ b → y ≡ q → r ≡ cond b n q
chosen n e f g = e ∙ ap₂ (λ (t : Bool) (z : ℕ). cond t n z) f g

-- an event of two numbers
pub pair : (n : ℕ) (x : List ℕ) → length x ≡ 2 → made n (Some x) ≡ event_at n (get_or x 0 0) (get_or x 1 0)
pair n (a ∷ b ∷ []) h = refl
pair n [] h = absurd (omega arith)
pair n (a ∷ []) h = absurd (omega arith)
pair n (a ∷ b ∷ c ∷ x) h = absurd (omega arith)

-- find found the first space at e
module _ (s : List ℕ) (e : ℕ) (h : e ≡ before 32 s) where
  pub event-none : e ≡ length s → event_of s ≡ None
  unfolding fields_of numbers_of
  event-none k = rw (last-piece 32 s e h k)

  pub event-is : e ≤ length s → (e ≡ length s → ⊥) → event_of s ≡ made (word_number (take e s)) (numbers_of 2 (split 32 (behind (e + 1) s)))
  unfolding fields_of
  event-is k n = rw (first_piece 32 s e h k n)
