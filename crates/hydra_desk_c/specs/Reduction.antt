-- The reduction of a script for C: the answer's number, and what it says of the output and of the length.
-- Assumes nothing.
use Rattle.std.specs.Prelude.{◌≡◌, List, ℕ, Ok}
use Rattle.node.specs.Answers.{number}
use Rattle.reduce.specs.Calls.{reply_to, Answers}

-- the answer's number, and the number that the length is written to, which was n and stays after a refusal
pub record Returns (a : ℕ) (s out : List ℕ) (n code : ℕ) (after : List ℕ) (m : ℕ) : Type 0 where
  pub answer : code ≡ number (reply_to a s out)
  pub done : code ≡ 0 → Answers a s out (Ok m) after
  pub refused : (code ≡ 0 → ⊥) → (after ≡ out) × (m ≡ n)
