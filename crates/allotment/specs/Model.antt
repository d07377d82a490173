-- A schedule (specification, 2 What a node holds) as the definitions speak of it. The code has no value of it: it holds masks in bytes.
-- Assumes nothing.
use Rattle.std.specs.Prelude.{List, ℕ}

-- who sends in which slot: K owners, 0 for none, and 0 behind the K
pub record Schedule : Type 0 where
  pub owners : List ℕ
