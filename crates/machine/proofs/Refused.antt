-- A refusal that `?` hands on.
-- Assumes nothing.
use mathlib.Core.Path.{◌≡◌, ap}
use Rattle.std.specs.Prelude.{Result, Ok, Err, IsErrAnd}
use Rattle.node.specs.declared.Refusal.{Refusal}

-- what `?` returns is the refusal that it met
pub handed : {T : Type 0} {x : Refusal} (r : Result T Refusal) → IsErrAnd r (λ y. y ≡ x) → r ≡ Err x
handed (Ok _) h = absurd h
handed (Err y) h = ap Err h
