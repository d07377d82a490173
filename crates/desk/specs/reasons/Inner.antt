-- Only the contracts of private functions cite these: no public contract and no theorem does.
-- Assumes nothing.
use Rattle.std.specs.Prelude.{List, [], ◌∷◌, ◌++◌, ℕ}
use Rattle.node.specs.declared.Rule.{Rule}
use Rattle.desk.specs.reasons.Reasons.{rule_text}

-- a rule and the space behind it
abbrev pub rule_field : Rule → List ℕ
rule_field r = rule_text r ++ (32 ∷ [])
