-- Why a node sends what it sends, or nothing, at a close (specification, 3.6 Ground of a close): one rule beside Algorithm 1's branches,
-- lines 24 to 37, and the lowest node of M' without a request.
-- Assumes nothing.
use Rattle.std.specs.Prelude.{cond, ℕ, eqb, ltb}
use Rattle.words.specs.Bits.{is_inside}
use Rattle.membership.specs.requests.Requests.{requesters, lowest_missing}
use Rattle.node.specs.Figures.{top_version, enough}
use Rattle.node.specs.Close.{level, due}
use Rattle.node.specs.Model.{Node}
use Rattle.node.specs.declared.Rule.{Rule}
use Rattle.node.specs.declared.Rule.TheVariants.{RequestMissing, NoMajority, OwnLower, Repeating, AtTop, NotDue, NewSent}
use Rattle.node.specs.declared.Ground.{Ground}

-- the number of each rule
abbrev pub rule_number : Rule → ℕ
rule_number RequestMissing = 1
rule_number NoMajority = 2
rule_number OwnLower = 3
rule_number Repeating = 4
rule_number AtTop = 5
rule_number NotDue = 6
rule_number NewSent = 7

-- lines 24 to 29: the first rule that applies, of a node without a mark of an earlier round. A node that determines now is not due, or
-- has sent: `rule_of` tells these apart
unfoldable pub first_rule : Node → Rule
first_rule n =
    cond (is_inside n.round.merged (requesters n.round.known))
    (cond (enough n.setup.config n.round.merged)
    (cond (level n)
    (cond (ltb n.version top_version) NotDue AtTop)
    (cond (eqb n.version n.round.highest) Repeating OwnLower))
    NoMajority)
    RequestMissing

-- lines 34 and 35: a new schedule sent is always told; while the mark of an earlier round lasts, the schedule is determined and not yet due
unfoldable pub rule_of : Node → Rule
rule_of n = cond (due n) NewSent (cond n.epoch.updated NotDue (first_rule n))

-- the lowest node of M' without a request in R', 0 for none; under any rule
abbrev pub missing_of : Node → ℕ
missing_of n = lowest_missing n.round.merged n.round.known

abbrev pub ground_of : Node → Ground
ground_of n = record { rule = rule_of n; missing = missing_of n }
