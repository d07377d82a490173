-- Only the contracts of private functions cite these: no public contract and no theorem does.
-- Assumes nothing.
use Rattle.std.specs.Prelude.{Bool, cond, ℕ, eqb, ltb}
use Rattle.words.specs.Bits.{is_inside}
use Rattle.membership.specs.requests.Requests.{requesters}
use Rattle.membership.specs.counters.Counters.{members_of}
use Rattle.node.specs.Figures.{top_version, enough}
use Rattle.node.specs.Close.{level}
use Rattle.node.specs.Model.{Node}
use Rattle.node.specs.declared.Core.{Core}
use Rattle.node.specs.declared.Verdict.{Verdict}
use Rattle.node.specs.declared.Verdict.TheVariants.{Determines, Repeats, Silent}
use Rattle.node.specs.declared.Rule.{Rule}
use Rattle.node.specs.declared.Rule.TheVariants.{RequestMissing, NoMajority, OwnLower, Repeating, AtTop, NotDue, NewSent}

-- the request of a core once the version is v
abbrev pub core_request : Core → ℕ → ℕ
core_request c v = cond (eqb c.version v) c.request c.demand

-- what the first rule makes of a close
abbrev pub verdict_of : Rule → Verdict
verdict_of RequestMissing = Silent
verdict_of NoMajority = Silent
verdict_of OwnLower = Silent
verdict_of Repeating = Repeats
verdict_of AtTop = Silent
verdict_of NotDue = Determines
verdict_of NewSent = Silent

-- lines 25 to 29, where M' is enough and has all its requests: by a version, and the lowest and highest known of
abbrev pub versions_rule : ℕ → ℕ → ℕ → Rule
versions_rule v low high = cond (eqb low high) (cond (ltb v top_version) NotDue AtTop) (cond (eqb v high) Repeating OwnLower)

-- lines 24 to 29: the first rule that applies, where the count of M' is tried before the requests. It differs from `first_rule` where both
-- fail
unfoldable pub counted_rule : Node → Rule
counted_rule n =
    cond (enough n.setup.config n.round.merged)
    (cond (is_inside n.round.merged (requesters n.round.known))
    (cond (level n)
    (cond (ltb n.version top_version) NotDue AtTop)
    (cond (eqb n.version n.round.highest) Repeating OwnLower))
    RequestMissing)
    NoMajority

-- the flags of the next round
abbrev pub flags_after : Core → Bool → ℕ
flags_after c last = cond last (members_of c.counters c.setup.node c.setup.config.min_heard) c.flags
