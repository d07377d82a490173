-- Algorithm 1, lines 43 to 55, and specification, 3.4 End and 3.5 Restart and waiting.
-- Assumes nothing.
use Rattle.std.specs.Prelude.{Bool, cond, ℕ, ◌+◌}
use Rattle.membership.specs.counters.Counters.{with_self, members_of}
use Rattle.allotment.specs.Allotment.{free}
use Rattle.allotment.specs.Model.{Schedule}
use Rattle.node.specs.Figures.{is_last, too_few, negotiates, is_waiting, request_at}
use Rattle.node.specs.Negotiation.{opened, moved}
use Rattle.node.specs.Begin.{begun}
use Rattle.node.specs.Model.{Epoch}
use Rattle.node.specs.Model.{Node}
use Rattle.node.specs.declared.Phase.{Phase}
use Rattle.node.specs.declared.Phase.TheVariants.{Waiting, Negotiation}
use Rattle.node.specs.Answers.{Answer}
use Rattle.node.specs.Answers.{Done, WrongPhase}

-- an epoch at the next place, and all else as it was
abbrev pub at_next_place : Epoch → Epoch
at_next_place e = record {
  counters = e.counters;
  interactions = e.interactions;
  place = e.place + 1;
  updated = e.updated;
  determined = e.determined;
}

-- line 43: f grows by 1, and the next round is opened
unfoldable pub next_round : Node → Node
next_round n = moved n (opened n.setup.node n.version n.flags n.request) (at_next_place n.epoch) Negotiation

-- a waiting node counts the rounds
unfoldable pub waits_on : Node → Node
waits_on n = moved n n.round (at_next_place n.epoch) Waiting

-- the nodes that an epoch's end counts: I_e and the node itself, heard or not. The own rule of S-1: line 47 of the paper counts I_e alone
abbrev pub interacted_with : Node → ℕ
interacted_with n = with_self n.epoch.interactions n.setup.node

-- line 47: they are N/2 or fewer, and the site may not split
abbrev pub expires : Node → Bool
expires n = too_few n.setup.config (interacted_with n)

-- line 48: then v = 0, and at version 0 all slots are free
abbrev pub version_after : Node → ℕ
version_after n = cond (expires n) 0 n.version

abbrev pub schedule_after : Node → Schedule
schedule_after n = cond (expires n) free n.schedule

-- lines 44 to 55: the epoch ends, and the next begins
unfoldable pub next_epoch : Node → Node
next_epoch n = begun n.setup (version_after n) (schedule_after n) n.demand (request_at n (version_after n))
    (members_of n.epoch.counters n.setup.node n.setup.config.min_heard)

-- a restarted node begins with the next epoch, at version 0 and with the flags of its restart (the specification's own rule, 3.5)
abbrev pub rejoined : Node → Node
rejoined n = begun n.setup 0 free n.demand n.demand n.flags

-- lines 43 to 55
unfoldable pub ended_node : Node → Node
ended_node n =
    cond (is_waiting n.phase)
    (cond (is_last n.setup.config n.epoch.place) (rejoined n) (waits_on n))
    (cond (is_last n.setup.config n.epoch.place) (next_epoch n) (next_round n))

-- refused as 4 in negotiation
abbrev pub may_end : Phase → Answer
may_end p = cond (negotiates p) WrongPhase Done

unfoldable pub end_answer : Node → Answer
end_answer n = may_end n.phase
