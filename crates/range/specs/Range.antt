-- Specification, 1 Figures and 2 What a node holds: the ranges of a node. What has lapsed has one fixed form, so that each node has one
-- form in bytes.
-- Assumes nothing.
use Rattle.std.specs.Prelude.{Bool, not, cond, ◌&&◌, ◌||◌, ℕ, ◌+◌, ◌^◌, eqb, ltb, leb}
use Rattle.words.specs.Bits.{is_in, is_inside}
use Rattle.lists.specs.All.{bounded, same}
use Rattle.allotment.specs.Allotment.{top_request, owners_of}
use Rattle.allotment.specs.Model.{Schedule}
use Rattle.membership.specs.requests.Requests.{entry_of, requests_within, no_requests}
use Rattle.node.specs.Figures.{top_version, config_ok, is_node}
use Rattle.node.specs.declared.Setup.{Setup}
use Rattle.node.specs.declared.Round.{Round}
use Rattle.node.specs.Model.{Node}
use Rattle.node.specs.declared.Phase.{Phase}
use Rattle.node.specs.declared.Phase.TheVariants.{Waiting, Negotiation, Distribution}

-- K owners of N nodes, each 0 to N, and 0 beyond K; all free unless `used`
abbrev pub schedule_ok : Schedule → Bool → Setup → Bool
schedule_ok schedule used s = bounded (owners_of schedule) (cond used s.config.slots 0) s.config.nodes

-- in negotiation: lowest ≤ v ≤ highest, M within M', requests only for nodes of M', the own one there
unfoldable pub round_ok : Node → Bool
round_ok n =
    (leb n.round.lowest n.version && (leb n.version n.round.highest && leb n.round.highest top_version))
    && ((ltb n.round.merged (2 ^ n.setup.config.nodes) && is_inside n.flags n.round.merged)
    && ((requests_within n.round.known n.round.merged && eqb (entry_of n.round.known n.setup.node) n.request)
    && ltb n.round.heard (2 ^ n.setup.config.nodes)))

-- outside negotiation the round has lapsed
unfoldable pub round_lapsed : Round → Bool
round_lapsed r = (eqb r.merged 0 && eqb r.heard 0) && ((eqb r.lowest 0 && eqb r.highest 0) && same r.known no_requests)

-- the closes of this epoch that a node has seen
abbrev pub closes_seen : Phase → ℕ → ℕ
closes_seen Waiting f = 0
closes_seen Negotiation f = f
closes_seen (Distribution sends) f = f + 1

-- f is 0 to F - 1, no C_e above the closes, I_e among the N; a determined schedule only with `updated`, and that only at versions below the
-- top
unfoldable pub epoch_ok : Node → Bool
epoch_ok n =
    ltb n.epoch.place n.setup.config.rounds
    && ((bounded n.epoch.counters n.setup.config.nodes (closes_seen n.phase n.epoch.place)
    && ltb n.epoch.interactions (2 ^ n.setup.config.nodes))
    && (schedule_ok n.epoch.determined n.epoch.updated n.setup && (not n.epoch.updated || ltb n.version top_version)))

-- a waiting node holds its demand, flags and place alone
unfoldable pub waiting_ok : Node → Bool
waiting_ok n = (eqb n.version 0 && eqb n.request 0)
    && ((eqb n.epoch.interactions 0 && not n.epoch.updated) && round_lapsed n.round)

-- by the phase
abbrev pub phase_ok : Phase → Node → Bool
phase_ok Waiting n = waiting_ok n
phase_ok Negotiation n = round_ok n
phase_ok (Distribution sends) n = round_lapsed n.round

-- a node within the ranges
unfoldable pub in_range : Node → Bool
in_range n =
    (config_ok n.setup.config && is_node n.setup)
    && ((leb n.version top_version && schedule_ok n.schedule (ltb 0 n.version) n.setup)
    && ((leb n.demand top_request && leb n.request top_request)
    && ((ltb n.flags (2 ^ n.setup.config.nodes) && is_in n.flags n.setup.node)
    && (phase_ok n.phase n && epoch_ok n))))
