-- A node is within the ranges where it is so without its schedules, and both schedules are.
-- Assumes nothing.
use mathlib.Core.Path.{◌≡◌, refl, sym, ◌∙◌}
use mathlib.Core.Bool.{Bool, true, false, not, ◌&&◌, ◌||◌}
use Prim.Native.Nat.{◌^◌}
use lib.Dec.{ltb, leb}
use Rattle.words.specs.Bits.{is_in}
use Rattle.lists.specs.All.{bounded}
use Rattle.allotment.specs.Allotment.{top_request}
use Rattle.node.specs.Figures.{top_version, config_ok, is_node}
use Rattle.node.specs.Core.{core_of, bare}
use Rattle.node.specs.Model.{Node}
use Rattle.node.specs.declared.Phase.{Phase}
use Rattle.node.specs.declared.Phase.TheVariants.{Waiting, Negotiation, Distribution}
use Rattle.range.specs.Range.{schedule_ok, round_ok, closes_seen, epoch_ok, waiting_ok, phase_ok, in_range}
use Rattle.range.proofs.Keeps.{free-ok}

off : (x : Bool) → false ≡ (x && false)
off true = refl
off false = refl

-- the two tests of schedules behind all others
last : (a v s r f p e c d u : Bool) → (a && ((v && s) && (r && (f && (p && (e && (c && (d && u))))))))
    ≡ ((a && ((v && true) && (r && (f && (p && (e && (c && (true && u)))))))) && (s && d))
last false v s r f p e c d u = refl
last true false s r f p e c d u = refl
last true true false r f p e c d u = off (r && (f && (p && (e && (c && (true && u))))))
last true true true false f p e c d u = refl
last true true true true false p e c d u = refl
last true true true true true false e c d u = refl
last true true true true true true false c d u = refl
last true true true true true true true false d u = refl
last true true true true true true true true false u = off u
last true true true true true true true true true true = refl
last true true true true true true true true true false = refl

phase-same : (p : Phase) (n : Node) → phase_ok p (bare (core_of n)) ≡ phase_ok p n
unfolding waiting_ok round_ok
phase-same Waiting n = refl
phase-same Negotiation n = refl
phase-same (Distribution sends) n = refl

pub by_parts : (n : Node) → in_range n ≡ (in_range (bare (core_of n))
    && (schedule_ok n.schedule (ltb 0 n.version) n.setup && schedule_ok n.epoch.determined n.epoch.updated n.setup))
unfolding in_range epoch_ok
by_parts n =
    last (config_ok n.setup.config && is_node n.setup) (leb n.version top_version)
    (schedule_ok n.schedule (ltb 0 n.version) n.setup) (leb n.demand top_request && leb n.request top_request)
    (ltb n.flags (2 ^ n.setup.config.nodes) && is_in n.flags n.setup.node) (phase_ok n.phase n)
    (ltb n.epoch.place n.setup.config.rounds)
    (bounded n.epoch.counters n.setup.config.nodes (closes_seen n.phase n.epoch.place)
    && ltb n.epoch.interactions (2 ^ n.setup.config.nodes))
    (schedule_ok n.epoch.determined n.epoch.updated n.setup)
    (not n.epoch.updated || ltb n.version top_version)
    ∙ sym (λ i.
    ((config_ok n.setup.config && is_node n.setup)
    && ((leb n.version top_version && free-ok (ltb 0 n.version) n.setup i)
    && ((leb n.demand top_request && leb n.request top_request)
    && ((ltb n.flags (2 ^ n.setup.config.nodes) && is_in n.flags n.setup.node) && (phase-same n.phase n i
    && (ltb n.epoch.place n.setup.config.rounds && ((bounded n.epoch.counters n.setup.config.nodes
    (closes_seen n.phase n.epoch.place)
    && ltb n.epoch.interactions (2 ^ n.setup.config.nodes))
    && (free-ok n.epoch.updated n.setup i && (not n.epoch.updated || ltb n.version top_version)))))))))
    && (schedule_ok n.schedule (ltb 0 n.version) n.setup && schedule_ok n.epoch.determined n.epoch.updated n.setup))
