-- Specification, 1 Figures: N nodes, K slots, F rounds in an epoch, how often a node is heard to be taken in, whether the site may split,
-- versions, sets of nodes.
-- Assumes nothing.
use Rattle.std.specs.Prelude.{Bool, true, false, not, cond, ◌&&◌, ◌||◌, ℕ, min, ◌+◌, ◌^◌, eqb, ltb, leb}
use Rattle.allotment.specs.Allotment.{top_slots}
use Rattle.words.specs.Bits.{is_in}
use Rattle.membership.specs.majority.Majority.{majority, minority}
use Rattle.node.specs.declared.Config.{Config}
use Rattle.node.specs.declared.Setup.{Setup}
use Rattle.node.specs.Model.{Node}
use Rattle.node.specs.declared.Phase.{Phase}
use Rattle.node.specs.declared.Phase.TheVariants.{Waiting, Negotiation, Distribution}

-- the highest version
abbrev pub top_version : ℕ
top_version = 1000000

-- the most nodes, and the most rounds of an epoch
abbrev pub top_nodes : ℕ
top_nodes = 32

abbrev pub top_rounds : ℕ
top_rounds = 32

-- the figures of no site: no nodes, slots and rounds
abbrev pub no_config : Config
no_config = record { nodes = 0; slots = 0; rounds = 0; min_heard = 0; split = 0 }

-- N is 1 to 32, K 1 to 80, F 1 to 32, heard 1 to F, split 0 or 1
unfoldable pub config_ok : Config → Bool
config_ok f =
    (leb 1 f.nodes && leb f.nodes top_nodes)
    && ((leb 1 f.slots && leb f.slots top_slots)
    && ((leb 1 f.rounds && leb f.rounds top_rounds) && ((leb 1 f.min_heard && leb f.min_heard f.rounds)
    && leb f.split 1)))

-- the node's number is 1 to N
abbrev pub is_node : Setup → Bool
is_node s = leb 1 s.node && leb s.node s.config.nodes

-- no flag from N up; the own flag is set. Of a number that is no node's the own flag isn't tested
unfoldable pub flags_ok : Setup → ℕ → Bool
flags_ok s flags = ltb flags (2 ^ s.config.nodes) && (not (is_node s) || is_in flags s.node)

-- the round is the epoch's last: f = F - 1
abbrev pub is_last : Config → ℕ → Bool
is_last f place = leb f.rounds (place + 1)

-- the site may split (S-14, the paper's 7.2): its halves both go on, and no majority is asked for
abbrev pub splits : Config → Bool
splits f = eqb f.split 1

-- a set of nodes is enough for a close: more than N/2 of them (line 24), and at a site that may split any
abbrev pub enough : Config → ℕ → Bool
enough f w = splits f || majority f.nodes w

-- it is too few for a schedule to last: N/2 or fewer (line 47), and at a site that may split no set is
abbrev pub too_few : Config → ℕ → Bool
too_few f w = not (splits f) && minority f.nodes w

-- the version after v; the top version is the last
abbrev pub successor : ℕ → ℕ
successor v = min (v + 1) top_version

abbrev pub is_waiting : Phase → Bool
is_waiting Waiting = true
is_waiting Negotiation = false
is_waiting (Distribution sends) = false

abbrev pub negotiates : Phase → Bool
negotiates Waiting = false
negotiates Negotiation = true
negotiates (Distribution sends) = false

abbrev pub distributes : Phase → Bool
distributes Waiting = false
distributes Negotiation = false
distributes (Distribution sends) = true

-- whether a node sends its version and schedule in distribution
abbrev pub sending : Phase → Bool
sending Waiting = false
sending Negotiation = false
sending (Distribution sends) = sends

-- the request once the version is v: the one it was if that is the version still, and otherwise the demand, taken anew (specification, 2)
abbrev pub request_at : Node → ℕ → ℕ
request_at n v = cond (eqb n.version v) n.request n.demand
