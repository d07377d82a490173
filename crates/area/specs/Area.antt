-- The node area: 828 bytes (docs/node-area.md). Words, highest byte first: node, N, K, F, heard, split, version, M, M', lowest, highest,
-- C_r, I_e, f;
-- bytes: demand, request, phase, updated; lists: R' 32, C_e 32, schedule 352, determined schedule 352.
-- Assumes nothing.
use Rattle.std.specs.Prelude.{Bool, ◌&&◌, List, [], ◌∷◌, ◌++◌, ℕ, eqb, length, get_or}
use mir.Val.{bool_byte}
use Rattle.lists.specs.All.{same}
use Rattle.lists.specs.Bytes.{word32, flat, window}
use Rattle.allotment.specs.InPlace.{held_bytes, held_in}
use Rattle.allotment.specs.Model.{Schedule}
use Rattle.range.specs.Range.{in_range}
use Rattle.node.specs.Model.{Node}
use Rattle.wire.specs.Phases.{phase_byte, phase_of}

abbrev pub node_size : ℕ
node_size = 828

-- where each part starts: the words,
abbrev pub at_node : ℕ
at_node = 0

abbrev pub at_nodes : ℕ
at_nodes = 4

abbrev pub at_slots : ℕ
at_slots = 8

abbrev pub at_rounds : ℕ
at_rounds = 12

abbrev pub at_min_heard : ℕ
at_min_heard = 16

abbrev pub at_split : ℕ
at_split = 20

abbrev pub at_version : ℕ
at_version = 24

abbrev pub at_flags : ℕ
at_flags = 28

abbrev pub at_merged : ℕ
at_merged = 32

abbrev pub at_lowest : ℕ
at_lowest = 36

abbrev pub at_highest : ℕ
at_highest = 40

abbrev pub at_heard : ℕ
at_heard = 44

abbrev pub at_met : ℕ
at_met = 48

abbrev pub at_place : ℕ
at_place = 52

-- the single bytes,
abbrev pub at_demand : ℕ
at_demand = 56

abbrev pub at_request : ℕ
at_request = 57

abbrev pub at_phase : ℕ
at_phase = 58

abbrev pub at_updated : ℕ
at_updated = 59

-- and the lists
abbrev pub at_known : ℕ
at_known = 60

abbrev pub at_counters : ℕ
at_counters = 92

abbrev pub at_schedule : ℕ
at_schedule = 124

abbrev pub at_determined : ℕ
at_determined = 476

abbrev pub words_of : Node → List ℕ
words_of n =
    n.setup.node ∷ n.setup.config.nodes ∷ n.setup.config.slots ∷ n.setup.config.rounds ∷ n.setup.config.min_heard
    ∷ n.setup.config.split ∷ n.version ∷ n.flags
    ∷ n.round.merged ∷ n.round.lowest ∷ n.round.highest ∷ n.round.heard ∷ n.epoch.interactions ∷ n.epoch.place ∷ []

abbrev pub small_of : Node → List ℕ
small_of n = n.demand ∷ n.request ∷ phase_byte n.phase ∷ bool_byte n.epoch.updated ∷ []

-- what the library writes for a node
unfoldable pub encoded : Node → List ℕ
encoded n = flat (words_of n) ++ (small_of n
    ++ (n.round.known ++ (n.epoch.counters ++ (held_bytes n.schedule ++ held_bytes n.epoch.determined))))

-- and before the schedules
unfoldable pub front_of : Node → List ℕ
front_of n = flat (words_of n) ++ (small_of n ++ (n.round.known ++ n.epoch.counters))

-- the node that bytes stand for, whatever they are, with these schedules
abbrev pub decoded_with : List ℕ → Schedule → Schedule → Node
decoded_with a schedule determined =
    record {
      setup = record {
        node = word32 a at_node;
        config = record {
          nodes = word32 a at_nodes;
          slots = word32 a at_slots;
          rounds = word32 a at_rounds;
          min_heard = word32 a at_min_heard;
          split = word32 a at_split;
        };
      };
      version = word32 a at_version;
      schedule = schedule;
      demand = get_or a at_demand 0;
      request = get_or a at_request 0;
      flags = word32 a at_flags;
      round = record {
        merged = word32 a at_merged;
        known = window 32 a at_known;
        lowest = word32 a at_lowest;
        highest = word32 a at_highest;
        heard = word32 a at_heard;
      };
      epoch = record {
        counters = window 32 a at_counters;
        interactions = word32 a at_met;
        place = word32 a at_place;
        updated = eqb (get_or a at_updated 0) 1;
        determined = determined;
      };
      phase = phase_of (get_or a at_phase 0);
    }

-- and with its own
unfoldable pub decoded : List ℕ → Node
decoded a = decoded_with a (held_in a at_schedule) (held_in a at_determined)

-- the area is what the library writes for some node in range
unfoldable pub valid : List ℕ → Bool
valid a = eqb (length a) node_size && (in_range (decoded a) && same (encoded (decoded a)) a)
