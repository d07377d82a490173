-- A site's storage: lent words and lent bytes, and the site that they stand for, whatever they are.
-- Words: 8 a node (version, M, M', lowest, highest, C_r, I_e, f), for 32 nodes; then N, K, F, heard, split and the place.
-- A node's setup is the site's figures and its number, by where its words stand.
-- Bytes: 773 a node (up, demand, request, phase, updated, R' 32, C_e 32, schedule 352, determined schedule 352), for 32 nodes; then the 32
-- counts of packets, and 1 in negotiation.
-- A schedule stands there as masks, as in a node area.
-- Assumes nothing.
use Rattle.std.specs.Prelude.{Bool, cond, ◌||◌, List, [], ◌∷◌, ◌++◌, ℕ, ◌+◌, ◌*◌, ltb, eqb, length, get_or}
use mir.Val.{bool_byte}
use Rattle.lists.specs.All.{tab}
use Rattle.lists.specs.Bytes.{window}
use Rattle.allotment.specs.InPlace.{held_in}
use Rattle.node.specs.InPlace.{behind}
use Rattle.node.specs.Model.{Node}
use Rattle.node.specs.declared.Phase.{Phase}
use Rattle.wire.specs.Phases.{phase_byte, phase_of}
use Rattle.site.specs.Members.{setup_of, down_member}
use Rattle.node.specs.declared.Config.{Config}
use Rattle.site.specs.Model.{Member}
use Rattle.site.specs.Model.{Site}

-- words and bytes, together the storage of a site
pub record Store : Type 0 where
  pub words : List ℕ
  pub bytes : List ℕ

abbrev pub store : List ℕ → List ℕ → Store
store w b = record { words = w; bytes = b }

-- how many of each a site takes
abbrev pub words_size : ℕ
words_size = 262

abbrev pub bytes_size : ℕ
bytes_size = 24769

abbrev pub too_short : Store → Bool
too_short s = ltb (length s.words) words_size || ltb (length s.bytes) bytes_size

-- how many words and bytes a node has, and where those of the node at index i start
abbrev pub row_size : ℕ
row_size = 8

abbrev pub room_size : ℕ
room_size = 773

abbrev pub node_words_at : ℕ → ℕ
node_words_at i = row_size * i

abbrev pub node_bytes_at : ℕ → ℕ
node_bytes_at i = room_size * i

-- where the lists of a node start among its bytes
abbrev pub at_known : ℕ
at_known = 5

abbrev pub at_counters : ℕ
at_counters = 37

abbrev pub at_schedule : ℕ
at_schedule = 69

-- where the schedules of the node at index i start: the held one, and behind it the determined one
abbrev pub schedules_at : ℕ → ℕ
schedules_at i = node_bytes_at i + at_schedule

-- where the rest starts: figures and place among the words, counts of packets and phase among the bytes
abbrev pub at_config : ℕ
at_config = 256

abbrev pub at_place : ℕ
at_place = 261

abbrev pub at_sent : ℕ
at_sent = 24736

abbrev pub at_phase : ℕ
at_phase = 24768

-- whether the node at index i is up, and its phase
abbrev pub up_in : List ℕ → ℕ → Bool
up_in b i = eqb (get_or b (node_bytes_at i) 0) 1

abbrev pub phase_in : List ℕ → ℕ → Phase
phase_in b i = phase_of (get_or b (node_bytes_at i + 3) 0)

-- the figures of the site, by its words
abbrev pub config_at : List ℕ → Config
config_at w =
    record {
      nodes = get_or w at_config 0;
      slots = get_or w (at_config + 1) 0;
      rounds = get_or w (at_config + 2) 0;
      min_heard = get_or w (at_config + 3) 0;
      split = get_or w (at_config + 4) 0;
    }

abbrev pub config_in : Store → Config
config_in s = config_at s.words

-- the node whose numbers stand at index i
unfoldable pub node_in : Store → ℕ → Node
node_in s i =
    record {
      setup = setup_of (config_in s) (i + 1);
      version = get_or s.words (node_words_at i) 0;
      schedule = held_in s.bytes (schedules_at i);
      demand = get_or s.bytes (node_bytes_at i + 1) 0;
      request = get_or s.bytes (node_bytes_at i + 2) 0;
      flags = get_or s.words (node_words_at i + 1) 0;
      round = record {
        merged = get_or s.words (node_words_at i + 2) 0;
        known = window 32 s.bytes (node_bytes_at i + at_known);
        lowest = get_or s.words (node_words_at i + 3) 0;
        highest = get_or s.words (node_words_at i + 4) 0;
        heard = get_or s.words (node_words_at i + 5) 0;
      };
      epoch = record {
        counters = window 32 s.bytes (node_bytes_at i + at_counters);
        interactions = get_or s.words (node_words_at i + 6) 0;
        place = get_or s.words (node_words_at i + 7) 0;
        updated = eqb (get_or s.bytes (node_bytes_at i + 4) 0) 1;
        determined = held_in s.bytes (behind (schedules_at i));
      };
      phase = phase_in s.bytes i;
    }

-- the member that stands at index i
abbrev pub stored_in : Store → ℕ → Member
stored_in s i = record { up = up_in s.bytes i; node = node_in s i }

-- the site's member at index i: of the N nodes what stands there; a place from N up isn't read, and its node is down
unfoldable pub member_in : Store → ℕ → Member
member_in s i = cond (ltb i (config_in s).nodes) (stored_in s i) (down_member (config_in s) (i + 1))

-- the site
unfoldable pub site_in : Store → Site
site_in s =
    record {
      config = config_in s;
      negotiates = eqb (get_or s.bytes at_phase 0) 1;
      place = get_or s.words at_place 0;
      sent = window 32 s.bytes at_sent;
      members = tab 32 (member_in s);
    }

-- a node's words
unfoldable pub node_words : Node → List ℕ
node_words n =
    n.version ∷ n.flags ∷ n.round.merged ∷ n.round.lowest ∷ n.round.highest ∷ n.round.heard ∷ n.epoch.interactions
    ∷ n.epoch.place ∷ []

-- a member's bytes without the schedules: five single ones and two lists
abbrev pub stored_small : Member → List ℕ
stored_small m = bool_byte m.up ∷ m.node.demand ∷ m.node.request ∷ phase_byte m.node.phase ∷ bool_byte m.node.epoch.updated ∷ []

unfoldable pub stored_front : Member → List ℕ
stored_front m = stored_small m ++ (m.node.round.known ++ m.node.epoch.counters)
