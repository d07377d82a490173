-- Specification, 11 Worked cases: each starred case as a row of the figures that the definitions give and those that the case says.
-- proofs/rows/Check.antt checks the whole table.
-- Assumes nothing.
use Rattle.std.specs.Prelude.{Bool, true, false, ◌&&◌, List, [], ◌∷◌, ◌++◌, ℕ, ◌+◌, take, replicate}
use Rattle.words.specs.Bits.{digit}
use Rattle.lists.specs.All.{same}
use Rattle.allotment.specs.Allotment.{owners_of, schedule_of, free, targets, next}
use Rattle.allotment.specs.Model.{Schedule}
use Rattle.membership.specs.requests.Requests.{none}
use Rattle.node.specs.Answers.{number}
use Rattle.node.specs.Figures.{sending}
use Rattle.node.specs.Negotiation.{hear_answer, heard_node}
use Rattle.node.specs.Close.{complete, verdict, lapsed, closed_node}
use Rattle.node.specs.Begin.{empty_epoch, starting}
use Rattle.node.specs.End.{ended_node}
use Rattle.node.specs.Grounds.{rule_number, rule_of}
use Rattle.node.specs.declared.Setup.{Setup}
use Rattle.node.specs.Model.{Node}
use Rattle.node.specs.declared.Packet.{Packet}
use Rattle.node.specs.declared.Phase.{Phase}
use Rattle.node.specs.declared.Phase.TheVariants.{Waiting, Negotiation, Distribution}
use Rattle.node.specs.declared.Verdict.{Verdict}
use Rattle.node.specs.declared.Verdict.TheVariants.{Determines, Repeats, Silent}

-- a row: what the definitions give, and what the specification says
pub record Row : Type 0 where
  pub gives : List ℕ
  pub says : List ℕ

-- owners or requests, filled up
abbrev pub owners : List ℕ → Schedule
owners l = schedule_of (take 80 (l ++ replicate 80 0))

abbrev pub asking : List ℕ → List ℕ
asking l = take 32 (l ++ replicate 32 none)

abbrev pub setup : ℕ → ℕ → ℕ → ℕ → Setup
setup node N K F = record { node = node; config = record { nodes = N; slots = K; rounds = F; min_heard = 1; split = 0 } }

-- a node of N in negotiation, with its version, M' and R', lowest and highest version
abbrev pub node : ℕ → ℕ → ℕ → List ℕ → ℕ → ℕ → Node
node N v merged known lowest highest =
    record {
      setup = setup 1 N 4 1;
      version = v;
      schedule = free;
      demand = 2;
      request = 2;
      flags = merged;
      round = record { merged = merged; known = asking known; lowest = lowest; highest = highest; heard = 0 };
      epoch = empty_epoch 0;
      phase = Negotiation;
    }

-- a verdict as a number: 1 determines, 2 repeats, 0 silent
abbrev pub verdict_number : Verdict → ℕ
verdict_number Determines = 1
verdict_number Repeats = 2
verdict_number Silent = 0

-- N=1, K=1, F=1, version 1, demand 1
abbrev pub alone : Node
alone = starting (setup 1 1 1 1) 1 1 1

-- node 4 of five at version 1 in an epoch's last distribution, with I_e; it has slots 1 and 3, and its demand has changed since its request
-- was taken
abbrev pub met : ℕ → Node
met w =
    record {
      setup = setup 4 5 4 1;
      version = 1;
      schedule = owners (4 ∷ 1 ∷ 4 ∷ 0 ∷ []);
      demand = 3;
      request = 2;
      flags = 31;
      round = lapsed;
      epoch = record { counters = replicate 32 0; interactions = w; place = 0; updated = false; determined = free };
      phase = Distribution false;
    }

-- node 1 of four as an epoch of three rounds ends, in which nodes 1 to 4 were heard 0, 1, 2 and 3 times, by how often a node must be heard
abbrev pub counting : ℕ → Node
counting heard =
    record {
      setup = record { node = 1; config = record { nodes = 4; slots = 4; rounds = 3; min_heard = heard; split = 0 } };
      version = 1;
      schedule = free;
      demand = 2;
      request = 2;
      flags = 15;
      round = lapsed;
      epoch = record { counters = 0 ∷ 1 ∷ 2 ∷ 3 ∷ replicate 28 0; interactions = 15; place = 2; updated = false; determined = free };
      phase = Distribution false;
    }

-- a node as it would be at a site that may split
abbrev pub splitting : Node → Node
splitting n =
    record {
      setup = record {
        node = n.setup.node;
        config = record {
          nodes = n.setup.config.nodes;
          slots = n.setup.config.slots;
          rounds = n.setup.config.rounds;
          min_heard = n.setup.config.min_heard;
          split = 1;
        };
      };
      version = n.version;
      schedule = n.schedule;
      demand = n.demand;
      request = n.request;
      flags = n.flags;
      round = n.round;
      epoch = n.epoch;
      phase = n.phase;
    }

-- a packet of node 2 for a node that hasn't node 2 in M'
abbrev pub stranger : Packet
stranger = record { sender = 2; lowest = 1; highest = 1; flags = 3; requests = asking (none ∷ 2 ∷ []) }

abbrev pub hearer : Node
hearer = node 3 1 1 (2 ∷ []) 1 1

-- a node with another C_r, and nothing else of it changed
abbrev pub with_heard : Node → ℕ → Node
with_heard n w =
    record {
      setup = n.setup;
      version = n.version;
      schedule = n.schedule;
      demand = n.demand;
      request = n.request;
      flags = n.flags;
      round = record {
        merged = n.round.merged;
        known = n.round.known;
        lowest = n.round.lowest;
        highest = n.round.highest;
        heard = w;
      };
      epoch = n.epoch;
      phase = n.phase;
    }

-- all that a node holds
abbrev pub phase_number : Phase → ℕ
phase_number Waiting = 3
phase_number Negotiation = 0
phase_number (Distribution sends) = 1 + digit sends

abbrev pub all_of_it : Node → List ℕ
all_of_it n =
    n.setup.node ∷ n.setup.config.nodes ∷ n.setup.config.slots ∷ n.setup.config.rounds ∷ n.setup.config.min_heard
    ∷ n.setup.config.split ∷ n.version ∷ n.demand ∷ n.request ∷ n.flags ∷ phase_number n.phase
    ∷ n.round.merged ∷ n.round.lowest ∷ n.round.highest ∷ n.round.heard ∷ n.epoch.interactions ∷ n.epoch.place ∷ digit
    n.epoch.updated
    ∷ (n.round.known ++ (n.epoch.counters ++ (owners_of n.schedule ++ owners_of n.epoch.determined)))

-- version, request and the first four owners
abbrev pub held_then : Node → List ℕ
held_then n = n.version ∷ n.request ∷ take 4 (owners_of n.schedule)

-- a node that has node 2 in M', after that packet
abbrev pub merging : Node
merging =
    record {
      setup = setup 1 3 4 1;
      version = 1;
      schedule = free;
      demand = 2;
      request = 2;
      flags = 3;
      round = record { merged = 3; known = asking (2 ∷ 2 ∷ []); lowest = 1; highest = 1; heard = 2 };
      epoch = record { counters = replicate 32 0; interactions = 2; place = 0; updated = false; determined = free };
      phase = Negotiation;
    }

-- two of four in M' with requests, at a site that may split
abbrev pub pair : Node
pair = splitting (node 4 1 3 (2 ∷ 2 ∷ []) 1 1)

unfoldable pub table : List Row
table =
    -- a lone node (N, K, F and its demand are 1) at version 1: its close reaches 2, and the end keeps it, since the node counts itself
    -- (S-1)
    record { gives = (closed_node alone).version ∷ (ended_node (closed_node alone)).version ∷ []; says = 2 ∷ 2 ∷ [] }
    -- (node 4 of five counts itself once: with I_e of nodes 1 and 2 it keeps version 1; with its own echo and node 5, two of five, it
    -- expires)
    ∷ record { gives = (ended_node (met 3)).version ∷ (ended_node (met 24)).version ∷ []; says = 1 ∷ 0 ∷ [] }
    -- of four nodes two with requests in M' are not complete, of five nodes three are
    ∷ record { gives = digit (complete (node 4 1 3 (2 ∷ 2 ∷ []) 1 1)) ∷ []; says = 0 ∷ [] }
    ∷ record { gives = digit (complete (node 5 1 7 (2 ∷ 2 ∷ 2 ∷ []) 1 1)) ∷ []; says = 1 ∷ [] }
    -- old 1,1,0,0, requests 1 and 3: new 1,0,2,2. Again: 1,2,2,2
    ∷ record { gives = take 4 (owners_of (next (owners (1 ∷ 1 ∷ [])) 3 (asking (1 ∷ 3 ∷ [])) 2 4)); says = 1 ∷ 0 ∷ 2 ∷ 2 ∷ [] }
    ∷ record {
      gives = take 4 (owners_of (next (next (owners (1 ∷ 1 ∷ [])) 3 (asking (1 ∷ 3 ∷ [])) 2 4) 3 (asking (1 ∷ 3 ∷ [])) 2 4));
      says = 1 ∷ 2 ∷ 2 ∷ 2 ∷ [];
    }
    -- K=2, three requests of 7: targets 1,1,0
    ∷ record { gives = take 3 (targets 3 2 7 (asking (7 ∷ 7 ∷ 7 ∷ []))); says = 1 ∷ 1 ∷ 0 ∷ [] }
    -- K=40, requests 15, 9 and 12: all are met, 4 slots stay free. K=30: 11, 9, 10 (S-8)
    ∷ record { gives = take 3 (targets 3 40 7 (asking (15 ∷ 9 ∷ 12 ∷ []))); says = 15 ∷ 9 ∷ 12 ∷ [] }
    ∷ record { gives = take 3 (targets 3 30 7 (asking (15 ∷ 9 ∷ 12 ∷ []))); says = 11 ∷ 9 ∷ 10 ∷ [] }
    -- complete, with 4 and 5 as lowest and highest: at 5 it repeats, at 4 it sends nothing
    ∷ record {
      gives = verdict_number (verdict (node 3 5 7 (2 ∷ 2 ∷ 2 ∷ []) 4 5)) ∷ digit
          (sending (closed_node (node 3 5 7 (2 ∷ 2 ∷ 2 ∷ []) 4 5)).phase) ∷ [];
      says = 2 ∷ 1 ∷ [];
    }
    ∷ record {
      gives = verdict_number (verdict (node 3 4 7 (2 ∷ 2 ∷ 2 ∷ []) 4 5)) ∷ digit
          (sending (closed_node (node 3 4 7 (2 ∷ 2 ∷ 2 ∷ []) 4 5)).phase) ∷ [];
      says = 0 ∷ 0 ∷ [];
    }
    -- all at 0: version 1 is determined and sent (S-6)
    ∷ record {
      gives = digit (sending (closed_node (node 3 0 7 (2 ∷ 2 ∷ 2 ∷ []) 0 0)).phase) ∷ (closed_node (node 3 0 7 (2 ∷ 2 ∷ 2 ∷ []) 0 0)).version
          ∷ [];
      says = 1 ∷ 1 ∷ [];
    }
    -- heard 0, 1, 2 and 3 times in three rounds: with `heard` 1 all four are in the flags, node 1 as the node itself; with 2 nodes 1, 3 and
    -- 4; with 3 nodes 1 and 4 (S-9)
    ∷ record {
      gives = (ended_node (counting 1)).flags ∷ (ended_node (counting 2)).flags ∷ (ended_node (counting 3)).flags ∷ [];
      says = 15 ∷ 13 ∷ 9 ∷ [];
    }
    -- N=4, two in M' with requests, at a site that may split: complete; version 2 is determined and sent, under rule 7 (S-14)
    ∷ record {
      gives = digit (complete pair) ∷ (closed_node pair).version ∷ digit (sending (closed_node pair).phase) ∷ rule_number (rule_of pair) ∷ [];
      says = 1 ∷ 2 ∷ 1 ∷ 7 ∷ [];
    }
    -- node 4 of five, which met nobody: there it keeps version, request and schedule; elsewhere it expires, and takes its demand as its
    -- request
    ∷ record {
      gives = held_then (ended_node (splitting (met 0))) ++ held_then (ended_node (met 0));
      says = 1 ∷ 2 ∷ 4 ∷ 1 ∷ 4 ∷ 0 ∷ 0 ∷ 3 ∷ 0 ∷ 0 ∷ 0 ∷ 0 ∷ [];
    }
    -- sender not in M': only C_r changes, of all that the node holds
    ∷ record { gives = number (hear_answer hearer stranger) ∷ all_of_it (heard_node hearer stranger); says = 0 ∷ all_of_it (with_heard hearer 2) }
    -- (and otherwise M', R' and I_e do: M' has the sender, and its flags have the hearer)
    ∷ record { gives = all_of_it (heard_node (node 3 1 3 (2 ∷ []) 1 1) stranger); says = all_of_it merging }
    ∷ []

-- a row that holds
abbrev pub row_holds : Row → Bool
row_holds r = same r.gives r.says

-- every row holds
unfoldable pub all_hold : List Row → Bool
all_hold [] = true
all_hold (r ∷ rs) = row_holds r && all_hold rs
