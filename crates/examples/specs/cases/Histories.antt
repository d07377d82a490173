-- Histories of small sites, each a list of events from an accepted table: what is determined in them, and that the hypotheses of the
-- theorems over lists can be met. proofs/cases/Computed.antt computes each of them by the definitions.
-- Assumes nothing.
use Rattle.std.specs.Prelude.{◌≡◌, Bool, true, false, List, [], ◌∷◌, ◌++◌, map, ℕ, ◌≤◌, take, replicate}
use Rattle.allotment.specs.Allotment.{owners_of}
use Rattle.node.specs.Answers.{Done}
use Rattle.site.specs.Members.{member_at}
use Rattle.site.specs.Answers.{area_size}
use Rattle.site.specs.Load.{load_answer}
use Rattle.node.specs.declared.Config.{Config}
use Rattle.site.specs.declared.Row.{Row}
use Rattle.site.specs.declared.Table.{Table}
use Rattle.site.specs.Model.{Site}
use Rattle.site.specs.declared.Event.{Event}
use Rattle.site.specs.declared.Event.TheVariants.{Send, Hear, Close, Take, End, Crash}
use Rattle.histories.specs.Past.{Determination}
use Rattle.agreement.specs.Demand.{determinations}
use Rattle.histories.specs.Reached.{reached, past_of}
use Rattle.recovery.specs.Calm.{live_set, unwatched, watched, Ready, Calm, epoch_end, NobodyJoins}
use Rattle.consensus.specs.Consensus.{informed}

-- a packet area of zeros
abbrev pub area : List ℕ
area = replicate area_size 0

-- of each determination: epoch, node, version, and the nodes it uses
abbrev pub summary : List Determination → List (List ℕ)
summary l = map (λ (d : Determination). d.epoch ∷ d.node ∷ d.version ∷ d.nodes ∷ []) l

-- one node, one slot, two rounds in an epoch, at version 1
abbrev pub alone_config : Config
alone_config = record { nodes = 1; slots = 1; rounds = 2; min_heard = 1; split = 0 }

abbrev pub alone_table : Table
alone_table = record { rows = record { version = 1; flags = 1; want = 1 } ∷ [] }

-- three nodes at a version, each with all three as flags and a demand of 2; four slots, one round in an epoch
abbrev pub trio : Config
trio = record { nodes = 3; slots = 4; rounds = 1; min_heard = 1; split = 0 }

abbrev pub all_at : ℕ → Table
all_at v = let r : Row = record { version = v; flags = 7; want = 2 } in record { rows = r ∷ r ∷ r ∷ [] }

-- the specification's whole case (section 8)
abbrev pub whole_case : List Event
whole_case = Send 2 ∷ Send 3 ∷ Hear 1 1 ∷ Hear 1 2 ∷ Close ∷ Take 3 2 ∷ Take 2 1 ∷ End ∷ []

-- everybody sends and hears both others
abbrev pub all_talk : List Event
all_talk = Send 1 ∷ Send 2 ∷ Send 3 ∷ Hear 1 2 ∷ Hear 1 3 ∷ Hear 2 1 ∷ Hear 2 3 ∷ Hear 3 1 ∷ Hear 3 2 ∷ []

-- a calm epoch up to its last end: so they do, and the round is closed
abbrev pub calm_body : List Event
calm_body = all_talk ++ (Close ∷ [])

-- a ship: four nodes at version 1 that may split, in halves that know of themselves alone; four slots, one round in an epoch
abbrev pub ship : Config
ship = record { nodes = 4; slots = 4; rounds = 1; min_heard = 1; split = 1 }

abbrev pub halves : Table
halves =
    let fore : Row = record { version = 1; flags = 3; want = 2 } in
    let aft : Row = record { version = 1; flags = 12; want = 2 } in
    record { rows = fore ∷ fore ∷ aft ∷ aft ∷ [] }

-- each hears the other one of its half
abbrev pub halves_talk : List Event
halves_talk = Send 1 ∷ Send 2 ∷ Send 3 ∷ Send 4 ∷ Hear 1 2 ∷ Hear 2 1 ∷ Hear 3 4 ∷ Hear 4 3 ∷ []

-- two nodes that may split; the second crashes in the first epoch, so that half of them begin the second one
abbrev pub pair : Config
pair = record { nodes = 2; slots = 1; rounds = 1; min_heard = 1; split = 1 }

abbrev pub pair_table : Table
pair_table = let r : Row = record { version = 1; flags = 3; want = 1 } in record { rows = r ∷ r ∷ [] }

abbrev pub one_left : List Event
one_left = Crash 2 ∷ Close ∷ End ∷ []

-- whether each of the three lacks no request of its M'
abbrev pub informed_three : Site → List Bool
informed_three s = map (λ j. informed (member_at s j).node) (1 ∷ 2 ∷ 3 ∷ [])

pub record Histories : Type 0 where
  -- the tables are accepted
  pub alone-loads : load_answer alone_config alone_table ≡ Done
  pub trio-loads : load_answer trio (all_at 1) ≡ Done
  pub dark-loads : load_answer trio (all_at 0) ≡ Done
  -- a lone node determines version 2 at both closes of its first epoch
  pub alone : summary (determinations alone_config alone_table area (Close ∷ End ∷ Close ∷ []))
      ≡ (0 ∷ 1 ∷ 2 ∷ 1 ∷ []) ∷ (0 ∷ 1 ∷ 2 ∷ 1 ∷ []) ∷ []
  -- in the whole case node 1 alone does, from the requests of all three
  pub whole : summary (determinations trio (all_at 1) area whole_case) ≡ (0 ∷ 1 ∷ 2 ∷ 7 ∷ []) ∷ []
  -- three nodes at version 0 that all hear each other each determine version 1
  pub dark : summary (determinations trio (all_at 0) area calm_body) ≡ (0 ∷ 1 ∷ 1 ∷ 7 ∷ []) ∷ (0 ∷ 2 ∷ 1 ∷ 7 ∷ []) ∷ (0 ∷ 3 ∷ 1 ∷ 7 ∷ []) ∷ []
  -- on the ship both halves determine version 2, each from the requests of its own nodes alone, and each gives all four slots to itself:
  -- what demand 3 would rule out
  pub ship-loads : load_answer ship halves ≡ Done
  pub apart : summary (determinations ship halves area (halves_talk ++ (Close ∷ [])))
      ≡ (0 ∷ 1 ∷ 2 ∷ 3 ∷ []) ∷ (0 ∷ 2 ∷ 2 ∷ 3 ∷ []) ∷ (0 ∷ 3 ∷ 2 ∷ 12 ∷ []) ∷ (0 ∷ 4 ∷ 2 ∷ 12 ∷ []) ∷ []
  pub two-owners : map (λ j. take 4 (owners_of (member_at (reached ship halves area (halves_talk ++ (Close ∷ End ∷ []))).site j).node.schedule)) (1 ∷ 4 ∷ []) ≡ (1 ∷ 2 ∷ 1 ∷ 2 ∷ []) ∷ (3 ∷ 4 ∷ 3 ∷ 4 ∷ []) ∷ []
  -- nobody lacks a request once all have talked, and only node 1 in the whole case before its close
  pub informed-all : informed_three (reached trio (all_at 1) area all_talk).site ≡ true ∷ true ∷ true ∷ []
  pub informed-one : informed_three (reached trio (all_at 1) area (Send 2 ∷ Send 3 ∷ Hear 1 1 ∷ Hear 1 2 ∷ [])).site
      ≡ true ∷ false ∷ false ∷ []
  -- the same three at version 1: a calm epoch, by the definitions that the theorem on recovery uses
  pub ready : Ready (past_of trio (all_at 1) area []) (reached trio (all_at 1) area []).site 1
  pub calm : Calm (live_set (reached trio (all_at 1) area []).site) (reached trio (all_at 1) area []) calm_body
  -- and one at a site that may split, with half of its nodes
  pub pair-loads : load_answer pair pair_table ≡ Done
  pub half-ready : Ready (past_of pair pair_table area one_left) (reached pair pair_table area one_left).site 1
  pub half-calm : Calm (live_set (reached pair pair_table area one_left).site) (reached pair pair_table area one_left) (Close ∷ [])
  -- with as many full rounds as a node must be heard in, and nobody who joins at its end
  pub often : trio.min_heard ≤ (watched (live_set (reached trio (all_at 1) area []).site) unwatched
      (reached trio (all_at 1) area []) calm_body
      ).full
  pub nobody-joins : NobodyJoins (reached trio (all_at 1) area []).site (epoch_end (reached trio (all_at 1) area []) calm_body)
