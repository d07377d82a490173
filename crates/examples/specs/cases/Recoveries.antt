-- Histories in which a site recovers: the hypotheses of the three claims on calm epochs (crate recovery) can be met, also with `heard` 2
-- and at a site that may split; and a dark site in which an old version stands beside version 1.
-- Assumes nothing.
use Rattle.std.specs.Prelude.{◌≡◌, List, [], ◌∷◌, ◌++◌, map, ℕ, ◌≤◌, take}
use Rattle.allotment.specs.Allotment.{owners_of}
use Rattle.node.specs.Answers.{Done}
use Rattle.site.specs.Load.{load_answer}
use Rattle.site.specs.Members.{member_at}
use Rattle.site.specs.Run.{RunState}
use Rattle.node.specs.declared.Config.{Config}
use Rattle.site.specs.Model.{Site}
use Rattle.site.specs.declared.Event.{Event}
use Rattle.site.specs.declared.Event.TheVariants.{Send, Hear, Close, End, Want, Crash, Restart}
use Rattle.histories.specs.Past.{Determination, Past}
use Rattle.histories.specs.Reached.{reached, past_of, EndsEpoch}
use Rattle.recovery.specs.Calm.{live_set, unwatched, watched, Ready, Calm, epoch_end, whole, NobodyJoins, SameAsked}
use Rattle.examples.specs.cases.Histories.{area, trio, all_at, calm_body, ship, halves}

-- a moment of a history
abbrev pub moment : Config → List Event → RunState
moment f es = reached f (all_at 1) area es

abbrev pub past_then : Config → List Event → Past
past_then f es = past_of f (all_at 1) area es

-- three nodes, two rounds in an epoch, and a node must be heard in both; everybody hears everybody in both
abbrev pub strict : Config
strict = record { nodes = 3; slots = 4; rounds = 2; min_heard = 2; split = 0 }

abbrev pub two_rounds : List Event
two_rounds = calm_body ++ (End ∷ calm_body)

-- on the ship of four the aft half is lost in the first epoch; the two of the fore half hear each other
abbrev pub fore_talk : List Event
fore_talk = Send 1 ∷ Send 2 ∷ Hear 1 2 ∷ Hear 2 1 ∷ Close ∷ []

abbrev pub aft_lost : List Event
aft_lost = Crash 3 ∷ Crash 4 ∷ fore_talk ++ (End ∷ [])

-- nodes 1 and 2 lose their memory at version 2, begin anew at version 0 and determine version 1 without node 3
abbrev pub darkened : List Event
darkened =
    calm_body ++ (Crash 1 ∷ Crash 2 ∷ Restart 1 3 ∷ Want 1 2 ∷ Restart 2 3 ∷ Want 2 2 ∷ End ∷ Send 1 ∷ Send 2 ∷ Hear 1 2 ∷ Hear 2 1 ∷ Hear 3
    1 ∷ Hear 3 2 ∷ Close ∷ [])

-- version and owners of each of the three
abbrev pub three_hold : Site → List (List ℕ)
three_hold s = map (λ j. (member_at s j).node.version ∷ take 4 (owners_of (member_at s j).node.schedule)) (1 ∷ 2 ∷ 3 ∷ [])

-- of each determination of an epoch: node and version
abbrev pub determined_in : Past → List (List ℕ)
determined_in y = map (λ (d : Determination). d.epoch ∷ d.node ∷ d.version ∷ []) y.log

pub record Recoveries : Type 0 where
  -- a second calm epoch behind the first, with the same members and requests
  pub ready-again : Ready (past_then trio (whole calm_body)) (moment trio (whole calm_body)).site 2
  pub calm-again : Calm (live_set (moment trio (whole calm_body)).site) (moment trio (whole calm_body)) calm_body
  pub same_asked : SameAsked (moment trio []).site (moment trio (whole calm_body)).site
  -- a calm epoch with `heard` 2: two full rounds, and nobody joins at its end
  pub strict-loads : load_answer strict (all_at 1) ≡ Done
  pub strict-ready : Ready (past_then strict []) (moment strict []).site 1
  pub strict-calm : Calm (live_set (moment strict []).site) (moment strict []) two_rounds
  pub strict-often : 2 ≤ (watched (live_set (moment strict []).site) unwatched (moment strict []) two_rounds).full
  pub strict-joins : NobodyJoins (moment strict []).site (epoch_end (moment strict []) two_rounds)
  -- a calm epoch of two live nodes of four, at a site that may split
  pub fore-ready : Ready (past_of ship halves area aft_lost) (reached ship halves area aft_lost).site 2
  pub fore-calm : Calm (live_set (reached ship halves area aft_lost).site) (reached ship halves area aft_lost) fore_talk
  pub fore-live : live_set (reached ship halves area aft_lost).site ≡ 3
  -- the dark site: in its second epoch nodes 1 and 2 determine version 1; node 3 holds version 2 beside it, with slots 3 and 4 otherwise
  -- than version 1 gives them; and with the epoch's end all its slots are free
  pub dark-ends : EndsEpoch (moment trio darkened)
  pub dark-determined : determined_in (past_then trio darkened) ≡ (0 ∷ 1 ∷ 2 ∷ []) ∷ (0 ∷ 2 ∷ 2 ∷ []) ∷ (0 ∷ 3 ∷ 2 ∷ []) ∷ (1 ∷ 1 ∷ 1 ∷ []) ∷
      (1 ∷ 2 ∷ 1 ∷ []) ∷ []
  pub dark-epoch : (past_then trio darkened).epoch ≡ 1
  pub old-beside : three_hold (moment trio darkened).site ≡ (1 ∷ 1 ∷ 2 ∷ 1 ∷ 2 ∷ []) ∷ (1 ∷ 1 ∷ 2 ∷ 1 ∷ 2 ∷ []) ∷ (2 ∷ 1 ∷ 2 ∷ 3 ∷ 1 ∷ [])
      ∷ []
  pub old-gone : three_hold (moment trio (whole darkened)).site
      ≡ (1 ∷ 1 ∷ 2 ∷ 1 ∷ 2 ∷ []) ∷ (1 ∷ 1 ∷ 2 ∷ 1 ∷ 2 ∷ []) ∷ (0 ∷ 0 ∷ 0 ∷ 0 ∷ 0 ∷ []) ∷ []
