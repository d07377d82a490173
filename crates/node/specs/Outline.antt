-- A node without what demands steer: its demand and its request, the requests that it knows, and its two schedules. Of the known
-- requests only whose they are is left. Nothing that a node tells of a close looks at the rest (proofs/Outline.antt).
-- Assumes nothing.
use Rattle.std.specs.Prelude.{Bool, List, ℕ}
use Rattle.membership.specs.requests.Requests.{requesters}
use Rattle.node.specs.declared.Setup.{Setup}
use Rattle.node.specs.Model.{Node}
use Rattle.node.specs.declared.Phase.{Phase}

pub record Outline : Type 0 where
  pub setup : Setup
  pub version : ℕ
  pub flags : ℕ
  pub phase : Phase
  -- of the round: M', the nodes with a request in R', lowest and highest version, C_r
  pub merged : ℕ
  pub asked : ℕ
  pub lowest : ℕ
  pub highest : ℕ
  pub heard : ℕ
  -- of the epoch: C_e, I_e, f, and the mark `updated`
  pub counters : List ℕ
  pub interactions : ℕ
  pub place : ℕ
  pub updated : Bool

abbrev pub outline_of : Node → Outline
outline_of n =
    record {
      setup = n.setup;
      version = n.version;
      flags = n.flags;
      phase = n.phase;
      merged = n.round.merged;
      asked = requesters n.round.known;
      lowest = n.round.lowest;
      highest = n.round.highest;
      heard = n.round.heard;
      counters = n.epoch.counters;
      interactions = n.epoch.interactions;
      place = n.epoch.place;
      updated = n.epoch.updated;
    }
