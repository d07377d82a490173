-- A node (specification, 2 What a node holds) as the definitions speak of it, with its two schedules. The code has a node but for these
-- (`Core`), and the schedules as masks in bytes.
-- Assumes nothing.
use Rattle.std.specs.Prelude.{Bool, List, ℕ}
use Rattle.allotment.specs.Model.{Schedule}
use Rattle.node.specs.declared.Setup.{Setup}
use Rattle.node.specs.declared.Round.{Round}
use Rattle.node.specs.declared.Phase.{Phase}

-- for the epoch: C_e, I_e, the place f, and perhaps a determined schedule with the mark `updated`
pub record Epoch : Type 0 where
  pub counters : List ℕ
  pub interactions : ℕ
  pub place : ℕ
  pub updated : Bool
  pub determined : Schedule

pub record Node : Type 0 where
  pub setup : Setup
  pub version : ℕ
  pub schedule : Schedule
  pub demand : ℕ
  pub request : ℕ
  pub flags : ℕ
  pub round : Round
  pub epoch : Epoch
  pub phase : Phase

-- a node's two schedules: the one it holds, and the determined one
pub record Schedules : Type 0 where
  pub held : Schedule
  pub determined : Schedule

-- what a node sends in distribution
pub record Versioned : Type 0 where
  pub version : ℕ
  pub schedule : Schedule
