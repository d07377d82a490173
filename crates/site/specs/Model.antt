-- A site as the definitions speak of it: crate machine keeps one in lent numbers and does its events there.
-- Assumes nothing.
use Rattle.std.specs.Prelude.{Bool, List, ℕ}
use Rattle.node.specs.Model.{Node}
use Rattle.node.specs.declared.Config.{Config}

-- a node, and whether it is up: a node that is up is live or waits for the epoch's end
pub record Member : Type 0 where
  pub up : Bool
  pub node : Node

-- the phase and the place in the epoch move on with or without live nodes
pub record Site : Type 0 where
  pub config : Config
  pub negotiates : Bool
  pub place : ℕ
  pub sent : List ℕ
  pub members : List Member
