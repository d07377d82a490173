-- A node's phase as a byte, in a node's area, in a report, and in the storage of a site.
-- Assumes nothing.
use Rattle.std.specs.Prelude.{false, true, cond, ℕ, eqb}
use Rattle.node.specs.declared.Phase.{Phase}
use Rattle.node.specs.declared.Phase.TheVariants.{Waiting, Negotiation, Distribution}

-- a phase's byte: 0 negotiation, 1 distribution without sending, 2 distribution and sending, 3 waiting
abbrev pub phase_byte : Phase → ℕ
phase_byte Negotiation = 0
phase_byte (Distribution false) = 1
phase_byte (Distribution true) = 2
phase_byte Waiting = 3

-- the phase that a byte stands for
abbrev pub phase_of : ℕ → Phase
phase_of b = cond (eqb b 0) Negotiation (cond (eqb b 1) (Distribution false) (cond (eqb b 2) (Distribution true) Waiting))
