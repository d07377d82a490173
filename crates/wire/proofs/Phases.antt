-- Laws of a phase's byte: a phase comes back from its byte, and a byte up to 3 from its phase.
-- Assumes nothing.
use mathlib.Core.Path.{◌≡◌, refl, sym}
use mathlib.Core.Bool.{Bool, true, false, cond}
use Prim.Native.Nat.{ℕ, ◌≤◌}
use native.Mathlib.Omega.{arith}
use borrow.Author.Tests.{eqb-true, eqb-false}
use lib.Dec.{eqb}
use Rattle.node.specs.declared.Phase.{Phase}
use Rattle.node.specs.declared.Phase.TheVariants.{Waiting, Negotiation, Distribution}
use Rattle.wire.specs.Phases.{phase_byte, phase_of}

pub phase-back : (p : Phase) → phase_of (phase_byte p) ≡ p
phase-back Waiting = refl
phase-back Negotiation = refl
phase-back (Distribution false) = refl
phase-back (Distribution true) = refl

pub byte-back : (b : ℕ) → b ≤ 3 → phase_byte (phase_of b) ≡ b
byte-back b h = go (eqb b 0) (eqb b 1) (eqb b 2) refl refl refl
  where
    go : (x y z : Bool) → eqb b 0 ≡ x → eqb b 1 ≡ y → eqb b 2 ≡ z
        → phase_byte (cond x Negotiation (cond y (Distribution false) (cond z (Distribution true) Waiting))) ≡ b
    go true y z e f g = sym (eqb-true b 0 e)
    go false true z e f g = sym (eqb-true b 1 f)
    go false false true e f g = sym (eqb-true b 2 g)
    go false false false e f g = omega (arith, eqb-false b 0 e, eqb-false b 1 f, eqb-false b 2 g)

pub byte_low : (p : Phase) → phase_byte p ≤ 3
byte_low Waiting = omega arith
byte_low Negotiation = omega arith
byte_low (Distribution false) = omega arith
byte_low (Distribution true) = omega arith
