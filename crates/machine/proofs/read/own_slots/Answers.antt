use mathlib.Core.Path.{◌≡◌, ap, ◌∙◌}
use mathlib.Core.Bool.{true}
use Prim.Native.Nat.{ℕ, ◌≤◌, ◌+◌}
use native.Mathlib.Omega.{arith}
use borrow.Author.Tests.{le-leb}
use lib.Bits
use lib.Bits.{or_lt}
use lib.Count.{ones}
use lib.Dec.{leb}
use lib.ListN.{length}
use Rattle.words.proofs.Tests.{hit}
use Rattle.words.specs.Bits.{how_many}
use Rattle.masks.specs.Slots.{owners_in, owns}
use Rattle.masks.specs.Bytes.{masks_size, masks_in}
use Rattle.masks.specs.Inner.{taken}
use Rattle.masks.proofs.Taken.{taken_none, taken-turn}
use Rattle.masks.proofs.Turns.{how_many-le}
use Rattle.machine.proofs.Owned.{own-count}
use Rattle.machine.proofs.read.own_slots.Goals as goal
use Rattle.machine.proofs.read.own_slots.Goals.{After-loop-j}

-- the ones that are left of its two words are the slots that it owns
abbrev slots : After-loop-j → ℕ
slots c =
    let a = c.args in
    how_many 80 (owns (owners_in (masks_in a.bytes.now a.at)) a.i)

abbrev left : ℕ → ℕ → ℕ
left w t = ones (Bits.bit_xor w (Bits.bit_and w t))

abbrev Owned : After-loop-j → Type 0
Owned c = left c.low_at-low.result c.loop-j.taken_low + left c.high_at-high.result
    c.loop-j.taken_high ≡ slots c

few : (c : After-loop-j) → slots c ≤ 80
few c = how_many-le 80 _

pub loop-j-init : goal.loop-j-init
loop-j-init c = (omega arith, taken_none _, taken_none _, omega arith, omega arith)

pub overflow_step-j : goal.overflow_step-j
overflow_step-j c = omega arith

pub loop-j-smaller : goal.loop-j-smaller
loop-j-smaller c = omega arith

pub loop-j-preserved : goal.loop-j-preserved
loop-j-preserved c =
    let l = c.loop-j in
    let a = c.args in
    let e : leb (a.at + masks_size) (length a.bytes.now) ≡ true = le-leb _ _ c.requires.1 in (
      omega arith,
      taken-turn _ _ _ _ l.invariant.1 (c.low_at-taken_low.ensures ∙ hit _ _ _ e),
      taken-turn _ _ _ _ l.invariant.2 (c.high_at-taken_high.ensures ∙ hit _ _ _ e),
      or_lt 64 _ _ l.invariant.3 (omega arith),
      or_lt 16 _ _ l.invariant.4 (omega arith),
    )

-- what the node owns, counted
owned : (c : After-loop-j) → Owned c
owned c =
    let l = c.loop-j in
    let a = c.args in
    let m = masks_in a.bytes.now a.at in
    let e : leb (a.at + masks_size) (length a.bytes.now) ≡ true = le-leb _ _ c.requires.1 in
    let z : l.j ≡ a.i = omega arith in
    own-count m a.i _ _ _ _ c.requires.0 (c.low_at-low.ensures ∙ hit _ _ _ e)
    (c.high_at-high.ensures ∙ hit _ _ _ e)
    (l.invariant.1 ∙ ap (taken m.low) z) (l.invariant.2 ∙ ap (taken m.high) z) (omega arith) l.invariant.3 (omega arith) l.invariant.4

pub overflow_add-result : goal.overflow_add-result
overflow_add-result c = omega (arith, owned c, few c)

pub overflow_cast-result : goal.overflow_cast-result
overflow_cast-result c = omega (arith, owned c, few c)

pub returns : goal.returns
returns c = owned c
