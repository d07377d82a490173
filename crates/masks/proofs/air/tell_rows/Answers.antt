-- From node to node: the words of one more are laid over the owners.
use mathlib.Core.Path.{◌≡◌, sym, ap, ◌∙◌, subst}
use Prim.Native.Nat.{ℕ, min, ◌≤◌, ◌<◌, ◌-◌, ◌+◌, ◌^◌}
use native.Mathlib.Nat.{lt_of_lt_of_le}
use native.Mathlib.Omega.{arith}
use mir.Val.{Fits}
use mir.Syntax.{w16, w64}
use lib.Pow.{pow_mono}
use lib.ListN.{length}
use borrow.Author.Rules.{rules}
use Rattle.lists.specs.All.{tab}
use Rattle.lists.proofs.Laws.{length-tab}
use Rattle.masks.specs.Slots.{low_of, high_of, first, holds}
use Rattle.masks.specs.Bytes.{masks_in}
use Rattle.masks.specs.Air.{owners_to}
use Rattle.masks.specs.Inner.{slots_given}
use Rattle.masks.proofs.First.{first-zero}
use Rattle.masks.proofs.Turns.{tab-zeros, slot_in, owners-turn}
use Rattle.masks.proofs.Rows.{low_read, high_read}
use Rattle.masks.proofs.air.tell_rows.Goals as goal

pub loop-i-init : goal.loop-i-init
loop-i-init c =
    let e = c.wipe_owners.ensures in (
      omega arith,
      c.requires.1,
      c.requires.0,
      ap length e,
      e ∙ tab-zeros 80 _ (λ k l. first-zero _),
    )

pub overflow_mul-i : goal.overflow_mul-i
overflow_mul-i c = omega arith

pub overflow_add-at : goal.overflow_add-at
overflow_add-at c = omega arith

pub overflow_add-at-in-loop-i : goal.overflow_add-at-in-loop-i
overflow_add-at-in-loop-i c = omega arith

pub overflow_mul-i-in-loop-i : goal.overflow_mul-i-in-loop-i
overflow_mul-i-in-loop-i c = omega arith

pub overflow_add-at-in-loop-i-2 : goal.overflow_add-at-in-loop-i-2
overflow_add-at-in-loop-i-2 c = omega arith

pub overflow_add-i : goal.overflow_add-i
overflow_add-i c = omega arith

pub overflow_cast-i : goal.overflow_cast-i
overflow_cast-i c = omega arith

pub give-requires : goal.give-requires
give-requires c =
    let q = c.loop-i in
    let l : 64 ≤ length q.owners - 0 = omega (arith, q.invariant.3) in
    let f : Fits w64 c.long_word-a.result = search rules in
    (omega arith, lt_of_lt_of_le f.fits (pow_mono l))

pub overflow_cast-b : goal.overflow_cast-b
overflow_cast-b c = omega arith

pub overflow_add-i-in-loop-i : goal.overflow_add-i-in-loop-i
overflow_add-i-in-loop-i c = omega arith

pub overflow_cast-i-in-loop-i : goal.overflow_cast-i-in-loop-i
overflow_cast-i-in-loop-i c = omega arith

pub give-requires-in-loop-i : goal.give-requires-in-loop-i
give-requires-in-loop-i c =
    let e : length c.give.new.owners ≡ 80 = search rules in
    let l : 16 ≤ length c.give.new.owners - 64 = omega (arith, e) in
    let f : Fits w16 c.short_word-b.result = search rules in
    (omega (arith, e), lt_of_lt_of_le f.fits (pow_mono l))

pub overflow_step-i : goal.overflow_step-i
overflow_step-i c = omega arith

pub loop-i-smaller : goal.loop-i-smaller
loop-i-smaller c = omega arith

pub loop-i-preserved : goal.loop-i-preserved
loop-i-preserved c =
    let l = c.loop-i in
    let s = c.args.s.now in
    let m = masks_in s c.args.at in
    let k : l.i < 32 = omega arith in
    let x : c.long_word-a.result ≡ low_of m l.i = c.long_word-a.ensures ∙ low_read s c.args.at l.i k in
    let y : c.short_word-b.result ≡ high_of m l.i = c.short_word-b.ensures
    ∙ high_read s c.args.at l.i k in
    let f : Fits w64 c.long_word-a.result = search rules in
    let z = owners-turn m.low m.high l.i _ _ _ (subst (λ (w : ℕ). w < 2 ^ 64) x f.fits) l.invariant.4
    (c.give.ensures ∙ ap (λ (w : ℕ). slots_given l.owners 0 w (l.i + 1)) x)
    (c.give-in-loop-i.ensures ∙ ap (λ (w : ℕ). slots_given c.give.new.owners 64 w (l.i + 1)) y) in
    (omega arith, l.invariant.1, l.invariant.2, ap length z ∙ length-tab 80 _, z)

pub shape_of-owners : goal.shape_of-owners
shape_of-owners c = c.loop-i.invariant.3 ∙ sym c.requires.2

pub returns : goal.returns
unfolding owners_to holds
returns c =
    let l = c.loop-i in
    let m = masks_in c.args.s.now c.args.at in
    let e : l.i ≡ min c.args.top 32 = omega arith in
    l.invariant.4 ∙ ap (λ (n : ℕ). tab 80 (λ k. first n (slot_in m.low m.high k))) e
