-- After i turns the first i bytes are put; without room nothing is.
use native.Mathlib.Nat.{add-zero}
use native.Mathlib.Numerals.{add-one}
use lib.ListN.{length-set, get_or, length, take}
use lib.Seq.{take-suc, take_all, length-take-le}
use Rattle.lists.proofs.Chain.{one, none, then, tried}
use mathlib.Core.Path.{◌≡◌, refl}
use Prim.Native.Nat.{◌≤◌, ◌<◌, ◌+◌}
use native.Mathlib.Omega.{arith}
use Rattle.lists.proofs.put_bytes.Goals as goal

pub loop-i-init : goal.loop-i-init
loop-i-init c = (omega arith, refl, rw add-zero (none _ _))

pub loop-i-preserved : goal.loop-i-preserved
loop-i-preserved c =
    let l = c.args.out.now in
    let at = c.args.at in
    let s = c.args.s.now in
    let i = c.loop-i.i in
    let o = c.loop-i.out in
    let h : i < length s = omega arith in
    let j : at + i + 1 ≤ length o = omega arith in
    let k : at + length (take i s) ≤ length l = rw (length-take-le i s (omega arith)) (omega arith) in
    let e : at + i + 1 ≡ at + (i + 1) = omega arith in (
      omega arith,
      simp length-set c.loop-i.invariant.1,
      rw (← e, add-one i, take-suc s i 0) (then k c.loop-i.invariant.2 (one o (at + i) (get_or s i 0) j)),
    )

pub returns : goal.returns
returns c =
    let s = c.args.s.now in
    let e : c.loop-i.i ≡ length s = omega arith in
    tried (omega arith) (rw e at rw (take_all c.loop-i.i s (omega arith)) at c.loop-i.invariant.2)
