use Prim.Native.Nat.{◌<◌}
use native.Mathlib.Omega.{arith}
use lib.ListN.{length}
use Rattle.text.proofs.Pieces.{before_here, before_more, before-end}
use Rattle.sites.proofs.many.Lists.{place_is}
use Rattle.sites.proofs.places.place_of.Goals as goal

pub loop-i-init : goal.loop-i-init
loop-i-init c = omega (arith, place_is c.args.x c.args.places.now)

pub returns-then-p-x : goal.returns-then-p-x
returns-then-p-x c =
    let l = c.loop-i in
    let a = c.args in
    let h : l.i < length a.places.now = omega arith in record {
      value = omega (arith, before_here a.x a.places.now l.i h c.if-p-x.true, l.invariant);
      within = omega arith;
    }

pub loop-i-preserved : goal.loop-i-preserved
loop-i-preserved c =
    let l = c.loop-i in
    let a = c.args in
    let h : l.i < length a.places.now = omega arith in
    omega (arith, before_more a.x a.places.now l.i h c.if-p-x.false, l.invariant)

pub returns : goal.returns
returns c =
    let l = c.loop-i in
    let a = c.args in record {
      value = omega (arith, before-end a.x a.places.now l.i (omega arith), l.invariant);
      within = omega arith;
    }
