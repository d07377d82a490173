use native.Mathlib.Omega.{arith}
use borrow.Author.Rules.{rules}
use mir.Val.{Fits}
use mir.Syntax.{w16, w64}
use lib.Count.{ones-le}
use Rattle.masks.proofs.bytes.ones.Goals as goal

pub overflow_add-result : goal.overflow_add-result
overflow_add-result c =
    let a = c.args in
    let f : Fits w64 a.low = search rules in
    let g : Fits w16 a.high = search rules in
    omega (arith, ones-le 64 a.low f.fits, ones-le 16 a.high g.fits)
