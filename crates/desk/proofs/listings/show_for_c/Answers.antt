-- The length is the printed one where all was printed, and the one before where the call was refused.
use native.Mathlib.Omega.{arith}
use lib.ListN.{length}
use Rattle.std.proofs.Common.{rules}
use Rattle.std.specs.Prelude.{Err}
use mathlib.Core.Path.{◌≡◌, ◌∙◌}
use Rattle.desk.proofs.listings.Bound.{room-top}
use Rattle.desk.proofs.listings.Parts.{run-done, run-refused}
use Rattle.desk.proofs.listings.show_for_c.Goals as goal

pub overflow_cast-length : goal.overflow_cast-length
overflow_cast-length c = omega (arith, c.in_ok-length.ensures.within.1, room-top c.args.v (length c.args.script.now))

pub returns-in_err-length : goal.returns-in_err-length
returns-in_err-length c =
    let a = c.args in
    let o = c.show.ensures in
    let p : c.from_residual.result ≡ Err c.in_err-length.field-0.0 = search rules in
    let q = run-refused a.v a.day a.w.now a.script.now a.area.now a.out.now a.length.now o.value c.in_err-length.was in
    (p ∙ q.0, o.area_after, o.out_after, q.1)

pub returns : goal.returns
returns c =
    let a = c.args in
    let o = c.show.ensures in
    let q = run-done a.v a.day a.w.now a.script.now a.area.now a.out.now a.length.now o.value c.in_ok-length.was in
    (q.0, o.area_after, o.out_after, q.1)
