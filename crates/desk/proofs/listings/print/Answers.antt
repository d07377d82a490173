-- Each way out prints one case of the text: too little memory, a script too long, one that does not open, one that runs.
use native.Mathlib.Omega.{arith}
use lib.ListN.{length}
use Rattle.node.specs.Answers.{NoRoom}
use Rattle.std.specs.Prelude.{Err}
use Rattle.script.proofs.load.Outcome.{opened-config}
use Rattle.desk.proofs.listings.Bound.{room-some}
use Rattle.desk.proofs.listings.Parts.{short-area, long-script, refusal_is, refused-is, opens-fits, opens-put, opens-area}
use mathlib.Core.Path.{◌≡◌, sym}
use Rattle.desk.specs.listings.Output.{final_area}
use Rattle.desk.specs.listings.Calls.{text_of}
use Rattle.desk.specs.listings.Inner.{refusal_text}
use Rattle.desk.proofs.listings.print.Goals as goal
use Rattle.desk.proofs.listings.print.Goals.{then-area-lt-AREA-via-then-area-lt-AREA, then-area-lt-AREA-via-else-area-lt-AREA+then-script-gt-TOP_SCRIPT}

pub returns-then-area-lt-AREA : goal.returns-then-area-lt-AREA
returns-then-area-lt-AREA c =
    let a = c.args in
    let q : (text_of a.v a.day a.w.now a.script.now a.area.now ≡ refusal_text a.v 0 0 NoRoom) × (final_area a.day a.w.now a.script.now a.area.now ≡ a.area.now)
    = elim c.then-area-lt-AREA.branch [
      | then-area-lt-AREA-via-then-area-lt-AREA w ↦ short-area a.v a.day a.w.now a.script.now a.area.now w.if-area-lt-AREA.true
      | then-area-lt-AREA-via-else-area-lt-AREA+then-script-gt-TOP_SCRIPT w ↦
          long-script a.v a.day a.w.now a.script.now a.area.now w.if-area-lt-AREA.false w.if-script-gt-TOP_SCRIPT.true
    ] in
    let z = refusal_is a.v a.day a.w.now a.script.now a.area.now 0 0 NoRoom q.0 c.put_refused.ensures in record {
      put = z.0;
      area_after = sym q.1;
      within = z.1;
    }

pub put_refused-requires-in-Err : goal.put_refused-requires-in-Err
put_refused-requires-in-Err c = omega (arith, c.requires, room-some c.args.v (length c.args.script.now))

pub returns-in-Err : goal.returns-in-Err
returns-in-Err c =
    let a = c.args in
    let o = c.in-Err.ensures in
    let q = refused-is a.v a.day a.w.now a.script.now a.area.now c.if-area-lt-AREA.false c.if-script-gt-TOP_SCRIPT.false
    c.in-Err.e o.lines (opened-config a.script.now o.value) in
    let z = refusal_is a.v a.day a.w.now a.script.now a.area.now c.in-Err.e.config.split c.in-Err.e.line (Err c.in-Err.e.refusal) q.0
    c.put_refused-in-Err.ensures in record {
      put = z.0;
      area_after = sym q.1;
      within = z.1;
    }

pub print_run-requires : goal.print_run-requires
print_run-requires c =
    let a = c.args in
    let o = c.in-Ok.ensures in
    opens-fits a.v a.day a.w.now a.script.now a.area.now c.if-area-lt-AREA.false c.if-script-gt-TOP_SCRIPT.false
    c.in-Ok.o o.lines (opened-config a.script.now o.value) o.within c.requires

pub returns-in-Ok : goal.returns-in-Ok
returns-in-Ok c =
    let a = c.args in
    let o = c.in-Ok.ensures in
    let w = c.print_run.ensures in
    let z = opens-put a.v a.day a.w.now a.script.now a.area.now c.if-area-lt-AREA.false c.if-script-gt-TOP_SCRIPT.false
    c.in-Ok.o o.lines (opened-config a.script.now o.value) o.within w.put in
    let y = opens-area a.v a.day a.w.now a.script.now a.area.now c.if-area-lt-AREA.false c.if-script-gt-TOP_SCRIPT.false
    c.in-Ok.o o.lines (opened-config a.script.now o.value) o.within w.area_after in record {
      put = z.0;
      area_after = y;
      within = z.1;
    }
