-- A load that is refused prints line 0 alone; one that is accepted leaves the site that the lines run on, and room for what they print.
use mathlib.Core.Path.{ap}
use Rattle.std.specs.Prelude.{Err}
use native.Mathlib.Omega.{arith}
use Rattle.machine.specs.Layout.{store}
use Rattle.desk.proofs.listings.Parts.{zeros-long, not-loaded, loaded, begun-list, bad-put, bad-area, run_room, rest-room, rest_put}
use Rattle.desk.proofs.listings.Parts.{area-is}
use borrow.Author.Rules.{rules}
use Rattle.desk.proofs.listings.print_run.Goals as goal

pub put_refused-requires : goal.put_refused-requires
put_refused-requires c =
    c.requires.some

-- A list or a day that breaks the rules is all that is told.
pub returns-in-Err : goal.returns-in-Err
returns-in-Err c =
    let a = c.args in
    let o = c.load in
    let r = not-loaded _ _ a.o c.requires.loads o.ensures.value c.in-Err.is in record {
      put = bad-put a.v a.day a.w.now a.script.now a.o a.area.now r.0 _ (ap Err r.1)
          c.put_refused.ensures;
      area_after = bad-area a.v a.day a.w.now a.script.now a.o a.area.now r.0;
    }

-- Behind the event lines the rest is left to be written (`rest-room`).
pub run-end-requires : goal.run-end-requires
run-end-requires c =
    let a = c.args in
    let f = c.requires in
    let o = c.load in
    let r = loaded _ _ a.o f.loads o.ensures.value c.in-Ok.is
    (store o.new.words o.new.bytes) o.ensures.bytes_after_2 in
    let n = f.nodes in
    let s = f.short in (
      f.from,
      omega arith,
      search rules,
      search rules,
      run_room a.v _ _ _ _ _ _ r.0 r.1 f c.put_head-to.ensures,
      begun-list a.day a.w.now a.o (store o.new.words o.new.bytes) c.in-Ok.start r.0 r.1,
    )

pub put_rest-requires : goal.put_rest-requires
put_rest-requires c =
    let a = c.args in
    let f = c.requires in
    let o = c.load in
    let r = loaded _ _ a.o f.loads o.ensures.value c.in-Ok.is (store o.new.words o.new.bytes) o.ensures.bytes_after_2
    in
    let k = c.run-end.auto in (
      f.nodes,
      f.slots,
      omega (arith, k.words, o.auto.words, zeros-long.0),
      omega (arith, k.bytes, o.auto.bytes, zeros-long.1),
      rest-room a.v _ _ _ _ _ _ r.0 r.1 f c.put_head-to.ensures c.run-end.ensures,
    )

pub returns : goal.returns
returns c =
    let a = c.args in
    let f = c.requires in
    let o = c.load in
    let r = loaded _ _ a.o f.loads o.ensures.value c.in-Ok.is (store o.new.words o.new.bytes) o.ensures.bytes_after_2
    in record {
      put = rest_put a.v _ _ _ _ _ _ r.0 r.1 f c.put_head-to.ensures c.run-end.ensures c.put_rest.ensures;
      area_after = area-is a.v _ _ _ _ _ _ r.0 r.1 f c.put_head-to.ensures c.run-end.ensures;
    }
