-- What is printed of the lines read so far, with what is printed of those to come, is what all of them print;
-- the site in storage is the one after the lines so far.
use mathlib.Core.Path.{refl, sym, ap, ◌∙◌}
use Prim.Native.Nat.{◌≤◌}
use native.Mathlib.Omega.{arith}
use lib.ListN.{length}
use Rattle.lists.proofs.Chain.{start, step, end, leftover, finish-by}
use Rattle.machine.specs.Layout.{store, words_size, bytes_size}
use Rattle.machine.specs.timed.Calls.{TimedState}
use Rattle.script.proofs.lines.Lines.{whole}
use Rattle.desk.specs.listings.Inner.{run_state_in}
use Rattle.desk.proofs.listings.Laws.{lines_none, run_none, lines-open, run-open, next-list, next-lines, next-run}
use Rattle.desk.proofs.listings.run.Goals as goal

pub loop-out-init : goal.loop-out-init
loop-out-init c =
    let p = c.requires in
    (omega arith, omega arith, refl, refl, refl, refl, start _ _ _ p.4, p.5)

pub shape_of-words-in-Nothing : goal.shape_of-words-in-Nothing
shape_of-words-in-Nothing c = c.loop-out.invariant.2

pub shape_of-bytes-in-Nothing : goal.shape_of-bytes-in-Nothing
shape_of-bytes-in-Nothing c = c.loop-out.invariant.3

pub shape_of-area-in-Nothing : goal.shape_of-area-in-Nothing
shape_of-area-in-Nothing c = c.loop-out.invariant.4

pub shape_of-out-in-Nothing : goal.shape_of-out-in-Nothing
shape_of-out-in-Nothing c = c.loop-out.invariant.6.long

pub returns-in-Nothing : goal.returns-in-Nothing
returns-in-Nothing c =
    let l = c.loop-out in
    let h = sym c.next_line.ensures ∙ c.in-Nothing.is in
    let a = c.args in
    let w = run_state_in (store l.words l.bytes) l.day l.area in
    let e = sym (run_none _ _ h _ w) ∙ l.invariant.5 in
    record {
      site = ap (λ (x : TimedState). x.timed.site) e;
      area = ap (λ (x : TimedState). x.area) e;
      put = end (leftover (lines_none _ _ h a.v a.w.now w l.n) l.invariant.6);
    }

pub shape_of-words-in-Open : goal.shape_of-words-in-Open
shape_of-words-in-Open c = c.loop-out.invariant.2

pub shape_of-bytes-in-Open : goal.shape_of-bytes-in-Open
shape_of-bytes-in-Open c = c.loop-out.invariant.3

pub shape_of-area-in-Open : goal.shape_of-area-in-Open
shape_of-area-in-Open c = c.loop-out.invariant.4

pub shape_of-out-in-Open : goal.shape_of-out-in-Open
shape_of-out-in-Open c = c.put_line.auto.out ∙ c.loop-out.invariant.6.long

pub returns-in-Open : goal.returns-in-Open
returns-in-Open c =
    let a = c.args in
    let l = c.loop-out in
    let w = run_state_in (store l.words l.bytes) l.day l.area in
    let h = sym c.next_line.ensures
    ∙ c.in-Open.is in
    let e = sym (run-open _ _ h _ w) ∙ l.invariant.5 in
    record {
      site = ap (λ (x : TimedState). x.timed.site) e;
      area = ap (λ (x : TimedState). x.area) e;
      put =
          finish-by _ (leftover (lines-open _ _ h a.v a.w.now w l.n) l.invariant.6)
          c.put_line.ensures;
    }

pub slice_bounds-event_line-count : goal.slice_bounds-event_line-count
slice_bounds-event_line-count c = let w = whole _ _ _ (sym c.next_line.ensures
    ∙ c.in-Ended.is) in omega (arith, w.from, w.within)

pub slice_bounds-event_line-start : goal.slice_bounds-event_line-start
slice_bounds-event_line-start c = let w = whole _ _ _ (sym c.next_line.ensures
    ∙ c.in-Ended.is) in omega (arith, w.from, w.within)

pub slice_bounds-event_line-end : goal.slice_bounds-event_line-end
slice_bounds-event_line-end c = let w = whole _ _ _ (sym c.next_line.ensures
    ∙ c.in-Ended.is) in omega (arith, w.from, w.within)

pub take_line-answer-requires : goal.take_line-answer-requires
take_line-answer-requires c =
    let l = c.loop-out in
    let p = c.requires in
    (omega (arith, p.2, l.invariant.2), omega (arith, p.3, l.invariant.3), l.invariant.7)

pub overflow_add-at : goal.overflow_add-at
overflow_add-at c =
    let w = whole _ _ _ (sym c.next_line.ensures ∙ c.in-Ended.is) in
    omega (arith, w.within, w.from)

pub overflow_add-n : goal.overflow_add-n
overflow_add-n c =
    let w = whole _ _ _ (sym c.next_line.ensures ∙ c.in-Ended.is) in
    omega (arith, w.within, w.from)

pub loop-out-smaller : goal.loop-out-smaller
loop-out-smaller c =
    let w = whole _ _ _ (sym c.next_line.ensures ∙ c.in-Ended.is) in
    omega (arith, w.within, w.from)

pub loop-out-preserved : goal.loop-out-preserved
loop-out-preserved c =
    let l = c.loop-out in
    let a = c.args in
    let p = c.requires in
    let q = whole _ _ _ (sym c.next_line.ensures ∙ c.in-Ended.is) in
    let s = store l.words l.bytes in
    let o = c.take_line-answer in
    let t = o.ensures in
    let e = c.event_line-event.ensures in
    let long : (words_size ≤ length s.words) × (bytes_size ≤ length s.bytes) =
    (omega (arith, p.2, l.invariant.2), omega (arith, p.3, l.invariant.3)) in (
      omega (arith, q.within),
      omega (arith, q.from),
      o.auto.words ∙ l.invariant.2,
      o.auto.bytes ∙ l.invariant.3,
      o.auto.area ∙ l.invariant.4,
      sym (next-run _ _ _ q a.w.now _ e a.v s l.day l.area t.answer t.report t.day_after t.bytes_after t.area_after) ∙ l.invariant.5,
      step _ _ (leftover (next-lines _ _ _ q a.w.now _ e a.v s l.day l.area t.answer t.report t.day_after t.bytes_after t.area_after long
          l.n) l.invariant.6) c.put_line-pos.ensures,
      next-list _ _ _ q a.w.now _ e a.v s l.day l.area t.answer t.report t.day_after t.bytes_after t.area_after l.invariant.7,
    )
