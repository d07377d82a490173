use Rattle.std.proofs.Common.{sym, ◌∙◌, arith}
use Rattle.reduce.proofs.Outcome.{short, loads, events-none, events-given, lines-room, events-done}
use Rattle.reduce.proofs.reduce_events.Goals as goal

pub invariant_of-search : goal.invariant_of-search
invariant_of-search c =
    let a = c.args in
    let y = c.requires in
    record { short = short a.number a.script.now a.out.now y.fits; within = y.from; loads = loads a.number _ _ _ y }

pub returns-then-not-given : goal.returns-then-not-given
returns-then-not-given c =
    events-none _ _ _ _ c.requires c.mark_lines.new.marks c.mark_lines.ensures
    (sym c.given.ensures ∙ c.if-not-given.true)

pub shorten-requires : goal.shorten-requires
shorten-requires c = sym c.given.ensures ∙ c.if-not-given.false

pub put_kept-requires : goal.put_kept-requires
put_kept-requires c = lines-room c.args.number _ _ _ c.requires c.settle.new.marks c.put_bytes-head.ensures

pub returns : goal.returns
returns c =
    let a = c.args in
    events-done _ _ _ _ c.requires c.settle.new.marks c.put_bytes-head.ensures
    (events-given _ _ _ _ c.requires c.mark_lines.new.marks c.mark_lines.ensures
    (sym c.given.ensures ∙ c.if-not-given.false))
    (omega (arith, short a.number a.script.now a.out.now c.requires.fits, c.settle.array_long)) c.settle.ensures _ _ c.put_kept.ensures
