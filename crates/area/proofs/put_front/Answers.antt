-- The parts are put one behind the other; together they are the area's bytes before the schedules.
use lib.ListN.{length}
use mathlib.Core.Path.{◌≡◌, ap}
use borrow.Author.Rules.{rules}
use Rattle.allotment.proofs.Schedules.{owners-free}
use Rattle.node.specs.Core.{bare}
use Rattle.range.proofs.Lengths.{Lengths}
use Rattle.area.specs.Area.{node_size}
use Rattle.area.proofs.Writes.{front-is}
use Rattle.area.proofs.put_front.Goals as goal

pub returns : goal.returns
returns c =
    let h : length c.args.area.now ≡ node_size = search rules in
    let k : length c.args.c.round.known ≡ 32 = search rules in
    let m : length c.args.c.counters ≡ 32 = search rules in
    let l : Lengths (bare c.args.c) = record { schedule = ap length owners-free; known = k; counters = m; determined = ap length owners-free } in
    front-is c.args.area.now (bare c.args.c) h l c.small_bytes.ensures c.put_words.ensures c.put_bytes.ensures c.put_bytes-2.ensures
    c.put_bytes-3.ensures
