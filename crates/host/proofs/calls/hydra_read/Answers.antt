use mathlib.Core.Path.{◌≡◌, refl, ap, ◌∙◌}
use Rattle.node.specs.declared.Core.{Core}
use Rattle.node.specs.Model.{Node}
use Rattle.area.specs.Area.{decoded}
use mathlib.Core.List.{◌++◌}
use Rattle.lists.specs.Bytes.{bytes32}
use Rattle.masks.specs.Bytes.{masks_in}
use Rattle.masks.specs.Air.{owners_to}
use Rattle.allotment.specs.Allotment.{free, schedule_of}
use Rattle.allotment.specs.Model.{Schedule}
use Rattle.node.specs.Core.{core_of, node_of, pair}
use Rattle.node.specs.Model.{Versioned}
use Rattle.node.proofs.Made.{same_sent}
use Rattle.wire.specs.Layout.{schedule_bytes}
use Rattle.area.specs.Area.{at_schedule, small_of}
use Rattle.area.proofs.Valid.{size_of, range-of}
use Rattle.host.specs.Report.{report_size, report}
use Rattle.host.specs.Calls.{room_answer, reading_of, out_read}
use Rattle.host.proofs.Answers.{passed-on, opened, no_node, is-node, core_is, put-out}
use Rattle.host.proofs.Stepped.{told_is}
use Rattle.host.proofs.calls.hydra_read.Goals as goal

-- a report doesn't tell the determined schedule
report-so : (n : Node) → report (node_of (core_of n) (pair n.schedule free)) ≡ report n
unfolding report
report-so n = ap (λ (q : Versioned). schedule_bytes q ++ (bytes32 n.flags ++ (bytes32 n.epoch.place ++ small_of n)))
    (same_sent (node_of (core_of n) (pair n.schedule free)) n refl refl)

pub returns-in_err-c : goal.returns-in_err-c
unfolding reading_of out_read
returns-in_err-c c =
    let z = no_node c.args.area.now (λ (n : Node). room_answer report_size c.args.out.now) c.read.ensures c.ok_or.ensures.value c.ok_or.ensures.ok_part c.in_err-c.was in record {
      value = passed-on _ c.from_residual.ensures.1 ∙ (z c.args.area.now c.args.area.now).0;
      out_after = (z _ _).1;
    }

pub report_into-requires : goal.report_into-requires
report_into-requires c =
    let a = c.args.area.now in
    let e = opened a c.read.ensures c.ok_or.ensures.ok_part c.in_ok-c.was in
    size_of a (is-node a e)

pub returns : goal.returns
unfolding reading_of out_read
returns c =
    let a = c.args.area.now in
    let e = opened a c.read.ensures c.ok_or.ensures.ok_part c.in_ok-c.was in
    let l = c.args.out.now in
    let h = told_is a (range-of a (is-node a e)) in
    let w = c.report_into.ensures in
    let whole = put-out a e (λ (n : Node). room_answer report_size l) (room_answer report_size l) report l refl
    (ap (λ (x : Core). report (node_of x (pair (schedule_of (owners_to (masks_in a at_schedule) x.setup.config.nodes)) free))) (core_is a e)
    ∙ ap (λ (s : Schedule). report (node_of (core_of (decoded a)) (pair s free))) h ∙ report-so (decoded a))
    w.value w.out_after in record {
      value = whole.0;
      out_after = whole.1;
    }
