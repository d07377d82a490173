use mathlib.Core.List.{List}
use Prim.Native.Nat.{ℕ}
use mathlib.Core.Path.{sym, ap, ap₂, ◌∙◌}
use Rattle.node.specs.Answers.{is_done}
use Rattle.node.specs.declared.Core.{Core}
use Rattle.node.specs.Model.{Node}
use Rattle.area.specs.Area.{decoded}
use Rattle.area.proofs.Canon.{lengths}
use lib.Dec.{eqb}
use Rattle.node.specs.Core.{core_of, bare, core_taken, moved_by}
use Rattle.node.specs.Distribution.{taken_node}
use Rattle.node.specs.declared.CoreStep.{CoreStep}
use Rattle.node.specs.declared.Move.{Move}
use Rattle.node.proofs.Cores.{holding, take-moved, take-change}
use Rattle.range.proofs.Lengths.{long-take}
use Rattle.range.proofs.Ranges.{ranges}
use Rattle.lists.specs.Bytes.{span}
use native.Mathlib.Omega.{arith}
use Rattle.wire.specs.Layout.{schedule_in}
use Rattle.area.specs.Steps.{area_stepped, area_holding}
use Rattle.area.proofs.Steps.{took}
use Rattle.area.proofs.Valid.{range-of}
use Rattle.host.specs.Calls.{taken_answer, taking_of, after_take}
use Rattle.host.proofs.Answers.{passed-on, opened, no_node, is-node, core_is, refuses, steps}
use Rattle.host.proofs.Stepped.{taken-bare, taken-long, taken-masks}
use Rattle.host.proofs.Stays.{long-schedule}
use Rattle.host.proofs.calls.hydra_take.Goals as goal

pub returns-in_err-c : goal.returns-in_err-c
unfolding taking_of after_take
returns-in_err-c c =
    let z = no_node c.args.area.now (λ (n : Node). taken_answer n c.args.schedule.now) c.read.ensures c.ok_or.ensures.value c.ok_or.ensures.ok_part c.in_err-c.was in record {
      value = passed-on _ c.from_residual.ensures.1 ∙ (z c.args.area.now c.args.area.now).0;
      area_after = (z _ _).1;
    }

pub returns-in_err-take_bytes : goal.returns-in_err-take_bytes
unfolding taking_of after_take
returns-in_err-take_bytes c =
    let a = c.args.area.now in
    let e = opened a c.read.ensures c.ok_or.ensures.ok_part c.in_ok-c.was in
    let s = c.args.schedule.now in
    let k = core_is a e in
    let y = c.take_bytes.ensures ∙ ap (λ (x : Core). taken_answer (bare x) s) k ∙ taken-bare (decoded a) s in
    let z = refuses a e (λ (n : Node). taken_answer n s) _ y (ap is_done c.in_err-take_bytes.was) _ _ in record {
      value = passed-on _ c.from_residual-in_err-take_bytes.ensures.1 ∙ sym c.in_err-take_bytes.was ∙ z.0;
      area_after = z.1;
    }

pub hold_owners-requires : goal.hold_owners-requires
hold_owners-requires c =
    let a = c.args.area.now in
    let e = opened a c.read.ensures c.ok_or.ensures.ok_part c.in_ok-c.was in
    let s = c.args.schedule.now in
    let k = core_is a e in
    let y = c.take_bytes.ensures ∙ ap (λ (x : Core). taken_answer (bare x) s) k ∙ taken-bare (decoded a) s in
    let z = ap (λ (x : Core). x.setup.config.slots) k in (
      taken-long (decoded a) s (sym y ∙ c.in_ok-take_bytes.was),
      omega (arith, z, (ranges (decoded a) (range-of a (is-node a e))).setting.bounds.slots-to),
    )

pub returns : goal.returns
unfolding taking_of after_take schedule_in
returns c =
    let a = c.args.area.now in
    let e = opened a c.read.ensures c.ok_or.ensures.ok_part c.in_ok-c.was in
    let s = c.args.schedule.now in
    let n = decoded a in
    let q = schedule_in s in
    let k = core_is a e in
    let y = c.take_bytes.ensures ∙ ap (λ (x : Core). taken_answer (bare x) s) k ∙ taken-bare (decoded a) s in
    let x = sym y ∙ c.in_ok-take_bytes.was in
    let g = c.take-taken.ensures ∙ ap₂ core_taken k c.word.ensures in
    let o : ℕ → List ℕ = λ j. span s 4 j in
    let w = c.hold_owners.ensures ∙ ap (λ (x : Core). area_holding (o x.setup.config.slots) a) k in
    let b = c.in_ok-c.c in
    let t = eqb n.version q.version in
    let u = core_taken (core_of n) q.version in
    let whole = steps a e (λ (n : Node). taken_answer n s) (taken_node n q) x
    (c.step.ensures.area_after ∙ ap₂ (λ (x : CoreStep) (l : List ℕ). area_stepped x.core x.change b l) g w
    ∙ ap (λ (m : Move). area_stepped u.core m b (area_holding (o n.setup.config.slots) a)) (take-change (core_of n) q.version)
    ∙ took a (is-node a e) u.core b t q (o n.setup.config.slots) (taken_node n q) (taken-masks n s x)
    (ap (moved_by (holding n q) u.core) (sym (take-change (core_of n) q.version)) ∙ take-moved n q)
    (long-take n q (lengths a) (long-schedule s))) in record {
      value = whole.0;
      area_after = whole.1;
    }
