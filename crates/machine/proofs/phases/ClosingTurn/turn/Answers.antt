use mathlib.Core.Path.{◌≡◌, sym, ap, ◌∙◌}
use mathlib.Core.Bool.{Bool, true, false, not, ◌&&◌}
use native.Mathlib.Omega.{arith}
use Rattle.words.proofs.Tests.{both, and_left}
use Rattle.node.specs.Answers.{is_done}
use Rattle.node.specs.Close.{close_answer}
use Rattle.node.specs.Core.{core_of}
use Rattle.node.specs.Negotiation.{in_negotiation}
use Rattle.node.proofs.Bare.{close-phase}
use Rattle.node.specs.declared.Core.{Core}
use Rattle.site.specs.Model.{Member}
use Rattle.site.specs.Steps.{close_member}
use Rattle.machine.specs.Layout.{Store, store, node_in, stored_in}
use Rattle.machine.specs.Written.{closes, close_change}
use Rattle.machine.proofs.Moves.{stepped, close-done, closed-core}
use Rattle.machine.proofs.Seats.{live-stored, each_none, each-one}
use Rattle.machine.proofs.phases.ClosingTurn.turn.Goals as goal

pub returns-then-not-is_live : goal.returns-then-not-is_live
returns-then-not-is_live c =
    let a = c.args in
    let s = store a.words.now a.bytes.now in
    let no = live-stored s a.i ∙ sym c.is_live.ensures ∙ c.if-not-is_live.true in
    let e = each_none closes close_member close_change a.i s (ap (λ (t : Bool). t && is_done (close_answer (node_in s a.i))) no) in record {
      words_after = sym (ap (λ (x : Store). x.words) e);
      bytes_after = sym (ap (λ (x : Store). x.bytes) e);
    }

pub returns-then-is_err : goal.returns-then-is_err
returns-then-is_err c =
    let a = c.args in
    let s = store a.words.now a.bytes.now in
    let n = node_in s a.i in
    let live = live-stored s a.i ∙ sym c.is_live.ensures
    ∙ c.if-not-is_live.false in
    let answer = c.negotiation_answer.ensures
    ∙ ap (λ (x : Core). in_negotiation x.phase) c.core_with-c.ensures ∙ sym (close-phase n) in
    let no : is_done (close_answer n) ≡ false = ap is_done (sym answer) ∙ c.is_err.ensures.negation
    ∙ ap not c.if-is_err.true in
    let e = each_none closes close_member close_change a.i s (both live no) in record {
      words_after = sym (ap (λ (x : Store). x.words) e);
      bytes_after = sym (ap (λ (x : Store). x.bytes) e);
    }

pub put_core-requires : goal.put_core-requires
put_core-requires c =
    let p = c.requires in
    (p.0, p.1, p.2)

pub move_schedules-requires : goal.move_schedules-requires
move_schedules-requires c =
    let p = c.requires in
    let k = c.put_core.auto in
    (p.0, omega (arith, p.2, k.bytes))

pub returns : goal.returns
returns c =
    let a = c.args in
    let s = store a.words.now a.bytes.now in
    let i = a.i in
    let m = stored_in s i in
    let n = node_in s i in
    let live = live-stored s a.i
    ∙ sym c.is_live.ensures
    ∙ c.if-not-is_live.false in
    let core = c.core_with-c.ensures in
    let answer = c.negotiation_answer.ensures ∙ ap (λ (x : Core). in_negotiation x.phase) core ∙ sym (close-phase n) in
    let yes : is_done (close_answer n) ≡ true = ap is_done (sym answer)
    ∙ c.is_err.ensures.negation ∙ ap not c.if-is_err.false in
    let done = close-done m live yes in
    let up = sym (ap (λ (x : Member). x.up) done ∙ and_left _ _ live) in
    let made = closed-core n core c.close-o.ensures in
    let next = made.0 ∙ sym (ap (λ (x : Member). core_of x.node) done) in
    let e = each-one closes close_member close_change i s (both live yes) in
    let r = stepped s i (close_member m) up next made.1 core
    c.put_core.ensures.words_after
    c.put_core.ensures.bytes_after
    c.move_schedules.ensures in record {
      words_after = r.0 ∙ sym (ap (λ (x : Store). x.words) e);
      bytes_after = r.1 ∙ sym (ap (λ (x : Store). x.bytes) e);
    }
