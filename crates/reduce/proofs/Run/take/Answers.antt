use Rattle.std.proofs.Common.{◌≡◌, sym, ap, ◌∙◌, rules, Option, Some, [], arith}
use Rattle.site.specs.declared.Event.{Event}
use Rattle.machine.specs.Layout.{store}
use Rattle.machine.proofs.timed.Stored.{Long, as-timed}
use Rattle.desk.specs.listings.Output.{line_answer, line_after}
use Rattle.reduce.specs.Reduced.{is_refusal}
use Rattle.reduce.specs.Inner.{state_of}
use Rattle.reduce.proofs.Run.take.Goals as goal

pub returns-in-Some-clause-value : goal.returns-in-Some-clause-value
returns-in-Some-clause-value c =
    let a = c.args in
    let r = a.self.now in
    let m : Long (store r.words r.bytes) = (omega arith, omega arith) in
    let t = as-timed (store r.words r.bytes) r.day r.area [] c.in-Some.e m in
    c.is_refusal-in-Some.ensures
    ∙ ap (is_refusal a.number) (c.step-answer.ensures.value ∙ t.0.0)
    ∙ sym (ap (λ (p : Option Event). is_refusal a.number (line_answer [] (state_of r) p)) c.in-Some.is)

pub returns-in-Some-clause-after : goal.returns-in-Some-clause-after
returns-in-Some-clause-after c =
    let a = c.args in
    let r = a.self.now in
    let m : Long (store r.words r.bytes) = (omega arith, omega arith) in
    let t = as-timed (store r.words r.bytes) r.day r.area [] c.in-Some.e m in
    let o = c.step-answer.ensures in
    (λ i. record {
      timed = record { site = (o.bytes_after_2 ∙ t.1.0) i; day = (o.day_after ∙ t.0.1) i };
      area = (o.area_after ∙ t.1.1) i;
    })
    ∙ sym (ap (line_after [] (state_of r)) c.in-Some.is)
