use Rattle.std.proofs.Common.{refl, sym, ap, ◌∙◌, ℕ, Bool, arith}
use Rattle.reduce.specs.Inner.{state_of, says_of, line_text, line_gives, line_run, gives_but}
use Rattle.reduce.proofs.Kept.{gives-nothing, gives-hit, gives-next}
use Rattle.reduce.proofs.Search.gives.Goals as goal

pub returns-then-take : goal.returns-then-take
returns-then-take c =
    let a = c.args in
    let w = state_of c.loop-next.run in
    let p = says_of (line_text a.self.now.script.now c.loop-next.run.at c.in-Some.next) in
    let k = c.is_kept-kept.ensures in
    sym (c.loop-next.invariant.same ∙ gives-hit _ _ _ _ _ c.in-Some.ensures _ _ _
    (c.if-take.ensures.value ∙ ap (λ (t : Bool). line_gives t a.self.now.number w p) k)
    (c.take.ensures.after ∙ ap (λ (t : Bool). line_run t w p) k) refl)

pub loop-next-preserved : goal.loop-next-preserved
loop-next-preserved c =
    let a = c.args in
    let h = c.in-Some.ensures in
    let o = c.take.ensures in
    let w = state_of c.loop-next.run in
    let p = says_of (line_text a.self.now.script.now c.loop-next.run.at c.in-Some.next) in
    let k = c.is_kept-kept.ensures in
    record {
      within = omega (arith, o.at, h.within);
      same =
          c.loop-next.invariant.same ∙ gives-next _ _ _ _ _ h _ _ _
          (c.if-take.ensures.value ∙ ap (λ (t : Bool). line_gives t a.self.now.number w p) k)
          (o.after ∙ ap (λ (t : Bool). line_run t w p) k) refl
          ∙ ap (λ (i : ℕ). gives_but a.self.now.number a.self.now.script.now a.marks.now a.without.now.start a.without.now.end i
          (state_of c.take.new.run)) (sym o.at);
    }

pub returns : goal.returns
returns c = sym (c.loop-next.invariant.same ∙ gives-nothing _ _ _ _ _ c.in_default.ensures)
