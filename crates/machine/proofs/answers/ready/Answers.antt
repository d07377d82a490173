use mathlib.Core.Path.{refl, sym, ap, ◌∙◌}
use mathlib.Core.Bool.{not}
use Rattle.words.proofs.Tests.{hit, skip}
use Rattle.machine.specs.Layout.{store}
use Rattle.machine.proofs.steps.Asked.{out, phase, live}
use Rattle.machine.specs.steps.Inner.{answer_ready}
use Rattle.machine.proofs.answers.ready.Goals as goal

pub returns-then-outside : goal.returns-then-outside
unfolding answer_ready
returns-then-outside c =
    let a = c.args in
    let s = store a.m.words.now a.m.bytes.now in
    sym (hit _ _ _ (out s c.header-k.ensures a.j c.outside.ensures c.if-outside.true))

pub returns-then-not-k : goal.returns-then-not-k
unfolding answer_ready
returns-then-not-k c =
    let a = c.args in
    let s = store a.m.words.now a.m.bytes.now in
    let o = out s c.header-k.ensures a.j c.outside.ensures c.if-outside.false in
    sym (skip _ _ _ _ o (hit _ _ _ (ap not (phase s c.header-k.ensures refl) ∙ c.if-not-k.true)))

pub returns-then-not-live : goal.returns-then-not-live
unfolding answer_ready
returns-then-not-live c =
    let a = c.args in
    let s = store a.m.words.now a.m.bytes.now in
    let o = out s c.header-k.ensures a.j c.outside.ensures c.if-outside.false in
    sym (skip _ _ _ _ o (skip _ _ _ _ (ap not (phase s c.header-k.ensures refl) ∙ c.if-not-k.false)
    (hit _ _ _ (ap not (live s a.j o refl c.live.ensures refl ∙ c.if-not-live.true)))))

pub returns : goal.returns
unfolding answer_ready
returns c =
    let a = c.args in
    let s = store a.m.words.now a.m.bytes.now in
    let o = out s c.header-k.ensures a.j c.outside.ensures c.if-outside.false in
    sym (skip _ _ _ _ o (skip _ _ _ _ (ap not (phase s c.header-k.ensures refl) ∙ c.if-not-k.false)
    (skip _ _ _ _ (ap not (live s a.j o refl c.live.ensures refl ∙ c.if-not-live.false)) refl)))
