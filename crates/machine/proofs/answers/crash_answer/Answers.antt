use mathlib.Core.Path.{refl, sym}
use Rattle.words.proofs.Tests.{hit, skip}
use Rattle.machine.specs.Layout.{store}
use Rattle.machine.proofs.steps.Asked.{out, up}
use Rattle.site.specs.Answers.{site_crash}
use Rattle.machine.proofs.answers.crash_answer.Goals as goal

pub returns-then-outside : goal.returns-then-outside
unfolding site_crash
returns-then-outside c =
    let a = c.args in
    let s = store a.m.words.now a.m.bytes.now in
    sym (hit _ _ _ (out s c.header-k.ensures a.j c.outside.ensures c.if-outside.true))

pub returns-then-up : goal.returns-then-up
unfolding site_crash
returns-then-up c =
    let a = c.args in
    let s = store a.m.words.now a.m.bytes.now in
    let o = out s c.header-k.ensures a.j c.outside.ensures c.if-outside.false in
    sym (skip _ _ _ _ o (hit _ _ _ (up s a.j o refl c.up.ensures c.if-up.true)))

pub returns : goal.returns
unfolding site_crash
returns c =
    let a = c.args in
    let s = store a.m.words.now a.m.bytes.now in
    let o = out s c.header-k.ensures a.j c.outside.ensures c.if-outside.false in
    sym (skip _ _ _ _ o (skip _ _ _ _ (up s a.j o refl c.up.ensures c.if-up.false) refl))
