use mathlib.Core.Path.{refl, sym, ap, ◌∙◌}
use Rattle.std.specs.Prelude.{Some}
use Rattle.words.proofs.Tests.{hit, skip}
use Rattle.node.specs.Core.{bare}
use Rattle.node.specs.Grounds.{ground_of}
use Rattle.node.specs.declared.Core.{Core}
use Rattle.node.proofs.Bare.{ground-bare}
use Rattle.machine.specs.Layout.{store}
use Rattle.machine.specs.Loading.{member_read}
use Rattle.machine.specs.reports.Reports.{member_report}
use Rattle.machine.proofs.reports.tell.Goals as goal

pub returns-then-is_live : goal.returns-then-is_live
unfolding member_report
returns-then-is_live c =
    let a = c.args in
    let m = member_read (store a.words.now a.bytes.now) a.j in
    let ground = c.ground.ensures ∙ ap (λ (x : Core). ground_of (bare x)) c.core-c.ensures ∙ ground-bare m.node in
    ap Some ground ∙ sym (hit _ _ _ (sym c.is_live.ensures ∙ c.if-is_live.true))

pub returns : goal.returns
unfolding member_report
returns c = sym (skip _ _ _ _ (sym c.is_live.ensures ∙ c.if-is_live.false) refl)
