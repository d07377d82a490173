use Rattle.std.proofs.Common.{arith, ◌≡◌, length, refl, sym, ap, add-one}
use mathlib.Core.Path.{◌∙◌}
use mathlib.Core.Bool.{true}
use Rattle.lists.proofs.Laws.{all_none, all_more, all_end}
use Rattle.windows.specs.Windows.{window_at}
use Rattle.windows.specs.Inner.{follows, last_of, ordered_at}
use Rattle.windows.specs.declared.Window.{Window}
use Rattle.windows.proofs.Order.{all_fails, then_both, else_none}
use Rattle.windows.proofs.in_order.Goals as goal
use Rattle.windows.proofs.in_order.Goals.{then-is_ok, else-is_ok}

pub loop-w-init : goal.loop-w-init
loop-w-init c = (all_none _, refl)

pub returns-then-not-follows : goal.returns-then-not-follows
returns-then-not-follows c =
    let m = c.loop-w in
    let p = ordered_at c.args.nodes c.args.day (window_at c.args.ws.now) in
    let w = window_at c.args.ws.now m.w-index in
    let h : c.if-is_ok.value ≡ p m.w-index = elim c.if-is_ok.branch [
      | then-is_ok b ↦ then_both c.is_ok.ensures b.if-is_ok.true
          (b.value-is ∙ b.follows.ensures ∙ ap (λ (v : Window). follows v w) m.invariant.1)
      | else-is_ok b ↦ else_none (follows (last_of (window_at c.args.ws.now) m.w-index) w) c.is_ok.ensures b.if-is_ok.false b.value-is
    ] in
    all_fails (length c.args.ws.now) p m.w-index (omega arith) (sym h ∙ c.if-not-follows.true)

pub loop-w-preserved : goal.loop-w-preserved
loop-w-preserved c =
    let m = c.loop-w in
    let p = ordered_at c.args.nodes c.args.day (window_at c.args.ws.now) in
    let w = window_at c.args.ws.now m.w-index in
    let h : c.if-is_ok.value ≡ p m.w-index = elim c.if-is_ok.branch [
      | then-is_ok b ↦ then_both c.is_ok.ensures b.if-is_ok.true
          (b.value-is ∙ b.follows.ensures ∙ ap (λ (v : Window). follows v w) m.invariant.1)
      | else-is_ok b ↦ else_none (follows (last_of (window_at c.args.ws.now) m.w-index) w) c.is_ok.ensures b.if-is_ok.false b.value-is
    ] in (
      all_more p m.w-index true true m.invariant.0 (sym c.if-not-follows.false ∙ h),
      sym (ap (last_of (window_at c.args.ws.now)) (add-one m.w-index)),
    )

pub returns : goal.returns
returns c = all_end _ _ _ _ c.loop-w.invariant.0 (omega arith)
