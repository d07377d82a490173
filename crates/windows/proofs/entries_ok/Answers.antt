use Rattle.std.proofs.Common.{arith, ◌≡◌, length, sym}
use mathlib.Core.Path.{◌∙◌}
use mathlib.Core.Bool.{true, not}
use Rattle.lists.specs.All.{all_below}
use Rattle.lists.proofs.Laws.{all_none, all_more, all_end}
use Rattle.windows.specs.Windows.{no_window, window_at, overlap, entry_ok}
use Rattle.windows.specs.declared.Window.{Window}
use Rattle.windows.proofs.Order.{all_fails, all-front, ordered, then_both, else_none}
use Rattle.windows.proofs.entries_ok.Goals as goal
use Rattle.windows.proofs.entries_ok.Goals.{then-is_ok, else-is_ok}

pub returns-then-in_order : goal.returns-then-in_order
returns-then-in_order c = ordered c.args.nodes c.args.day c.args.ws.now (sym c.in_order.ensures ∙ c.if-in_order.true)

pub loop-i-init : goal.loop-i-init
loop-i-init c = all_none _

pub returns-then-not-is_apart : goal.returns-then-not-is_apart
returns-then-not-is_apart c =
    let i = c.loop-i.i in
    let ws = c.args.ws.now in
    let q = λ (v : Window). not (overlap v (window_at ws i)) in
    let h : c.if-is_ok.value ≡ entry_ok c.args.nodes c.args.day ws i = elim c.if-is_ok.branch [
      | then-is_ok b ↦ then_both c.is_ok.ensures b.if-is_ok.true
          (b.value-is ∙ b.is_apart.ensures ∙ all-front q no_window ws i (omega arith))
      | else-is_ok b ↦ else_none (all_below i (λ k. q (window_at ws k))) c.is_ok.ensures b.if-is_ok.false b.value-is
    ] in
    all_fails (length ws) (entry_ok c.args.nodes c.args.day ws) i (omega arith) (sym h ∙ c.if-not-is_apart.true)

pub loop-i-preserved : goal.loop-i-preserved
loop-i-preserved c =
    let i = c.loop-i.i in
    let ws = c.args.ws.now in
    let q = λ (v : Window). not (overlap v (window_at ws i)) in
    let h : c.if-is_ok.value ≡ entry_ok c.args.nodes c.args.day ws i = elim c.if-is_ok.branch [
      | then-is_ok b ↦ then_both c.is_ok.ensures b.if-is_ok.true
          (b.value-is ∙ b.is_apart.ensures ∙ all-front q no_window ws i (omega arith))
      | else-is_ok b ↦ else_none (all_below i (λ k. q (window_at ws k))) c.is_ok.ensures b.if-is_ok.false b.value-is
    ] in
    all_more (entry_ok c.args.nodes c.args.day ws) i true true c.loop-i.invariant (sym c.if-not-is_apart.false ∙ h)

pub returns : goal.returns
returns c = all_end _ _ _ _ c.loop-i.invariant (omega arith)
