use native.Mathlib.Omega.{arith}
use Rattle.std.proofs.Common.{rules, of_calls}
use Rattle.std.proofs.lemmas.List.{length-replicate}
use Rattle.std.proofs.lemmas.Fn.{always_returns_same}
use mathlib.Core.Path.{sym, ◌∙◌}
use lib.Dec.{eqb}
use Rattle.script.proofs.lines.Fields.{part, none_read, none-of, read-short, read-bad, read_more, read_all}
use Rattle.script.proofs.lines.numbers.Goals as goal

pub returns-then-this-eq0 : goal.returns-then-this-eq0
returns-then-this-eq0 g c = sym (none-of _ _ c.if-this-eq0.true)

pub loop-x-init : goal.loop-x-init
loop-x-init g c =
    let s = c.splitn-pieces.ensures in
    none_read _ _ _ c.if-this-eq0.false (length-replicate g.row.N 0) s.count s.done s.rest

pub returns-in_err-next : goal.returns-in_err-next
returns-in_err-next g c =
    let e = read-short c.loop-x.invariant (omega arith) c.in_err-next.ensures.steps.1 in
    cc

pub returns-in_err-x : goal.returns-in_err-x
returns-in_err-x g c =
    let k = c.in_ok-next.ensures.steps.1 in
    let cut = part _ _ _ _ _ k.0 k.1 k.2
    (λ l. (k.4 l (λ b. eqb b 32) (always_returns_same _ _ _ (λ a r f q. search (rules, of_calls)))).1) in
    let e = read-bad c.loop-x.invariant _ _ _ k.3 cut (sym c.number.ensures ∙ c.in_err-x.was) in
    cc

pub loop-x-preserved : goal.loop-x-preserved
loop-x-preserved g c =
    let k = c.in_ok-next.ensures.steps.1 in
    let cut = part _ _ _ _ _ k.0 k.1 k.2
    (λ l. (k.4 l (λ b. eqb b 32) (always_returns_same _ _ _ (λ a r f q. search (rules, of_calls)))).1) in
    read_more c.loop-x.invariant _ _ _ k.3 cut _ k.0 k.1 c.in_ok-next.ensures.steps.0 (sym c.number.ensures ∙ c.in_ok-x.was)

pub returns : goal.returns
returns g c = sym (read_all c.loop-x.invariant (omega arith))
