-- The set is tested at once and each entry by itself: together that is what each entry within the set says.
use mathlib.Core.Bool.{◌&&◌, true}
use mathlib.Core.Path.{◌≡◌, ap, ◌∙◌}
use Prim.Native.Nat.{ℕ}
use native.Mathlib.Omega.{arith}
use lib.ListN.{get_or, length}
use borrow.Author.Rules.{rules}
use Rattle.lists.specs.All.{all_below}
use Rattle.words.specs.Bits.{is_inside}
use Rattle.membership.specs.requests.Requests.{requesters, request_within}
use Rattle.membership.proofs.requests.Laws.{requests_fit, within-apart, within-none, within-more}
use Rattle.membership.proofs.requests.requests_within.Goals as goal

pub loop-x-init : goal.loop-x-init
loop-x-init c =
    let w = c.args.flags in
    within-none (λ j. request_within (get_or c.args.l j 0) true) (is_inside (requesters c.args.l) w) _
    (c.inside-ok.ensures ∙ ap (λ (x : ℕ). is_inside x w) c.requesters.ensures)

pub loop-x-preserved : goal.loop-x-preserved
loop-x-preserved c =
    within-more (λ j. request_within (get_or c.args.l j 0) true) c.loop-x.x-index (is_inside (requesters c.args.l) c.args.flags) _ _
    c.loop-x.invariant c.in_range-ok.ensures

pub returns : goal.returns
unfolding requests_fit
returns c =
    let h : length c.args.l ≡ 32 = search rules in
    c.loop-x.invariant
    ∙ ap (λ (k : ℕ). is_inside (requesters c.args.l) c.args.flags && all_below k (λ j. request_within (get_or c.args.l j 0) true)) (omega arith)
    ∙ within-apart c.args.l c.args.flags (omega arith)
