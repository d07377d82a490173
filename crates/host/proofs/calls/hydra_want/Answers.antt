use mathlib.Core.Path.{◌≡◌, refl, sym, ap, ◌∙◌}
use Rattle.node.specs.Answers.{is_done}
use Rattle.node.specs.declared.Core.{Core}
use Rattle.node.specs.Model.{Node}
use Rattle.area.specs.Area.{decoded}
use Rattle.area.proofs.Canon.{lengths}
use mathlib.Core.Bool.{Bool, true, false, cond}
use mathlib.Core.List.{List}
use native.Mathlib.Omega.{arith}
use Prim.Native.Nat.{ℕ}
use Rattle.node.specs.Core.{core_of, bare}
use Rattle.node.specs.Steps.{want_answer, wanted_node}
use Rattle.node.specs.Answers.{Answer}
use Rattle.node.specs.Answers.{Done, NotANode}
use Rattle.node.specs.declared.Move.TheVariants.{Keep}
use Rattle.node.proofs.Bare.{want-moved}
use Rattle.node.proofs.Cores.{step_of}
use Rattle.node.proofs.Bounds.{want-tests}
use Rattle.range.proofs.Lengths.{long-want}
use Rattle.area.specs.Area.{valid}
use Rattle.host.specs.Calls.{and_then, is_node_area, unless_refused, wanting_of, after_want}
use Rattle.host.proofs.Answers.{passed-on, then-stands, refusal, opened, no_node, is-node, core_is, steps}
use Rattle.host.proofs.Stepped.{gone, wanting-so}
use Rattle.host.proofs.calls.hydra_want.Goals as goal

-- a demand within its range leaves the answer to the area
decides : (a : List ℕ) (w : ℕ) → want_answer w ≡ Done → and_then (is_node_area a) (want_answer w) ≡ wanting_of a w
decides a w g = ap (and_then (is_node_area a)) g ∙ go (valid a) ∙ sym (wanting-so a w ∙ ap (λ (x : Answer). and_then x (is_node_area a)) g)
  where
    go : (t : Bool) → and_then (cond t Done NotANode) Done ≡ cond t Done NotANode
    go true = refl
    go false = refl

pub returns-in_err-want_answer : goal.returns-in_err-want_answer
unfolding after_want
returns-in_err-want_answer c =
    let a = c.args.area.now in
    let w = c.args.demand in
    let y = c.want_answer.ensures in
    let f = ap is_done c.in_err-want_answer.was in
    let z = refusal _ _ (wanting-so a w ∙ then-stands (want_answer w) (is_node_area a) (sym (ap is_done y) ∙ f) ∙ sym y) f _ _ in record {
      value = passed-on _ c.from_residual.ensures.1 ∙ sym c.in_err-want_answer.was ∙ z.0;
      area_after = z.1;
    }

pub returns-in_err-c : goal.returns-in_err-c
unfolding after_want
returns-in_err-c c =
    let a = c.args.area.now in
    let w = c.args.demand in
    let t = decides a w (sym c.want_answer.ensures ∙ c.in_ok-want_answer.was) in
    let z = no_node a (λ (n : Node). want_answer w) c.read.ensures c.ok_or.ensures.value c.ok_or.ensures.ok_part c.in_err-c.was _ _ in record {
      value = passed-on _ c.from_residual-in_err-c.ensures.1 ∙ z.0 ∙ t;
      area_after = z.1 ∙ ap (λ (k : Answer). unless_refused k (wanted_node (decoded a) w) a) t;
    }

pub overflow_cast-demand : goal.overflow_cast-demand
overflow_cast-demand c = omega (arith, want-tests _ (sym c.want_answer.ensures ∙ c.in_ok-want_answer.was))

pub returns : goal.returns
unfolding after_want
returns c =
    let a = c.args.area.now in
    let e = opened a c.read.ensures c.ok_or.ensures.ok_part c.in_ok-c.was in
    let w = c.args.demand in
    let n = decoded a in
    let g = sym c.want_answer.ensures ∙ c.in_ok-want_answer.was in
    let t = decides a w g in
    let s = gone a (is-node a e) (λ k. step_of (core_of (wanted_node (bare k) w)) Keep) (wanted_node n w) (core_is a e)
    (ap (λ (x : Core). step_of x Keep) c.want.ensures) (want-moved n w) (long-want n w (lengths a))
    c.step.ensures.area_after in
    let z = steps a e (λ (n : Node). want_answer w) (wanted_node n w) g s in record {
      value = z.0 ∙ t;
      area_after = z.1 ∙ ap (λ (k : Answer). unless_refused k (wanted_node n w) a) t;
    }
