-- The tests one after another; the demand is written where none of them refuses.
use mathlib.Core.Bool.{Bool, true, false, not, cond, ◌&&◌}
use mathlib.Core.List.{List}
use mathlib.Core.Path.{◌≡◌, refl, sym, ap, ◌∙◌}
use Prim.Native.Nat.{ℕ}
use borrow.Author.Tests.{lt-ltb, le-ltb}
use lib.Dec.{ltb, leb}
use Rattle.std.specs.Prelude.{Option, Some, None, is_some}
use Rattle.std.proofs.lemmas.Option.{same_Some}
use Rattle.words.proofs.Tests.{skip}
use Rattle.node.specs.Answers.{Answer, Done, OutOfRange, NoSuchNode, BadWindows, is_done}
use Rattle.windows.specs.Windows.{list_ok, due_at, looked_of}
use Rattle.windows.specs.declared.Window.{Window}
use Rattle.host.specs.lookup.Lookup.{nodes_ok, demand_answer, demand_after}
use Rattle.host.proofs.Answers.{passed-on, found, missing, told-missing}
use Rattle.host.proofs.lookup.hydra_demand.Goals as goal

module _ (N j D : ℕ) (ws : List Window) (e d : ℕ) where
  abbrev answer : Answer
  answer = demand_answer N j D ws e

  -- a refusal leaves the demand
  refused : (x : Answer) → is_done x ≡ false → x ≡ answer → (x ≡ answer) × (d ≡ demand_after N j D ws e d)
  unfolding demand_after
  refused x f k = (k, sym (skip (is_done answer) (due_at ws j e d) d d (ap is_done (sym k) ∙ f) refl))

  -- the tests behind each test
  abbrev of-epoch : Bool → Answer
  of-epoch t = cond t Done OutOfRange

  abbrev of-list : Bool → Answer
  of-list t = cond (not t) BadWindows (of-epoch (ltb e D))

  abbrev of-node : Bool → Answer
  of-node t = cond (not t) NoSuchNode (of-list (list_ok N D ws))

  no-nodes : nodes_ok N ≡ false → OutOfRange ≡ answer
  unfolding demand_answer
  no-nodes a = sym (ap (λ (t : Bool). cond (not t) OutOfRange (of-node (leb 1 j && leb j N))) a)

  module _ (a : nodes_ok N ≡ true) where
    node-next : answer ≡ of-node (leb 1 j && leb j N)
    unfolding demand_answer
    node-next = ap (λ (t : Bool). cond (not t) OutOfRange (of-node (leb 1 j && leb j N))) a

    no-node : (leb 1 j && leb j N) ≡ false → NoSuchNode ≡ answer
    no-node b = sym (node-next ∙ ap of-node b)

    module _ (b : (leb 1 j && leb j N) ≡ true) where
      list-next : answer ≡ of-list (list_ok N D ws)
      list-next = node-next ∙ ap of-node b

      module _ {o : Option ℕ} (s : o ≡ looked_of N D ws j e d) where
        tested : is_some o ≡ list_ok N D ws
        tested = ap is_some s ∙ go (list_ok N D ws)
          where
            go : (t : Bool) → is_some (cond t (Some (due_at ws j e d)) None) ≡ t
            go true = refl
            go false = refl

        no-list : o ≡ None → BadWindows ≡ answer
        no-list f = sym (list-next ∙ ap of-list (sym tested ∙ ap is_some f))

        module _ {due : ℕ} (f : o ≡ Some due) where
          epoch-next : answer ≡ of-epoch (ltb e D)
          epoch-next = list-next ∙ ap of-list (sym tested ∙ ap is_some f)

          late : ltb e D ≡ false → OutOfRange ≡ answer
          late g = sym (epoch-next ∙ ap of-epoch g)

          due-is : due ≡ due_at ws j e d
          due-is = same_Some _ _ (sym f ∙ s ∙ ap (λ (t : Bool). cond t (Some (due_at ws j e d)) None) (sym tested ∙ ap is_some f))

          written : ltb e D ≡ true → (Done ≡ answer) × (due ≡ demand_after N j D ws e d)
          unfolding demand_after
          written g =
              let k = epoch-next ∙ ap of-epoch g in
              (sym k, due-is ∙ sym (ap (λ (x : Answer). cond (is_done x) (due_at ws j e d) d) k))

pub returns-then-not-nodes_ok : goal.returns-then-not-nodes_ok
returns-then-not-nodes_ok c =
    let a = c.args in
    refused a.nodes a.node a.day a.windows.now a.epoch a.demand.now OutOfRange refl
    (no-nodes a.nodes a.node a.day a.windows.now a.epoch a.demand.now (sym c.nodes_ok.ensures ∙ c.if-not-nodes_ok.true))

pub returns-then-not-node-nodes : goal.returns-then-not-node-nodes
returns-then-not-node-nodes c =
    let a = c.args in
    refused a.nodes a.node a.day a.windows.now a.epoch a.demand.now NoSuchNode refl
    (no-node a.nodes a.node a.day a.windows.now a.epoch a.demand.now (sym c.nodes_ok.ensures ∙ c.if-not-nodes_ok.false)
    c.if-not-node-nodes.true)

pub returns-in_err-due : goal.returns-in_err-due
returns-in_err-due c =
    let a = c.args in
    let k = told-missing c.ok_or.ensures.ok_part c.ok_or.ensures.value c.in_err-due.was in
    let z = refused a.nodes a.node a.day a.windows.now a.epoch a.demand.now BadWindows refl
    (no-list a.nodes a.node a.day a.windows.now a.epoch a.demand.now (sym c.nodes_ok.ensures ∙ c.if-not-nodes_ok.false)
    c.if-not-node-nodes.false c.look.ensures (missing c.ok_or.ensures.ok_part c.in_err-due.was)) in
    (passed-on _ c.from_residual.ensures.1 ∙ k ∙ z.0, z.1)

pub returns-then-day-epoch : goal.returns-then-day-epoch
returns-then-day-epoch c =
    let a = c.args in
    refused a.nodes a.node a.day a.windows.now a.epoch a.demand.now OutOfRange refl
    (late a.nodes a.node a.day a.windows.now a.epoch a.demand.now (sym c.nodes_ok.ensures ∙ c.if-not-nodes_ok.false)
    c.if-not-node-nodes.false c.look.ensures (found c.ok_or.ensures.ok_part c.in_ok-due.was) (le-ltb _ _ c.if-day-epoch.true))

pub returns : goal.returns
returns c =
    let a = c.args in
    written a.nodes a.node a.day a.windows.now a.epoch a.demand.now (sym c.nodes_ok.ensures ∙ c.if-not-nodes_ok.false)
    c.if-not-node-nodes.false c.look.ensures (found c.ok_or.ensures.ok_part c.in_ok-due.was) (lt-ltb _ _ c.if-day-epoch.false)
