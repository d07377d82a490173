-- What asks for a majority where the site may not split: a complete node, and one that keeps its schedule. No other law of a node looks at
-- the text of `complete` or `expires`.
-- Assumes nothing.
use mathlib.Core.Path.{◌≡◌, refl, sym, ap, ◌∙◌}
use mathlib.Core.Bool.{Bool, true, false, not, ◌&&◌, ◌||◌}
use mathlib.Core.Logic.{◌⊎◌, inl, inr}
use Prim.Native.Nat.{ℕ, ◌*◌, ◌≤◌, ◌<◌}
use borrow.Author.Tests.{not-false, eq-eqb}
use lib.Dec.{eqb}
use Rattle.words.specs.Bits.{is_inside, size}
use Rattle.words.proofs.Tests.{and_left, and_right, both, or-front, or-back, or-rest}
use Rattle.membership.specs.requests.Requests.{requesters}
use Rattle.membership.specs.counters.Counters.{with_self}
use Rattle.membership.specs.majority.Majority.{majority}
use Rattle.membership.proofs.majority.Laws.{majority-most, majority-if}
use Rattle.node.specs.Figures.{splits, enough, too_few}
use Rattle.node.specs.Close.{complete}
use Rattle.node.specs.End.{interacted_with, expires}
use Rattle.node.specs.declared.Config.{Config}
use Rattle.node.specs.Model.{Node}

module _ (f : Config) (w : ℕ) where
  -- where the site may not split, enough is more than half
  pub enough-most : f.split ≡ 0 → enough f w ≡ true → f.nodes < 2 * size w
  enough-most u e = majority-most f.nodes w (or-rest (splits f) _ e (ap (λ (x : ℕ). eqb x 1) u))

  -- and more than half is enough; where it may split, any set is
  pub enough-if : 1 ≤ f.nodes → f.nodes ≤ 32 → (f.split ≡ 1) ⊎ (f.nodes < 2 * size w) → enough f w ≡ true
  enough-if a b (inl u) = or-front (splits f) _ (eq-eqb f.split 1 u)
  enough-if a b (inr m) = or-back (splits f) _ (majority-if f.nodes w a b m)

  -- too few is what is not enough
  pub too_few_lem : too_few f w ≡ not (enough f w)
  too_few_lem = go (splits f) (majority f.nodes w)
    where
      go : (a b : Bool) → (not a && not b) ≡ not (a || b)
      go true b = refl
      go false b = refl

module _ (n : Node) where
  -- a complete node lacks no request of its M'
  pub complete-informed : complete n ≡ true → is_inside n.round.merged (requesters n.round.known) ≡ true
  unfolding complete
  complete-informed e = and_left (is_inside n.round.merged (requesters n.round.known)) _ e

  -- and its M' is enough
  pub complete-enough : complete n ≡ true → enough n.setup.config n.round.merged ≡ true
  unfolding complete
  complete-enough e = and_right (is_inside n.round.merged (requesters n.round.known)) _ e

  -- so where the site may not split it is more than half
  pub complete-most : n.setup.config.split ≡ 0 → complete n ≡ true → n.setup.config.nodes < 2 * size n.round.merged
  complete-most u e = enough-most n.setup.config n.round.merged u (complete-enough e)

  -- where both hold, it is complete
  pub complete-if : is_inside n.round.merged (requesters n.round.known) ≡ true → enough n.setup.config n.round.merged ≡ true
      → complete n ≡ true
  unfolding complete
  complete-if i m = both i m

  -- whom an epoch's end counts: I_e and the node itself
  pub counts-self : interacted_with n ≡ with_self n.epoch.interactions n.setup.node
  counts-self = refl

  -- a node that keeps its schedule where the site may not split counts more than half of the nodes
  pub kept-most : n.setup.config.split ≡ 0 → expires n ≡ false → n.setup.config.nodes < 2 * size (interacted_with n)
  kept-most u e = enough-most n.setup.config (interacted_with n) u
      (not-false _ (sym (too_few_lem n.setup.config (interacted_with n)) ∙ e))

  -- and whoever counts enough keeps it
  pub kept_if : enough n.setup.config (interacted_with n) ≡ true → expires n ≡ false
  kept_if m = too_few_lem n.setup.config (interacted_with n) ∙ ap not m
