-- What the verdict of a close says of the tests behind it, and they of the verdict.
-- Assumes nothing.
use mathlib.Core.Path.{◌≡◌, refl, sym}
use mathlib.Core.Bool.{Bool, true, false, cond, ◌&&◌}
use Prim.Native.Nat.{◌<◌}
use borrow.Author.Tests.{ltb-true, lt-ltb, eqb-true, eq-eqb}
use lib.Dec.{eqb, ltb}
use Rattle.words.proofs.Tests.{never, clash, is_false, only_if}
use Rattle.words.specs.Bits.{is_inside}
use Rattle.membership.specs.requests.Requests.{requesters}
use Rattle.node.specs.Figures.{top_version, enough}
use Rattle.node.specs.Grounds.{first_rule, rule_of}
use Rattle.node.specs.declared.Rule.TheVariants.{RequestMissing, NoMajority, OwnLower, Repeating, AtTop, NotDue, NewSent}
use Rattle.node.specs.Close.{complete, level, verdict, determining, repeating, determines, repeats, due}
use Rattle.node.specs.Model.{Node}
use Rattle.node.specs.declared.Verdict.{Verdict}
use Rattle.node.specs.declared.Verdict.TheVariants.{Determines, Repeats, Silent}

-- the verdict by its four tests: complete, level, below the top version, at the highest version
abbrev pub judged : Bool → Bool → Bool → Bool → Verdict
judged c l t e = cond c (cond l (cond t Determines Silent) (cond e Repeats Silent)) Silent

determining-tests : (c l t e : Bool) → determining (judged c l t e) ≡ true → (c ≡ true) × (l ≡ true) × (t ≡ true)
determining-tests true true true e h = (refl, refl, refl)
determining-tests true true false e h = never (sym h)
determining-tests true false t true h = never (sym h)
determining-tests true false t false h = never (sym h)
determining-tests false l t e h = never (sym h)

repeating-tests : (c l t e : Bool) → repeating (judged c l t e) ≡ true → (c ≡ true) × (l ≡ false) × (e ≡ true)
repeating-tests true true true e h = never (sym h)
repeating-tests true true false e h = never (sym h)
repeating-tests true false t true h = (refl, refl, refl)
repeating-tests true false t false h = never (sym h)
repeating-tests false l t e h = never (sym h)

module _ (n : Node) where
  -- a node determines only where it is complete, its versions are level, and its own is below the top
  pub determines-tests : determines n ≡ true → (complete n ≡ true) × (level n ≡ true) × (n.version < top_version)
  unfolding verdict
  determines-tests h =
      let t = determining-tests (complete n) (level n) (ltb n.version top_version) (eqb n.version n.round.highest) h in
      (t.0, t.1, ltb-true _ _ t.2)

  -- it repeats only where it is complete, its versions are not level, and its own is the highest
  pub repeats-tests : repeats n ≡ true → (complete n ≡ true) × (level n ≡ false) × (n.version ≡ n.round.highest)
  unfolding verdict
  repeats-tests h =
      let t = repeating-tests (complete n) (level n) (ltb n.version top_version) (eqb n.version n.round.highest) h in
      (t.0, t.1, eqb-true _ _ t.2)

  -- so a node that isn't complete does neither, and one whose versions are level doesn't repeat
  pub incomplete-determines : complete n ≡ false → determines n ≡ false
  incomplete-determines e = only_if (determines n) (complete n) (λ h. (determines-tests h).0) e

  pub incomplete-repeats : complete n ≡ false → repeats n ≡ false
  incomplete-repeats e = only_if (repeats n) (complete n) (λ h. (repeats-tests h).0) e

  pub level-repeats : level n ≡ true → repeats n ≡ false
  level-repeats e = is_false (repeats n) (λ h. clash (level n) e (repeats-tests h).1)

  -- a node determines where the three tests are met
  pub determines-if : complete n ≡ true → level n ≡ true → n.version < top_version → determines n ≡ true
  unfolding verdict
  determines-if c l t = rw (c, l, lt-ltb _ _ t)

  -- versions are level exactly where the lowest is the highest
  pub level-if : n.round.lowest ≡ n.round.highest → level n ≡ true
  unfolding level
  level-if p = eq-eqb _ _ p

  pub level-tests : level n ≡ true → n.round.lowest ≡ n.round.highest
  unfolding level
  level-tests h = eqb-true _ _ h

  -- complete, the verdict and the rule of a close, each by its tests
  pub complete-so : complete n ≡ (is_inside n.round.merged (requesters n.round.known)
      && enough n.setup.config n.round.merged)
  unfolding complete
  complete-so = refl

  pub verdict-so : verdict n ≡ judged (complete n) (level n) (ltb n.version top_version) (eqb n.version n.round.highest)
  unfolding verdict
  verdict-so = refl

  pub rule-so : rule_of n
      ≡ cond (due n) NewSent
      (cond n.epoch.updated NotDue
      (cond (is_inside n.round.merged (requesters n.round.known))
      (cond (enough n.setup.config n.round.merged)
      (cond (level n) (cond (ltb n.version top_version) NotDue AtTop) (cond (eqb n.version n.round.highest) Repeating OwnLower))
      NoMajority)
      RequestMissing))
  unfolding rule_of first_rule
  rule-so = refl
