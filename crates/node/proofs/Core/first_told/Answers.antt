use mathlib.Core.Path.{◌≡◌, refl, sym, ◌∙◌}
use mathlib.Core.Bool.{false}
use Prim.Native.Nat.{◌<◌, ◌^◌}
use native.Mathlib.Omega.{arith}
use lib.Dec.{eqb}
use borrow.Author.Rules.{rules}
use borrow.Author.Tests.{eq-eqb, ne_eqb}
use Rattle.words.proofs.Tests.{hit, skip}
use Rattle.membership.proofs.requests.Missing.{all-is}
use Rattle.node.specs.Close.{level}
use Rattle.node.specs.Core.{bare}
use Rattle.node.specs.Grounds.{first_rule, missing_of}
use Rattle.node.proofs.Core.first_told.Goals as goal

pub returns-then-missing-gt0 : goal.returns-then-missing-gt0
unfolding first_rule level
returns-then-missing-gt0 c =
    let n = bare c.args.self in
    let small : n.round.merged < 2 ^ 32 = search rules in
    let lacks : eqb (missing_of n) 0 ≡ false = ne_eqb (missing_of n) 0 (λ e. absurd (omega (arith, c.if-missing-gt0.true, c.requires, e))) in
    sym (skip _ _ _ _ (all-is n.round.merged n.round.known small ∙ lacks) refl)

pub returns-then-not-is_enough : goal.returns-then-not-is_enough
unfolding first_rule level
returns-then-not-is_enough c =
    let n = bare c.args.self in
    let small : n.round.merged < 2 ^ 32 = search rules in
    let none : missing_of n ≡ 0 = omega (arith, c.if-missing-gt0.false, c.requires) in
    sym (hit _ _ _ (all-is n.round.merged n.round.known small ∙ eq-eqb _ _ none)
    ∙ skip _ _ _ _ (sym c.is_enough.ensures ∙ c.if-not-is_enough.true) refl)

pub returns : goal.returns
unfolding first_rule level
returns c =
    let n = bare c.args.self in
    let small : n.round.merged < 2 ^ 32 = search rules in
    let none : missing_of n ≡ 0 = omega (arith, c.if-missing-gt0.false, c.requires) in
    c.versions_rule.ensures
    ∙ sym (hit _ _ _ (all-is n.round.merged n.round.known small ∙ eq-eqb _ _ none)
    ∙ hit _ _ _ (sym c.is_enough.ensures ∙ c.if-not-is_enough.false))
