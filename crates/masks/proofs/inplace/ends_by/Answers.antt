use mathlib.Core.Path.{refl, sym}
use borrow.Author.Tests.{lt-ltb, le-ltb}
use lib.Dec.{ltb}
use Rattle.words.proofs.Tests.{hit, skip}
use Rattle.masks.specs.Inner.{ends_by}
use Rattle.masks.proofs.inplace.ends_by.Goals as goal

pub returns-then-k-lt64 : goal.returns-then-k-lt64
unfolding ends_by
returns-then-k-lt64 c = sym (hit (ltb c.args.k 64) _ _ (lt-ltb _ _ c.if-k-lt64.true))

pub returns-then-k-lt80 : goal.returns-then-k-lt80
unfolding ends_by
returns-then-k-lt80 c = sym (skip (ltb c.args.k 64) _ _ _ (le-ltb _ _ c.if-k-lt64.false)
    (hit (ltb c.args.k 80) _ _ (lt-ltb _ _ c.if-k-lt80.true)))

pub returns : goal.returns
unfolding ends_by
returns c = sym (skip (ltb c.args.k 64) _ _ _ (le-ltb _ _ c.if-k-lt64.false)
    (skip (ltb c.args.k 80) _ _ _ (le-ltb _ _ c.if-k-lt80.false) refl))
