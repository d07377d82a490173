use Rattle.why.proofs.Count.{counts}
use Rattle.std.proofs.Common.{rules}
use mathlib.Core.Path.{◌≡◌, sym, ◌∙◌}
use Rattle.std.specs.Prelude.{count_by}
use lib.Dec.{eqb}
use Rattle.why.proofs.count_of.Goals as goal

pub returns : goal.returns
returns c =
    let k : c.count.result ≡ count_by (λ b. eqb b c.args.c) c.args.s.now = search rules in
    k ∙ sym (counts c.args.c c.args.s.now)
