use mathlib.Core.Path.{ap, ◌∙◌}
use Prim.Native.Nat.{ℕ, min, ◌+◌}
use Rattle.allotment.specs.Allotment.{top_request}
use Rattle.sites.proofs.one.row_at.Goals as goal

pub returns : goal.returns
returns c =
    λ i. record {
      version = c.word_of.ensures i;
      flags = c.word_of-2.ensures i;
      want = (c.small_want.ensures ∙ ap (λ (w : ℕ). min w (top_request + 1)) c.word_of-3.ensures) i;
    }
