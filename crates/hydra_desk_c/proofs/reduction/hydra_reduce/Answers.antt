-- An answer's number is 0 where it is done alone.
use mathlib.Core.Path.{sym, ap, ◌∙◌}
use Rattle.node.specs.Answers.{number}
use Rattle.node.proofs.Answers.{zero-done}
use Rattle.hydra_desk_c.proofs.reduction.hydra_reduce.Goals as goal

pub returns : goal.returns
returns c =
    let r = c.hydra_reduce.ensures in
    let n = c.code.ensures in record {
      answer = n ∙ ap number r.answer;
      done = λ h. r.done (zero-done _ (sym n ∙ h));
      refused = λ f. r.refused (λ e. f (n ∙ ap number e));
    }
