use mathlib.Core.Path.{◌≡◌, refl, sym, ap, ◌∙◌}
use mathlib.Core.Bool.{Bool, true, false, cond}
use lib.Dec.{ltb}
use Rattle.words.proofs.Tests.{never}
use Rattle.allotment.specs.Allotment.{top_request}
use Rattle.node.specs.Answers.{Answer, Done, OutOfRange, is_done}
use Rattle.node.proofs.Bounds.{want-so}
use Rattle.site.specs.Answers.{site_want, site_crash}
use Rattle.machine.proofs.Refused.{handed}
use Rattle.machine.proofs.answers.want_answer.Goals as goal

-- the demand's own test first, then the rest
refused : (t : Bool) (x : Answer) → is_done (cond t OutOfRange Done) ≡ false → cond t OutOfRange Done ≡ cond t OutOfRange x
refused true x f = refl
refused false x f = never f

passed : (t : Bool) (x : Answer) → is_done (cond t OutOfRange Done) ≡ true → x ≡ cond t OutOfRange x
passed true x f = never (sym f)
passed false x f = refl

pub returns-in_err-want_answer : goal.returns-in_err-want_answer
unfolding site_want
returns-in_err-want_answer c =
    let d = c.args.d in
    let y = c.want_answer.ensures ∙ want-so d in
    handed c.from_residual.result c.from_residual.ensures.1 ∙ sym c.in_err-want_answer.was ∙ y
    ∙ refused (ltb top_request d) _ (sym (ap is_done y) ∙ ap is_done c.in_err-want_answer.was)

pub returns : goal.returns
unfolding site_want site_crash
returns c =
    let d = c.args.d in
    let y = c.want_answer.ensures ∙ want-so d in
    c.crash_answer.ensures ∙ passed (ltb top_request d) _ (sym (ap is_done y) ∙ ap is_done c.in_ok-want_answer.was)
