use mathlib.Core.Bool.{Bool, true}
use mathlib.Core.List.{List}
use mathlib.Core.Path.{◌≡◌, sym, ap, ◌∙◌}
use Prim.Native.Nat.{ℕ}
use borrow.Author.Tests.{eq-eqb, ne_eqb}
use lib.ListN.{length}
use Rattle.node.specs.declared.Setup.{Setup}
use Rattle.wire.specs.Layout.{schedule_size, schedule_in}
use Rattle.wire.specs.Reads.{read_answer, versioned_ok, schedule_answer}
use Rattle.wire.proofs.schedule_answer.Goals as goal

-- bytes of the right length are judged by their contents
judged : (s : Setup) {l b : List ℕ} {t : Bool} → length l ≡ schedule_size → b ≡ l → t ≡ versioned_ok s (schedule_in b)
    → read_answer true t ≡ schedule_answer s l
unfolding schedule_answer
judged s {l} {b} {t} h e k =
    ap (read_answer true) (k ∙ ap (λ (x : List ℕ). versioned_ok s (schedule_in x)) e)
    ∙ sym (ap (λ (x : Bool). read_answer x (versioned_ok s (schedule_in l))) (eq-eqb (length l) schedule_size h))

pub returns-in_default : goal.returns-in_default
unfolding schedule_answer
returns-in_default c =
    let l = c.args.bytes.now in
    sym (ap (λ (x : Bool). read_answer x (versioned_ok c.args.s (schedule_in l))) (ne_eqb (length l) schedule_size c.in_default.ensures.cases))

pub returns-then-not-schedule_ok : goal.returns-then-not-schedule_ok
returns-then-not-schedule_ok c =
    let chunk = c.in-Some.ensures.cases in
    sym (ap (read_answer true) c.if-not-schedule_ok.true) ∙ judged c.args.s chunk.long chunk.same c.schedule_ok.ensures

pub returns : goal.returns
returns c =
    let chunk = c.in-Some.ensures.cases in
    sym (ap (read_answer true) c.if-not-schedule_ok.false) ∙ judged c.args.s chunk.long chunk.same c.schedule_ok.ensures
