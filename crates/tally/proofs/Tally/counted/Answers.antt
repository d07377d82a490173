use mathlib.Core.Path.{◌≡◌, refl, sym, ap, ◌∙◌}
use mathlib.Core.Bool.{Bool, true, false, not, ◌&&◌, and-false}
use Rattle.words.proofs.Tests.{hit, skip, both}
use Rattle.tally.specs.Counting.{tally_ok, tally_full, counted_by}
use Rattle.tally.proofs.Valid.{valid, not_full}
use Rattle.tally.proofs.Tally.counted.Goals as goal
use Rattle.tally.proofs.Tally.counted.Goals.{else-is_valid-via-then-is_valid+else-not-is_full, else-is_valid-via-else-is_valid}

pub added-requires : goal.added-requires
added-requires c =
    let t = c.args.self in
    let v : tally_ok t ≡ true = sym c.is_valid.ensures ∙ c.if-is_valid.true in
    (v, not_full t (valid t v) (ap not (sym c.is_full.ensures ∙ c.if-not-is_full.true)))

pub returns-then-not-is_full : goal.returns-then-not-is_full
unfolding counted_by
returns-then-not-is_full c =
    c.added.ensures
    ∙ sym (hit _ _ _ (both {b = true} {d = true} (sym c.is_valid.ensures ∙ c.if-is_valid.true)
    (ap not (sym c.is_full.ensures ∙ c.if-not-is_full.true))))

pub returns : goal.returns
unfolding counted_by
returns c =
    let t = c.args.self in
    let e : (tally_ok t && not (tally_full t)) ≡ false = elim c.else-is_valid.branch [
      | else-is_valid-via-then-is_valid+else-not-is_full w ↦
          ap (λ (b : Bool). tally_ok t && not b) (sym w.is_full.ensures ∙ w.if-not-is_full.false) ∙ and-false (tally_ok t)
      | else-is_valid-via-else-is_valid w ↦ ap (λ (b : Bool). b && not (tally_full t)) (sym c.is_valid.ensures ∙ w.if-is_valid.false)
    ] in
    sym (skip _ _ _ _ e refl)
