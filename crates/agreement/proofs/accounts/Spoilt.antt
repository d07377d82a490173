-- Calls that are lent any tallies: an end with a tally that breaks the rules changes nothing, and every other call does what it does with a
-- valid one.
-- Assumes nothing.
use mathlib.Core.Path.{◌≡◌, refl, ap, ◌∙◌}
use mathlib.Core.Bool.{Bool, true, false, cond, ◌&&◌}
use mathlib.Core.List.{List, [], ◌∷◌, ◌++◌}
use borrow.Author.Tests.{not-true}
use Rattle.words.proofs.Tests.{skip, clash, and_left, and_right}
use Rattle.node.specs.Answers.{is_done}
use Rattle.node.specs.Answers.{Answer}
use Rattle.node.specs.Answers.{Done, NotANode}
use Rattle.site.specs.Answers.{answer_of}
use Rattle.site.specs.Events.{is_end}
use Rattle.site.specs.Steps.{site_after, area_after, next_site, next_area}
use Rattle.site.specs.Run.{RunState, after, run}
use Rattle.tally.specs.Counting.{tally_ok}
use Rattle.tally.specs.Ends.{tallied_answer, tallied_site, tallied_area, tally_after}
use Rattle.tally.proofs.Steps.{same_answer}
use Rattle.agreement.specs.accounts.Accounts.{LentCall, after_lent, run_lent, is_spoilt, heeded}

module _ (w : RunState) (c : LentCall) where
  abbrev answer : Answer
  answer = tallied_answer w.site w.area c.tally c.event

  -- a spoilt end is refused: as 14, or as it would be anyway
  spoilt-refused : is_spoilt c ≡ true → is_done answer ≡ false
  unfolding tallied_answer
  spoilt-refused h = go (is_done (answer_of w.site w.area c.event)) refl
    where
      e : is_end c.event ≡ true
      e = and_left (is_end c.event) _ h

      bad : tally_ok c.tally ≡ false
      bad = not-true (tally_ok c.tally) (and_right (is_end c.event) _ h)

      go : (b : Bool) → is_done (answer_of w.site w.area c.event) ≡ b
          → is_done (cond (is_end c.event && is_done (answer_of w.site w.area c.event)) (cond (tally_ok c.tally) Done NotANode)
          (answer_of w.site w.area c.event)) ≡ false
      go true d = rw (e, d, bad) refl
      go false d = rw (e, d) d

  -- any other call is answered as without a tally
  heeded-answer : is_spoilt c ≡ false → answer ≡ answer_of w.site w.area c.event
  unfolding tallied_answer
  heeded-answer h = go (is_end c.event) refl (tally_ok c.tally) refl
    where
      go : (b : Bool) → is_end c.event ≡ b → (o : Bool) → tally_ok c.tally ≡ o → answer ≡ answer_of w.site w.area c.event
      go false e o k = skip _ _ _ _ (ap (λ (x : Bool). x && is_done (answer_of w.site w.area c.event)) e) refl
      go true e true k = same_answer w.site w.area c.tally k c.event
      go true e false k = clash (is_spoilt c) (rw (e, k) refl) h

  spoilt-state : is_spoilt c ≡ true → after_lent w c ≡ w
  unfolding tallied_site tallied_area
  spoilt-state h =
      let d = spoilt-refused h in
      let s : tallied_site w.site w.area c.tally c.event ≡ w.site = skip _ _ _ _ d refl in
      let l : tallied_area w.site w.area c.tally c.event ≡ w.area = skip _ _ _ _ d refl in
      λ i. record { site = s i; area = l i }

  heeded-state : is_spoilt c ≡ false → after_lent w c ≡ after w c.event
  unfolding tallied_site tallied_area site_after area_after
  heeded-state h =
      let q = heeded-answer h in
      λ i. record {
        site = cond (is_done (q i)) (next_site w.site w.area c.event) w.site;
        area = cond (is_done (q i))
            (next_area w.site w.area c.event) w.area;
      }

  pub spoilt-stays : is_spoilt c ≡ true → tally_after w.site w.area c.tally c.event ≡ c.tally
  unfolding tally_after
  spoilt-stays h = skip _ _ _ _ (ap (λ (b : Bool). is_end c.event && b) (spoilt-refused h) ∙ and_no (is_end c.event)) refl
    where
      and_no : (b : Bool) → (b && false) ≡ false
      and_no true = refl
      and_no false = refl

pub run-heeded : (w : RunState) (cs : List LentCall) → run_lent w cs ≡ run w (heeded cs)
unfolding run_lent heeded run
run-heeded w [] = refl
run-heeded w (c ∷ cs) = go (is_spoilt c) refl (λ (v : RunState). run-heeded v cs)
  where
    go : (b : Bool) → is_spoilt c ≡ b → ((v : RunState) → run_lent v cs ≡ run v (heeded cs))
        → run_lent (after_lent w c) cs ≡ run w (cond b [] (c.event ∷ []) ++ heeded cs)
    go true h r = ap (λ (v : RunState). run_lent v cs) (spoilt-state w c h) ∙ r w
    go false h r = ap (λ (v : RunState). run_lent v cs) (heeded-state w c h) ∙ r (after w c.event)
