-- One event of a site with a valid tally: the answer is the plain one, site and area are as without the tally, and the tally stays valid.
-- Assumes nothing.
use mathlib.Core.Path.{◌≡◌, refl, sym, ap, ◌∙◌}
use mathlib.Core.Bool.{true, cond, ◌&&◌}
use mathlib.Core.List.{List}
use Prim.Native.Nat.{ℕ}
use lib.Dec.{eqb}
use Rattle.words.proofs.Tests.{hit, by-test, and_right}
use Rattle.node.specs.Answers.{is_done}
use Rattle.node.specs.Answers.{Answer}
use Rattle.node.specs.Answers.{Done, NotANode}
use Rattle.node.proofs.Answers.{done-is}
use Rattle.site.specs.Answers.{answer_of}
use Rattle.site.specs.Steps.{site_after, area_after, next_site, next_area, ended_site}
use Rattle.site.specs.Events.{is_end}
use Rattle.site.specs.Model.{Site}
use Rattle.site.specs.declared.Event.{Event}
use Rattle.site.specs.declared.Event.TheVariants.{End}
use Rattle.tally.specs.Counting.{tally_ok, epoch_counted}
use Rattle.tally.specs.Ends.{schedules_of, tally_at, tallied_answer, tallied_site, tallied_area, tally_after}
use Rattle.tally.specs.declared.Tally.{Tally}
use Rattle.tally.proofs.Valid.{counted-valid}

module _ (s : Site) (l : List ℕ) (t : Tally) (ok : tally_ok t ≡ true) where
  -- a valid tally is never the ground of a refusal
  pub same_answer : (e : Event) → tallied_answer s l t e ≡ answer_of s l e
  unfolding tallied_answer
  same_answer e =
      by-test (λ (a : Answer). a ≡ answer_of s l e) (is_end e && is_done (answer_of s l e)) (cond (tally_ok t) Done NotANode) (answer_of s l e)
      (λ d. hit _ _ _ ok ∙ sym (done-is _ (and_right (is_end e) _ d)))
      (λ d. refl)

  pub same-site : (e : Event) → tallied_site s l t e ≡ site_after s l e
  unfolding tallied_site site_after
  same-site e = ap (λ (a : Answer). cond (is_done a) (next_site s l e) s) (same_answer e)

  pub same_area : (e : Event) → tallied_area s l t e ≡ area_after s l e
  unfolding tallied_area area_after
  same_area e = ap (λ (a : Answer). cond (is_done a) (next_area s l e) l) (same_answer e)

at-valid : (s : Site) (t : Tally) → tally_ok t ≡ true → tally_ok (tally_at s t) ≡ true
unfolding tally_at
at-valid s t ok = by-test (λ (x : Tally). tally_ok x ≡ true) (eqb s.place 0) (epoch_counted t (schedules_of s)) t
    (λ d. counted-valid t (schedules_of s) ok) (λ d. ok)

pub stays-valid : (s : Site) (l : List ℕ) (t : Tally) (e : Event) → tally_ok t ≡ true → tally_ok (tally_after s l t e) ≡ true
unfolding tally_after
stays-valid s l t e ok =
    by-test (λ (x : Tally). tally_ok x ≡ true) (is_end e && is_done (tallied_answer s l t e)) _ t (λ d. at-valid _ t ok) (λ d. ok)

-- an accepted end counts the site behind it
pub end-counts : (s : Site) (l : List ℕ) (t : Tally) → tally_ok t ≡ true → is_done (answer_of s l End) ≡ true → tally_after s l t End
    ≡ tally_at (ended_site s) t
unfolding tally_after site_after
end-counts s l t ok d =
    hit _ _ _ (ap is_done (same_answer s l t ok End) ∙ d) ∙ ap (λ (x : Site). tally_at x t) (same-site s l t ok End ∙ hit _ _ _ d)
