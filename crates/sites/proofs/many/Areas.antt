-- An event that is no hear looks at the length of its area only: with two areas that are long enough its answer, its site and its storage
-- are the same.
-- Assumes nothing.
use mathlib.Core.Path.{◌≡◌, refl, sym, ap, ap₂, ◌∙◌}
use mathlib.Core.Bool.{Bool, true, false, cond, ◌&&◌, ◌||◌}
use mathlib.Core.List.{List}
use Prim.Native.Nat.{ℕ, ◌≤◌}
use borrow.Author.Tests.{le-ltb}
use lib.Dec.{eqb, leb}
use lib.ListN.{length}
use Rattle.words.proofs.Tests.{clash, skip, read-choice, read_same}
use Rattle.lists.specs.All.{iter}
use Rattle.lists.specs.Bytes.{written}
use Rattle.node.specs.Answers.{is_done}
use Rattle.node.specs.Answers.{Answer}
use Rattle.node.specs.Answers.{Done, NotANode, NoRoom, BadWindows}
use Rattle.site.specs.Answers.{area_size, event_answer, answer_of}
use Rattle.site.specs.Steps.{next_site, site_after}
use Rattle.site.specs.Events.{is_end, is_close}
use Rattle.site.specs.Model.{Site}
use Rattle.site.specs.declared.Event.{Event}
use Rattle.site.specs.declared.Event.TheVariants.{Send, Hear, Close, Take, End, Want, Crash, Restart}
use Rattle.machine.specs.Layout.{Store, too_short, site_in}
use Rattle.machine.specs.Written.{nodes_in}
use Rattle.machine.specs.steps.After.{next_store, storage_answer, store_after}
use Rattle.windows.specs.Windows.{list_ok}
use Rattle.windows.specs.declared.Window.{Window}
use Rattle.machine.specs.timed.Timed.{Timed, epoch_after, next_in_day, begins_epoch, timed_answer, given_before, next_timed}
use Rattle.machine.specs.timed.Stored.{timed_in, given_at, given_store, stored_answer, begun_store, timed_store}
use Rattle.machine.specs.declared.Day.{Day}
use Rattle.machine.specs.reports.Reports.{reports_size, report_of, report_bytes, put_report}
use Rattle.tally.specs.Counting.{tally_ok}
use Rattle.tally.specs.Ends.{tallied_answer, tally_at}
use Rattle.tally.specs.declared.Tally.{Tally}
use Rattle.machine.specs.combined.Kept.{Kept, first_refusal, kept_answer, next_kept, kept_after}
use Rattle.machine.specs.combined.Stored.{kept_in, report_too_short, lent_too_short, step_answer, step_store, step_report, step_kept}
use Rattle.group.specs.Calls.{is_send}
use Rattle.group.proofs.Sites.{area-kept}
use Rattle.sites.specs.many.Inner.{is_hear}

-- what the machine leaves, part by part
module _ (s : Store) (d : Day) (l : List ℕ) (ws : List Window) (t : Tally) (out : List ℕ) (e : Event) where
  abbrev done : Bool
  done = is_done (kept_answer (kept_in s d l t) ws e)

  pub timed-by : (step_kept s d l ws t out e).timed
      ≡ cond (lent_too_short s l out) (timed_in s d) (cond done (next_timed (timed_in s d) l ws e) (timed_in s d))
  unfolding step_kept kept_after next_kept
  timed-by =
      read-choice (λ (k : Kept). k.timed) (lent_too_short s l out) (kept_in s d l t) (kept_after (kept_in s d l t) ws e)
      ∙ ap (cond (lent_too_short s l out) (timed_in s d))
      (read-choice (λ (k : Kept). k.timed) done (next_kept (kept_in s d l t) ws e) (kept_in s d l t))

  pub tally-by : (step_kept s d l ws t out e).tally
      ≡ cond (lent_too_short s l out) t (cond done (cond (is_end e) (tally_at (next_timed (timed_in s d) l ws e).site t) t) t)
  unfolding step_kept kept_after next_kept
  tally-by =
      read-choice (λ (k : Kept). k.tally) (lent_too_short s l out) (kept_in s d l t) (kept_after (kept_in s d l t) ws e)
      ∙ ap (cond (lent_too_short s l out) t) (read-choice (λ (k : Kept). k.tally) done (next_kept (kept_in s d l t) ws e) (kept_in s d l t))

  pub area-by : is_send e ≡ false → (step_kept s d l ws t out e).area ≡ l
  unfolding step_kept kept_after next_kept
  area-by h =
      read_same (λ (k : Kept). k.area) (lent_too_short s l out) (kept_in s d l t) (kept_after (kept_in s d l t) ws e) l refl
      (read_same (λ (k : Kept). k.area) done (next_kept (kept_in s d l t) ws e) (kept_in s d l t) l (area-kept (site_in s) l e h) refl)

module _ (x y : List ℕ) (long-x : area_size ≤ length x) (long-y : area_size ≤ length y) where
  event-same : (s : Site) (e : Event) → is_hear e ≡ false → event_answer s x e ≡ event_answer s y e
  event-same s (Send j) h = refl
  event-same s (Hear j p) h = clash (is_hear (Hear j p)) refl h
  event-same s Close h = refl
  event-same s (Take j i) h = refl
  event-same s End h = refl
  event-same s (Want j d) h = refl
  event-same s (Crash j) h = refl
  event-same s (Restart j flags) h = refl

  pub answer-same : (s : Site) (e : Event) → is_hear e ≡ false → answer_of s x e ≡ answer_of s y e
  unfolding answer_of
  answer-same s e h = skip _ _ _ _ (le-ltb _ _ long-x) (event-same s e h ∙ sym (skip _ _ _ _ (le-ltb _ _ long-y) refl))

  next-same : (s : Site) (e : Event) → is_hear e ≡ false → next_site s x e ≡ next_site s y e
  next-same s (Send j) h = refl
  next-same s (Hear j p) h = clash (is_hear (Hear j p)) refl h
  next-same s Close h = refl
  next-same s (Take j i) h = refl
  next-same s End h = refl
  next-same s (Want j d) h = refl
  next-same s (Crash j) h = refl
  next-same s (Restart j flags) h = refl

  site-same : (s : Site) (e : Event) → is_hear e ≡ false → site_after s x e ≡ site_after s y e
  unfolding site_after
  site-same s e h = ap₂ (λ (a : Answer) (t : Site). cond (is_done a) t s) (answer-same s e h) (next-same s e h)

  -- in storage
  stored_next : (s : Store) (e : Event) → is_hear e ≡ false → next_store s x e ≡ next_store s y e
  stored_next s (Send j) h = refl
  stored_next s (Hear j p) h = clash (is_hear (Hear j p)) refl h
  stored_next s Close h = refl
  stored_next s (Take j i) h = refl
  stored_next s End h = refl
  stored_next s (Want j d) h = refl
  stored_next s (Crash j) h = refl
  stored_next s (Restart j flags) h = refl

  pub store_same : (s : Store) (e : Event) → is_hear e ≡ false → store_after s x e ≡ store_after s y e
  unfolding store_after storage_answer
  store_same s e h = ap₂ (λ (a : Answer) (t : Store). cond (is_done (cond (too_short s) NoRoom a)) t s) (answer-same (site_in s) e h)
      (stored_next s e h)

  given-at : (ws : List Window) (n k : ℕ) (s : Store) → given_at ws n x k s ≡ given_at ws n y k s
  unfolding given_at
  given-at ws n k s = store_same s (Want _ _) refl

  given-same : (ws : List Window) (n : ℕ) (s : Store) → given_store ws n x s ≡ given_store ws n y s
  unfolding given_store
  given-same ws n s = λ i. cond (eqb (length ws) 0) s (iter (nodes_in s) (λ (k : ℕ) (t : Store). given-at ws n k t i) s)

  -- with windows
  module _ (ws : List Window) (e : Event) (h : is_hear e ≡ false) where
    timed-answer : (t : Timed) → timed_answer t x ws e ≡ timed_answer t y ws e
    unfolding timed_answer
    timed-answer t = ap (λ (a : Answer). cond (is_end e && is_done a)
        (cond (list_ok t.site.config.nodes t.day.length ws) Done BadWindows) a) (answer-same t.site e h)

    next-timed : (t : Timed) → next_timed t x ws e ≡ next_timed t y ws e
    unfolding next_timed
    next-timed t = λ i. record { site = site-same (given_before t ws e) e h i; day = cond (begins_epoch t e) (next_in_day t.day) t.day }

    timed-store : (s : Store) (d : Day) → timed_store s d x ws e ≡ timed_store s d y ws e
    unfolding timed_store stored_answer
    timed-store s d =
        let b : begun_store s d x ws e ≡ begun_store s d y ws e =
        ap (λ (t : Store). cond (begins_epoch (timed_in s d) e) t s) (given-same ws (epoch_after d) s) in
        ap₂ (λ (a : Answer) (t : Store). cond (is_done (cond (too_short s) NoRoom a)) t s) (timed-answer (timed_in s d))
        (ap (λ (t : Store). store_after t x e) b ∙ store_same (begun_store s d y ws e) e h)

    -- with a tally and an output for reports
    module _ (s : Store) (d : Day) (t : Tally) (out : List ℕ) where
      few-same : lent_too_short s x out ≡ lent_too_short s y out
      few-same = ap (λ (b : Bool). too_short s || (b || report_too_short out)) (le-ltb _ _ long-x ∙ sym (le-ltb _ _ long-y))

      kept-answer : kept_answer (kept_in s d x t) ws e ≡ kept_answer (kept_in s d y t) ws e
      unfolding kept_answer tallied_answer
      kept-answer =
          ap (λ (a : Answer). first_refusal (cond (is_end e && is_done a) (cond (tally_ok t) Done NotANode) a)
          (cond (list_ok (site_in s).config.nodes d.length ws) Done BadWindows))
          (answer-same (site_in s) e h)

      pub step-answer : step_answer s d x ws t out e ≡ step_answer s d y ws t out e
      unfolding step_answer
      step-answer = λ i. cond (few-same i) NoRoom (kept-answer i)

      pub step-store : step_store s d x ws t out e ≡ step_store s d y ws t out e
      unfolding step_store
      step-store = ap₂ (λ (a : Answer) (z : Store). cond (is_done a) z s) step-answer (timed-store s d)

      put_same : put_report s x e out ≡ put_report s y e out
      unfolding put_report storage_answer
      put_same =
          ap (λ (a : Answer). cond (leb reports_size (length out) && (is_close e && is_done (cond (too_short s) NoRoom a)))
          (written out 0 (report_bytes (report_of true (site_in s).members))) out)
          (answer-same (site_in s) e h)

      pub step-report : step_report s d x ws t out e ≡ step_report s d y ws t out e
      unfolding step_report
      step-report = ap₂ (λ (a : Answer) (z : List ℕ). cond (is_done a) z out) step-answer put_same

      pub kept-timed : (step_kept s d x ws t out e).timed ≡ (step_kept s d y ws t out e).timed
      kept-timed =
          timed-by s d x ws t out e
          ∙ (λ i. cond (few-same i) (timed_in s d) (cond (is_done (kept-answer i)) (next-timed (timed_in s d) i) (timed_in s d)))
          ∙ sym (timed-by s d y ws t out e)

      pub kept-tally : (step_kept s d x ws t out e).tally ≡ (step_kept s d y ws t out e).tally
      kept-tally =
          tally-by s d x ws t out e
          ∙ (λ i. cond (few-same i) t (cond (is_done (kept-answer i)) (cond (is_end e) (tally_at (next-timed (timed_in s d) i).site t) t) t))
          ∙ sym (tally-by s d y ws t out e)
