-- An event of a site with windows, tally and report: refused, and done. What is done is the event of module timed.
-- Assumes nothing.
use mathlib.Core.Path.{◌≡◌, refl, sym, ap, ◌∙◌}
use mathlib.Core.Bool.{Bool, true, false, cond, ◌&&◌, ◌||◌}
use mathlib.Core.List.{List}
use Prim.Native.Nat.{ℕ, ◌≤◌}
use lib.Dec.{ltb}
use lib.ListN.{length}
use Rattle.words.proofs.Tests.{never, hit, skip, or-neither}
use Rattle.node.specs.Answers.{Answer, Done, NotANode, NoRoom, BadWindows, is_done}
use Rattle.node.proofs.Answers.{done-is}
use Rattle.site.specs.Answers.{area_size, answer_of}
use Rattle.site.specs.Events.{is_end, is_close}
use Rattle.site.specs.Steps.{area_after}
use Rattle.site.specs.declared.Event.{Event}
use Rattle.site.specs.declared.Event.TheVariants.{Send, Hear, Close, Take, End, Want, Crash, Restart}
use Rattle.site.specs.Model.{Site}
use Rattle.windows.specs.declared.Window.{Window}
use Rattle.machine.specs.Layout.{Store, store, words_size, bytes_size, too_short, site_in}
use Rattle.machine.proofs.Whole.{long-enough}
use Rattle.machine.specs.steps.After.{storage_answer}
use Rattle.machine.specs.timed.Timed.{Timed, timed_answer, timed_after, next_timed}
use Rattle.machine.specs.timed.Stored.{timed_in, stored_answer, timed_store}
use Rattle.machine.specs.declared.Day.{Day}
use Rattle.machine.proofs.timed.Laws.{end_is, end-area, plain-answer, refused-after, done-after}
use Rattle.machine.proofs.timed.Stored.{TurnIs, as-timed}
use Rattle.machine.specs.reports.Reports.{reported_in, put_report}
use Rattle.machine.proofs.reports.Laws.{no-close-put}
use Rattle.tally.specs.Counting.{tally_ok}
use Rattle.tally.specs.Ends.{tallied_answer, tally_at}
use Rattle.tally.specs.declared.Tally.{Tally}
use Rattle.machine.specs.combined.Kept.{Kept, first_refusal, list_fits, kept_answer, next_kept, kept_after}
use Rattle.machine.specs.combined.Stored.{kept_in, report_too_short, lent_too_short, step_answer, step_accepted, step_store, step_report}
use Rattle.machine.specs.combined.Stored.{step_kept}
use Rattle.machine.specs.combined.Inner.{objection}

-- the tally behind an event: an accepted end counts the site as it is then
abbrev pub tally_behind : Site → Event → Answer → Tally → Tally
tally_behind s e a t = cond (is_end e && is_done a) (tally_at s t) t

-- two answers, where the first is done or not
pub first_done : (x : Answer) → first_refusal x Done ≡ x
first_done x = go (is_done x) refl
  where
    go : (b : Bool) → is_done x ≡ b → cond b Done x ≡ x
    go true h = sym (done-is x h)
    go false h = refl

end-first : (x g : Answer) (b : Bool) → is_done x ≡ b → first_refusal (cond b Done x) g ≡ cond b g x
end-first x g true h = refl
end-first x g false h = skip _ _ _ _ h refl

bad-first : (x g : Answer) (b : Bool) → is_done x ≡ b → first_refusal (cond b NotANode x) g ≡ cond b NotANode x
bad-first x g true h = refl
bad-first x g false h = skip _ _ _ _ h refl

pub first-refuses : (x o : Answer) → is_done o ≡ false → is_done (first_refusal x o) ≡ false
first-refuses x o h = go (is_done x) refl
  where
    go : (b : Bool) → is_done x ≡ b → is_done (cond b o x) ≡ false
    go true k = h
    go false k = k

and-true : (b : Bool) → (b && true) ≡ b
and-true true = refl
and-true false = refl

and-false : (b : Bool) → (b && false) ≡ false
and-false true = refl
and-false false = refl

-- a test that is done was met
tally-met : (b : Bool) → is_done (cond b Done NotANode) ≡ true → b ≡ true
tally-met true h = refl
tally-met false h = never (sym h)

tally-missed : (b : Bool) → is_done (cond b Done NotANode) ≡ false → b ≡ false
tally-missed true h = never h
tally-missed false h = refl

list-met : (b : Bool) → is_done (cond b Done BadWindows) ≡ true → b ≡ true
list-met true h = refl
list-met false h = never (sym h)

-- a close is no end
close-no-end : (e : Event) → is_close e ≡ true → is_end e ≡ false
close-no-end (Send j) h = refl
close-no-end (Hear j p) h = refl
close-no-end Close h = refl
close-no-end (Take j i) h = refl
close-no-end End h = never (sym h)
close-no-end (Want j d) h = refl
close-no-end (Crash j) h = refl
close-no-end (Restart j m) h = refl

-- what is lent is long enough for the storage
pub few-short : (s : Store) (l out : List ℕ) → lent_too_short s l out ≡ false → (words_size ≤ length s.words)
    × (bytes_size ≤ length s.bytes)
few-short s l out h = long-enough s (or-neither (too_short s) (ltb (length l) area_size || report_too_short out) h).0

module _ (k : Kept) (ws : List Window) (e : Event) where
  abbrev plain : Answer
  plain = answer_of k.timed.site k.area e

  -- without an objection the answer is that of the site with its day
  pub same-timed : is_done (objection k ws e) ≡ true → kept_answer k ws e ≡ timed_answer k.timed k.area ws e
  unfolding kept_answer tallied_answer timed_answer
  same-timed h = go (is_end e) refl
    where
      list : Answer
      list = cond (list_fits k ws) Done BadWindows

      go : (b : Bool) → is_end e ≡ b → first_refusal (cond (is_end e && is_done plain) (cond (tally_ok k.tally) Done NotANode) plain) list
          ≡ cond (is_end e && is_done plain) list plain
      go true c =
          let v : tally_ok k.tally ≡ true = tally-met _ (sym (ap is_done (hit _ _ list c)) ∙ h) in
          ap (λ (z : Bool). first_refusal (cond (z && is_done plain) (cond (tally_ok k.tally) Done NotANode) plain) list) c
          ∙ ap (λ (z : Bool). first_refusal (cond (is_done plain) (cond z Done NotANode) plain) list) v
          ∙ end-first plain list (is_done plain) refl
          ∙ sym (ap (λ (z : Bool). cond (z && is_done plain) list plain) c)
      go false c =
          let v : list_fits k ws ≡ true = list-met _
          (sym (ap is_done (skip _ (cond (tally_ok k.tally) Done NotANode) list list c refl)) ∙ h) in
          ap (λ (z : Bool). first_refusal (cond (z && is_done plain) (cond (tally_ok k.tally) Done NotANode) plain) list) c
          ∙ ap (λ (z : Bool). first_refusal plain (cond z Done BadWindows)) v
          ∙ first_done plain
          ∙ sym (ap (λ (z : Bool). cond (z && is_done plain) list plain) c)

  -- an objection comes behind what the site refuses
  pub objected : is_done (objection k ws e) ≡ false → kept_answer k ws e ≡ first_refusal plain (objection k ws e)
  unfolding kept_answer tallied_answer
  objected h = go (is_end e) refl
    where
      list : Answer
      list = cond (list_fits k ws) Done BadWindows

      tested : Answer
      tested = cond (tally_ok k.tally) Done NotANode

      go : (b : Bool) → is_end e ≡ b → first_refusal (cond (is_end e && is_done plain) tested plain) list
          ≡ first_refusal plain (cond (is_end e) tested list)
      go true c =
          let v : tally_ok k.tally ≡ false = tally-missed _ (sym (ap is_done (hit _ _ list c)) ∙ h) in
          ap (λ (z : Bool). first_refusal (cond (z && is_done plain) tested plain) list) c
          ∙ ap (λ (z : Bool). first_refusal (cond (is_done plain) (cond z Done NotANode) plain) list) v
          ∙ bad-first plain list (is_done plain) refl
          ∙ sym (ap (λ (z : Bool). first_refusal plain (cond z tested list)) c
          ∙ ap (λ (z : Bool). first_refusal plain (cond z Done NotANode)) v)
      go false c = ap (λ (z : Bool). first_refusal (cond (z && is_done plain) tested plain) list) c
          ∙ sym (ap (λ (z : Bool). first_refusal plain (cond z tested list)) c)

  -- an event that the site with its tally and its list accepts is accepted with its list alone
  abbrev said : Answer
  said = cond (list_fits k ws) Done BadWindows

  accepted-by : (b c : Bool) (x v : Answer) → is_done x ≡ c → is_done (first_refusal (cond (b && c) v x) said) ≡ true
      → is_done (cond (b && c) said x) ≡ true
  accepted-by true true x v h g = tested (is_done v) refl
    where
      tested : (a : Bool) → is_done v ≡ a → is_done said ≡ true
      tested true q = sym (ap is_done (hit (is_done v) said v q)) ∙ g
      tested false q = never (sym (sym (ap is_done (skip (is_done v) said v v q refl)) ∙ g) ∙ q)
  accepted-by true false x v h g = never (sym (sym (ap is_done (skip (is_done x) said x x h refl)) ∙ g) ∙ h)
  accepted-by false c x v h g = done (is_done x) refl
    where
      done : (a : Bool) → is_done x ≡ a → is_done x ≡ true
      done true q = q
      done false q = never (sym (sym (ap is_done (skip (is_done x) said x x q refl)) ∙ g) ∙ q)

  pub accepts : is_done (kept_answer k ws e) ≡ true → is_done (timed_answer k.timed k.area ws e) ≡ true
  unfolding kept_answer tallied_answer timed_answer
  accepts h = accepted-by (is_end e) (is_done plain) plain (cond (tally_ok k.tally) Done NotANode) refl h

  -- an event that the site with its day refuses leaves the area
  still-area : is_done (timed_answer k.timed k.area ws e) ≡ false → area_after k.timed.site k.area e ≡ k.area
  unfolding area_after
  still-area h = go (is_end e) refl
    where
      go : (b : Bool) → is_end e ≡ b → area_after k.timed.site k.area e ≡ k.area
      go true c = ap (area_after k.timed.site k.area) (end_is e c) ∙ sym (end-area k.timed.site k.area)
      go false c = skip _ _ _ _ (ap is_done (sym (plain-answer k.timed k.area ws e c)) ∙ h) refl

  -- without an objection all is as the site with its day has it, and an accepted end is counted
  pub after-timed : is_done (objection k ws e) ≡ true
      → kept_after k ws e
      ≡ record {
        timed = timed_after k.timed k.area ws e;
        area = area_after k.timed.site k.area e;
        tally = tally_behind (timed_after k.timed k.area ws e).site e (timed_answer k.timed k.area ws e) k.tally;
      }
  unfolding kept_after next_kept
  after-timed h = go (is_done (timed_answer k.timed k.area ws e)) refl
    where
      a : is_done (kept_answer k ws e) ≡ is_done (timed_answer k.timed k.area ws e)
      a = ap is_done (same-timed h)

      go : (b : Bool) → is_done (timed_answer k.timed k.area ws e) ≡ b
          → kept_after k ws e
          ≡ record {
            timed = timed_after k.timed k.area ws e;
            area = area_after k.timed.site k.area e;
            tally = tally_behind (timed_after k.timed k.area ws e).site e (timed_answer k.timed k.area ws e) k.tally;
          }
      go true c =
          let n = done-after k.timed k.area ws e c in
          let y : cond (is_end e) (tally_at (next_timed k.timed k.area ws e).site k.tally) k.tally
          ≡ tally_behind (timed_after k.timed k.area ws e).site e (timed_answer k.timed k.area ws e) k.tally =
          ap (λ (x : Timed). cond (is_end e) (tally_at x.site k.tally) k.tally) (sym n)
          ∙ ap (λ (z : Bool). cond z (tally_at (timed_after k.timed k.area ws e).site k.tally) k.tally)
          (sym (and-true (is_end e)) ∙ ap (λ (z : Bool). is_end e && z) (sym c)) in
          hit _ _ _ (a ∙ c) ∙ (λ i. record { timed = sym n i; area = area_after k.timed.site k.area e; tally = y i })
      go false c =
          let n = refused-after k.timed k.area ws e c in
          let y : k.tally ≡ tally_behind (timed_after k.timed k.area ws e).site e (timed_answer k.timed k.area ws e) k.tally =
          sym (skip _ _ _ _ (ap (λ (z : Bool). is_end e && z) c ∙ and-false (is_end e)) refl) in
          let x = still-area c in
          skip _ _ _ _ (a ∙ c) (λ i. record { timed = sym n i; area = sym x i; tally = y i })

module _ (s : Store) (d : Day) (l : List ℕ) (ws : List Window) (t : Tally) (out : List ℕ) (e : Event) where
  abbrev kept : Kept
  kept = kept_in s d l t

  -- what is said of an event
  abbrev pub StepIs : Answer → Day → Tally → List ℕ → List ℕ → List ℕ → List ℕ → Type 0
  StepIs a n y w b x o =
      (a ≡ step_answer s d l ws t out e)
      × ((w ≡ (step_store s d l ws t out e).words)
      × ((b ≡ (step_store s d l ws t out e).bytes)
      × ((o ≡ step_report s d l ws t out e) × (kept_in (store w b) n x y ≡ step_kept s d l ws t out e))))

  -- a refusal changes nothing
  pub kept-refused : step_accepted s d l ws t out e ≡ false → step_kept s d l ws t out e ≡ kept
  unfolding step_answer step_kept kept_after
  kept-refused h = go (lent_too_short s l out) refl
    where
      go : (b : Bool) → lent_too_short s l out ≡ b → cond b kept (kept_after kept ws e) ≡ kept
      go true c = refl
      go false c = skip _ _ _ _ (sym (ap is_done (skip _ NoRoom (kept_answer kept ws e) _ c refl)) ∙ h) refl

  pub store-refused : step_accepted s d l ws t out e ≡ false → step_store s d l ws t out e ≡ s
  unfolding step_store
  store-refused h = skip _ _ _ _ h refl

  -- an accepted event is that of the site with its day
  kept-done : step_accepted s d l ws t out e ≡ true → (lent_too_short s l out ≡ false) × (is_done (kept_answer kept ws e) ≡ true)
  unfolding step_answer
  kept-done h = go (lent_too_short s l out) refl
    where
      go : (b : Bool) → lent_too_short s l out ≡ b → (lent_too_short s l out ≡ false) × (is_done (kept_answer kept ws e) ≡ true)
      go true c = never (sym (sym (ap is_done (hit _ NoRoom (kept_answer kept ws e) c)) ∙ h))
      go false c = (c, sym (ap is_done (skip _ NoRoom (kept_answer kept ws e) _ c refl)) ∙ h)

  pub step-accepts : step_accepted s d l ws t out e ≡ true → is_done (timed_answer (timed_in s d) l ws e) ≡ true
  step-accepts h = accepts kept ws e (kept-done h).1

  pub step-timed : step_accepted s d l ws t out e ≡ true → (step_kept s d l ws t out e).timed ≡ timed_after (timed_in s d) l ws e
  unfolding step_kept kept_after next_kept
  step-timed h =
      let a = kept-done h in
      ap (λ (k : Kept). k.timed) (skip _ _ _ _ a.0 (hit _ _ _ a.1)) ∙ sym (done-after (timed_in s d) l ws e (step-accepts h))

  refused : {a : Answer} → step_accepted s d l ws t out e ≡ false → a ≡ step_answer s d l ws t out e
      → StepIs a d t s.words s.bytes l out
  unfolding step_report
  refused h m =
      let q = store-refused h in
      let g = kept-refused h in (
        m,
        (ap (λ (x : Store). x.words) (sym q), (ap (λ (x : Store). x.bytes) (sym q), (sym (skip _ _ _ _ h refl), sym g))),
      )

  pub no_room : lent_too_short s l out ≡ true → StepIs NoRoom d t s.words s.bytes l out
  unfolding step_answer
  no_room h = let a : step_answer s d l ws t out e ≡ NoRoom = hit _ _ _ h in refused (ap is_done a) (sym a)

  -- the tally behind an event that is refused, behind an accepted end, and behind what is no end
  pub not-counted : (a : Answer) (v : Site) → is_done a ≡ false → t ≡ tally_behind v e a t
  not-counted a v h = sym (skip _ _ _ _ (ap (λ (z : Bool). is_end e && z) h ∙ and-false (is_end e)) refl)

  pub counted : (a : Answer) (v : Site) → is_done a ≡ true → is_end e ≡ true → tally_at v t ≡ tally_behind v e a t
  counted a v h k = sym (hit _ _ _ (ap (λ (z : Bool). is_end e && z) h ∙ and-true (is_end e) ∙ k))

  pub passed-by : (a : Answer) (v : Site) → is_end e ≡ false → t ≡ tally_behind v e a t
  passed-by a v k = sym (skip _ _ _ _ (ap (λ (z : Bool). z && is_done a) k) refl)

  module _ (few : lent_too_short s l out ≡ false) where
    abbrev short : too_short s ≡ false
    short = (or-neither (too_short s) (ltb (length l) area_size || report_too_short out) few).0

    answer-is : step_answer s d l ws t out e ≡ kept_answer kept ws e
    unfolding step_answer
    answer-is = skip _ _ _ _ few refl

    storage-is : storage_answer s l e ≡ answer_of (site_in s) l e
    unfolding storage_answer
    storage-is = skip _ _ _ _ short refl

    -- refused for its tally or its list, or for what comes before these
    pub refuses : {o a r : Answer} → o ≡ objection kept ws e → is_done o ≡ false → a ≡ storage_answer s l e → r ≡ first_refusal a o
        → StepIs r d t s.words s.bytes l out
    refuses {o} {a} p h q m =
        let z : first_refusal a o ≡ step_answer s d l ws t out e =
        ap (λ (x : Answer). first_refusal x o) (q ∙ storage-is) ∙ ap (first_refusal (answer_of (site_in s) l e)) p
        ∙ sym (answer-is ∙ objected kept ws e (ap is_done (sym p) ∙ h)) in
        refused (ap is_done (sym z) ∙ first-refuses a o h) (m ∙ z)

    module _ (good : is_done (objection kept ws e) ≡ true) where
      abbrev timed : Answer
      timed = timed_answer (timed_in s d) l ws e

      is-timed : step_answer s d l ws t out e ≡ timed
      is-timed = answer-is ∙ same-timed kept ws e good

      stored_is : stored_answer s d l ws e ≡ timed
      unfolding stored_answer
      stored_is = skip _ _ _ _ short refl

      store_is : timed_store s d l ws e ≡ step_store s d l ws t out e
      unfolding step_store timed_store
      store_is = go (is_done timed) refl
        where
          go : (b : Bool) → is_done timed ≡ b → timed_store s d l ws e ≡ step_store s d l ws t out e
          go true c = sym (hit _ _ _ (ap is_done is-timed ∙ c))
          go false c = skip _ _ _ _ (ap is_done stored_is ∙ c) (sym (skip _ _ _ _ (ap is_done is-timed ∙ c) refl))

      -- an event that is refused reports nothing
      none-reported : is_done timed ≡ false → reported_in s l e ≡ false
      none-reported h = go (is_close e) refl
        where
          go : (b : Bool) → is_close e ≡ b → (is_close e && is_done (storage_answer s l e)) ≡ false
          go true c =
              ap (λ (z : Bool). z && is_done (storage_answer s l e)) c
              ∙ ap is_done (storage-is ∙ sym (plain-answer (timed_in s d) l ws e (close-no-end e c))) ∙ h
          go false c = ap (λ (z : Bool). z && is_done (storage_answer s l e)) c

      report-is : put_report s l e out ≡ step_report s d l ws t out e
      unfolding step_report
      report-is = go (is_done timed) refl
        where
          go : (b : Bool) → is_done timed ≡ b → put_report s l e out ≡ step_report s d l ws t out e
          go true c = sym (hit _ _ _ (ap is_done is-timed ∙ c))
          go false c = sym (no-close-put s l e out (none-reported c)) ∙ sym (skip _ _ _ _ (ap is_done is-timed ∙ c) refl)

      kept-is : step_kept s d l ws t out e
          ≡ record {
            timed = timed_after (timed_in s d) l ws e;
            area = area_after (site_in s) l e;
            tally = tally_behind (timed_after (timed_in s d) l ws e).site e timed t;
          }
      unfolding step_kept
      kept-is = skip _ _ _ _ few (after-timed kept ws e good)

      -- done as the event of the site with its day is
      pub as-done : {a : Answer} {n : Day} {w b x o : List ℕ} {y : Tally} → TurnIs s d l ws e a n w b x → o ≡ put_report s l e out
          → y ≡ tally_behind (site_in (store w b)) e a t → StepIs a n y w b x o
      as-done {a} {n} {w} {b} {x} {o} {y} p q u =
          let z = as-timed s d l ws e (long-enough s short) in
          let answer : a ≡ timed = p.0.0 ∙ z.0.0 in
          let day : n ≡ (timed_after (timed_in s d) l ws e).day = p.0.1 ∙ z.0.1 in
          let site : site_in (store w b) ≡ (timed_after (timed_in s d) l ws e).site = p.1.1.1.0 ∙ z.1.0 in
          let area : x ≡ area_after (site_in s) l e = p.1.1.1.1 ∙ z.1.1 in
          let tally : y ≡ tally_behind (timed_after (timed_in s d) l ws e).site e timed t = u ∙ ap (λ (v : Site). tally_behind v e a t) site
          ∙ ap (λ (v : Answer). tally_behind (timed_after (timed_in s d) l ws e).site e v t) answer in
          let k = sym kept-is in (
            answer ∙ sym is-timed,
            (
              p.1.0 ∙ ap (λ (v : Store). v.words) store_is,
              (
                p.1.1.0 ∙ ap (λ (v : Store). v.bytes) store_is,
                (q ∙ report-is, (λ i. record { timed = record { site = site i; day = day i }; area = area i; tally = tally i }) ∙ k),
              ),
            ),
          )
