-- The steps of a site, one after another, beside the run of their calls: the same past, and the sums of the tally that goes with them.
-- Assumes nothing.
use mathlib.Core.Path.{◌≡◌, refl, sym, ap, ◌∙◌, subst}
use mathlib.Core.Bool.{Bool, true, false, cond, ◌&&◌}
use mathlib.Core.List.{List, [], ◌∷◌, ◌++◌, append-nil, append_assoc}
use Prim.Native.Nat.{ℕ}
use Rattle.words.proofs.Tests.{never, hit, skip, read_same}
use Rattle.node.specs.Answers.{is_done}
use Rattle.node.specs.Figures.{is_last}
use Rattle.node.specs.Answers.{NoRoom}
use Rattle.site.specs.Answers.{site_end, answer_of}
use Rattle.site.specs.Steps.{site_after, area_after}
use Rattle.site.specs.Events.{is_end}
use Rattle.site.specs.Run.{RunState}
use Rattle.site.specs.Model.{Site}
use Rattle.site.specs.declared.Event.{Event}
use Rattle.site.specs.declared.Event.TheVariants.{Send, Hear, Close, Take, End, Want, Crash, Restart}
use Rattle.histories.specs.Past.{Past, no_past, recorded, past_after}
use Rattle.windows.specs.declared.Window.{Window}
use Rattle.machine.specs.Layout.{Store, site_in}
use Rattle.machine.specs.timed.Timed.{Timed, epoch_after, given_site, in_last_round, timed_answer, given_before, next_timed, timed_after}
use Rattle.machine.specs.timed.Calls.{TimedState, after_call, run_calls}
use Rattle.machine.specs.timed.Stored.{timed_in}
use Rattle.machine.specs.declared.Day.{Day}
use Rattle.machine.proofs.timed.Laws.{done-after}
use Rattle.agreement.specs.daily.Daily.{past_after_call, trace_calls}
use Rattle.tally.specs.Counting.{first_tally, tally_ok}
use Rattle.tally.specs.Ends.{tally_at, tallied_site, tally_after}
use Rattle.tally.specs.declared.Tally.{Tally}
use Rattle.tally.proofs.Valid.{first-valid, valid}
use Rattle.tally.proofs.Steps.{same_answer, same-site, stays-valid}
use Rattle.agreement.specs.accounts.Accounts.{epoch_site}
use Rattle.agreement.proofs.accounts.Counted.{Goes, goes}
use Rattle.agreement.proofs.accounts.Slots.{Sums, sums-step}
use Rattle.machine.specs.combined.Kept.{Kept, kept_answer, next_kept, kept_after}
use Rattle.machine.specs.combined.Stored.{lent_too_short, kept_in, step_answer, step_accepted, step_kept}
use Rattle.machine.proofs.combined.Laws.{step-accepts}
use Rattle.calls.specs.ledger.Lists.{SiteStep, calls_in, past_by, begun_by, Threaded, tally_by, Accounted}

-- an accepted event in lent storage
pub step_kept_lem : (s : Store) (d : Day) (l : List ℕ) (ws : List Window) (t : Tally) (out : List ℕ) (e : Event)
    → step_accepted s d l ws t out e ≡ true
    → step_kept s d l ws t out e
    ≡ record {
      timed = timed_after (timed_in s d) l ws e;
      area = area_after (site_in s) l e;
      tally = cond (is_end e) (tally_at (timed_after (timed_in s d) l ws e).site t) t;
    }
unfolding step_answer step_kept kept_after next_kept
step_kept_lem s d l ws t out e h = go (lent_too_short s l out) refl
  where
    k : Kept
    k = kept_in s d l t

    x : Timed
    x = timed_after (timed_in s d) l ws e

    go : (b : Bool) → lent_too_short s l out ≡ b → step_kept s d l ws t out e ≡ record
        { timed = x; area = area_after (site_in s) l e; tally = cond (is_end e) (tally_at x.site t) t }
    go true q = never (sym (sym (ap is_done (hit _ _ (kept_answer k ws e) q)) ∙ h))
    go false q =
        let a : is_done (kept_answer k ws e) ≡ true = sym (ap is_done (skip _ NoRoom _ _ q refl)) ∙ h in
        let p = sym (done-after (timed_in s d) l ws e (step-accepts s d l ws t out e h)) in
        skip _ k _ _ q (hit _ _ k a) ∙ (λ i. record {
          timed = p i;
          area = area_after (site_in s) l e;
          tally = cond (is_end e)
              (tally_at (p i).site t) t;
        })

-- a step of the site of w
pub record Follows (w : TimedState) (s : SiteStep) : Type 0 where
  pub before : s.before ≡ w.timed.site
  pub behind : s.behind ≡ (after_call w s.call).timed.site
  pub done : is_done (timed_answer w.timed w.area s.call.windows s.call.event) ≡ true
  pub tally : s.left ≡ cond (is_end s.call.event) (tally_at s.behind s.lent) s.lent

-- a list of them
unfoldable pub Along : TimedState → List SiteStep → Type 0
Along w [] = Unit {0}
Along w (s ∷ ss) = Follows w s × Along (after_call w s.call) ss

pub along-append : (w : TimedState) (xs ys : List SiteStep) → Along w xs → Along (run_calls w (calls_in xs)) ys → Along w (xs ++ ys)
unfolding Along run_calls
along-append w [] ys a b = b
along-append w (x ∷ xs) ys a b = (a.0, along-append (after_call w x.call) xs ys a.1 b)

pub steps-append : (w : TimedState) (xs ys : List SiteStep) → run_calls w (calls_in (xs ++ ys))
    ≡ run_calls (run_calls w (calls_in xs)) (calls_in ys)
unfolding run_calls
steps-append w [] ys = refl
steps-append w (x ∷ xs) ys = steps-append (after_call w x.call) xs ys

-- the past of the steps is that of their calls
pub along-past : (y : Past) (w : TimedState) (ss : List SiteStep) → Along w ss → past_by y ss ≡ trace_calls y w (calls_in ss)
unfolding trace_calls past_by Along past_after_call
along-past y w [] a = refl
along-past y w (s ∷ ss) a =
    along-past (recorded y s.before s.call.event s.behind) (after_call w s.call) ss a.1
    ∙ ap (λ (z : Past). trace_calls z (after_call w s.call) (calls_in ss))
    ((λ i. recorded y (a.0.before i) s.call.event (a.0.behind i)) ∙ sym (hit _ _ y a.0.done))

-- What a step adds to the tally: the site behind it is counted as behind the same event of the site that has its demands

and_none : (b : Bool) → (b && false) ≡ false
and_none true = refl
and_none false = refl

and-whole : (b : Bool) → (b && true) ≡ b
and-whole true = refl
and-whole false = refl

module _ (t : Timed) (area : List ℕ) (ws : List Window) where
  given-answer : (e : Event) → answer_of (given_before t ws e) area e ≡ answer_of t.site area e
  unfolding answer_of site_end given_site
  given-answer (Send j) = refl
  given-answer (Hear j p) = refl
  given-answer Close = refl
  given-answer (Take j i) = refl
  given-answer End = read_same (λ (s : Site). answer_of s area End) (in_last_round t.site) (given_site ws (epoch_after t.day) t.site)
      t.site _ refl refl
  given-answer (Want j d) = refl
  given-answer (Crash j) = refl
  given-answer (Restart j flags) = refl

  given-past : (y : Past) (e : Event) (x : Site) → recorded y (given_before t ws e) e x ≡ recorded y t.site e x
  unfolding given_site
  given-past y (Send j) x = refl
  given-past y (Hear j p) x = refl
  given-past y Close x = refl
  given-past y (Take j i) x = refl
  given-past y End x = read_same (λ (s : Site). recorded y s End x) (in_last_round t.site) (given_site ws (epoch_after t.day) t.site)
      t.site _ refl refl
  given-past y (Want j d) x = refl
  given-past y (Crash j) x = refl
  given-past y (Restart j flags) x = refl

  given-last : (e : Event) → is_last (given_before t ws e).config (given_before t ws e).place ≡ in_last_round t.site
  unfolding given_site
  given-last e = read_same (λ (s : Site). is_last s.config s.place) (is_end e && in_last_round t.site)
      (given_site ws (epoch_after t.day) t.site) t.site _ refl refl

  -- an event that the site with its day accepts, the site accepts
  plainly : (e : Event) → is_done (timed_answer t area ws e) ≡ true → is_done (answer_of t.site area e) ≡ true
  unfolding timed_answer
  plainly e h = go (is_done (answer_of t.site area e)) refl
    where
      go : (b : Bool) → is_done (answer_of t.site area e) ≡ b → is_done (answer_of t.site area e) ≡ true
      go true q = q
      go false q =
          never (sym (sym (ap is_done (skip (is_end e && is_done (answer_of t.site area e)) _ _ _
          (ap (λ (b : Bool). is_end e && b) q ∙ and_none (is_end e)) refl) ∙ q) ∙ h))

-- what holds of the tally behind each step
record Keeps (y : Past) (l : List Site) (t : Tally) : Type 0 where
  ok : tally_ok t ≡ true
  epochs : Goes y t
  sums : Sums l t

module _ (y : Past) (l : List Site) (w : TimedState) (s : SiteStep) (F : Follows w s) (K : Keeps y l s.lent) where
  abbrev e : Event
  e = s.call.event

  abbrev ws : List Window
  ws = s.call.windows

  abbrev g : Site
  g = given_before w.timed ws e

  abbrev v : RunState
  v = record { site = g; area = w.area }

  done : is_done (answer_of g w.area e) ≡ true
  done = ap is_done (given-answer w.timed w.area ws e) ∙ plainly w.timed w.area ws e F.done

  after_is : site_after g w.area e ≡ s.behind
  unfolding next_timed
  after_is = sym (F.behind ∙ ap (λ (x : Timed). x.site) (done-after w.timed w.area ws e F.done))

  tally-is : tally_after g w.area s.lent e ≡ s.left
  unfolding tally_after
  tally-is =
      ap (λ (b : Bool). cond (is_end e && b) (tally_at (tallied_site g w.area s.lent e) s.lent) s.lent)
      (ap is_done (same_answer g w.area s.lent K.ok e) ∙ done)
      ∙ ap (λ (b : Bool). cond b (tally_at (tallied_site g w.area s.lent e) s.lent) s.lent) (and-whole (is_end e))
      ∙ ap (λ (x : Site). cond (is_end e) (tally_at x s.lent) s.lent) (same-site g w.area s.lent K.ok e ∙ after_is)
      ∙ sym F.tally

  past_is : past_after y v e ≡ recorded y s.before e s.behind
  unfolding past_after
  past_is =
      hit _ _ y done ∙ given-past w.timed w.area ws y e (site_after g w.area e)
      ∙ (λ i. recorded y (sym F.before i) e (after_is i))

  begun-is : epoch_site v e ≡ cond (is_end e && in_last_round s.before) (s.behind ∷ []) []
  unfolding epoch_site
  begun-is =
      (λ i. cond (is_end e && (done i && given-last w.timed w.area ws e i)) (after_is i ∷ []) [])
      ∙ ap (λ (x : Site). cond (is_end e && in_last_round x) (s.behind ∷ []) []) (sym F.before)

  keeps : Keeps (recorded y s.before e s.behind) (l ++ cond (is_end e && in_last_round s.before) (s.behind ∷ []) []) s.left
  keeps =
      record {
        ok = subst (λ (t : Tally). tally_ok t ≡ true) tally-is (stays-valid g w.area s.lent e K.ok);
        epochs = subst (λ (t : Tally). Goes (recorded y s.before e s.behind) t) tally-is
            (subst (λ (p : Past). Goes p (tally_after g w.area s.lent e)) past_is (goes y v s.lent e K.ok K.epochs));
        sums = subst (λ (t : Tally). Sums (l ++ cond (is_end e && in_last_round s.before) (s.behind ∷ []) []) t) tally-is
            (subst (λ (x : List Site). Sums (l ++ x) (tally_after g w.area s.lent e)) begun-is
            (sums-step l v s.lent e K.ok K.sums));
      }

keeps-all : (y : Past) (l : List Site) (t : Tally) (w : TimedState) (ss : List SiteStep) → Along w ss → Threaded t ss → Keeps y l t
    → Keeps (past_by y ss) (l ++ begun_by ss) (tally_by t ss)
unfolding Along Threaded past_by begun_by tally_by
keeps-all y l t w [] a c k = subst (λ (x : List Site). Keeps y x t) (sym (append-nil l)) k
keeps-all y l t w (s ∷ ss) a c k =
    let b : List Site = cond (is_end s.call.event && in_last_round s.before) (s.behind ∷ []) [] in
    let z = recorded y s.before s.call.event s.behind in
    subst (λ (x : List Site). Keeps (past_by z ss) x (tally_by s.left ss)) (append_assoc l b (begun_by ss))
    (keeps-all z (l ++ b) s.left (after_call w s.call) ss a.1 c.1
    (keeps y l w s a.0 (subst (Keeps y l) (sym c.0) k)))

-- from a load that left the site `start`, of which the tally has counted the first epoch
pub accounted : (start : Site) → Sums (start ∷ []) first_tally → (w : TimedState) (ss : List SiteStep) → Along w ss → Threaded first_tally ss
    → Accounted start ss
accounted start S w ss a c =
    let k = keeps-all (no_past start) (start ∷ []) first_tally w ss a c (record { ok = first-valid; epochs = refl; sums = S }) in
    record {
      valid = k.ok;
      answers = λ s area e. same_answer s area (tally_by first_tally ss) k.ok e;
      epochs = k.epochs;
      slots = k.sums.slots;
      held = k.sums.held;
      total = (valid (tally_by first_tally ss) k.ok).total;
    }
