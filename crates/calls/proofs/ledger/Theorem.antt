-- Lists of C calls on the memory of one site: each call is one step of the site that memory stands for, or none.
-- Assumes nothing.
use mathlib.Core.Path.{◌≡◌, refl, sym, ap, ◌∙◌, subst}
use mathlib.Core.Bool.{Bool, true, false, cond}
use mathlib.Core.Logic.{⊎_elim}
use mathlib.Core.List.{List, [], ◌∷◌}
use Prim.Native.Nat.{ℕ, ◌*◌}
use lib.Dec.{eqb}
use lib.ListN.{length}
use Rattle.words.proofs.Tests.{never, met?, hit, skip, read_same}
use Rattle.node.specs.Answers.{number, is_done}
use Rattle.node.specs.Answers.{Answer}
use Rattle.node.specs.Answers.{Done, OutOfRange, NoRoom}
use Rattle.node.proofs.Answers.{done-is, zero-is}
use Rattle.site.specs.Load.{loaded_site}
use Rattle.site.specs.Events.{is_end}
use Rattle.site.specs.declared.Event.{Event}
use Rattle.node.specs.declared.Config.{Config}
use Rattle.site.specs.Model.{Site}
use Rattle.site.specs.declared.Table.{Table}
use Rattle.histories.specs.Past.{Past, no_past}
use Rattle.windows.specs.declared.Window.{Window}
use Rattle.machine.specs.Layout.{Store}
use Rattle.machine.specs.timed.Timed.{given_table, timed_load_answer}
use Rattle.machine.specs.timed.Calls.{Call, TimedState, run_calls}
use Rattle.machine.proofs.timed.Laws.{loaded-site}
use Rattle.agreement.specs.daily.Daily.{begin_by, events_of_all, trace_calls}
use Rattle.agreement.proofs.daily.Theorem.{plain_of}
use Rattle.tally.specs.Counting.{first_tally}
use Rattle.tally.specs.Ends.{tally_at}
use Rattle.tally.specs.declared.Tally.{Tally}
use Rattle.agreement.proofs.accounts.Slots.{Sums, sums-loaded}
use Rattle.agreement.proofs.accounts.Theorem.{accounts}
use Rattle.recovery.specs.Calm.{live_in, live_set, Ready, Calm, whole, Risen}
use Rattle.calls.specs.lifted.Lifted.{Claim, Everywhere, Agreed, SendsAbove, Heirs, FirstHeirs, Informed}
use Rattle.calls.specs.lifted.Lifted.{Completes, Rises, Remains, Settles}
use Rattle.calls.specs.lifted.Lifted as claims
use Rattle.calls.proofs.lifted.Theorem.{lifts, lifted, calls-append}
use Rattle.machine.specs.combined.Kept.{Kept}
use Rattle.machine.specs.combined.Stored.{step_answer, step_accepted, step_kept}
use Rattle.machine.proofs.combined.Laws.{kept-refused, step-accepts}
use Rattle.std.specs.Prelude.{Option}
use Rattle.std.specs.Prelude.{None, Some}
use Rattle.sites.specs.one.Memory.{memory_too_short, day_in, kept_of}
use Rattle.sites.specs.one.Calls.{table_from, loading_of, timed_after_load, site_event_answer, kept_after_event}
use Rattle.calls.specs.ledger.Lists.{Did, CalledAll, left_by, SiteStep, step_of, steps_by, calls_in, Threaded, ClaimsOnce, Accounted}
use Rattle.calls.specs.ledger.Ledger.{SiteMemory, store_of, stands_for, run_state_in, site_in_memory, Made, parsed}
use Rattle.calls.specs.ledger.Ledger.{Called, step_for, steps_of}
use Rattle.calls.specs.ledger.Ledger.{past_in, Begun}
use Rattle.calls.specs.ledger.Ledger.{InMemory, Ledger}
use Rattle.calls.proofs.ledger.Along.{step_kept_lem, Along, along-append, steps-append, along-past, accounted}

-- the site with its day, and its area, of what memory stands for with a tally
abbrev placed : Kept → TimedState
placed k = record { timed = k.timed; area = k.area }

-- what one call makes
record One (w v : TimedState) (ss : List SiteStep) : Type 0 where
  run : v ≡ run_calls w (calls_in ss)
  along : Along w ss

none : {w v : TimedState} → v ≡ w → One w v []
unfolding run_calls Along
none e = record { run = e; along = tt }

no_steps : (b : Bool) → ◌≡◌ {A = List SiteStep} [] (cond b [] [])
no_steps true = refl
no_steps false = refl

-- one call
module _ (m : SiteMemory) (ws : List Window) (t : Tally) (out : List ℕ) (n : ℕ) (u : Tally) (l : SiteMemory) where
  abbrev s : Store
  s = store_of m

  -- its answer is A, and it leaves k
  refused : (A : Answer) (k : Kept) (ss : List SiteStep) → n ≡ number A → kept_of (store_of l) l.area u ≡ k → is_done A ≡ false
      → k ≡ kept_of s m.area t
      → One (stands_for m) (stands_for l) (cond (eqb n 0) ss [])
  refused A k ss a q h e =
      subst (One (stands_for m) (stands_for l)) (sym (skip (eqb n 0) ss [] [] (ap (λ (x : ℕ). eqb x 0) a ∙ zero-is A ∙ h) refl))
      (none (ap placed (q ∙ e)))

  accepted : (e : Event) → n ≡ number (step_answer s (day_in m.words) m.area ws t out e)
      → kept_of (store_of l) l.area u ≡ step_kept s (day_in m.words) m.area ws t out e
      → step_accepted s (day_in m.words) m.area ws t out e ≡ true
      → One (stands_for m) (stands_for l) (cond (eqb n 0) (step_of (Some e) ws (site_in_memory m) (site_in_memory l) t u) [])
  unfolding run_calls Along
  accepted e a q h =
      let k = q ∙ step_kept_lem s (day_in m.words) m.area ws t out e h in
      subst (One (stands_for m) (stands_for l)) (sym (hit (eqb n 0) (step_of (Some e) ws (site_in_memory m) (site_in_memory l) t u) []
      (ap (λ (x : ℕ). eqb x 0) a ∙ zero-is (step_answer s (day_in m.words) m.area ws t out e) ∙ h)))
      (record {
        run = ap placed k;
        along = (
          record {
            before = refl;
            behind = ap (λ (x : Kept). x.timed.site) k;
            done = step-accepts s (day_in m.words) m.area ws t out e h;
            tally = ap (λ (x : Kept). x.tally) k ∙ ap (λ (x : Kept). cond (is_end e) (tally_at x.timed.site t) t) (sym k);
          },
          tt,
        );
      })

  an-event : (e : Event) → n ≡ number (step_answer s (day_in m.words) m.area ws t out e)
      → kept_of (store_of l) l.area u ≡ step_kept s (day_in m.words) m.area ws t out e
      → One (stands_for m) (stands_for l) (cond (eqb n 0) (step_of (Some e) ws (site_in_memory m) (site_in_memory l) t u) [])
  an-event e a q =
      ⊎_elim (accepted e a q)
      (λ h. refused (step_answer s (day_in m.words) m.area ws t out e) _ _ a q h
      (kept-refused s (day_in m.words) m.area ws t out e h))
      (met? (step_accepted s (day_in m.words) m.area ws t out e))

  any : (p : (Option Event)) → n ≡ number (site_event_answer s m.area ws t out p)
      → kept_of (store_of l) l.area u ≡ kept_after_event s m.area ws t out p
      → One (stands_for m) (stands_for l) (cond (eqb n 0) (step_of p ws (site_in_memory m) (site_in_memory l) t u) [])
  unfolding site_event_answer kept_after_event
  any None a q =
      let z : stands_for l ≡ stands_for m = ap placed (q ∙ read_same (λ (k : Kept). k) (memory_too_short s) _ _ _ refl refl) in
      subst (One (stands_for m) (stands_for l)) (no_steps (eqb n 0)) (none z)
  any (Some e) a q =
      ⊎_elim
      (λ h. refused NoRoom _ _ (a ∙ ap number (hit _ _ _ h)) q refl (hit _ _ _ h))
      (λ h. an-event e (a ∙ ap number (skip _ _ _ _ h refl)) (q ∙ skip _ _ _ _ h refl))
      (met? (memory_too_short s))

one : (m : SiteMemory) (d : Did Made SiteMemory) → Called m d
    → One (stands_for m) (stands_for d.left) (cond (eqb d.answer 0) (step_for m d) [])
one m d r = any m d.call.windows d.call.tally d.call.reports d.answer d.tally d.left (parsed d.call) r.answer
    r.kept

-- a list of calls
all : (m : SiteMemory) (ds : List (Did Made SiteMemory)) → CalledAll Called m ds
    → One (stands_for m) (stands_for (left_by m ds)) (steps_of m ds)
unfolding CalledAll left_by steps_by
all m [] r = none refl
all m (d ∷ ds) r =
    let x = one m d r.0 in
    let y = all d.left ds r.1 in
    let ss = cond (eqb d.answer 0) (step_for m d) [] in
    record {
      run = y.run ∙ ap (λ (w : TimedState). run_calls w (calls_in (steps_of d.left ds))) x.run
          ∙ sym (steps-append (stands_for m) ss (steps_of d.left ds));
      along = along-append (stands_for m) ss (steps_of d.left ds) x.along
          (subst (λ (w : TimedState). Along w (steps_of d.left ds)) x.run y.along);
    }

-- From an accepted load on

module _ (f : Config) (rows : List ℕ) (D : ℕ) (ws : List Window) (m : SiteMemory) (b : Begun f rows D ws m) where
  abbrev t : Table
  t = table_from rows

  loads : timed_load_answer f t D ws ≡ Done
  unfolding loading_of
  loads = go (memory_too_short b.before) refl (eqb (length rows) (3 * f.nodes)) refl
    where
      done : is_done (loading_of b.before f rows D ws) ≡ true
      done = sym (zero-is (loading_of b.before f rows D ws)) ∙ ap (λ (n : ℕ). eqb n 0) b.answer

      go : (x : Bool) → memory_too_short b.before ≡ x → (y : Bool) → eqb (length rows) (3 * f.nodes) ≡ y → timed_load_answer f t D ws ≡ Done
      go true p y q = never (sym (ap is_done (sym (hit _ NoRoom _ p)) ∙ done))
      go false p true q = done-is _ (ap is_done (sym (skip _ NoRoom _ _ p (hit _ _ OutOfRange q))) ∙ done)
      go false p false q = never (sym (ap is_done (sym (skip _ NoRoom _ _ p (skip _ (timed_load_answer f t D ws) OutOfRange _ q refl)))
          ∙ done))

  begins : stands_for m ≡ begin_by f t D ws m.area
  unfolding timed_after_load
  begins = λ i. record { timed = (b.site ∙ hit _ _ _ (sym (zero-is (loading_of b.before f rows D ws)) ∙ ap (λ (n : ℕ). eqb n 0) b.answer)) i; area = m.area }

  module _ (ds : List (Did Made SiteMemory)) (r : CalledAll Called m ds) where
    abbrev cs : List Call
    cs = calls_in (steps_of m ds)

    went : One (stands_for m) (stands_for (left_by m ds)) (steps_of m ds)
    went = all m ds r

    final : stands_for (left_by m ds) ≡ run_calls (begin_by f t D ws m.area) cs
    final = went.run ∙ ap (λ (w : TimedState). run_calls w cs) begins

    past : past_in m ds ≡ claims.past_by f t D ws m.area cs
    past = along-past (no_past (site_in_memory m)) (stands_for m) (steps_of m ds) went.along
        ∙ ap (λ (w : TimedState). trace_calls (no_past w.timed.site) w cs) begins

    in_memory : (P : Claim) → Everywhere P → P f (run_state_in (left_by m ds)) (past_in m ds)
    in_memory P A =
        subst (P f (run_state_in (left_by m ds))) (sym past)
        (subst (λ (w : TimedState). P f (plain_of w) (claims.past_by f t D ws m.area cs)) (sym final)
        (A.calls f t D ws loads m.area cs))

    -- the calls of an epoch
    module _ (es : List (Did Made SiteMemory)) (q : CalledAll Called (left_by m ds) es) (body : List Event) (v i j : ℕ) where
      abbrev next : List Call
      next = calls_in (steps_of (left_by m ds) es)

      abbrev Epoch : TimedState → Past → Type 0
      Epoch w y =
          events_of_all w next ≡ whole body → Ready y w.timed.site v → Calm (live_set w.timed.site) (plain_of w) body
          → live_in w.timed.site i ≡ true → live_in w.timed.site j ≡ true
          → Risen w.timed.site (run_calls w next).timed.site v i j

      by-calls : Epoch (run_calls (begin_by f t D ws m.area) cs) (claims.past_by f t D ws m.area cs)
      by-calls e R C li lj =
          subst (λ (w : TimedState). Risen (run_calls (begin_by f t D ws m.area) cs).timed.site w.timed.site v i j)
          (calls-append (begin_by f t D ws m.area) cs next)
          (lifted.calm-calls f t D ws loads m.area cs next body v e R C i j li lj)

      epoch : Epoch (stands_for (left_by m ds)) (past_in m ds)
      epoch = subst (Epoch (stands_for (left_by m ds))) (sym past)
          (subst (λ (w : TimedState). Epoch w (claims.past_by f t D ws m.area cs)) (sym final) by-calls)

      ends : site_in_memory (left_by (left_by m ds) es) ≡ (run_calls (stands_for (left_by m ds)) next).timed.site
      ends = ap (λ (w : TimedState). w.timed.site) (all (left_by m ds) es q).run

    summed : Threaded first_tally (steps_of m ds) → Accounted (site_in_memory m) (steps_of m ds)
    summed c =
        let e : site_in_memory m ≡ loaded_site f (given_table ws t) = ap (λ (w : TimedState). w.timed.site) begins
        ∙ loaded-site f t D ws loads in
        accounted (site_in_memory m) (subst (λ (s : Site). Sums (s ∷ []) first_tally) (sym e) (sums-loaded f (given_table ws t))) (stands_for m)
        (steps_of m ds) went.along c

everywhere : (P : Claim) → Everywhere P → InMemory P
everywhere P A = record { holds = λ f rows D ws m ds b r. in_memory f rows D ws m b ds r P A }

pub claims-once : Everywhere ClaimsOnce
claims-once = lifts.law ClaimsOnce (λ f t d area es. (accounts.accounted f t d area es).once)

pub ledger : Ledger
ledger =
    record {
      stands = λ m ds r. (all m ds r).run;
      final = λ f rows D ws m ds b r. final f rows D ws m b ds r;
      demand3 = everywhere Agreed lifted.demand3;
      sends-above = everywhere SendsAbove lifted.sends-above;
      heirs = everywhere Heirs lifted.heirs;
      first-heirs = everywhere FirstHeirs lifted.first-heirs;
      informed = everywhere Informed lifted.informed;
      completes = everywhere Completes lifted.completes;
      rises = everywhere Rises lifted.rises;
      remains = everywhere Remains lifted.remains;
      settles = everywhere Settles lifted.settles;
      calm = λ f rows D ws m ds es body v b r q e R C i j li lj.
          subst (λ (s : Site). Risen (site_in_memory (left_by m ds)) s v i j) (sym (ends f rows D ws m b ds r es q body v i j))
          (epoch f rows D ws m b ds r es q body v i j e R C li lj);
      claims = everywhere ClaimsOnce claims-once;
      accounts = λ f rows D ws m ds b r c. summed f rows D ws m b ds r c;
    }
