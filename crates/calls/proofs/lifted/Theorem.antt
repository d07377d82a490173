-- A list of calls with windows is a list of events, and a site in a group is what its own calls make it: so claims over lists of events are
-- lifted.
-- Assumes nothing.
use mathlib.Core.Path.{◌≡◌, refl, sym, ap, ◌∙◌, subst}
use mathlib.Core.Bool.{true}
use mathlib.Core.List.{List, [], ◌∷◌, ◌++◌}
use Prim.Native.Nat.{ℕ}
use lib.ListN.{length}
use Rattle.node.specs.Answers.{Done}
use Rattle.site.specs.Load.{loaded_site}
use Rattle.site.specs.Run.{RunState, after, run}
use Rattle.node.specs.declared.Config.{Config}
use Rattle.site.specs.declared.Table.{Table}
use Rattle.site.specs.Model.{Site}
use Rattle.site.specs.declared.Event.{Event}
use Rattle.site.specs.declared.Event.TheVariants.{End}
use Rattle.site.proofs.Accepted.{answered}
use Rattle.histories.specs.Past.{no_past, trace}
use Rattle.histories.specs.Reached.{begin, reached, past_of, Accepted}
use Rattle.agreement.proofs.Theorem.{holds}
use Rattle.agreement.proofs.Succession.{succeeds}
use Rattle.consensus.proofs.Theorem.{consensus}
use Rattle.recovery.specs.Calm.{whole, epoch_end, Risen}
use Rattle.recovery.proofs.Theorem.{recovery}
use Rattle.windows.specs.Windows.{list_ok}
use Rattle.windows.specs.declared.Window.{Window}
use Rattle.machine.specs.timed.Timed.{given_site, given_table, timed_load_answer, loaded_timed}
use Rattle.machine.specs.timed.Calls.{Call, TimedState, after_call, run_calls}
use Rattle.machine.proofs.timed.Laws.{loaded-site}
use Rattle.agreement.specs.daily.Daily.{wants_of, events_of_all, begin_by, final_by, trace_calls}
use Rattle.agreement.proofs.daily.Wants.{run-append, trace-append, wants-all, wants-past}
use Rattle.agreement.proofs.daily.Theorem.{plain_of, same-all, long-loaded, long-run, plain}
use Rattle.group.specs.Alone.{AsAlone}
use Rattle.group.proofs.Theorem.{several}
use Rattle.calls.specs.lifted.Lifted.{Claim, Always, run_state_by, past_by, Everywhere, Lifts, Agreed, Rises, Remains, Settles, Informed}
use Rattle.calls.specs.lifted.Lifted.{Completes}
use Rattle.calls.specs.lifted.Lifted.{SendsAbove, Heirs, FirstHeirs, Lifted}

-- the moment after a list of calls is the one after its events
module _ (f : Config) (t : Table) (D : ℕ) (ws : List Window) (h : timed_load_answer f t D ws ≡ Done) (area : List ℕ) (cs : List Call) where
  abbrev w : TimedState
  w = begin_by f t D ws area

  abbrev g : Table
  g = given_table ws t

  abbrev es : List Event
  es = events_of_all w cs

  site-is : (loaded_timed f t D ws).site ≡ loaded_site f g
  site-is = loaded-site f t D ws h

  long : length (loaded_timed f t D ws).site.members ≡ 32
  long = ap (λ (s : Site). length s.members) site-is ∙ long-loaded f g

  both : (run (plain_of w) es ≡ plain_of (run_calls w cs)) × (trace (no_past (loaded_timed f t D ws).site) (plain_of w) es
      ≡ trace_calls (no_past (loaded_timed f t D ws).site) w cs)
  both = same-all (no_past (loaded_timed f t D ws).site) w cs long

  state-is : run_state_by f t D ws area cs ≡ reached f g area es
  state-is = sym both.0 ∙ ap (λ (s : Site). run (record { site = s; area = area }) es) site-is

  past_is : past_by f t D ws area cs ≡ past_of f g area es
  past_is = sym both.1 ∙ ap (λ (s : Site). trace (no_past s) (record { site = s; area = area }) es) site-is

  long-then : length (run_state_by f t D ws area cs).site.members ≡ 32
  long-then = subst (λ (x : RunState). length x.site.members ≡ 32) (sym state-is) (long-run (begin f g area) es (long-loaded f g))

  module _ (P : Claim) (A : Always P) where
    by-calls : P f (run_state_by f t D ws area cs) (past_by f t D ws area cs)
    by-calls = subst (P f (run_state_by f t D ws area cs)) (sym past_is)
        (subst (λ (x : RunState). P f x (past_of f g area es)) (sym state-is) (A f g (plain f t D ws h area cs).loads area es))

    -- the demands given: the events, and then the wants
    module _ (e : ℕ) (lent : List Window) (ok : list_ok (run_state_by f t D ws area cs).site.config.nodes D lent ≡ true)
        (x : Accepted (run_state_by f t D ws area cs) End) where
      abbrev v : RunState
      v = run_state_by f t D ws area cs

      given_is : record { site = given_site lent e v.site; area = v.area } ≡ reached f g area (es ++ wants_of lent e 32)
      given_is =
          sym (wants-all lent e D v.site v.area long-then (answered v.site v.area End x).0 ok)
          ∙ ap (λ (y : RunState). run y (wants_of lent e 32)) state-is ∙ sym (run-append (begin f g area) es (wants_of lent e 32))

      past-stays : past_by f t D ws area cs ≡ past_of f g area (es ++ wants_of lent e 32)
      past-stays =
          past_is ∙ sym (wants-past (past_of f g area es) (reached f g area es) lent e 32)
          ∙ sym (trace-append (no_past (loaded_site f g)) (begin f g area) es (wants_of lent e 32))

      by-given : P f (record { site = given_site lent e v.site; area = v.area }) (past_by f t D ws area cs)
      by-given =
          subst (P f _) (sym past-stays)
          (subst (λ (y : RunState). P f y (past_of f g area (es ++ wants_of lent e 32))) (sym given_is)
          (A f g (plain f t D ws h area cs).loads area (es ++ wants_of lent e 32)))

everywhere : (P : Claim) → Always P → Everywhere P
everywhere P A =
    record {
      calls = λ f t D ws h area cs. by-calls f t D ws h area cs P A;
      given = λ f t D ws h area cs e lent ok x. by-given f t D ws h area cs P A e lent ok x;
      group = λ area own room long before cs a f t D ws h st e.
          let r = several.alone area own room long before cs a f t D ws h in
          let q : AsAlone a _ own st = subst (AsAlone a _ own) (sym e) r in
          (q.site, by-calls st.config st.table st.day st.windows q.loads own st.calls P A);
    }

pub lifts : Lifts
lifts = record { law = everywhere }

agreed : Always Agreed
agreed f t d area es =
    record {
      agreement = λ u. (holds.demand3 f t d u area es).agreement;
      justified = λ u. (holds.demand3 f t d u area es).justified;
      unique = λ u. (holds.demand3 f t d u area es).unique;
    }

-- two calm epochs in a row, by the lists of both
settled : Always Settles
settled f t d area es first second v u R C =
    rw (sym (run-append (begin f t area) es (whole first)), sym (trace-append (no_past (loaded_site f t)) (begin f t area) es (whole first)))
    (λ R' C' same i l. (recovery.recovers f t d area).settles es first second v u R C R' C' same i l)

-- a list of calls in two parts
pub calls-append : (w : TimedState) (cs ds : List Call) → run_calls w (cs ++ ds) ≡ run_calls (run_calls w cs) ds
unfolding run_calls
calls-append w [] ds = refl
calls-append w (c ∷ cs) ds = calls-append (after_call w c) cs ds

-- the site after the calls of an epoch
epoch-is : (f : Config) (t : Table) (D : ℕ) (ws : List Window) → timed_load_answer f t D ws ≡ Done
    → (area : List ℕ) (cs ds : List Call) (body : List Event)
    → events_of_all (run_calls (begin_by f t D ws area) cs) ds ≡ whole body
    → epoch_end (run_state_by f t D ws area cs) body ≡ final_by f t D ws area (cs ++ ds)
unfolding run
epoch-is f t D ws h area cs ds body e =
    let x = run_calls (begin_by f t D ws area) cs in
    ap (λ (y : RunState). y.site)
    (sym (run-append (plain_of x) body (End ∷ [])) ∙ ap (run (plain_of x)) (sym e)
    ∙ (same-all (past_by f t D ws area cs) x ds (long-then f t D ws h area cs)).0)
    ∙ ap (λ (y : TimedState). y.timed.site) (sym (calls-append (begin_by f t D ws area) cs ds))

pub lifted : Lifted
lifted =
    record {
      demand3 = everywhere Agreed agreed;
      rises = rising;
      remains = everywhere Remains (λ f t d area es. (recovery.recovers f t d area).remains es);
      settles = everywhere Settles settled;
      informed = everywhere Informed (λ f t d area es. consensus.consistent f t d area es);
      completes = everywhere Completes (λ f t d area es. consensus.completes f t d area es);
      sends-above = everywhere SendsAbove (λ f t d area es. (succeeds.succession f t d area es).above);
      heirs = everywhere Heirs (λ f t d area es. (succeeds.succession f t d area es).heirs);
      first-heirs = everywhere FirstHeirs (λ f t d area es. (succeeds.succession f t d area es).first);
      calm-calls = λ f t D ws h area cs ds body v e R C i j li lj.
          subst (λ (s : Site). Risen (final_by f t D ws area cs) s v i j) (epoch-is f t D ws h area cs ds body e)
          (rising.calls f t D ws h area cs body v R C i j li lj);
    }
  where
    rising : Everywhere Rises
    rising = everywhere Rises (λ f t d area es. (recovery.recovers f t d area).rises es)
