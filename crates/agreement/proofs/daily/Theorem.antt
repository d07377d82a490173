-- A list of calls with windows is a list of events, and so demand 3 holds of it.
-- Assumes nothing.
use mathlib.Core.Path.{◌≡◌, refl, sym, ap, ◌∙◌, subst}
use mathlib.Core.Bool.{Bool, true, false, cond, ◌&&◌}
use mathlib.Core.List.{List, [], ◌∷◌, ◌++◌, Memᴰ}
use Prim.Native.Nat.{ℕ, ◌≤◌}
use lib.ListN.{length}
use Rattle.words.proofs.Tests.{hit, skip, by-test}
use Rattle.lists.proofs.Laws.{length-tab}
use Rattle.node.specs.Answers.{is_done}
use Rattle.node.specs.Answers.{Done, BadWindows}
use Rattle.node.proofs.Answers.{done-is}
use Rattle.site.specs.Load.{loaded_member, loaded_site}
use Rattle.site.specs.Answers.{area_size, site_end, answer_of}
use Rattle.site.specs.Events.{is_end}
use Rattle.site.specs.Steps.{ended_site, next_site, site_after, area_after}
use Rattle.site.specs.Run.{RunState, after, run}
use Rattle.node.specs.declared.Config.{Config}
use Rattle.site.specs.declared.Table.{Table}
use Rattle.site.specs.Model.{Site}
use Rattle.site.specs.declared.Event.{Event}
use Rattle.site.specs.declared.Event.TheVariants.{End}
use Rattle.site.proofs.Accepted.{answered}
use Rattle.site.proofs.Steps.{members_kept}
use Rattle.histories.specs.Past.{Determination, Past, no_past, recorded, past_after, trace}
use Rattle.agreement.specs.Demand.{Agreement, Justified, SameDetermination}
use Rattle.agreement.proofs.Theorem.{holds}
use Rattle.windows.specs.Windows.{list_ok}
use Rattle.windows.specs.declared.Window.{Window}
use Rattle.machine.specs.timed.Timed.{Timed, epoch_after, given_site, given_table, timed_load_answer, loaded_timed, in_last_round, timed_answer}
use Rattle.machine.specs.timed.Timed.{given_before}
use Rattle.machine.specs.timed.Timed.{next_timed, timed_after}
use Rattle.machine.specs.timed.Calls.{Call, TimedState, after_call, run_calls}
use Rattle.machine.proofs.timed.Laws.{loaded-site, end-area, end-plain, end_is, plain-answer, plain-after}
use Rattle.agreement.specs.daily.Daily.{wants_of, events_of, events_of_all, begin_by, past_after_call, trace_calls, Plain, Daily}
use Rattle.agreement.proofs.daily.Wants.{run-append, trace-append, wants-all, wants-past}
use Rattle.agreement.proofs.daily.Loads.{given-loads, timed-accepted}

-- a site keeps its 32 members
pub long_after : (s : Site) (area : List ℕ) (e : Event) → length s.members ≡ 32 → length (site_after s area e).members ≡ 32
unfolding site_after
long_after s area e h = by-test (λ (x : Site). length x.members ≡ 32) (is_done (answer_of s area e)) (next_site s area e) s
    (λ t. members_kept s area e ∙ h) (λ t. h)

pub long-run : (w : RunState) (es : List Event) → length w.site.members ≡ 32 → length (run w es).site.members ≡ 32
unfolding run
long-run w [] h = h
long-run w (e ∷ es) h = long-run (after w e) es (long_after w.site w.area e h)

-- the site of a call, with its area
abbrev pub plain_of : TimedState → RunState
plain_of w = record { site = w.timed.site; area = w.area }

-- a call and its events come to the same site, the same area and the same past
record Same (past : Past) (w : TimedState) (c : Call) (es : List Event) : Type 0 where
  state : run (plain_of w) es ≡ plain_of (after_call w c)
  traced : trace past (plain_of w) es ≡ past_after_call past w c

abbrev call_of : Event → List Window → Call
call_of e ws = record { event = e; windows = ws }

module _ (past : Past) (w : TimedState) (ws : List Window) (long : length w.timed.site.members ≡ 32) where
  abbrev t : Timed
  t = w.timed

  abbrev s : Site
  s = w.timed.site

  -- a call that is one event of the site
  same-one : (e : Event) → timed_answer t w.area ws e ≡ answer_of s w.area e
      → (timed_after t w.area ws e).site ≡ site_after s w.area e → Same past w (call_of e ws) (e ∷ [])
  unfolding run trace past_after_call past_after
  same-one e a b =
      record {
        state = λ i. record { site = sym b i; area = area_after s w.area e };
        traced = (λ i. cond (is_done (sym a i)) (recorded past s e (sym b i)) past);
      }

  same-plain : (e : Event) → is_end e ≡ false → Same past w (call_of e ws) (e ∷ [])
  same-plain e h = same-one e (plain-answer t w.area ws e h) (ap (λ (x : Timed). x.site) (plain-after t w.area ws e h))

  -- an end that the site refuses
  same-refused : is_done (answer_of s w.area End) ≡ false → Same past w (call_of End ws) (End ∷ [])
  unfolding timed_answer timed_after site_after
  same-refused h =
      let a : timed_answer t w.area ws End ≡ answer_of s w.area End = skip _ _ _ _ h refl in
      same-one End a (ap (λ (x : Timed). x.site) (skip _ _ t t (ap is_done a ∙ h) refl) ∙ sym (skip _ _ s s h refl))

  -- an end that is refused as 16
  same-bad : is_done (answer_of s w.area End) ≡ true → list_ok s.config.nodes t.day.length ws ≡ false
      → Same past w (call_of End ws) []
  unfolding timed_answer timed_after run trace past_after_call
  same-bad h k =
      let a : timed_answer t w.area ws End ≡ BadWindows = hit _ _ _ h ∙ skip _ _ _ _ k refl in
      let q : t ≡ timed_after t w.area ws End = sym (skip _ _ t t (ap is_done a) refl) in
      record {
        state = λ i. record { site = (q i).site; area = end-area s w.area i };
        traced = sym (skip (is_done (timed_answer t w.area ws End)) _ past past (ap is_done a) refl);
      }

  module _ (h : is_done (answer_of s w.area End) ≡ true) (k : list_ok s.config.nodes t.day.length ws ≡ true) where
    accepts : timed_answer t w.area ws End ≡ Done
    unfolding timed_answer
    accepts = hit _ _ _ h ∙ hit _ _ _ k

    after-site : (timed_after t w.area ws End).site ≡ site_after (given_before t ws End) w.area End
    unfolding timed_after next_timed
    after-site = ap (λ (x : Timed). x.site) (hit _ _ _ (ap is_done accepts))

    -- an end within an epoch
    same-within : in_last_round s ≡ false → Same past w (call_of End ws) (End ∷ [])
    same-within l = same-one End (accepts ∙ sym (done-is _ h))
        (after-site ∙ ap (λ (x : Site). site_after x w.area End) (skip _ _ s s l refl))

    -- an end with which an epoch begins
    abbrev g : Site
    g = given_site ws (epoch_after t.day) s

    given-answer : answer_of g w.area End ≡ answer_of s w.area End
    unfolding answer_of site_end given_site
    given-answer = refl

    given-past : recorded past g End (site_after g w.area End) ≡ recorded past s End (site_after g w.area End)
    unfolding given_site
    given-past = refl

    same-begins : in_last_round s ≡ true → Same past w (call_of End ws) (wants_of ws (epoch_after t.day) 32 ++ (End ∷ []))
    unfolding run trace past_after_call past_after
    same-begins l =
        let room : area_size ≤ length w.area = (answered s w.area End (done-is _ h)).0 in
        let r : run (plain_of w) (wants_of ws (epoch_after t.day) 32)
        ≡ record { site = g; area = w.area } = wants-all ws (epoch_after t.day) t.day.length s w.area long room k in
        let b : site_after g w.area End ≡ (timed_after t w.area ws End).site = sym
        (after-site ∙ ap (λ (x : Site). site_after x w.area End) (hit _ _ s l)) in
        record {
          state = run-append (plain_of w) (wants_of ws (epoch_after t.day) 32) (End ∷ []) ∙ ap (λ (x : RunState). after x End) r
              ∙ (λ i. record { site = b i; area = (sym (end-area g w.area) ∙ end-area s w.area) i });
          traced = trace-append past (plain_of w) (wants_of ws (epoch_after t.day) 32) (End ∷ [])
              ∙ ap (λ (p : Past). trace p (run (plain_of w) (wants_of ws (epoch_after t.day) 32)) (End ∷ []))
              (wants-past past (plain_of w) ws (epoch_after t.day) 32)
              ∙ ap (λ (x : RunState). trace past x (End ∷ [])) r
              ∙ hit _ _ past (ap is_done given-answer ∙ h)
              ∙ given-past
              ∙ ap (recorded past s End) b
              ∙ sym (hit _ _ past (ap is_done accepts));
        }

-- each call and its events
same : (past : Past) (w : TimedState) (c : Call) → length w.timed.site.members ≡ 32 → Same past w c (events_of w c)
unfolding events_of
same past w c long = go (is_end c.event) refl (is_done (answer_of w.timed.site w.area c.event)) refl
  where
    ok : Bool
    ok = list_ok w.timed.site.config.nodes w.timed.day.length c.windows

    wants : List Event
    wants = wants_of c.windows (epoch_after w.timed.day) 32

    -- the events by the three tests of an end
    by : Bool → Bool → Bool → Event → List Event
    by a b l e = cond a (cond b (cond l (wants ++ (e ∷ [])) (e ∷ [])) []) (e ∷ [])

    finish : (a b l : Bool) → (is_done (answer_of w.timed.site w.area End)) ≡ a → ok ≡ b → in_last_round w.timed.site ≡ l
        → Same past w (call_of End c.windows) (by a b l End)
    finish false b l p q r = same-refused past w c.windows long p
    finish true false l p q r = same-bad past w c.windows long p q
    finish true true false p q r = same-within past w c.windows long p q r
    finish true true true p q r = same-begins past w c.windows long p q r

    go : (t : Bool) → is_end c.event ≡ t → (a : Bool) → is_done (answer_of w.timed.site w.area c.event) ≡ a
        → Same past w c (by (is_end c.event && is_done (answer_of w.timed.site w.area c.event)) ok
        (in_last_round w.timed.site) c.event)
    go true p a q =
        subst (λ (e : Event). Same past w (call_of e c.windows)
        (by (is_end e && is_done (answer_of w.timed.site w.area e)) ok (in_last_round w.timed.site) e))
        (sym (end_is c.event p)) (finish _ _ _ refl refl refl)
    go false p a q = subst
        (λ (b : Bool). Same past w c
        (by (b && is_done (answer_of w.timed.site w.area c.event)) ok (in_last_round w.timed.site) c.event)) (sym p)
        (same-plain past w c.windows long c.event p)

-- each list of calls and its events
pub same-all : (past : Past) (w : TimedState) (cs : List Call) → length w.timed.site.members ≡ 32
    → (run (plain_of w) (events_of_all w cs) ≡ plain_of (run_calls w cs)) × (trace past (plain_of w) (events_of_all w cs) ≡ trace_calls past w cs)
unfolding run trace run_calls trace_calls events_of_all
same-all past w [] long = (refl, refl)
same-all past w (c ∷ cs) long =
    let x = same past w c long in
    let l : length (after_call w c).timed.site.members ≡ 32 = subst (λ (v : RunState). length v.site.members ≡ 32) x.state
    (long-run (plain_of w) (events_of w c) long) in
    let y = same-all (past_after_call past w c) (after_call w c) cs l in (
      run-append (plain_of w) (events_of w c) (events_of_all (after_call w c) cs)
          ∙ ap (λ (v : RunState). run v (events_of_all (after_call w c) cs)) x.state ∙ y.0,
      trace-append past (plain_of w) (events_of w c) (events_of_all (after_call w c) cs)
          ∙ ap (λ (p : Past). trace p (run (plain_of w) (events_of w c)) (events_of_all (after_call w c) cs)) x.traced
          ∙ ap (λ (v : RunState). trace (past_after_call past w c) v (events_of_all (after_call w c) cs)) x.state
          ∙ y.1,
    )

pub long-loaded : (f : Config) (t : Table) → length (loaded_site f t).members ≡ 32
unfolding loaded_site
long-loaded f t = length-tab 32 (loaded_member f t)

pub plain : (f : Config) (t : Table) (D : ℕ) (ws : List Window) → timed_load_answer f t D ws ≡ Done → (area : List ℕ) (cs : List Call)
    → Plain f t D ws area cs
plain f t D ws h area cs =
    let p = timed-accepted f t D ws h in
    let e = loaded-site f t D ws h in
    let l : length (loaded_timed f t D ws).site.members ≡ 32 = ap (λ (s : Site). length s.members) e
    ∙ long-loaded f (given_table ws t) in
    let x = same-all (no_past (loaded_timed f t D ws).site) (begin_by f t D ws area) cs l in
    let es = events_of_all (begin_by f t D ws area) cs in
    record {
      loads = given-loads f t D ws p.1 p.0;
      site = sym (ap (λ (w : RunState). w.site) x.0) ∙ ap (λ (s : Site). (run (record { site = s; area = area }) es).site) e;
      log = sym (ap (λ (y : Past). y.log) x.1) ∙ ap (λ (s : Site). (trace (no_past s) (record { site = s; area = area }) es).log) e;
    }

-- a plain end of a site that has its demands
ended : (s : Site) (area : List ℕ) (e : ℕ) (ws : List Window) → area_size ≤ length area → s.negotiates ≡ false
    → (run (record { site = given_site ws e s; area = area }) (End ∷ [])).site ≡ ended_site (given_site ws e s)
unfolding run site_after given_site
ended s area e ws room n = hit _ _ _ (ap is_done (end-plain (given_site ws e s) area room n))

pub daily : Daily
daily =
    record {
      ended-by-wants = λ s area D e ws long room ok n.
          sym (ap (λ (w : RunState). w.site)
          (run-append (record { site = s; area = area }) (wants_of ws e 32) (End ∷ [])
          ∙ ap (λ (w : RunState). run w (End ∷ [])) (wants-all ws e D s area long room ok)) ∙ ended s area e ws room n);
      plain = plain;
      demand3 = λ f t D ws h u area cs.
          let p = plain f t D ws h area cs in
          let d = holds.demand3 f (given_table ws t) p.loads u area (events_of_all (begin_by f t D ws area) cs) in
          record {
            agreement = subst (λ (s : Site). s.negotiates ≡ true → Agreement s) (sym p.site) d.agreement;
            justified = subst (λ (l : List Determination). (x : Determination) → Memᴰ x l → Justified f.nodes x) (sym p.log)
                d.justified;
            unique = subst (λ (l : List Determination). (x y : Determination) → Memᴰ x l → Memᴰ y l → x.epoch ≡ y.epoch
                → SameDetermination x y) (sym p.log) d.unique;
          };
    }
