-- A list of calls with windows: by its scene it is the list of its events, since an end with windows is some wants and then the end.
-- Assumes nothing.
use mathlib.Core.Path.{◌≡◌, refl, sym, ap, ap₂, ◌∙◌, subst}
use mathlib.Core.Bool.{Bool, true, false, not, cond, ◌&&◌, ◌||◌}
use mathlib.Core.List.{List, [], ◌∷◌, ◌++◌, append_assoc, append-nil}
use Prim.Native.Nat.{ℕ, zero, suc, ◌+◌}
use lib.ListN.{length, get_or}
use Rattle.words.proofs.Tests.{hit, read_same, and_left, and_right, or-rest}
use Rattle.lists.proofs.Laws.{get_d-tab}
use Rattle.node.specs.Answers.{is_done}
use Rattle.node.specs.Answers.{Answer}
use Rattle.node.specs.Answers.{Done, BadWindows}
use Rattle.node.proofs.Answers.{done-is}
use Rattle.site.specs.Answers.{answer_of}
use Rattle.site.specs.Events.{is_close, is_end}
use Rattle.site.specs.Load.{no_row, load_answer, loaded_site}
use Rattle.site.specs.Run.{RunState, after, run}
use Rattle.node.specs.declared.Config.{Config}
use Rattle.site.specs.declared.Row.{Row}
use Rattle.site.specs.declared.Table.{Table}
use Rattle.site.specs.declared.Event.{Event}
use Rattle.site.specs.declared.Event.TheVariants.{Want}
use Rattle.machine.specs.declared.Report.{Report}
use Rattle.histories.specs.Past.{no_past}
use Rattle.histories.specs.Reached.{begin}
use Rattle.histories.proofs.Always.{always}
use Rattle.windows.specs.Windows.{list_ok, has_windows, demand_at}
use Rattle.windows.specs.declared.Window.{Window}
use Rattle.machine.specs.timed.Timed.{Timed, epoch_after, next_in_day, given_row, given_table, timed_load_answer, loaded_timed, in_last_round}
use Rattle.machine.specs.timed.Timed.{begins_epoch}
use Rattle.machine.specs.timed.Timed.{timed_answer, next_timed, timed_after}
use Rattle.machine.specs.timed.Calls.{Call, TimedState, after_call, run_calls}
use Rattle.machine.specs.declared.Day.{Day}
use Rattle.machine.proofs.timed.Laws.{load-accepts, loaded-site}
use Rattle.agreement.specs.daily.Daily.{wants_of, events_of, events_of_all, begin_by}
use Rattle.agreement.proofs.daily.Theorem.{plain_of, same-all, long-run, long-loaded}
use Rattle.agreement.proofs.daily.Loads.{given-loads, timed-accepted}
use Rattle.wants.specs.Outline.{site_outline}
use Rattle.wants.specs.Wants.{is_want, prepended_if, without_wants, SameButWants, reports_by, answers_by, good_lists, events_of_calls}
use Rattle.wants.specs.Wants.{SameReportsBy}
use Rattle.wants.proofs.Scenes.{Scene, scene_of, after_by, scene_after, reports_in, answers_in}
use Rattle.wants.proofs.Sites.{report-is}
use Rattle.wants.proofs.Lists.{by-want, kept-front, At, scene_at, Moved, start, answer_at, follow}
use Rattle.wants.proofs.Events.{same-scene}

-- the wants of an epoch are gone, and what stands behind them is left
wants-gone : (ws : List Window) (e n : ℕ) (es : List Event) → without_wants (wants_of ws e n ++ es) ≡ without_wants es
unfolding without_wants wants_of
wants-gone ws e zero es = refl
wants-gone ws e (suc n) es =
    ap without_wants (append_assoc (wants_of ws e n) (one (has_windows ws (n + 1))) es)
    ∙ wants-gone ws e n (one (has_windows ws (n + 1)) ++ es)
    ∙ go (has_windows ws (n + 1))
  where
    one : Bool → List Event
    one b = cond b (Want (n + 1) (demand_at ws (n + 1) e) ∷ []) []

    go : (b : Bool) → without_wants (one b ++ es) ≡ without_wants es
    go true = refl
    go false = refl

-- a call whose list keeps the rules if it is an end
abbrev pub Good : TimedState → Call → Type 0
Good w c = (not (is_end c.event) || list_ok w.timed.site.config.nodes w.timed.day.length c.windows) ≡ true

-- the events that it stands for are its own but for wants
call-events : (w : TimedState) (c : Call) → Good w c → without_wants (events_of w c) ≡ without_wants (c.event ∷ [])
unfolding events_of
call-events w c g = go (is_end c.event) refl (is_done (answer_of w.timed.site w.area c.event))
  where
    ws : List Event
    ws = wants_of c.windows (epoch_after w.timed.day) 32

    ok : Bool
    ok = list_ok w.timed.site.config.nodes w.timed.day.length c.windows

    own : List Event
    own = c.event ∷ []

    last : (b : Bool) → without_wants (cond b (ws ++ own) own) ≡ without_wants own
    last true = wants-gone c.windows (epoch_after w.timed.day) 32 own
    last false = refl

    -- by whether it is an end, and whether the site accepts it
    by : Bool → Bool → List Event
    by t a = cond (t && a) (cond ok (cond (in_last_round w.timed.site) (ws ++ own) own) []) own

    go : (t : Bool) → is_end c.event ≡ t → (a : Bool) → without_wants (by (is_end c.event) a) ≡ without_wants own
    go true e true =
        let k : ok ≡ true = or-rest (not (is_end c.event)) ok g (ap not e) in
        ap (λ (b : Bool). without_wants (by b true)) e ∙ ap without_wants (hit ok _ _ k) ∙ last (in_last_round w.timed.site)
    go true e false = ap (λ (b : Bool). without_wants (by b false)) e
    go false e a = ap (λ (b : Bool). without_wants (by b a)) e

-- and its answer is the event's
call-answer : (w : TimedState) (c : Call) → Good w c
    → timed_answer w.timed w.area c.windows c.event ≡ answer_of w.timed.site w.area c.event
unfolding timed_answer
call-answer w c g = go (is_end c.event) refl (is_done (answer_of w.timed.site w.area c.event)) refl
  where
    a : Answer
    a = answer_of w.timed.site w.area c.event

    ok : Bool
    ok = list_ok w.timed.site.config.nodes w.timed.day.length c.windows

    go : (t : Bool) → is_end c.event ≡ t → (d : Bool) → is_done a ≡ d
        → cond (is_end c.event && is_done a) (cond ok Done BadWindows) a ≡ a
    go true e true q =
        let k : ok ≡ true = or-rest (not (is_end c.event)) ok g (ap not e) in
        ap₂ (λ (x y : Bool). cond (x && y) (cond ok Done BadWindows) a) e q ∙ hit ok Done BadWindows k ∙ sym (done-is a q)
    go true e false q = ap₂ (λ (x y : Bool). cond (x && y) (cond ok Done BadWindows) a) e q
    go false e d q = ap (λ (x : Bool). cond (x && is_done a) (cond ok Done BadWindows) a) e

-- a day keeps its length
same-day : (t : Timed) (area : List ℕ) (ws : List Window) (e : Event) → (timed_after t area ws e).day.length ≡ t.day.length
unfolding timed_after next_timed
same-day t area ws e = go (is_done (timed_answer t area ws e))
  where
    go : (b : Bool) → (cond b (next_timed t area ws e) t).day.length ≡ t.day.length
    go true = read_same (λ (d : Day). d.length) (begins_epoch t e) (next_in_day t.day) t.day t.day.length refl refl
    go false = refl

module _ (f : Config) (t : Table) (d : load_answer f t ≡ Done) (area : List ℕ) (D : ℕ) where
  -- a site with its day that a list of calls leads to
  pub record Stands (w : TimedState) : Type 0 where
    pub at : At f t area (plain_of w)
    pub day : w.timed.day.length ≡ D
    pub long : length w.timed.site.members ≡ 32

  config-at : (w : RunState) → At f t area w → w.site.config ≡ f
  config-at w a = ap (λ (v : RunState). v.site.config) (sym a.is) ∙ (always f t d area a.before).config

  pub good-here : (w : TimedState) → Stands w → (c : Call) → (not (is_end c.event) || list_ok f.nodes D c.windows) ≡ true → Good w c
  good-here w s c g =
      ap₂ (λ (h : Config) (k : ℕ). not (is_end c.event) || list_ok h.nodes k c.windows) (config-at (plain_of w) s.at) s.day
      ∙ g

  -- one call further on
  pub record Called (w : TimedState) (c : Scene) : Type 0 where
    pub stands : Stands w
    pub scene : scene_at stands.at ≡ c

  pub call : (w : TimedState) (s : Stands w) (c : Call) → Good w c
      → Called (after_call w c) (scene_after (scene_at s.at) (without_wants (c.event ∷ [])))
  unfolding run_calls events_of_all
  call w s c g =
      let es = events_of w c in
      let x = (follow f t d area (plain_of w) s.at es).moved in
      let e : run (plain_of w) es ≡ plain_of (after_call w c) =
      ap (run (plain_of w)) (sym (append-nil es)) ∙ (same-all (no_past w.timed.site) w (c ∷ []) s.long).0 in
      let m : Moved f t area (plain_of (after_call w c)) (scene_after (scene_at s.at) (without_wants es)) =
      subst (λ (v : RunState). Moved f t area v (scene_after (scene_at s.at) (without_wants es))) e x in
      record {
        stands = record {
          at = m.there;
          day = same-day w.timed w.area c.windows c.event ∙ s.day;
          long = ap (λ (v : RunState). length v.site.members) (sym e) ∙ long-run (plain_of w) es s.long;
        };
        scene = m.scene ∙ ap (scene_after (scene_at s.at)) (call-events w c g);
      }

  record FollowsBy (w : TimedState) (cs : List Call) (c : Scene) (gs : List Event) : Type 0 where
    told : reports_by w cs ≡ reports_in c gs
    answered : answers_by w cs ≡ answers_in c gs
    left : site_outline (run_calls w cs).timed.site ≡ (scene_after c gs).site

  -- one call more at the front
  module _ (w : TimedState) (s : Stands w) (ws : List Window) (cs : List Call)
      (rest : (k : Call) (b : Stands (after_call w k))
      → FollowsBy (after_call w k) cs (scene_at b.at) (without_wants (events_of_calls cs))) where
    abbrev with : Event → Call
    with x = record { event = x; windows = ws }

    abbrev gs : List Event
    gs = without_wants (events_of_calls cs)

    wanted : (j x : ℕ) → Good w (with (Want j x))
        → FollowsBy w (with (Want j x) ∷ cs) (scene_at s.at) (without_wants (Want j x ∷ events_of_calls cs))
    unfolding run_calls without_wants reports_by answers_by scene_after
    wanted j x g =
        let m = call w s (with (Want j x)) g in
        let r = rest (with (Want j x)) m.stands in
        record {
          told = r.told ∙ ap (λ (c : Scene). reports_in c gs) m.scene;
          answered = r.answered ∙ ap (λ (c : Scene). answers_in c gs) m.scene;
          left = r.left ∙ ap (λ (c : Scene). (scene_after c gs).site) m.scene;
        }

    other : (x : Event) → is_want x ≡ false → Good w (with x)
        → FollowsBy w (with x ∷ cs) (scene_at s.at) (without_wants (x ∷ events_of_calls cs))
    unfolding run_calls without_wants reports_by answers_by scene_after reports_in answers_in
    other x n g =
        let m = call w s (with x) g in
        let r = rest (with x) m.stands in
        let q = answer_at f t d area (plain_of w) s.at x n in
        let e : scene_at m.stands.at ≡ after_by (scene_at s.at) x = m.scene ∙ ap (scene_after (scene_at s.at)) (kept-front x [] n) in
        let k : x ∷ gs ≡ without_wants (x ∷ events_of_calls cs) = sym (kept-front x (events_of_calls cs) n) in
        record {
          told =
              ap₂ (λ (y : Report) (l : List Report). prepended_if (is_close x) y l) (report-is w.timed.site w.area s.at.air x q)
              (r.told ∙ ap (λ (c : Scene). reports_in c gs) e)
              ∙ ap (reports_in (scene_at s.at)) k;
          answered =
              ap₂ (λ (y : Answer) (l : List Answer). prepended_if (not (is_want x)) y l) (call-answer w (with x) g ∙ q)
              (r.answered ∙ ap (λ (c : Scene). answers_in c gs) e)
              ∙ ap (answers_in (scene_at s.at)) k;
          left = r.left ∙ ap (λ (c : Scene). (scene_after c gs).site) e ∙ ap (λ (l : List Event). (scene_after (scene_at s.at) l).site) k;
        }

  follow-calls : (w : TimedState) (s : Stands w) (cs : List Call) → good_lists f.nodes D cs ≡ true
      → FollowsBy w cs (scene_at s.at) (without_wants (events_of_calls cs))
  unfolding run_calls without_wants reports_by answers_by scene_after reports_in answers_in good_lists
  follow-calls w s [] g = record { told = refl; answered = refl; left = refl }
  follow-calls w s (c ∷ cs) g =
      let here = good-here w s c (and_left _ (good_lists f.nodes D cs) g) in
      let after = and_right (not (is_end c.event) || list_ok f.nodes D c.windows) _ g in
      let with : Event → Call = λ x. record { event = x; windows = c.windows } in
      by-want (λ (x : Event). Good w (with x) → FollowsBy w (with x ∷ cs) (scene_at s.at) (without_wants (x ∷ events_of_calls cs)))
      (wanted w s c.windows cs (λ k b. follow-calls (after_call w k) b cs after))
      (other w s c.windows cs (λ k b. follow-calls (after_call w k) b cs after)) c.event here

-- a table with the demands of the first epoch differs in its wants alone
given-same : (ws : List Window) (t : Table) → SameButWants (given_table ws t) t
unfolding given_table
given-same ws t =
    record {
      version = λ i l. ap (λ (r : Row). r.version) (get_d-tab no_row 32 given i l);
      flags = λ i l. ap (λ (r : Row). r.flags) (get_d-tab no_row 32 given i l);
    }
  where
    given : ℕ → Row
    given i = given_row ws (i + 1) (get_or t.rows i no_row)

day-is : (f : Config) (t : Table) (D : ℕ) (ws : List Window) → (loaded_timed f t D ws).day.length ≡ D
unfolding loaded_timed
day-is f t D ws = refl

-- a plain run and one with windows, at the same scene
pub record Beside (f : Config) (t u : Table) (d : load_answer f u ≡ Done) (a : List ℕ) (D : ℕ) (v : RunState) (w : TimedState) : Type 0 where
  pub at : At f t a v
  pub stands : Stands f u d a D w
  pub scene : scene_at at ≡ scene_at stands.at

-- at loading
pub loads : (f : Config) (t : Table) (D : ℕ) (ws : List Window) (a : load_answer f t ≡ Done) (ok : list_ok f.nodes D ws ≡ true)
    → (area : List ℕ) → Beside f t (given_table ws t) (given-loads f t D ws ok a) area D (begin f t area) (begin_by f t D ws area)
loads f t D ws a ok area =
    let u = given_table ws t in
    let b = given-loads f t D ws ok a in
    let w = begin_by f t D ws area in
    let e : begin f u area ≡ plain_of w =
    (λ i. record { site = sym (loaded-site f t D ws (load-accepts f t D ws (ap is_done a) ok)) i; area = area }) in
    let p : Moved f u area (plain_of w) (scene_of (loaded_site f u) area []) =
    subst (λ (v : RunState). Moved f u area v (scene_of (loaded_site f u) area [])) e (start f u b area) in
    let q = start f t a area in
    record {
      at = q.there;
      stands =
          record {
            at = p.there;
            day = day-is f t D ws;
            long = ap (λ (v : RunState). length v.site.members) (sym e)
                ∙ long-loaded f u;
          };
      scene = q.scene ∙ sym (p.scene ∙ same-scene f u t b a (given-same ws t) area);
    }

pub windows : (f : Config) (t : Table) (D : ℕ) (ws : List Window) → timed_load_answer f t D ws ≡ Done → (area : List ℕ) (cs : List Call)
    → good_lists f.nodes D cs ≡ true → SameReportsBy (begin_by f t D ws area) cs (begin f t area) (events_of_calls cs)
windows f t D ws h area cs g =
    let a = timed-accepted f t D ws h in
    let b = loads f t D ws a.0 a.1 area in
    let x = follow-calls f (given_table ws t) (given-loads f t D ws a.1 a.0) area D (begin_by f t D ws area) b.stands cs g in
    let y = follow f t a.0 area (begin f t area) b.at (events_of_calls cs) in
    let gs = without_wants (events_of_calls cs) in
    record {
      told = x.told ∙ sym (y.told ∙ ap (λ (z : Scene). reports_in z gs) b.scene);
      answered = x.answered ∙ sym (y.answered ∙ ap (λ (z : Scene). answers_in z gs) b.scene);
      left = x.left ∙ sym (ap (λ (z : Scene). z.site) (y.moved.scene ∙ ap (λ (z : Scene). scene_after z gs) b.scene));
    }
