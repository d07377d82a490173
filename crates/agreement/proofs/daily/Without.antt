-- Without windows a list of calls is its list of events.
-- Assumes nothing.
use mathlib.Core.Path.{◌≡◌, refl, sym, ap, ap₂, ◌∙◌, subst}
use mathlib.Core.Bool.{Bool, true, false, cond}
use mathlib.Core.List.{List, [], ◌∷◌, map}
use Prim.Native.Nat.{ℕ, ◌+◌, ◌<◌}
use lib.Dec.{ltb}
use lib.ListN.{length, get_or}
use Rattle.words.proofs.Tests.{hit, skip, read_same}
use Rattle.lists.specs.All.{all_below, tab}
use Rattle.lists.proofs.Laws.{tab-ext, get_d-tab}
use Rattle.node.specs.Answers.{is_done}
use Rattle.node.specs.Begin.{starting}
use Rattle.node.specs.Answers.{Done}
use Rattle.node.proofs.Answers.{done-is}
use Rattle.site.specs.Load.{no_row, load_answer, loaded_member, loaded_site}
use Rattle.site.specs.Members.{setup_of, down_member}
use Rattle.site.specs.Answers.{answer_of}
use Rattle.site.specs.Events.{is_end}
use Rattle.site.specs.Steps.{site_after, area_after}
use Rattle.site.specs.Run.{RunState, after, run}
use Rattle.node.specs.declared.Config.{Config}
use Rattle.site.specs.declared.Row.{Row}
use Rattle.site.specs.declared.Table.{Table}
use Rattle.site.specs.Model.{Member}
use Rattle.site.specs.Model.{Site}
use Rattle.site.specs.declared.Event.{Event}
use Rattle.site.specs.declared.Event.TheVariants.{End}
use Rattle.agreement.specs.Demand.{final}
use Rattle.windows.specs.Windows.{list_ok, has_windows, due_at}
use Rattle.windows.specs.declared.Window.{Window}
use Rattle.windows.proofs.Laws.{due-kept, none_has}
use Rattle.machine.specs.timed.Timed.{Timed, epoch_after, next_in_day, given_site, given_row, given_table, loaded_timed, in_last_round, begins_epoch}
use Rattle.machine.specs.timed.Timed.{timed_answer, given_before, next_timed, timed_after}
use Rattle.machine.specs.timed.Calls.{Call, TimedState, after_call, run_calls}
use Rattle.machine.specs.declared.Day.{Day}
use Rattle.machine.proofs.timed.Laws.{given-none, load-accepts, loaded-site, plain-after, end_is}
use Rattle.agreement.specs.daily.Daily.{begin_by, final_by}
use Rattle.agreement.proofs.daily.Theorem.{long_after, long-loaded}

-- an empty list keeps the rules of a day of one epoch
pub none-ok : (N : ℕ) → list_ok N 1 [] ≡ true
unfolding list_ok all_below
none-ok N = refl

abbrev call_of : Event → Call
call_of e = record { event = e; windows = [] }

-- a day of one epoch keeps its length
same_length : (t : Timed) (area : List ℕ) (e : Event) → t.day.length ≡ 1 → (timed_after t area [] e).day.length ≡ 1
unfolding timed_after next_timed
same_length t area e h = go (is_done (timed_answer t area [] e))
  where
    go : (b : Bool) → (cond b (next_timed t area [] e) t).day.length ≡ 1
    go true = read_same (λ (d : Day). d.length) (begins_epoch t e) (next_in_day t.day) t.day 1 h h
    go false = h

-- an end lent no windows is the plain one
end-site : (t : Timed) (area : List ℕ) → length t.site.members ≡ 32 → t.day.length ≡ 1
    → (timed_after t area [] End).site ≡ site_after t.site area End
unfolding timed_after next_timed timed_answer site_after
end-site t area long h = go (is_done (answer_of t.site area End)) refl
  where
    before : given_before t [] End ≡ t.site
    before = read_same (λ (s : Site). s) (in_last_round t.site) (given_site [] (epoch_after t.day) t.site) t.site t.site
        (given-none [] (epoch_after t.day) t.site refl long) refl

    ok : list_ok t.site.config.nodes t.day.length [] ≡ true
    ok = ap (λ (D : ℕ). list_ok t.site.config.nodes D []) h ∙ none-ok t.site.config.nodes

    go : (b : Bool) → is_done (answer_of t.site area End) ≡ b → (timed_after t area [] End).site ≡ site_after t.site area End
    go true k =
        let a : timed_answer t area [] End ≡ Done = hit _ _ _ k ∙ hit _ _ _ ok in
        ap (λ (x : Timed). x.site) (hit _ (next_timed t area [] End) t (ap is_done a)) ∙ ap (λ (s : Site). site_after s area End) before
    go false k =
        let a : timed_answer t area [] End ≡ answer_of t.site area End = skip _ _ _ _ k refl in
        ap (λ (x : Timed). x.site) (skip _ (next_timed t area [] End) t t (ap is_done a ∙ k) refl)
        ∙ sym (skip (is_done (answer_of t.site area End)) _ t.site t.site k refl)

call-site : (t : Timed) (area : List ℕ) (e : Event) → length t.site.members ≡ 32 → t.day.length ≡ 1
    → (timed_after t area [] e).site ≡ site_after t.site area e
call-site t area e long h = go (is_end e) refl
  where
    go : (b : Bool) → is_end e ≡ b → (timed_after t area [] e).site ≡ site_after t.site area e
    go true k = subst (λ (x : Event). (timed_after t area [] x).site ≡ site_after t.site area x) (sym (end_is e k)) (end-site t area long h)
    go false k = ap (λ (x : Timed). x.site) (plain-after t area [] e k)

-- each list of them
calls-run : (es : List Event) (w : TimedState) → length w.timed.site.members ≡ 32 → w.timed.day.length ≡ 1
    → (run_calls w (map call_of es)).timed.site ≡ (run (record { site = w.timed.site; area = w.area }) es).site
unfolding run_calls run
calls-run [] w long h = refl
calls-run (e ∷ es) w long h =
    let s = call-site w.timed w.area e long h in
    let l : length (timed_after w.timed w.area [] e).site.members ≡ 32 = ap (λ (x : Site). length x.members) s
    ∙ long_after w.timed.site w.area e long in
    calls-run es (after_call w (call_of e)) l (same_length w.timed w.area e h)
    ∙ ap (λ (x : Site). (run (record { site = x; area = area_after w.timed.site w.area e }) es).site) s

day-is : (f : Config) (t : Table) → (loaded_timed f t 1 []).day.length ≡ 1
unfolding loaded_timed
day-is f t = refl

-- a table that is given no demands loads the same site
none-loaded : (f : Config) (t : Table) → loaded_site f (given_table [] t) ≡ loaded_site f t
unfolding loaded_site loaded_member given_table
none-loaded f t = λ i. record { config = f; negotiates = true; place = 0; sent = (loaded_site f t).sent; members = same i }
  where
    given : ℕ → Row
    given i = given_row [] (i + 1) (get_or t.rows i no_row)

    row : (i : ℕ) → i < 32 → get_or (tab 32 given) i no_row ≡ get_or t.rows i no_row
    row i l =
        let w : due_at [] (i + 1) 0 (get_or t.rows i no_row).want
        ≡ (get_or t.rows i no_row).want = due-kept [] (i + 1) 0 _ (none_has [] (i + 1) refl) in
        get_d-tab no_row 32 given i l
        ∙ (λ j. record { version = (get_or t.rows i no_row).version; flags = (get_or t.rows i no_row).flags; want = w j })

    same : tab 32 (loaded_member f (given_table [] t)) ≡ tab 32 (loaded_member f t)
    same = tab-ext 32 _ _
        (λ i l. ap (λ (r : Row). cond (ltb i f.nodes)
        (record { up = true; node = starting (setup_of f (i + 1)) r.version r.flags r.want }) (down_member f (i + 1))) (row i l))

pub without : (f : Config) (t : Table) → load_answer f t ≡ Done → (area : List ℕ) (es : List Event)
    → final_by f t 1 [] area (map call_of es) ≡ final f t area es
without f t h area es =
    let a = load-accepts f t 1 [] (ap is_done h) (none-ok f.nodes) in
    let e : (loaded_timed f t 1 []).site ≡ loaded_site f t = loaded-site f t 1 [] a ∙ none-loaded f t in
    calls-run es (begin_by f t 1 [] area) (ap (λ (s : Site). length s.members) e ∙ long-loaded f t) (day-is f t)
    ∙ ap (λ (s : Site). (run (record { site = s; area = area }) es).site) e
