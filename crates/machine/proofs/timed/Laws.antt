-- Laws of a site with its day: the demands that are given as an epoch begins, what a load and an event answer, and what is left then.
-- Assumes nothing.
use mathlib.Core.Path.{◌≡◌, refl, sym, ap, ◌∙◌}
use mathlib.Core.Bool.{Bool, true, false, cond, ◌&&◌}
use mathlib.Core.List.{List}
use Prim.Native.Nat.{ℕ, ◌+◌, ◌≤◌, ◌<◌}
use native.Mathlib.Omega.{arith}
use borrow.Author.Tests.{lt-ltb, le-ltb}
use lib.ListN.{length, get_or}
use lib.Seq.{ext_get_or}
use Rattle.words.proofs.Tests.{never, hit, skip, read_same}
use Rattle.lists.specs.All.{tab}
use Rattle.lists.proofs.Laws.{length-tab, get_d-tab}
use Rattle.node.specs.Answers.{Done, WrongPhase, NoRoom, BadWindows, is_done}
use Rattle.node.specs.Steps.{wanted_node}
use Rattle.node.specs.Model.{Node}
use Rattle.site.specs.Members.{nobody, with_node}
use Rattle.site.specs.Load.{load_answer, loaded_site}
use Rattle.site.specs.Answers.{area_size, site_end, answer_of}
use Rattle.site.specs.Steps.{wanted_member, next_site, site_after, area_after}
use Rattle.site.specs.Events.{is_end}
use Rattle.node.specs.declared.Config.{Config}
use Rattle.site.specs.declared.Table.{Table}
use Rattle.site.specs.Model.{Member}
use Rattle.site.specs.Model.{Site}
use Rattle.site.specs.declared.Event.{Event}
use Rattle.site.specs.declared.Event.TheVariants.{Send, Hear, Close, Take, End, Want, Crash, Restart}
use Rattle.node.proofs.Made.{wanted-so}
use Rattle.site.proofs.Steps.{config-kept}
use Rattle.windows.specs.Windows.{list_ok, has_windows, due_at}
use Rattle.windows.specs.declared.Window.{Window}
use Rattle.windows.proofs.Laws.{due-kept, none_has}
use Rattle.machine.specs.timed.Timed.{Timed, next_in_day, given_member, given_site, given_table, timed_load_answer, loaded_timed, in_last_round}
use Rattle.machine.specs.timed.Timed.{timed_answer, given_before, next_timed, timed_after, epoch_after, begins_epoch}
use Rattle.machine.specs.declared.Day.{Day}

-- a node that gets the demand it has stays as it was
pub wanted-same : (n : Node) → wanted_node n n.demand ≡ n
wanted-same n = wanted-so n n.demand

-- a node without windows stays as it was
pub given-same : (ws : List Window) (e j : ℕ) (m : Member) → has_windows ws j ≡ false → given_member ws e j m ≡ m
given-same ws e j m h =
    read_same (λ (x : Member). x) m.up (wanted_member m (due_at ws j e m.node.demand)) m m
    (ap (with_node m) (ap (wanted_node m.node) (due-kept ws j e m.node.demand h) ∙ wanted-same m.node)) refl

-- an empty list gives nothing
pub given-none : (ws : List Window) (e : ℕ) (s : Site) → length ws ≡ 0 → length s.members ≡ 32 → given_site ws e s ≡ s
unfolding given_site
given-none ws e s h l = λ i. record { config = s.config; negotiates = s.negotiates; place = s.place; sent = s.sent; members = same i }
  where
    given : ℕ → Member
    given i = given_member ws e (i + 1) (get_or s.members i nobody)

    same : tab 32 given ≡ s.members
    same = ext_get_or nobody (tab 32 given) s.members (length-tab 32 given ∙ sym l)
        (λ i m. get_d-tab nobody 32 given i (omega (arith, m, length-tab 32 given))
        ∙ given-same ws e (i + 1) (get_or s.members i nobody) (none_has ws (i + 1) h))

-- the answers to a load, in their order
pub load-plain : (f : Config) (t : Table) (D : ℕ) (ws : List Window) → is_done (load_answer f t) ≡ false → timed_load_answer f t D ws
    ≡ load_answer f t
unfolding timed_load_answer
load-plain f t D ws h = skip _ _ _ _ h refl

pub load-bad : (f : Config) (t : Table) (D : ℕ) (ws : List Window) → is_done (load_answer f t) ≡ true → list_ok f.nodes D ws ≡ false
    → timed_load_answer f t D ws ≡ BadWindows
unfolding timed_load_answer
load-bad f t D ws h k = hit _ _ _ h ∙ skip _ _ _ _ k refl

pub load-accepts : (f : Config) (t : Table) (D : ℕ) (ws : List Window) → is_done (load_answer f t) ≡ true → list_ok f.nodes D ws ≡ true
    → timed_load_answer f t D ws ≡ Done
unfolding timed_load_answer
load-accepts f t D ws h k = hit _ _ _ h ∙ hit _ _ _ k

pub loaded-site : (f : Config) (t : Table) (D : ℕ) (ws : List Window) → timed_load_answer f t D ws ≡ Done → (loaded_timed f t D ws).site
    ≡ loaded_site f (given_table ws t)
unfolding loaded_timed
loaded-site f t D ws h = ap (loaded_site f) (hit _ _ t (ap is_done h))

-- an end leaves the area as it was
pub end-area : (s : Site) (area : List ℕ) → area ≡ area_after s area End
unfolding area_after
end-area s area = sym (read_same (λ (x : List ℕ). x) (is_done (answer_of s area End)) area area area refl refl)

-- a refused call
pub refused-after : (t : Timed) (area : List ℕ) (ws : List Window) (e : Event) → is_done (timed_answer t area ws e) ≡ false
    → timed_after t area ws e ≡ t
unfolding timed_after
refused-after t area ws e h = skip _ _ _ _ h refl

-- an accepted one
pub done-after : (t : Timed) (area : List ℕ) (ws : List Window) (e : Event) → is_done (timed_answer t area ws e) ≡ true
    → timed_after t area ws e ≡ next_timed t area ws e
unfolding timed_after
done-after t area ws e h = hit _ _ _ h

-- the answers to an end, in their order
pub end-room : (t : Timed) (area : List ℕ) (ws : List Window) → length area < area_size → timed_answer t area ws End ≡ NoRoom
unfolding timed_answer answer_of
end-room t area ws h = let a : answer_of t.site area End ≡ NoRoom = hit _ _ _ (lt-ltb _ _ h) in skip _ _ _ _ (ap is_done a) a

pub end-phase : (t : Timed) (area : List ℕ) (ws : List Window) → area_size ≤ length area → t.site.negotiates ≡ true
    → timed_answer t area ws End ≡ WrongPhase
unfolding timed_answer answer_of site_end
end-phase t area ws h k = let a : answer_of t.site area End ≡ WrongPhase = skip _ _ _ _ (le-ltb _ _ h) (hit _ _ _ k)
    in skip _ _ _ _ (ap is_done a) a

pub end-plain : (s : Site) (area : List ℕ) → area_size ≤ length area → s.negotiates ≡ false → answer_of s area End ≡ Done
unfolding answer_of site_end
end-plain s area h k = skip _ _ _ _ (le-ltb _ _ h) (skip _ _ _ _ k refl)

pub end-windows : (t : Timed) (area : List ℕ) (ws : List Window) → area_size ≤ length area → t.site.negotiates ≡ false
    → list_ok t.site.config.nodes t.day.length ws ≡ false → timed_answer t area ws End ≡ BadWindows
unfolding timed_answer
end-windows t area ws h k g = hit _ _ _ (ap is_done (end-plain t.site area h k)) ∙ skip _ _ _ _ g refl

-- what is no end is the event of the site
pub plain-answer : (t : Timed) (area : List ℕ) (ws : List Window) (e : Event) → is_end e ≡ false → timed_answer t area ws e
    ≡ answer_of t.site area e
unfolding timed_answer
plain-answer t area ws e h = skip _ _ _ _ (ap (λ (b : Bool). b && is_done (answer_of t.site area e)) h) refl

pub plain-after : (t : Timed) (area : List ℕ) (ws : List Window) (e : Event) → is_end e ≡ false → timed_after t area ws e
    ≡ record { site = site_after t.site area e; day = t.day }
unfolding timed_after next_timed site_after
plain-after t area ws e h = go (is_done (answer_of t.site area e)) refl
  where
    a : is_done (timed_answer t area ws e) ≡ is_done (answer_of t.site area e)
    a = ap is_done (plain-answer t area ws e h)

    site : given_before t ws e ≡ t.site
    site = skip _ _ _ _ (ap (λ (b : Bool). b && in_last_round t.site) h) refl

    day : cond (is_end e && in_last_round t.site) (next_in_day t.day) t.day ≡ t.day
    day = skip _ _ _ _ (ap (λ (b : Bool). b && in_last_round t.site) h) refl

    go : (b : Bool) → is_done (answer_of t.site area e) ≡ b → timed_after t area ws e
        ≡ record { site = site_after t.site area e; day = t.day }
    go true k = hit _ _ _ (a ∙ k) ∙ (λ i. record { site = site_after (site i) area e; day = day i })
    go false k = skip _ _ _ _ (a ∙ k)
        (λ i. record {
          site = sym (skip (is_done (answer_of t.site area e)) (next_site t.site area e) t.site t.site k refl) i;
          day = t.day;
        })

-- an event that is an end
pub end_is : (e : Event) → is_end e ≡ true → e ≡ End
end_is (Send j) h = never (sym h)
end_is (Hear j p) h = never (sym h)
end_is Close h = never (sym h)
end_is (Take j i) h = never (sym h)
end_is End h = refl
end_is (Want j d) h = never (sym h)
end_is (Crash j) h = never (sym h)
end_is (Restart j flags) h = never (sym h)

-- no event changes the figures or how long a day is
pub figures-kept : (t : Timed) (area : List ℕ) (ws : List Window) (e : Event) → (timed_after t area ws e).site.config ≡ t.site.config
unfolding timed_after next_timed site_after given_site
figures-kept t area ws e =
    read_same (λ (x : Timed). x.site.config) (is_done (timed_answer t area ws e)) (next_timed t area ws e) t t.site.config
    (read_same (λ (x : Site). x.config) (is_done (answer_of (given_before t ws e) area e)) (next_site (given_before t ws e) area e)
    (given_before t ws e) t.site.config (config-kept (given_before t ws e) area e ∙ given) given)
    refl
  where
    given : (given_before t ws e).config ≡ t.site.config
    given = read_same (λ (x : Site). x.config) (begins_epoch t e) (given_site ws (epoch_after t.day) t.site) t.site t.site.config
        refl refl

pub length-kept : (t : Timed) (area : List ℕ) (ws : List Window) (e : Event) → (timed_after t area ws e).day.length ≡ t.day.length
unfolding timed_after next_timed
length-kept t area ws e =
    read_same (λ (x : Timed). x.day.length) (is_done (timed_answer t area ws e)) (next_timed t area ws e) t t.day.length
    (read_same (λ (x : Day). x.length) (begins_epoch t e) (next_in_day t.day) t.day t.day.length refl refl) refl
