-- What is proved over lists of events holds over lists of calls with windows (specification, 3.7), since these are the wants and then the
-- end, and of each site of a group (3.9), since a site there is what its own calls make it. One law says so of every claim about a moment
-- of a list; then come the claims of 10.3 to 10.5.
-- Assumes nothing.
use Rattle.std.specs.Prelude.{◌≡◌, true, ℕ, suc, ◌≤◌, ◌<◌, length, get_or}
use mathlib.Core.List.{List, ◌++◌, Memᴰ}
use Rattle.allotment.specs.Allotment.{owners_of, targets, count}
use Rattle.node.specs.Close.{complete}
use Rattle.node.specs.Figures.{sending}
use Rattle.node.specs.Answers.{Done}
use Rattle.site.specs.Answers.{area_size}
use Rattle.site.specs.Load.{load_answer}
use Rattle.site.specs.Members.{member_at, is_live}
use Rattle.site.specs.Run.{RunState, run}
use Rattle.node.specs.declared.Config.{Config}
use Rattle.site.specs.declared.Table.{Table}
use Rattle.site.specs.declared.Event.{Event}
use Rattle.site.specs.declared.Event.TheVariants.{Close, End}
use Rattle.histories.specs.Past.{Determination, Past, no_past, trace}
use Rattle.histories.specs.Reached.{reached, past_of, Accepted, LiveAfter, node_after, EndsEpoch}
use Rattle.agreement.specs.Demand.{Agreement, Justified, SameDetermination}
use Rattle.agreement.specs.Succession.{Heir, FirstHeir}
use Rattle.consensus.specs.Consensus.{Knows, Consistent}
use Rattle.recovery.specs.Calm.{site_member, live_in, live_set, requests_of, unwatched, watched, Ready, Calm, epoch_end, whole, Risen}
use Rattle.recovery.specs.Calm.{NobodyJoins, SameAsked}
use Rattle.windows.specs.Windows.{list_ok}
use Rattle.windows.specs.declared.Window.{Window}
use Rattle.machine.specs.timed.Timed.{given_site, timed_load_answer, loaded_timed}
use Rattle.machine.specs.timed.Calls.{Call, run_calls}
use Rattle.agreement.specs.daily.Daily.{begin_by, final_by, events_of_all, trace_calls}
use Rattle.group.specs.Group.{Taken, vacant, site_slot_of}
use Rattle.group.specs.Calls.{GroupCall, LoadSite, answer_to}
use Rattle.group.specs.Steps.{run_group}
use Rattle.group.specs.Alone.{Story, loaded_story, story, own_calls, run_state_of, loaded_group}

-- a claim about a moment: by the settings, the site with its packet area, and the past
abbrev pub Claim : Type 1
Claim = Config → RunState → Past → Type 0

-- it holds after every list of events from every accepted table
abbrev pub Always : Claim → Type 0
Always P = (f : Config) (t : Table) → load_answer f t ≡ Done → (area : List ℕ) (es : List Event)
    → P f (reached f t area es) (past_of f t area es)

-- site and area after a list of calls with windows, and its past
abbrev pub run_state_by : Config → Table → ℕ → List Window → List ℕ → List Call → RunState
run_state_by f t D ws area cs = record { site = final_by f t D ws area cs; area = (run_calls (begin_by f t D ws area) cs).area }

abbrev pub past_by : Config → Table → ℕ → List Window → List ℕ → List Call → Past
past_by f t D ws area cs = trace_calls (no_past (loaded_timed f t D ws).site) (begin_by f t D ws area) cs

-- of a site in a group: what its own calls lead to, with an area of its own
abbrev pub site_of_story : List ℕ → Story → RunState
site_of_story own st = run_state_by st.config st.table st.day st.windows own st.calls

abbrev pub past_in : List ℕ → Story → Past
past_in own st = past_by st.config st.table st.day st.windows own st.calls

-- a claim about lists with windows, and about sites in a group
pub record Everywhere (P : Claim) : Type 0 where
  -- after every list of calls from every accepted load
  pub calls : (f : Config) (t : Table) (D : ℕ) (ws : List Window) → timed_load_answer f t D ws ≡ Done → (area : List ℕ) (cs : List Call)
      → P f (run_state_by f t D ws area cs) (past_by f t D ws area cs)
  -- and right before an accepted end with windows, when the demands of epoch e have been given
  pub given : (f : Config) (t : Table) (D : ℕ) (ws : List Window) → timed_load_answer f t D ws ≡ Done
      → (area : List ℕ) (cs : List Call) (e : ℕ) (lent : List Window)
      → list_ok (run_state_by f t D ws area cs).site.config.nodes D lent ≡ true → Accepted (run_state_by f t D ws area cs) End
      → P f (record {
        site = given_site lent e (run_state_by f t D ws area cs).site;
        area = (run_state_by f t D ws area cs).area;
      }) (past_by f t D ws area cs)
  -- after every list of a group's calls, of the site at number a since its load: the one that is there
  pub group : (area own : List ℕ) → area_size ≤ length area → area_size ≤ length own
      → (before cs : List GroupCall) (a : ℕ) (f : Config) (t : Table) (D : ℕ) (ws : List Window)
      → answer_to (run_group (vacant area) before) (LoadSite a f t D ws) ≡ 0 → (st : Story)
      → st ≡ story (loaded_story f t D ws) (own_calls a (loaded_group area before (LoadSite a f t D ws)) cs)
      → (site_slot_of (run_group (loaded_group area before (LoadSite a f t D ws)) cs) a ≡ Taken (run_state_of own st).timed)
      × P st.config (site_of_story own st) (past_in own st)

-- the law: proved in proofs/lifted/Theorem.antt
pub record Lifts : Type 1 where
  pub law : (P : Claim) → Always P → Everywhere P

-- Demand 3, about a moment w with the past y, of a site that may not split (S-14)
pub record Agreed (f : Config) (w : RunState) (y : Past) : Type 0 where
  pub agreement : f.split ≡ 0 → w.site.negotiates ≡ true → Agreement w.site
  pub justified : f.split ≡ 0 → (d : Determination) → Memᴰ d y.log → Justified f.nodes d
  pub unique : f.split ≡ 0 → (d e : Determination) → Memᴰ d y.log → Memᴰ e y.log → d.epoch ≡ e.epoch
      → SameDetermination d e

-- The claims of 10.3 to 10.5, each about a moment w with the past y

-- a calm epoch from w: all its members rise
abbrev pub Rises : Claim
Rises f w y =
    (body : List Event) (v : ℕ) → Ready y w.site v → Calm (live_set w.site) w body → (i j : ℕ) → live_in w.site i ≡ true
    → live_in w.site j ≡ true
    → Risen w.site (epoch_end w body) v i j

-- and calm remains
abbrev pub Remains : Claim
Remains f w y =
    (body : List Event) (v : ℕ) → Ready y w.site v → Calm (live_set w.site) w body
    → f.min_heard ≤ (watched (live_set w.site) unwatched w body).full
    → NobodyJoins w.site (epoch_end w body) → (i : ℕ) → live_in (epoch_end w body) i ≡ true
    → (site_member (epoch_end w body) i).node.flags ≡ live_set (epoch_end w body)

-- two calm epochs with the same members and requests: each member has its target
abbrev pub Settles : Claim
Settles f w y =
    (first second : List Event) (v u : ℕ) → Ready y w.site v → Calm (live_set w.site) w first
    → Ready (trace y w (whole first)) (run w (whole first)).site u
    → Calm (live_set (run w (whole first)).site) (run w (whole first)) second
    → SameAsked w.site (run w (whole first)).site → (i : ℕ) → live_in w.site i ≡ true
    → count (suc i) (owners_of (site_member (epoch_end (run w (whole first)) second) i).node.schedule)
    ≡ get_or (targets f.nodes f.slots (live_set (run w (whole first)).site) (requests_of (run w (whole first)).site)) i 0

-- two nodes that lack no request, in negotiation, and two that are complete at a close
abbrev pub Informed : Claim
Informed f w y = w.site.negotiates ≡ true → Consistent w.site

abbrev pub Completes : Claim
Completes f w y =
    Accepted w Close → (i j : ℕ) → is_live (member_at w.site i) ≡ true → is_live (member_at w.site j) ≡ true
    → complete (member_at w.site i).node ≡ true → complete (member_at w.site j).node ≡ true
    → Knows (member_at w.site i).node (member_at w.site j).node

-- what is sent, and who holds what as the epoch after a determination begins
abbrev pub SendsAbove : Claim
SendsAbove f w y = Accepted w Close → (j : ℕ) → LiveAfter w Close j → sending (node_after w Close j).phase ≡ true
    → 0 < (node_after w Close j).version

abbrev pub Heirs : Claim
Heirs f w y = f.split ≡ 0 → EndsEpoch w → (d : Determination) → Memᴰ d y.log → d.epoch ≡ y.epoch → (j : ℕ) → LiveAfter w End j
    → Heir d (node_after w End j)

abbrev pub FirstHeirs : Claim
FirstHeirs f w y =
    f.split ≡ 0 → EndsEpoch w → (d : Determination) → Memᴰ d y.log → d.epoch ≡ y.epoch → d.version ≡ 1 → (j : ℕ)
    → LiveAfter w End j → FirstHeir d (node_after w End j)

-- the theorem's statement: proved in proofs/lifted/Theorem.antt
pub record Lifted : Type 0 where
  pub demand3 : Everywhere Agreed
  pub rises : Everywhere Rises
  pub remains : Everywhere Remains
  pub settles : Everywhere Settles
  pub informed : Everywhere Informed
  pub completes : Everywhere Completes
  pub sends-above : Everywhere SendsAbove
  pub heirs : Everywhere Heirs
  pub first-heirs : Everywhere FirstHeirs
  -- a calm epoch whose calls ds have windows: they stand for the events `body` and its end, and all members rise
  pub calm-calls : (f : Config) (t : Table) (D : ℕ) (ws : List Window) → timed_load_answer f t D ws ≡ Done
      → (area : List ℕ) (cs ds : List Call) (body : List Event) (v : ℕ)
      → events_of_all (run_calls (begin_by f t D ws area) cs) ds ≡ whole body
      → Ready (past_by f t D ws area cs) (final_by f t D ws area cs) v
      → Calm (live_set (final_by f t D ws area cs)) (run_state_by f t D ws area cs) body
      → (i j : ℕ) → live_in (final_by f t D ws area cs) i ≡ true → live_in (final_by f t D ws area cs) j ≡ true
      → Risen (final_by f t D ws area cs) (final_by f t D ws area (cs ++ ds)) v i j
