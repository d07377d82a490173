-- Specification, 3.9: a site in a group is what its own calls make it, whatever other sites are called to do in between, and demand 3 holds
-- of it.
-- Assumes nothing.
use Rattle.std.specs.Prelude.{◌≡◌, Bool, false, cond, List, [], ◌∷◌, ◌++◌, ℕ, ◌≤◌, ◌<◌, eqb, length}
use Rattle.node.specs.Answers.{is_done}
use Rattle.node.specs.Answers.{Done}
use Rattle.site.specs.Answers.{area_size}
use Rattle.node.specs.declared.Config.{Config}
use Rattle.site.specs.declared.Table.{Table}
use Rattle.windows.specs.declared.Window.{Window}
use Rattle.machine.specs.timed.Timed.{timed_load_answer}
use Rattle.machine.specs.timed.Calls.{Call, TimedState, run_calls}
use Rattle.agreement.specs.daily.Daily.{begin_by, DailyDemand3}
use Rattle.desk.specs.listing.Rows.{rows_text}
use Rattle.group.specs.Group.{SiteSlot, Empty, Taken, Group, vacant, site_slot_of, packets_in, own_share}
use Rattle.group.specs.Calls.{GroupCall, LoadSite, SiteCall, call_number, is_crowded, answer_to}
use Rattle.group.specs.Steps.{after_group, run_group}
use Rattle.group.specs.Fit.{Fit}

-- a call, and whether it was refused as 17
pub record Own : Type 0 where
  pub call : GroupCall
  pub crowded : Bool

-- the calls of number a in a list
unfoldable pub own_calls : ℕ → Group → List GroupCall → List Own
own_calls a g [] = []
own_calls a g (c ∷ cs) = cond (eqb (call_number c) a) (record { call = c; crowded = is_crowded g c } ∷ []) [] ++ own_calls a (after_group g c) cs

-- the answers to them
unfoldable pub own_answers : ℕ → Group → List GroupCall → List ℕ
own_answers a g [] = []
own_answers a g (c ∷ cs) = cond (eqb (call_number c) a) (answer_to g c ∷ []) [] ++ own_answers a (after_group g c) cs

-- what a site was loaded with, and its calls since then, those refused as 17 left out
pub record Story : Type 0 where
  pub config : Config
  pub table : Table
  pub day : ℕ
  pub windows : List Window
  pub calls : List Call

-- just loaded
abbrev pub loaded_story : Config → Table → ℕ → List Window → Story
loaded_story f t D ws = record { config = f; table = t; day = D; windows = ws; calls = [] }

-- one call more; an accepted load begins anew, a refused one changes nothing
abbrev pub story_after : Story → Bool → GroupCall → Story
story_after st crowded (LoadSite a f t D ws) = cond (is_done (timed_load_answer f t D ws)) (loaded_story f t D ws) st
story_after st crowded (SiteCall a c) =
    cond crowded st (record { config = st.config; table = st.table; day = st.day; windows = st.windows; calls = st.calls ++ (c ∷ []) })

unfoldable pub story : Story → List Own → Story
story st [] = st
story st (o ∷ os) = story (story_after st o.crowded o.call) os

-- where these calls lead the site with an area of its own
abbrev pub run_state_of : List ℕ → Story → TimedState
run_state_of own st = run_calls (begin_by st.config st.table st.day st.windows own) st.calls

-- the site of number a is the one that its own calls lead to, and demand 3 holds of them where it may not split
pub record AsAlone (a : ℕ) (g : Group) (own : List ℕ) (st : Story) : Type 0 where
  pub loads : timed_load_answer st.config st.table st.day st.windows ≡ Done
  pub site : site_slot_of g a ≡ Taken (run_state_of own st).timed
  pub demand3 : st.config.split ≡ 0 → DailyDemand3 st.config st.table st.day st.windows own st.calls

-- the rows of the listing (specification, 8) of what stands at a number
abbrev pub listing_of : SiteSlot → List ℕ
listing_of Empty = []
listing_of (Taken t) = rows_text t.site.config.nodes 0 t.site.members t.site.config.slots

-- a group that was loaded at a number, after any calls before
abbrev pub loaded_group : List ℕ → List GroupCall → GroupCall → Group
loaded_group area before load = after_group (run_group (vacant area) before) load

-- the theorem's statement: proved in proofs/Theorem.antt
pub record Several : Type 0 where
  -- in any group: a site that has fewer than 16 packets is never refused as 17
  pub sixteen : (g : Group) (a : ℕ) (c : Call) → packets_in (site_slot_of g a) < own_share → is_crowded g (SiteCall a c) ≡ false
  pub fit : (area : List ℕ) → area_size ≤ length area → (cs : List GroupCall) → Fit (run_group (vacant area) cs)
  -- from an accepted load on, with any further calls, and for any area that the site alone might have
  pub alone : (area own : List ℕ) → area_size ≤ length area → area_size ≤ length own
      → (before cs : List GroupCall) (a : ℕ) (f : Config) (t : Table) (D : ℕ) (ws : List Window)
      → answer_to (run_group (vacant area) before) (LoadSite a f t D ws) ≡ 0
      → AsAlone a (run_group (loaded_group area before (LoadSite a f t D ws)) cs) own
      (story (loaded_story f t D ws) (own_calls a (loaded_group area before (LoadSite a f t D ws)) cs))
  -- two runs in which a site gets the same calls from an accepted load on, and 17 answers the same of them: the same answers, the same site
  -- and the same listing
  pub apart : (x y : List ℕ) → area_size ≤ length x → area_size ≤ length y
      → (xs ys cs ds : List GroupCall) (a : ℕ) (f : Config) (t : Table) (D : ℕ) (ws : List Window)
      → answer_to (run_group (vacant x) xs) (LoadSite a f t D ws) ≡ 0
      → own_calls a (loaded_group x xs (LoadSite a f t D ws)) cs ≡ own_calls a (loaded_group y ys (LoadSite a f t D ws)) ds
      → (own_answers a (loaded_group x xs (LoadSite a f t D ws)) cs ≡ own_answers a (loaded_group y ys (LoadSite a f t D ws)) ds)
      × (site_slot_of (run_group (loaded_group x xs (LoadSite a f t D ws)) cs) a
      ≡ site_slot_of (run_group (loaded_group y ys (LoadSite a f t D ws)) ds) a)
      × (listing_of (site_slot_of (run_group (loaded_group x xs (LoadSite a f t D ws)) cs) a)
      ≡ listing_of (site_slot_of (run_group (loaded_group y ys (LoadSite a f t D ws)) ds) a))
