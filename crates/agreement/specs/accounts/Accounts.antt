-- Specification, 3.8 Slots held, over lists of events (10): a site with the tally that its load set anew and each event is lent as the one
-- before it left it.
-- It has no hypothesis but that the table is accepted.
-- Assumes nothing.
use Rattle.std.specs.Prelude.{◌≡◌, Bool, true, not, cond, ◌&&◌, List, [], ◌∷◌, ◌++◌, ℕ, min, ◌+◌, ◌≤◌, ◌<◌, ltb, take}
use Rattle.words.specs.Bits.{digit}
use Rattle.node.specs.Answers.{is_done}
use Rattle.node.specs.Figures.{is_last}
use Rattle.node.specs.Answers.{Done}
use Rattle.site.specs.Answers.{answer_of}
use Rattle.site.specs.Load.{load_answer, loaded_site}
use Rattle.site.specs.Events.{is_end}
use Rattle.site.specs.Run.{RunState, after, run}
use Rattle.node.specs.declared.Config.{Config}
use Rattle.site.specs.declared.Table.{Table}
use Rattle.site.specs.Model.{Site}
use Rattle.site.specs.declared.Event.{Event}
use Rattle.histories.specs.Past.{trace, no_past}
use Rattle.histories.specs.Reached.{begin}
use Rattle.agreement.specs.Demand.{Demand3}
use Rattle.tally.specs.Claims.{held_by, claimants, sum, claimed}
use Rattle.tally.specs.Counting.{top_epochs, first_tally, slots_at, held_at, tally_ok}
use Rattle.tally.specs.Ends.{schedules_of, tallied_answer, tallied_site, tallied_area, tally_after}
use Rattle.tally.specs.declared.Tally.{Tally}

-- a site and its packet area, with the tally
pub record Account : Type 0 where
  pub state : RunState
  pub tally : Tally

-- after one event
abbrev pub after_tallied : Account → Event → Account
after_tallied a e =
    let w = a.state in
    record {
      state = record {
        site = tallied_site w.site w.area a.tally e;
        area = tallied_area w.site w.area
            a.tally e;
      };
      tally = tally_after w.site w.area a.tally e;
    }

-- after a list of events
unfoldable pub run_tallied : Account → List Event → Account
run_tallied a [] = a
run_tallied a (e ∷ es) = run_tallied (after_tallied a e) es

-- a list of events from a site just loaded
abbrev pub account : Config → Table → List ℕ → List Event → Account
account f t area es = run_tallied (record { state = begin f t area; tally = first_tally }) es

-- how many epochs have begun in it: that of the load, and one for each accepted end of an epoch's last round
abbrev pub epochs_begun : Config → Table → List ℕ → List Event → ℕ
epochs_begun f t area es = (trace (no_past (loaded_site f t)) (begin f t area) es).epoch + 1

-- of a site: the sum by slots is that by nodes
abbrev pub SumsMeet : Site → Type 0
SumsMeet s = claimed (schedules_of s) ≡ sum 32 (held_by (schedules_of s))

-- no slot has two claimants
abbrev pub ClaimedOnce : Site → Type 0
ClaimedOnce s = (k : ℕ) → claimants (schedules_of s) k ≤ 1

-- the site with which an event begins an epoch, if it does: behind an accepted end of an epoch's last round
unfoldable pub epoch_site : RunState → Event → List Site
epoch_site w e = cond (is_end e && (is_done (answer_of w.site w.area e) && is_last w.site.config w.site.place))
    ((after w e).site ∷ []) []

unfoldable pub epoch_sites : RunState → List Event → List Site
epoch_sites w [] = []
epoch_sites w (e ∷ es) = epoch_site w e ++ epoch_sites (after w e) es

-- the sites with which the counted epochs began: the first 100,000, the load's among them
abbrev pub counted_sites : Config → Table → List ℕ → List Event → List Site
counted_sites f t area es = take top_epochs (loaded_site f t ∷ epoch_sites (begin f t area) es)

unfoldable pub sum_over : (Site → ℕ) → List Site → ℕ
sum_over g [] = 0
sum_over g (s ∷ l) = g s + sum_over g l

-- how many slots the node at index i holds by its own schedule at a site; and 1 if it holds one
abbrev pub slots_held : ℕ → Site → ℕ
slots_held i s = held_by (schedules_of s) i

abbrev pub holds_one : ℕ → Site → ℕ
holds_one i s = digit (ltb 0 (slots_held i s))

-- what is said of a list of events
pub record Accounted (f : Config) (t : Table) (area : List ℕ) (es : List Event) : Type 0 where
  -- the tally changes nothing of site and area, and no event is ever refused for it
  pub state : (account f t area es).state ≡ run (begin f t area) es
  pub answers : (e : Event) → tallied_answer (run (begin f t area) es).site (run (begin f t area) es).area (account f t area es).tally e
      ≡ answer_of (run (begin f t area) es).site (run (begin f t area) es).area e
  -- the tally is valid; it has counted every epoch that began, up to 100,000
  pub valid : tally_ok (account f t area es).tally ≡ true
  pub epochs : (account f t area es).tally.epochs ≡ min (epochs_begun f t area es) top_epochs
  -- of each node: the slots that it held as the counted epochs began, summed; and in how many of these it held one
  pub slots : (i : ℕ) → i < 32 → slots_at (account f t area es).tally i ≡ sum_over (slots_held i) (counted_sites f t area es)
  pub held : (i : ℕ) → i < 32 → held_at (account f t area es).tally i ≡ sum_over (holds_one i) (counted_sites f t area es)
  -- its total is the nodes' sum
  pub total : (account f t area es).tally.total ≡ sum 32 (slots_at (account f t area es).tally)
  -- in negotiation, and so as each epoch begins, the live nodes that claim a slot are never above 1 where the site may not split (S-14)
  pub once : f.split ≡ 0 → (run (begin f t area) es).site.negotiates ≡ true → ClaimedOnce (run (begin f t area) es).site

-- Calls that are lent any tallies, spoilt ones too

pub record LentCall : Type 0 where
  pub event : Event
  pub tally : Tally

abbrev pub after_lent : RunState → LentCall → RunState
after_lent w c = record {
  site = tallied_site w.site w.area c.tally c.event;
  area = tallied_area w.site w.area c.tally
      c.event;
}

unfoldable pub run_lent : RunState → List LentCall → RunState
run_lent w [] = w
run_lent w (c ∷ cs) = run_lent (after_lent w c) cs

-- an end that is lent a tally that breaks the rules: refused as 14 where nothing else is refused
abbrev pub is_spoilt : LentCall → Bool
is_spoilt c = is_end c.event && not (tally_ok c.tally)

-- the events that are left without these
unfoldable pub heeded : List LentCall → List Event
heeded [] = []
heeded (c ∷ cs) = cond (is_spoilt c) [] (c.event ∷ []) ++ heeded cs

-- a list of such calls: site and area are those of the list without the spoilt ends, so that demand 3 holds of them; and a spoilt tally
-- stays as it is
pub record LentRuns (f : Config) (t : Table) (area : List ℕ) (cs : List LentCall) : Type 0 where
  pub state : run_lent (begin f t area) cs ≡ run (begin f t area) (heeded cs)
  pub demand3 : f.split ≡ 0 → Demand3 f t area (heeded cs)
  pub tally : (w : RunState) (c : LentCall) → is_spoilt c ≡ true → tally_after w.site w.area c.tally c.event ≡ c.tally

-- the statement: proved in proofs/accounts/Theorem.antt
pub record Accounts : Type 0 where
  pub meets : (s : Site) → SumsMeet s
  pub accounted : (f : Config) (t : Table) → load_answer f t ≡ Done → (area : List ℕ) (es : List Event) → Accounted f t area es
  pub lent : (f : Config) (t : Table) → load_answer f t ≡ Done → (area : List ℕ) (cs : List LentCall) → LentRuns f t area cs
