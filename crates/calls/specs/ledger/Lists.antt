-- Lists of C calls on lent memory, of one site or of a group: what was called, answered and left.
-- Of one site there: its accepted events, read off the memory before and behind each, and from these its past and its tally.
-- Assumes nothing.
use Rattle.std.specs.Prelude.{◌≡◌, true, cond, ◌&&◌, List, [], ◌∷◌, ◌++◌, map, ℕ, min, ◌+◌, ◌<◌, eqb, take}
use Rattle.site.specs.Answers.{answer_of}
use Rattle.site.specs.Events.{is_end}
use Rattle.site.specs.Model.{Site}
use Rattle.site.specs.declared.Event.{Event}
use Rattle.histories.specs.Past.{Past, no_past, recorded}
use Rattle.windows.specs.declared.Window.{Window}
use Rattle.machine.specs.timed.Timed.{in_last_round}
use Rattle.machine.specs.timed.Calls.{Call}
use Rattle.tally.specs.Claims.{sum}
use Rattle.tally.specs.Counting.{top_epochs, first_tally, slots_at, held_at, tally_ok}
use Rattle.tally.specs.Ends.{tallied_answer}
use Rattle.tally.specs.declared.Tally.{Tally}
use Rattle.agreement.specs.accounts.Accounts.{ClaimedOnce, sum_over, slots_held, holds_one}
use Rattle.calls.specs.lifted.Lifted.{Claim}
use Rattle.std.specs.Prelude.{Option}
use Rattle.std.specs.Prelude.{None, Some}

-- a call that was made, with its answer, and the tally and the memory that it left
pub record Did (C M : Type 0) : Type 0 where
  pub call : C
  pub answer : ℕ
  pub tally : Tally
  pub left : M

-- a list of calls, each on the memory that the one before it left: nothing else writes there. R is what the contract of a call says
unfoldable pub CalledAll : {C M : Type 0} → (M → Did C M → Type 0) → M → List (Did C M) → Type 0
CalledAll R m [] = Unit {0}
CalledAll R m (d ∷ ds) = R m d × CalledAll R d.left ds

unfoldable pub left_by : {C M : Type 0} → M → List (Did C M) → M
left_by m [] = m
left_by m (d ∷ ds) = left_by d.left ds

-- an accepted event of a site, with its windows: the site before it and behind it, the tally that was lent and the one that was left
pub record SiteStep : Type 0 where
  pub call : Call
  pub before : Site
  pub behind : Site
  pub lent : Tally
  pub left : Tally

-- three numbers that make no event make no step
abbrev pub step_of : (Option Event) → List Window → Site → Site → Tally → Tally → List SiteStep
step_of None ws s t x y = []
step_of (Some e) ws s t x y = record { call = record { event = e; windows = ws }; before = s; behind = t; lent = x; left = y } ∷ []

-- the steps of a list of calls: those of the calls that were answered with 0
unfoldable pub steps_by : {C M : Type 0} → (M → Did C M → List SiteStep) → M → List (Did C M) → List SiteStep
steps_by look m [] = []
steps_by look m (d ∷ ds) = cond (eqb d.answer 0) (look m d) [] ++ steps_by look d.left ds

abbrev pub calls_in : List SiteStep → List Call
calls_in ss = map (λ (s : SiteStep). s.call) ss

-- the past of the steps
unfoldable pub past_by : Past → List SiteStep → Past
past_by y [] = y
past_by y (s ∷ ss) = past_by (recorded y s.before s.call.event s.behind) ss

-- the sites with which epochs began: behind each end of an epoch's last round
unfoldable pub begun_by : List SiteStep → List Site
begun_by [] = []
begun_by (s ∷ ss) = cond (is_end s.call.event && in_last_round s.before) (s.behind ∷ []) [] ++ begun_by ss

-- each event is lent the tally as the one before it left it, the first of them t
unfoldable pub Threaded : Tally → List SiteStep → Type 0
Threaded t [] = Unit {0}
Threaded t (s ∷ ss) = (s.lent ≡ t) × Threaded s.left ss

-- the tally as the last one left it
unfoldable pub tally_by : Tally → List SiteStep → Tally
tally_by t [] = t
tally_by t (s ∷ ss) = tally_by s.left ss

-- Slots held (specification, 3.8)

-- in negotiation no slot of a site that may not split has two claimants
abbrev pub ClaimsOnce : Claim
ClaimsOnce f w y = f.split ≡ 0 → w.site.negotiates ≡ true → ClaimedOnce w.site

-- the tally: from a load that left the site `start`, and set the tally anew
pub record Accounted (start : Site) (ss : List SiteStep) : Type 0 where
  -- the tally is valid, so no event is refused for it
  pub valid : tally_ok (tally_by first_tally ss) ≡ true
  pub answers : (s : Site) (area : List ℕ) (e : Event) → tallied_answer s area (tally_by first_tally ss) e ≡ answer_of s area e
  -- it has counted every epoch that began, up to 100,000
  pub epochs : (tally_by first_tally ss).epochs ≡ min ((past_by (no_past start) ss).epoch + 1) top_epochs
  -- of each node: the slots that it held as the counted epochs began, summed; and in how many of these it held one
  pub slots : (i : ℕ) → i < 32 → slots_at (tally_by first_tally ss) i ≡ sum_over (slots_held i) (take top_epochs (start ∷ begun_by ss))
  pub held : (i : ℕ) → i < 32 → held_at (tally_by first_tally ss) i ≡ sum_over (holds_one i) (take top_epochs (start ∷ begun_by ss))
  -- its total is the nodes' sum
  pub total : (tally_by first_tally ss).total ≡ sum 32 (slots_at (tally_by first_tally ss))
