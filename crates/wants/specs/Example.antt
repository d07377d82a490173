-- The hypotheses can be met, and what is the same is not empty: two nodes with two slots, of which node 1 hears node 2 and not the
-- other way round. The demands differ in the tables, by wants and by windows, and so do the schedules; the reports are the same.
-- proofs/Example.antt computes it by the definitions.
-- Assumes nothing.
use Rattle.std.specs.Prelude.{◌≡◌, true, None, List, [], ◌∷◌, map, ℕ, get_or, take, replicate}
use Rattle.allotment.specs.Allotment.{owners_of}
use Rattle.node.specs.Model.{Node}
use Rattle.node.specs.Answers.{Done}
use Rattle.site.specs.Answers.{area_size}
use Rattle.site.specs.Load.{load_answer}
use Rattle.site.specs.Members.{member_at}
use Rattle.site.specs.Run.{run}
use Rattle.node.specs.declared.Config.{Config}
use Rattle.site.specs.declared.Table.{Table}
use Rattle.site.specs.declared.Event.{Event}
use Rattle.site.specs.declared.Event.TheVariants.{Send, Hear, Close, Want}
use Rattle.machine.specs.reports.Reports.{report_byte}
use Rattle.machine.specs.declared.Report.{Report}
use Rattle.histories.specs.Reached.{begin}
use Rattle.windows.specs.declared.Window.{Window}
use Rattle.machine.specs.timed.Timed.{timed_load_answer}
use Rattle.machine.specs.timed.Calls.{Call, run_calls}
use Rattle.agreement.specs.daily.Daily.{begin_by}
use Rattle.wants.specs.Wants.{without_wants, SameButWants, close_reports, reports_by, good_lists}

-- a packet area of zeros
abbrev pub area : List ℕ
area = replicate area_size 0

-- two nodes, two slots, one round in an epoch
abbrev pub pair : Config
pair = record { nodes = 2; slots = 2; rounds = 1; min_heard = 1; split = 0 }

-- both at version 1, with these wants
abbrev pub wanting : ℕ → ℕ → Table
wanting a b = record { rows = record { version = 1; flags = 3; want = a } ∷ record { version = 1; flags = 3; want = b } ∷ [] }

-- node 1 hears node 2
abbrev pub talk : List Event
talk = Send 2 ∷ Hear 1 1 ∷ Close ∷ []

-- and so it does here, with two wants before the close
abbrev pub wanting_talk : List Event
wanting_talk = Want 1 3 ∷ Send 2 ∷ Hear 1 1 ∷ Want 2 5 ∷ Close ∷ []

-- windows that give node 1 two slots and node 2 none, and calls that are lent them
abbrev pub example_windows : List Window
example_windows = record { node = 1; first = 0; end = 1; demand = 2 } ∷ record { node = 2; first = 0; end = 1; demand = 0 } ∷ []

abbrev pub lent_calls : List Call
lent_calls = map (λ (e : Event). record { event = e; windows = example_windows }) talk

-- the rule's number and the missing node of nodes 1 and 2
abbrev pub rule_in : Report → ℕ → List ℕ
rule_in r i = report_byte (get_or r.nodes i None) 0 ∷ report_byte (get_or r.nodes i None) 1 ∷ []

abbrev pub rules_in : List Report → List (List (List ℕ))
rules_in rs = map (λ (r : Report). rule_in r 0 ∷ rule_in r 1 ∷ []) rs

-- the owners of the two slots by a node's schedule
abbrev pub owners : Node → List ℕ
owners n = take 2 (owners_of n.schedule)

pub record Example : Type 0 where
  -- the hypotheses
  pub even-loads : load_answer pair (wanting 1 1) ≡ Done
  pub odd-loads : load_answer pair (wanting 2 0) ≡ Done
  pub windows-load : timed_load_answer pair (wanting 1 1) 2 example_windows ≡ Done
  pub rows : SameButWants (wanting 1 1) (wanting 2 0)
  pub events : without_wants talk ≡ without_wants wanting_talk
  pub lists : good_lists 2 2 lent_calls ≡ true
  -- node 1 sends a new schedule, and node 2 lacks the request of node 1
  pub even-told : rules_in (close_reports (begin pair (wanting 1 1) area) talk) ≡ ((7 ∷ 0 ∷ []) ∷ (1 ∷ 1 ∷ []) ∷ []) ∷ []
  pub odd-told : rules_in (close_reports (begin pair (wanting 2 0) area) wanting_talk) ≡ ((7 ∷ 0 ∷ []) ∷ (1 ∷ 1 ∷ []) ∷ []) ∷ []
  pub windows-told : rules_in (reports_by (begin_by pair (wanting 1 1) 2 example_windows area) lent_calls)
      ≡ ((7 ∷ 0 ∷ []) ∷ (1 ∷ 1 ∷ []) ∷ []) ∷ []
  -- that schedule is another one, and so is the request of node 1 then
  pub even-owners : owners (member_at (run (begin pair (wanting 1 1) area) talk).site 1).node ≡ 1 ∷ 2 ∷ []
  pub odd-owners : owners (member_at (run (begin pair (wanting 2 0) area) wanting_talk).site 1).node ≡ 1 ∷ 1 ∷ []
  pub windows-owners : owners
      (member_at (run_calls (begin_by pair (wanting 1 1) 2 example_windows area) lent_calls).timed.site 1).node ≡ 1 ∷ 1 ∷ []
  pub even-request : (member_at (run (begin pair (wanting 1 1) area) talk).site 1).node.request ≡ 1
  pub odd-request : (member_at (run (begin pair (wanting 2 0) area) wanting_talk).site 1).node.request ≡ 3
