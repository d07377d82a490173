-- Specification, 3.6 Ground of a close: at an accepted close of a site each live node reports its ground, as of the
-- node before the close. Any other event, a refused close, and a node that is waiting or down report nothing.
-- Assumes nothing.
use Rattle.std.specs.Prelude.{Bool, Option, Some, None, true, cond, ◌&&◌, List, ℕ, ◌/◌, ◌%◌, eqb, leb, length, get_or, replicate}
use Rattle.lists.specs.All.{tab}
use Rattle.lists.specs.Bytes.{written}
use Rattle.node.specs.Answers.{Answer, is_done}
use Rattle.node.specs.Grounds.{rule_number, ground_of}
use Rattle.site.specs.Answers.{answer_of}
use Rattle.site.specs.Members.{nobody, is_live}
use Rattle.site.specs.Events.{is_close}
use Rattle.site.specs.declared.Event.{Event}
use Rattle.site.specs.Model.{Member}
use Rattle.site.specs.Model.{Site}
use Rattle.machine.specs.Layout.{Store, site_in}
use Rattle.machine.specs.steps.After.{storage_answer}
use Rattle.machine.specs.Loading.{member_read}
use Rattle.node.specs.declared.Ground.{Ground}
use Rattle.machine.specs.declared.Report.{Report}

-- of no node
abbrev pub no_report : Report
no_report = record { nodes = replicate 32 None }

-- what a member reports, where a close was accepted
unfoldable pub member_report : Bool → Member → Option Ground
member_report accepted m = cond (accepted && is_live m) (Some (ground_of m.node)) None

-- the reports of all members, that of node j at index j - 1
unfoldable pub report_of : Bool → List Member → Report
report_of accepted ms = record { nodes = tab 32 (λ i. member_report accepted (get_or ms i nobody)) }

-- whether an event is a close, and its answer accepts it
abbrev pub closes_with : Event → Answer → Bool
closes_with e a = is_close e && is_done a

abbrev pub is_reported : Site → List ℕ → Event → Bool
is_reported s area e = closes_with e (answer_of s area e)

-- of a site in storage: where the storage is too short the answer is 15, and nothing is reported
abbrev pub reported_in : Store → List ℕ → Event → Bool
reported_in s area e = closes_with e (storage_answer s area e)

-- what node j of it reports; a number of none of the N nodes nothing
unfoldable pub node_report_in : Store → List ℕ → Event → ℕ → Option Ground
node_report_in s area e j = member_report (reported_in s area e) (member_read s j)

-- a report in bytes: of node j at 2 * (j - 1) the rule's number, and behind it the lowest missing node, as a box's close gives them;
-- both are 0 of a node that reports nothing
abbrev pub report_byte : Option Ground → ℕ → ℕ
report_byte None k = 0
report_byte (Some g) k = cond (eqb k 0) (rule_number g.rule) g.missing

abbrev pub reports_size : ℕ
reports_size = 64

unfoldable pub report_bytes : Report → List ℕ
report_bytes r = tab reports_size (λ k. report_byte (get_or r.nodes (k / 2) None) (k % 2))

-- an output after an event: the report of an accepted close stands at the start of an output that has room for it, and no other byte
-- changes
unfoldable pub put_report : Store → List ℕ → Event → List ℕ → List ℕ
put_report s area e out = cond (leb reports_size (length out) && reported_in s area e)
    (written out 0 (report_bytes (report_of true (site_in s).members))) out
