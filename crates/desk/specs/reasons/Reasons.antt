-- The reason of a node at a close as a line (specification, 8.1 The reasons).
-- Assumes nothing.
use Rattle.std.specs.Prelude.{Option, Some, None, List, [], ◌∷◌, ◌++◌, ℕ, zero, suc, get_or}
use Rattle.text.specs.Ascii.{ascii}
use Rattle.text.specs.Write.{decimal}
use Rattle.node.specs.declared.Ground.{Ground}
use Rattle.node.specs.declared.Rule.{Rule}
use Rattle.node.specs.declared.Rule.TheVariants.{RequestMissing, NoMajority, OwnLower, Repeating, AtTop, NotDue, NewSent}
use Rattle.site.specs.Model.{Site}
use Rattle.machine.specs.reports.Reports.{no_report, report_of, is_reported}
use Rattle.machine.specs.declared.Report.{Report}
use Rattle.site.specs.declared.Event.{Event}

-- the word of a rule
abbrev pub rule_text : Rule → List ℕ
rule_text RequestMissing = ascii "missing"
rule_text NoMajority = ascii "majority"
rule_text OwnLower = ascii "lower"
rule_text Repeating = ascii "repeats"
rule_text AtTop = ascii "top"
rule_text NotDue = ascii "determined"
rule_text NewSent = ascii "sent"

-- `LINE NODE RULE MISSING` and byte 10
abbrev pub reason_line : ℕ → ℕ → Ground → List ℕ
reason_line n j g = decimal n ++ (32 ∷ (decimal j ++ (32 ∷ (rule_text g.rule ++ (32 ∷ (decimal g.missing ++ (10 ∷ [])))))))

-- of a node that reports nothing no line
unfoldable pub reason : ℕ → ℕ → Option Ground → List ℕ
reason n j None = []
reason n j (Some g) = reason_line n j g

-- the line of node j among the reports of all; 0 is no node
unfoldable pub reason_of : ℕ → ℕ → List (Option Ground) → List ℕ
reason_of zero n ts = []
reason_of (suc i) n ts = reason n (suc i) (get_or ts i None)

-- what a line of a script reports: a malformed one nothing
abbrev pub line_report : Site → List ℕ → Option Event → Report
line_report s area None = no_report
line_report s area (Some e) = report_of (is_reported s area e) s.members
