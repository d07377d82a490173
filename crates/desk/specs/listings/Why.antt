-- The reasons of every close of a script (specification, 8.1 The reasons), with a day of D epochs and a list of windows as in Output.
-- Assumes nothing.
use Rattle.std.specs.Prelude.{cond, Err, List, [], ◌∷◌, ◌++◌, ℕ, zero, suc, min, ◌+◌, ◌*◌}
use Rattle.text.specs.Ascii.{ascii}
use Rattle.text.specs.Read.{split}
use Rattle.node.specs.Answers.{Answer}
use Rattle.node.specs.Answers.{NoRoom, BadWindows}
use Rattle.windows.specs.declared.Window.{Window}
use Rattle.machine.specs.timed.Calls.{TimedState}
use Rattle.script.specs.events.Events.{event_of}
use Rattle.script.specs.load.Opening.{Reading, refused, got, Opening, opening}
use Rattle.desk.specs.listing.Rows.{first_head, refusal_line}
use Rattle.desk.specs.reasons.Reasons.{reason_of, line_report}
use Rattle.desk.specs.listings.Output.{top_script, line_after, loaded_state, day_fits, unfit, split_shown}

-- the head over the reasons
abbrev pub reasons_head : List ℕ
reasons_head = ascii "line node rule missing\n"

-- the reasons of node j at all lines, the first of which is n; what stands behind the last byte 10 is no line that is run
unfoldable pub reason_lines : ℕ → List Window → TimedState → ℕ → List (List ℕ) → List ℕ
reason_lines j ws w n [] = []
reason_lines j ws w n (l ∷ []) = []
reason_lines j ws w n (l ∷ m ∷ ls) =
    reason_of j n (line_report w.timed.site w.area (event_of l)).nodes
    ++ reason_lines j ws (line_after ws w (event_of l)) (n + 1) (m ∷ ls)

-- What is printed comes in parts, one behind another: part 0 is the head, and part j the reasons of node j.
-- Of a script that is refused before its events part 0 is what `replay` prints, the head over the refused lines and one line; the others
-- are empty
abbrev pub refusal_part : ℕ → ℕ → ℕ → Answer → List ℕ
refusal_part zero split n a = first_head split ++ refusal_line n a
refusal_part (suc i) split n a = []

abbrev pub head_part : ℕ → List ℕ
head_part zero = reasons_head
head_part (suc i) = []

-- a list or a day that breaks the rules is refused as 16 with line 0, before the first event
abbrev pub why_body : ℕ → ℕ → List Window → ℕ → List ℕ → Reading Opening → List ℕ
why_body j D ws split area (refused n r) = refusal_part j split n (Err r)
why_body j D ws split area (got o ls) =
    cond (day_fits D ws o) (head_part j ++ reason_lines j ws (loaded_state D ws o area) (5 + o.config.nodes) ls)
    (refusal_part j split 0 BadWindows)

-- part j of what is printed
unfoldable pub why_of : ℕ → ℕ → List Window → List ℕ → List ℕ → List ℕ
why_of j D ws script area =
    cond (unfit script area) (refusal_part j 0 0 NoRoom)
    (why_body j D ws (split_shown script area) area (opening (split 10 script)))

-- room that is enough for a part of the output of a script of n bytes: a close is a line of ten bytes, and a node prints at most 39
abbrev pub why_room : ℕ → ℕ
why_room n = 4 * min n top_script + 100
