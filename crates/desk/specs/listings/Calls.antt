-- The calls that run a script: what they answer, and what lent output and the packet area hold then. Each prints one view of the run: the
-- refusals of its lines with the rows behind them (`replay`), or the reasons of a node (`why`).
-- Refused as 15: output shorter than the room that a script of this length may need. Then nothing is changed.
-- Assumes nothing.
use Rattle.std.specs.Prelude.{Bool, cond, Result, List, ℕ, leb, length}
use Rattle.lists.specs.Bytes.{written}
use Rattle.node.specs.Answers.{Answer, Done, NoRoom, answered}
use Rattle.node.specs.declared.Refusal.{Refusal}
use Rattle.windows.specs.declared.Window.{Window}
use Rattle.desk.specs.listings.Output.{output_of, final_area, room_for}
use Rattle.desk.specs.listings.Why.{why_of, why_room}
use Rattle.desk.specs.declared.View.{View}
use Rattle.desk.specs.declared.View.TheVariants.{Refusals, Reasons}

-- what is printed
abbrev pub text_of : View → ℕ → List Window → List ℕ → List ℕ → List ℕ
text_of Refusals D ws script area = output_of D ws script area
text_of (Reasons j) D ws script area = why_of j D ws script area

-- room that is enough for it, of a script of n bytes
abbrev pub room_of : View → ℕ → ℕ
room_of Refusals n = room_for n
room_of (Reasons j) n = why_room n

-- whether lent output is long enough
abbrev pub output_fits : View → List ℕ → List ℕ → Bool
output_fits v script out = leb (room_of v (length script)) (length out)

-- the answer to a run
unfoldable pub run_answer : View → List ℕ → List ℕ → Answer
run_answer v script out = cond (output_fits v script out) Done NoRoom

-- the length of what is printed, or the refusal
abbrev pub run_result_of : View → ℕ → List Window → List ℕ → List ℕ → List ℕ → Result ℕ Refusal
run_result_of v D ws script area out = answered (run_answer v script out) (length (text_of v D ws script area))

-- the output: what is printed stands at its start, and every byte behind it is as it was
unfoldable pub out_after : View → ℕ → List Window → List ℕ → List ℕ → List ℕ → List ℕ
out_after v D ws script area out = cond (output_fits v script out) (written out 0 (text_of v D ws script area)) out

-- the packet area
unfoldable pub area_after_run : View → ℕ → List Window → List ℕ → List ℕ → List ℕ → List ℕ
area_after_run v D ws script area out = cond (output_fits v script out) (final_area D ws script area) area

-- the number that the length is written to: as it was after a refusal
unfoldable pub length_after : View → ℕ → List Window → List ℕ → List ℕ → List ℕ → ℕ → ℕ
length_after v D ws script area out n = cond (output_fits v script out) (length (text_of v D ws script area)) n
