-- How long the output can be.
-- Assumes nothing.
use mathlib.Core.Bool.{Bool, true, false, cond}
use mathlib.Core.List.{List, [], ◌∷◌, ◌++◌}
use Prim.Native.Nat.{ℕ, zero, suc, ◌+◌, ◌*◌, ◌≤◌}
use native.Mathlib.Omega.{arith}
use lib.ListN.{length, length-append}
use Rattle.text.specs.Read.{split}
use Rattle.node.specs.Answers.{Answer}
use Rattle.node.specs.Answers.{OutOfRange, BadWindows}
use Rattle.site.specs.Model.{Member}
use Rattle.windows.specs.declared.Window.{Window}
use Rattle.machine.specs.timed.Calls.{TimedState}
use Rattle.script.specs.events.Events.{event_of}
use Rattle.script.specs.load.Opening.{Opening}
use Rattle.script.proofs.load.Outcome.{lines, lines-behind, lines_split, WellFormed}
use Rattle.desk.specs.listing.Rows.{first_head, refusal_line, rows_text}
use Rattle.desk.proofs.listing.Bound.{report-short, rows_short}
use Rattle.desk.proofs.listing.Laws.{head-short, refusal-short}
use Rattle.desk.specs.reasons.Reasons.{reason_of, line_report}
use Rattle.desk.proofs.reasons.Closes.{sized}
use Rattle.desk.proofs.reasons.Bound.{line-short}
use Rattle.desk.specs.listings.Output.{second_head, top_script, line_answer, line_after, refused_lines, loaded_state, finished, day_fits}
use Rattle.desk.specs.listings.Why.{reason_lines, head_part}
use Rattle.desk.specs.listings.Calls.{room_of}
use Rattle.desk.specs.listings.Inner.{refusal_text, ran_text, open_text}
use Rattle.desk.specs.declared.View.{View}
use Rattle.desk.specs.declared.View.TheVariants.{Refusals, Reasons}

-- nine bytes for each line
reports-short : (ws : List Window) (ps : List (List ℕ)) (w : TimedState) (n : ℕ) → n + lines ps ≤ 99999
    → length (refused_lines ws w n ps) ≤ 9 * lines ps
unfolding refused_lines lines
reports-short ws [] w n h = omega arith
reports-short ws ([] ∷ []) w n h = omega arith
reports-short ws ((b ∷ l) ∷ []) w n h = omega (arith, report-short n OutOfRange (omega arith))
reports-short ws (l ∷ m ∷ ls) w n h =
    omega (
      arith,
      lines-behind l m ls,
      length-append (refusal_line n (line_answer ws w (event_of l))) (refused_lines ws (line_after ws w (event_of l)) (n + 1) (m ∷ ls)),
      report-short n (line_answer ws w (event_of l)) (omega (arith, lines-behind l m ls)),
      reports-short ws (m ∷ ls) (line_after ws w (event_of l)) (n + 1) (omega (arith, lines-behind l m ls)),
    )

-- all lines' reasons
told-short : (ps : List (List ℕ)) (j : ℕ) (ws : List Window) (w : TimedState) (n : ℕ) → n + sized ps ≤ 99999
    → length (reason_lines j ws w n ps) ≤ 4 * sized ps
unfolding reason_lines sized
told-short [] j ws w n k = omega arith
told-short (l ∷ []) j ws w n k = omega arith
told-short (l ∷ m ∷ ls) j ws w n k =
    omega (
      arith,
      length-append (reason_of j n (line_report w.timed.site w.area (event_of l)).nodes)
          (reason_lines j ws (line_after ws w (event_of l)) (n + 1) (m ∷ ls)),
      line-short j w.timed.site w.area n l (omega arith),
      told-short (m ∷ ls) j ws (line_after ws w (event_of l)) (n + 1) (omega arith),
    )

-- a refusal of a whole script: all is in the part with the head
pub refused-short : (v : View) (k n : ℕ) (x : Answer) → length (refusal_text v k n x) ≤ 50
refused-short Refusals k n x = refusal-short k n x
refused-short (Reasons zero) k n x = refusal-short k n x
refused-short (Reasons (suc i)) k n x = omega arith

pub room-some : (v : View) (n : ℕ) → 100 ≤ room_of v n
room-some Refusals n = omega arith
room-some (Reasons j) n = omega arith

pub room-top : (v : View) (n : ℕ) → room_of v n ≤ 390000
room-top Refusals n = omega arith
room-top (Reasons j) n = omega arith

part-head : (j : ℕ) → length (head_part j) ≤ 23
part-head zero = omega arith
part-head (suc i) = omega arith

-- a script that opens: the room is enough for it
module _ (D : ℕ) (ws : List Window) (s a : List ℕ) (o : Opening) (ls : List (List ℕ)) (q : WellFormed (split 10 s) o ls)
    (h : length s ≤ top_script) (l : sized ls ≤ suc (length s)) where
  abbrev first : ℕ
  first = 5 + o.config.nodes

  abbrev begun : TimedState
  begun = loaded_state D ws o a

  abbrev members : List Member
  members = (finished D ws o a ls).timed.site.members

  ran-short : (v : View) → length (ran_text v D ws o a ls) ≤ room_of v (length s)
  ran-short Refusals =
      let k = o.config.split in
      let rows = rows_text o.config.nodes 0 members o.config.slots in
      omega (
        arith,
        lines_split 10 s,
        q.lines,
        q.limits.nodes,
        head-short k,
        length-append (first_head k) (refused_lines ws begun first ls ++ (second_head ++ rows)),
        length-append (refused_lines ws begun first ls) (second_head ++ rows),
        reports-short ws ls begun first (omega (arith, lines_split 10 s, q.lines, q.limits.nodes)),
        rows_short o.config.nodes 0 members o.config.slots q.limits.slots,
      )
  ran-short (Reasons j) =
      omega (
        arith,
        part-head j,
        q.limits.nodes,
        length-append (head_part j) (reason_lines j ws begun first ls ++ []),
        length-append (reason_lines j ws begun first ls) [],
        told-short ls j ws begun first (omega (arith, q.limits.nodes)),
      )

  pub open-short : (v : View) → length (open_text v D ws o a ls) ≤ room_of v (length s)
  open-short v = go (day_fits D ws o)
    where
      go : (t : Bool) → length (cond t (ran_text v D ws o a ls) (refusal_text v o.config.split 0 BadWindows)) ≤ room_of v (length s)
      go true = ran-short v
      go false = omega (arith, refused-short v o.config.split 0 BadWindows, room-some v (length s))
