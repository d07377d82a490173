-- One event of a site in lent words and bytes (specs/Layout.antt) with its day, a list of windows, a tally, and an output for the
-- report of a close: the answer, and what each lent word and byte, the day and the tally are then. A refusal changes none.
-- Assumes nothing.
use Rattle.std.specs.Prelude.{Bool, not, cond, ◌&&◌, ◌||◌, List, ℕ, eqb, ltb, length}
use Rattle.node.specs.Answers.{Answer, NoRoom, is_done}
use Rattle.site.specs.Answers.{area_size}
use Rattle.site.specs.declared.Event.{Event}
use Rattle.windows.specs.declared.Window.{Window}
use Rattle.machine.specs.Layout.{Store, too_short}
use Rattle.machine.specs.timed.Stored.{timed_in, timed_store}
use Rattle.machine.specs.declared.Day.{Day}
use Rattle.machine.specs.reports.Reports.{reports_size, put_report}
use Rattle.tally.specs.declared.Tally.{Tally}
use Rattle.machine.specs.combined.Kept.{Kept, kept_answer, kept_after}

-- what storage, day, area and tally stand for
abbrev pub kept_in : Store → Day → List ℕ → Tally → Kept
kept_in s d area t = record { timed = timed_in s d; area = area; tally = t }

-- an output for a report is empty, where none is wanted, or has room for it
abbrev pub report_too_short : List ℕ → Bool
report_too_short out = not (eqb (length out) 0) && ltb (length out) reports_size

-- what is lent is too short
abbrev pub lent_too_short : Store → List ℕ → List ℕ → Bool
lent_too_short s area out = too_short s || (ltb (length area) area_size || report_too_short out)

-- 15 before anything else
unfoldable pub step_answer : Store → Day → List ℕ → List Window → Tally → List ℕ → Event → Answer
step_answer s d area ws t out e = cond (lent_too_short s area out) NoRoom (kept_answer (kept_in s d area t) ws e)

abbrev pub step_accepted : Store → Day → List ℕ → List Window → Tally → List ℕ → Event → Bool
step_accepted s d area ws t out e = is_done (step_answer s d area ws t out e)

-- the storage after an accepted event is that of module timed
unfoldable pub step_store : Store → Day → List ℕ → List Window → Tally → List ℕ → Event → Store
step_store s d area ws t out e = cond (step_accepted s d area ws t out e) (timed_store s d area ws e) s

-- the output: the report of an accepted close
unfoldable pub step_report : Store → Day → List ℕ → List Window → Tally → List ℕ → Event → List ℕ
step_report s d area ws t out e = cond (step_accepted s d area ws t out e) (put_report s area e out) out

-- what storage, day, area and tally stand for then
unfoldable pub step_kept : Store → Day → List ℕ → List Window → Tally → List ℕ → Event → Kept
step_kept s d area ws t out e = cond (lent_too_short s area out) (kept_in s d area t) (kept_after (kept_in s d area t) ws e)
