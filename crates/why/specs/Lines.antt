-- What is counted in a listing is the number of refused lines of the script (specification, 7 Script and 8 Listing).
-- Assumes nothing.
use Rattle.std.specs.Prelude.{◌≡◌, false, cond, List, [], ◌∷◌, ℕ, ◌+◌}
use Rattle.text.specs.Read.{split}
use Rattle.node.specs.Answers.{is_done}
use Rattle.node.specs.Answers.{Answer}
use Rattle.machine.specs.timed.Calls.{TimedState}
use Rattle.script.specs.events.Events.{event_of}
use Rattle.script.specs.load.Opening.{Opening, opening, got}
use Rattle.desk.specs.listings.Output.{line_answer, line_after, loaded_state, unfit, output_of}
use Rattle.why.specs.Refused.{refused_in}

-- 1 for a refusal
abbrev pub refusal : Answer → ℕ
refusal a = cond (is_done a) 0 1

-- behind the last byte 10: nothing, or a line without it, which is refused
abbrev pub last_refusal : List ℕ → ℕ
last_refusal [] = 0
last_refusal (b ∷ l) = 1

-- how many of the event lines are refused, run from a state without windows
unfoldable pub refusals : TimedState → List (List ℕ) → ℕ
refusals w [] = 0
refusals w (l ∷ []) = last_refusal l
refusals w (l ∷ m ∷ ls) = refusal (line_answer [] w (event_of l)) + refusals (line_after [] w (event_of l)) (m ∷ ls)

-- of a script that is run, with a day of 1 and no windows, the number in its listing is that of its refused event lines
pub record LinesCounted : Type 0 where
  pub run :
      (script area : List ℕ) (o : Opening) (ls : List (List ℕ)) → unfit script area ≡ false → opening (split 10 script) ≡ got o ls →
      refused_in (output_of 1 [] script area) ≡ refusals (loaded_state 1 [] o area) ls
