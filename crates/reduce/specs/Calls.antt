-- The calls that reduce a script (specification, 8.2): what they answer, and what lent output holds then. The run has a day of one epoch,
-- no windows, and an area of zeros.
-- Refused as 15, whatever the number: a script above the limit, and an output that could not hold the script. As 18: the whole script does
-- not give the number.
-- Assumes nothing.
use Rattle.std.specs.Prelude.{◌≡◌, Bool, cond, ◌||◌, List, [], ◌++◌, ℕ, ◌≤◌, ltb, length, take, drop, replicate, Result, Ok, Err}
use Rattle.text.specs.Read.{split}
use Rattle.node.specs.Answers.{Answer}
use Rattle.node.specs.Answers.{Done, NoRoom, NotGiven}
use Rattle.node.specs.declared.Refusal.{Refusal}
use Rattle.site.specs.Answers.{area_size}
use Rattle.machine.specs.timed.Calls.{TimedState}
use Rattle.script.specs.load.Opening.{Reading, refused, got, Opening, opening, lines_start}
use Rattle.desk.specs.listings.Output.{top_script, loaded_state}
use Rattle.reduce.specs.Reduced.{lines_in, joined_lines, TextLine, is_refusal, gives, Reduced}

-- the state in which the events begin
abbrev pub start_state : Opening → TimedState
start_state o = loaded_state 1 [] o (replicate area_size 0)

-- whether a script gives the number: by a line before the events, which is then its last, or by an event line
abbrev pub gives_in : ℕ → Reading Opening → Bool
gives_in a (refused n x) = is_refusal a (Err x)
gives_in a (got o ls) = gives a (start_state o) (lines_in ls)

-- what is kept of a script that opens, as bytes: its settings, table and names, and the event lines of a reduction
pub record KeptOf (a : ℕ) (s : List ℕ) (o : Opening) (ls : List (List ℕ)) (text : List ℕ) : Type 0 where
  pub lines : List TextLine
  pub reduced : Reduced a (start_state o) (lines_in ls) lines
  pub is : text ≡ take (lines_start s ls) s ++ joined_lines lines

-- what is kept of a script: where line n before the events is refused, the lines up to and with it, and all where it is missing
abbrev pub Keeps : ℕ → List ℕ → List ℕ → Reading Opening → Type 0
Keeps a s text (refused n x) = text ≡ joined_lines (take n (lines_in (split 10 s)))
Keeps a s text (got o ls) = KeptOf a s o ls text

-- a script above the limit, or an output that could not hold it
abbrev pub unfit_script : List ℕ → List ℕ → Bool
unfit_script s out = ltb top_script (length s) || ltb (length out) (length s)

-- the answer
unfoldable pub reply_to : ℕ → List ℕ → List ℕ → Answer
reply_to a s out = cond (unfit_script s out) NoRoom (cond (gives_in a (opening (split 10 s))) Done NotGiven)

-- an answer without the length of what was written, and the length; after a refusal it is 0
abbrev pub reply_of : Result ℕ Refusal → Answer
reply_of (Ok n) = Done
reply_of (Err x) = Err x

abbrev pub length_of : Result ℕ Refusal → ℕ
length_of (Ok n) = n
length_of (Err x) = 0

-- an answer with the length of what was written: what that is, and that every byte behind it is as it was. After a refusal no byte is
-- changed.
pub record Answers (a : ℕ) (s out : List ℕ) (r : Result ℕ Refusal) (after : List ℕ) : Type 0 where
  pub reply : reply_of r ≡ reply_to a s out
  pub script : reply_of r ≡ Done → Keeps a s (take (length_of r) after) (opening (split 10 s))
  pub within : length_of r ≤ length s
  pub behind : drop (length_of r) after ≡ drop (length_of r) out

-- the call for C: the answer, and the number that the length is written to, which was n and stays after a refusal
pub record Returns (a : ℕ) (s out : List ℕ) (n : ℕ) (x : Answer) (after : List ℕ) (m : ℕ) : Type 0 where
  pub answer : x ≡ reply_to a s out
  pub done : x ≡ Done → Answers a s out (Ok m) after
  pub refused : (x ≡ Done → ⊥) → (after ≡ out) × (m ≡ n)
