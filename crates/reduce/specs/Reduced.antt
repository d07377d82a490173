-- A script with no idle event (specification, 8.2): some of its event lines, unchanged and in order, that still give a
-- refusal number and stop giving it if any single one of them is left out. (In delta debugging: 1-minimal.)
-- Assumes nothing.
use Rattle.std.specs.Prelude.{◌≡◌, Bool, true, false, ◌&&◌, ◌||◌, ◌⊎◌, List, [], ◌∷◌, ◌++◌, ℕ, zero, suc, ◌<◌, eqb, ltb, length}
use Rattle.node.specs.Answers.{number}
use Rattle.node.specs.Answers.{Answer}
use Rattle.machine.specs.timed.Calls.{TimedState}
use Rattle.script.specs.events.Events.{event_of}
use Rattle.site.specs.declared.Event.{Event}
use Rattle.std.specs.Prelude.{Option, None}
use Rattle.desk.specs.listings.Output.{line_answer, line_after}

-- a line: its bytes, with the byte 10 that ends it, and what it says as an event; without that byte it is malformed
pub record TextLine : Type 0 where
  pub text : List ℕ
  pub says : Option Event

abbrev pub ended : List ℕ → TextLine
ended l = record { text = l ++ (10 ∷ []); says = event_of l }

abbrev pub unended : List ℕ → TextLine
unended l = record { text = l; says = None }

-- behind the last byte 10: nothing, or a line without it
abbrev pub last_line : List ℕ → List TextLine
last_line [] = []
last_line (b ∷ l) = unended (b ∷ l) ∷ []

-- the lines of the pieces between bytes 10
unfoldable pub lines_in : List (List ℕ) → List TextLine
lines_in [] = []
lines_in (l ∷ []) = last_line l
lines_in (l ∷ m ∷ ls) = ended l ∷ lines_in (m ∷ ls)

-- lines one behind another, as bytes
unfoldable pub joined_lines : List TextLine → List ℕ
joined_lines [] = []
joined_lines (l ∷ ls) = l.text ++ joined_lines ls

-- an answer is the refusal of that number; 0 is none
abbrev pub is_refusal : ℕ → Answer → Bool
is_refusal a x = ltb 0 a && eqb (number x) a

-- whether event lines, run from a state with no windows, give a refusal number
unfoldable pub gives : ℕ → TimedState → List TextLine → Bool
gives a w [] = false
gives a w (l ∷ ls) = is_refusal a (line_answer [] w l.says) || gives a (line_after [] w l.says) ls

-- ks is ls with some lines left out: the others are unchanged and in order
abbrev pub LeftOut : List TextLine → List TextLine → Type 0
LeftOut [] ls = Unit {0}
LeftOut (k ∷ ks) [] = ⊥
LeftOut (k ∷ ks) (l ∷ ls) = ((k ≡ l) × LeftOut ks ls) ⊎ LeftOut (k ∷ ks) ls

-- lines without the one at index i
unfoldable pub without : ℕ → List TextLine → List TextLine
without i [] = []
without zero (l ∷ ls) = ls
without (suc i) (l ∷ ls) = l ∷ without i ls

-- ks is what is kept of the event lines ls for the number a: it is given, and no longer if any single line is left out
pub record Reduced (a : ℕ) (w : TimedState) (ls ks : List TextLine) : Type 0 where
  pub kept : LeftOut ks ls
  pub given : gives a w ks ≡ true
  pub lean : (i : ℕ) → i < length ks → gives a w (without i ks) ≡ false
