-- Only the contracts of private functions cite these: no public contract and no theorem does.
-- Lines with their places, the marks of those that are kept, and what a scan of them comes to.
-- Assumes nothing.
use Rattle.std.specs.Prelude.{◌≡◌, Bool, true, false, not, cond, ◌&&◌, ◌||◌, Option, None, List, [], ◌∷◌, ◌++◌, ℕ, zero, suc, ◌+◌, ◌-◌, ◌≤◌, ◌<◌}
use Rattle.std.specs.Prelude.{eqb, ltb, leb, length, get_or, take, drop, replicate}
use Rattle.machine.specs.Layout.{store}
use Rattle.machine.specs.timed.Stored.{timed_in}
use Rattle.machine.specs.timed.Calls.{TimedState}
use Rattle.text.specs.Read.{split}
use Rattle.script.specs.events.Events.{event_of}
use Rattle.script.specs.load.Opening.{Reading, refused, got, Opening, opening, lines_start}
use Rattle.script.specs.declared.Opened.{Opened}
use Rattle.script.specs.declared.RefusedHead.{RefusedHead}
use Rattle.site.specs.declared.Event.{Event}
use Rattle.desk.specs.listings.Output.{line_answer, line_after}
use Rattle.reduce.specs.Reduced.{TextLine, ended, unended, is_refusal, gives}
use Rattle.reduce.specs.Calls.{start_state, unfit_script}
use Rattle.reduce.specs.declared.Run.{Run}

-- a line, and the place of the script where it starts
pub record Placed : Type 0 where
  pub at : ℕ
  pub line : TextLine

abbrev pub last_placed : ℕ → List ℕ → List Placed
last_placed at [] = []
last_placed at (b ∷ l) = record { at = at; line = unended (b ∷ l) } ∷ []

-- the lines of the pieces that start at a place
unfoldable pub placed_lines : ℕ → List (List ℕ) → List Placed
placed_lines at [] = []
placed_lines at (l ∷ []) = last_placed at l
placed_lines at (l ∷ m ∷ ls) = record { at = at; line = ended l } ∷ placed_lines (at + length l + 1) (m ∷ ls)

-- a line in front, if it is kept
abbrev pub in_front : Bool → TextLine → List TextLine → List TextLine
in_front t l ls = cond t (l ∷ ls) ls

-- the lines whose places are kept
unfoldable pub keep : (ℕ → Bool) → List Placed → List TextLine
keep p [] = []
keep p (x ∷ xs) = in_front (p x.at) x.line (keep p xs)

-- the bytes from a place up to the next line, and what a line says as an event, if byte 10 ends it
abbrev pub line_text : List ℕ → ℕ → ℕ → List ℕ
line_text s at next = take (next - at) (drop at s)

abbrev pub says_of : List ℕ → Option Event
says_of l = cond (eqb (get_or l (length l - 1) 0) 10) (event_of (take (length l - 1) l)) None

abbrev pub line_of : List ℕ → TextLine
line_of l = record { text = l; says = says_of l }

-- a line starts at a place, and the line behind it at the next one
pub record NextLine (s : List ℕ) (at next : ℕ) : Type 0 where
  pub onward : at < next
  pub within : next ≤ length s
  pub line : placed_lines at (split 10 (drop at s))
      ≡ record { at = at; line = line_of (line_text s at next) } ∷ placed_lines next (split 10 (drop next s))

-- a place is kept if it is marked, and not from lo on and below hi where these are left out
abbrev pub kept : List Bool → ℕ → Bool
kept ms i = get_or ms i false

abbrev pub kept_but : List Bool → ℕ → ℕ → ℕ → Bool
kept_but ms lo hi i = not (leb lo i && ltb i hi) && kept ms i

-- the kept lines from a place of a script on
abbrev pub kept_from : List ℕ → List Bool → ℕ → List TextLine
kept_from s ms at = keep (kept ms) (placed_lines at (split 10 (drop at s)))

-- a run with nothing in it, whose first line starts at a place
abbrev pub blank : ℕ → Run
blank at = record {
  at = at;
  words = replicate 262 0;
  bytes = replicate 24769 0;
  area = replicate 11520 0;
  day = record { length = 1; epoch = 0 };
}

-- the state of a run
abbrev pub state_of : Run → TimedState
state_of r = record { timed = timed_in (store r.words r.bytes) r.day; area = r.area }

-- the state after a line that may be left out
abbrev pub line_run : Bool → TimedState → Option Event → TimedState
line_run t w p = cond t (line_after [] w p) w

-- whether a line that may be left out gives the number
abbrev pub line_gives : Bool → ℕ → TimedState → Option Event → Bool
line_gives t a w p = t && is_refusal a (line_answer [] w p)

-- whether the kept lines from a place on give the number
abbrev pub gives_from : ℕ → List ℕ → List Bool → ℕ → TimedState → Bool
gives_from a s ms at w = gives a w (kept_from s ms at)

-- the same without the marks of a range
abbrev pub gives_but : ℕ → List ℕ → List Bool → ℕ → ℕ → ℕ → TimedState → Bool
gives_but a s ms lo hi at w = gives a w (keep (kept_but ms lo hi) (placed_lines at (split 10 (drop at s))))

-- settings and table that were read, and the event lines behind them
abbrev pub opening_of : Opened → Opening
opening_of o = record { config = o.config; table = o.table }

abbrev pub lines_of : List ℕ → Opened → List (List ℕ)
lines_of s o = split 10 (drop o.at s)

-- whether the kept event lines give the number
abbrev pub given : ℕ → List ℕ → List Bool → Opened → Bool
given a s ms o = gives_from a s ms o.at (start_state (opening_of o))

-- the same marks before a place
abbrev pub SameTo : ℕ → List Bool → List Bool → Type 0
SameTo at ms ns = (i : ℕ) → i < at → kept ns i ≡ kept ms i

-- the kept lines from one place up to another were run: whether the last of them gave the number, and the state v behind them.
-- Marks from the second place on have no part in it.
pub record Passed (a : ℕ) (s : List ℕ) (ms : List Bool) (from : ℕ) (w : TimedState) (gave : Bool) (at : ℕ) (v : TimedState) : Type 0 where
  pub onward : from ≤ at
  pub within : at ≤ length s
  pub same : (ns : List Bool) → SameTo at ms ns → gives_from a s ns from w ≡ (gave || gives_from a s ns at v)

-- a trial from a place on: the number is given if it was, and the marks before the place stay
pub record Spared (a : ℕ) (s : List ℕ) (ms : List Bool) (at : ℕ) (w : TimedState) (ns : List Bool) : Type 0 where
  pub given : gives_from a s ms at w ≡ true → gives_from a s ns at w ≡ true
  pub before : SameTo at ms ns

-- marks without those from lo on and below hi
abbrev pub cleared : List Bool → ℕ → ℕ → List Bool
cleared ms lo hi = take lo ms ++ replicate (hi - lo) false ++ drop hi ms

-- how many of the first n places are marked
unfoldable pub marked_count : ℕ → List Bool → ℕ
marked_count zero ms = 0
marked_count (suc n) ms = marked_count n ms + cond (kept ms n) 1 0

-- no single marked place of the script before a place can be cleared
abbrev pub Lean : ℕ → List ℕ → Opened → List Bool → ℕ → Type 0
Lean a s o ms to = (q : ℕ) → o.at ≤ q → q < to → kept ms q ≡ true → given a s (cleared ms q (q + 1)) o ≡ false

-- a scan of single lines: the number is still given; where none was cleared, none can be; and else there are fewer
pub record Scanned (a : ℕ) (s : List ℕ) (o : Opened) (before after : List Bool) (cut : Bool) : Type 0 where
  pub still : given a s after o ≡ true
  pub lean : cut ≡ false → Lean a s o after (length s)
  pub fewer : cut ≡ true → marked_count (length s) after < marked_count (length s) before

-- reduced marks
pub record Settled (a : ℕ) (s : List ℕ) (o : Opened) (after : List Bool) : Type 0 where
  pub still : given a s after o ≡ true
  pub lean : Lean a s o after (length s)

-- a script that opens, with output long enough
pub record Ready (s : List ℕ) (o : Opened) (out : List ℕ) : Type 0 where
  pub fits : unfit_script s out ≡ false
  pub opens : opening (split 10 s) ≡ got (opening_of o) (lines_of s o)
  pub is : o.at ≡ lines_start s (lines_of s o)
  pub from : o.at ≤ length s

-- a script of which a line before the events is refused, with output long enough
pub record Stopped (s : List ℕ) (e : RefusedHead) (out : List ℕ) : Type 0 where
  pub fits : unfit_script s out ≡ false
  pub stops : opening (split 10 s) ≡ refused e.line e.refusal
