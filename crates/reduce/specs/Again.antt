-- What a reduction is good for (specification, 8.2): what was written is again a script that gives the number, and no longer without any
-- one of its events; and a number is given exactly where a listing has a line with it.
-- Assumes nothing.
use Rattle.std.specs.Prelude.{◌≡◌, Bool, true, false, ◌||◌, List, [], ◌∷◌, ◌++◌, ◌⊎◌, ℕ, ◌<◌, length, take, replicate}
use Rattle.text.specs.Read.{split}
use Rattle.node.specs.Answers.{Answer}
use Rattle.site.specs.Answers.{area_size}
use Rattle.script.specs.load.Opening.{Reading, refused, got, Opening, opening, config_read, lines_start}
use Rattle.desk.specs.listing.Rows.{first_head, refusal_line}
use Rattle.desk.specs.listings.Output.{second_head, output_of}
use Rattle.reduce.specs.Reduced.{TextLine, lines_in, joined_lines, is_refusal, without}
use Rattle.reduce.specs.Calls.{gives_in}

-- a line of a script, and the answer to it
pub record Answered : Type 0 where
  pub line : ℕ
  pub answer : Answer

-- what a listing tells of lines: a line with number and refusal for each that is refused, and nothing of the others
unfoldable pub listing_lines : List Answered → List ℕ
listing_lines [] = []
listing_lines (r ∷ rs) = refusal_line r.line r.answer ++ listing_lines rs

-- whether one of them is refused with the number
unfoldable pub tells : ℕ → List Answered → Bool
tells a [] = false
tells a (r ∷ rs) = is_refusal a r.answer || tells a rs

-- what the listing of a script tells of its lines, and that it tells exactly the numbers that the script gives; behind it stands nothing,
-- or the second head
pub record TellsRefusals (script : List ℕ) : Type 0 where
  pub lines : List Answered
  pub rest : List ℕ
  pub listing : output_of 1 [] script (replicate area_size 0) ≡ first_head (config_read (split 10 script)).split
      ++ (listing_lines lines ++ rest)
  pub rows : List ℕ
  pub behind : (rest ≡ []) ⊎ (rest ≡ second_head ++ rows)
  pub given : (a : ℕ) → gives_in a (opening (split 10 script)) ≡ tells a lines

-- the event lines of a script; one that is refused before them has none
abbrev pub event_lines : Reading Opening → List TextLine
event_lines (refused n x) = []
event_lines (got o ls) = lines_in ls

-- a script without its event line at index i, as bytes: what stands before its events as it is, and then the other lines
abbrev pub without_event : ℕ → List ℕ → Reading Opening → List ℕ
without_event i s (refused n x) = s
without_event i s (got o ls) = take (lines_start s ls) s ++ joined_lines (without i (lines_in ls))

-- a script, read from its bytes, gives the number, and its listing tells it; and the script without any one of its event lines, read from
-- its bytes, does not give it
pub record GivesAgain (a : ℕ) (script : List ℕ) : Type 0 where
  pub given : gives_in a (opening (split 10 script)) ≡ true
  pub lean : (i : ℕ) → i < length (event_lines (opening (split 10 script)))
      → gives_in a (opening (split 10 (without_event i script (opening (split 10 script))))) ≡ false
  pub listing : TellsRefusals script
