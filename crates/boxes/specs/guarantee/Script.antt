-- The guarantee speaks of real scripts: the specification's whole case as bytes (7 Script), what it opens with, the list of its events, and
-- its listing as bytes (8 Listing).
-- Assumes nothing.
use Rattle.std.specs.Prelude.{◌≡◌, false, List, [], ◌∷◌, ◌++◌, ℕ, replicate}
use Rattle.text.specs.Ascii.{ascii}
use Rattle.text.specs.Read.{split}
use Rattle.site.specs.Answers.{area_size}
use Rattle.site.specs.Load.{no_row}
use Rattle.site.specs.declared.Row.{Row}
use Rattle.site.specs.declared.Event.{Event}
use Rattle.site.specs.declared.Event.TheVariants.{Send, Hear, Close, Take, End}
use Rattle.script.specs.load.Opening.{got, Opening, opening}
use Rattle.desk.specs.listings.Output.{events_in, unfit, output_of}

abbrev pub case_script : List ℕ
case_script =
    ascii "nodes slots rounds heard split\n3 4 1 1 0\nnode version flags want\n1 1 7 2\n2 1 7 2\n3 1 7 2\nevent node with\n"
    ++ ascii "send 2 0\nsend 3 0\nhear 1 1\nhear 1 2\nclose 0 0\ntake 3 2\ntake 2 1\nend 0 0\n"

abbrev pub case_listing : List ℕ
case_listing =
    ascii "line refusal\n13 10\nnode state version flags request slots\n1 live 2 7 2 1,2,3,1\n2 live 2 2 2 1,2,3,1\n3 live 0 4 2 0,0,0,0\n"

-- a packet area of zeros
abbrev pub zeros : List ℕ
zeros = replicate area_size 0

-- the settings and the table
abbrev pub case_opening : Opening
case_opening =
    let r : Row = record { version = 1; flags = 7; want = 2 } in
    record {
      config = record { nodes = 3; slots = 4; rounds = 1; min_heard = 1; split = 0 };
      table = record { rows = r ∷ r ∷ r ∷ replicate 29 no_row };
    }

-- the event lines, and nothing behind the last byte 10
abbrev pub case_lines : List (List ℕ)
case_lines =
    ascii "send 2 0" ∷ ascii "send 3 0" ∷ ascii "hear 1 1" ∷ ascii "hear 1 2" ∷ ascii "close 0 0" ∷ ascii "take 3 2"
    ∷ ascii "take 2 1" ∷ ascii "end 0 0" ∷ [] ∷ []

-- computed in proofs/guarantee/Script.antt
pub record RealScript : Type 0 where
  pub fits : unfit case_script zeros ≡ false
  pub opens : opening (split 10 case_script) ≡ got case_opening case_lines
  pub events : events_in case_lines ≡ Send 2 ∷ Send 3 ∷ Hear 1 1 ∷ Hear 1 2 ∷ Close ∷ Take 3 2 ∷ Take 2 1 ∷ End ∷ []
  pub prints : output_of 1 [] case_script zeros ≡ case_listing
