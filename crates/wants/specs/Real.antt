-- The statement on scripts speaks of real ones: the example's events as bytes (specification, 7 Script), run with the example's
-- windows, and the reasons of both nodes as bytes (8.1 The reasons).
-- Assumes nothing.
use Rattle.std.specs.Prelude.{◌≡◌, true, false, List, [], ◌∷◌, ◌++◌, ℕ, replicate}
use Rattle.text.specs.Ascii.{ascii}
use Rattle.text.specs.Read.{split}
use Rattle.site.specs.Load.{no_row}
use Rattle.site.specs.declared.Row.{Row}
use Rattle.script.specs.load.Opening.{got, Opening, opening}
use Rattle.desk.specs.listings.Output.{day_fits, unfit}
use Rattle.desk.specs.listings.Why.{why_of}
use Rattle.wants.specs.Example.{area, pair, example_windows}

abbrev pub pair_script : List ℕ
pair_script =
    ascii "nodes slots rounds heard split\n2 2 1 1 0\nnode version flags want\n1 1 3 1\n2 1 3 1\nevent node with\n"
    ++ ascii "send 2 0\nhear 1 1\nclose 0 0\n"

-- the settings and the table
abbrev pub pair_opening : Opening
pair_opening =
    let r : Row = record { version = 1; flags = 3; want = 1 } in
    record { config = pair; table = record { rows = r ∷ r ∷ replicate 30 no_row } }

-- the event lines, and nothing behind the last byte 10
abbrev pub pair_lines : List (List ℕ)
pair_lines = ascii "send 2 0" ∷ ascii "hear 1 1" ∷ ascii "close 0 0" ∷ [] ∷ []

-- computed in proofs/Real.antt
pub record RealScript : Type 0 where
  pub fits : unfit pair_script area ≡ false
  pub opens : opening (split 10 pair_script) ≡ got pair_opening pair_lines
  pub day : day_fits 2 example_windows pair_opening ≡ true
  pub no-windows : day_fits 1 [] pair_opening ≡ true
  -- what is printed with windows, and without them
  pub first : why_of 1 2 example_windows pair_script area ≡ ascii "9 1 sent 0\n"
  pub second : why_of 2 2 example_windows pair_script area ≡ ascii "9 2 missing 1\n"
  pub plain-first : why_of 1 1 [] pair_script area ≡ ascii "9 1 sent 0\n"
  pub plain_second : why_of 2 1 [] pair_script area ≡ ascii "9 2 missing 1\n"
