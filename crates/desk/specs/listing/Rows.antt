-- The listing (specification, 8 Listing): the head over the refused lines; a refused line with its number; and of each
-- node its number, state, version, flags, request and the K owners, a comma between two. Fields are separated by one
-- space, and byte 10 ends each line. Of a node that is waiting or down the version, flags, request and owners are shown
-- as 0.
-- Assumes nothing.
use Rattle.std.specs.Prelude.{cond, List, [], ◌∷◌, ◌++◌, ℕ, zero, suc, min, ◌+◌, leb, eqb, length, take, get_or, replicate}
use Rattle.lists.specs.Bytes.{written}
use Rattle.text.specs.Ascii.{ascii}
use Rattle.text.specs.Write.{decimal}
use Rattle.allotment.specs.Allotment.{owners_of}
use Rattle.node.specs.Answers.{number, is_done}
use Rattle.node.specs.Answers.{Answer}
use Rattle.site.specs.Members.{nobody, is_live, state_of}
use Rattle.site.specs.Model.{Member}
use Rattle.site.specs.declared.State.{State}
use Rattle.site.specs.declared.State.TheVariants.{Live, Waiting, Down}
use Rattle.machine.specs.Layout.{Store}
use Rattle.machine.specs.Loading.{member_read}

-- the head over the refused lines: at a site that may split it says so, by the figure `split` of the settings (S-14)
abbrev pub first_head : ℕ → List ℕ
first_head split = cond (eqb split 1) (ascii "line refusal split\n") (ascii "line refusal\n")

-- `LINE REFUSAL` and byte 10
abbrev pub report_line : ℕ → ℕ → List ℕ
report_line n x = decimal n ++ (32 ∷ (decimal x ++ (10 ∷ [])))

-- the report of a line, or nothing for an accepted one
unfoldable pub refusal_line : ℕ → Answer → List ℕ
refusal_line n a = cond (is_done a) [] (report_line n (number a))

-- the word of a state
abbrev pub state_text : State → List ℕ
state_text Live = ascii "live"
state_text Waiting = ascii "waiting"
state_text Down = ascii "down"

-- each with a comma before it
unfoldable pub more_owners : List ℕ → List ℕ
more_owners [] = []
more_owners (x ∷ l) = 44 ∷ (decimal x ++ more_owners l)

-- owners with commas between
unfoldable pub owners_text : List ℕ → List ℕ
owners_text [] = []
owners_text (x ∷ l) = decimal x ++ more_owners l

-- a number that only a live node shows
abbrev pub shown : Member → ℕ → ℕ
shown m x = cond (is_live m) x 0

-- the owners of slots 1 to K that a member shows
abbrev pub owners_shown : Member → ℕ → List ℕ
owners_shown m K = cond (is_live m) (take K (owners_of m.node.schedule)) (replicate K 0)

-- a row: number, state, version, flags, request, owners
abbrev pub row_line : ℕ → State → ℕ → ℕ → ℕ → List ℕ → List ℕ
row_line j s v f r o =
    decimal j ++ (32 ∷ (state_text s
    ++ (32 ∷ (decimal v ++ (32 ∷ (decimal f ++ (32 ∷ (decimal r ++ (32 ∷ (owners_text o ++ (10 ∷ [])))))))))))

-- the row of the node of number j
unfoldable pub row_text : ℕ → Member → ℕ → List ℕ
row_text j m K = row_line j (state_of m) (shown m m.node.version) (shown m m.node.flags) (shown m m.node.request) (owners_shown m K)

-- the rows of n nodes behind the first i
unfoldable pub rows_text : ℕ → ℕ → List Member → ℕ → List ℕ
rows_text zero i ms K = []
rows_text (suc n) i ms K = row_text (i + 1) (get_or ms i nobody) K ++ rows_text n (i + 1) ms K

-- what lent output holds, and the next place in it
pub record Page : Type 0 where
  pub bytes : List ℕ
  pub at : ℕ

abbrev pub page : List ℕ → ℕ → Page
page l at = record { bytes = l; at = at }

-- a line put at the next place, if there is room for it
abbrev pub with_line : Page → List ℕ → Page
with_line p b = cond (leb (p.at + length b) (length p.bytes)) (page (written p.bytes p.at b) (p.at + length b)) p

-- the rows of n nodes behind the first i of a site in storage, at most 80 slots of each; with room for all of them that is `rows_text`
-- (`rows-put`, proofs/listing/Rows.antt)
unfoldable pub with_rows : ℕ → ℕ → Store → ℕ → Page → Page
with_rows zero i s K p = p
with_rows (suc n) i s K p = with_rows n (i + 1) s K (with_line p (row_text (i + 1) (member_read s (i + 1)) (min K 80)))
