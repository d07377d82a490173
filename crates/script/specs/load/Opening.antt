-- The lines before the events (specification, 7 Script): names over values in the same order; settings, table, and the names of the events.
-- Refused as 1: a names line that is wrong, or a missing line. As 2: a value line that is malformed or out of range, or without byte 10.
-- The pieces between bytes 10 are the lines; behind the last byte 10 stands nothing, or a line without it.
-- Assumes nothing.
use Rattle.std.specs.Prelude.{Bool, false, cond, ◌&&◌, List, [], ◌∷◌, ℕ, zero, suc, ◌+◌, ◌-◌, eqb, leb, length, drop, set, replicate}
use Rattle.std.specs.Prelude.{Option, Some, Result, Ok, Err}
use Rattle.lists.specs.All.{same}
use Rattle.allotment.specs.Allotment.{top_request}
use Rattle.text.specs.Ascii.{ascii}
use Rattle.text.specs.Read.{split}
use Rattle.script.specs.lines.Lines.{on_line}
use Rattle.script.specs.lines.Fields.{numbers_of}
use Rattle.node.specs.declared.Refusal.{Refusal}
use Rattle.node.specs.declared.Refusal.TheVariants.{BadNames, OutOfRange}
use Rattle.node.specs.Figures.{config_ok, no_config}
use Rattle.site.specs.Load.{row_ok, no_row}
use Rattle.node.specs.declared.Config.{Config}
use Rattle.site.specs.declared.Row.{Row}
use Rattle.site.specs.declared.Table.{Table}
use Rattle.script.specs.declared.Opened.{Opened}
use Rattle.script.specs.declared.RefusedHead.{RefusedHead}

-- the names of the settings
abbrev pub settings_names : List ℕ
settings_names = ascii "nodes slots rounds heard split"

-- the names of the table
abbrev pub table_names : List ℕ
table_names = ascii "node version flags want"

-- the names of the events
abbrev pub event_names : List ℕ
event_names = ascii "event node with"

-- what a part of the lines comes to: a refusal with the number of its line, or a value and the lines behind it
pub data Reading (A : Type 0) : Type 0 where
  refused : ℕ → Refusal → Reading A
  got : A → List (List ℕ) → Reading A

-- a line of names, of which the line number is given: the lines behind it
unfoldable pub names_line : {A : Type 0} → ℕ → List ℕ → A → List (List ℕ) → Reading A
names_line n names x ps = on_line (refused n BadNames) (refused n BadNames) (λ l ls. cond (same l names) (got x ls) (refused n BadNames)) ps

-- five numbers as figures
abbrev pub config_of_five : Option (List ℕ) → Config
config_of_five (Some (n ∷ k ∷ f ∷ h ∷ s ∷ [])) = record { nodes = n; slots = k; rounds = f; min_heard = h; split = s }
config_of_five _ = no_config

-- the line of settings
unfoldable pub settings_line : ℕ → List (List ℕ) → Reading Config
settings_line n ps =
    on_line (refused n BadNames) (refused n OutOfRange)
    (λ l ls. cond (config_ok (config_of_five (numbers_of 5 (split 32 l)))) (got (config_of_five (numbers_of 5 (split 32 l))) ls) (refused n OutOfRange)) ps

-- four numbers as a row
abbrev pub row_in : Option (List ℕ) → Row
row_in (Some (j ∷ v ∷ m ∷ d ∷ [])) = record { version = v; flags = m; want = d }
row_in _ = no_row

-- a row is good at index i if its node is the number i + 1, and its values are within their ranges
abbrev pub row_good : Config → ℕ → Option (List ℕ) → Bool
row_good f i (Some (j ∷ v ∷ m ∷ d ∷ [])) =
    eqb j (i + 1) && (leb d top_request && row_ok f i (record { version = v; flags = m; want = d }))
row_good f i _ = false

abbrev pub row_stored : Table → ℕ → Row → Table
row_stored t i r = record { rows = set t.rows i r }

abbrev pub empty_table : Table
empty_table = record { rows = replicate 32 no_row }

-- the rows of the table: `left` of them are to come, and i have been; the next has the line number n
unfoldable pub table_lines : Config → ℕ → ℕ → ℕ → Table → List (List ℕ) → Reading Table
table_lines f zero i n t ls = got t ls
table_lines f (suc left) i n t ps =
    on_line (refused n BadNames) (refused n OutOfRange)
    (λ l ls. cond (row_good f i (numbers_of 4 (split 32 l))) (table_lines f left (i + 1) (n + 1) (row_stored t i (row_in (numbers_of 4 (split 32 l)))) ls)
    (refused n OutOfRange)) ps

-- settings and table
pub record Opening : Type 0 where
  pub config : Config
  pub table : Table

-- one reading after another
abbrev pub then : {A B : Type 0} → Reading A → (A → List (List ℕ) → Reading B) → Reading B
then (refused n a) k = refused n a
then (got x ls) k = k x ls

-- settings, table, and the names of the events; behind them stand the event lines, the first of which has the number 5 + N
unfoldable pub opening : List (List ℕ) → Reading Opening
opening ls =
    then (names_line 1 settings_names tt ls) (λ (u : Unit {0}) a.
    then (settings_line 2 a) (λ f b.
    then (names_line 3 table_names tt b) (λ (v : Unit {0}) c.
    then (table_lines f f.nodes 0 4 empty_table c) (λ t d.
    names_line (4 + f.nodes) event_names (record { config = f; table = t }) d))))

-- the figures of a reading; where it is a refusal there are none
abbrev pub config_of : Reading Config → Config
config_of (refused n a) = no_config
config_of (got f ls) = f

-- the figures read: those of the settings, where their two lines are accepted, whatever the lines behind them are
unfoldable pub config_read : List (List ℕ) → Config
config_read ls = config_of (then (names_line 1 settings_names tt ls) (λ (u : Unit {0}) a. settings_line 2 a))

-- how many bytes the lines take, with a byte 10 between each two
unfoldable pub bytes_in : List (List ℕ) → ℕ
bytes_in [] = 0
bytes_in (l ∷ []) = length l
bytes_in (l ∷ m ∷ ls) = length l + suc (bytes_in (m ∷ ls))

-- the place of a script where the lines start that stand at its end: they determine it
abbrev pub lines_start : List ℕ → List (List ℕ) → ℕ
lines_start s ls = length s - bytes_in ls

-- a script whose opening was read, and figures f of it: a refusal of its line with the figures; otherwise the settings, the table and the
-- place of the event lines
abbrev pub script_head_of : List ℕ → Config → Reading Opening → Result Opened RefusedHead
script_head_of s f (refused n r) = Err (record { refusal = r; line = n; config = f })
script_head_of s f (got o ls) = Ok (record { at = lines_start s ls; config = o.config; table = o.table })

-- what was opened read back: settings, table and the lines from its place on, or the refusal of a line
abbrev pub read_back : List ℕ → Result Opened RefusedHead → Reading Opening
read_back s (Ok o) = got (record { config = o.config; table = o.table }) (split 10 (drop o.at s))
read_back s (Err e) = refused e.line e.refusal
