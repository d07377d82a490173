-- Only the contracts of private functions cite these: no public contract and no theorem does.
-- What a line or several lines of the opening come to, as they were read from a place of the script on.
-- Assumes nothing.
use Rattle.std.specs.Prelude.{◌≡◌, cond, List, ℕ, ◌+◌, ◌≤◌, length, drop, Option, Some, None, Result, Ok, Err}
use Rattle.text.specs.Read.{split}
use Rattle.node.specs.declared.Config.{Config}
use Rattle.site.specs.declared.Row.{Row}
use Rattle.node.specs.declared.Refusal.{Refusal}
use Rattle.node.specs.declared.Refusal.TheVariants.{BadNames}
use Rattle.node.specs.Figures.{config_ok}
use Rattle.script.specs.lines.Lines.{on_line}
use Rattle.script.specs.load.Opening.{Reading, refused, got, names_line, config_of_five, row_in, row_good}
use Rattle.script.specs.declared.RefusedHead.{RefusedHead}

-- a reading x of the script s gives the value v, and the lines behind it start at a place
pub record Gives {A : Type 0} (s : List ℕ) (x : Reading A) (v : A) (at : ℕ) : Type 0 where
  pub is : x ≡ got v (split 10 (drop at s))
  pub within : at ≤ length s

-- a reading x is a refusal, told with the figures f
pub record Stops {A : Type 0} (f : Config) (x : Reading A) (e : RefusedHead) : Type 0 where
  pub is : x ≡ refused e.line e.refusal
  pub config : e.config ≡ f

-- a line of names, of which only the lines behind it are read
abbrev pub name_line : ℕ → List ℕ → List (List ℕ) → Reading (Unit {0})
name_line n names ps = names_line n names tt ps

-- a line as it stands: one that is missing is refused as 1, one without byte 10 as r
abbrev pub any_line : ℕ → Refusal → List (List ℕ) → Reading (List ℕ)
any_line n r ps = on_line (refused n BadNames) (refused n r) (λ l ls. got l ls) ps

-- the figures that numbers are, where they are good
abbrev pub good_config : Option (List ℕ) → Option Config
good_config x = cond (config_ok (config_of_five x)) (Some (config_of_five x)) None

-- the row of the node at index i, where its line is good
abbrev pub found_row : Config → ℕ → Option (List ℕ) → Option Row
found_row f i x = cond (row_good f i x) (Some (row_in x)) None
