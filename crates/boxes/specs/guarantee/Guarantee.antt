-- The last link from the exported function that runs a script to demand 3. The contracts of `desk::replay` and `desk::hydra_replay` say
-- that the output is `output_of D ws script area`. For every script whose lines before the events are accepted, with a day and windows that
-- are, the rows printed there are those of the site that the script's list of events comes to, each end lent the windows, and demand 3
-- holds of that list where the settings have `split` 0; the first head tells a site that may split, which has what two complete nodes know
-- (crates/consensus). Nothing else is asked but what is not refused: a fitting area and length, an accepted table, and a list of windows
-- that keeps the rules.
-- Assumes nothing.
use Rattle.std.specs.Prelude.{◌≡◌, true, false, List, [], ◌++◌, ℕ, ◌+◌}
use Rattle.text.specs.Read.{split}
use Rattle.script.specs.load.Opening.{Reading, got, Opening, opening}
use Rattle.desk.specs.listing.Rows.{first_head, rows_text}
use Rattle.windows.specs.declared.Window.{Window}
use Rattle.agreement.specs.Demand.{Demand3, final}
use Rattle.consensus.specs.Consensus.{Completes}
use Rattle.agreement.specs.daily.Daily.{final_by, DailyDemand3}
use Rattle.desk.specs.listings.Output.{second_head, events_in, calls_of, refused_lines, loaded_state, day_fits, unfit, output_of}

-- what holds of a script with the settings and table o and the event lines ls, run with a day of D epochs and the windows ws
pub record Guaranteed (D : ℕ) (ws : List Window) (script area : List ℕ) (o : Opening) (ls : List (List ℕ)) : Type 0 where
  -- the refused lines, and the rows of the site after the list of events
  pub printed : output_of D ws script area
      ≡ first_head o.config.split ++ (refused_lines ws (loaded_state D ws o area) (5 + o.config.nodes) ls
      ++ (second_head ++ rows_text o.config.nodes 0 (final_by o.config o.table D ws area (calls_of ws (events_in ls))).members
      o.config.slots))
  -- and of that list demand 3, where the site may not split
  pub demand3 : o.config.split ≡ 0 → DailyDemand3 o.config o.table D ws area (calls_of ws (events_in ls))

-- and of a script run with no windows, as the program does: the rows are those of the plain list of its events, and demand 3 holds of that
-- list where the site may not split; of every site, what two nodes know that are complete at one close, after that list or any other
pub record Plainly (script area : List ℕ) (o : Opening) (ls : List (List ℕ)) : Type 0 where
  pub printed : output_of 1 [] script area
      ≡ first_head o.config.split ++ (refused_lines [] (loaded_state 1 [] o area) (5 + o.config.nodes) ls
      ++ (second_head ++ rows_text o.config.nodes 0 (final o.config o.table area (events_in ls)).members o.config.slots))
  pub demand3 : o.config.split ≡ 0 → Demand3 o.config o.table area (events_in ls)
  pub completes : Completes o.config o.table area

-- every script whose opening is accepted, with windows that are, and every one without windows
pub record Guarantee : Type 0 where
  pub keeps : (D : ℕ) (ws : List Window) (script area : List ℕ) (o : Opening) (ls : List (List ℕ)) → unfit script area ≡ false
      → opening (split 10 script) ≡ got o ls → day_fits D ws o ≡ true → Guaranteed D ws script area o ls
  pub plainly : (script area : List ℕ) (o : Opening) (ls : List (List ℕ)) → unfit script area ≡ false
      → opening (split 10 script) ≡ got o ls → Plainly script area o ls
