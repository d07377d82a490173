-- A site in storage (crates/machine) with its day: the answers to a load and to an event, and what the storage, the day and the site that
-- it stands for are then.
-- Assumes nothing.
use Rattle.std.specs.Prelude.{Bool, Result, cond, List, ℕ, ◌+◌, eqb, length}
use Rattle.lists.specs.All.{iter}
use Rattle.node.specs.Answers.{Answer, NoRoom, is_done, answered}
use Rattle.node.specs.declared.Config.{Config}
use Rattle.site.specs.declared.Table.{Table}
use Rattle.site.specs.Model.{Site}
use Rattle.site.specs.declared.Event.{Event}
use Rattle.site.specs.declared.Event.TheVariants.{Want}
use Rattle.windows.specs.Windows.{due_at}
use Rattle.windows.specs.declared.Window.{Window}
use Rattle.machine.specs.Layout.{Store, too_short, site_in}
use Rattle.machine.specs.Written.{nodes_in}
use Rattle.machine.specs.steps.After.{store_after}
use Rattle.machine.specs.Loading.{member_read, loaded_store}
use Rattle.machine.specs.timed.Timed.{Timed, first_epoch, epoch_after, given_table, timed_load_answer, loaded_timed, begins_epoch}
use Rattle.machine.specs.timed.Timed.{answer_by, timed_answer, next_day, timed_after}
use Rattle.machine.specs.declared.Day.{Day}
use Rattle.node.specs.declared.Refusal.{Refusal}

-- the site with its day that storage stands for
abbrev pub timed_in : Store → Day → Timed
timed_in s d = record { site = site_in s; day = d }

-- 15 for storage that is too short, then as the plain load
unfoldable pub stored_load_answer : Store → Config → Table → ℕ → List Window → Answer
stored_load_answer s f t D ws = cond (too_short s) NoRoom (timed_load_answer f t D ws)

-- a refused load writes nothing; an accepted one loads the table with the demands of the first epoch
unfoldable pub timed_loaded_store : Store → Config → Table → ℕ → List Window → Store
timed_loaded_store s f t D ws = cond (is_done (stored_load_answer s f t D ws)) (loaded_store s f (given_table ws t)) s

-- the site that the storage stands for then
unfoldable pub timed_loaded_site : Store → Config → Table → ℕ → List Window → Site
timed_loaded_site s f t D ws = cond (is_done (stored_load_answer s f t D ws)) (loaded_timed f t D ws).site (site_in s)

-- the day with which the site begins, where the load is accepted
abbrev pub stored_load : Store → Config → Table → ℕ → List Window → Result Day Refusal
stored_load s f t D ws = answered (stored_load_answer s f t D ws) (first_epoch D)

-- the demand of epoch e for the node at index i, as a want of the storage: one byte
unfoldable pub given_at : List Window → ℕ → List ℕ → ℕ → Store → Store
given_at ws e area i s = store_after s area (Want (i + 1) (due_at ws (i + 1) e (member_read s (i + 1)).node.demand))

-- the demands of epoch e, given to the N nodes one after another; an empty list gives none
unfoldable pub given_store : List Window → ℕ → List ℕ → Store → Store
given_store ws e area s = cond (eqb (length ws) 0) s (iter (nodes_in s) (given_at ws e area) s)

-- 15 for storage that is too short, before anything else
unfoldable pub stored_answer : Store → Day → List ℕ → List Window → Event → Answer
stored_answer s d area ws e = cond (too_short s) NoRoom (timed_answer (timed_in s d) area ws e)

-- the day after an event
unfoldable pub stored_day : Store → Day → List ℕ → List Window → Event → Day
stored_day s d area ws e = cond (too_short s) d (timed_after (timed_in s d) area ws e).day

-- where the next epoch begins, its demands are given before the end
abbrev pub begun_store : Store → Day → List ℕ → List Window → Event → Store
begun_store s d area ws e = cond (begins_epoch (timed_in s d) e) (given_store ws (epoch_after d) area s) s

-- a refused event writes nothing
unfoldable pub timed_store : Store → Day → List ℕ → List Window → Event → Store
timed_store s d area ws e = cond (is_done (stored_answer s d area ws e)) (store_after (begun_store s d area ws e) area e) s

-- the site that the storage stands for then
unfoldable pub timed_site : Store → Day → List ℕ → List Window → Event → Site
timed_site s d area ws e = cond (too_short s) (site_in s) (timed_after (timed_in s d) area ws e).site

-- Where a list was tested before: the same by what it was found to be. Where that is the list's own test, it is what stands above
-- (proofs.timed/Known.antt).
unfoldable pub answered_by : Bool → Store → List ℕ → Event → Answer
answered_by ok s area e = cond (too_short s) NoRoom (answer_by ok (site_in s) area e)

unfoldable pub day_by : Bool → Store → Day → List ℕ → Event → Day
day_by ok s d area e = cond (is_done (answered_by ok s area e)) (next_day (timed_in s d) e) d

unfoldable pub store_by : Bool → Store → Day → List ℕ → List Window → Event → Store
store_by ok s d area ws e = cond (is_done (answered_by ok s area e)) (store_after (begun_store s d area ws e) area e) s
