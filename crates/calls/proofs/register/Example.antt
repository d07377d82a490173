-- The witness, computed: one node that asks for the one slot, and a want of the same demand once more (proofs/ledger/Example).
-- Assumes nothing.
use mathlib.Core.Path.{◌≡◌, refl}
use mathlib.Core.Bool.{cond}
use mathlib.Core.List.{List, []}
use Prim.Native.Nat.{ℕ, ◌≤◌}
use borrow.Author.Tests.{le-ltb}
use lib.ListN.{length}
use Rattle.lists.specs.All.{all_below, tab}
use Rattle.node.specs.Figures.{config_ok, flags_ok}
use Rattle.node.specs.Begin.{begun, start_answer}
use Rattle.node.specs.Steps.{wanted_node}
use Rattle.node.specs.Answers.{Done, NoRoom}
use Rattle.site.specs.Answers.{area_size, site_want, answer_of}
use Rattle.site.specs.Load.{row_ok, table_ok, load_answer, loaded_member, loaded_site}
use Rattle.site.specs.Steps.{wanted_site}
use Rattle.site.specs.declared.Event.TheVariants.{Want}
use Rattle.windows.specs.Windows.{list_ok, due_at, has_windows}
use Rattle.machine.specs.timed.Timed.{given_table, timed_load_answer, loaded_timed}
use Rattle.machine.specs.combined.Kept.{first_refusal, kept_answer}
use Rattle.agreement.specs.daily.Daily.{begin_by}
use Rattle.tally.specs.Counting.{first_tally}
use Rattle.tally.specs.Ends.{tallied_answer}
use Rattle.sites.specs.one.Calls.{table_from}
use Rattle.sites.specs.many.Memory.{Memory, lent}
use Rattle.sites.proofs.many.Memories as memories
use Rattle.calls.proofs.ledger.Example.{one_site, rows, loads}
use Rattle.sites.specs.many.Calls.{event_call}
use Rattle.calls.proofs.register.Seats.{plain_event}
use Rattle.calls.proofs.register.Witness.{TwoRuns, runs}

-- the node has this demand, and may want it again
wanted : (area : List ℕ) → area_size ≤ length area
    → plain_event (begin_by one_site (table_from rows) 1 [] area) (lent [] first_tally []) (Want 1 1) ≡ Done
unfolding kept_answer tallied_answer answer_of site_want loaded_timed loaded_site loaded_member tab list_ok all_below
wanted area room = λ i. first_refusal (cond (le-ltb (length area) area_size room i) NoRoom Done) Done

same : wanted_site (loaded_timed one_site (table_from rows) 1 []).site 1 1 ≡ (loaded_timed one_site (table_from rows) 1 []).site
unfolding wanted_site loaded_timed loaded_site loaded_member tab begun timed_load_answer load_answer table_ok row_ok start_answer config_ok flags_ok
    all_below list_ok given_table due_at has_windows table_from wanted_node
same = refl

pub example : (m : Memory) (area : List ℕ) → memories.Lengths m → area_size ≤ length area → TwoRuns (event_call 1 [] (Want 1 1))
example m area h room = runs m area one_site rows 1 [] h room refl loads 1 1 (wanted area room) same
