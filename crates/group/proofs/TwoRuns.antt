-- Two different runs in which site 2 gets the same call since its load, whatever the areas hold: in the one site 1 is
-- loaded and sends before it, in the other nothing else is loaded. So the hypotheses of `apart` can be met by runs that
-- differ.
-- Assumes nothing.
use mathlib.Core.Path.{◌≡◌, refl, sym, ap, ◌∙◌}
use mathlib.Core.Bool.{Bool, true}
use mathlib.Core.List.{List, [], ◌∷◌}
use Prim.Native.Nat.{ℕ, ◌≤◌, ◌<◌}
use native.Mathlib.Omega.{arith}
use lib.ListN.{length}
use Rattle.lists.specs.All.{all_below, tab}
use Rattle.allotment.specs.Allotment.{total}
use Rattle.node.specs.Figures.{config_ok, flags_ok}
use Rattle.node.specs.Negotiation.{send_answer}
use Rattle.node.specs.Begin.{begun, start_answer}
use Rattle.site.specs.Answers.{area_size, site_send}
use Rattle.site.specs.Load.{row_ok, table_ok, load_answer, loaded_member, loaded_site}
use Rattle.site.specs.Steps.{sent_site}
use Rattle.windows.specs.Windows.{list_ok}
use Rattle.machine.specs.timed.Timed.{given_table, timed_load_answer, loaded_timed}
use Rattle.group.specs.Places.{place, freed}
use Rattle.group.specs.Group.{Empty, Group, vacant, site_slot_of, packets_in, own_share}
use Rattle.group.specs.Calls.{GroupCall, LoadSite, plain_answer, is_crowded, answer_to}
use Rattle.group.specs.Steps.{next_group, after_group, run_group}
use Rattle.group.specs.Alone.{own_calls, loaded_group}
use Rattle.group.proofs.Theorem.{several}
use Rattle.group.proofs.Sheets.{sends, call_of, Sheet, sheet_of, site_slot_in, At, step_on, run_on, all_done}
use Rattle.group.proofs.Example.{config, table, at_load, loaded, by}

abbrev load : GroupCall
load = LoadSite 2 (config 2) table 1 []

-- in the first run site 1 is loaded before, and sends
abbrev first : List GroupCall
first = LoadSite 1 (config 19) table 1 [] ∷ []

abbrev first_calls : List GroupCall
first_calls = call_of 1 (sends 1) ∷ call_of 2 (sends 1) ∷ []

abbrev second_calls : List GroupCall
second_calls = call_of 2 (sends 1) ∷ []

-- one packet of site 1
abbrev sent : List At
sent = record { number = 1; act = sends 1 } ∷ []

computed : (all_done at_load sent ≡ true) × (packets_in (site_slot_in (run_on at_load sent) 2) ≡ 0)
    × (packets_in (site_slot_in (run_on at_load sent) 1) ≡ 1)
unfolding at_load run_on all_done step_on total site_send send_answer sent_site begun loaded_timed loaded_site loaded_member config table tab
    timed_load_answer load_answer table_ok row_ok start_answer config_ok flags_ok all_below list_ok
    given_table place freed
computed = (refl, refl, refl)

-- the second run's group: site 2 alone
one_site : (area : List ℕ) → (packets_in (site_slot_of (loaded_group area [] load) 2) ≡ 0) × (site_slot_of (loaded_group area [] load) 1 ≡ Empty)
    × (answer_to (run_group (vacant area) []) load ≡ 0)
unfolding run_group after_group next_group plain_answer is_crowded answer_to timed_load_answer load_answer table_ok row_ok start_answer config_ok flags_ok
    all_below list_ok config table tab freed loaded_timed loaded_site total
one_site area = (refl, refl, refl)

accepted : (area : List ℕ) → answer_to (run_group (vacant area) first) load ≡ 0
unfolding run_group after_group next_group plain_answer is_crowded answer_to timed_load_answer load_answer table_ok row_ok start_answer config_ok flags_ok
    all_below list_ok config table tab
accepted area = refl

module _ (x y : List ℕ) (room : area_size ≤ length x) where
  -- the first run's group after site 1's packet
  abbrev g : Group
  g = after_group (loaded_group x first load) (call_of 1 (sends 1))

  sheet-is : sheet_of g ≡ run_on at_load sent
  unfolding run_group
  sheet-is = by x room sent computed.0

  empty-two : packets_in (site_slot_of g 2) < own_share
  empty-two = let e : packets_in (site_slot_of g 2) ≡ 0 = ap (λ (s : Sheet). packets_in (site_slot_in s 2)) sheet-is
      ∙ computed.1 in omega (arith, e)

  empty-one_site : packets_in (site_slot_of (loaded_group y [] load) 2) < own_share
  empty-one_site = let e = (one_site y).0 in omega (arith, e)

  -- the calls of site 2, none of them refused as 17, are the same; and the runs differ
  same-calls : own_calls 2 (loaded_group x first load) first_calls ≡ own_calls 2 (loaded_group y [] load) second_calls
  unfolding own_calls
  same-calls =
      let p = several.sixteen g 2 _ empty-two in
      let q = several.sixteen (loaded_group y [] load) 2 _ empty-one_site in
      ap (λ (b : Bool). record { call = call_of 2 (sends 1); crowded = b } ∷ []) (p ∙ sym q)

  pub two_runs : (answer_to (run_group (vacant x) first) load ≡ 0)
      × (own_calls 2 (loaded_group x first load) first_calls ≡ own_calls 2 (loaded_group y [] load) second_calls)
      × (packets_in (site_slot_of g 1) ≡ 1) × (site_slot_of (loaded_group y [] load) 1 ≡ Empty)
  two_runs = (accepted x, same-calls, ap (λ (s : Sheet). packets_in (site_slot_in s 1)) sheet-is ∙ computed.2, (one_site y).1)
