-- A history of two sites, whatever the area holds before it: 144 packets of one take the common places, and its next
-- send is refused as 17. Once it has closed, the other site's next packet lies in the lowest place that was freed. So
-- the hypotheses of the theorem can be met, and 17 occurs.
-- Assumes nothing.
use mathlib.Core.Path.{◌≡◌, refl, ap, ◌∙◌}
use mathlib.Core.Bool.{true}
use mathlib.Core.List.{List, [], ◌∷◌, ◌++◌, map}
use Prim.Native.Nat.{ℕ, zero, suc, ◌^◌, ◌≤◌}
use lib.ListN.{length, replicate}
use Rattle.lists.specs.All.{all_below, tab}
use Rattle.allotment.specs.Allotment.{total}
use Rattle.node.specs.Figures.{config_ok, flags_ok}
use Rattle.node.specs.Negotiation.{send_answer}
use Rattle.node.specs.Begin.{begun, start_answer}
use Rattle.site.specs.Answers.{area_size, site_send, site_close}
use Rattle.site.specs.Load.{row_ok, table_ok, load_answer, loaded_member, loaded_site}
use Rattle.site.specs.Steps.{sent_site, closed_site}
use Rattle.node.specs.declared.Config.{Config}
use Rattle.site.specs.declared.Table.{Table}
use Rattle.windows.specs.Windows.{list_ok}
use Rattle.machine.specs.timed.Timed.{given_table, timed_load_answer, loaded_timed}
use Rattle.group.specs.Places.{entry, place, freed}
use Rattle.group.specs.Group.{Empty, Taken, Group, vacant, packet_place}
use Rattle.group.specs.Calls.{GroupCall, LoadSite, plain_answer, is_crowded, answer_to}
use Rattle.group.specs.Steps.{next_group, after_group, run_group}
use Rattle.group.proofs.Stories.{Fine}
use Rattle.group.proofs.Theorem.{vacant-fine, run-fine}
use Rattle.group.proofs.Sheets.{sends, closes, call_of, Sheet, sheet_of, number_by, site_slot_in, answers_by, At, step_on, run_on, all_done}
use Rattle.group.proofs.Sheets.{call_at, runs_by}

-- site 1 has 19 nodes, site 2 has two

unfoldable pub config : ℕ → Config
config N = record { nodes = N; slots = 4; rounds = 1; min_heard = 1; split = 0 }

-- every node holds its own flag alone
unfoldable pub table : Table
table = record { rows = tab 32 (λ i. record { version = 1; flags = 2 ^ i; want = 1 }) }

abbrev pub loads : List GroupCall
loads = LoadSite 1 (config 19) table 1 [] ∷ LoadSite 2 (config 2) table 1 [] ∷ []

unfoldable pub at_load : Sheet
at_load = record {
  site_slots = Taken (loaded_timed (config 19) table 1 []) ∷ Taken (loaded_timed (config 2) table 1 [])
      ∷ replicate 6 Empty;
  places = replicate 256 0;
}

-- both are loaded, with any area
pub loaded : (area : List ℕ) → sheet_of (run_group (vacant area) loads) ≡ at_load
unfolding at_load run_group after_group next_group plain_answer is_crowded timed_load_answer load_answer table_ok row_ok start_answer config_ok flags_ok
    all_below list_ok config table tab freed
loaded area = refl

-- the first n nodes of site 1 send 8 packets each
all_send : ℕ → List At
all_send zero = []
all_send (suc n) = replicate 8 (record { number = 1; act = sends (suc n) }) ++ all_send n

-- 144 packets of site 1, and one of site 2 behind them
abbrev first : List At
first = all_send 18 ++ (record { number = 2; act = sends 1 } ∷ [])

-- then site 1 closes, and site 2 sends once more
abbrev second : List At
second = first ++ (record { number = 1; act = closes } ∷ record { number = 2; act = sends 2 } ∷ [])

all_done_lem : (all_done at_load first ≡ true) × (all_done at_load second ≡ true)
unfolding at_load all_done step_on all_send total site_send site_close send_answer sent_site closed_site begun loaded_timed loaded_site loaded_member
    config table tab timed_load_answer load_answer table_ok row_ok start_answer
    config_ok flags_ok all_below list_ok given_table place freed
all_done_lem = (refl, refl)

-- by sheet: the next sends of site 1, a close where nothing is loaded, and where the packets of site 2 lie
abbrev place_in : Sheet → ℕ → ℕ → ℕ
place_in s a p = place (entry a p) s.places

by-sheet : (number_by (run_on at_load first) (site_slot_in (run_on at_load first) 1) (sends 19) ≡ 17)
    × (number_by (run_on at_load first) (site_slot_in (run_on at_load first) 1) (sends 1) ≡ 7) × (place_in (run_on at_load first) 2 1 ≡ 144)
    × (place_in (run_on at_load second) 2 2 ≡ 0) × (number_by (run_on at_load first) (site_slot_in (run_on at_load first) 3) closes ≡ 3)
unfolding at_load run_on step_on all_send total site_send site_close send_answer sent_site closed_site begun loaded_timed loaded_site loaded_member
    config table tab timed_load_answer load_answer table_ok row_ok start_answer
    config_ok flags_ok all_below list_ok given_table place freed
by-sheet = (refl, refl, refl, refl, refl)

module _ (area : List ℕ) (room : area_size ≤ length area) where
  -- the group after a list of acts
  abbrev reached : List At → Group
  reached xs = run_group (run_group (vacant area) loads) (map call_at xs)

  fine : Fine area (run_group (vacant area) loads)
  fine = run-fine area room (vacant area) (vacant-fine area area room) loads

  pub by : (xs : List At) → all_done at_load xs ≡ true → sheet_of (reached xs) ≡ run_on at_load xs
  by xs h = runs_by area room (run_group (vacant area) loads) fine at_load (loaded area) xs h

  -- of site 1 a node that has sent none is refused as 17, and one that has sent 8 as 7; at number 3 nothing is loaded
  refusals : (answer_to (reached first) (call_of 1 (sends 19)) ≡ 17) × (answer_to (reached first) (call_of 1 (sends 1)) ≡ 7)
      × (answer_to (reached first) (call_of 3 closes) ≡ 3)
  refusals =
      let e = by first all_done_lem.0 in
      let r = (run-fine area room (run_group (vacant area) loads) fine (map call_at first)).ground.room in (
        answers_by (reached first) r 1 (sends 19) ∙ ap (λ (s : Sheet). number_by s (site_slot_in s 1) (sends 19)) e ∙ by-sheet.0,
        answers_by (reached first) r 1 (sends 1) ∙ ap (λ (s : Sheet). number_by s (site_slot_in s 1) (sends 1)) e ∙ by-sheet.1,
        answers_by (reached first) r 3 closes ∙ ap (λ (s : Sheet). number_by s (site_slot_in s 3) closes) e ∙ by-sheet.4,
      )

  -- packet 1 of site 2 lies behind those of site 1, and packet 2 in the lowest place that their close freed
  places-used : (packet_place (reached first) 2 1 ≡ 144) × (packet_place (reached second) 2 2 ≡ 0)
  places-used = (
    ap (λ (s : Sheet). place_in s 2 1) (by first all_done_lem.0)
        ∙ by-sheet.2,
    ap (λ (s : Sheet). place_in s 2 2) (by second all_done_lem.1) ∙ by-sheet.3,
  )
