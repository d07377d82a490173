-- The example, computed by the definitions: the one place here that needs the text of a node's tests and steps.
-- Assumes nothing.
use mathlib.Core.Path.{◌≡◌, refl}
use mathlib.Core.Bool.{true}
use mathlib.Core.List.{[], ◌∷◌}
use Prim.Native.Nat.{ℕ, zero, suc, ◌<◌}
use lib.Count.{ones, ones_in}
use lib.ListN.{get_or}
use Rattle.words.specs.Bits.{word_of}
use Rattle.lists.specs.All.{iter, tab, same, all_below}
use Rattle.allotment.specs.Allotment.{owners_of, schedule_of, asks, deal_one, deal_round, dealt, keep_one, kept, better, chosen, fill_one, filled}
use Rattle.allotment.specs.Allotment.{next, total}
use Rattle.membership.specs.requests.Requests.{requesters, union, agree, requests_within, first_with, lowest_missing}
use Rattle.membership.specs.counters.Counters.{counted}
use Rattle.node.specs.Figures.{config_ok, flags_ok}
use Rattle.node.specs.Negotiation.{opened, packet_of, merges, noted, joined, interacted, heard_node, send_answer, hear_answer}
use Rattle.node.specs.Close.{complete, level, verdict, due, raised, stayed, closed_node, close_answer}
use Rattle.node.specs.Begin.{begun, waiting, start_answer}
use Rattle.node.specs.Grounds.{first_rule, rule_of}
use Rattle.node.specs.Steps.{wanted_node}
use Rattle.node.specs.Answers.{Done}
use Rattle.wire.specs.Layout.{packet_bytes, packet_in}
use Rattle.wire.specs.Reads.{packet_ok, packet_answer}
use Rattle.site.specs.Members.{member_at}
use Rattle.site.specs.Load.{no_row, row_ok, table_ok, load_answer, loaded_member, loaded_site}
use Rattle.site.specs.Answers.{site_send, answer_part, site_hear, site_close, site_want, answer_of}
use Rattle.site.specs.Steps.{sent_site, sent_area, heard_site, closed_site, wanted_site, site_after, area_after}
use Rattle.site.specs.Run.{run}
use Rattle.machine.specs.reports.Reports.{member_report, report_of}
use Rattle.histories.specs.Reached.{begin}
use Rattle.windows.specs.Windows.{list_ok, has_windows, demand_at, due_at}
use Rattle.machine.specs.timed.Timed.{given_table, timed_load_answer, loaded_timed, timed_answer, next_timed, timed_after}
use Rattle.machine.specs.timed.Calls.{run_calls}
use Rattle.agreement.specs.daily.Daily.{begin_by}
use Rattle.wants.specs.Wants.{without_wants, SameButWants, close_reports, reports_by, good_lists}
use Rattle.wants.specs.Example.{area, pair, wanting, talk, wanting_talk, example_windows, lent_calls, rules_in, owners, Example}

loads : (load_answer pair (wanting 1 1) ≡ Done) × (load_answer pair (wanting 2 0) ≡ Done)
    × (timed_load_answer pair (wanting 1 1) 2 example_windows ≡ Done)
unfolding timed_load_answer load_answer table_ok row_ok start_answer config_ok flags_ok all_below list_ok
loads = (refl, refl, refl)

lists : (without_wants talk ≡ without_wants wanting_talk) × (good_lists 2 2 lent_calls ≡ true)
unfolding without_wants good_lists list_ok all_below
lists = (refl, refl)

rows : SameButWants (wanting 1 1) (wanting 2 0)
rows = record { version = version; flags = flags }
  where
    version : (i : ℕ) → i < 32 → (get_or (wanting 1 1).rows i no_row).version ≡ (get_or (wanting 2 0).rows i no_row).version
    version zero l = refl
    version (suc zero) l = refl
    version (suc (suc i)) l = refl

    flags : (i : ℕ) → i < 32 → (get_or (wanting 1 1).rows i no_row).flags ≡ (get_or (wanting 2 0).rows i no_row).flags
    flags zero l = refl
    flags (suc zero) l = refl
    flags (suc (suc i)) l = refl

told : (rules_in (close_reports (begin pair (wanting 1 1) area) talk) ≡ ((7 ∷ 0 ∷ []) ∷ (1 ∷ 1 ∷ []) ∷ []) ∷ [])
    × (rules_in (close_reports (begin pair (wanting 2 0) area) wanting_talk) ≡ ((7 ∷ 0 ∷ []) ∷ (1 ∷ 1 ∷ []) ∷ []) ∷ [])
    × (rules_in (reports_by (begin_by pair (wanting 1 1) 2 example_windows area) lent_calls) ≡ ((7 ∷ 0 ∷ []) ∷ (1 ∷ 1 ∷ []) ∷ []) ∷ [])
unfolding close_reports reports_by member_report report_of first_rule rule_of first_with lowest_missing run run_calls site_after
    area_after answer_of site_send
    answer_part site_hear site_close site_want sent_site sent_area heard_site closed_site
    wanted_site loaded_site loaded_member given_table timed_load_answer load_answer table_ok row_ok start_answer config_ok flags_ok list_ok
    loaded_timed timed_answer next_timed timed_after has_windows demand_at due_at
    begun waiting opened packet_of merges noted joined interacted heard_node send_answer hear_answer complete level verdict counted
    due raised stayed closed_node close_answer wanted_node
    packet_bytes packet_in packet_ok packet_answer requesters union agree requests_within word_of ones ones_in iter tab same all_below
    asks deal_one deal_round dealt keep_one kept better chosen fill_one filled next total
told = (refl, refl, refl)

held : (owners (member_at (run (begin pair (wanting 1 1) area) talk).site 1).node ≡ 1 ∷ 2 ∷ [])
    × (owners (member_at (run (begin pair (wanting 2 0) area) wanting_talk).site 1).node ≡ 1 ∷ 1 ∷ [])
    × (owners (member_at (run_calls (begin_by pair (wanting 1 1) 2 example_windows area) lent_calls).timed.site 1).node ≡ 1 ∷ 1 ∷ [])
    × ((member_at (run (begin pair (wanting 1 1) area) talk).site 1).node.request ≡ 1)
    × ((member_at (run (begin pair (wanting 2 0) area) wanting_talk).site 1).node.request ≡ 3)
unfolding run run_calls site_after area_after answer_of site_send answer_part site_hear site_close site_want sent_site sent_area heard_site closed_site
    wanted_site loaded_site loaded_member given_table timed_load_answer load_answer table_ok row_ok start_answer config_ok flags_ok list_ok
    loaded_timed timed_answer next_timed timed_after has_windows demand_at due_at
    begun waiting opened packet_of merges noted joined interacted heard_node send_answer hear_answer complete level verdict counted
    due raised stayed closed_node close_answer wanted_node
    packet_bytes packet_in packet_ok packet_answer requesters union agree requests_within word_of ones ones_in iter tab same all_below
    asks deal_one deal_round dealt keep_one kept better chosen fill_one filled next total
    owners_of schedule_of
held = (refl, refl, refl, refl, refl)

pub example : Example
example =
    record {
      even-loads = loads.0;
      odd-loads = loads.1;
      windows-load = loads.2;
      rows = rows;
      events = lists.0;
      lists = lists.1;
      even-told = told.0;
      odd-told = told.1;
      windows-told = told.2;
      even-owners = held.0;
      odd-owners = held.1;
      windows-owners = held.2;
      even-request = held.3;
      odd-request = held.4;
    }
