-- The example as a script, computed by the definitions.
-- Assumes nothing.
use mathlib.Core.Path.{◌≡◌, refl, ap, ◌∙◌}
use mathlib.Core.Bool.{true, false}
use mathlib.Core.List.{[], ◌++◌}
use Prim.Native.Nat.{ℕ}
use Rattle.words.proofs.Tests.{hit, skip}
use lib.Count.{ones, ones_in}
use Rattle.words.specs.Bits.{word_of}
use Rattle.lists.specs.All.{iter, tab, same, all_below}
use Rattle.allotment.specs.Allotment.{schedule_of, asks, deal_one, deal_round, dealt, keep_one, kept, better, chosen, fill_one, filled, next}
use Rattle.allotment.specs.Allotment.{total}
use Rattle.membership.specs.requests.Requests.{requesters, union, agree, requests_within, first_with, lowest_missing}
use Rattle.membership.specs.counters.Counters.{counted}
use Rattle.node.specs.Figures.{config_ok, flags_ok}
use Rattle.node.specs.Negotiation.{opened, packet_of, merges, noted, joined, interacted, heard_node, send_answer, hear_answer}
use Rattle.node.specs.Close.{complete, level, verdict, due, raised, stayed, closed_node, close_answer}
use Rattle.node.specs.Begin.{begun, waiting, start_answer}
use Rattle.node.specs.Grounds.{first_rule, rule_of}
use Rattle.node.specs.Answers.{NoRoom}
use Rattle.wire.specs.Layout.{packet_bytes, packet_in}
use Rattle.wire.specs.Reads.{packet_ok, packet_answer}
use Rattle.site.specs.Load.{row_ok, table_ok, load_answer, loaded_member, loaded_site}
use Rattle.site.specs.Answers.{site_send, answer_part, site_hear, site_close, answer_of}
use Rattle.site.specs.Steps.{sent_site, sent_area, heard_site, closed_site, site_after, area_after}
use Rattle.machine.specs.reports.Reports.{member_report, report_of}
use Rattle.text.specs.Ascii.{ascii}
use Rattle.text.specs.Read.{front, split, digits_from, number_of}
use Rattle.text.specs.Write.{digits_of}
use Rattle.script.specs.lines.Lines.{on_line}
use Rattle.script.specs.lines.Fields.{numbers_of}
use Rattle.script.specs.load.Opening.{got, opening, names_line, settings_line, table_lines}
use Rattle.script.specs.events.Events.{number_from, fields_of}
use Rattle.windows.specs.Windows.{list_ok, has_windows, demand_at, due_at}
use Rattle.machine.specs.timed.Timed.{given_table, timed_load_answer, loaded_timed, timed_answer, next_timed, timed_after}
use Rattle.desk.specs.listings.Output.{loaded_state, day_fits, unfit, split_shown}
use Rattle.desk.specs.listings.Why.{reason_lines, refusal_part, head_part, why_body, why_of}
use Rattle.desk.specs.reasons.Reasons.{reason, reason_of}
use Rattle.wants.specs.Example.{area, example_windows}
use Rattle.wants.specs.Real.{pair_script, pair_opening, pair_lines, RealScript}
use Rattle.wants.proofs.Script.{same-reasons}

fitting : unfit pair_script area ≡ false
fitting = refl

opened-so : opening (split 10 pair_script) ≡ got pair_opening pair_lines
unfolding opening names_line on_line split front same settings_line table_lines config_ok numbers_of number_of digits_from
    row_ok start_answer flags_ok
opened-so = refl

day-so : day_fits 2 example_windows pair_opening ≡ true
unfolding list_ok all_below
day-so = refl

told-so : (reason_lines 1 example_windows (loaded_state 2 example_windows pair_opening area) 7 pair_lines ≡ ascii "9 1 sent 0\n")
    × (reason_lines 2 example_windows (loaded_state 2 example_windows pair_opening area) 7 pair_lines ≡ ascii "9 2 missing 1\n")
unfolding reason_lines reason reason_of digits_of fields_of number_from split front number_of digits_from numbers_of member_report
    report_of first_rule rule_of
    first_with lowest_missing site_after area_after answer_of site_send answer_part site_hear site_close sent_site sent_area heard_site closed_site
    loaded_site loaded_member given_table timed_load_answer load_answer table_ok row_ok start_answer config_ok flags_ok list_ok
    loaded_timed timed_answer next_timed timed_after has_windows demand_at due_at
    begun waiting opened packet_of merges noted joined interacted heard_node send_answer hear_answer complete level verdict counted
    due raised stayed closed_node close_answer
    packet_bytes packet_in packet_ok packet_answer requesters union agree requests_within word_of ones ones_in iter tab same all_below
    asks deal_one deal_round dealt keep_one kept better chosen fill_one filled next total schedule_of
told-so = (refl, refl)

none_so : day_fits 1 [] pair_opening ≡ true
unfolding list_ok all_below
none_so = refl

printed : (j : ℕ) → why_of j 2 example_windows pair_script area ≡ head_part j
    ++ reason_lines j example_windows (loaded_state 2 example_windows pair_opening area) 7 pair_lines
unfolding why_of
printed j =
    skip (unfit pair_script area) (refusal_part j 0 0 NoRoom) _ _ fitting
    (ap (why_body j 2 example_windows (split_shown pair_script area) area) opened-so ∙ hit (day_fits 2 example_windows pair_opening) _ _ day-so)

pub real-script : RealScript
real-script =
    let first = printed 1 ∙ told-so.0 in
    let second = printed 2 ∙ told-so.1 in
    record {
      fits = fitting;
      opens = opened-so;
      day = day-so;
      no-windows = none_so;
      first = first;
      second = second;
      plain-first = same-reasons.reasons 1 2 [] example_windows pair_script area pair_opening pair_lines opened-so none_so day-so 1 ∙ first;
      plain_second = same-reasons.reasons 1 2 [] example_windows pair_script area pair_opening pair_lines opened-so none_so day-so 2 ∙ second;
    }
