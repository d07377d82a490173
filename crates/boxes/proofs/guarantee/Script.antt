-- The whole case as bytes, computed by the definitions.
-- Assumes nothing.
use mathlib.Core.Path.{◌≡◌, refl, ◌∙◌}
use mathlib.Core.Bool.{false}
use mathlib.Core.List.{[], ◌∷◌, ◌++◌}
use Prim.Native.Nat.{◌+◌}
use lib.Count.{ones, ones_in}
use Rattle.words.specs.Bits.{word_of}
use Rattle.lists.specs.All.{iter, tab, same, all_below}
use Rattle.allotment.specs.Allotment.{owners_of, schedule_of, asks, deal_one, deal_round, dealt, keep_one, kept, better, chosen, fill_one, filled}
use Rattle.allotment.specs.Allotment.{next, total}
use Rattle.membership.specs.requests.Requests.{requesters, union, agree, requests_within}
use Rattle.node.specs.Figures.{config_ok, flags_ok}
use Rattle.node.specs.Negotiation.{opened, packet_of, merges, noted, joined, interacted, heard_node, send_answer, hear_answer}
use Rattle.node.specs.Close.{complete, level, verdict, due, raised, stayed, closed_node, close_answer}
use Rattle.membership.specs.counters.Counters.{counted}
use Rattle.node.specs.Distribution.{sent_by, taken_epoch, taken_node, take_answer}
use Rattle.node.specs.Begin.{begun, waiting, start_answer}
use Rattle.node.specs.End.{next_round, waits_on, next_epoch, ended_node, end_answer}
use Rattle.membership.specs.counters.Counters.{with_self, members_of}
use Rattle.wire.specs.Layout.{packet_bytes, packet_in}
use Rattle.wire.specs.Reads.{packet_ok, packet_answer}
use Rattle.site.specs.Load.{load_answer, loaded_site, loaded_member, table_ok, row_ok}
use Rattle.site.specs.Answers.{site_send, answer_part, site_hear, site_close, site_take, site_end, answer_of}
use Rattle.site.specs.Steps.{sent_site, sent_area, heard_site, closed_site, taken_site, ended_site, site_after, area_after}
use Rattle.site.specs.Run.{run}
use Rattle.site.specs.declared.Event.TheVariants.{Send, Hear, Close, Take, End}
use Rattle.text.specs.Read.{front, split, digits_from, number_of}
use Rattle.text.specs.Write.{digits_of}
use Rattle.script.specs.lines.Lines.{on_line}
use Rattle.script.specs.lines.Fields.{numbers_of}
use Rattle.script.specs.load.Opening.{got, opening, names_line, settings_line, table_lines}
use Rattle.script.specs.events.Events.{number_from, fields_of}
use Rattle.desk.specs.listing.Rows.{first_head, refusal_line, more_owners, owners_text, row_text, rows_text}
use Rattle.windows.specs.Windows.{list_ok, has_windows, demand_at, due_at}
use Rattle.machine.specs.timed.Timed.{given_site, given_table, timed_load_answer, loaded_timed, timed_answer, next_timed, timed_after}
use Rattle.agreement.specs.Demand.{final}
use Rattle.desk.specs.listings.Output.{second_head, events_in, refused_lines, loaded_state, unfit}
use Rattle.boxes.specs.guarantee.Script.{case_script, case_listing, zeros, case_opening, case_lines, RealScript}
use Rattle.boxes.proofs.guarantee.Proved.{guarantee}

fitting : unfit case_script zeros ≡ false
fitting = refl

opened-so : opening (split 10 case_script) ≡ got case_opening case_lines
unfolding opening names_line on_line split front same settings_line table_lines config_ok numbers_of number_of digits_from row_ok
    start_answer flags_ok
opened-so = refl

events-so : events_in case_lines ≡ Send 2 ∷ Send 3 ∷ Hear 1 1 ∷ Hear 1 2 ∷ Close ∷ Take 3 2 ∷ Take 2 1 ∷ End ∷ []
unfolding events_in fields_of number_from split front same number_of digits_from numbers_of
events-so = refl

printed-so : first_head case_opening.config.split
    ++ (refused_lines [] (loaded_state 1 [] case_opening zeros) (5 + case_opening.config.nodes)
    case_lines
    ++ (second_head ++ rows_text case_opening.config.nodes 0 (final case_opening.config case_opening.table zeros
    (events_in case_lines)).members case_opening.config.slots)) ≡ case_listing
unfolding refused_lines refusal_line digits_of events_in fields_of number_from split front number_of digits_from numbers_of rows_text row_text owners_text
    more_owners loaded_timed timed_load_answer timed_answer timed_after next_timed given_site given_table list_ok
    has_windows demand_at due_at load_answer table_ok row_ok run site_after area_after answer_of site_send answer_part site_hear site_close site_take
    site_end sent_site sent_area heard_site closed_site taken_site ended_site loaded_site loaded_member begun waiting
    opened packet_of merges noted joined interacted heard_node send_answer hear_answer complete level verdict counted due raised stayed
    closed_node close_answer sent_by taken_epoch taken_node take_answer with_self next_round waits_on members_of next_epoch
    ended_node end_answer packet_bytes packet_in packet_ok packet_answer requesters union agree requests_within word_of ones ones_in iter tab same
    all_below asks deal_one deal_round dealt keep_one kept better chosen fill_one filled next total owners_of
    schedule_of start_answer config_ok flags_ok
printed-so = refl

pub real-script : RealScript
real-script = record {
  fits = fitting;
  opens = opened-so;
  events = events-so;
  prints = (guarantee.plainly case_script zeros case_opening case_lines fitting opened-so).printed ∙ printed-so;
}
