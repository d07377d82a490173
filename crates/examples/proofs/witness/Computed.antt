-- The whole case on three boxes: the boxes begin, and the site beside them is computed.
-- Assumes nothing.
use mathlib.Core.Path.{◌≡◌, refl, ap, ◌∙◌}
use mathlib.Core.List.{List, [], ◌∷◌, map}
use mathlib.Core.Bool.{true, ◌&&◌}
use Prim.Native.Nat.{ℕ, zero, suc, ◌≤◌}
use native.Mathlib.Omega.{arith}
use borrow.Author.Tests.{leb-true, not-false}
use lib.Dec.{leb}
use lib.Count.{ones, ones_in}
use lib.ListN.{length, replicate, length-replicate}
use Rattle.words.specs.Bits.{word_of}
use Rattle.words.proofs.Tests.{and_left, and_right}
use Rattle.lists.specs.All.{iter, tab, same, all_below}
use Rattle.lists.specs.Bytes.{window}
use Rattle.allotment.specs.Allotment.{asks, deal_one, deal_round, dealt, keep_one, kept, better, chosen, fill_one, filled, next, total}
use Rattle.membership.specs.requests.Requests.{requesters, union, agree, requests_within}
use Rattle.membership.specs.counters.Counters.{counted, with_self, members_of}
use Rattle.node.specs.Answers.{number}
use Rattle.node.specs.Figures.{config_ok, flags_ok}
use Rattle.node.specs.Negotiation.{opened, packet_of, merges, noted, joined, interacted, heard_node, send_answer, hear_answer}
use Rattle.node.specs.Close.{complete, level, verdict, due, raised, stayed, closed_node, close_answer}
use Rattle.node.specs.Distribution.{sent_by, taken_epoch, taken_node, take_answer}
use Rattle.node.specs.Begin.{begun, waiting, start_answer}
use Rattle.node.specs.End.{next_round, waits_on, next_epoch, ended_node, end_answer}
use Rattle.node.specs.Answers.{Done}
use Rattle.wire.specs.Layout.{packet_bytes, packet_in}
use Rattle.wire.specs.Reads.{packet_ok, packet_answer}
use Rattle.area.specs.Area.{node_size}
use Rattle.host.specs.Calls.{beginning}
use Rattle.site.specs.Members.{setup_of}
use Rattle.site.specs.Load.{loaded_site, loaded_member}
use Rattle.site.specs.Answers.{area_size, site_send, answer_part, site_hear, site_close, site_take, site_end, answer_of}
use Rattle.site.specs.Steps.{sent_site, sent_area, heard_site, closed_site, taken_site, ended_site, site_after, area_after}
use Rattle.site.specs.Run.{RunState}
use Rattle.histories.specs.Reached.{begin}
use Rattle.boxes.specs.fleet.Fleet.{row_of, begun_fleet}
use Rattle.boxes.specs.fleet.Past.{no_box_past}
use Rattle.boxes.specs.fleet.Claim.{Begins, site_answers, events}
use Rattle.boxes.proofs.fleet.Reach.{same-answers}
use Rattle.boxes.proofs.fleet.Reach as reach
use Rattle.examples.specs.witness.Case.{settings, case_table, acts, full, WholeCase}
use Rattle.examples.proofs.witness.Shown.{members_shown, site_shown, trace-shown}

-- the boxes begin
begun-so : (j : ℕ) → 1 ≤ j → j ≤ 3 → beginning (window node_size (full j) 0) (setup_of settings j) (row_of case_table j).version
    (row_of case_table j).flags (row_of case_table j).want ≡ Done
unfolding beginning start_answer config_ok flags_ok tab
begun-so zero a b = absurd (omega arith)
begun-so (suc zero) a b = refl
begun-so (suc (suc zero)) a b = refl
begun-so (suc (suc (suc zero))) a b = refl
begun-so (suc (suc (suc (suc j)))) a b = absurd (omega arith)

pub case-begins : Begins settings case_table full
case-begins =
    record {
      some = omega arith;
      each = λ j o.
          let p : (leb 1 j && (leb j 3 && leb j 32)) ≡ true = not-false _ o in
          begun-so j (leb-true 1 j (and_left (leb 1 j) (leb j 3 && leb j 32) p))
          (leb-true j 3 (and_left (leb j 3) (leb j 32) (and_right (leb 1 j) (leb j 3 && leb j 32) p)));
    }

-- a packet area of the site beside them
unfoldable pub area : List ℕ
area = replicate area_size 0

unfoldable pub site : RunState
site = begin settings case_table area

-- the answers, and what is determined: computed, so the text of every definition on the way is needed
computed : (map number (site_answers site (events acts)) ≡ 0 ∷ 0 ∷ 0 ∷ 0 ∷ 0 ∷ 10 ∷ 0 ∷ 0 ∷ [])
    × (site_shown site (events acts) ≡ (1 ∷ 2 ∷ 7 ∷ 2 ∷ 2 ∷ 2 ∷ []) ∷ [])
unfolding area site site_answers site_shown members_shown site_after area_after answer_of site_send answer_part site_hear site_close site_take site_end
    sent_site sent_area heard_site closed_site taken_site ended_site loaded_site
    loaded_member begun waiting opened packet_of merges noted joined interacted heard_node send_answer hear_answer complete level verdict
    counted due raised stayed closed_node close_answer sent_by taken_epoch taken_node
    take_answer with_self next_round waits_on members_of next_epoch ended_node end_answer packet_bytes packet_in packet_ok packet_answer requesters
    union agree requests_within word_of ones ones_in iter tab same all_below asks
    deal_one deal_round dealt keep_one kept better chosen fill_one filled next total
computed = (refl, refl)

pub long : area_size ≤ length area
unfolding area
long = let z : ℕ = 0 in let e : length (replicate area_size z) ≡ area_size = length-replicate area_size z in omega (arith, e)

pub whole-case : WholeCase
unfolding site
whole-case =
    let r = reach.begun settings case_table full case-begins area long in
    let x = begun_fleet settings case_table full in
    record {
      begins = case-begins;
      answers = ap (map number) (same-answers site x acts r) ∙ computed.0;
      determines = trace-shown site x (no_box_past x) acts r ∙ computed.1;
    }
