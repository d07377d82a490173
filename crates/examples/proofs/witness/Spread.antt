-- The whole case on three boxes with a clock each, by computation of the site beside the sorted events.
-- Assumes nothing.
use mathlib.Core.Path.{◌≡◌, refl, sym, ap, ◌∙◌, subst}
use mathlib.Core.Bool.{true}
use mathlib.Core.List.{List, [], ◌∷◌}
use Prim.Native.Nat.{ℕ, zero, suc, ◌*◌, ◌≤◌}
use native.Mathlib.Omega.{arith}
use lib.Count.{ones, ones_in}
use lib.ListN.{take}
use Rattle.words.specs.Bits.{word_of, how_many}
use Rattle.lists.specs.All.{iter, tab, same, all_below}
use Rattle.allotment.specs.Allotment.{asks, deal_one, deal_round, dealt, keep_one, kept, better, chosen, fill_one, filled, next, total}
use Rattle.allotment.specs.Allotment.{schedule_of, owners_of, owner_of}
use Rattle.membership.specs.requests.Requests.{requesters, union, agree, requests_within}
use Rattle.membership.specs.counters.Counters.{counted, with_self, members_of}
use Rattle.node.specs.Negotiation.{opened, packet_of, merges, noted, joined, interacted, heard_node, send_answer, hear_answer}
use Rattle.node.specs.Close.{complete, level, verdict, due, raised, stayed, closed_node, close_answer, determines}
use Rattle.node.specs.Distribution.{sent_by, taken_epoch, taken_node, take_answer}
use Rattle.node.specs.Begin.{begun, waiting}
use Rattle.node.specs.End.{next_round, waits_on, next_epoch, ended_node, end_answer}
use Rattle.wire.specs.Layout.{packet_bytes, packet_in}
use Rattle.wire.specs.Reads.{packet_ok, packet_answer}
use Rattle.area.specs.Area.{decoded}
use Rattle.area.proofs.Canon.{round_trip}
use Rattle.site.specs.Members.{member_at, is_live}
use Rattle.site.specs.Load.{loaded_site, loaded_member}
use Rattle.site.specs.Answers.{site_send, answer_part, site_hear, site_close, site_take, site_end, answer_of}
use Rattle.site.specs.Steps.{sent_site, sent_area, heard_site, closed_site, taken_site, ended_site, site_after, area_after}
use Rattle.site.specs.Run.{run}
use Rattle.site.specs.Model.{Site}
use Rattle.histories.specs.Past.{no_past, trace}
use Rattle.histories.proofs.Members.{live-up}
use Rattle.agreement.specs.Demand.{owner}
use Rattle.host.specs.Calls.{slots_size, own_slots}
use Rattle.host.proofs.Slots.{slots-are}
use Rattle.boxes.specs.fleet.Fleet.{Box, Fleet, Act, zeros, reading, slot_in, box_slots, live, fleet_run, begun_fleet}
use Rattle.boxes.specs.fleet.Claim.{events}
use Rattle.boxes.proofs.fleet.Together.{at, fit}
use Rattle.boxes.proofs.fleet.Reach.{Reached, reaches}
use Rattle.boxes.proofs.fleet.Reach as reach
use Rattle.boxes.proofs.fleet.Results.{live-as, slot_of}
use Rattle.apart.specs.Apart.{negotiation, box_now, acted, ticked, apart_run, between, sorted, begun_apart}
use Rattle.apart.specs.Time.{OnTime}
use Rattle.apart.specs.Determined.{Determines}
use Rattle.apart.specs.Claim.{Uses, Reads, Gets, Knows, by_read, by_slots, all_stay, ApartDemand3}
use Rattle.apart.proofs.Theorem.{apart-holds}
use Rattle.apart.proofs.Keeps.{keeps-run, keeps-begun}
use Rattle.apart.proofs.Determined.{up-inside}
use Rattle.apart.proofs.Orderly.{orderly-from-begin}
use Rattle.examples.specs.witness.Case.{settings, case_table, acts, full}
use Rattle.examples.specs.witness.Spread.{half, spread, crashing, half_way, at_end, SpreadCase}
use Rattle.examples.proofs.witness.Computed.{case-begins, area, site, long}

-- The site beside a list of events, and the field

abbrev x : Fleet
x = begun_fleet settings case_table full

abbrev site_by : List Act → Site
site_by es = (run site (events es)).site

module _ (es : List Act) (j : ℕ) (l : 1 ≤ j) where
  abbrev s : Site
  s = site_by es

  abbrev b : Box
  b = (fleet_run x es).boxes j

  r : Reached settings (trace (no_past (loaded_site settings case_table)) site (events es)) (run site (events es)) (fleet_run x es)
  unfolding site
  r = reaches site x es (reach.begun settings case_table full case-begins area long)

  same-box : b ≡ r.together.boxes j
  same-box = ap (λ (y : Fleet). y.boxes j) r.together.is

  lives : is_live (member_at s j) ≡ true → live b ≡ true
  lives h = ap live same-box ∙ live-as r.kept r.together.beside j l ∙ h

  slot_is : is_live (member_at s j) ≡ true → (k : ℕ) → slot_in (reading b) k ≡ owner (member_at s j).node k
  slot_is h k = ap (λ (c : Box). slot_in (reading c) k) same-box
      ∙ slot_of r.kept r.together.beside j l (sym (ap live same-box) ∙ lives h) k

  node-is : is_live (member_at s j) ≡ true → decoded b.area ≡ (member_at s j).node
  node-is h =
      let u = live-up (member_at s j) h in
      let S = r.kept.sound in
      let F = fit S r.together.beside j in
      ap (λ (c : Box). decoded c.area) same-box ∙ ap decoded ((at S r.together.beside j l).area u)
      ∙ round_trip (member_at s j).node (F.long u) (F.range u)

-- the events of the first negotiation
abbrev first : List Act
first = take 4 acts

-- two live nodes with a slot each after the whole case, and one that determines at the first close: computed, so the text of every
-- definition on the way is needed
record Computed : Type 0 where
  one : is_live (member_at (site_by acts) 1) ≡ true
  two : is_live (member_at (site_by acts) 2) ≡ true
  owns-one : owner (member_at (site_by acts) 1).node 0 ≡ 1
  owns-two : owner (member_at (site_by acts) 2).node 1 ≡ 2
  owns-last : owner (member_at (site_by acts) 1).node 3 ≡ 1
  own-one : own_slots (member_at (site_by acts) 1).node ≡ 9 ∷ 0 ∷ 2 ∷ []
  own-two : own_slots (member_at (site_by acts) 2).node ≡ 2 ∷ 0 ∷ 1 ∷ []
  early : is_live (member_at (site_by first) 1) ≡ true
  determined : determines (member_at (site_by first) 1).node ≡ true

computed : Computed
unfolding area site site_after area_after answer_of site_send answer_part site_hear site_close site_take site_end sent_site sent_area heard_site
    closed_site taken_site ended_site loaded_site
    loaded_member begun waiting opened packet_of merges noted joined interacted heard_node send_answer hear_answer complete level verdict
    counted due raised stayed closed_node close_answer sent_by taken_epoch taken_node
    take_answer with_self next_round waits_on members_of next_epoch ended_node end_answer packet_bytes packet_in packet_ok packet_answer requesters
    union agree requests_within word_of ones ones_in iter tab same all_below asks
    deal_one deal_round dealt keep_one kept better chosen fill_one filled next total run schedule_of owners_of owner_of own_slots how_many
computed = record {
  one = refl;
  two = refl;
  owns-one = refl;
  owns-two = refl;
  owns-last = refl;
  own-one = refl;
  own-two = refl;
  early = refl;
  determined = refl;
}

-- Boxes apart

sorted-is : sorted at_end.log 3 ≡ acts
unfolding acted ticked apart_run between sorted begun_apart
sorted-is = refl

sorted-first : sorted at_end.log 0 ≡ first
unfolding acted ticked apart_run between sorted begun_apart
sorted-first = refl

clocks-is : (half_way.clock 1 ≡ 3) × ((half_way.clock 2 ≡ 1) × (half_way.clock 3 ≡ 1))
unfolding acted ticked apart_run begun_apart
clocks-is = (refl, (refl, refl))

clock-end : (at_end.clock 1 ≡ 3) × (at_end.clock 2 ≡ 3)
unfolding acted ticked apart_run begun_apart
clock-end = (refl, refl)

demand3 : ApartDemand3 settings case_table full at_end
demand3 = apart-holds.demand3 settings case_table full case-begins spread

-- a box as it is at the end
end-box : (j : ℕ) → at_end.clock j ≡ 3 → box_now at_end j ≡ (fleet_run x acts).boxes j
end-box j e = demand3.as_one.boxes (at_end.clock j) j (omega arith) ∙ ap (λ (s : ℕ). (fleet_run x (sorted at_end.log s)).boxes j) e
    ∙ ap (λ (es : List Act). (fleet_run x es).boxes j) sorted-is

reads : (j k : ℕ) → 1 ≤ j → at_end.clock j ≡ 3 → is_live (member_at (site_by acts) j) ≡ true → owner (member_at (site_by acts) j).node k ≡ j
    → Reads at_end j k
reads j k l e h o =
    record {
      numbered = l;
      phase = ap negotiation e;
      lives = ap live (end-box j e) ∙ lives acts j l h;
      owns = ap (λ (b : Box). slot_in (reading b) k) (end-box j e) ∙ slot_is acts j l h k ∙ o;
    }

gets : (j k : ℕ) → 1 ≤ j → at_end.clock j ≡ 3 → is_live (member_at (site_by acts) j) ≡ true → owner (member_at (site_by acts) j).node k ≡ j
    → Gets at_end j k
gets j k l e h o = (apart-holds.same-slots settings case_table full case-begins spread j k).1 (reads j k l e h o)

-- the three numbers, as its node has them
own_is : (j k : ℕ) → 1 ≤ j → at_end.clock j ≡ 3 → is_live (member_at (site_by acts) j) ≡ true → owner (member_at (site_by acts) j).node k ≡ j
    → box_slots (box_now at_end j) ≡ own_slots (member_at (site_by acts) j).node
unfolding own_slots
own_is j k l e h o =
    slots-are (box_now at_end j).area (zeros slots_size) (gets j k l e h o).answer
    ∙ ap own_slots (ap (λ (b : Box). decoded b.area) (end-box j e) ∙ node-is acts j l h)

used : (j k : ℕ) → Knows at_end j k → Uses settings case_table full spread j k
unfolding all_stay
used j k r = record { before = spread; since = []; are = refl; knew = r; stayed = refl }

first-box : (at_end.phases 0).boxes 1 ≡ (fleet_run x first).boxes 1
first-box = demand3.as_one.boxes 0 1 (omega arith) ∙ ap (λ (es : List Act). (fleet_run x es).boxes 1) sorted-first

determining : Determines settings at_end 0 1
determining =
    record {
      negotiates = record {
        number = omega arith;
        phase = refl;
        came = omega arith;
        lives = ap live first-box ∙ lives first 1 (omega arith) computed.early;
      };
      number = omega arith;
      determines = ap (λ (b : Box). determines (decoded b.area)) first-box
          ∙ ap determines (node-is first 1 (omega arith) computed.early) ∙ computed.determined;
    }

-- half-way: 20 is box 1's second call, and the others' second call is due and not 3 late
half-on-time : (j : ℕ) → 1 ≤ j → j ≤ 3 → OnTime (λ n. 10 * n) 3 20 (half_way.clock j)
half-on-time zero l m = absurd (omega arith)
half-on-time (suc zero) l m = subst (OnTime (λ n. 10 * n) 3 20) (sym clocks-is.0) (record { last = omega arith; next = omega arith })
half-on-time (suc (suc zero)) l m = subst (OnTime (λ n. 10 * n) 3 20) (sym clocks-is.1.0) (record {
  last = omega arith;
  next = omega arith;
})
half-on-time (suc (suc (suc zero))) l m = subst (OnTime (λ n. 10 * n) 3 20) (sym clocks-is.1.1) (record {
  last = omega arith;
  next = omega arith;
})
half-on-time (suc (suc (suc (suc j)))) l m = absurd (omega arith)

pub spread-case : SpreadCase
unfolding acted ticked apart_run begun_apart
spread-case =
    record {
      sorted = sorted-is;
      clocks = refl;
      clocks-then = refl;
      own = own_is 1 0 (omega arith) clock-end.0 computed.one computed.owns-one ∙ computed.own-one;
      own-too = own_is 2 1 (omega arith) clock-end.1 computed.two computed.owns-two ∙ computed.own-two;
      gets = gets 1 3 (omega arith) clock-end.0 computed.one computed.owns-last;
      uses = used 1 0 (by_read (reads 1 0 (omega arith) clock-end.0 computed.one computed.owns-one));
      uses-too = used 2 1 (by_slots (gets 2 1 (omega arith) clock-end.1 computed.two computed.owns-two));
      determines = determining;
      orderly = orderly-from-begin settings case_table full spread refl;
      orderly-crashing = orderly-from-begin settings case_table full crashing refl;
      on-time = record {
        each = λ j u.
            let r = up-inside settings case_table full half_way (keeps-run (begun_fleet settings case_table full)
            (begun_apart settings case_table full) (keeps-begun settings case_table full) half) j u in
            half-on-time j r.0 r.1;
      };
    }
