-- The histories, computed by the definitions.
-- Assumes nothing.
use mathlib.Core.Path.{◌≡◌, refl, sym, ap, ◌∙◌}
use mathlib.Core.Bool.{true, false, not, ◌||◌}
use mathlib.Core.Logic.{inl, inr}
use mathlib.Core.List.{[], ◌∷◌, ◌++◌, map}
use Prim.Native.Nat.{ℕ, zero, suc, ◌*◌, ◌<◌}
use native.Mathlib.Omega.{arith}
use native.Mathlib.Decide.{dec_lt}
use borrow.Author.Tests.{ltb-true, eqb-true}
use lib.Dec.{ltb, eqb}
use lib.ListN.{length, take, get_or-eq_default}
use lib.Count.{ones, ones_in}
use Rattle.words.specs.Bits.{word_of, size}
use Rattle.words.proofs.Tests.{by-test, clash, implied}
use Rattle.lists.specs.All.{iter, tab, same, all_below}
use Rattle.lists.proofs.Every.{every-tab}
use Rattle.lists.proofs.Laws.{all-at}
use Rattle.allotment.specs.Allotment.{owners_of, schedule_of, asks, deal_one, deal_round, dealt, keep_one, kept, better, chosen, fill_one, filled}
use Rattle.allotment.specs.Allotment.{next, total}
use Rattle.membership.specs.requests.Requests.{requesters, union, agree, requests_within}
use Rattle.node.specs.Figures.{config_ok, flags_ok, is_last}
use Rattle.node.specs.Negotiation.{opened, packet_of, merges, noted, joined, interacted, heard_node, send_answer, hear_answer}
use Rattle.node.specs.Close.{complete, level, verdict, due, raised, stayed, closed_node, close_answer}
use Rattle.membership.specs.counters.Counters.{counted}
use Rattle.node.specs.Distribution.{sent_by, taken_epoch, taken_node, take_answer}
use Rattle.node.specs.Begin.{begun, waiting, start_answer}
use Rattle.node.specs.End.{next_round, waits_on, next_epoch, ended_node, end_answer}
use Rattle.membership.specs.counters.Counters.{with_self, members_of}
use Rattle.node.specs.Answers.{Done}
use Rattle.wire.specs.Layout.{packet_bytes, packet_in}
use Rattle.wire.specs.Reads.{packet_ok, packet_answer}
use Rattle.site.specs.Members.{nobody, member_at, is_live}
use Rattle.site.specs.Load.{load_answer, loaded_site, loaded_member, table_ok, row_ok}
use Rattle.site.specs.Answers.{site_send, answer_part, site_hear, site_close, site_take, site_end, site_crash, answer_of}
use Rattle.site.specs.Steps.{sent_site, sent_area, heard_site, closed_site, taken_site, ended_site, crashed_site, site_after, area_after}
use Rattle.site.specs.Run.{RunState, run}
use Rattle.site.specs.Model.{Member}
use Rattle.site.specs.Model.{Site}
use Rattle.site.specs.declared.Event.TheVariants.{Send, Hear, Close, End}
use Rattle.histories.specs.Past.{determined_at, past_after, trace}
use Rattle.agreement.specs.Demand.{determinations}
use Rattle.histories.specs.Reached.{reached, past_of}
use Rattle.recovery.specs.Calm.{site_member, live_in, live_set, unwatched, all_heard, watch_after, watched, Ready, Calm, epoch_end, NobodyJoins}
use Rattle.examples.specs.cases.Histories.{area, summary, all_talk, informed_three, alone_config, alone_table, trio, all_at, whole_case}
use Rattle.examples.specs.cases.Histories.{calm_body, ship, halves, halves_talk, pair, pair_table, one_left, Histories}

loads : (load_answer alone_config alone_table ≡ Done) × (load_answer trio (all_at 1) ≡ Done) × (load_answer trio (all_at 0) ≡ Done)
unfolding load_answer table_ok row_ok start_answer config_ok flags_ok all_below
loads = (refl, refl, refl)

determined : (summary (determinations alone_config alone_table area (Close ∷ End ∷ Close ∷ []))
    ≡ (0 ∷ 1 ∷ 2 ∷ 1 ∷ []) ∷ (0 ∷ 1 ∷ 2 ∷ 1 ∷ []) ∷ [])
    × (summary (determinations trio (all_at 1) area whole_case) ≡ (0 ∷ 1 ∷ 2 ∷ 7 ∷ []) ∷ [])
    × (summary (determinations trio (all_at 0) area calm_body) ≡ (0 ∷ 1 ∷ 1 ∷ 7 ∷ []) ∷ (0 ∷ 2 ∷ 1 ∷ 7 ∷ []) ∷ (0 ∷ 3 ∷ 1 ∷ 7 ∷ []) ∷ [])
unfolding trace run past_after determined_at site_after area_after answer_of site_send answer_part site_hear site_close site_take site_end sent_site
    sent_area heard_site closed_site taken_site ended_site loaded_site loaded_member
    begun waiting opened packet_of merges noted joined interacted heard_node send_answer hear_answer complete level verdict counted due raised
    stayed closed_node close_answer sent_by taken_epoch taken_node
    take_answer with_self next_round waits_on members_of next_epoch ended_node end_answer packet_bytes packet_in packet_ok packet_answer requesters
    union agree requests_within word_of ones ones_in iter tab same all_below asks
    deal_one deal_round dealt keep_one kept better chosen fill_one filled next total
determined = (refl, refl, refl)

-- a site that may split
split-loads : (load_answer ship halves ≡ Done) × (load_answer pair pair_table ≡ Done)
unfolding load_answer table_ok row_ok start_answer config_ok flags_ok all_below
split-loads = (refl, refl)

parted : (summary (determinations ship halves area (halves_talk ++ (Close ∷ [])))
    ≡ (0 ∷ 1 ∷ 2 ∷ 3 ∷ []) ∷ (0 ∷ 2 ∷ 2 ∷ 3 ∷ []) ∷ (0 ∷ 3 ∷ 2 ∷ 12 ∷ []) ∷ (0 ∷ 4 ∷ 2 ∷ 12 ∷ []) ∷ [])
    × (map (λ j. take 4 (owners_of (member_at (reached ship halves area (halves_talk ++ (Close ∷ End ∷ []))).site j).node.schedule))
    (1 ∷ 4 ∷ []) ≡ (1 ∷ 2 ∷ 1 ∷ 2 ∷ []) ∷ (3 ∷ 4 ∷ 3 ∷ 4 ∷ []) ∷ [])
unfolding trace run past_after determined_at site_after area_after answer_of site_send answer_part site_hear site_close site_take site_end sent_site
    sent_area heard_site closed_site taken_site ended_site loaded_site loaded_member
    begun waiting opened packet_of merges noted joined interacted heard_node send_answer hear_answer complete level verdict counted due raised
    stayed closed_node close_answer sent_by taken_epoch taken_node
    take_answer with_self next_round waits_on members_of next_epoch ended_node end_answer packet_bytes packet_in packet_ok packet_answer requesters
    union agree requests_within word_of ones ones_in iter tab same all_below asks
    deal_one deal_round dealt keep_one kept better chosen fill_one filled next total owners_of schedule_of
parted = (refl, refl)

half-noted : let w = reached pair pair_table area one_left in let r = watched (live_set w.site) unwatched w (Close ∷ []) in
    (r.over ≡ false) × (r.crashed ≡ false) × (r.full ≡ 1) × (answer_of (run w (Close ∷ [])).site (run w (Close ∷ [])).area End ≡ Done)
    × (is_last w.site.config (run w (Close ∷ [])).site.place ≡ true)
unfolding trace run past_after site_after area_after answer_of site_close site_end site_crash closed_site ended_site crashed_site loaded_site
    loaded_member live_set all_heard watch_after watched
    begun waiting opened complete level verdict counted due raised stayed closed_node close_answer with_self next_round waits_on members_of
    next_epoch ended_node end_answer
    requesters word_of ones ones_in iter tab same all_below asks deal_one deal_round dealt keep_one kept better chosen fill_one filled next total
half-noted = (refl, refl, refl, refl, refl)

half-calm-so : Calm (live_set (reached pair pair_table area one_left).site) (reached pair pair_table area one_left) (Close ∷ [])
half-calm-so = record {
  within = half-noted.0;
  safe = half-noted.1;
  full = omega (arith, half-noted.2);
  ends = half-noted.3;
  last = half-noted.4;
}

-- who is live then: node 1 alone
half-live : (all_below 32 (λ i. not (live_in (reached pair pair_table area one_left).site i) || eqb i 0) ≡ true)
    × (length (reached pair pair_table area one_left).site.members ≡ 32)
unfolding run site_after area_after answer_of site_close site_end site_crash closed_site ended_site crashed_site loaded_site loaded_member
    begun waiting opened complete level verdict counted due raised stayed closed_node close_answer with_self next_round waits_on members_of
    next_epoch ended_node end_answer
    requesters word_of ones ones_in iter tab same all_below total
half-live = (refl, refl)

only-first : (i : ℕ) → live_in (reached pair pair_table area one_left).site i ≡ true → i ≡ 0
only-first i l = go (dec_lt i 32)
  where
    s : Site
    s = (reached pair pair_table area one_left).site

    go : Dec (i < 32) → i ≡ 0
    go (yes h) = eqb-true i 0 (implied (live_in s i) (eqb i 0) (all-at 32 (λ k. not (live_in s k) || eqb k 0) half-live.0 i h) l)
    go (no h) = clash (live_in s i) l (ap is_live (get_or-eq_default s.members nobody {n = i} (omega (arith, half-live.1))))

half-begins : let s = (reached pair pair_table area one_left).site in
    ((past_of pair pair_table area one_left).start ≡ s) × (s.place ≡ 0) × (s.config.split ≡ 1) × ((site_member s 0).node.flags ≡ live_set s)
    × ((site_member s 0).node.version ≡ 1)
unfolding trace run past_after site_after area_after answer_of site_close site_end site_crash closed_site ended_site crashed_site loaded_site
    loaded_member live_set
    begun waiting opened complete level verdict counted due raised stayed closed_node close_answer with_self next_round waits_on members_of
    next_epoch ended_node end_answer
    requesters word_of ones ones_in iter tab same all_below total
half-begins = (refl, refl, refl, refl, refl)

half-ready-so : Ready (past_of pair pair_table area one_left) (reached pair pair_table area one_left).site 1
half-ready-so =
    let s = (reached pair pair_table area one_left).site in
    record {
      start = half-begins.0;
      place = half-begins.1;
      suffices = inr (
        half-begins.2,
        λ i j li lj. ap (λ (k : ℕ). (site_member s k).node.schedule)
            (only-first i li ∙ sym (only-first j lj)),
      );
      flags = λ i l. ap (λ (k : ℕ). (site_member s k).node.flags) (only-first i l) ∙ half-begins.3;
      version = λ i l. ap (λ (k : ℕ). (site_member s k).node.version) (only-first i l) ∙ half-begins.4;
      below = omega arith;
    }

-- who lacks no request
informed-so : (informed_three (reached trio (all_at 1) area all_talk).site ≡ true ∷ true ∷ true ∷ [])
    × (informed_three (reached trio (all_at 1) area (Send 2 ∷ Send 3 ∷ Hear 1 1 ∷ Hear 1 2 ∷ [])).site ≡ true ∷ false ∷ false ∷ [])
unfolding run site_after area_after answer_of site_send answer_part site_hear sent_site sent_area heard_site loaded_site loaded_member begun waiting
    opened packet_of merges noted joined interacted heard_node send_answer
    hear_answer packet_bytes packet_in packet_ok packet_answer requesters union agree requests_within word_of ones ones_in tab same all_below total
informed-so = (refl, refl)

-- the calm epoch: what is noted along it, and its last end
noted-so : let w = reached trio (all_at 1) area [] in let r = watched (live_set w.site) unwatched w calm_body in
    (r.over ≡ false) × (r.crashed ≡ false) × (r.full ≡ 1) × (answer_of (run w calm_body).site (run w calm_body).area End ≡ Done)
    × (is_last trio (run w calm_body).site.place ≡ true)
unfolding trace run past_after site_after area_after answer_of site_send answer_part site_hear site_close site_end sent_site sent_area heard_site
    closed_site loaded_site loaded_member live_set all_heard watch_after watched
    begun waiting opened packet_of merges noted joined interacted heard_node send_answer hear_answer complete level verdict counted due raised
    stayed closed_node close_answer packet_bytes packet_in packet_ok
    packet_answer requesters union agree requests_within word_of ones ones_in iter tab same all_below asks deal_one deal_round dealt keep_one kept
    better chosen fill_one filled next total
noted-so = (refl, refl, refl, refl, refl)

calm-so : Calm (live_set (reached trio (all_at 1) area []).site) (reached trio (all_at 1) area []) calm_body
unfolding run loaded_site
calm-so = record { within = noted-so.0; safe = noted-so.1; full = omega (arith, noted-so.2); ends = noted-so.3; last = noted-so.4 }

-- after its last end nobody is live who was not before
alive : let w = reached trio (all_at 1) area [] in (all_below 32 (λ i. not (live_in (epoch_end w calm_body) i) || live_in w.site i) ≡ true)
    × (length (epoch_end w calm_body).members ≡ 32)
unfolding trace run past_after site_after area_after answer_of site_send answer_part site_hear site_close site_end sent_site sent_area heard_site
    closed_site ended_site loaded_site loaded_member
    begun waiting opened packet_of merges noted joined interacted heard_node send_answer hear_answer complete level verdict counted due raised
    stayed closed_node close_answer with_self next_round waits_on members_of
    next_epoch ended_node end_answer packet_bytes packet_in packet_ok packet_answer requesters union agree requests_within word_of ones ones_in iter
    tab same all_below asks deal_one deal_round dealt keep_one kept better chosen
    fill_one filled next total
alive = (refl, refl)

joins-so : NobodyJoins (reached trio (all_at 1) area []).site (epoch_end (reached trio (all_at 1) area []) calm_body)
joins-so j l = go (dec_lt j 32)
  where
    w : RunState
    w = reached trio (all_at 1) area []

    go : Dec (j < 32) → live_in w.site j ≡ true
    go (yes h) = implied (live_in (epoch_end w calm_body) j) (live_in w.site j)
        (all-at 32 (λ i. not (live_in (epoch_end w calm_body) i) || live_in w.site i) alive.0 j h) l
    go (no h) = clash (live_in (epoch_end w calm_body) j) l (ap is_live
        (get_or-eq_default (epoch_end w calm_body).members nobody {n = j} (omega (arith, alive.1))))

-- it begins with the three, and nobody else
at-most-three : (i : ℕ) → live_in (loaded_site trio (all_at 1)) i ≡ true → i < 3
unfolding loaded_site loaded_member
at-most-three i l =
    every-tab (λ (k : ℕ) (m : Member). is_live m ≡ true → k < 3) nobody 32 (loaded_member trio (all_at 1))
    (λ k. by-test (λ (m : Member). is_live m ≡ true → k < 3) (ltb k 3) _ _ (λ e d. ltb-true k 3 e) (λ e d. clash false d refl))
    (λ k d. clash false d refl) i l

by_three : (P : ℕ → Type 0) → P 0 → P 1 → P 2 → (i : ℕ) → i < 3 → P i
by_three P a b c zero h = a
by_three P a b c (suc zero) h = b
by_three P a b c (suc (suc zero)) h = c
by_three P a b c (suc (suc (suc i))) h = absurd (omega arith)

-- each of them at version 1, with the three as flags
begins-so : (3 < 2 * size (live_set (loaded_site trio (all_at 1))))
    × ((i : ℕ) → i < 3 → (site_member (loaded_site trio (all_at 1)) i).node.flags ≡ live_set (loaded_site trio (all_at 1)))
    × ((i : ℕ) → i < 3 → (site_member (loaded_site trio (all_at 1)) i).node.version ≡ 1)
unfolding loaded_site loaded_member live_set word_of tab begun ones ones_in
begins-so = (omega arith, by_three _ refl refl refl, by_three _ refl refl refl)

ready-so : Ready (past_of trio (all_at 1) area []) (reached trio (all_at 1) area []).site 1
unfolding trace run loaded_site
ready-so =
    record {
      start = refl;
      place = refl;
      suffices = inl (refl, begins-so.0);
      flags = λ i l. begins-so.1 i (at-most-three i l);
      version = λ i l. begins-so.2 i (at-most-three i l);
      below = omega arith;
    }

pub histories : Histories
histories =
    record {
      alone-loads = loads.0;
      trio-loads = loads.1;
      dark-loads = loads.2;
      alone = determined.0;
      whole = determined.1;
      dark = determined.2;
      ship-loads = split-loads.0;
      apart = parted.0;
      two-owners = parted.1;
      informed-all = informed-so.0;
      informed-one = informed-so.1;
      ready = ready-so;
      calm = calm-so;
      pair-loads = split-loads.1;
      half-ready = half-ready-so;
      half-calm = half-calm-so;
      often = omega (arith, noted-so.2);
      nobody-joins = joins-so;
    }
