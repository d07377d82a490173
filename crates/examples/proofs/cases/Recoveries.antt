-- Histories in which a site recovers, computed by the definitions.
-- Assumes nothing.
use mathlib.Core.Path.{◌≡◌, refl, sym, ap, ◌∙◌}
use mathlib.Core.Bool.{true}
use mathlib.Core.Logic.{inl, inr}
use mathlib.Core.List.{List, [], ◌∷◌}
use Prim.Native.Nat.{ℕ, zero, suc, ◌<◌}
use native.Mathlib.Omega.{arith}
use borrow.Author.Tests.{eqb-true, ltb-true}
use lib.Count.{ones, ones_in}
use lib.Dec.{eqb, ltb}
use Rattle.words.specs.Bits.{word_of, size}
use Rattle.lists.specs.All.{iter, tab, same, all_below}
use Rattle.allotment.specs.Allotment.{owners_of, schedule_of, asks, deal_one, deal_round, dealt, keep_one, kept, better, chosen, fill_one, filled}
use Rattle.allotment.specs.Allotment.{next, total}
use Rattle.membership.specs.requests.Requests.{requesters, union, agree, requests_within}
use Rattle.node.specs.Figures.{config_ok, flags_ok, is_last}
use Rattle.node.specs.Negotiation.{opened, packet_of, merges, noted, joined, interacted, heard_node, send_answer, hear_answer}
use Rattle.node.specs.Close.{complete, level, verdict, due, raised, stayed, closed_node, close_answer}
use Rattle.membership.specs.counters.Counters.{counted}
use Rattle.node.specs.Distribution.{sent_by, taken_epoch, taken_node, take_answer}
use Rattle.node.specs.Begin.{begun, waiting, start_answer}
use Rattle.node.specs.End.{next_round, waits_on, next_epoch, ended_node, end_answer}
use Rattle.membership.specs.counters.Counters.{with_self, members_of}
use Rattle.node.specs.Answers.{Done, is_done}
use Rattle.wire.specs.Layout.{packet_bytes, packet_in}
use Rattle.wire.specs.Reads.{packet_ok, packet_answer}
use Rattle.site.specs.Load.{load_answer, loaded_site, loaded_member, table_ok, row_ok}
use Rattle.site.specs.Answers.{site_send, answer_part, site_hear, site_close, site_take, site_end, site_want, site_crash, site_restart, answer_of}
use Rattle.site.specs.Steps.{sent_site, sent_area, heard_site, closed_site, taken_site, ended_site, wanted_site, crashed_site, restarted_site}
use Rattle.site.specs.Steps.{site_after, area_after}
use Rattle.site.specs.Run.{RunState, after, run}
use Rattle.node.specs.declared.Config.{Config}
use Rattle.site.specs.declared.Table.{Table}
use Rattle.site.specs.declared.Event.{Event}
use Rattle.site.specs.declared.Event.TheVariants.{End}
use Rattle.words.proofs.Tests.{hit}
use Rattle.histories.specs.Past.{Past, no_past, determined_at, past_after, trace}
use Rattle.histories.specs.Reached.{begin, reached, past_of}
use Rattle.agreement.proofs.daily.Wants.{run-append, trace-append}
use Rattle.node.specs.Begin.{restart_answer}
use Rattle.node.specs.Steps.{wanted_node}
use Rattle.recovery.specs.Calm.{site_member, live_in, live_set, unwatched, all_heard, watch_after, watched, epoch_end, whole}
use Rattle.examples.specs.cases.Histories.{area, trio, all_at, calm_body, ship, halves}
use Rattle.examples.specs.cases.Recoveries.{moment, past_then, strict, two_rounds, fore_talk, aft_lost, darkened, three_hold, determined_in}
use Rattle.examples.specs.cases.Recoveries.{Recoveries}
use Rattle.examples.proofs.cases.Tests.{each_live, each_live_lem, is_ready, ready_by, is_calm, calm-by}

-- an accepted end leaves the site with which the next round starts, and so does a list with such an end
last-end : (past : Past) (w : RunState) → is_done (answer_of w.site w.area End) ≡ true → (past_after past w End).start ≡ (after w End).site
unfolding past_after
last-end past w h = ap (λ (p : Past). p.start) (hit _ _ past h)

start-whole : (f : Config) (t : Table) (l : List ℕ) (body : List Event)
    → is_done (answer_of (reached f t l body).site (reached f t l body).area End) ≡ true
    → (past_of f t l (whole body)).start ≡ (reached f t l (whole body)).site
unfolding run trace
start-whole f t l body h =
    let w = begin f t l in
    let p = no_past (loaded_site f t) in
    ap (λ (x : Past). x.start) (trace-append p w body (End ∷ [])) ∙ last-end (trace p w body) (run w body) h
    ∙ sym (ap (λ (x : RunState). x.site) (run-append w body (End ∷ [])))

-- the tests, computed
again-ends : is_done (answer_of (moment trio calm_body).site (moment trio calm_body).area End) ≡ true
unfolding trace run past_after determined_at site_after area_after answer_of site_send answer_part site_hear site_close site_take site_end site_want
    site_crash site_restart sent_site sent_area heard_site closed_site taken_site ended_site wanted_site crashed_site
    restarted_site loaded_site loaded_member live_set all_heard watch_after watched begun waiting opened packet_of merges noted joined interacted
    heard_node send_answer hear_answer complete level verdict counted due raised stayed closed_node
    close_answer sent_by taken_epoch taken_node take_answer with_self next_round waits_on members_of next_epoch ended_node end_answer packet_bytes
    packet_in packet_ok packet_answer requesters union agree requests_within word_of ones ones_in iter tab
    same all_below asks deal_one deal_round dealt keep_one kept better chosen fill_one filled next total owners_of schedule_of start_answer
    restart_answer config_ok flags_ok wanted_node
again-ends = refl

again-start : (past_then trio (whole calm_body)).start ≡ (moment trio (whole calm_body)).site
again-start = start-whole trio (all_at 1) area calm_body again-ends

again-ready : is_ready (moment trio (whole calm_body)).site 2 ≡ true
unfolding trace run past_after determined_at site_after area_after answer_of site_send answer_part site_hear site_close site_take site_end site_want
    site_crash site_restart sent_site sent_area heard_site closed_site taken_site ended_site wanted_site crashed_site
    restarted_site loaded_site loaded_member live_set all_heard watch_after watched begun waiting opened packet_of merges noted joined interacted
    heard_node send_answer hear_answer complete level verdict counted due raised stayed closed_node
    close_answer sent_by taken_epoch taken_node take_answer with_self next_round waits_on members_of next_epoch ended_node end_answer packet_bytes
    packet_in packet_ok packet_answer requesters union agree requests_within word_of ones ones_in iter tab
    same all_below asks deal_one deal_round dealt keep_one kept better chosen fill_one filled next total owners_of schedule_of start_answer
    restart_answer config_ok flags_ok wanted_node
again-ready = refl

again-live : size (live_set (moment trio (whole calm_body)).site) ≡ 3
unfolding trace run past_after determined_at site_after area_after answer_of site_send answer_part site_hear site_close site_take site_end site_want
    site_crash site_restart sent_site sent_area heard_site closed_site taken_site ended_site wanted_site crashed_site
    restarted_site loaded_site loaded_member live_set all_heard watch_after watched begun waiting opened packet_of merges noted joined interacted
    heard_node send_answer hear_answer complete level verdict counted due raised stayed closed_node
    close_answer sent_by taken_epoch taken_node take_answer with_self next_round waits_on members_of next_epoch ended_node end_answer packet_bytes
    packet_in packet_ok packet_answer requesters union agree requests_within word_of ones ones_in iter tab
    same all_below asks deal_one deal_round dealt keep_one kept better chosen fill_one filled next total owners_of schedule_of start_answer
    restart_answer config_ok flags_ok wanted_node
again-live = refl

again-calm : is_calm (live_set (moment trio (whole calm_body)).site) (moment trio (whole calm_body)) calm_body ≡ true
unfolding trace run past_after determined_at site_after area_after answer_of site_send answer_part site_hear site_close site_take site_end site_want
    site_crash site_restart sent_site sent_area heard_site closed_site taken_site ended_site wanted_site crashed_site
    restarted_site loaded_site loaded_member live_set all_heard watch_after watched begun waiting opened packet_of merges noted joined interacted
    heard_node send_answer hear_answer complete level verdict counted due raised stayed closed_node
    close_answer sent_by taken_epoch taken_node take_answer with_self next_round waits_on members_of next_epoch ended_node end_answer packet_bytes
    packet_in packet_ok packet_answer requesters union agree requests_within word_of ones ones_in iter tab
    same all_below asks deal_one deal_round dealt keep_one kept better chosen fill_one filled next total owners_of schedule_of start_answer
    restart_answer config_ok flags_ok wanted_node
again-calm = refl

asked : (live_set (moment trio []).site ≡ live_set (moment trio (whole calm_body)).site)
    × (each_live (moment trio []).site (λ i. eqb (site_member (moment trio []).site i).node.request
    (site_member (moment trio (whole calm_body)).site i).node.request) ≡ true)
unfolding trace run past_after determined_at site_after area_after answer_of site_send answer_part site_hear site_close site_take site_end site_want
    site_crash site_restart sent_site sent_area heard_site closed_site taken_site ended_site wanted_site crashed_site
    restarted_site loaded_site loaded_member live_set all_heard watch_after watched begun waiting opened packet_of merges noted joined interacted
    heard_node send_answer hear_answer complete level verdict counted due raised stayed closed_node
    close_answer sent_by taken_epoch taken_node take_answer with_self next_round waits_on members_of next_epoch ended_node end_answer packet_bytes
    packet_in packet_ok packet_answer requesters union agree requests_within word_of ones ones_in iter tab
    same all_below asks deal_one deal_round dealt keep_one kept better chosen fill_one filled next total owners_of schedule_of start_answer
    restart_answer config_ok flags_ok wanted_node
asked = (refl, refl)

strict-start : (load_answer strict (all_at 1) ≡ Done) × ((past_then strict []).start ≡ (moment strict []).site)
    × (is_ready (moment strict []).site 1 ≡ true) × (size (live_set (moment strict []).site) ≡ 3)
unfolding load_answer table_ok row_ok start_answer config_ok flags_ok all_below trace run loaded_site loaded_member live_set word_of tab begun waiting
    ones ones_in
strict-start = (refl, refl, refl, refl)

strict-epoch : (is_calm (live_set (moment strict []).site) (moment strict []) two_rounds ≡ true)
    × ((watched (live_set (moment strict []).site) unwatched (moment strict []) two_rounds).full ≡ 2)
unfolding trace run past_after determined_at site_after area_after answer_of site_send answer_part site_hear site_close site_take site_end site_want
    site_crash site_restart sent_site sent_area heard_site closed_site taken_site ended_site wanted_site crashed_site
    restarted_site loaded_site loaded_member live_set all_heard watch_after watched begun waiting opened packet_of merges noted joined interacted
    heard_node send_answer hear_answer complete level verdict counted due raised stayed closed_node
    close_answer sent_by taken_epoch taken_node take_answer with_self next_round waits_on members_of next_epoch ended_node end_answer packet_bytes
    packet_in packet_ok packet_answer requesters union agree requests_within word_of ones ones_in iter tab
    same all_below asks deal_one deal_round dealt keep_one kept better chosen fill_one filled next total owners_of schedule_of start_answer
    restart_answer config_ok flags_ok wanted_node
strict-epoch = (refl, refl)

strict-end : each_live (epoch_end (moment strict []) two_rounds) (live_in (moment strict []).site) ≡ true
unfolding trace run past_after determined_at site_after area_after answer_of site_send answer_part site_hear site_close site_take site_end site_want
    site_crash site_restart sent_site sent_area heard_site closed_site taken_site ended_site wanted_site crashed_site
    restarted_site loaded_site loaded_member live_set all_heard watch_after watched begun waiting opened packet_of merges noted joined interacted
    heard_node send_answer hear_answer complete level verdict counted due raised stayed closed_node
    close_answer sent_by taken_epoch taken_node take_answer with_self next_round waits_on members_of next_epoch ended_node end_answer packet_bytes
    packet_in packet_ok packet_answer requesters union agree requests_within word_of ones ones_in iter tab
    same all_below asks deal_one deal_round dealt keep_one kept better chosen fill_one filled next total owners_of schedule_of start_answer
    restart_answer config_ok flags_ok wanted_node
strict-end = refl

fore-start : let s = (reached ship halves area aft_lost).site in
    ((past_of ship halves area aft_lost).start ≡ s) × (is_ready s 2 ≡ true) × (s.config.split ≡ 1) × (each_live s (λ i. ltb i 2) ≡ true)
    × ((site_member s 0).node.schedule ≡ (site_member s 1).node.schedule) × (live_set s ≡ 3)
unfolding trace run past_after determined_at site_after area_after answer_of site_send answer_part site_hear site_close site_take site_end site_want
    site_crash site_restart sent_site sent_area heard_site closed_site taken_site ended_site wanted_site crashed_site
    restarted_site loaded_site loaded_member live_set all_heard watch_after watched begun waiting opened packet_of merges noted joined interacted
    heard_node send_answer hear_answer complete level verdict counted due raised stayed closed_node
    close_answer sent_by taken_epoch taken_node take_answer with_self next_round waits_on members_of next_epoch ended_node end_answer packet_bytes
    packet_in packet_ok packet_answer requesters union agree requests_within word_of ones ones_in iter tab
    same all_below asks deal_one deal_round dealt keep_one kept better chosen fill_one filled next total owners_of schedule_of start_answer
    restart_answer config_ok flags_ok wanted_node
fore-start = (refl, refl, refl, refl, refl, refl)

fore-epoch : is_calm (live_set (reached ship halves area aft_lost).site) (reached ship halves area aft_lost) fore_talk ≡ true
unfolding trace run past_after determined_at site_after area_after answer_of site_send answer_part site_hear site_close site_take site_end site_want
    site_crash site_restart sent_site sent_area heard_site closed_site taken_site ended_site wanted_site crashed_site
    restarted_site loaded_site loaded_member live_set all_heard watch_after watched begun waiting opened packet_of merges noted joined interacted
    heard_node send_answer hear_answer complete level verdict counted due raised stayed closed_node
    close_answer sent_by taken_epoch taken_node take_answer with_self next_round waits_on members_of next_epoch ended_node end_answer packet_bytes
    packet_in packet_ok packet_answer requesters union agree requests_within word_of ones ones_in iter tab
    same all_below asks deal_one deal_round dealt keep_one kept better chosen fill_one filled next total owners_of schedule_of start_answer
    restart_answer config_ok flags_ok wanted_node
fore-epoch = refl

dark-history : (answer_of (moment trio darkened).site (moment trio darkened).area End ≡ Done)
    × (is_last (moment trio darkened).site.config (moment trio darkened).site.place ≡ true)
    × (determined_in (past_then trio darkened) ≡ (0 ∷ 1 ∷ 2 ∷ []) ∷ (0 ∷ 2 ∷ 2 ∷ []) ∷ (0 ∷ 3 ∷ 2 ∷ []) ∷ (1 ∷ 1 ∷ 1 ∷ []) ∷ (1 ∷ 2 ∷ 1 ∷ [])
    ∷ []) × ((past_then trio darkened).epoch ≡ 1)
unfolding trace run past_after determined_at site_after area_after answer_of site_send answer_part site_hear site_close site_take site_end site_want
    site_crash site_restart sent_site sent_area heard_site closed_site taken_site ended_site wanted_site crashed_site
    restarted_site loaded_site loaded_member live_set all_heard watch_after watched begun waiting opened packet_of merges noted joined interacted
    heard_node send_answer hear_answer complete level verdict counted due raised stayed closed_node
    close_answer sent_by taken_epoch taken_node take_answer with_self next_round waits_on members_of next_epoch ended_node end_answer packet_bytes
    packet_in packet_ok packet_answer requesters union agree requests_within word_of ones ones_in iter tab
    same all_below asks deal_one deal_round dealt keep_one kept better chosen fill_one filled next total owners_of schedule_of start_answer
    restart_answer config_ok flags_ok wanted_node
dark-history = (refl, refl, refl, refl)

dark-holds : (three_hold (moment trio darkened).site ≡ (1 ∷ 1 ∷ 2 ∷ 1 ∷ 2 ∷ []) ∷ (1 ∷ 1 ∷ 2 ∷ 1 ∷ 2 ∷ []) ∷ (2 ∷ 1 ∷ 2 ∷ 3 ∷ 1 ∷ []) ∷ [])
    × (three_hold (moment trio (whole darkened)).site ≡ (1 ∷ 1 ∷ 2 ∷ 1 ∷ 2 ∷ []) ∷ (1 ∷ 1 ∷ 2 ∷ 1 ∷ 2 ∷ []) ∷ (0 ∷ 0 ∷ 0 ∷ 0 ∷ 0 ∷ []) ∷ [])
unfolding trace run past_after determined_at site_after area_after answer_of site_send answer_part site_hear site_close site_take site_end site_want
    site_crash site_restart sent_site sent_area heard_site closed_site taken_site ended_site wanted_site crashed_site
    restarted_site loaded_site loaded_member live_set all_heard watch_after watched begun waiting opened packet_of merges noted joined interacted
    heard_node send_answer hear_answer complete level verdict counted due raised stayed closed_node
    close_answer sent_by taken_epoch taken_node take_answer with_self next_round waits_on members_of next_epoch ended_node end_answer packet_bytes
    packet_in packet_ok packet_answer requesters union agree requests_within word_of ones ones_in iter tab
    same all_below asks deal_one deal_round dealt keep_one kept better chosen fill_one filled next total owners_of schedule_of start_answer
    restart_answer config_ok flags_ok wanted_node
dark-holds = (refl, refl)

split-nodes : ((moment trio (whole calm_body)).site.config.split ≡ 0) × ((moment trio (whole calm_body)).site.config.nodes ≡ 3)
unfolding trace run past_after determined_at site_after area_after answer_of site_send answer_part site_hear site_close site_take site_end site_want
    site_crash site_restart sent_site sent_area heard_site closed_site taken_site ended_site wanted_site crashed_site
    restarted_site loaded_site loaded_member live_set all_heard watch_after watched begun waiting opened packet_of merges noted joined interacted
    heard_node send_answer hear_answer complete level verdict counted due raised stayed closed_node
    close_answer sent_by taken_epoch taken_node take_answer with_self next_round waits_on members_of next_epoch ended_node end_answer packet_bytes
    packet_in packet_ok packet_answer requesters union agree requests_within word_of ones ones_in iter tab
    same all_below asks deal_one deal_round dealt keep_one kept better chosen fill_one filled next total owners_of schedule_of start_answer
    restart_answer config_ok flags_ok wanted_node
split-nodes = (refl, refl)

strict-config : ((moment strict []).site.config.split ≡ 0) × ((moment strict []).site.config.nodes ≡ 3)
unfolding run loaded_site
strict-config = (refl, refl)

-- the two that are live have one schedule
one-schedule : let s = (reached ship halves area aft_lost).site in (i j : ℕ) → live_in s i ≡ true → live_in s j ≡ true
    → (site_member s i).node.schedule ≡ (site_member s j).node.schedule
one-schedule i j li lj =
    let s = (reached ship halves area aft_lost).site in
    first i (ltb-true i 2 (each_live_lem s (λ k. ltb k 2) fore-start.3 i li))
    ∙ sym (first j (ltb-true j 2 (each_live_lem s (λ k. ltb k 2) fore-start.3 j lj)))
  where
    first : (k : ℕ) → k < 2 → (site_member (reached ship halves area aft_lost).site k).node.schedule
        ≡ (site_member (reached ship halves area aft_lost).site 0).node.schedule
    first zero h = refl
    first (suc zero) h = sym fore-start.4
    first (suc (suc k)) h = absurd (omega arith)

pub recoveries : Recoveries
recoveries =
    record {
      ready-again = ready_by (past_then trio (whole calm_body)) (moment trio (whole calm_body)).site 2 again-start
          (inl (split-nodes.0, omega (arith, split-nodes.1, again-live))) again-ready (omega arith);
      calm-again = calm-by _ (moment trio (whole calm_body)) calm_body again-calm;
      same_asked = record { live = asked.0; requests = λ i l. eqb-true _ _ (each_live_lem (moment trio []).site _ asked.1 i l) };
      strict-loads = strict-start.0;
      strict-ready = ready_by (past_then strict []) (moment strict []).site 1 strict-start.1
          (inl (strict-config.0, omega (arith, strict-config.1, strict-start.3))) strict-start.2 (omega arith);
      strict-calm = calm-by _ (moment strict []) two_rounds strict-epoch.0;
      strict-often = omega (arith, strict-epoch.1);
      strict-joins = λ j l. each_live_lem (epoch_end (moment strict []) two_rounds) (live_in (moment strict []).site) strict-end j l;
      fore-ready = ready_by (past_of ship halves area aft_lost) (reached ship halves area aft_lost).site 2 fore-start.0
          (inr (fore-start.2, one-schedule)) fore-start.1 (omega arith);
      fore-calm = calm-by _ (reached ship halves area aft_lost) fore_talk fore-epoch;
      fore-live = fore-start.5;
      dark-ends = record { accepted = dark-history.0; last = dark-history.1 };
      dark-determined = dark-history.2;
      dark-epoch = dark-history.3;
      old-beside = dark-holds.0;
      old-gone = dark-holds.1;
    }
