-- The hypothesis can be met, and the bound is reached: a lone node holds its one slot as the second epoch begins, and the tally counts it.
-- Assumes nothing.
use mathlib.Core.Path.{◌≡◌, refl}
use mathlib.Core.Bool.{true}
use mathlib.Core.List.{List, [], ◌∷◌}
use Prim.Native.Nat.{ℕ}
use lib.Count.{ones, ones_in}
use lib.ListN.{replicate}
use Rattle.words.specs.Bits.{word_of, how_many}
use Rattle.lists.specs.All.{iter, tab, all_below}
use Rattle.allotment.specs.Allotment.{owners_of, owner_of, schedule_of, asks, deal_one, deal_round, dealt, keep_one, kept, better, chosen}
use Rattle.allotment.specs.Allotment.{fill_one, filled, next}
use Rattle.membership.specs.counters.Counters.{counted as heard_counted, with_self, members_of}
use Rattle.node.specs.Figures.{config_ok, flags_ok}
use Rattle.node.specs.Begin.{begun, waiting, start_answer}
use Rattle.node.specs.Negotiation.{opened}
use Rattle.node.specs.Close.{complete, level, verdict, due, raised, stayed, closed_node, close_answer}
use Rattle.node.specs.End.{next_round, waits_on, next_epoch, ended_node, end_answer}
use Rattle.node.specs.Answers.{Done}
use Rattle.membership.specs.requests.Requests.{requesters, requests_within}
use Rattle.site.specs.Answers.{area_size, answer_of, site_close, site_end}
use Rattle.site.specs.Load.{no_row, row_ok, table_ok, load_answer, loaded_site, loaded_member}
use Rattle.site.specs.Steps.{site_after, area_after, closed_site, ended_site}
use Rattle.site.specs.Run.{run}
use Rattle.site.specs.declared.Event.{Event}
use Rattle.site.specs.declared.Event.TheVariants.{Close, End}
use Rattle.node.specs.declared.Config.{Config}
use Rattle.site.specs.declared.Table.{Table}
use Rattle.histories.specs.Reached.{begin}
use Rattle.tally.specs.Claims.{sum, claimants}
use Rattle.tally.specs.Counting.{tally_ok, added, epoch_counted}
use Rattle.tally.specs.Ends.{schedules_of, tally_at, tallied_answer, tallied_site, tallied_area, tally_after}
use Rattle.agreement.specs.accounts.Accounts.{run_tallied, account}

config : Config
config = record { nodes = 1; slots = 1; rounds = 1; min_heard = 1; split = 0 }

table : Table
table = record { rows = record { version = 1; flags = 1; want = 1 } ∷ replicate 31 no_row }

area : List ℕ
area = replicate area_size 0

events : List Event
events = Close ∷ End ∷ []

loads : load_answer config table ≡ Done
unfolding config table load_answer table_ok row_ok start_answer config_ok flags_ok all_below
loads = refl

one-claims : (claimants (schedules_of (run (begin config table area) events).site) 0 ≡ 1)
    × ((run (begin config table area) events).site.negotiates ≡ true)
unfolding config table area events run site_after area_after answer_of site_close site_end closed_site ended_site loaded_site loaded_member begun
    waiting opened complete level verdict heard_counted due raised stayed closed_node close_answer
    with_self next_round waits_on members_of next_epoch ended_node end_answer requesters requests_within word_of how_many ones ones_in iter tab
    all_below asks deal_one deal_round dealt keep_one kept better chosen fill_one filled next
    owners_of owner_of schedule_of schedules_of
one-claims = (refl, refl)

counters : (account config table area events).tally ≡ record { epochs = 2; total = 1; slots = 1 ∷ replicate 31 0; held = 1 ∷ replicate 31 0 }
unfolding config table area events run_tallied tallied_answer tallied_site tallied_area tally_after tally_at tally_ok added epoch_counted sum
    schedules_of
    site_after area_after answer_of site_close site_end closed_site ended_site loaded_site loaded_member begun waiting opened complete level verdict
    heard_counted due raised stayed closed_node close_answer
    with_self next_round waits_on members_of next_epoch ended_node end_answer requesters requests_within word_of how_many ones ones_in iter tab
    all_below asks deal_one deal_round dealt keep_one kept better chosen fill_one filled next
    owners_of owner_of schedule_of
counters = refl
