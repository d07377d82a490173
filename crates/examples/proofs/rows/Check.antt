-- Every starred case of the specification holds of the definitions: one proof, by computation.
-- Assumes nothing.
use mathlib.Core.Path.{◌≡◌, refl}
use mathlib.Core.Bool.{true}
use lib.Count.{ones, ones_in}
use Rattle.words.specs.Bits.{word_of}
use Rattle.lists.specs.All.{iter, tab, same, all_below}
use Rattle.allotment.specs.Allotment.{owners_of, schedule_of, asks, deal_one, deal_round, dealt, keep_one, kept, better, chosen, fill_one, filled}
use Rattle.allotment.specs.Allotment.{next}
use Rattle.membership.specs.requests.Requests.{requesters, union, agree}
use Rattle.node.specs.Negotiation.{opened, merges, noted, joined, interacted, heard_node, hear_answer}
use Rattle.node.specs.Close.{complete, level, verdict, due, raised, stayed, closed_node}
use Rattle.membership.specs.counters.Counters.{counted}
use Rattle.node.specs.Begin.{begun}
use Rattle.node.specs.End.{next_round, next_epoch, ended_node}
use Rattle.membership.specs.counters.Counters.{with_self, members_of}
use Rattle.node.specs.Grounds.{first_rule, rule_of}
use Rattle.examples.specs.rows.Table.{table, all_hold}

pub rows : all_hold table ≡ true
unfolding table all_hold ones ones_in word_of iter tab same all_below owners_of schedule_of asks deal_one deal_round dealt keep_one kept better
    chosen fill_one filled next requesters union agree opened merges noted joined interacted heard_node hear_answer complete level verdict
    counted due raised stayed closed_node begun next_round with_self members_of next_epoch ended_node first_rule rule_of
rows = refl
