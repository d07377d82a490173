-- A site with its day (3.7 Demands by the hour), its tally (3.8 Slots held) and the packet area lent with it.
-- Each event is lent a list of windows.
-- Assumes nothing.
use Rattle.std.specs.Prelude.{Bool, cond, List, ℕ}
use Rattle.node.specs.Answers.{Answer, Done, BadWindows, is_done}
use Rattle.site.specs.Events.{is_end}
use Rattle.site.specs.Steps.{area_after}
use Rattle.site.specs.declared.Event.{Event}
use Rattle.windows.specs.Windows.{list_ok}
use Rattle.windows.specs.declared.Window.{Window}
use Rattle.machine.specs.timed.Timed.{Timed, next_timed}
use Rattle.tally.specs.Ends.{tallied_answer, tally_at}
use Rattle.tally.specs.declared.Tally.{Tally}

pub record Kept : Type 0 where
  pub timed : Timed
  pub area : List ℕ
  pub tally : Tally

-- the first of two answers that refuses
abbrev pub first_refusal : Answer → Answer → Answer
first_refusal a b = cond (is_done a) b a

-- whether the list keeps the rules for the site's nodes and its day
abbrev pub list_fits : Kept → List Window → Bool
list_fits k ws = list_ok k.timed.site.config.nodes k.timed.day.length ws

-- the answer of the site with its tally, to an end 14 where nothing else is refused; then 16, to any event
unfoldable pub kept_answer : Kept → List Window → Event → Answer
kept_answer k ws e = first_refusal (tallied_answer k.timed.site k.area k.tally e) (cond (list_fits k ws) Done BadWindows)

-- an accepted event: with an end that begins an epoch its demands are given first, and the site behind an end is counted
unfoldable pub next_kept : Kept → List Window → Event → Kept
next_kept k ws e =
    record {
      timed = next_timed k.timed k.area ws e;
      area = area_after k.timed.site k.area e;
      tally = cond (is_end e) (tally_at (next_timed k.timed k.area ws e).site k.tally) k.tally;
    }

-- a refusal changes nothing
unfoldable pub kept_after : Kept → List Window → Event → Kept
kept_after k ws e = cond (is_done (kept_answer k ws e)) (next_kept k ws e) k
