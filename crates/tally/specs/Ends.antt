-- Specification, 3.8 Slots held: a site that is lent a tally. Every end is lent it; where an epoch begins with the end, the site behind it
-- is counted.
-- Assumes nothing.
use Rattle.std.specs.Prelude.{Bool, cond, ◌&&◌, List, ℕ, eqb, get_or}
use Rattle.lists.specs.All.{tab}
use Rattle.allotment.specs.Allotment.{free}
use Rattle.allotment.specs.Model.{Schedule}
use Rattle.node.specs.Answers.{is_done}
use Rattle.node.specs.Answers.{Answer}
use Rattle.node.specs.Answers.{Done, NotANode}
use Rattle.site.specs.Members.{nobody, is_live}
use Rattle.site.specs.Answers.{answer_of}
use Rattle.site.specs.Steps.{next_site, next_area}
use Rattle.site.specs.Events.{is_end}
use Rattle.site.specs.Model.{Member}
use Rattle.site.specs.Model.{Site}
use Rattle.site.specs.declared.Event.{Event}
use Rattle.tally.specs.Counting.{tally_ok, epoch_counted}
use Rattle.tally.specs.declared.Tally.{Tally}

-- the schedule by which a member is counted: a live node's own; one that is waiting or down holds no slot
abbrev pub own_schedule : Member → Schedule
own_schedule m = cond (is_live m) m.node.schedule free

-- by node
unfoldable pub schedules_of : Site → List Schedule
schedules_of s = tab 32 (λ i. own_schedule (get_or s.members i nobody))

-- the tally as a round of the site begins: its first round begins the epoch
unfoldable pub tally_at : Site → Tally → Tally
tally_at s t = cond (eqb s.place 0) (epoch_counted t (schedules_of s)) t

-- the answer to an event: to an end 14 where nothing else is refused; only an end looks at the tally
unfoldable pub tallied_answer : Site → List ℕ → Tally → Event → Answer
tallied_answer s area t e = cond (is_end e && is_done (answer_of s area e)) (cond (tally_ok t) Done NotANode) (answer_of s area e)

-- a refusal changes nothing
abbrev pub is_accepted : Site → List ℕ → Tally → Event → Bool
is_accepted s area t e = is_done (tallied_answer s area t e)

unfoldable pub tallied_site : Site → List ℕ → Tally → Event → Site
tallied_site s area t e = cond (is_accepted s area t e) (next_site s area e) s

unfoldable pub tallied_area : Site → List ℕ → Tally → Event → List ℕ
tallied_area s area t e = cond (is_accepted s area t e) (next_area s area e) area

-- the tally after an event: only an accepted end changes it, and the site behind that end is counted
unfoldable pub tally_after : Site → List ℕ → Tally → Event → Tally
tally_after s area t e = cond (is_end e && is_accepted s area t e) (tally_at (tallied_site s area t e) t) t
