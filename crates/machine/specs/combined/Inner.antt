-- Only the contracts of private functions cite these: no public contract and no theorem does.
-- Assumes nothing.
use Rattle.std.specs.Prelude.{cond, List}
use Rattle.node.specs.Answers.{Answer, Done, NotANode, BadWindows}
use Rattle.site.specs.Events.{is_end}
use Rattle.site.specs.declared.Event.{Event}
use Rattle.windows.specs.declared.Window.{Window}
use Rattle.tally.specs.Counting.{tally_ok}
use Rattle.machine.specs.combined.Kept.{Kept, list_fits}

-- what an end has against its tally, and any other event against its list; the end's list is tested as it begins
abbrev pub objection : Kept → List Window → Event → Answer
objection k ws e = cond (is_end e) (cond (tally_ok k.tally) Done NotANode) (cond (list_fits k ws) Done BadWindows)
