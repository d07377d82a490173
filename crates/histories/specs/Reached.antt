-- Specification, 10 Lists of events: where a list of events leads from a site just loaded, and what one more event does there.
-- Assumes nothing.
use Rattle.std.specs.Prelude.{◌≡◌, true, List, ℕ}
use Rattle.node.specs.Figures.{is_last}
use Rattle.node.specs.Model.{Node}
use Rattle.node.specs.Answers.{Done}
use Rattle.site.specs.Members.{member_at, is_live}
use Rattle.site.specs.Load.{loaded_site}
use Rattle.site.specs.Answers.{answer_of}
use Rattle.site.specs.Run.{RunState, after, run}
use Rattle.node.specs.declared.Config.{Config}
use Rattle.site.specs.declared.Table.{Table}
use Rattle.site.specs.declared.Event.{Event}
use Rattle.site.specs.declared.Event.TheVariants.{End}
use Rattle.histories.specs.Past.{Past, trace, no_past}

-- a list of events starts from a site just loaded
abbrev pub begin : Config → Table → List ℕ → RunState
begin f t area = record { site = loaded_site f t; area = area }

-- site and area after a list of events, and its past
abbrev pub reached : Config → Table → List ℕ → List Event → RunState
reached f t area es = run (begin f t area) es

abbrev pub past_of : Config → Table → List ℕ → List Event → Past
past_of f t area es = trace (no_past (loaded_site f t)) (begin f t area) es

-- an event is accepted there
abbrev pub Accepted : RunState → Event → Type 0
Accepted w e = answer_of w.site w.area e ≡ Done

-- the node of number j is live after an event
abbrev pub LiveAfter : RunState → Event → ℕ → Type 0
LiveAfter w e j = is_live (member_at (after w e).site j) ≡ true

abbrev pub node_after : RunState → Event → ℕ → Node
node_after w e j = (member_at (after w e).site j).node

-- an `end` that is accepted in the epoch's last round
pub record EndsEpoch (w : RunState) : Type 0 where
  pub accepted : Accepted w End
  pub last : is_last w.site.config w.site.place ≡ true
