-- Specification, 10 Lists of events: each event finds site and area as the event before it left them, be that one refused or not.
-- Assumes nothing.
use Rattle.std.specs.Prelude.{List, [], ◌∷◌, ℕ}
use Rattle.site.specs.Steps.{site_after, area_after}
use Rattle.site.specs.Model.{Site}
use Rattle.site.specs.declared.Event.{Event}

-- a site and the packet area lent with it
pub record RunState : Type 0 where
  pub site : Site
  pub area : List ℕ

-- after one event
abbrev pub after : RunState → Event → RunState
after w e = record { site = site_after w.site w.area e; area = area_after w.site w.area e }

-- after a list of events
unfoldable pub run : RunState → List Event → RunState
run w [] = w
run w (e ∷ es) = run (after w e) es
