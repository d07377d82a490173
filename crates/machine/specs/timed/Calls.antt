-- Lists of calls: each is an event with the list of windows that an end is lent; each may be lent another one. Each
-- finds site and area as the call before it left them.
-- Assumes nothing.
use Rattle.std.specs.Prelude.{List, [], ◌∷◌, ℕ}
use Rattle.site.specs.Steps.{area_after}
use Rattle.site.specs.declared.Event.{Event}
use Rattle.windows.specs.declared.Window.{Window}
use Rattle.machine.specs.timed.Timed.{Timed, timed_after}

pub record Call : Type 0 where
  pub event : Event
  pub windows : List Window

-- a site with its day, and the packet area lent with it
pub record TimedState : Type 0 where
  pub timed : Timed
  pub area : List ℕ

-- after one call
abbrev pub after_call : TimedState → Call → TimedState
after_call w c = record {
  timed = timed_after w.timed w.area c.windows c.event;
  area = area_after w.timed.site w.area c.event;
}

-- after a list of calls
unfoldable pub run_calls : TimedState → List Call → TimedState
run_calls w [] = w
run_calls w (c ∷ cs) = run_calls (after_call w c) cs
