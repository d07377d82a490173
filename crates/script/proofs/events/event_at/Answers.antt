-- Each row of the table in turn.
use mathlib.Core.Path.{◌≡◌, refl, sym, ap, ◌∙◌}
use Prim.Native.Nat.{ℕ}
use Rattle.script.specs.events.Events.{event_at}
use Rattle.site.specs.declared.Event.{Event}
use Rattle.std.specs.Prelude.{Option}
use Rattle.script.proofs.events.event_at.Goals as goal

-- a number that is that of a row
row : (x y : ℕ) {n m : ℕ} {p : Option Event} → n ≡ m → p ≡ event_at m x y → p ≡ event_at n x y
row x y h e = e ∙ ap (λ (k : ℕ). event_at k x y) (sym h)

pub returns-in-2-default-default : goal.returns-in-2-default-default
returns-in-2-default-default c = row _ _ c.in-2-default-default.is-0 refl
