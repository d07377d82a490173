-- Lists of events: a field stays beside the site of the replay.
-- Assumes nothing.
use mathlib.Core.Path.{◌≡◌, refl, sym, ap, ap₂, ◌∙◌, subst}
use mathlib.Core.List.{List, [], ◌∷◌}
use Prim.Native.Nat.{ℕ, ◌≤◌}
use lib.ListN.{length}
use Rattle.node.specs.Answers.{Answer}
use Rattle.site.specs.Load.{loaded_site}
use Rattle.site.specs.Answers.{area_size, answer_of}
use Rattle.site.specs.Run.{RunState, after, run}
use Rattle.node.specs.declared.Config.{Config}
use Rattle.site.specs.declared.Table.{Table}
use Rattle.site.specs.declared.Event.{Event}
use Rattle.histories.specs.Past.{Past, no_past, past_after, trace}
use Rattle.histories.specs.Reached.{begin}
use Rattle.histories.proofs.Always.{Kept, step, always}
use Rattle.boxes.specs.fleet.Fleet.{Fleet, Act, fleet_answer, fleet_after, fleet_run, fleet_answers, begun_fleet}
use Rattle.boxes.specs.fleet.Claim.{Begins, site_answers, events}
use Rattle.boxes.proofs.fleet.Together.{Together}
use Rattle.boxes.proofs.fleet.Answers.{same_answer}
use Rattle.boxes.proofs.fleet.Steps.{event-together}
use Rattle.boxes.proofs.fleet.Begins.{loads, begun-together}

-- a site with its past, and the field beside it
pub record Reached (f : Config) (past : Past) (w : RunState) (x : Fleet) : Type 1 where
  pub kept : Kept f past w.site w.area
  pub together : Together w.site w.area x

-- Lists of events

module _ {f : Config} {past : Past} {w : RunState} {x : Fleet} (r : Reached f past w x) where
  pub answered-alike : (e : Event) → fleet_answer x e ≡ answer_of w.site w.area e
  answered-alike e = ap (λ (y : Fleet). fleet_answer y e) r.together.is ∙ same_answer r.kept.sound r.together.beside e

  pub reach : (a : Act) → Reached f (past_after past w a.event) (after w a.event) (fleet_after x a)
  reach a =
      record {
        kept = step w a.event r.kept;
        together = subst (λ (y : Fleet). Together (after w a.event).site (after w a.event).area (fleet_after y a))
            (sym r.together.is) (event-together r.kept.sound r.together.beside a);
      }

pub reaches : {f : Config} {past : Past} (w : RunState) (x : Fleet) (acts : List Act) → Reached f past w x
    → Reached f (trace past w (events acts)) (run w (events acts)) (fleet_run x acts)
unfolding run trace fleet_run
reaches w x [] r = r
reaches {f = f} {past = past} w x (a ∷ acts) r =
    reaches {f = f} {past = past_after past w a.event} (after w a.event) (fleet_after x a) acts (reach r a)

pub same-answers : {f : Config} {past : Past} (w : RunState) (x : Fleet) (acts : List Act) → Reached f past w x
    → fleet_answers x acts ≡ site_answers w (events acts)
unfolding fleet_answers site_answers
same-answers w x [] r = refl
same-answers {f = f} {past = past} w x (a ∷ acts) r = ap₂ (λ (y : Answer) (l : List Answer). y ∷ l) (answered-alike r a.event)
    (same-answers {f = f} {past = past_after past w a.event} (after w a.event) (fleet_after x a) acts (reach r a))

pub begun : (f : Config) (t : Table) (left : ℕ → List ℕ) → Begins f t left → (area : List ℕ) → area_size ≤ length area
    → Reached f (no_past (loaded_site f t)) (begin f t area) (begun_fleet f t left)
unfolding run trace
begun f t left b area h = record { kept = always f t (loads f t left b) area []; together = begun-together f t left b area h }
