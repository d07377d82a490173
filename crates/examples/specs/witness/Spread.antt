-- The whole case on three boxes with a clock each: the claims of crates/apart are not empty. Box 1 hears what boxes 2 and 3 sent after
-- these have closed, and box 2 takes what box 1 sent after box 1 has ended the round.
-- Assumes nothing.
use Rattle.std.specs.Prelude.{◌≡◌, List, [], ◌∷◌, ◌++◌, map, ◌*◌}
use Rattle.site.specs.declared.Event.{Event}
use Rattle.site.specs.declared.Event.TheVariants.{Send, Hear, Take, Want, Crash, Restart}
use Rattle.boxes.specs.fleet.Fleet.{box_slots}
use Rattle.apart.specs.Apart.{Step, tick, act, Apart, box_now, apart_run, sorted, begun_apart}
use Rattle.apart.specs.Determined.{Determines}
use Rattle.apart.specs.Time.{AllOnTime}
use Rattle.apart.specs.Claim.{Gets, Uses, Orderly}
use Rattle.examples.specs.witness.Case.{settings, case_table, acts, full}

abbrev event : Event → Step
event e = act (record { event = e; left = [] })

-- up to the moment when box 1 has ended the round, the others having closed it
abbrev pub half : List Step
half =
    event (Send 2) ∷ event (Send 3) ∷ tick 3 ∷ event (Hear 1 1) ∷ tick 2 ∷ event (Hear 1 2) ∷ tick 1 ∷ event (Take 3 2) ∷ tick 1 ∷ tick 1 ∷
    []

abbrev pub spread : List Step
spread = half ++ (event (Take 2 1) ∷ tick 2 ∷ tick 3 ∷ tick 3 ∷ tick 2 ∷ [])

-- three boxes of which one is missing at the start, and later another crashes
abbrev pub crashing : List Step
crashing =
    event (Crash 3) ∷ event (Send 1) ∷ event (Hear 2 1) ∷ tick 1 ∷ tick 3 ∷ tick 2 ∷ tick 1 ∷ tick 1 ∷ tick 3 ∷ tick 3 ∷ event
    (Restart 3 7) ∷ tick 2 ∷ tick 2
    ∷ event (Crash 1) ∷ event (Want 3 1) ∷ tick 2 ∷ tick 3 ∷ tick 1 ∷ event (Restart 1 7) ∷ tick 2 ∷ tick 2 ∷ tick 3 ∷ tick 1 ∷ tick 3 ∷
    tick 1 ∷ []

abbrev pub half_way : Apart
half_way = apart_run (begun_apart settings case_table full) half

abbrev pub at_end : Apart
at_end = apart_run (begun_apart settings case_table full) spread

pub record SpreadCase : Type 0 where
  -- sorted, the events are the case's own
  pub sorted : sorted at_end.log 3 ≡ acts
  -- half-way the clocks differ by two phases, and at the end by none
  pub clocks : map half_way.clock (1 ∷ 2 ∷ 3 ∷ []) ≡ 3 ∷ 1 ∷ 1 ∷ []
  pub clocks-then : map at_end.clock (1 ∷ 2 ∷ 3 ∷ []) ≡ 3 ∷ 3 ∷ 3 ∷ []
  -- at the end `hydra_slots` gives slots 1 and 4 to box 1, and slot 2 to box 2
  pub own : box_slots (box_now at_end 1) ≡ 9 ∷ 0 ∷ 2 ∷ []
  pub own-too : box_slots (box_now at_end 2) ≡ 2 ∷ 0 ∷ 1 ∷ []
  pub gets : Gets at_end 1 3
  -- boxes 1 and 2 each use a slot, the one by what it read and the other by `hydra_slots`
  pub uses : Uses settings case_table full spread 1 0
  pub uses-too : Uses settings case_table full spread 2 1
  -- box 1 determined a version in the first negotiation
  pub determines : Determines settings at_end 0 1
  -- the list keeps R3, and so does one with crashes and restarts
  pub orderly : Orderly (begun_apart settings case_table full) spread
  pub orderly-crashing : Orderly (begun_apart settings case_table full) crashing
  -- with calls due at times 0, 10, 20, .. and a skew of 3 all boxes are on time half-way, at time 20
  pub on-time : AllOnTime (λ n. 10 * n) 3 20 half_way
