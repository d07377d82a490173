-- Boxes with a clock each. No clock is shared: each box closes and ends its rounds at its own moments, and calls of other boxes may lie
-- between.
-- A box's clock counts phases, three to a round, from round 0:
--   3r      negotiation. Going on from it is the box's `hydra_close`, if it is live.
--   3r + 1  distribution. Going on from it makes no call.
--   3r + 2  distribution too. Going on from it is the box's `hydra_end`, if it is up.
-- The third phase is there for crashes. What a box sent at its close may be taken after the box has crashed: it then crashed in 3r + 2, and
-- others take from it in 3r + 1.
-- The clock of a box that is down goes on without a call, or jumps when the box comes up, but never back. A box that is missing at the
-- start crashes first and restarts.
--
-- Three rules that a service must keep are in the shape of this model, so that no theorem names them (docs/field.md, "Four rules"):
--   R1  a packet is heard only in the negotiation of the round in which it was sent: `Hear` finds the packets of the hearer's own phase.
-- R2 a schedule is taken only in the distribution of the round in which it was sent: `Take` finds what the sender held in the taker's own
-- phase.
-- R4  a clock never goes back, not over a crash either, and a restart gets the place of the box's own clock: `tick` alone changes a clock.
-- Assumes nothing.
use Rattle.std.specs.Prelude.{Bool, true, false, cond, List, [], ◌∷◌, ◌++◌, ℕ, zero, suc, ◌%◌, eqb, leb}
use Rattle.node.specs.Answers.{Answer}
use Rattle.node.specs.Answers.{Done}
use Rattle.node.specs.declared.Config.{Config}
use Rattle.site.specs.declared.Table.{Table}
use Rattle.site.specs.declared.Event.{Event}
use Rattle.site.specs.declared.Event.TheVariants.{Send, Hear, Close, Take, End, Want, Crash, Restart}
use Rattle.boxes.specs.fleet.Fleet.{Box, Fleet, Act, change, close_box, end_box, fleet_answer, fleet_after, fleet_run, begun_fleet}

-- one moment: the clock of box j goes on by one phase, or a box has one of its events
pub data Step : Type 0 where
  tick : ℕ → Step
  act : Act → Step

-- the clock of each box; and of each phase: the packets sent in it and each box as it last was in it, its events in the order in which they
-- were done, and their answers
pub record Apart : Type 0 where
  pub clock : ℕ → ℕ
  pub phases : ℕ → Fleet
  pub log : ℕ → List Act
  pub answers : ℕ → List Answer

-- phase s is a negotiation; it is the last phase of its round
abbrev pub negotiation : ℕ → Bool
negotiation s = eqb (s % 3) 0

abbrev pub last_phase : ℕ → Bool
last_phase s = eqb (s % 3) 2

-- box j as it is now
abbrev pub box_now : Apart → ℕ → Box
box_now A j = (A.phases (A.clock j)).boxes j

-- the box whose event it is; a close and an end are events of no one box: they are ticks here
abbrev pub acting_box : Event → ℕ
acting_box (Send j) = j
acting_box (Hear j p) = j
acting_box Close = 0
acting_box (Take j i) = j
acting_box End = 0
acting_box (Want j d) = j
acting_box (Crash j) = j
acting_box (Restart j flags) = j

-- whether a step with this event is possible at all: nothing can be taken from a box whose clock has not come to the taker's phase
abbrev pub possible : Apart → Event → Bool
possible A (Send j) = true
possible A (Hear j p) = true
possible A Close = false
possible A (Take j i) = leb (A.clock j) (A.clock i)
possible A End = false
possible A (Want j d) = true
possible A (Crash j) = true
possible A (Restart j flags) = true

-- an event of one box, in the phase that its clock shows, by the field's definitions; what is not possible changes nothing
unfoldable pub acted : Apart → Act → Apart
acted A a =
    cond (possible A a.event)
    (record {
      clock = A.clock;
      phases = λ s. cond (eqb s (A.clock (acting_box a.event))) (fleet_after (A.phases s) a) (A.phases s);
      log = λ s. cond (eqb s (A.clock (acting_box a.event))) (A.log s ++ (a ∷ [])) (A.log s);
      answers = λ s. cond (eqb s (A.clock (acting_box a.event))) (A.answers s ++ (fleet_answer (A.phases s) a.event ∷ []))
          (A.answers s);
    })
    A

-- what going on from phase s makes of a box
abbrev pub tick_box : ℕ → Box → Box
tick_box s b = cond (negotiation s) (close_box b) (cond (last_phase s) (end_box b) b)

-- the clock of box j goes on
unfoldable pub ticked : Apart → ℕ → Apart
ticked A j =
    record {
      clock = λ k. cond (eqb k j) (suc (A.clock j)) (A.clock k);
      phases = λ s. cond (eqb s (suc (A.clock j))) (change (A.phases s) j (tick_box (A.clock j) (box_now A j))) (A.phases s);
      log = A.log;
      answers = A.answers;
    }

abbrev pub apart_after : Apart → Step → Apart
apart_after A (tick j) = ticked A j
apart_after A (act a) = acted A a

unfoldable pub apart_run : Apart → List Step → Apart
apart_run A [] = A
apart_run A (m ∷ steps) = apart_run (apart_after A m) steps

-- The sorted list: the events of phase 0 in the order in which they were done, one close of all boxes, the events of phases 1 and 2, one
-- end of all boxes, and so on

abbrev pub close_all : Act
close_all = record { event = Close; left = [] }

abbrev pub end_all : Act
end_all = record { event = End; left = [] }

-- what stands between phase s and the next
unfoldable pub between : ℕ → List Act
between s = cond (negotiation s) (close_all ∷ []) (cond (last_phase s) (end_all ∷ []) [])

-- up to the last event of phase s
unfoldable pub sorted : (ℕ → List Act) → ℕ → List Act
sorted log zero = log zero
sorted log (suc s) = (sorted log s ++ between s) ++ log (suc s)

-- up to the start of phase s
unfoldable pub sorted_before : (ℕ → List Act) → ℕ → List Act
sorted_before log zero = []
sorted_before log (suc s) = sorted log s ++ between s

-- the answers in the same order, 0 for each close and each end
unfoldable pub between_answers : ℕ → List Answer
between_answers s = cond (negotiation s) (Done ∷ []) (cond (last_phase s) (Done ∷ []) [])

unfoldable pub sorted_answers : (ℕ → List Answer) → ℕ → List Answer
sorted_answers answers zero = answers zero
sorted_answers answers (suc s) = (sorted_answers answers s ++ between_answers s) ++ answers (suc s)

-- The beginning: each box as `hydra_begin` made it, all clocks at 0. What is set here of later phases is read of no box that has not come
-- to them.
unfoldable pub begun_apart : Config → Table → (ℕ → List ℕ) → Apart
begun_apart f t left = record {
  clock = λ j. 0;
  phases = λ s. fleet_run (begun_fleet f t left) (sorted (λ u. []) s);
  log = λ s. [];
  answers = λ s. [];
}
