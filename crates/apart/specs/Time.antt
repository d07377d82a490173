-- How a service keeps the rules by time, with no number of the round on the air. The calls of a box are its closes and ends, counted from
-- its beginning.
-- One timetable for all boxes says from when on call n may be made; each box that is up makes it at most `skew` later, however it comes by
-- its time.
-- Assumes nothing.
use Rattle.std.specs.Prelude.{◌≡◌, true, false, cond, ℕ, zero, suc, ◌+◌, ◌*◌, ◌/◌, ◌≤◌, ◌<◌, leb}
use Rattle.apart.specs.Apart.{Apart, negotiation, box_now}

-- how many closes and ends a clock has come past
abbrev pub calls : ℕ → ℕ
calls c = 2 * (c / 3) + cond (negotiation c) 0 1

-- two clocks of which neither is more than one call ahead
pub record InStep (c d : ℕ) : Type 0 where
  pub one : calls c ≤ calls d + 1
  pub other : calls d ≤ calls c + 1

pub record AllInStep (A : Apart) : Type 0 where
  pub any : (i j : ℕ) → (box_now A i).up ≡ true → (box_now A j).up ≡ true → InStep (A.clock i) (A.clock j)

-- call n is due at time `due n`; the shortest phase is the least time between two calls
pub record Timetable (shortest : ℕ) (due : ℕ → ℕ) : Type 0 where
  pub each : (n : ℕ) → due n + shortest ≤ due (suc n)

-- a box whose clock shows c is on time at time t: its last call was due by then, and its next one is not `skew` overdue
pub record OnTime (due : ℕ → ℕ) (skew t c : ℕ) : Type 0 where
  pub last : due (calls c) ≤ t
  pub next : t < due (suc (calls c)) + skew

pub record AllOnTime (due : ℕ → ℕ) (skew t : ℕ) (A : Apart) : Type 0 where
  pub each : (j : ℕ) → (box_now A j).up ≡ true → OnTime due skew t (A.clock j)

-- the earliest of the times at which boxes 1 to n + 1 make one call
unfoldable pub earliest : ℕ → (ℕ → ℕ) → ℕ
earliest zero at = at 1
earliest (suc n) at = cond (leb (earliest n at) (at (suc (suc n)))) (earliest n at) (at (suc (suc n)))

-- Boxes 1 to n + 1 make their calls at the times `made j`: two calls of one box are at least the shortest phase apart, and no box makes a
-- call more than `skew` after another has made the call of the same number.
pub record Skewed (n shortest skew : ℕ) (made : ℕ → ℕ → ℕ) : Type 0 where
  pub paced : (j k : ℕ) → 1 ≤ j → j ≤ suc n → made j k + shortest ≤ made j (suc k)
  pub near : (i j k : ℕ) → 1 ≤ i → i ≤ suc n → 1 ≤ j → j ≤ suc n → made j k ≤ made i k + skew

-- what keeping time gives: proved in proofs/Time.antt
pub record KeepsTime : Type 0 where
  -- R1: a packet that a box filled at time t, heard at time u: where its age is at most `age`, hearer and sender are in the same
  -- negotiation
  pub packets : (shortest skew age : ℕ) (due : ℕ → ℕ) → Timetable shortest due → skew + age ≤ shortest → (t u c d : ℕ) → t ≤ u
      → u ≤ t + age → OnTime due skew t c → OnTime due skew u d
      → negotiation c ≡ true → negotiation d ≡ true → c ≡ d
  -- R2: a schedule that a box sent at its close, at time t, taken at time u
  pub schedules : (shortest skew age : ℕ) (due : ℕ → ℕ) → Timetable shortest due → skew + age ≤ shortest → (t u c d : ℕ) → t ≤ u
      → u ≤ t + age → OnTime due skew t c → OnTime due skew u d
      → negotiation c ≡ false → negotiation d ≡ false → c / 3 ≡ d / 3
  -- R3: at one moment any two boxes that are up are within one call of each other
  pub in_step : (shortest skew : ℕ) (due : ℕ → ℕ) → Timetable shortest due → skew ≤ shortest → (t : ℕ) (A : Apart) → AllOnTime due skew t A
      → AllInStep A
  -- R4: a box that crashes at time t and comes up, on time, no sooner than `skew` after that does not go back
  pub restarts : (shortest skew : ℕ) (due : ℕ → ℕ) → Timetable shortest due → (t u c d : ℕ) → t + skew ≤ u → OnTime due skew t c
      → OnTime due skew u d → calls c ≤ calls d
  -- nor does one that takes the place of a neighbour, in step with it at the crash, that has closed or ended since
  pub by-neighbour : (c d e : ℕ) → InStep c d → calls d + 1 ≤ calls e → calls c ≤ calls e
  -- boxes whose calls are that near to each other have a timetable, and are on time by it from each call to the next
  pub timetable : (n shortest skew : ℕ) (made : ℕ → ℕ → ℕ) → Skewed n shortest skew made
      → Timetable shortest (λ k. earliest n (λ j. made j k))
  pub on-time : (n shortest skew : ℕ) (made : ℕ → ℕ → ℕ) → Skewed n shortest skew made → (j t c : ℕ) → 1 ≤ j → j ≤ suc n
      → made j (calls c) ≤ t → t < made j (suc (calls c))
      → OnTime (λ k. earliest n (λ i. made i k)) skew t c
