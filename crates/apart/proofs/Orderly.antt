-- A list is orderly if its clocks alone show it, all boxes 1 to N counted as if they were up.
-- Assumes nothing.
use mathlib.Core.Path.{◌≡◌, refl, sym, ap, ◌∙◌, subst}
use mathlib.Core.Bool.{Bool, true, false, not, cond, ◌&&◌, ◌||◌}
use mathlib.Core.List.{List, [], ◌∷◌}
use Prim.Native.Nat.{ℕ, zero, suc, ◌+◌, ◌*◌, ◌/◌, ◌≤◌}
use native.Mathlib.Omega.{arith}
use borrow.Author.Tests.{leb-true}
use lib.Dec.{eqb, leb}
use Rattle.words.proofs.Tests.{never, same_or_not, implied, and_left, and_right, read_same}
use Rattle.node.specs.declared.Config.{Config}
use Rattle.site.specs.declared.Table.{Table}
use Rattle.site.specs.declared.Event.{Event}
use Rattle.site.specs.declared.Event.TheVariants.{Send, Hear, Close, Take, End, Want, Crash, Restart}
use Rattle.boxes.specs.fleet.Fleet.{Act, begun_fleet}
use Rattle.apart.specs.Apart.{Step, tick, act, Apart, last_phase, acting_box, possible, acted, ticked, begun_apart}
use Rattle.apart.specs.Claim.{Abreast, Waits, Orderly, none, then}
use Rattle.apart.proofs.Keeps.{Inv, keeps, keeps-begun}
use Rattle.apart.proofs.Determined.{up-inside}

abbrev pub all_to : ℕ → (ℕ → Bool) → Bool
all_to zero p = true
all_to (suc n) p = p (suc n) && all_to n p

all-at : (n : ℕ) (p : ℕ → Bool) → all_to n p ≡ true → (i : ℕ) → 1 ≤ i → i ≤ n → p i ≡ true
all-at zero p h i l m = absurd (omega arith)
all-at (suc n) p h i l m = same_or_not i (suc n) (λ e. ap p e ∙ and_left (p (suc n)) (all_to n p) h)
    (λ e. all-at n p (and_right (p (suc n)) (all_to n p) h) i l (omega (arith, e, m)))

abbrev pub is_restart : Event → Bool
is_restart (Send j) = false
is_restart (Hear j p) = false
is_restart Close = false
is_restart (Take j i) = false
is_restart End = false
is_restart (Want j d) = false
is_restart (Crash j) = false
is_restart (Restart j flags) = true

abbrev is_tick : Step → Bool
is_tick (tick j) = true
is_tick (act a) = false

abbrev tick_of : Step → ℕ
tick_of (tick j) = j
tick_of (act a) = 0

abbrev event_of : Step → Event
event_of (tick j) = Close
event_of (act a) = a.event

abbrev pub are_abreast : ℕ → ℕ → Bool
are_abreast c d = leb (3 * (c / 3)) (d + 2) && leb (3 * (d / 3)) (c + 2)

are-abreast : (c d : ℕ) → are_abreast c d ≡ true → Abreast c d
are-abreast c d h =
    let p = leb (3 * (c / 3)) (d + 2) in
    let q = leb (3 * (d / 3)) (c + 2) in
    record { one = leb-true (3 * (c / 3)) (d + 2) (and_left p q h); other = leb-true (3 * (d / 3)) (c + 2) (and_right p q h) }

-- the test of one step, and of a list
abbrev pub waits_by : ℕ → (ℕ → ℕ) → Step → Bool
waits_by n clock (tick j) = not (last_phase (clock j)) || all_to n (λ i. leb (clock j) (clock i + 1))
waits_by n clock (act a) = not (is_restart a.event) || all_to n (λ i. are_abreast (clock i) (clock (acting_box a.event)))

abbrev pub clock_after : (ℕ → ℕ) → Step → ℕ → ℕ
clock_after clock (tick j) k = cond (eqb k j) (suc (clock j)) (clock k)
clock_after clock (act a) k = clock k

abbrev pub orderly_by : ℕ → (ℕ → ℕ) → List Step → Bool
orderly_by n clock [] = true
orderly_by n clock (m ∷ steps) = waits_by n clock m && orderly_by n (clock_after clock m) steps

clock-acted : (A : Apart) (a : Act) → (acted A a).clock ≡ A.clock
unfolding acted
clock-acted A a = read_same (λ (B : Apart). B.clock) (possible A a.event) _ A A.clock refl refl

module _ (f : Config) (t : Table) (left : ℕ → List ℕ) where
  waits-tick : (A : Apart) → Inv (begun_fleet f t left) A → (j : ℕ) → waits_by f.nodes A.clock (tick j) ≡ true → Waits A (tick j)
  waits-tick A v j h =
      record {
        ends = λ k e g u i w.
            let d : j ≡ k = ap tick_of e in
            let r = up-inside f t left A v i w in
            let z = all-at f.nodes (λ l. leb (A.clock j) (A.clock l + 1))
            (implied (last_phase (A.clock j)) _ h (ap (λ (l : ℕ). last_phase (A.clock l)) d ∙ g)) i r.0 r.1 in
            subst (λ (l : ℕ). A.clock l ≤ A.clock i + 1) d (leb-true (A.clock j) (A.clock i + 1) z);
        restarts = λ a k flags e g u i w. never (ap is_tick e);
      }

  waits-act : (A : Apart) → Inv (begun_fleet f t left) A → (a : Act) → waits_by f.nodes A.clock (act a) ≡ true → Waits A (act a)
  waits-act A v a h =
      record {
        ends = λ k e g u i w. never (sym (ap is_tick e));
        restarts = λ b k flags e g u i w.
            let y : a.event ≡ Restart k flags = ap event_of e ∙ g in
            let r = up-inside f t left A v i w in
            let z = all-at f.nodes (λ l. are_abreast (A.clock l) (A.clock (acting_box a.event)))
            (implied (is_restart a.event) _ h (ap is_restart y)) i r.0 r.1 in
            subst (λ (l : ℕ). Abreast (A.clock i) (A.clock l)) (ap acting_box y)
            (are-abreast (A.clock i) (A.clock (acting_box a.event)) z);
      }

  by-clocks : (A : Apart) → Inv (begun_fleet f t left) A → (steps : List Step) → orderly_by f.nodes A.clock steps ≡ true
      → Orderly A steps
  unfolding ticked
  by-clocks A v [] h = none
  by-clocks A v (tick j ∷ steps) h =
      let a = waits_by f.nodes A.clock (tick j) in
      let b = orderly_by f.nodes (ticked A j).clock steps in
      then (waits-tick A v j (and_left a b h)) (by-clocks (ticked A j) (keeps (begun_fleet f t left) A v (tick j)) steps (and_right a b h))
  by-clocks A v (act c ∷ steps) h =
      let a = waits_by f.nodes A.clock (act c) in
      let b = orderly_by f.nodes A.clock steps in
      then (waits-act A v c (and_left a b h))
      (by-clocks (acted A c) (keeps (begun_fleet f t left) A v (act c)) steps
      (ap (λ (g : ℕ → ℕ). orderly_by f.nodes g steps) (clock-acted A c) ∙ and_right a b h))

  -- from the beginning, with all clocks at 0
  pub orderly-from-begin : (steps : List Step) → orderly_by f.nodes (λ j. 0) steps ≡ true → Orderly (begun_apart f t left) steps
  unfolding begun_apart
  orderly-from-begin steps h = by-clocks (begun_apart f t left) (keeps-begun f t left) steps h
