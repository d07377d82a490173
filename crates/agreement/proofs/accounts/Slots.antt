-- What a valid tally has counted of each node after one event, and after a list of them.
-- Assumes nothing.
use mathlib.Core.Path.{◌≡◌, refl, sym, ap, ap₂, ◌∙◌}
use mathlib.Core.Bool.{Bool, true, false, not, cond, ◌&&◌}
use mathlib.Core.List.{List, [], ◌∷◌, ◌++◌, append-nil}
use Prim.Native.Nat.{ℕ, zero, suc, min, ◌+◌, ◌≤◌, ◌<◌}
use native.Mathlib.Omega.{arith}
use borrow.Author.Tests.{ne_eqb, eqb-true, not-false}
use lib.Dec.{eqb, ltb}
use lib.ListN.{length, take, get_or}
use Rattle.words.specs.Bits.{digit}
use Rattle.words.proofs.Tests.{hit, skip, by-test, and_right, and-rest}
use Rattle.lists.specs.All.{tab}
use Rattle.lists.proofs.Laws.{get_d-tab, get_d-zeros}
use Rattle.allotment.specs.Allotment.{owner_of, no_schedule, free}
use Rattle.allotment.specs.Model.{Schedule}
use Rattle.allotment.proofs.Schedules.{owner-free}
use Rattle.node.specs.Answers.{is_done}
use Rattle.node.specs.Begin.{starting}
use Rattle.node.specs.Figures.{is_last}
use Rattle.node.specs.declared.Setup.{Setup}
use Rattle.node.proofs.Made.{given}
use Rattle.site.specs.Answers.{answer_of}
use Rattle.site.specs.Load.{no_row, loaded_member, loaded_site}
use Rattle.site.specs.Members.{nobody, setup_of, is_live, down_member}
use Rattle.site.specs.Steps.{site_after, ended_site, place_after}
use Rattle.site.specs.Events.{is_end}
use Rattle.site.specs.Run.{RunState, after}
use Rattle.node.specs.declared.Config.{Config}
use Rattle.site.specs.declared.Row.{Row}
use Rattle.site.specs.declared.Table.{Table}
use Rattle.site.specs.Model.{Site}
use Rattle.site.specs.declared.Event.{Event}
use Rattle.site.specs.declared.Event.TheVariants.{Send, Hear, Close, Take, End, Want, Crash, Restart}
use Rattle.tally.specs.Claims.{claims}
use Rattle.tally.specs.Counting.{top_epochs, first_tally, slots_at, held_at, tally_ok, tally_full, added, epoch_counted}
use Rattle.tally.specs.Ends.{own_schedule, schedules_of, tally_at, tallied_answer, tally_after}
use Rattle.tally.specs.declared.Tally.{Tally}
use Rattle.tally.proofs.Valid.{valid, not_full, slots-added, held-added, counted-epochs}
use Rattle.tally.proofs.Steps.{same_answer, end-counts}
use Rattle.agreement.proofs.accounts.Once.{none_of}
use Rattle.agreement.specs.accounts.Accounts.{epoch_site, sum_over, slots_held, holds_one}

-- Sums over the first n sites

take_none : (n : ℕ) → take {A = Site} n [] ≡ []
take_none zero = refl
take_none (suc n) = refl

module _ (g : Site → ℕ) where
  sum_room : (n : ℕ) (l : List Site) (s : Site) → length l < n → sum_over g (take n (l ++ (s ∷ []))) ≡ sum_over g (take n l) + g s
  unfolding sum_over
  sum_room zero l s h = absurd (omega arith)
  sum_room (suc n) [] s h = ap (λ (l : List Site). g s + sum_over g l) (take_none n) ∙ omega arith
  sum_room (suc n) (r ∷ l) s h = let e = sum_room n l s (omega (arith, h)) in omega (arith, e)

  sum-full : (n : ℕ) (l : List Site) (s : Site) → n ≤ length l → sum_over g (take n (l ++ (s ∷ []))) ≡ sum_over g (take n l)
  unfolding sum_over
  sum-full zero l s h = refl
  sum-full (suc n) [] s h = absurd (omega (arith, h))
  sum-full (suc n) (r ∷ l) s h = ap (λ (x : ℕ). g r + x) (sum-full n l s (omega (arith, h)))

-- What an event adds

pub data Effect (w : RunState) (t : Tally) (e : Event) : Type 0 where
  none : epoch_site w e ≡ [] → tally_after w.site w.area t e ≡ t → Effect w t e
  one : epoch_site w e ≡ (after w e).site ∷ [] → tally_after w.site w.area t e
      ≡ epoch_counted t (schedules_of (after w e).site) → Effect w t e

no_end : (w : RunState) (t : Tally) (e : Event) → is_end e ≡ false → Effect w t e
unfolding epoch_site tally_after
no_end w t e h =
    none (skip _ _ _ _ (ap
    (λ (b : Bool). b && (is_done (answer_of w.site w.area e) && is_last w.site.config w.site.place)) h) refl)
    (skip _ _ _ _ (ap (λ (b : Bool). b && is_done (tallied_answer w.site w.area t e)) h) refl)

an-end : (w : RunState) (t : Tally) → tally_ok t ≡ true → Effect w t End
unfolding epoch_site tally_after tally_at site_after ended_site
an-end w t ok = go (is_done (answer_of w.site w.area End)) (is_last w.site.config w.site.place) refl refl
  where
    go : (b c : Bool) → is_done (answer_of w.site w.area End) ≡ b → is_last w.site.config w.site.place ≡ c
        → Effect w t End
    go false c d l =
        none (skip _ _ _ _ (ap (λ (x : Bool). x && is_last w.site.config w.site.place) d) refl)
        (skip _ _ _ _ (ap is_done (same_answer w.site w.area t ok End) ∙ d) refl)
    go true false d l =
        let p : eqb (place_after w.site) 0 ≡ false = ap (λ (x : ℕ). eqb x 0) (skip _ _ _ _ l refl)
        ∙ ne_eqb (w.site.place + 1) 0 (λ z. omega arith) in
        none (skip _ _ _ _ (ap₂ ◌&&◌ d l) refl) (end-counts w.site w.area t ok d ∙ skip _ _ _ _ p refl)
    go true true d l =
        let p : eqb (place_after w.site) 0 ≡ true = ap (λ (x : ℕ). eqb x 0) (hit _ _ _ l) in
        one (hit _ _ _ (ap₂ ◌&&◌ d l))
        (end-counts w.site w.area t ok d ∙ hit _ _ _ p ∙ ap (λ (s : Site). epoch_counted t (schedules_of s)) (sym (hit _ _ _ d)))

pub effect : (w : RunState) (t : Tally) (e : Event) → tally_ok t ≡ true → Effect w t e
effect w t (Send j) ok = no_end w t (Send j) refl
effect w t (Hear j p) ok = no_end w t (Hear j p) refl
effect w t Close ok = no_end w t Close refl
effect w t (Take j i) ok = no_end w t (Take j i) refl
effect w t End ok = an-end w t ok
effect w t (Want j d) ok = no_end w t (Want j d) refl
effect w t (Crash j) ok = no_end w t (Crash j) refl
effect w t (Restart j m) ok = no_end w t (Restart j m) refl

-- The tally and the sites with which epochs began so far

pub record Sums (l : List Site) (t : Tally) : Type 0 where
  pub epochs : t.epochs ≡ min (length l) top_epochs
  pub slots : (i : ℕ) → i < 32 → slots_at t i ≡ sum_over (slots_held i) (take top_epochs l)
  pub held : (i : ℕ) → i < 32 → held_at t i ≡ sum_over (holds_one i) (take top_epochs l)

length_more : (l : List Site) (s : Site) → length (l ++ (s ∷ [])) ≡ length l + 1
length_more [] s = refl
length_more (r ∷ l) s = let e = length_more l s in omega (arith, e)

-- a valid tally that is not full grows, and a full one stays
counted-read : (read : Tally → ℕ) (t : Tally) (l : List Schedule) (x : ℕ) → tally_ok t ≡ true
    → (t.epochs < top_epochs → read (added t l) ≡ x) → (t.epochs ≡ top_epochs → read t ≡ x) → read (epoch_counted t l) ≡ x
unfolding epoch_counted
counted-read read t l x ok f g =
    by-test (λ (y : Tally). read y ≡ x) (tally_ok t && not (tally_full t)) (added t l) t
    (λ h. f (not_full t (valid t ok) (and_right (tally_ok t) _ h)))
    (λ h. g (eqb-true t.epochs top_epochs (not-false (tally_full t) (and-rest (tally_ok t) _ h ok))))

sums-counted : (l : List Site) (t : Tally) (s : Site) → tally_ok t ≡ true → Sums l t → Sums (l ++ (s ∷ [])) (epoch_counted t (schedules_of s))
sums-counted l t s ok k =
    record {
      epochs =
          let a = counted-epochs t (schedules_of s) ok in
          let b = length_more l s in
          let h = k.epochs in
          omega (arith, a, b, h);
      slots = λ i n. grown (λ (x : Tally). slots_at x i) (slots_held i) (k.slots i n) (slots-added t (schedules_of s) i n);
      held = λ i n. grown (λ (x : Tally). held_at x i) (holds_one i) (k.held i n) (held-added t (schedules_of s) i n);
    }
  where
    grown : (read : Tally → ℕ) (g : Site → ℕ) → read t ≡ sum_over g (take top_epochs l) → read (added t (schedules_of s)) ≡ read t + g s
        → read (epoch_counted t (schedules_of s)) ≡ sum_over g (take top_epochs (l ++ (s ∷ [])))
    grown read g e d = counted-read read t (schedules_of s) _ ok
        (λ r. let h = k.epochs in d ∙ ap (λ (x : ℕ). x + g s) e ∙ sym (sum_room g top_epochs l s (omega (arith, r, h))))
        (λ r. let h = k.epochs in e ∙ sym (sum-full g top_epochs l s (omega (arith, r, h))))

pub sums-step : (l : List Site) (w : RunState) (t : Tally) (e : Event) → tally_ok t ≡ true → Sums l t
    → Sums (l ++ epoch_site w e) (tally_after w.site w.area t e)
sums-step l w t e ok k = go (effect w t e ok)
  where
    go : Effect w t e → Sums (l ++ epoch_site w e) (tally_after w.site w.area t e)
    go (none p q) = rw (p, q, append-nil l) k
    go (one p q) = rw (p, q) (sums-counted l t (after w e).site ok k)

-- The load: all slots are free

started-free : (s : Setup) (v flags d : ℕ) → own_schedule (record { up = true; node = starting s v flags d }) ≡ free
started-free s v flags d = go (is_live (record { up = true; node = starting s v flags d }))
  where
    go : (b : Bool) → cond b (starting s v flags d).schedule free ≡ free
    go true = (given s v free d d flags).schedule
    go false = refl

loaded-free : (f : Config) (t : Table) (i : ℕ) → own_schedule (loaded_member f t i) ≡ free
unfolding loaded_member
loaded-free f t i = go (ltb i f.nodes)
  where
    row : Row
    row = get_or t.rows i no_row

    go : (b : Bool) → own_schedule
        (cond b (record { up = true; node = starting (setup_of f (i + 1)) row.version row.flags row.want })
        (down_member f (i + 1))) ≡ free
    go true = started-free (setup_of f (i + 1)) row.version row.flags row.want
    go false = refl

none-loaded : (f : Config) (t : Table) (i : ℕ) → i < 32 → slots_held i (loaded_site f t) ≡ 0
unfolding schedules_of loaded_site
none-loaded f t i n = none_of 80 (λ k. claims (schedules_of (loaded_site f t)) k i)
    (λ k m. ap (λ (x : ℕ). eqb x (i + 1)) (ap (λ (y : Schedule). owner_of y k) is_free ∙ owner-free k)
    ∙ ne_eqb 0 (i + 1) (λ z. omega (arith, z)))
  where
    is_free : get_or (schedules_of (loaded_site f t)) i no_schedule ≡ free
    is_free = get_d-tab no_schedule 32 (λ j. own_schedule (get_or (tab 32 (loaded_member f t)) j nobody)) i n
        ∙ ap own_schedule (get_d-tab nobody 32 (loaded_member f t) i n) ∙ loaded-free f t i

take-one : (n : ℕ) (s : Site) → 0 < n → take n (s ∷ []) ≡ s ∷ []
take-one zero s h = absurd (omega arith)
take-one (suc n) s h = ap (λ (l : List Site). s ∷ l) (take_none n)

one-sum : (g : Site → ℕ) (s : Site) → g s ≡ 0 → 0 ≡ sum_over g (take top_epochs (s ∷ []))
unfolding sum_over
one-sum g s e = let h : 0 ≡ g s + 0 = omega (arith, e) in h ∙ ap (sum_over g) (sym (take-one top_epochs s (omega arith)))

pub sums-loaded : (f : Config) (t : Table) → Sums (loaded_site f t ∷ []) first_tally
sums-loaded f t =
    record {
      epochs = refl;
      slots = λ i n. get_d-zeros 32 i ∙ one-sum (slots_held i) (loaded_site f t) (none-loaded f t i n);
      held = λ i n. get_d-zeros 32 i ∙ one-sum (holds_one i) (loaded_site f t) (ap (λ (x : ℕ). digit (ltb 0 x)) (none-loaded f t i n));
    }
