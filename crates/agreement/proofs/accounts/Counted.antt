-- How many epochs a valid tally has counted after one event.
-- Assumes nothing.
use mathlib.Core.Path.{◌≡◌, refl, ap, ◌∙◌}
use mathlib.Core.Bool.{Bool, true, false, ◌&&◌}
use Prim.Native.Nat.{ℕ, min, suc, ◌+◌}
use native.Mathlib.Omega.{arith}
use borrow.Author.Tests.{ne_eqb}
use lib.Dec.{eqb}
use Rattle.words.proofs.Tests.{hit, skip, read_same}
use Rattle.node.specs.Answers.{is_done}
use Rattle.node.specs.Figures.{is_last}
use Rattle.site.specs.Answers.{answer_of}
use Rattle.site.specs.Steps.{site_after, ended_site, place_after}
use Rattle.site.specs.Events.{is_end}
use Rattle.site.specs.Run.{RunState, after}
use Rattle.site.specs.Model.{Site}
use Rattle.site.specs.declared.Event.{Event}
use Rattle.site.specs.declared.Event.TheVariants.{Send, Hear, Close, Take, End, Want, Crash, Restart}
use Rattle.histories.specs.Past.{Past, recorded, past_after}
use Rattle.tally.specs.Counting.{top_epochs, tally_ok, epoch_counted}
use Rattle.tally.specs.Ends.{schedules_of, tally_at, tallied_answer, tally_after}
use Rattle.tally.specs.declared.Tally.{Tally}
use Rattle.tally.proofs.Valid.{counted-epochs}
use Rattle.tally.proofs.Steps.{same_answer, end-counts}

-- how many epochs are counted of those begun
abbrev pub Goes : Past → Tally → Type 0
Goes past t = t.epochs ≡ min (past.epoch + 1) top_epochs

-- an accepted end: where the round was the epoch's last, the place behind it is 0
end_goes : (past : Past) (s : Site) (t : Tally) → tally_ok t ≡ true → Goes past t
    → Goes (recorded past s End (ended_site s)) (tally_at (ended_site s) t)
unfolding tally_at ended_site
end_goes past s t ok g = go (is_last s.config s.place) refl
  where
    go : (b : Bool) → is_last s.config s.place ≡ b → Goes (recorded past s End (ended_site s)) (tally_at (ended_site s) t)
    go true h =
        let p : eqb (place_after s) 0 ≡ true = ap (λ (x : ℕ). eqb x 0) (hit _ _ _ h) in
        let u : tally_at (ended_site s) t ≡ epoch_counted t (schedules_of (ended_site s)) = hit _ _ _ p in
        let v = ap (λ (x : Tally). x.epochs) u ∙ counted-epochs t (schedules_of (ended_site s)) ok in
        let q : (recorded past s End (ended_site s)).epoch ≡ suc past.epoch = hit _ _ _ h in
        omega (arith, v, q, g)
    go false h =
        let p : eqb (place_after s) 0 ≡ false = ap (λ (x : ℕ). eqb x 0) (skip _ _ _ _ h refl) ∙ ne_eqb (s.place + 1) 0 (λ z. omega arith) in
        let u : tally_at (ended_site s) t ≡ t = skip _ _ _ _ p refl in
        let v = ap (λ (x : Tally). x.epochs) u in
        let q : (recorded past s End (ended_site s)).epoch ≡ past.epoch = skip _ _ _ _ h refl in
        omega (arith, v, q, g)

-- any other event begins no epoch
still : (past : Past) (w : RunState) (t : Tally) (e : Event) → (recorded past w.site e (after w e).site).epoch ≡ past.epoch
    → is_end e ≡ false
    → Goes past t → Goes (past_after past w e) (tally_after w.site w.area t e)
unfolding past_after tally_after
still past w t e x h g =
    let u : tally_after w.site w.area t e ≡ t = skip _ _ _ _
    (ap (λ (b : Bool). b && is_done (tallied_answer w.site w.area t e)) h) refl in
    let v = ap (λ (y : Tally). y.epochs) u in
    let q : (past_after past w e).epoch ≡ past.epoch = read_same (λ (p : Past). p.epoch) (is_done (answer_of w.site w.area e)) _ past
    past.epoch x refl in
    omega (arith, v, q, g)

-- an end, refused or not
ends : (past : Past) (w : RunState) (t : Tally) → tally_ok t ≡ true → Goes past t
    → Goes (past_after past w End) (tally_after w.site w.area t End)
unfolding past_after tally_after site_after
ends past w t ok g = go (is_done (answer_of w.site w.area End)) refl
  where
    q : is_done (tallied_answer w.site w.area t End) ≡ is_done (answer_of w.site w.area End)
    q = ap is_done (same_answer w.site w.area t ok End)

    go : (b : Bool) → is_done (answer_of w.site w.area End) ≡ b → Goes (past_after past w End) (tally_after w.site w.area t End)
    go true d =
        let v = ap (λ (y : Tally). y.epochs) (end-counts w.site w.area t ok d) in
        let p : (past_after past w End).epoch ≡ (recorded past w.site End (ended_site w.site)).epoch = ap (λ (x : Past). x.epoch)
        (hit _ _ _ d) in
        let k = end_goes past w.site t ok g in
        omega (arith, v, p, k)
    go false d =
        let u : tally_after w.site w.area t End ≡ t = skip _ _ _ _ (q ∙ d) refl in
        let v = ap (λ (y : Tally). y.epochs) u in
        let p : past_after past w End ≡ past = skip _ _ _ _ d refl in
        omega (arith, v, ap (λ (x : Past). x.epoch) p, g)

pub goes : (past : Past) (w : RunState) (t : Tally) (e : Event) → tally_ok t ≡ true → Goes past t
    → Goes (past_after past w e) (tally_after w.site w.area t e)
goes past w t (Send j) ok g = still past w t (Send j) refl refl g
goes past w t (Hear j p) ok g = still past w t (Hear j p) refl refl g
goes past w t Close ok g = still past w t Close refl refl g
goes past w t (Take j i) ok g = still past w t (Take j i) refl refl g
goes past w t End ok g = ends past w t ok g
goes past w t (Want j d) ok g = still past w t (Want j d) refl refl g
goes past w t (Crash j) ok g = still past w t (Crash j) refl refl g
goes past w t (Restart j m) ok g = still past w t (Restart j m) refl refl g
