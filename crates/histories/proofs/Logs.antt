-- What stands in the log of a past: the determinations of accepted closes, each with the number of its epoch, and none with a later one.
-- Assumes nothing.
use mathlib.Core.Path.{◌≡◌, refl, ap}
use mathlib.Core.Bool.{Bool, true, false, cond, ◌&&◌}
use mathlib.Core.List.Memᴰ
use mathlib.Core.List.{List, [], ◌∷◌, Memᴰ}
use Prim.Native.Nat.{ℕ, suc, ◌≤◌, ◌<◌}
use native.Mathlib.Omega.{arith}
use lib.ListN.{get_or}
use Rattle.words.proofs.Tests.{by-test, hit, and_left, and_right}
use Rattle.node.specs.Figures.{is_last}
use Rattle.node.specs.Close.{determines}
use Rattle.site.specs.Members.{nobody, is_live}
use Rattle.site.specs.Model.{Member}
use Rattle.site.specs.Model.{Site}
use Rattle.histories.specs.Past.{Determination, Past, determination, determined_by_member, determined_at, past_at_close, past_at_end}
use Rattle.histories.proofs.Tests.{either}

-- what a close adds: the determination of a live node that determines
pub record New (past : Past) (l : List Member) (d : Determination) : Type 0 where
  pub i : ℕ
  pub live : is_live (get_or l i nobody) ≡ true
  pub yes : determines (get_or l i nobody).node ≡ true
  pub d-is : d ≡ determination past (get_or l i nobody).node

new-on : {past : Past} {m : Member} {l : List Member} {d : Determination} → New past l d → New past (m ∷ l) d
new-on r = record { i = suc r.i; live = r.live; yes = r.yes; d-is = r.d-is }

pub new-of : (past : Past) (l : List Member) (d : Determination) → Memᴰ d (determined_at past l) → New past l d
unfolding determined_at
new-of past [] d m = absurd (Memᴰ.not-nil m)
new-of past (x ∷ l) d m = either (Memᴰ.append_cases (determined_by_member past x) m) (here (is_live x && determines x.node) refl)
    (λ q. new-on (new-of past l d q))
  where
    here : (t : Bool) → (is_live x && determines x.node) ≡ t → Memᴰ d (cond t (determination past x.node ∷ []) [])
        → New past (x ∷ l) d
    here true e q = record { i = 0; live = and_left _ _ e; yes = and_right (is_live x) _ e; d-is = Memᴰ.eq_of_singleton q }
    here false e q = absurd (Memᴰ.not-nil q)

-- none is of a later epoch
pub record Upto (past : Past) : Type 0 where
  pub each : (d : Determination) → Memᴰ d past.log → d.epoch ≤ past.epoch

pub close-upto : (past : Past) (s : Site) → Upto past → Upto (past_at_close past s)
close-upto past s h = record {
  each = λ d m. either (Memᴰ.append_cases past.log m) (h.each d)
      (λ q. omega (arith, ap (λ (x : Determination). x.epoch) (new-of past s.members d q).d-is));
}

pub end-upto : (past : Past) (s t : Site) → Upto past → Upto (past_at_end past s t)
end-upto past s t h = record {
  each = λ d m. by-test (λ (e : ℕ). d.epoch ≤ e) (is_last s.config s.place) _ _ (λ _. omega (arith, h.each d m))
      (λ _. h.each d m);
}

-- and as an epoch begins, none is of it yet
pub end_before : (past : Past) (s t : Site) → Upto past → is_last s.config s.place ≡ true → (d : Determination)
    → Memᴰ d past.log → d.epoch < (past_at_end past s t).epoch
end_before past s t h l d m = omega (
  arith,
  h.each d m,
  hit (is_last s.config s.place) (suc past.epoch) past.epoch
      l,
)
