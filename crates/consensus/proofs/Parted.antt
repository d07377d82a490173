-- Two nodes that know a request of each node of their M' at one point of a round: the same nodes with the same requests, or none in common.
-- No majority is asked.
-- Assumes nothing.
use mathlib.Core.Path.{◌≡◌, sym, ◌∙◌}
use mathlib.Core.Logic.{◌⊎◌, inl, inr}
use Prim.Native.Nat.{ℕ, zero, suc, ◌<◌}
use native.Mathlib.Omega.{arith}
use lib.ListN.{get_or}
use Rattle.histories.proofs.Tests.{either}
use Rattle.histories.proofs.Sets.{In, in?, in-lt, same_set}
use Rattle.histories.proofs.Views.{View, Start, Closed, Good, Filled}

-- whether two sets share a node below n
shares : (n a b : ℕ) → ((j : ℕ) × In a j × In b j) ⊎ ((j : ℕ) → j < n → In a j → In b j → ⊥)
shares zero a b = inr (λ j l. absurd (omega arith))
shares (suc n) a b = either (shares n a b) inl (λ h. either (in? a n)
    (λ p. either (in? b n) (λ q. inl (n, p, q)) (λ q. inr (λ j l x y. go h j l x y (λ e. q (rw e at y)))))
    (λ p. inr (λ j l x y. go h j l x y (λ e. p (rw e at x)))))
  where
    go : ((j : ℕ) → j < n → In a j → In b j → ⊥) → (j : ℕ) → j < suc n → In a j → In b j → (j ≡ n → ⊥) → ⊥
    go h j l x y d = h j (omega (arith, d)) x y

-- the same nodes, with the same requests
pub record Alike (a b : View) : Type 0 where
  pub nodes : a.m ≡ b.m
  pub asks : (k : ℕ) → In a.m k → get_or a.R k 0 ≡ get_or b.R k 0

module _ (N : ℕ) (G : Start) where
  half : (a b : View) → Good N G a → Filled N G a → Good N G b → Filled N G b → (j : ℕ) → In a.m j → In b.m j → (k : ℕ) → In a.m k
      → In b.m k
  half a b A FA B FB j x y k h =
      let closed : Closed G.M b.m = record { out = λ k l p q. B.next (FB.all p).1 q } in
      A.conn closed (FA.all x).1 (FA.all h).1 y

  pub parted : (a b : View) → Good N G a → Filled N G a → Good N G b → Filled N G b → Alike a b ⊎ ((j : ℕ) → In a.m j → In b.m j → ⊥)
  parted a b A FA B FB = either (shares N a.m b.m)
      (λ s. inl (record {
        nodes = same_set N a.m b.m A.fits B.fits (half a b A FA B FB s.0 s.1 s.2)
            (half b a B FB A FA s.0 s.2 s.1);
        asks = λ k h.
            let p = (FA.all h).1 in
            let q = (FB.all (half a b A FA B FB s.0 s.1 s.2 k h)).1 in
            p.at ∙ A.req p ∙ sym (q.at ∙ B.req q);
      }))
      (λ d. inr (λ j x y. d j (in-lt N a.m j A.fits x) x y))
