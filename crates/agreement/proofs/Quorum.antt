-- The majority: a node that is complete knows a set of nodes that decides, and there is one such set in an epoch. This and
-- `Ends.kept-meets` are where demand 3 asks for more than half.
-- Assumes nothing.
use mathlib.Core.Path.{◌≡◌, ap}
use mathlib.Core.Bool.{true}
use Prim.Native.Nat.{ℕ, suc, ◌*◌, ◌^◌, ◌<◌}
use native.Mathlib.Omega.{arith}
use Rattle.words.specs.Bits.{size}
use Rattle.node.specs.Close.{complete}
use Rattle.node.specs.declared.Setup.{Setup}
use Rattle.node.specs.Model.{Node}
use Rattle.node.proofs.Majority.{complete-informed, complete-most}
use Rattle.site.specs.Members.{setup_of}
use Rattle.node.specs.declared.Config.{Config}
use Rattle.histories.proofs.Sets.{In, meet, same_set}
use Rattle.histories.proofs.Views.{View, view_of, Known, Start, Closed, Good, filled}

-- a set that decides: closed, more than half, and no closed set parts it
pub record IsQ (N : ℕ) (M : ℕ → ℕ) (Q : ℕ) : Type 0 where
  pub fits : Q < 2 ^ N
  pub most : N < 2 * size Q
  pub closed : Closed M Q
  pub conn : {X k l : ℕ} → Closed M X → In Q k → In Q l → In X k → In X l

-- two such sets share a node, so each lies in the other
half-Q : {N : ℕ} {M : ℕ → ℕ} (P Q : ℕ) → IsQ N M P → IsQ N M Q → (k : ℕ) → In P k → In Q k
half-Q {N} P Q p q k h = let j = meet N P Q p.fits q.fits (omega (arith, p.most, q.most)) in p.conn q.closed j.1 h j.2

-- there is one such set
pub one-Q : {N : ℕ} {M : ℕ → ℕ} {P Q : ℕ} → IsQ N M P → IsQ N M Q → P ≡ Q
one-Q {N} {P = P} {Q = Q} p q = same_set N P Q p.fits q.fits (half-Q P Q p q) (half-Q Q P q p)

module _ (N : ℕ) (G : Start) where
  -- each node of M' has a request, and they are more than half
  pub record Complete (v : View) : Type 0 where
    pub all : {k : ℕ} → In v.m k → (c : ℕ) × Known v.R k c
    pub most : N < 2 * size v.m

  -- then the set decides
  pub complete-Q : {v : View} → Good N G v → Complete v → IsQ N G.M v.m
  complete-Q A C = record {
    fits = A.fits;
    most = C.most;
    closed = record { out = λ k l h e. A.next (C.all h).1 e };
    conn = λ X h g x. A.conn X (C.all h).1 (C.all g).1 x;
  }

-- the view of a node that is complete is complete, where the site may not split
pub is-complete : (n : Node) (f : Config) (i : ℕ) (G : Start) → n.setup.config.split ≡ 0 → n.setup ≡ setup_of f (suc i)
    → Good f.nodes G (view_of n) → complete n ≡ true → Complete f.nodes G (view_of n)
is-complete n f i G w u A e = record {
  all = (filled n f.nodes G A (complete-informed n e)).all;
  most = rw (ap (λ (s : Setup). s.config.nodes) u) at (complete-most n w e);
}
