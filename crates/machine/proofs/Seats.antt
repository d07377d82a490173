-- The nodes of a site in storage by their numbers and their indices.
-- Assumes nothing.
use mathlib.Core.Path.{◌≡◌, refl, sym, ap, ◌∙◌}
use mathlib.Core.Bool.{Bool, true, false, not, ◌&&◌}
use Prim.Native.Nat.{ℕ, ◌+◌, ◌-◌, ◌≤◌, ◌<◌}
use native.Mathlib.Omega.{arith}
use borrow.Author.Tests.{leb-true, lt-ltb, not-false}
use lib.Dec.{ltb, leb}
use Rattle.words.proofs.Tests.{hit, skip, and_left, and_right}
use Rattle.lists.proofs.Laws.{get_d-tab}
use Rattle.node.specs.Figures.{is_waiting}
use Rattle.node.specs.declared.Move.{Move}
use Rattle.site.specs.Members.{nobody, member_at, header_of, outside, node_index, is_live, down_member}
use Rattle.site.specs.declared.SiteHeader.{SiteHeader}
use Rattle.node.specs.declared.Config.{Config}
use Rattle.site.specs.Model.{Member}
use Rattle.site.proofs.Laws.{node-index-in}
use Rattle.machine.specs.Layout.{Store, up_in, phase_in, node_in, stored_in, config_in, member_in, site_in}
use Rattle.machine.specs.Written.{written_moved, each}

-- a number of one of the N nodes
pub record Inside (f : Config) (j : ℕ) : Type 0 where
  pub from : 1 ≤ j
  pub within : j ≤ f.nodes
  pub top : j ≤ 32

pub inside : (f : Config) (j : ℕ) → outside f j ≡ false → Inside f j
inside f j h =
    let e = not-false (leb 1 j && (leb j f.nodes && leb j 32)) h in
    let g = and_right (leb 1 j) (leb j f.nodes && leb j 32) e in
    record {
      from = leb-true 1 j (and_left (leb 1 j) (leb j f.nodes && leb j 32) e);
      within = leb-true j f.nodes (and_left (leb j f.nodes) (leb j 32) g);
      top = leb-true j 32 (and_right (leb j f.nodes) (leb j 32) g);
    }

pub config-are : (s : Store) → (site_in s).config ≡ config_in s
unfolding site_in
config-are s = refl

pub in-config : (s : Store) (j : ℕ) {t : Bool} → outside (site_in s).config j ≡ t → outside (config_in s) j ≡ t
unfolding site_in
in-config s j h = h

-- a test of the header that is read
pub outside-as : (s : Store) (j : ℕ) {k : SiteHeader} {t b : Bool} → k ≡ header_of (site_in s) → t ≡ outside k.config j → t ≡ b
    → outside (config_in s) j ≡ b
outside-as s j e p q = in-config s j (ap (λ (x : SiteHeader). outside x.config j) (sym e) ∙ sym p ∙ q)

-- its index
pub at-node-index : (f : Config) (j : ℕ) {i : ℕ} → i ≡ node_index j → outside f j ≡ false → i ≡ j - 1
at-node-index f j e h = e ∙ node-index-in f j h

-- what is read of a live member
pub live-stored : (s : Store) (i : ℕ) → is_live (stored_in s i) ≡ (up_in s.bytes i && not (is_waiting (phase_in s.bytes i)))
unfolding node_in
live-stored s i = refl

module _ (s : Store) (j : ℕ) (h : outside (config_in s) j ≡ false) where
  -- the site's member of number j stands at its index
  pub member_is : member_at (site_in s) j ≡ stored_in s (j - 1)
  unfolding site_in member_in
  member_is =
      let q = inside (config_in s) j h in
      let below : j - 1 < 32 = omega (arith, q.from, q.top) in
      let few : j - 1 < (config_in s).nodes = omega (arith, q.from, q.within) in
      get_d-tab nobody 32 (member_in s) (j - 1) below
      ∙ hit (ltb (j - 1) (config_in s).nodes) (stored_in s (j - 1)) (down_member (config_in s) (j - 1 + 1))
      (lt-ltb (j - 1) (config_in s).nodes few)

-- a member that fails a test stays, and one that passes is written
module _ (test : Member → Bool) (step : Member → Member) (change : Member → Move) (i : ℕ) (s : Store) where
  pub each_none : test (stored_in s i) ≡ false → each test step change i s ≡ s
  unfolding each
  each_none h = skip _ _ _ _ h refl

  pub each-one : test (stored_in s i) ≡ true → each test step change i s ≡ written_moved s i (step (stored_in s i)) (change (stored_in s i))
  unfolding each
  each-one h = hit _ _ _ h
