-- The members of a site: by index and number, and what it is to be live.
-- Assumes nothing.
use mathlib.Core.Path.{◌≡◌, refl, ap, ◌∙◌}
use mathlib.Core.Bool.{Bool, true, false, not, ◌&&◌}
use Prim.Native.Nat.{ℕ, ◌≤◌}
use borrow.Author.Tests.{leb-true, le-leb, not-true, not-false}
use lib.Dec.{leb}
use lib.ListN.{get_or}
use Rattle.words.proofs.Tests.{and_left, and_right, both}
use Rattle.node.specs.Figures.{is_node, is_waiting}
use Rattle.node.specs.Model.{Node}
use Rattle.node.specs.declared.Phase.{Phase}
use Rattle.site.specs.Members.{nobody, setup_of, outside, is_live, with_node}
use Rattle.site.specs.Model.{Member}
use Rattle.site.specs.Model.{Site}

-- the member at an index; that of number j stands at j - 1
abbrev pub member : Site → ℕ → Member
member s i = get_or s.members i nobody

-- a live node is up, and doesn't wait
pub live-up : (m : Member) → is_live m ≡ true → m.up ≡ true
live-up m h = and_left m.up _ h

pub awake : (m : Member) → is_live m ≡ true → is_waiting m.node.phase ≡ false
awake m e = not-true _ (and_right m.up _ e)

pub is_live_lem : (m : Member) → m.up ≡ true → is_waiting m.node.phase ≡ false → is_live m ≡ true
is_live_lem m u w = both u (ap not w)

-- a waiting node isn't live, nor is one that is down
pub asleep : (m : Member) → is_waiting m.node.phase ≡ true → is_live m ≡ false
asleep m w = ap (λ (b : Bool). m.up && not b) w ∙ never-live m.up
  where
    never-live : (b : Bool) → (b && false) ≡ false
    never-live true = refl
    never-live false = refl

pub down : (m : Member) → m.up ≡ false → is_live m ≡ false
down m u = ap (λ (b : Bool). b && not (is_waiting m.node.phase)) u

-- another node in the same phase leaves a member as live as it was
pub live_same : (m : Member) (n : Node) → n.phase ≡ m.node.phase → is_live (with_node m n) ≡ is_live m
live_same m n e = ap (λ (p : Phase). m.up && not (is_waiting p)) e

-- a number of the N nodes
pub inside : (s : Site) (j : ℕ) → outside s.config j ≡ false → (1 ≤ j) × (j ≤ s.config.nodes)
inside s j e =
    let p : (leb 1 j && (leb j s.config.nodes && leb j 32)) ≡ true = not-false _ e in
    (leb-true 1 j (and_left _ _ p), leb-true j s.config.nodes (and_left _ (leb j 32) (and_right (leb 1 j) _ p)))

pub is-node : (s : Site) (j : ℕ) → outside s.config j ≡ false → is_node (setup_of s.config j) ≡ true
is-node s j e = let h = inside s j e in both (le-leb 1 j h.0) (le-leb j s.config.nodes h.1)
