-- Laws of a site's functions: rows, packets' numbers, indices.
-- Assumes nothing.
use mathlib.Core.Path.{◌≡◌, ap₂}
use mathlib.Core.Bool.{true, false, ◌&&◌}
use Prim.Native.Nat.{ℕ, ◌+◌, ◌-◌, ◌≤◌}
use native.Mathlib.Omega.{arith}
use borrow.Author.Tests.{le-leb, lt-leb, leb-true, not-false}
use lib.Dec.{leb}
use Rattle.words.proofs.Tests.{hit, and_left, and_right}
use Rattle.node.proofs.Bounds.{start_outside}
use Rattle.site.specs.Load.{row_ok}
use Rattle.site.specs.Members.{setup_of, outside, node_index}
use Rattle.site.specs.Counts.{packets}
use Rattle.site.specs.Answers.{is_packet}
use Rattle.site.specs.declared.SiteHeader.{SiteHeader}
use Rattle.node.specs.declared.Config.{Config}
use Rattle.site.specs.declared.Row.{Row}

-- a row behind the last is good for no node
pub row-behind : (f : Config) (i : ℕ) (r : Row) → f.nodes ≤ i → row_ok f i r ≡ false
unfolding row_ok
row-behind f i r h = start_outside (setup_of f (i + 1)) r.version r.flags r.want
    (ap₂ ◌&&◌ (le-leb 1 (i + 1) (omega arith)) (lt-leb (i + 1) f.nodes (omega arith)))

-- packets are numbered from 1
pub packet-above : (k : SiteHeader) (p : ℕ) → is_packet k p ≡ true → 1 ≤ p
packet-above k p h = leb-true 1 p (and_left (leb 1 p) (leb p (packets k.sent)) h)

-- a number of one of the N nodes has its own index
pub node-index-in : (f : Config) (j : ℕ) → outside f j ≡ false → node_index j ≡ j - 1
node-index-in f j h = hit (leb j 32) (j - 1) 0 (and_right (leb j f.nodes) (leb j 32)
    (and_right (leb 1 j) (leb j f.nodes && leb j 32) (not-false _ h)))
