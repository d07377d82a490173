-- What stands behind the nodes, and the lengths of what is read of them.
-- Assumes nothing.
use mathlib.Core.Path.{◌≡◌, ap, ap₂, ◌∙◌}
use mathlib.Core.Bool.{cond}
use mathlib.Core.List.{List}
use Prim.Native.Nat.{ℕ, ◌+◌, ◌<◌}
use native.Mathlib.Omega.{arith}
use lib.Dec.{ltb}
use lib.ListN.{length}
use Rattle.lists.specs.All.{tab}
use Rattle.lists.proofs.Laws.{length-tab, tab-ext}
use Rattle.lists.proofs.Places.{Apart}
use Rattle.masks.specs.Slots.{owners_in}
use Rattle.masks.specs.Bytes.{masks_in}
use Rattle.allotment.specs.Allotment.{owners_of}
use Rattle.allotment.specs.InPlace.{held_in}
use Rattle.node.specs.InPlace.{behind}
use Rattle.allotment.proofs.Schedules.{owners-made}
use Rattle.range.proofs.Lengths.{Lengths}
use Rattle.site.specs.Members.{down_member}
use Rattle.node.specs.declared.Config.{Config}
use Rattle.site.specs.Model.{Member}
use Rattle.machine.specs.Layout.{Store, row_size, room_size, schedules_at, at_config, at_sent, node_in, stored_in, config_in, member_in}
use Rattle.machine.proofs.Laws.{stored_same}

-- the lists that are read have their lengths
held-long : (l : List ℕ) (at : ℕ) → length (owners_of (held_in l at)) ≡ 80
unfolding held_in owners_in
held-long l at = ap length (owners-made (owners_in (masks_in l at))) ∙ length-tab 80 _

pub long-stored : (s : Store) (i : ℕ) → Lengths (node_in s i)
unfolding node_in
long-stored s i =
    record {
      schedule = held-long s.bytes (schedules_at i);
      known = length-tab 32 _;
      counters = length-tab 32 _;
      determined = held-long s.bytes (behind (schedules_at i));
    }

-- what is not of one node: the members stay
module _ (s t : Store) (p : Apart s.words t.words at_config row_size) (q : Apart s.bytes t.bytes at_sent room_size) where
  tail-stored : config_in t ≡ config_in s → (k : ℕ) → k < 32 → stored_in t k ≡ stored_in s k
  tail-stored c k h = stored_same {s = s} {t = t} 32 p q k (λ e. absurd (omega (arith, e))) c

  pub tail-members : config_in t ≡ config_in s → tab 32 (member_in t) ≡ tab 32 (member_in s)
  unfolding member_in
  tail-members e = tab-ext 32 _ _
      (λ k h. ap₂ (λ (f : Config) (m : Member). cond (ltb k f.nodes) m (down_member f (k + 1))) e (tail-stored e k h))
