-- Another demand of a node is one byte of its storage.
-- Assumes nothing.
use mathlib.Core.Path.{◌≡◌, sym, ap, ◌∙◌}
use Prim.Native.Nat.{ℕ, ◌+◌, ◌≤◌, ◌<◌}
use native.Mathlib.Omega.{arith}
use lib.Dec.{eqb}
use lib.ListN.{length, get_or}
use lib.Seq.{get_or-set_same}
use Rattle.lists.specs.Bytes.{window}
use Rattle.lists.proofs.Laws.{tab-ext}
use Rattle.lists.proofs.Places.{Apart, apart-set}
use Rattle.allotment.specs.InPlace.{held_in}
use Rattle.allotment.proofs.Held.{held-alike}
use Rattle.node.specs.InPlace.{behind}
use Rattle.node.specs.Model.{Node}
use Rattle.node.proofs.Made.{wanted-so}
use Rattle.wire.specs.Phases.{phase_of}
use Rattle.site.specs.Members.{with_node}
use Rattle.site.specs.Steps.{wanted_member}
use Rattle.machine.specs.Layout.{Store, bytes_size, room_size, node_bytes_at, at_known, at_counters, schedules_at, node_in, stored_in}
use Rattle.machine.specs.Written.{demanded}

module _ (s : Store) (i d : ℕ) where
  -- no byte of another node
  pub demanded-apart : Apart s.bytes (demanded s i d).bytes (node_bytes_at i) room_size
  demanded-apart = apart-set s.bytes (node_bytes_at i + 1) d (node_bytes_at i) room_size (omega arith) (omega arith)

  -- and of the node nothing but its demand
  pub demanded-stored : i < 32 → bytes_size ≤ length s.bytes → stored_in (demanded s i d) i ≡ wanted_member (stored_in s i) d
  unfolding node_in
  demanded-stored h b =
      let t = (demanded s i d).bytes in
      let at = node_bytes_at i + 1 in
      let p : Apart s.bytes t at 1 = apart-set s.bytes at d at 1 (omega arith) (omega arith) in
      let byte : (k : ℕ) → 1 < k → get_or t (node_bytes_at i + k) 0 ≡ get_or s.bytes (node_bytes_at i + k) 0 =
      λ k g. p.above (node_bytes_at i + k) (omega (arith, g)) in
      let list : (k : ℕ) → 1 < k → window 32 t (node_bytes_at i + k) ≡ window 32 s.bytes (node_bytes_at i + k) =
      λ k g. tab-ext 32 _ _ (λ x y. p.above (node_bytes_at i + k + x) (omega (arith, g))) in
      let held : (k : ℕ) → schedules_at i ≤ k → held_in t k ≡ held_in s.bytes k =
      λ k g. held-alike t s.bytes k k (λ x y. p.above (k + x) (omega (arith, g))) in
      let first = p.below (node_bytes_at i) (omega arith) in
      let own = get_or-set_same s.bytes at d 0 (omega (arith, h, b)) in
      let n = node_in s i in
      let m : Node = record {
        setup = n.setup;
        version = n.version;
        schedule = n.schedule;
        demand = d;
        request = n.request;
        flags = n.flags;
        round = n.round;
        epoch = n.epoch;
        phase = n.phase;
      } in
      let e : stored_in (demanded s i d) i ≡ with_node (stored_in s i) m =
      λ x. record {
        up = eqb (first x) 1;
        node = record {
          setup = n.setup;
          version = n.version;
          schedule = held (schedules_at i) (omega arith) x;
          demand = own x;
          request = byte 2 (omega arith) x;
          flags = n.flags;
          round = record {
            merged = n.round.merged;
            known = list at_known (omega arith) x;
            lowest = n.round.lowest;
            highest = n.round.highest;
            heard = n.round.heard;
          };
          epoch = record {
            counters = list at_counters (omega arith) x;
            interactions = n.epoch.interactions;
            place = n.epoch.place;
            updated = eqb (byte 4 (omega arith) x) 1;
            determined = held (behind (schedules_at i)) (omega arith) x;
          };
          phase = phase_of (byte 3 (omega arith) x);
        };
      } in
      e ∙ ap (with_node (stored_in s i)) (sym (wanted-so n d))
