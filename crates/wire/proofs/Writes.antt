-- Writes one behind another that are tried, at places that are plain numbers.
-- Assumes nothing.
use mathlib.Core.Path.{◌≡◌, refl, ap, subst, ◌∙◌}
use mathlib.Core.List.{List, [], ◌∷◌, ◌++◌}
use Prim.Native.Nat.{ℕ, ◌+◌, ◌%◌, ◌≤◌}
use native.Mathlib.Omega.{arith}
use lib.ListN.{length, drop, set, length-append, length-drop}
use Rattle.lists.specs.Bytes.{bytes32, written, Tried}
use Rattle.lists.proofs.Laws.{So, begin, next}
use Rattle.lists.proofs.Chain.{put, one}
use Rattle.allotment.specs.Allotment.{owners_of}
use Rattle.node.specs.declared.Packet.{Packet}
use Rattle.node.specs.Model.{Versioned}
use Rattle.wire.specs.Layout.{schedule_size, packet_size, packet_bytes, schedule_bytes}

-- what is written so far leaves the length as it was
pub length-so : {l pre s : List ℕ} {at : ℕ} → So l pre s at → at ≤ length l → length s ≡ length l
length-so {l} {pre} {s} {at} q h = ap length q.is ∙ length-append pre (drop at l) ∙ omega (arith, q.long, length-drop at l)

-- one more part, for which there is room
pub step : {l pre s r : List ℕ} {at i : ℕ} → So l pre s at → (b : List ℕ) (to : ℕ) → Tried s at b i r → at + length b ≡ to → to ≤ length l
    → So l (pre ++ b) r to
step {l} {pre} {s} {r} {at} q b to t f h = next q b r to (put (omega (arith, length-so q (omega arith))) t).is f

-- the parts of a packet
pub packet-so : {l s1 s2 s3 s4 : List ℕ} {i1 i2 i3 i4 : ℕ} (p : Packet) → length l ≡ packet_size → length p.requests ≡ 32
    → Tried (set l 0 (p.sender % 256)) 1 (bytes32 p.lowest) i1 s1 → Tried s1 5 (bytes32 p.highest) i2 s2
    → Tried s2 9 (bytes32 p.flags) i3 s3 → Tried s3 13 p.requests i4 s4
    → So l (packet_bytes p) s4 packet_size
unfolding packet_bytes
packet-so {l} p h k t1 t2 t3 t4 =
    let x = p.sender % 256 in
    let q0 : So l (x ∷ []) (set l 0 x) 1 = next (begin l) (x ∷ []) (set l 0 x) 1 (one l 0 x (omega arith)).is refl in
    step (step (step (step q0 (bytes32 p.lowest) 5 t1 refl (omega arith)) (bytes32 p.highest) 9 t2 refl (omega arith))
    (bytes32 p.flags) 13 t3 refl (omega arith)) p.requests packet_size t4 (omega arith) (omega arith)

-- the parts of a version and its schedule
pub schedule-so : {l o s1 s2 : List ℕ} {i1 : ℕ} (v : Versioned) → schedule_size ≤ length l → length o ≡ 80 → o ≡ owners_of v.schedule
    → Tried l 0 (bytes32 v.version) i1 s1 → s2 ≡ written s1 4 o
    → So l (schedule_bytes v) s2 schedule_size
unfolding schedule_bytes
schedule-so {l} {o} {s2 = s2} v h k e t1 t2 =
    subst (λ (x : List ℕ). So l (bytes32 v.version ++ x) s2 schedule_size) e
    (next (step (begin l) (bytes32 v.version) 4 t1 refl (omega arith)) o s2 schedule_size t2 (omega arith))

-- what stands at the front of a list
pub front-so : {l pre s : List ℕ} {at : ℕ} → So l pre s at → s ≡ written l 0 pre
front-so {l} {pre} {s} {at} q = let e : at ≡ 0 + length pre = omega (arith, q.long) in q.is ∙ ap (λ (n : ℕ). pre ++ drop n l) e
