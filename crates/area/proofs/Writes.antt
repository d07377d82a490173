-- The parts of a node area, written one behind another.
-- Assumes nothing.
use mathlib.Core.Path.{◌≡◌, sym, ap, ◌∙◌}
use mathlib.Core.List.{List, ◌++◌, append_assoc}
use Prim.Native.Nat.{ℕ}
use native.Mathlib.Omega.{arith}
use lib.ListN.{length, length-append}
use Rattle.lists.specs.Bytes.{flat, written, Tried}
use Rattle.lists.proofs.Laws.{So, begin, next, length-flat}
use Rattle.node.specs.Model.{Node}
use Rattle.range.proofs.Lengths.{Lengths}
use Rattle.wire.proofs.Writes.{step, front-so}
use Rattle.allotment.specs.InPlace.{held_bytes}
use Rattle.area.specs.Area.{node_size, at_demand, at_schedule, at_known, at_counters, words_of, small_of, encoded, front_of}

-- the parts before the schedules
pub front-is : {s0 s1 s2 s3 small : List ℕ} {i1 i2 i3 : ℕ} (l : List ℕ) (n : Node) → length l ≡ node_size → Lengths n → small ≡ small_of n
    → s0 ≡ written l 0 (flat (words_of n)) → Tried s0 at_demand small i1 s1 → Tried s1 at_known n.round.known i2 s2
    → Tried s2 at_counters n.epoch.counters i3 s3 → s3 ≡ written l 0 (front_of n)
unfolding front_of
front-is {s0} {s3 = s3} {small = small} l n h k e t0 t1 t2 t3 =
    let w = flat (words_of n) in
    let m : length small ≡ 4 = ap length e in
    let q0 : So l w s0 at_demand = next (begin l) w s0 at_demand t0 (omega (arith, length-flat (words_of n))) in
    let q1 = step q0 small at_known t1 (omega arith) (omega arith) in
    let q2 = step q1 n.round.known at_counters t2 (omega (arith, k.known)) (omega arith) in
    let q3 = step q2 n.epoch.counters at_schedule t3 (omega (arith, k.counters)) (omega arith) in
    front-so q3 ∙ ap (λ (x : List ℕ). written l 0 x)
    (append_assoc (w ++ small) n.round.known n.epoch.counters ∙ append_assoc w small (n.round.known ++ n.epoch.counters)
    ∙ ap (λ (x : List ℕ). w ++ (x ++ (n.round.known ++ n.epoch.counters))) e)

pub length_front : (n : Node) → Lengths n → length (front_of n) ≡ at_schedule
unfolding front_of
length_front n k = simp (length-append, length-flat) (omega (arith, k.known, k.counters))

pub front-then : (n : Node) → encoded n ≡ front_of n ++ (held_bytes n.schedule ++ held_bytes n.epoch.determined)
unfolding encoded front_of
front-then n =
    let w = flat (words_of n) in
    let h = held_bytes n.schedule ++ held_bytes n.epoch.determined in
    sym (append_assoc w (small_of n ++ (n.round.known ++ n.epoch.counters)) h
    ∙ ap (λ (x : List ℕ). w ++ x) (append_assoc (small_of n) (n.round.known ++ n.epoch.counters) h
    ∙ ap (λ (x : List ℕ). small_of n ++ x) (append_assoc n.round.known n.epoch.counters h)))
