-- The parts of a report, written one behind another.
-- Assumes nothing.
use mathlib.Core.Path.{◌≡◌, refl, ap, ◌∙◌}
use mathlib.Core.List.{List, ◌++◌, append_assoc}
use Prim.Native.Nat.{ℕ, ◌≤◌}
use native.Mathlib.Omega.{arith}
use lib.ListN.{length}
use Rattle.lists.specs.Bytes.{bytes32, written, Tried}
use Rattle.lists.proofs.Laws.{So, begin, next}
use Rattle.allotment.specs.Allotment.{owners_of}
use Rattle.allotment.specs.Model.{Schedule}
use Rattle.node.specs.Distribution.{sent_by}
use Rattle.node.specs.Model.{Node}
use Rattle.node.proofs.Made.{carries}
use Rattle.wire.specs.Layout.{schedule_size, schedule_bytes}
use Rattle.wire.proofs.Writes.{step, front-so}
use Rattle.wire.proofs.Laws.{length-schedule}
use Rattle.area.specs.Area.{small_of}
use Rattle.host.specs.Report.{report_size, report}

-- the parts of a report
regroup-four : (a b c d : List ℕ) → ((a ++ b) ++ c) ++ d ≡ a ++ (b ++ (c ++ d))
regroup-four a b c d = simp append_assoc

pub report-is : {s0 s1 s2 s3 : List ℕ} {i1 i2 i3 : ℕ} (l : List ℕ) (n : Node) → report_size ≤ length l → length (owners_of n.schedule) ≡ 80
    → s0 ≡ written l 0 (schedule_bytes (sent_by n)) → Tried s0 schedule_size (bytes32 n.flags) i1 s1
    → Tried s1 88 (bytes32 n.epoch.place) i2 s2 → Tried s2 92 (small_of n) i3 s3
    → s3 ≡ written l 0 (report n)
unfolding report
report-is {s0} l n h k t0 t1 t2 t3 =
    let w = schedule_bytes (sent_by n) in
    let q0 : So l w s0 schedule_size = next (begin l) w s0 schedule_size t0
    (omega (arith, length-schedule (sent_by n) (ap (λ (s : Schedule). length (owners_of s)) (carries n).schedule ∙ k))) in
    let q1 = step q0 (bytes32 n.flags) 88 t1 refl (omega arith) in
    let q2 = step q1 (bytes32 n.epoch.place) 92 t2 refl (omega arith) in
    let q3 = step q2 (small_of n) report_size t3 refl (omega arith) in
    front-so q3 ∙ ap (written l 0) (regroup-four w (bytes32 n.flags) (bytes32 n.epoch.place) (small_of n))
