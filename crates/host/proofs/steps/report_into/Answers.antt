use borrow.Author.Tests.{le-leb, lt-leb}
use lib.ListN.{length}
use mathlib.Core.Bool.{Bool, true, cond, ◌&&◌}
use mathlib.Core.List.{List}
use lib.Dec.{leb}
use Rattle.lists.specs.Bytes.{bytes32, written, Tried}
use Rattle.words.proofs.Tests.{hit, skip}
use Rattle.lists.proofs.Chain.{retry}
use Rattle.allotment.specs.Allotment.{owners_of, schedule_of, free}
use Rattle.allotment.proofs.Schedules.{owners-made}
use Rattle.masks.specs.Bytes.{masks_size, masks_in, has_room}
use Rattle.masks.specs.Air.{owners_to}
use Rattle.masks.proofs.Told.{length-told}
use Rattle.node.specs.Core.{node_of, pair}
use Rattle.node.proofs.Made.{sends-so}
use Rattle.node.specs.Answers.{Answer}
use Rattle.node.specs.Answers.{Done, NoRoom}
use Rattle.node.specs.Model.{Versioned}
use Rattle.node.specs.Distribution.{sent_by}
use Rattle.node.specs.declared.Core.{Core}
use Rattle.node.specs.Model.{Node}
use Rattle.wire.specs.Layout.{schedule_size, schedule_bytes}
use Rattle.area.specs.Area.{at_schedule, small_of}
use Rattle.host.specs.Report.{report_size, report}
use Rattle.host.specs.Calls.{room_answer, output}
use Rattle.host.proofs.Answers.{refusal}
use Rattle.host.proofs.Writes.{report-is}
use mathlib.Core.Path.{◌≡◌, refl, sym, ap, ◌∙◌}
use Prim.Native.Nat.{ℕ, ◌+◌, ◌≤◌}
use native.Mathlib.Omega.{arith}
use Rattle.host.proofs.steps.report_into.Goals as goal

-- the four parts, where there is room for them all
reports : {s0 s1 s2 s3 flags place small : List ℕ} {i1 i2 i3 : ℕ} {v : Versioned} (l : List ℕ) (n : Node) → report_size ≤ length l
    → length (owners_of n.schedule) ≡ 80
    → v ≡ sent_by n → s0 ≡ cond (leb schedule_size (length l)) (written l 0 (schedule_bytes v)) l
    → flags ≡ bytes32 n.flags → Tried s0 schedule_size flags i1 s1 → place ≡ bytes32 n.epoch.place → Tried s1 88 place i2 s2
    → small ≡ small_of n → Tried s2 92 small i3 s3
    → s3 ≡ output (room_answer report_size l) (report n) l
reports l n h k e t0 e1 t1 e2 t2 e3 t3 =
    let r : room_answer report_size l ≡ Done = hit _ _ _ (le-leb _ _ h) in
    let q : schedule_size ≤ length l = omega arith in
    report-is l n h k (t0 ∙ hit _ _ _ (le-leb _ _ q) ∙ ap (λ (x : Versioned). written l 0 (schedule_bytes x)) e) (retry e1 t1)
    (retry e2 t2) (retry e3 t3) ∙ sym (ap (λ (x : Answer). output x (report n) l) r)

-- the node that is told, by the area that holds its schedule
abbrev shown : Core → List ℕ → Node
shown c l = node_of c (pair (schedule_of (owners_to (masks_in l at_schedule) c.setup.config.nodes)) free)

long : (c : Core) (l : List ℕ) → length (owners_of (shown c l).schedule) ≡ 80
long c l = ap length (owners-made (owners_to (masks_in l at_schedule) c.setup.config.nodes))
    ∙ length-told (masks_in l at_schedule) c.setup.config.nodes

pub returns-clause-out_after : goal.returns-clause-out_after
returns-clause-out_after c =
    let l = c.args.area.now in
    let out = c.args.out.now in
    let n = shown c.args.c l in
    let k : at_schedule + masks_size ≤ length l = omega (arith, c.requires) in
    let r : has_room l at_schedule ≡ true = le-leb _ _ k in
    let t = leb schedule_size (length out) in
    let q : Versioned = record { version = c.args.c.version; schedule = n.schedule } in
    reports out n c.if-out-lt-REPORT.false (long c.args.c l) (sym (sends-so n))
    (c.tell.ensures ∙ ap (λ (b : Bool). cond (b && t) (written out 0 (schedule_bytes q)) out) r)
    c.word_bytes.ensures
    c.put_bytes.ensures
    c.word_bytes-2.ensures
    c.put_bytes-2.ensures
    c.small_bytes.ensures c.put_bytes-3.ensures
