use mathlib.Core.Bool.{Bool, true, false, cond, ◌&&◌}
use mathlib.Core.List.{List, []}
use mathlib.Core.Path.{◌≡◌, sym, ap, ◌∙◌}
use Prim.Native.Nat.{ℕ, ◌+◌, ◌≤◌}
use native.Mathlib.Omega.{arith}
use lib.Dec.{leb}
use lib.ListN.{length}
use borrow.Author.Tests.{le-leb}
use Rattle.lists.specs.Bytes.{written}
use Rattle.allotment.specs.Allotment.{free, schedule_of}
use Rattle.masks.specs.Bytes.{masks_size, masks_in, has_room}
use Rattle.masks.specs.Air.{owners_to}
use Rattle.node.specs.Core.{node_of, pair}
use Rattle.node.specs.Figures.{sending}
use Rattle.node.specs.Distribution.{sent_by}
use Rattle.node.specs.Answers.{Done}
use Rattle.node.specs.declared.Core.{Core}
use Rattle.node.specs.Model.{Node}
use Rattle.node.specs.Model.{Versioned}
use Rattle.node.proofs.Made.{sends-so}
use Rattle.wire.specs.Layout.{schedule_size, schedule_bytes}
use Rattle.area.specs.Area.{at_schedule}
use Rattle.host.specs.Calls.{room_answer, output, close_room, close_bytes}
use Rattle.host.proofs.Answers.{in-room}
use Rattle.host.proofs.steps.put_sent.Goals as goal

module _ (n : Node) (out : List ℕ) where
  -- one that sends writes version and schedule where there is room
  sends : {m : List ℕ} {q : Versioned} → sending n.phase ≡ true → q ≡ sent_by n
      → m ≡ cond (leb schedule_size (length out)) (written out 0 (schedule_bytes q)) out → m ≡ output (close_room n out) (close_bytes n) out
  sends f k w =
      let t = leb schedule_size (length out) in
      w ∙ ap (λ (v : Versioned). cond t (written out 0 (schedule_bytes v)) out) k ∙ in-room t (schedule_bytes (sent_by n)) out
      ∙ sym (ap (λ (s : Bool). output (cond s (room_answer schedule_size out) Done) (cond s (schedule_bytes (sent_by n)) []) out) f)

-- the node that is told, by the area that holds its schedule
abbrev shown : Core → List ℕ → Node
shown c l = node_of c (pair (schedule_of (owners_to (masks_in l at_schedule) c.setup.config.nodes)) free)

pub returns-then-is_sending : goal.returns-then-is_sending
returns-then-is_sending c =
    let l = c.args.area.now in
    let k : at_schedule + masks_size ≤ length l = omega (arith, c.requires) in
    let r : has_room l at_schedule ≡ true = le-leb _ _ k in
    let t = leb schedule_size (length c.args.out.now) in
    let q : Versioned = record { version = c.args.next.version; schedule = (shown c.args.next l).schedule } in
    sends (shown c.args.next l) c.args.out.now
    (sym c.is_sending.ensures
    ∙ c.if-is_sending.true)
    (sym (sends-so (shown c.args.next l)))
    (c.tell.ensures
    ∙ ap (λ (b : Bool). cond (b && t) (written c.args.out.now 0 (schedule_bytes q)) c.args.out.now) r)
