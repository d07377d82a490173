use mathlib.Core.Bool.{Bool, false, cond}
use Rattle.std.specs.Prelude.{Some}
use mathlib.Core.List.{List, []}
use mathlib.Core.Path.{◌≡◌, refl, sym, ap, ap₂, ◌∙◌}
use Prim.Native.Nat.{ℕ, ◌≤◌, ◌<◌}
use lib.ListN.{length}
use borrow.Author.Tests.{le-leb, lt-leb}
use Rattle.words.proofs.Tests.{hit}
use Rattle.allotment.specs.Allotment.{free, schedule_of}
use Rattle.masks.specs.Bytes.{masks_in}
use Rattle.masks.specs.Air.{owners_to}
use Rattle.node.specs.Answers.{is_done}
use Rattle.node.specs.Figures.{sending}
use Rattle.node.specs.Negotiation.{in_negotiation}
use Rattle.node.specs.Close.{close_answer, closed_node}
use Rattle.node.specs.Grounds.{ground_of}
use Rattle.node.specs.Core.{core_of, bare, node_of, pair, moved_by, core_closed}
use Rattle.node.specs.Answers.{Answer}
use Rattle.node.specs.Answers.{Done, NoRoom}
use Rattle.node.specs.declared.Core.{Core}
use Rattle.node.specs.declared.CoreStep.{CoreStep}
use Rattle.node.specs.declared.Ground.{Ground}
use Rattle.node.specs.Model.{Node}
use Rattle.node.specs.Model.{Versioned}
use Rattle.node.proofs.Bare.{close-phase, ground-bare}
use Rattle.node.proofs.Cores.{close-moved}
use Rattle.node.proofs.Made.{same_sent}
use Rattle.range.proofs.Keeps.{keeps-close}
use Rattle.range.proofs.Lengths.{long-close}
use Rattle.wire.specs.Layout.{schedule_size, schedule_bytes}
use Rattle.area.specs.Area.{at_schedule, encoded, decoded}
use Rattle.area.specs.Steps.{area_read, area_stepped}
use Rattle.range.specs.Range.{in_range}
use Rattle.area.proofs.Valid.{size_of, range-of}
use Rattle.area.proofs.Canon.{lengths, round_trip}
use Rattle.host.specs.Calls.{and_then, is_node_area, room_answer, unless_refused, output, close_room, ground_size, ground_bytes}
use Rattle.host.specs.Calls.{closed_answer, close_bytes, closing_of, after_close, out_close, ground_close}
use Rattle.host.proofs.Answers.{passed-on, then-stands, opened, no_node, is-node, core_is, refuses, steps, put-out}
use Rattle.host.proofs.Stepped.{gone, told_is}
use borrow.Author.Rules.{rules}
use Rattle.host.proofs.calls.hydra_close.Goals as goal

-- a close on the area of a node, with these outputs
module _ (a out told : List ℕ) {k : Core} (e : area_read a ≡ Some k) where
  abbrev x : Node → Answer
  x m = closed_answer m out told

  abbrev n : Node
  n = decoded a

  core-so : k ≡ core_of n
  core-so = core_is a e

  -- the answer, and what area and outputs hold then
  abbrev All : Answer → List ℕ → List ℕ → List ℕ → Type 0
  All r m l t =
      (r ≡ and_then (is_node_area a) (x n))
      × (m ≡ unless_refused (and_then (is_node_area a) (x n)) (closed_node n) a)
      × (l ≡ output (and_then (is_node_area a) (x n)) (close_bytes (closed_node n)) out)
      × (t ≡ output (and_then (is_node_area a) (x n)) (ground_bytes (ground_of n)) told)

  refused : (y : Answer) → y ≡ x n → is_done y ≡ false → All y a out told
  refused y g d =
      let z = refuses a e (λ (m : Node). closed_answer m out told) y g d in
      ((z a a).0, (z _ _).1, (z _ _).1, (z _ _).1)

  answer-so : {y : Answer} → y ≡ in_negotiation k.phase → y ≡ close_answer n
  answer-so g = g ∙ ap (λ (c : Core). in_negotiation c.phase) core-so ∙ sym (close-phase n)

  other-phase : (y : Answer) → y ≡ close_answer n → is_done y ≡ false → All y a out told
  other-phase y g d = refused y
      (g ∙ sym (then-stands (close_answer n) (and_then (room_answer ground_size told) (close_room (closed_node n) out))
      (sym (ap is_done g) ∙ d))) d

  module _ (done : close_answer n ≡ Done) where
    rooms : x n ≡ and_then (room_answer ground_size told) (close_room (closed_node n) out)
    rooms = ap (λ (y : Answer). and_then y (and_then (room_answer ground_size told) (close_room (closed_node n) out))) done

    no-ground : length told < ground_size → All NoRoom a out told
    no-ground h = refused NoRoom
        (sym (rooms ∙ ap (λ (t : Bool). and_then (cond t Done NoRoom) (close_room (closed_node n) out)) (lt-leb _ _ h))) refl

    module _ (h : ground_size ≤ length told) {s : CoreStep} (g : s ≡ core_closed k) {u : Answer}
        (q : u ≡ close_room (bare s.core) out) where
      moved : moved_by n s.core s.change ≡ closed_node n
      moved = ap (λ (y : CoreStep). moved_by n y.core y.change) (g ∙ ap core_closed core-so) ∙ close-moved n

      room-so : close_room (bare s.core) out ≡ close_room (closed_node n) out
      room-so = ap (λ (m : Node). close_room m out) moved

      decides : u ≡ x n
      decides = q ∙ room-so
          ∙ sym (rooms ∙ ap (λ (t : Bool). and_then (cond t Done NoRoom) (close_room (closed_node n) out)) (le-leb _ _ h))

      unsent : is_done u ≡ false → All u a out told
      unsent l = refused u decides l

      sent : {m l t : List ℕ} {j : Ground} → u ≡ Done → m ≡ area_stepped s.core s.change k a
          → l ≡ output (close_room (bare s.core) out)
          (close_bytes (node_of s.core (pair (schedule_of (owners_to (masks_in m at_schedule) s.core.setup.config.nodes)) free))) out
          → j ≡ ground_of (bare k) → t ≡ output (room_answer ground_size told) (ground_bytes j) told → All Done m l t
      sent {m} {j = j} l p o y w =
          let v = is-node a e in
          let c = closed_node n in
          let long = long-close n (lengths a) in
          let room : close_room (bare s.core) out ≡ Done = sym q ∙ l in
          let all : x n ≡ Done = sym decides ∙ l in
          let z : m ≡ encoded c = gone a v core_closed c core-so g (close-moved n) long p in
          let in-range = keeps-close n (range-of a v) done in
          let back : decoded (encoded c) ≡ c = round_trip c long in-range in
          let held : schedule_of (owners_to (masks_in m at_schedule) s.core.setup.config.nodes) ≡ c.schedule =
          ap₂ (λ (b : List ℕ) (k : ℕ). schedule_of (owners_to (masks_in b at_schedule) k)) z
          (ap (λ (y : Node). y.setup.config.nodes) moved ∙ sym (ap (λ (y : Node). y.setup.config.nodes) back))
          ∙ told_is (encoded c) (ap in_range back ∙ in-range) ∙ ap (λ (y : Node). y.schedule) back in
          let shown : Node = node_of s.core (pair (schedule_of (owners_to (masks_in m at_schedule) s.core.setup.config.nodes)) free) in
          let sends : close_bytes shown ≡ close_bytes c =
          ap₂ (λ (t : Bool) (q : Versioned). cond t (schedule_bytes q) []) (ap (λ (y : Node). sending y.phase) moved)
          (same_sent shown c (ap (λ (y : Node). y.version) moved) held) in
          let told-so : ground_bytes j ≡ ground_bytes (ground_of n) = ap ground_bytes
          (y ∙ ap (λ (c : Core). ground_of (bare c)) core-so ∙ ground-bare n) in
          let r = steps a e (λ (m : Node). closed_answer m out told) c all z in
          let one = put-out a e (λ (m : Node). closed_answer m out told) (close_room (bare s.core) out)
          (λ (m : Node). close_bytes (closed_node m)) out (room ∙ sym all) sends refl o in
          let two = put-out a e (λ (m : Node). closed_answer m out told) (room_answer ground_size told)
          (λ (m : Node). ground_bytes (ground_of m)) told (hit _ _ _ (le-leb _ _ h) ∙ sym all) told-so refl w in
          (r.0, r.1, one.1, two.1)

pub returns-in_err-c : goal.returns-in_err-c
unfolding closing_of after_close out_close ground_close
returns-in_err-c c =
    let z = no_node c.args.area.now (λ (n : Node). closed_answer n c.args.out.now c.args.ground.now) c.read.ensures c.ok_or.ensures.value c.ok_or.ensures.ok_part c.in_err-c.was in record {
      value = passed-on _ c.from_residual.ensures.1 ∙ (z c.args.area.now c.args.area.now).0;
      area_after = (z _ _).1;
      out_after = (z _ _).1;
      ground_after = (z _ _).1;
    }

pub returns-in_err-negotiation_answer : goal.returns-in_err-negotiation_answer
unfolding closing_of after_close out_close ground_close
returns-in_err-negotiation_answer c =
    let a = c.args.area.now in
    let e = opened a c.read.ensures c.ok_or.ensures.ok_part c.in_ok-c.was in
    let l = c.args.out.now in
    let t = c.args.ground.now in
    let whole = other-phase a l t e _ (answer-so a l t e c.negotiation_answer.ensures) (ap is_done c.in_err-negotiation_answer.was) in record {
      value = passed-on _ c.from_residual-in_err-negotiation_answer.ensures.1 ∙ sym c.in_err-negotiation_answer.was ∙ whole.0;
      area_after = whole.1;
      out_after = whole.2;
      ground_after = whole.3;
    }

pub returns-then-ground-lt-GROUND : goal.returns-then-ground-lt-GROUND
unfolding closing_of after_close out_close ground_close
returns-then-ground-lt-GROUND c =
    let a = c.args.area.now in
    let e = opened a c.read.ensures c.ok_or.ensures.ok_part c.in_ok-c.was in
    let l = c.args.out.now in
    let t = c.args.ground.now in
    let done = sym (answer-so a l t e c.negotiation_answer.ensures) ∙ c.in_ok-negotiation_answer.was in
    let whole = no-ground a l t e done c.if-ground-lt-GROUND.true in record {
      value = whole.0;
      area_after = whole.1;
      out_after = whole.2;
      ground_after = whole.3;
    }

pub returns-in_err-close_room : goal.returns-in_err-close_room
unfolding closing_of after_close out_close ground_close
returns-in_err-close_room c =
    let a = c.args.area.now in
    let e = opened a c.read.ensures c.ok_or.ensures.ok_part c.in_ok-c.was in
    let l = c.args.out.now in
    let t = c.args.ground.now in
    let done = sym (answer-so a l t e c.negotiation_answer.ensures) ∙ c.in_ok-negotiation_answer.was in
    let whole = unsent a l t e done c.if-ground-lt-GROUND.false c.close-closed.ensures c.close_room.ensures
    (ap is_done c.in_err-close_room.was) in record {
      value = passed-on _ c.from_residual-in_err-close_room.ensures.1 ∙ sym c.in_err-close_room.was ∙ whole.0;
      area_after = whole.1;
      out_after = whole.2;
      ground_after = whole.3;
    }

pub put_sent-requires : goal.put_sent-requires
put_sent-requires c =
    let a = c.args.area.now in
    let e = opened a c.read.ensures c.ok_or.ensures.ok_part c.in_ok-c.was in
    let s : length c.step.new.area ≡ length a = search rules in
    s ∙ size_of a (is-node a e)

pub returns : goal.returns
unfolding closing_of after_close out_close ground_close
returns c =
    let a = c.args.area.now in
    let e = opened a c.read.ensures c.ok_or.ensures.ok_part c.in_ok-c.was in
    let l = c.args.out.now in
    let t = c.args.ground.now in
    let done = sym (answer-so a l t e c.negotiation_answer.ensures) ∙ c.in_ok-negotiation_answer.was in
    let whole = sent a l t e done c.if-ground-lt-GROUND.false c.close-closed.ensures c.close_room.ensures c.in_ok-close_room.was
    c.step.ensures.area_after c.put_sent.ensures c.ground.ensures c.put_ground.ensures in record {
      value = whole.0;
      area_after = whole.1;
      out_after = whole.2;
      ground_after = whole.3;
    }
