use mathlib.Core.List.{List}
use mathlib.Core.Path.{◌≡◌, refl, sym, ap, ◌∙◌}
use Prim.Native.Nat.{ℕ, ◌≤◌, ◌+◌}
use lib.ListN.{length}
use Rattle.lists.specs.Bytes.{written}
use mathlib.Core.Bool.{Bool, true, false, not, ◌&&◌}
use native.Mathlib.Omega.{arith}
use Rattle.words.proofs.Tests.{both}
use Rattle.node.specs.Answers.{is_done}
use Rattle.node.specs.Core.{core_of, bare, core_ended}
use Rattle.node.specs.InPlace.{both_size, dropped_in}
use Rattle.node.specs.declared.Move.{Move}
use Rattle.node.specs.End.{may_end, end_answer, ended_node}
use Rattle.node.proofs.Bare.{ends-phase}
use Rattle.node.specs.declared.Core.{Core}
use Rattle.site.specs.Model.{Member}
use Rattle.site.specs.Steps.{end_member}
use Rattle.machine.specs.Layout.{Store, store, node_words_at, node_bytes_at, schedules_at, up_in, node_in, stored_in, node_words, stored_front}
use Rattle.machine.specs.Written.{each, ends, end_change}
use Rattle.machine.specs.Inner.{core_in, member_of}
use Rattle.machine.proofs.Moves.{stepped, end-done, ended-core, ended-moved, ended-known}
use Rattle.machine.proofs.Seats.{each_none, each-one}
use Rattle.machine.proofs.phases.EndingTurn.turn.Goals as goal
use Rattle.machine.proofs.phases.EndingTurn.turn.Goals.{After-is_waiting}

-- the storage and the index, and the core and the move that the end makes
abbrev stored : After-is_waiting → Store
stored c = store c.args.words.now c.args.bytes.now

abbrev index : After-is_waiting → ℕ
index c = c.args.i

abbrev next : After-is_waiting → Core
next c = c.end-o.result.core

abbrev change : After-is_waiting → Move
change c = c.end-o.result.change

live : (c : After-is_waiting) → up_in (stored c).bytes (index c) ≡ true
live c = sym c.is_up.ensures ∙ c.if-not-is_up.false

made : (c : After-is_waiting) → (next c ≡ core_of (ended_node (node_in (stored c) (index c)))) × (change c ≡ (core_ended (core_in (stored c) (index c))).change)
made c = ended-core (node_in (stored c) (index c)) c.core_with-c.ensures c.end-o.ensures

yes : (c : After-is_waiting) → is_done (end_answer (node_in (stored c) (index c))) ≡ true
yes c =
    let n = node_in (stored c) (index c) in
    let answer = c.end_answer.ensures
    ∙ ap (λ (x : Core). may_end x.phase) c.core_with-c.ensures ∙ sym (ends-phase n)
    in
    ap is_done (sym answer) ∙ c.is_err.ensures.negation
    ∙ ap not c.if-is_err.false

-- its numbers written, and its schedules dropped
ended : (c : After-is_waiting) → {w b r : List ℕ} → w ≡ written (stored c).words (node_words_at (index c)) (node_words (bare (next c)))
    → b ≡ written (stored c).bytes (node_bytes_at (index c)) (stored_front (member_of true (bare (next c))))
    → schedules_at (index c) + both_size ≤ length b → r ≡ dropped_in (change c) b (schedules_at (index c))
    → (w ≡ (each ends end_member end_change (index c) (stored c)).words) × (r ≡ (each ends end_member end_change (index c) (stored c)).bytes)
ended c {w} {b} {r} f g h k =
    let s = stored c in
    let i = index c in
    let m = stored_in s i in
    let done = end-done m (live c) (yes c) in
    let up = sym (ap (λ (x : Member). x.up) done ∙ live c) in
    let core = (made c).0 ∙ sym (ap (λ (x : Member). core_of x.node) done) in
    let e = each-one ends end_member end_change i s (both (live c) (yes c)) in
    let z = stepped s i (end_member m) up core (made c).1 refl f g
    (ended-moved (node_in s i) (core_in s i) b (schedules_at i) (made c).1 h k) in
    (z.0 ∙ sym (ap (λ (x : Store). x.words) e), z.1 ∙ sym (ap (λ (x : Store). x.bytes) e))

pub returns-then-not-is_up : goal.returns-then-not-is_up
returns-then-not-is_up c =
    let a = c.args in
    let s = store a.words.now a.bytes.now in
    let no = sym c.is_up.ensures ∙ c.if-not-is_up.true in
    let e = each_none ends end_member end_change a.i s (ap (λ (t : Bool). t && is_done (end_answer (node_in s a.i))) no) in record {
      words_after = sym (ap (λ (x : Store). x.words) e);
      bytes_after = sym (ap (λ (x : Store). x.bytes) e);
    }

pub returns-then-is_err : goal.returns-then-is_err
returns-then-is_err c =
    let a = c.args in
    let s = store a.words.now a.bytes.now in
    let n = node_in s a.i in
    let live = sym c.is_up.ensures
    ∙ c.if-not-is_up.false in
    let answer = c.end_answer.ensures
    ∙ ap (λ (x : Core). may_end x.phase) c.core_with-c.ensures
    ∙ sym (ends-phase n) in
    let no : is_done (end_answer n) ≡ false = ap is_done (sym answer) ∙ c.is_err.ensures.negation
    ∙ ap not c.if-is_err.true in
    let e = each_none ends end_member end_change a.i s (both live no) in record {
      words_after = sym (ap (λ (x : Store). x.words) e);
      bytes_after = sym (ap (λ (x : Store). x.bytes) e);
    }

pub put_core-requires : goal.put_core-requires
put_core-requires c = let p = c.requires in (p.0, p.1, p.2)

pub overflow_mul-i : goal.overflow_mul-i
overflow_mul-i c = omega (
  arith,
  c.requires.0,
)

pub overflow_add-i : goal.overflow_add-i
overflow_add-i c = omega (
  arith,
  c.requires.0,
)

pub returns-then-is_waiting : goal.returns-then-is_waiting
returns-then-is_waiting c =
    let p = c.requires in
    let k = c.put_core.auto in
    let whole = ended c.before.before.before.before.before.before.before.before.before.before.before.before.before c.put_core.ensures.words_after c.put_core.ensures.bytes_after
    (omega (arith, p.0, p.2, k.bytes)) c.drop_at.ensures in record {
      words_after = whole.0;
      bytes_after = whole.1;
    }

pub put_opened-requires : goal.put_opened-requires
put_opened-requires c =
    let p = c.requires in
    (p.0, p.1, p.2, ended-known (stored c.before.before.before) (index c.before.before.before) (made c.before.before.before).0 (sym c.is_waiting.ensures ∙ c.if-is_waiting.false))

pub overflow_mul-i-2 : goal.overflow_mul-i-2
overflow_mul-i-2 c = omega (
  arith,
  c.requires.0,
)

pub overflow_add-i-2 : goal.overflow_add-i-2
overflow_add-i-2 c = omega (
  arith,
  c.requires.0,
)

pub returns : goal.returns
returns c =
    let p = c.requires in
    let k = c.put_opened.auto in
    let whole = ended c.before.before.before.before.before.before.before.before.before.before.before.before.before c.put_opened.ensures.words_after c.put_opened.ensures.bytes_after
    (omega (arith, p.0, p.2, k.bytes)) c.drop_at-2.ensures in record {
      words_after = whole.0;
      bytes_after = whole.1;
    }
