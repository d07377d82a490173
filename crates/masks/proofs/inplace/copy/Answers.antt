use mathlib.Core.List.{List}
use mathlib.Core.Bool.{true, ◌&&◌}
use borrow.Author.Tests.{leb-true}
use lib.ListN.{length}
use Rattle.words.proofs.Tests.{hit, skip, both, and_left, and_right}
use Rattle.lists.specs.Bytes.{window, written}
use Rattle.lists.proofs.Chain.{written_none}
use Rattle.masks.specs.Bytes.{masks_size, rows, has_room, can_copy}
use Rattle.masks.proofs.Rows.{length_part, rows_more}
use Rattle.masks.proofs.Moves.{part_at, long-part, part-kept, parts_are, overlaps, apart, can-copy, no_room}
use mathlib.Core.Path.{◌≡◌, refl, sym, ap, ◌∙◌}
use Prim.Native.Nat.{ℕ, ◌≤◌, ◌<◌, ◌+◌, ◌*◌}
use native.Mathlib.Omega.{arith}
use Rattle.masks.proofs.inplace.copy.Goals as goal

-- room at both places
rooms : (l : List ℕ) (from to : ℕ) → (has_room l from && has_room l to) ≡ true → (from + masks_size ≤ length l) × (to + masks_size ≤ length l)
rooms l from to e = (leb-true _ _ (and_left (has_room l from) _ e), leb-true _ _ (and_right (has_room l from) (has_room l to) e))

pub returns-then-not-has_room : goal.returns-then-not-has_room
returns-then-not-has_room c = sym (skip _ _ _ _
    (no_room _ _ (sym (both c.has_room.ensures c.has_room-2.ensures)
    ∙ c.if-not-has_room.true)) refl)

pub overflow_add-from : goal.overflow_add-from
overflow_add-from c = let a = c.args in let h = rooms a.s.now a.from a.to
    (sym (both c.has_room.ensures c.has_room-2.ensures) ∙ c.if-not-has_room.false) in omega
    (arith, h.0)

pub returns-then-from-to : goal.returns-then-from-to
returns-then-from-to c = let a = c.args in sym
    (skip (can_copy a.s.now a.from a.to) _ _ _
    (overlaps (has_room a.s.now a.from && has_room a.s.now a.to) a.from a.to c.if-from-to.true) refl)

pub loop-i-init : goal.loop-i-init
unfolding rows
loop-i-init c = let a = c.args in let h = rooms a.s.now a.from a.to
    (sym (both c.has_room.ensures c.has_room-2.ensures)
    ∙ c.if-not-has_room.false) in (omega arith, h.0, h.1, refl, sym (written_none a.s.now a.to))

pub overflow_mul-i : goal.overflow_mul-i
overflow_mul-i c = omega arith

pub overflow_add-from-in-loop-i : goal.overflow_add-from-in-loop-i
overflow_add-from-in-loop-i c = omega arith

pub part-l-requires : goal.part-l-requires
part-l-requires c = omega arith

pub overflow_mul-i-in-loop-i : goal.overflow_mul-i-in-loop-i
overflow_mul-i-in-loop-i c = omega arith

pub overflow_add-to : goal.overflow_add-to
overflow_add-to c = omega arith

pub overflow_step-i : goal.overflow_step-i
overflow_step-i c = omega arith

pub loop-i-smaller : goal.loop-i-smaller
loop-i-smaller c = omega arith

pub loop-i-preserved : goal.loop-i-preserved
loop-i-preserved c =
    let a = c.args.s.now in
    let l = c.loop-i in
    let s = apart c.args.from c.args.to c.if-from-to.false in
    let k : l.i < 11 = omega arith in
    let p = c.part-l.ensures
    ∙ ap (λ (x : List ℕ). window 32 x (c.args.from + 32 * l.i)) l.invariant.4
    ∙ part-kept a c.args.from c.args.to l.invariant.1 l.invariant.2 l.i k s in
    let r = rows_more (part_at a c.args.from) 32 (long-part a c.args.from) a c.args.to l.i l.invariant.4 p
    c.put_bytes.ensures (omega (arith, l.invariant.2)) in (
      omega arith,
      l.invariant.1,
      l.invariant.2,
      ap length r ∙ length_part (part_at a c.args.from) 32 (long-part a c.args.from) a
          c.args.to (l.i + 1) (omega (arith, l.invariant.2)),
      r,
    )

pub shape_of-s : goal.shape_of-s
shape_of-s c = c.loop-i.invariant.3

pub returns : goal.returns
returns c =
    let a = c.args.s.now in
    let l = c.loop-i in
    let e : l.i ≡ 11 = omega arith in
    let s = apart c.args.from c.args.to c.if-from-to.false in
    l.invariant.4 ∙ ap (λ (n : ℕ). written a c.args.to (rows n (part_at a c.args.from))) e
    ∙ ap (written a c.args.to) (parts_are a c.args.from c.args.to l.invariant.1 l.invariant.2)
    ∙ sym (hit _ _ _ (can-copy a c.args.from c.args.to l.invariant.1 l.invariant.2 s))
