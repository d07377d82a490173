use mathlib.Core.Bool.{Bool, true}
use mathlib.Core.List.{List}
use mathlib.Core.Path.{◌≡◌, sym, ◌∙◌}
use Prim.Native.Nat.{ℕ, ◌≤◌, ◌+◌}
use native.Mathlib.Omega.{arith}
use borrow.Author.Tests.{leb-true, le-leb}
use lib.Dec.{leb}
use lib.ListN.{length}
use Rattle.words.proofs.Tests.{hit, skip}
use Rattle.masks.specs.Bytes.{masks_size}
use Rattle.masks.proofs.Rows.{low_read, low-past}
use Rattle.masks.proofs.bytes.low_at.Goals as goal

pub returns-then-not-has_room : goal.returns-then-not-has_room
returns-then-not-has_room c =
    let a = c.args in
    sym (skip (leb (a.at + masks_size) (length a.s.now)) _ _ _ (sym c.has_room.ensures ∙ c.if-not-has_room.true)
    (λ _. 0))

-- what the test of the room says
room : (a : ℕ) (s : List ℕ) (r : Bool) → r ≡ leb (a + masks_size) (length s) → r ≡ true → a + masks_size ≤ length s
room a s r e f = leb-true _ _ (sym e ∙ f)

pub overflow_add-at : goal.overflow_add-at
overflow_add-at c = omega (arith, room c.args.at c.args.s.now c.has_room.result c.has_room.ensures c.if-not-has_room.false)

pub long_word-requires : goal.long_word-requires
long_word-requires c = omega (arith, room c.args.at c.args.s.now c.has_room.result c.has_room.ensures c.if-not-has_room.false, c.if-i-lt32.true)

pub returns-then-i-lt32 : goal.returns-then-i-lt32
returns-then-i-lt32 c =
    let a = c.args in
    c.long_word.ensures ∙ low_read a.s.now a.at a.i (omega (arith, c.if-i-lt32.true))
    ∙ sym (hit (leb (a.at + masks_size) (length a.s.now)) _ _ (le-leb _ _ (room c.args.at c.args.s.now c.has_room.result c.has_room.ensures c.if-not-has_room.false)))

pub returns : goal.returns
returns c =
    let a = c.args in
    sym (hit (leb (a.at + masks_size) (length a.s.now)) _ _ (le-leb _ _ (room c.args.at c.args.s.now c.has_room.result c.has_room.ensures c.if-not-has_room.false))
    ∙ low-past a.s.now a.at a.i (omega (arith, c.if-i-lt32.false)))
