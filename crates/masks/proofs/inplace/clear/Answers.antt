use mathlib.Core.List.{List}
use borrow.Author.Tests.{leb-true}
use lib.ListN.{length, replicate}
use Rattle.words.proofs.Tests.{hit, skip}
use Rattle.lists.specs.Bytes.{written}
use Rattle.masks.specs.Bytes.{masks_size}
use Rattle.masks.proofs.Moves.{zeros-twice}
use mathlib.Core.Path.{refl, sym, ap, ◌∙◌}
use Prim.Native.Nat.{ℕ, ◌+◌}
use native.Mathlib.Omega.{arith}
use Rattle.masks.proofs.inplace.clear.Goals as goal

pub returns-then-not-has_room : goal.returns-then-not-has_room
returns-then-not-has_room c = sym (skip _ _ _ _ (sym c.has_room.ensures ∙ c.if-not-has_room.true) refl)

pub zeros-requires : goal.zeros-requires
zeros-requires c = let a = c.args in let h = leb-true (a.at + masks_size) (length a.s.now)
    (sym c.has_room.ensures ∙ c.if-not-has_room.false) in omega (arith, h)

pub overflow_add-at : goal.overflow_add-at
overflow_add-at c = let a = c.args in let h = leb-true
    (a.at + masks_size) (length a.s.now)
    (sym c.has_room.ensures
    ∙ c.if-not-has_room.false) in omega (arith, h)

pub wipe-requires : goal.wipe-requires
wipe-requires c = let a = c.args in let h = leb-true
    (a.at + masks_size) (length a.s.now)
    (sym c.has_room.ensures
    ∙ c.if-not-has_room.false) in omega (arith, h)

pub returns : goal.returns
returns c =
    let e = sym c.has_room.ensures
    ∙ c.if-not-has_room.false in
    c.wipe.ensures ∙ ap (λ (l : List ℕ). written l (c.args.at + 176) (replicate 176 0))
    c.zeros.ensures
    ∙ zeros-twice c.args.s.now c.args.at (leb-true _ _ e) ∙ sym (hit _ _ _ e)
