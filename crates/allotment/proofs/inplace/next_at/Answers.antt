use mathlib.Core.List.{List}
use mathlib.Core.Path.{◌≡◌, refl, sym, ap, ◌∙◌}
use mathlib.Core.Bool.{Bool, false, ◌&&◌, and-false}
use Prim.Native.Nat.{ℕ, min, ◌+◌}
use native.Mathlib.Omega.{arith}
use borrow.Author.Tests.{leb-true}
use lib.Dec.{leb}
use lib.ListN.{length, get_or}
use Rattle.words.proofs.Tests.{hit, skip, both}
use Rattle.lists.specs.Bytes.{written}
use Rattle.masks.specs.Slots.{owners_in, masks_of}
use Rattle.masks.specs.Bytes.{masks_size, masks_bytes, masks_in}
use Rattle.allotment.specs.Allotment.{owners_of, schedule_of, allotted, next}
use Rattle.allotment.specs.InPlace.{held_bytes, held_in, next_in}
use Rattle.allotment.proofs.Laws.{target_past}
use Rattle.allotment.proofs.inplace.next_at.Goals as goal

pub returns-then-not-has_room : goal.returns-then-not-has_room
unfolding next_in
returns-then-not-has_room c =
    let a = c.args in
    let s = a.s.now in
    let e : leb (a.at + masks_size) (length s) ≡ false = sym c.has_room.ensures ∙ c.if-not-has_room.true in
    sym (skip (leb (a.at + masks_size) (length s) && leb (a.to + masks_size) (length s)) _ s s
    (ap (λ (t : Bool). t && leb (a.to + masks_size) (length s)) e) refl)

pub returns-then-not-has_room-2 : goal.returns-then-not-has_room-2
unfolding next_in
returns-then-not-has_room-2 c =
    let a = c.args in
    let s = a.s.now in
    let x = leb (a.at + masks_size) (length s) in
    let e : leb (a.to + masks_size) (length s) ≡ false = sym c.has_room-2.ensures ∙ c.if-not-has_room-2.true in
    sym (skip (x && leb (a.to + masks_size) (length s)) _ s s (ap (λ (t : Bool). x && t) e ∙ and-false x) refl)

pub allot-requires : goal.allot-requires
allot-requires c =
    let a = c.args in
    let m : c.nodes.result ≡ min a.n 32 = c.nodes.ensures in (
      leb-true _ _ (sym c.has_room.ensures ∙ c.if-not-has_room.false),
      leb-true _ _ (sym c.has_room-2.ensures ∙ c.if-not-has_room-2.false),
      omega arith,
      λ i l. ap (λ (t : List ℕ). get_or t i 0) c.targets.ensures
          ∙ target_past a.n a.k a.members a.requests i (omega arith),
    )

pub returns : goal.returns
unfolding next_in held_bytes held_in owners_of schedule_of next
returns c =
    let a = c.args in
    let s = a.s.now in
    c.allot.ensures
    ∙ ap (λ (t : List ℕ). written s a.to (masks_bytes (masks_of (allotted t (owners_in (masks_in s a.at)) a.k))))
    c.targets.ensures
    ∙ sym (hit (leb (a.at + masks_size) (length s) && leb (a.to + masks_size) (length s)) _ s (both (sym c.has_room.ensures ∙ c.if-not-has_room.false) (sym c.has_room-2.ensures ∙ c.if-not-has_room-2.false)))
