use mathlib.Core.Bool.{Bool, ◌&&◌, and-false}
use mathlib.Core.List.{List}
use mathlib.Core.Path.{◌≡◌, refl, sym, ap, ◌∙◌}
use Prim.Native.Nat.{ℕ, ◌≤◌, ◌<◌, ◌-◌, ◌+◌}
use native.Mathlib.Omega.{arith}
use lib.Dec.{leb}
use lib.ListN.{length, drop, length-drop}
use lib.Seq.{length-take-le}
use borrow.Author.Tests.{le-leb, lt-leb, leb-true}
use borrow.Rule.Slice.PartMut.{put_mid}
use Rattle.words.proofs.Tests.{hit, skip, both}
use Rattle.lists.proofs.Laws.{part-written}
use Rattle.masks.specs.Bytes.{masks_in, has_room}
use Rattle.masks.specs.Air.{owners_to, owners_written}
use Rattle.masks.proofs.Told.{length-told, told-min}
use Rattle.masks.proofs.air.tell.Goals as goal

-- no room for the owners
too_short : (l out : List ℕ) (at n to : ℕ) → length out < to + 80 → out ≡ owners_written l at n out to
too_short l out at n to h =
    sym (skip (has_room l at && leb (to + 80) (length out)) _ _ out
    (ap (λ (t : Bool). has_room l at && t) (lt-leb (to + 80) (length out) h) ∙ and-false (has_room l at)) refl)

pub returns-then-not-has_room : goal.returns-then-not-has_room
returns-then-not-has_room c =
    let a = c.args in
    sym (skip _ _ _ _ (ap (λ (t : Bool). t && leb (a.to + 80) (length a.out.now))
    (sym c.has_room.ensures ∙ c.if-not-has_room.true)) refl)

pub returns-then-out-lt-OWNERS : goal.returns-then-out-lt-OWNERS
returns-then-out-lt-OWNERS c =
    let a = c.args in
    let h = c.if-out-lt-OWNERS.true in
    too_short a.s.now a.out.now a.at a.n a.to (omega arith)

pub returns-then-out-to : goal.returns-then-out-to
returns-then-out-to c =
    let a = c.args in
    let h = c.if-out-to.true in
    too_short a.s.now a.out.now a.at a.n a.to (omega arith)

pub tell_rows-requires : goal.tell_rows-requires
tell_rows-requires c =
    let a = c.args in
    let n = c.min.ensures in
    let d : length (drop a.to a.out.now) ≡ length a.out.now - a.to = length-drop a.to a.out.now in (
      leb-true _ _ (sym c.has_room.ensures
          ∙ c.if-not-has_room.false),
      omega arith,
      length-take-le (a.to + 80 - a.to) (drop a.to a.out.now) (omega arith) ∙ omega arith,
    )

pub returns : goal.returns
returns c =
    let a = c.args in
    let l = a.out.now in
    let m = masks_in a.s.now a.at in
    let h : a.to + 80 ≤ length l = omega arith in
    let e = c.tell_rows.ensures ∙ ap (owners_to m) c.min.ensures
    ∙ told-min m a.n in
    let k : length (owners_to m a.n) ≡ a.to + 80 - a.to = length-told m a.n ∙ omega arith in
    let r = sym c.has_room.ensures
    ∙ c.if-not-has_room.false in
    ap (put_mid a.to (a.to + 80 - a.to) l) e ∙ part-written l (owners_to m a.n) a.to (a.to + 80) (omega arith) k
    ∙ sym (hit _ _ _ (both r (le-leb _ _ h)))
