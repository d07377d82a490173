use mathlib.Core.Bool.{Bool, true, ◌&&◌, and-false}
use mathlib.Core.List.{List}
use mathlib.Core.Path.{◌≡◌, refl, sym, ap, ◌∙◌}
use Prim.Native.Nat.{ℕ, ◌≤◌}
use native.Mathlib.Omega.{arith}
use lib.Dec.{leb}
use lib.ListN.{length}
use borrow.Author.Rules.{rules}
use borrow.Author.Tests.{le-leb, lt-leb}
use Rattle.words.proofs.Tests.{hit, skip, both}
use Rattle.lists.specs.Bytes.{bytes32, Tried}
use Rattle.masks.specs.Bytes.{masks_in, has_room}
use Rattle.masks.specs.Air.{owners_to, owners_written}
use Rattle.masks.proofs.Told.{length-told}
use Rattle.allotment.specs.Allotment.{schedule_of}
use Rattle.allotment.proofs.Schedules.{owners-made}
use Rattle.node.specs.Model.{Versioned}
use Rattle.wire.specs.Layout.{schedule_size, schedule_written}
use Rattle.wire.proofs.Writes.{schedule-so, front-so}
use Rattle.wire.proofs.write_schedule.Goals as goal

-- both parts, where there is room for them
tells : {i : ℕ} {m r : List ℕ} (version : ℕ) (l : List ℕ) (at n : ℕ) (out : List ℕ) → has_room l at ≡ true → schedule_size ≤ length out
    → length m ≡ length out → Tried out 0 (bytes32 version) i m → r ≡ owners_written l at n m 4 → r ≡ schedule_written version l at n out
tells {m = m} version l at n out a h e t u =
    let o = owners_to (masks_in l at) n in
    let v : Versioned = record { version = version; schedule = schedule_of o } in
    let z : schedule_size ≤ length m = omega arith in
    front-so (schedule-so v h (length-told (masks_in l at) n) (sym (owners-made o)) t (u ∙ hit _ _ _ (both a (le-leb _ _ z))))
    ∙ sym (hit _ _ _ (both a (le-leb _ _ h)))

pub returns-then-not-has_room : goal.returns-then-not-has_room
returns-then-not-has_room c =
    let a = c.args in
    sym (skip _ _ _ _ (ap (λ (t : Bool). t && leb schedule_size (length a.out.now))
    (sym c.has_room.ensures ∙ c.if-not-has_room.true)) refl)

pub returns-then-out-lt-SCHEDULE : goal.returns-then-out-lt-SCHEDULE
returns-then-out-lt-SCHEDULE c =
    let a = c.args in
    sym (skip _ _ _ _ (ap (λ (t : Bool). has_room a.s.now a.at && t) (lt-leb _ _ c.if-out-lt-SCHEDULE.true)
    ∙ and-false (has_room a.s.now a.at)) refl)

pub returns : goal.returns
returns c =
    let a = c.args in
    let e : length c.put_word.new.out ≡ length a.out.now = search rules in
    tells a.version a.s.now a.at a.n a.out.now
    (sym c.has_room.ensures ∙ c.if-not-has_room.false)
    c.if-out-lt-SCHEDULE.false e c.put_word.ensures c.tell.ensures
