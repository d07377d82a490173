-- `masks::own` reads the row of one node where it stands.
use mathlib.Core.Path.{◌≡◌, refl, sym, ap, ◌∙◌}
use mathlib.Core.Bool.{Bool, false, ◌&&◌, and-false}
use mathlib.Core.List.{List}
use Prim.Native.Nat.{ℕ, ◌+◌, ◌-◌, ◌<◌}
use native.Mathlib.Omega.{arith}
use lib.Dec.{leb}
use lib.ListN.{length}
use borrow.Author.Tests.{le-leb, lt-leb}
use Rattle.words.proofs.Tests.{hit, skip, both}
use Rattle.masks.specs.declared.NodeSlots.{NodeSlots}
use Rattle.masks.specs.Slots.{low_of, high_of}
use Rattle.masks.specs.Bytes.{masks_size, masks_in, no_own, own_read}
use Rattle.masks.proofs.Rows.{low_read, high_read, count-read}
use Rattle.masks.proofs.bytes.own.Goals as goal

-- whether there is room, and the number is a node's
abbrev asked : List ℕ → ℕ → ℕ → Bool
asked l at j = leb (at + masks_size) (length l) && (leb 1 j && leb j 32)

none_is : {o : NodeSlots} (l : List ℕ) (at j : ℕ) → o ≡ no_own → asked l at j ≡ false → o ≡ own_read l at j
unfolding own_read
none_is l at j e f = e ∙ sym (skip (asked l at j) _ no_own no_own f refl)

pub returns-then-s-from : goal.returns-then-s-from
returns-then-s-from c =
    none_is c.args.s.now c.args.at c.args.j c.nobody.ensures
    (ap (λ (t : Bool). t && (leb 1 c.args.j && leb c.args.j 32)) (lt-leb _ _ c.if-s-from.true))

pub returns-then-j-lt1 : goal.returns-then-j-lt1
returns-then-j-lt1 c =
    let room = leb (c.args.at + masks_size) (length c.args.s.now) in
    none_is c.args.s.now c.args.at c.args.j c.nobody-then-j-lt1.ensures
    (ap (λ (t : Bool). room && (t && leb c.args.j 32)) (lt-leb 1 c.args.j c.if-j-lt1.true) ∙ and-false room)

pub returns-then-j-gt32 : goal.returns-then-j-gt32
returns-then-j-gt32 c =
    let room = leb (c.args.at + masks_size) (length c.args.s.now) in
    let one = leb 1 c.args.j in
    none_is c.args.s.now c.args.at c.args.j c.nobody-then-j-gt32.ensures
    (ap (λ (t : Bool). room && (one && t)) (lt-leb c.args.j 32 c.if-j-gt32.true) ∙ ap (λ (t : Bool). room && t) (and-false one)
    ∙ and-false room)

pub returns : goal.returns
unfolding own_read
returns c =
    let s = c.args.s.now in
    let at = c.args.at in
    let j = c.args.j in
    let k : j - 1 < 32 = omega arith in
    let x : c.long_word.result ≡ low_of (masks_in s at) (j - 1) = c.long_word.ensures
    ∙ low_read s at (j - 1) k in
    let y : c.short_word.result ≡ high_of (masks_in s at) (j - 1) = c.short_word.ensures ∙ high_read s at (j - 1) k in
    let z = count-read s at (j - 1) k in
    (λ i. record { low = x i; high = y i; count = z i })
    ∙ sym (hit _ _ _ (both (le-leb _ _ c.if-s-from.false)
    (both (le-leb 1 j c.if-j-lt1.false) (le-leb j 32 c.if-j-gt32.false))))
