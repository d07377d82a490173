use mathlib.Core.List.{List}
use mathlib.Core.Path.{◌≡◌, refl, sym, ap, ◌∙◌}
use Prim.Native.Nat.{ℕ, ◌≤◌, ◌<◌, ◌+◌}
use native.Mathlib.Omega.{arith}
use borrow.Author.Rules.{rules}
use borrow.Author.Tests.{leb-true, leb-false}
use lib.ListN.{length, get_or}
use Rattle.lists.proofs.Chain.{not-tried}
use Rattle.masks.specs.Slots.{Masks}
use Rattle.masks.specs.Slots.{from_words, count_of}
use Rattle.masks.specs.Bytes.{bytes64, bytes16, rows, masks_size, masks_bytes, first_words}
use Rattle.lists.specs.Bytes.{written}
use Rattle.masks.proofs.Moves.{first-min}
use Rattle.masks.proofs.Rows.{entries, length-masks, masks-put}
use Rattle.masks.proofs.bytes.put_words.Goals as goal
use Rattle.masks.proofs.bytes.put_words.Goals.{Else-not-has_room, Start}

long-counts : (c : Start) → length c.args.counts ≡ 32
long-counts c = search rules

pub returns-then-not-has_room : goal.returns-then-not-has_room
returns-then-not-has_room c =
    let a = c.args in
    let m : Masks = from_words (first_words a.n a.low.now) (first_words a.n a.high.now) a.counts in
    let h : length a.out.now < a.at + masks_size = leb-false _ _ (sym c.has_room.ensures ∙ c.if-not-has_room.true) in
    not-tried a.out.now (masks_bytes m) a.at (omega (arith, h, length-masks m))

room : (c : Else-not-has_room) → c.args.at + masks_size ≤ length
    c.args.out.now
room c = leb-true _ _ (sym c.has_room.ensures ∙ c.if-not-has_room.false)

pub put_first-requires : goal.put_first-requires
put_first-requires c = (omega (arith, c.min-top.ensures), omega (arith, room c.before.before))

pub overflow_add-at : goal.overflow_add-at
overflow_add-at c = omega (arith, room c.before.before.before.before.before.before)

pub put_second-requires : goal.put_second-requires
put_second-requires c = (
  omega (arith, c.min-top.ensures),
  omega (arith, room c.before.before.before.before.before.before),
)

pub overflow_add-at-2 : goal.overflow_add-at-2
overflow_add-at-2 c = omega (arith, room c.before.before.before.before.before.before.before.before.before.before)

pub returns : goal.returns
returns c =
    let n = c.args.n in
    let t = c.min-top in
    let cut : (l : List ℕ) → first_words t.result l ≡ first_words n l = λ l. ap (λ (x : ℕ). first_words x l) t.ensures ∙ first-min n l in
    let m : Masks = from_words (first_words n c.args.low.now) (first_words n c.args.high.now) c.args.counts in
    masks-put m c.args.out.now c.args.at (room c.before.before.before.before.before.before.before.before.before.before.before.before.before.before.before) (sym (entries c.args.counts (count_of m) (long-counts c.before.before.before.before.before.before.before.before.before.before.before.before.before.before.before.before.before.before) (λ i k. refl)))
    (c.put_first.ensures ∙ ap (λ (l : List ℕ). written c.args.out.now c.args.at (rows 32 (λ i. bytes64 (get_or l i 0))))
    (cut c.args.low.now))
    (c.put_second.ensures
    ∙ ap (λ (l : List ℕ). written c.put_first.new.out (c.args.at + 256) (rows 32 (λ i. bytes16 (get_or l i 0))))
    (cut c.args.high.now))
    c.put_bytes.ensures
