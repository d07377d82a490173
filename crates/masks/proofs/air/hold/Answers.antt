-- The slots one by one: after k of them the masks are those of the first k owners, and no other byte has changed.
use lib.ListN.{length-take, take}
use lib.Seq.{get_or-take}
use Rattle.masks.specs.Inner.{granted}
use mathlib.Core.List.{List}
use mathlib.Core.Path.{◌≡◌, refl, sym, ap, ◌∙◌, subst}
use Prim.Native.Nat.{ℕ, min, ◌≤◌, ◌<◌, ◌+◌}
use native.Mathlib.Omega.{arith}
use lib.ListN.{length, get_or, get_or-eq_default}
use borrow.Author.Rules.{rules}
use borrow.Author.Tests.{leb-true}
use Rattle.words.proofs.Tests.{hit, skip}
use Rattle.lists.proofs.Places.{Apart, apart_none, apart-then, apart-written}
use Rattle.masks.specs.Slots.{masks_of}
use Rattle.masks.specs.Bytes.{masks_size, masks_in, no_slots}
use Rattle.masks.proofs.Granted.{masks-none, cleared-masks, masks-end, held-le, grant-turn, grant-apart, written-masks}
use Rattle.masks.proofs.air.hold.Goals as goal

pub shape_of-out-then-not-has_room : goal.shape_of-out-then-not-has_room
shape_of-out-then-not-has_room c = refl

pub returns-then-not-has_room : goal.returns-then-not-has_room
returns-then-not-has_room c = sym (skip _ _ _ _ (sym c.has_room.ensures ∙ c.if-not-has_room.true) refl)

pub loop-k-init : goal.loop-k-init
loop-k-init c =
    let a = c.args in
    let r = sym c.has_room.ensures ∙ c.if-not-has_room.false in
    let h : a.at + masks_size ≤ length a.out.now = leb-true _ _ r in
    let e = c.clear.ensures ∙ hit _ _ _ r in
    let s : length c.clear.new.s ≡ length a.out.now = search rules in (
      omega (arith, s, h),
      λ i l. omega (arith, c.type_inv.out i),
      apart_none _ _ _,
      ap (λ (l : List ℕ). masks_in l a.at) e ∙ cleared-masks a.out.now a.at h ∙ sym (masks-none a.owners.now),
    )

-- one of the first 80
below : {m k : ℕ} (o : List ℕ) → m ≡ min (length o) 80 → k < length (take m o) → (k < m) × (k < 80)
below {m} {k} o e h = (omega (arith, length-take m o, h), omega (arith, e, length-take m o, h))

pub grant-requires : goal.grant-requires
grant-requires c =
    let l = c.loop-k in
    let a = c.args in
    let b = below a.owners.now c.min.ensures c.loop-k-test.true in
    (l.invariant.0, b.1, rw (get_or-take c.min.result a.owners.now l.k 0 b.0) (held-le a.owners.now l.out a.at l.k l.invariant.0 l.invariant.3))

pub loop-k-preserved : goal.loop-k-preserved
loop-k-preserved c =
    let l = c.loop-k in
    let a = c.args in
    let b = below a.owners.now c.min.ensures c.loop-k-test.true in
    let x = get_or a.owners.now l.k 0 in
    let e = c.grant.ensures ∙ ap (λ (j : ℕ). granted l.out a.at j l.k) (get_or-take c.min.result a.owners.now l.k 0 b.0) in
    let p = grant-apart l.out a.at x l.k l.invariant.0 in
    let q = subst (λ (m : List ℕ). Apart l.out m a.at masks_size) (sym e) p in (
      omega (arith, q.long, l.invariant.0),
      λ i z. omega (arith, c.type_inv.out i),
      apart-then l.invariant.2 q,
      ap (λ (m : List ℕ). masks_in m a.at) e ∙ grant-turn a.owners.now l.out a.at l.k l.invariant.0 l.invariant.3 b.1,
    )

pub shape_of-out : goal.shape_of-out
shape_of-out c =
    let s : length c.clear.new.s
    ≡ length c.args.out.now =
    search rules in
    c.loop-k.invariant.2.long ∙ s

pub returns : goal.returns
returns c =
    let l = c.loop-k in
    let a = c.args in
    let r = sym c.has_room.ensures ∙ c.if-not-has_room.false in
    let h : a.at + masks_size ≤ length a.out.now = leb-true _ _ r in
    let o = a.owners.now in
    let b : Apart a.out.now c.clear.new.s a.at masks_size =
    subst (λ (m : List ℕ). Apart a.out.now m a.at masks_size) (sym (c.clear.ensures ∙ hit _ _ _ r))
    (apart-written a.out.now no_slots a.at a.at masks_size (omega arith) (omega arith) (omega (arith, h))) in
    let m = c.min.result in
    let t : l.k ≡ min (length o) 80 = omega (arith, c.min.ensures, length-take m o, c.loop-k-test.false) in
    let n : (j : ℕ) → l.k ≤ j → j < 80 → get_or o j 0 ≡ 0 = λ j x y. get_or-eq_default o 0 {n = j} (omega (arith, t, x, y)) in
    written-masks a.out.now l.out a.at (masks_of o) l.invariant.1 h (apart-then b l.invariant.2)
    (l.invariant.3 ∙ masks-end o l.k (omega (arith, t)) n) ∙ sym (hit _ _ _ r)
