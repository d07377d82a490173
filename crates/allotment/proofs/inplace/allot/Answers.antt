-- `allot` goes from node to node: those before the place have their share, and their words are taken. Then from one free slot to the next:
-- the rows are those of the rule's draft after the slots before it.
use mathlib.Core.Path.{◌≡◌, sym, ap, ap₂, ◌∙◌, refl}
use mathlib.Core.Bool.{true, not, ◌&&◌}
use mathlib.Core.List.{List}
use mathlib.Core.Logic.{◌≢◌}
use Prim.Native.Nat.{ℕ, ◌≤◌, ◌<◌, ◌+◌}
use native.Mathlib.Omega.{arith}
use borrow.Author.Rules.{rules}
use mir.Val.{Fits}
use mir.Syntax.{w8}
use borrow.Author.Tests.{le-leb, lt-ltb, ltb-true, ltb-false, eqb-false, not-true}
use lib.Dec.{eqb, ltb, leb}
use lib.ListN.{length, get_or, length-set, take, length-take}
use lib.Seq.{get_or-set_other, get_or-take}
use Rattle.words.proofs.Tests.{by-test, hit, and_left, and_right}
use Rattle.lists.specs.Bytes.{written}
use Rattle.lists.proofs.Laws.{fill_none, fill_more, length-tab}
use Rattle.lists.proofs.Chain.{put}
use Rattle.masks.specs.Slots.{Masks}
use Rattle.masks.specs.Slots.{has_slot, from_words, low_of, high_of, owners_in}
use Rattle.masks.specs.Bytes.{masks_size, masks_bytes, masks_in, first_words}
use Rattle.masks.proofs.Rows.{length-masks}
use Rattle.masks.proofs.Taken.{taken_none, taken-turn}
use Rattle.masks.proofs.Fits.{taken-rest}
use Rattle.masks.proofs.Moves.{rest, first-all}
use Rattle.allotment.specs.declared.Share.{Share}
use Rattle.allotment.specs.Allotment.{holding}
use Rattle.allotment.specs.Inner.{node_kept, own_low, own_high}
use Rattle.allotment.proofs.Turns.{fill-may, fill-at}
use Rattle.allotment.proofs.OwnSlots.{share_of, keep-is}
use Rattle.allotment.proofs.FewRows.{fill-past, fill-rest, low-none, high-none, held_none}
use Rattle.allotment.proofs.GivenSlots.{frees}
use Rattle.allotment.proofs.DraftRows.{so-kept, so-on, so-turn, so-done}
use Rattle.allotment.proofs.inplace.allot.Goals as goal

-- a slot is left, and a node is chosen
left : (slot j : ℕ) → (ltb slot 80 && not (eqb j 0)) ≡ true → slot < 80
left slot j t = ltb-true slot 80 (and_left (ltb slot 80) (not (eqb j 0)) t)

some : (slot j : ℕ) → (ltb slot 80 && not (eqb j 0)) ≡ true → j ≢ 0
some slot j t = eqb-false j 0 (not-true (eqb j 0) (and_right (ltb slot 80) (not (eqb j 0)) t))

-- a node below its target is one of the first n
below : (target : List ℕ) (n : ℕ) → ((i : ℕ) → n ≤ i → get_or target i 0 ≡ 0) → (held : List ℕ) (i : ℕ)
    → get_or held i 0 < get_or target i 0 → i < n
below target n z held i h =
    by-test (λ (_ : ℕ). i < n) (ltb i n) 0 0 (λ t. ltb-true i n t)
    (λ t. let e = z i (ltb-false i n t) in absurd (omega (arith, e, h)))

pub slice_bounds-target-end : goal.slice_bounds-target-end
slice_bounds-target-end c =
    let a = c.args in
    let u = c.rows_used-rows in
    let w : length a.target ≡ 32 = search rules in
    omega (arith, w, (rest a.s.now a.at a.n u.result u.ensures).most)

pub slice_bounds-most-items-end : goal.slice_bounds-most-items-end
slice_bounds-most-items-end c =
    let a = c.args in
    let u = c.rows_used-rows in
    let w : length a.target ≡ 32 = search rules in
    omega (arith, length-take u.result a.target, w, (rest a.s.now a.at a.n u.result u.ensures).most)

pub loop-i-init : goal.loop-i-init
loop-i-init c = (
  omega arith,
  fill_none _ _,
  fill_none _ _,
  fill_none _ _,
  taken_none _,
  taken_none _,
  (rest _ _ _ _ c.rows_used-rows.ensures).most,
)

pub loop-i-preserved : goal.loop-i-preserved
loop-i-preserved c =
    let l = c.loop-i in
    let a = c.args in
    let s = a.s.now in
    let m = masks_in s a.at in
    let t = a.target in
    let e : leb (a.at + masks_size) (length s) ≡ true = le-leb _ _ c.requires.0 in
    let x : c.low_at-a.result ≡ low_of m l.i = c.low_at-a.ensures ∙ hit _ _ _ e in
    let y : c.high_at-b.result ≡ high_of m l.i = c.high_at-b.ensures ∙ hit _ _ _ e in
    let p = c.own_low-first.ensures ∙ ap₂ (λ (u v : ℕ). own_low u v a.k) x l.invariant.4 in
    let q = c.own_high-second.ensures ∙ ap₂ (λ (u v : ℕ). own_high u v a.k) y l.invariant.5 in
    let n = c.rows_used-rows.result in
    let k : l.i < n = omega (arith, length-take n t) in
    let g : get_or (take n t) l.i 0 ≡ get_or t l.i 0 = get_or-take n t l.i 0 k in
    let r : c.keep_node-share.result ≡ share_of m t a.k l.i = c.keep_node-share.ensures
    ∙ ap (node_kept c.own_low-first.result c.own_high-second.result) g
    ∙ ap₂ (λ (u v : ℕ). node_kept u v (get_or t l.i 0)) p q in (
      omega (arith, k),
      fill_more _ _ _ _ _ (omega (arith, k, l.invariant.6)) l.invariant.1 (ap (λ (z : Share). z.low) r),
      fill_more _ _ _ _ _ (omega (arith, k, l.invariant.6)) l.invariant.2 (ap (λ (z : Share). z.high) r),
      fill_more _ _ _ _ _ (omega (arith, k, l.invariant.6)) l.invariant.3 (ap (λ (z : Share). z.held) r),
      taken-turn _ _ _ _ l.invariant.4 x,
      taken-turn _ _ _ _ l.invariant.5 y,
      l.invariant.6,
    )

pub turn-j-requires : goal.turn-j-requires
turn-j-requires c =
    let p = c.requires in
    (p.2, p.3, λ i l. (omega arith, λ m. absurd (omega arith)))

pub loop-slot-init : goal.loop-slot-init
loop-slot-init c =
    let l = c.loop-i in
    let u = c.rows_used-rows in
    let a = c.args in
    let m = masks_in a.s.now a.at in
    let t = a.target in
    let w : length t ≡ 32 = search rules in
    let g = rest a.s.now a.at a.n u.result u.ensures in
    let n : l.i ≡ u.result = omega (arith, l.invariant.0, length-take u.result t, w, g.most) in
    let o : l.i ≤ 32 = omega (arith, n, g.most) in
    let v : (j : ℕ) → l.i ≤ j → u.result ≤ j = λ j k. omega (arith, n, k) in
    let none : (j : ℕ) → l.i ≤ j → low_of m j ≡ 0 = λ j k. g.lows j (v j k) in
    let none' : (j : ℕ) → l.i ≤ j → high_of m j ≡ 0 = λ j k. g.highs j (v j k) in
    let p = fill-rest _ _ _ o l.invariant.1 (λ j k _. low-none m t a.k j (none j k) (none' j k)) in
    let q = fill-rest _ _ _ o l.invariant.2 (λ j k _. high-none m t a.k j (none j k) (none' j k)) in
    let r = fill-rest _ _ _ o l.invariant.3 (λ j k _. held_none m t a.k j (none j k) (none' j k)) in
    let x = c.own_low-free_low.ensures ∙ ap (λ (v : ℕ). own_low 18446744073709551615 v a.k)
    (l.invariant.4 ∙ sym (taken-rest m.low l.i o none)) in
    let y = c.own_high-free_high.ensures ∙ ap (λ (v : ℕ). own_high 65535 v a.k)
    (l.invariant.5 ∙ sym (taken-rest m.high l.i o none')) in
    let f : (z : ℕ) → z < 80 → (ltb z a.k && eqb (get_or (owners_in m) z 0) 0)
    ≡ has_slot c.own_low-free_low.result c.own_high-free_high.result z =
    λ z g. frees m a.k z g ∙ sym (ap₂ (λ (u v : ℕ). has_slot u v z) x y) in
    let e : from_words l.low l.high l.held ≡ _ = (λ i. from_words (p i) (q i) (r i)) ∙ keep-is m t a.k w in (
      ap length r ∙ length-tab 32 _,
      λ h. c.turn-j.ensures ∙ hit _ _ _ (lt-ltb _ _ h),
      f,
      so-on t (owners_in m) a.k _ _ f 0 _ _ _ _ (omega arith) c.next_slot-slot.ensures (so-kept t (owners_in m) a.k _ _ _ w e),
      c.next_slot-slot.ensures.passes,
      λ z k. fill-past _ _ _ o l.invariant.1 z (omega (arith, n, k)),
      λ z k. fill-past _ _ _ o l.invariant.2 z (omega (arith, n, k)),
    )

pub overflow_add-held : goal.overflow_add-held
overflow_add-held c =
    let l = c.loop-slot in
    let a = c.args in
    let t = c.loop-slot-test.true in
    let i = c.node_index-i.result in
    let f : Fits w8 (get_or a.target i 0) = search rules in
    let h : get_or l.held i 0 < get_or a.target i 0 =
    fill-may a.target (owners_in (masks_in a.s.now a.at)) a.k (holding l.held) _ (l.invariant.1 (left l.slot l.j t)) _
    c.node_index-i.ensures.1 (some l.slot l.j t) in
    omega (arith, f.fits, h)

pub overflow_add-slot : goal.overflow_add-slot
overflow_add-slot c =
    let l = c.loop-slot in
    omega (arith, left l.slot l.j c.loop-slot-test.true)

pub next_slot-slot-requires-in-loop-slot : goal.next_slot-slot-requires-in-loop-slot
next_slot-slot-requires-in-loop-slot c =
    let l = c.loop-slot in
    omega (arith, left l.slot l.j c.loop-slot-test.true)

pub overflow_add-i : goal.overflow_add-i
overflow_add-i c = omega arith

pub turn-j-requires-in-loop-slot : goal.turn-j-requires-in-loop-slot
turn-j-requires-in-loop-slot c =
    let l = c.loop-slot in
    let a = c.args in
    let p = c.requires in
    let w : length a.target ≡ 32 = search rules in
    let t = c.loop-slot-test.true in (
      p.2,
      p.3,
      fill-at a.target (owners_in (masks_in a.s.now a.at)) a.k (holding l.held) _ (l.invariant.1 (left l.slot l.j t)) _
          c.node_index-i.ensures.1 (some l.slot l.j t) _ w
          l.invariant.0 refl,
    )

pub loop-slot-smaller : goal.loop-slot-smaller
loop-slot-smaller c =
    let l = c.loop-slot in
    omega (arith, left l.slot l.j c.loop-slot-test.true, c.next_slot-slot-in-loop-slot.ensures.behind)

pub loop-slot-preserved : goal.loop-slot-preserved
loop-slot-preserved c =
    let l = c.loop-slot in
    let t = c.loop-slot-test.true in
    let a = c.args in
    let m = masks_in a.s.now a.at in
    let x = c.node_index-i in
    let u = c.rows_used-rows in
    let i<n : x.result < a.n = below a.target a.n c.requires.3 l.held x.result
    (fill-may a.target (owners_in m) a.k (holding l.held) _ (l.invariant.1 (left l.slot l.j t)) _ x.ensures.1
    (some l.slot l.j t)) in
    let g : x.result < u.result = omega (arith, i<n, (rest a.s.now a.at a.n u.result u.ensures).least c.requires.2) in (
      length-set l.held _ _ ∙ l.invariant.0,
      λ h. c.turn-j-in-loop-slot.ensures ∙ hit _ _ _ (lt-ltb _ _ h),
      l.invariant.2,
      so-turn a.target (owners_in m) a.k _ _ l.invariant.2 l.slot l.low l.high l.held l.invariant.3 l.j l.invariant.1 _
          c.node_index-i.ensures.1
          (some l.slot l.j t) (left l.slot l.j t) (l.invariant.4 (left l.slot l.j t))
          c.node_index-i.ensures.0 _ refl _ _ _
          c.low_bit.ensures c.high_bit.ensures c.next_slot-slot-in-loop-slot.ensures,
      c.next_slot-slot-in-loop-slot.ensures.passes,
      λ z k. get_or-set_other l.low x.result z _ 0 (λ e. omega (arith, e, g, k)) ∙ l.invariant.5 z k,
      λ z k. get_or-set_other l.high x.result z _ 0 (λ e. omega (arith, e, g, k)) ∙ l.invariant.6 z k,
    )

pub returns : goal.returns
returns c =
    let l = c.loop-slot in
    let a = c.args in
    let s = a.s.now in
    let old = owners_in (masks_in s a.at) in
    let u = c.rows_used-rows in
    let m : Masks = from_words (first_words u.result l.low) (first_words u.result l.high) l.held in
    let x = first-all u.result l.low (ap length l.invariant.3.lows ∙ length-tab 32 _) l.invariant.5 in
    let y = first-all u.result l.high (ap length l.invariant.3.highs ∙ length-tab 32 _) l.invariant.6 in
    let e : m ≡ from_words l.low l.high l.held = λ i. from_words (x i) (y i) l.held in
    let r : a.to + length (masks_bytes m) ≤ length s = omega (arith, length-masks m, c.requires.1) in
    (put r c.put_words.ensures).is
    ∙ ap (λ (x : Masks). written s a.to (masks_bytes x))
    (e ∙ so-done a.target old a.k _ _ l.invariant.2 l.slot l.low l.high l.held l.invariant.3 l.j l.invariant.1
    c.loop-slot-test.false)
