use mathlib.Core.Path.{◌≡◌, refl, ap, ap₂, ◌∙◌}
use mathlib.Core.List.{List}
use Prim.Native.Nat.{ℕ, ◌+◌}
use native.Mathlib.Omega.{arith}
use lib.Dec.{ltb}
use lib.ListN.{get_or}
use Rattle.words.specs.Bits.{digit}
use Rattle.lists.proofs.Laws.{fill_none, fill_more, fill_end}
use Rattle.tally.specs.Claims.{sum as summed}
use Rattle.tally.specs.Counting.{slots_at, held_at, added_by}
use Rattle.tally.proofs.Sums.{digit-le, byte-digit, sum-none, sum_more, fill-next}
use Rattle.tally.proofs.Valid.{valid, slots-most, total-most}
use borrow.Author.Rules.{rules}
use mir.Val.{Fits}
use mir.Syntax.{w8}
use Rattle.tally.proofs.Tally.added.Goals as goal

pub loop-i-init : goal.loop-i-init
loop-i-init c = (
  search rules,
  search rules,
  fill_none _ _,
  fill_none _ _,
  omega (arith, sum-none (λ j. get_or c.args.numbers j 0)),
  omega arith,
)

pub overflow_add-slots : goal.overflow_add-slots
overflow_add-slots c =
    let l = c.loop-i in
    let t = c.args.self in
    let f : Fits w8 (get_or c.args.numbers l.i 0) = search rules in
    let r : get_or l.slots l.i 0 ≡ slots_at t l.i =
    ap (λ (s : List ℕ). get_or s l.i 0) l.invariant.2 ∙ fill-next l.i _ t.slots (omega (arith, l.invariant.0)) in
    let a = slots-most t (valid t c.requires.0) l.i (omega arith) in
    omega (arith, f.fits, c.from.ensures)

pub overflow_add-held : goal.overflow_add-held
overflow_add-held c =
    let l = c.loop-i in
    let t = c.args.self in
    let v = valid t c.requires.0 in
    let r : get_or l.held l.i 0 ≡ held_at t l.i =
    ap (λ (s : List ℕ). get_or s l.i 0) l.invariant.3 ∙ fill-next l.i _ t.held (omega (arith, l.invariant.1)) in
    let a = v.held l.i (omega arith) in
    let b = c.requires.1 in
    let d = digit-le (ltb 0 (get_or c.args.numbers l.i 0)) in
    let e : c.from-in-loop-i.result ≡ digit (ltb 0 (get_or c.args.numbers l.i 0)) = c.from-in-loop-i.ensures ∙ byte-digit _ in
    omega arith

pub overflow_add-total : goal.overflow_add-total
overflow_add-total c =
    let l = c.loop-i in
    let f : Fits w8 (get_or c.args.numbers l.i 0) = search rules in
    let a = total-most c.args.self (valid c.args.self c.requires.0) in
    let e = l.invariant.5 in
    omega (arith, f.fits, c.from-total.ensures)

pub loop-i-preserved : goal.loop-i-preserved
loop-i-preserved c =
    let l = c.loop-i in
    let t = c.args.self in
    let x = get_or c.args.numbers l.i 0 in
    let f : Fits w8 x = search rules in
    let r : get_or l.slots l.i 0 ≡ slots_at t l.i =
    ap (λ (s : List ℕ). get_or s l.i 0) l.invariant.2 ∙ fill-next l.i _ t.slots (omega (arith, l.invariant.0)) in
    let q : get_or l.held l.i 0 ≡ held_at t l.i =
    ap (λ (s : List ℕ). get_or s l.i 0) l.invariant.3 ∙ fill-next l.i _ t.held (omega (arith, l.invariant.1)) in
    let more = sum_more (λ j. get_or c.args.numbers j 0) l.i (summed l.i (λ j. get_or c.args.numbers j 0)) x refl refl in (
      l.invariant.0,
      l.invariant.1,
      fill_more l.i _ _ _ _ (omega (arith, l.invariant.0)) l.invariant.2 (ap₂ ◌+◌ r c.from.ensures),
      fill_more l.i _ _ _ _ (omega (arith, l.invariant.1)) l.invariant.3 (ap₂ ◌+◌ q (c.from-in-loop-i.ensures ∙ byte-digit _)),
      omega (arith, l.invariant.4, more, c.from-total.ensures),
      omega (arith, l.invariant.5, f.fits, c.from-total.ensures),
    )

pub returns : goal.returns
unfolding added_by
returns c =
    let l = c.loop-i in
    let z : l.i ≡ 32 = omega arith in
    let s = fill_end _ 32 _ _ _ l.invariant.2 (omega arith) (omega (arith, l.invariant.0)) in
    let h = fill_end _ 32 _ _ _ l.invariant.3 (omega arith) (omega (arith, l.invariant.1)) in
    let n = l.invariant.4 ∙ ap (λ (x : ℕ). c.args.self.total + summed x (λ j. get_or c.args.numbers j 0)) z in
    λ i. record { epochs = c.args.self.epochs + 1; total = n i; slots = s i; held = h i }
