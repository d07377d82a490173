use mathlib.Core.Path.{◌≡◌, sym, ap, ap₂, ◌∙◌}
use Prim.Native.Nat.{ℕ, ◌+◌}
use native.Mathlib.Omega.{arith}
use mathlib.Core.List.{map}
use native.Mathlib.Numerals.{add-one}
use Rattle.lists.specs.All.{tab}
use Rattle.allotment.specs.Allotment.{total}
use Rattle.group.specs.Group.{beyond}
use Rattle.sites.specs.many.Memory.{memory, site_slot_in}
use Rattle.sites.specs.many.Inner.{common_in}
use Rattle.sites.proofs.many.Lists.{sum-none, sum_more}
use Rattle.sites.proofs.site_slots.common.Goals as goal

pub loop-i-init : goal.loop-i-init
loop-i-init c =
    let a = c.args in
    (omega arith, omega arith, sum-none beyond (site_slot_in (memory a.words.now a.bytes.now a.table.now)))

pub beyond_at-n-requires : goal.beyond_at-n-requires
beyond_at-n-requires c =
    let p = c.requires in
    (p.0, p.1, p.2, omega arith)

pub overflow_add-n : goal.overflow_add-n
overflow_add-n c = omega (arith, c.beyond_at-n.ensures.within, c.loop-i.invariant.1)

pub overflow_step-i : goal.overflow_step-i
overflow_step-i c = omega arith

pub loop-i-smaller : goal.loop-i-smaller
loop-i-smaller c = omega arith

pub loop-i-preserved : goal.loop-i-preserved
loop-i-preserved c =
    let a = c.args in
    let l = c.loop-i in
    let m = memory a.words.now a.bytes.now a.table.now in
    let e = c.beyond_at-n.ensures in (
      omega arith,
      omega (arith, e.within, l.invariant.1),
      ap₂ (λ (x y : ℕ). x + y) l.invariant.2 e.value ∙ sum_more beyond (site_slot_in m) l.i
          ∙ ap (λ (k : ℕ). total (map beyond (tab k (site_slot_in m)))) (sym (add-one l.i)),
    )

pub returns : goal.returns
unfolding common_in
returns c =
    let a = c.args in
    let l = c.loop-i in
    let z : l.i ≡ 8 = omega (arith, l.invariant.0) in
    l.invariant.2 ∙ ap (λ (k : ℕ). total (map beyond (tab k (site_slot_in (memory a.words.now a.bytes.now a.table.now))))) z
