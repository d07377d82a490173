use mathlib.Core.List.{List}
use mathlib.Core.Path.{◌≡◌, sym, ap, ◌∙◌}
use Prim.Native.Nat.{ℕ, min, ◌≤◌}
use native.Mathlib.Omega.{arith}
use lib.ListN.{get_or}
use Rattle.allotment.specs.Allotment.{dealt, total, asks}
use Rattle.allotment.specs.declared.Deal.{Deal}
use Rattle.allotment.proofs.Laws.{ask-past, all_asked}
use Rattle.allotment.proofs.targets.Goals as goal

-- nobody asks behind the first n
past : (n m : ℕ) (R w : List ℕ) (top : ℕ) → top ≡ min n 32 → w ≡ asks n m R → (top ≤ 32) × ((i : ℕ) → top ≤ i → get_or w i 0 ≡ 0)
past n m R w top t e = (omega arith, λ i l. ap (λ (x : List ℕ). get_or x i 0) e ∙ ask-past n m R i (omega (arith, t, l)))

pub returns-then-total-slots : goal.returns-then-total-slots
returns-then-total-slots c =
    let a = c.args in
    let e = c.asks-wanted.ensures in
    let t : total (asks a.n a.members a.requests) ≤ min a.k 80 =
    omega (arith, c.if-total-slots.true, c.total.ensures, c.slots.ensures, ap total e) in
    e ∙ sym (all_asked a.n a.k a.members a.requests t)

pub deal_all-requires : goal.deal_all-requires
deal_all-requires c =
    let a = c.args in
    past a.n a.members a.requests _ _ c.nodes.ensures c.asks-wanted.ensures

pub returns : goal.returns
returns c =
    ap (λ (d : Deal). d.targets)
    (c.deal_all.ensures ∙ ap (λ (l : List ℕ). dealt l c.args.k) c.asks-wanted.ensures)
