use mathlib.Core.Bool.{Bool, ◌&&◌, cond}
use mathlib.Core.List.{List}
use mathlib.Core.Path.{◌≡◌, sym, ap, ap₂, ◌∙◌}
use Prim.Native.Nat.{ℕ}
use native.Mathlib.Omega.{arith}
use lib.Dec.{leb}
use lib.ListN.{length, get_or}
use Rattle.std.specs.Prelude.{Some, None}
use Rattle.allotment.specs.Allotment.{free}
use Rattle.node.specs.Core.{core_of}
use Rattle.node.specs.declared.Core.{Core}
use Rattle.wire.proofs.Laws.{Bytes}
use Rattle.area.specs.Area.{node_size, at_phase, at_updated, decoded_with, decoded, valid}
use Rattle.area.specs.Steps.{area_fits}
use Rattle.area.proofs.Canon.{fits-valid}
use Rattle.area.proofs.Valid.{unsized}
use Rattle.area.proofs.read.Goals as goal

pub returns-in_err-area : goal.returns-in_err-area
returns-in_err-area c = c.from_residual.ensures ∙ unsized c.args.s.now c.in_err-area.ensures.cases

-- the tests made of the bytes lent, by what was read of them
tested : (a l : List ℕ) (x : Core) (t : Bool) → l ≡ a → length a ≡ node_size → Bytes a → x ≡ core_of (decoded_with l free free)
    → t ≡ area_fits a x → ((leb (get_or l at_phase 0) 3 && leb (get_or l at_updated 0) 1) && t) ≡ valid a
unfolding decoded
tested a l x t w h k e f =
    let d : x ≡ core_of (decoded a) = e ∙ ap (λ (y : List ℕ). core_of (decoded_with y free free)) w in
    ap₂ ◌&&◌ (ap (λ (y : List ℕ). leb (get_or y at_phase 0) 3 && leb (get_or y at_updated 0) 1) w) (f ∙ ap (area_fits a) d)
    ∙ fits-valid a h k

pub returns-then-not-plain-fits : goal.returns-then-not-plain-fits
returns-then-not-plain-fits c =
    let a = c.args.s.now in
    let h = c.in_ok-area.ensures.cases in
    let v = tested a _ _ _ h.same h.long (λ i l. omega (arith, c.type_inv.s i)) c.decode-core.ensures c.fits.ensures in
    ap (λ (t : Bool). cond t (Some (core_of (decoded a))) None) (sym c.if-not-plain-fits.true ∙ v)

pub returns : goal.returns
unfolding decoded
returns c =
    let a = c.args.s.now in
    let h = c.in_ok-area.ensures.cases in
    let v = tested a _ _ _ h.same h.long (λ i l. omega (arith, c.type_inv.s i)) c.decode-core.ensures c.fits.ensures in
    ap Some (c.decode-core.ensures ∙ ap (λ (l : List ℕ). core_of (decoded_with l free free)) h.same)
    ∙ ap (λ (t : Bool). cond t (Some (core_of (decoded a))) None) (sym c.if-not-plain-fits.false ∙ v)
