use mathlib.Core.List.{List}
use mathlib.Core.Bool.{false}
use Rattle.node.specs.Core.{bare}
use Rattle.node.specs.declared.Core.{Core}
use Rattle.range.specs.Range.{in_range}
use mathlib.Core.Bool.{Bool, cond, ◌&&◌}
use lib.Dec.{ltb}
use Rattle.words.proofs.Tests.{both}
use Rattle.masks.specs.Bytes.{fit_read}
use Rattle.area.specs.Area.{at_schedule, at_determined}
use Rattle.area.specs.Steps.{area_fits}
use mathlib.Core.Path.{◌≡◌, sym, ap, ◌∙◌}
use Prim.Native.Nat.{ℕ, ◌-◌}
use Rattle.area.proofs.fits.Goals as goal

-- a node that is not within the ranges
fails : (a : List ℕ) (c : Core) → in_range (bare c) ≡ false → false ≡ area_fits a c
fails a c e =
    let n = c.setup.config.nodes in
    let k = c.setup.config.slots in
    sym (ap (λ (t : Bool). t && (fit_read a at_schedule (cond (ltb 0 c.version) k 0) n
    && fit_read a at_determined (cond c.updated k 0) n)) e)

pub returns-then-not-in_range : goal.returns-then-not-in_range
returns-then-not-in_range c = let a = c.args
    in fails a.s.now a.c (sym c.in_range.ensures ∙ c.if-not-in_range.true)

pub returns-then-not-fit : goal.returns-then-not-fit
returns-then-not-fit c =
    let a = c.args in
    let r = sym c.in_range.ensures ∙ c.if-not-in_range.false
    in
    let f = ap (λ (k : ℕ). fit_read a.s.now at_schedule k a.c.setup.config.nodes) (sym c.used_slots-held.ensures)
    ∙ sym c.fit.ensures ∙ c.if-not-fit.true in
    sym (both r (ap (λ (t : Bool). t
    && fit_read a.s.now at_determined (cond a.c.updated a.c.setup.config.slots 0) a.c.setup.config.nodes) f))

pub returns : goal.returns
returns c =
    let a = c.args in
    let r = sym c.in_range.ensures
    ∙ c.if-not-in_range.false in
    let f = ap (λ (k : ℕ). fit_read a.s.now at_schedule k a.c.setup.config.nodes)
    (sym c.used_slots-held.ensures) ∙ sym c.fit.ensures
    ∙ c.if-not-fit.false in
    sym (both r (both f (ap (λ (k : ℕ). fit_read a.s.now at_determined k a.c.setup.config.nodes)
    (sym c.used_slots-next.ensures) ∙ sym c.fit-2.ensures)))
