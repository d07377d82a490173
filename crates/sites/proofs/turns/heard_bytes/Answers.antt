use mathlib.Core.Path.{refl, sym, ap, ◌∙◌}
use mathlib.Core.Bool.{◌||◌}
use Prim.Native.Nat.{ℕ, ◌*◌}
use native.Mathlib.Omega.{arith}
use borrow.Author.Tests.{ltb-false}
use lib.Dec.{ltb}
use Rattle.words.proofs.Tests.{hit, skip, or-neither}
use Rattle.lists.specs.Bytes.{window}
use Rattle.wire.specs.Layout.{packet_size}
use Rattle.sites.specs.many.Inner.{heard_bytes}
use Rattle.sites.proofs.turns.heard_bytes.Goals as goal

pub returns-then-p-n : goal.returns-then-p-n
unfolding heard_bytes
returns-then-p-n c =
    let a = c.args in
    sym (hit _ _ _ (ap (λ (n : ℕ). ltb a.p 1 || ltb n a.p) (sym c.packets-n.ensures.value) ∙ c.if-p-n.true))

pub overflow_add-a : goal.overflow_add-a
overflow_add-a c =
    let a = c.args in
    let q = or-neither (ltb a.p 1) (ltb c.packets-n.result a.p) c.if-p-n.false in
    omega (
      arith,
      c.packets-n.ensures.within,
      ltb-false c.packets-n.result a.p q.1,
      c.requires.3,
    )

pub returns : goal.returns
unfolding heard_bytes
returns c =
    let a = c.args in
    c.part_at.ensures
    ∙ ap (λ (k : ℕ). window packet_size a.area.now (packet_size * k)) c.place_of.ensures.value
    ∙ sym (skip _ _ _ _ (ap (λ (n : ℕ). ltb a.p 1 || ltb n a.p) (sym c.packets-n.ensures.value)
    ∙ c.if-p-n.false) refl)
