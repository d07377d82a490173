use native.Mathlib.Omega.{arith}
use mathlib.Core.Path.{◌≡◌, sym, ap, ◌∙◌}
use Prim.Native.Nat.{ℕ}
use Rattle.words.proofs.Tests.{hit}
use Rattle.machine.specs.Layout.{Store, store}
use Rattle.machine.specs.Written.{phased, closed_store, store_closed}
use Rattle.machine.proofs.Whole.{long-enough, as-closed}
use mathlib.Core.List.{List}
use Rattle.machine.proofs.phases.close.Goals as goal

pub returns-then-is_short : goal.returns-then-is_short
unfolding store_closed
returns-then-is_short c =
    let a = c.args in
    let s = store a.words.now a.bytes.now in
    let e : s ≡ store_closed s = sym (hit _ _ _ (sym c.is_short.ensures ∙ c.if-is_short.true)) in record {
      words_after = ap (λ (x : Store). x.words) e;
      bytes_after = ap (λ (x : Store). x.bytes) e;
    }

pub turn_each-requires : goal.turn_each-requires
turn_each-requires c =
    let a = c.args in
    let h = long-enough (store a.words.now a.bytes.now) (sym c.is_short.ensures ∙ c.if-is_short.false) in
    (h.0, h.1, c.config-f.ensures)

pub put_phase-requires : goal.put_phase-requires
put_phase-requires c =
    let a = c.args in
    let h = long-enough (store a.words.now a.bytes.now) (sym c.is_short.ensures ∙ c.if-is_short.false) in
    let k = c.turn_each.auto in
    omega (arith, h.1, k.bytes)

pub returns : goal.returns
unfolding closed_store
returns c =
    let a = c.args in
    let s = store a.words.now a.bytes.now in
    let h = long-enough s (sym c.is_short.ensures ∙ c.if-is_short.false) in
    let e : closed_store s ≡ store_closed s = sym (as-closed s h.0 h.1) in
    let o = c.turn_each.ensures in record {
      words_after = o.words_after ∙ ap (λ (x : Store). x.words) e;
      bytes_after = c.put_phase.ensures ∙ ap (λ (x : List ℕ). phased x 0) o.bytes_after
          ∙ ap (λ (x : Store). x.bytes) e;
    }
