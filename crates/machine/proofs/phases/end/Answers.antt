use native.Mathlib.Omega.{arith}
use mathlib.Core.Path.{◌≡◌, sym, ap, ap₂, ◌∙◌}
use Prim.Native.Nat.{ℕ, ◌+◌}
use Rattle.words.proofs.Tests.{hit}
use Rattle.machine.specs.Layout.{Store, store, at_place, site_in}
use Rattle.machine.specs.Written.{phased, ended_store, store_ended}
use Rattle.machine.proofs.Whole.{long-enough, as-ended}
use mathlib.Core.List.{List}
use mathlib.Core.Bool.{cond}
use lib.ListN.{get_or, set}
use Rattle.node.specs.Figures.{is_last}
use Rattle.node.specs.declared.Config.{Config}
use Rattle.machine.proofs.phases.end.Goals as goal

pub returns-then-is_short : goal.returns-then-is_short
unfolding store_ended
returns-then-is_short c =
    let a = c.args in
    let s = store a.words.now a.bytes.now in
    let e : s ≡ store_ended s = sym (hit _ _ _ (sym c.is_short.ensures ∙ c.if-is_short.true)) in record {
      words_after = ap (λ (x : Store). x.words) e;
      bytes_after = ap (λ (x : Store). x.bytes) e;
    }

pub bounds-words-261 : goal.bounds-words-261
bounds-words-261 c =
    let a = c.args in
    let h = long-enough (store a.words.now a.bytes.now) (sym c.is_short.ensures ∙ c.if-is_short.false) in
    omega (arith, h.0)

pub turn_each-requires : goal.turn_each-requires
turn_each-requires c =
    let a = c.args in
    let h = long-enough (store a.words.now a.bytes.now) (sym c.is_short.ensures ∙ c.if-is_short.false) in
    (h.0, h.1, c.config-f.ensures)

pub bounds-words-261-2 : goal.bounds-words-261-2
bounds-words-261-2 c =
    let a = c.args in
    let h = long-enough (store a.words.now a.bytes.now) (sym c.is_short.ensures ∙ c.if-is_short.false) in
    let k = c.turn_each.auto in
    omega (arith, h.0, k.words)

pub put_phase-requires : goal.put_phase-requires
put_phase-requires c =
    let a = c.args in
    let h = long-enough (store a.words.now a.bytes.now) (sym c.is_short.ensures ∙ c.if-is_short.false) in
    let k = c.turn_each.auto in
    omega (arith, h.1, k.bytes)

pub returns : goal.returns
unfolding ended_store site_in
returns c =
    let a = c.args in
    let s = store a.words.now a.bytes.now in
    let h = long-enough s (sym c.is_short.ensures ∙ c.if-is_short.false) in
    let z : ended_store s ≡ store_ended s = sym (as-ended s h.0 h.1) in
    let o = c.turn_each.ensures in
    let e = c.place_after-place.ensures
    ∙ ap (λ (f : Config). cond (is_last f (get_or s.words at_place 0)) 0 (get_or s.words at_place 0 + 1)) c.config-f.ensures in record {
      words_after = ap₂ (λ (x : List ℕ) (y : ℕ). set x at_place y) o.words_after e ∙ ap (λ (x : Store). x.words) z;
      bytes_after = c.put_phase.ensures
          ∙ ap (λ (x : List ℕ). phased x 1) o.bytes_after ∙ ap (λ (x : Store). x.bytes) z;
    }
