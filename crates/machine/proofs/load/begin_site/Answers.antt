use mathlib.Core.Path.{◌≡◌, sym, ap, ◌∙◌}
use native.Mathlib.Omega.{arith}
use Prim.Native.Nat.{min}
use Rattle.lists.specs.All.{iter}
use Rattle.machine.specs.Layout.{Store, store}
use Rattle.machine.specs.Loading.{figured, loaded_at, filled_store}
use Rattle.machine.proofs.Whole.{long-enough}
use Rattle.machine.proofs.Loads.{refused, done}
use Rattle.machine.proofs.load.begin_site.Goals as goal

pub returns-then-is_short : goal.returns-then-is_short
returns-then-is_short c =
    let a = c.args in
    let whole = refused (store a.words.now a.bytes.now) a.f a.t (sym c.is_short.ensures ∙ c.if-is_short.true) in record {
      value = whole.0;
      words_after = whole.1.0;
      bytes_after = whole.1.1.0;
      bytes_after_2 = whole.1.1.1;
    }

pub put_config-requires : goal.put_config-requires
put_config-requires c =
    let a = c.args in
    (long-enough (store a.words.now a.bytes.now) (sym c.is_short.ensures ∙ c.if-is_short.false)).0

pub put_phase-requires : goal.put_phase-requires
put_phase-requires c =
    let a = c.args in
    (long-enough (store a.words.now a.bytes.now) (sym c.is_short.ensures ∙ c.if-is_short.false)).1

pub put_nodes-requires : goal.put_nodes-requires
put_nodes-requires c =
    let a = c.args in
    let h = long-enough (store a.words.now a.bytes.now) (sym c.is_short.ensures ∙ c.if-is_short.false) in
    (omega (arith, h.0, c.put_config.auto.words), omega (arith, h.1, c.put_phase.auto.bytes))

pub returns : goal.returns
unfolding filled_store
returns c =
    let a = c.args in
    let s = store a.words.now a.bytes.now in
    let f = sym c.is_short.ensures ∙ c.if-is_short.false in
    let h = long-enough s f in
    let x = c.put_config.ensures in
    let y = c.put_phase.ensures in
    let v : store c.put_config.new.words c.put_phase.new.bytes ≡ figured s a.f = λ i. record { words = x i; bytes = y i } in
    let o = c.put_nodes.ensures in
    let whole = done s a.f a.t f h.0 h.1
    (o.words_after ∙ ap (λ (u : Store). (iter (min a.f.nodes 32) (loaded_at a.f a.t) u).words) v)
    (o.bytes_after ∙ ap (λ (u : Store). (iter (min a.f.nodes 32) (loaded_at a.f a.t) u).bytes) v) in record {
      value = whole.0;
      words_after = whole.1.0;
      bytes_after = whole.1.1.0;
      bytes_after_2 = whole.1.1.1;
    }
