-- After i turns the bytes are those of i wants, one for each of the first nodes; an empty list, and too little storage or area, give none.
use mathlib.Core.Path.{◌≡◌, refl, sym, ap, ◌∙◌}
use mathlib.Core.List.{List}
use Prim.Native.Nat.{ℕ, min, ◌≤◌, ◌<◌, ◌+◌}
use native.Mathlib.Omega.{arith}
use lib.ListN.{length, get_or, take}
use lib.Seq.{get_or-take, length-take-le}
use borrow.Author.Rules.{rules}
use Rattle.words.proofs.Tests.{hit, skip}
use Rattle.lists.specs.All.{iter}
use Rattle.lists.proofs.Laws.{iter-none, iter-more, iter_end, get_d-tab}
use Rattle.windows.specs.Windows.{due_at, due_all}
use Rattle.machine.specs.Layout.{Store, store, config_in, site_in, bytes_size}
use Rattle.machine.specs.Written.{nodes_in}
use Rattle.machine.specs.timed.Stored.{given_at, given_store}
use Rattle.machine.specs.timed.Inner.{no_demand}
use Rattle.machine.proofs.Whole.{long-enough}
use Rattle.machine.proofs.timed.Byte.{none-short, none-area, one_byte}
use Rattle.machine.proofs.timed.give.Goals as goal

-- the first n of 32 numbers, where n is at most 32
long : (l : List ℕ) (n m : ℕ) → length l ≡ 32 → n ≡ min m 32 → length (take n l) ≡ n
long l n m e h = length-take-le n l (omega (arith, e, h))

pub returns-then-is_empty : goal.returns-then-is_empty
unfolding given_store
returns-then-is_empty c =
    let a = c.args in
    let s = store a.words.now a.bytes.now in
    let e : s ≡ given_store a.w.now a.epoch a.area.now s =
    sym (hit _ _ _ (sym c.is_empty.ensures ∙ c.if-is_empty.true)) in record {
      words_value = ap (λ (x : Store). x.words) e;
      bytes_after = ap (λ (x : Store). x.bytes) e;
    }

pub returns-then-is_short : goal.returns-then-is_short
unfolding given_store
returns-then-is_short c =
    let a = c.args in
    let s = store a.words.now a.bytes.now in
    let e : s ≡ given_store a.w.now a.epoch a.area.now s =
    sym (skip _ _ _ _ (sym c.is_empty.ensures ∙ c.if-is_empty.false)
    (none-short a.w.now a.epoch a.area.now s (nodes_in s) (sym c.is_short.ensures ∙ c.if-is_short.true))) in record {
      words_value = ap (λ (x : Store). x.words) e;
      bytes_after = ap (λ (x : Store). x.bytes) e;
    }

pub returns-then-area-lt-AREA : goal.returns-then-area-lt-AREA
unfolding given_store
returns-then-area-lt-AREA c =
    let a = c.args in
    let s = store a.words.now a.bytes.now in
    let e : s ≡ given_store a.w.now a.epoch a.area.now s =
    sym (skip _ _ _ _ (sym c.is_empty.ensures ∙ c.if-is_empty.false)
    (none-area a.w.now a.epoch a.area.now s (nodes_in s) (omega arith))) in record {
      words_value = ap (λ (x : Store). x.words) e;
      bytes_after = ap (λ (x : Store). x.bytes) e;
    }

pub overflow_cast-n : goal.overflow_cast-n
overflow_cast-n c = omega arith

pub loop-i-init : goal.loop-i-init
loop-i-init c =
    let a = c.args in
    let s = store a.words.now a.bytes.now in
    (omega arith, c.places-n.ensures, refl, (long-enough s (sym c.is_short.ensures ∙ c.if-is_short.false)).1, iter-none _ _)

pub give_one-requires : goal.give_one-requires
give_one-requires c =
    let l = c.loop-i in
    let h : bytes_size ≤ length l.bytes = omega (arith, l.invariant.2, l.invariant.3) in
    let a = c.args in
    let demands : length c.due_all-demands.result ≡ 32 = search rules in
    let k = long c.due_all-demands.result c.places-n.result a.nodes demands c.places-n.ensures in
    (omega (arith, k, c.places-n.ensures), (long-enough (store a.words.now a.bytes.now) (sym c.is_short.ensures ∙ c.if-is_short.false)).0, h)

pub overflow_step-i : goal.overflow_step-i
overflow_step-i c = omega arith

pub loop-i-smaller : goal.loop-i-smaller
loop-i-smaller c = omega arith

pub loop-i-preserved : goal.loop-i-preserved
unfolding due_all site_in
loop-i-preserved c =
    let a = c.args in
    let ws = a.w.now in
    let l = c.loop-i in
    let o = c.give_one in
    let q : a.nodes ≡ (config_in (store a.words.now l.bytes)).nodes = c.requires in
    let h : bytes_size ≤ length l.bytes = omega (arith, l.invariant.2, l.invariant.3) in
    let n = l.invariant.1 in
    let demands : length c.due_all-demands.result ≡ 32 = search rules in
    let k = long c.due_all-demands.result c.places-n.result a.nodes demands c.places-n.ensures in
    let m : l.i < c.places-n.result = omega (arith, k) in
    let e = one_byte ws a.epoch a.area.now a.words.now l.bytes l.i
    ((long-enough (store a.words.now a.bytes.now) (sym c.is_short.ensures ∙ c.if-is_short.false)).0, h) (omega arith) (omega (arith, m, c.places-n.ensures)) (omega (arith, m, c.places-n.ensures, q))
    o.ensures
    (get_or-take c.places-n.result c.due_all-demands.result l.i 0 m
    ∙ ap (λ (x : List ℕ). get_or x l.i 0) c.due_all-demands.ensures
    ∙ get_d-tab 0 32 (λ i. due_at ws (i + 1) a.epoch no_demand) l.i (omega (arith, m, c.places-n.ensures))) in
    (omega (arith, m, n, c.places-n.ensures), n, o.auto.bytes ∙ l.invariant.2, l.invariant.3, iter-more (given_at ws a.epoch a.area.now) _ _ _ _ l.invariant.4 e)

pub shape_of-bytes : goal.shape_of-bytes
shape_of-bytes c = c.loop-i.invariant.2

pub returns : goal.returns
unfolding given_store site_in
returns c =
    let a = c.args in
    let l = c.loop-i in
    let s = store a.words.now a.bytes.now in
    let f = given_at a.w.now a.epoch a.area.now in
    let demands : length c.due_all-demands.result ≡ 32 = search rules in
    let k = l.invariant.1 in
    let m = long c.due_all-demands.result c.places-n.result a.nodes demands c.places-n.ensures in
    let e : store a.words.now l.bytes ≡ given_store a.w.now a.epoch a.area.now s =
    iter_end f s l.i (min a.nodes 32) (store a.words.now l.bytes) l.invariant.4 (omega (arith, k, m, c.places-n.ensures))
    ∙ ap (λ (y : ℕ). iter (min y 32) f s) c.requires
    ∙ sym (skip _ _ _ _ (sym c.is_empty.ensures ∙ c.if-is_empty.false) refl) in record {
      words_value = ap (λ (x : Store). x.words) e;
      bytes_after = ap (λ (x : Store). x.bytes) e;
    }
