use mathlib.Core.Path.{◌≡◌, refl, sym, ap, ◌∙◌}
use lib.ListN.{length, take, drop, replicate, length-replicate}
use lib.Seq.{length-take-le}
use Rattle.words.proofs.Tests.{hit, skip}
use Rattle.sites.specs.many.Memory.{memory, table_size, group_too_short, group_in}
use Rattle.sites.specs.many.Calls.{begin_answer, begun_table}
use Rattle.sites.proofs.many.Lists.{front-written}
use Rattle.sites.proofs.many.Memories.{lengths, begun}
use mathlib.Core.Bool.{true, false}
use mathlib.Core.List.{List, ◌++◌}
use Prim.Native.Nat.{ℕ}
use Rattle.lists.specs.Bytes.{written}
use Rattle.sites.proofs.many.hydra_group_begin.Goals as goal

pub returns-then-too_few : goal.returns-then-too_few
unfolding begin_answer begun_table group_in
returns-then-too_few c =
    let a = c.args in
    let h : group_too_short (memory a.words.now a.bytes.now a.table.now) ≡ true = sym c.too_few.ensures
    ∙ c.if-too_few.true in record {
      value = sym (hit _ _ _ h);
      table_after = sym (hit _ _ _ h);
      by_index = λ area. hit _ _ _ h;
    }

pub slice_bounds-fill-end-2 : goal.slice_bounds-fill-end-2
slice_bounds-fill-end-2 c =
    let a = c.args in
    sym (length-take-le 280 a.table.now
    (lengths (memory a.words.now a.bytes.now a.table.now) (sym c.too_few.ensures ∙ c.if-too_few.false)
    ).table)

pub returns : goal.returns
unfolding begin_answer begun_table
returns c =
    let a = c.args in
    let m = memory a.words.now a.bytes.now a.table.now in
    let h : group_too_short m ≡ false = sym c.too_few.ensures ∙ c.if-too_few.false in
    let l = lengths m h in
    let k : length (take 280 a.table.now) ≡ table_size = length-take-le 280 a.table.now l.table in
    let e : c.fill.new.self ≡ replicate table_size 0 = c.fill.ensures.after (λ y z. z) ∙ ap (λ (n : ℕ). replicate n 0) k in
    let t : c.fill.new.self ++ drop table_size a.table.now ≡ written a.table.now 0 (replicate table_size 0) =
    ap (λ (x : List ℕ). x ++ drop table_size a.table.now) e
    ∙ front-written a.table.now (replicate table_size 0) table_size (length-replicate {A = ℕ} table_size 0) in record {
      value = sym (skip _ _ _ _ h refl);
      table_after = t ∙ sym (skip _ _ _ _ h refl);
      by_index = λ area. ap (λ (x : List ℕ). group_in (memory a.words.now a.bytes.now x) area) t ∙ begun m l area;
    }
