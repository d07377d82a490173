-- The number and the lengths are tested first; then the load goes to its site.
use mathlib.Core.Path.{refl, sym, ◌∙◌}
use native.Mathlib.Omega.{arith}
use Rattle.group.proofs.Ground.{number_is}
use Rattle.sites.specs.many.Memory.{memory}
use Rattle.sites.proofs.many.Memories.{lengths}
use Rattle.sites.proofs.many.Groups.{no_number, no_room, any-load}
use Rattle.sites.proofs.many.load.Goals as goal

pub returns-then-not-is_number : goal.returns-then-not-is_number
returns-then-not-is_number c =
    let a = c.args in
    let whole = no_number (memory a.words.now a.bytes.now a.table.now) a.a a.f a.t a.epochs a.w.now
    (sym c.is_number.ensures ∙ c.if-not-is_number.true) refl in record {
      value = whole.0;
      words_after = whole.1.0;
      bytes_after = whole.1.1.0;
      table_after = whole.1.1.1.0;
      by_index = whole.1.1.1.1;
    }

pub returns-then-too_few : goal.returns-then-too_few
returns-then-too_few c =
    let a = c.args in
    let whole = no_room (memory a.words.now a.bytes.now a.table.now) a.a a.f a.t a.epochs a.w.now
    (sym c.is_number.ensures
    ∙ c.if-not-is_number.false) (sym c.too_few.ensures ∙ c.if-too_few.true) refl in record {
      value = whole.0;
      words_after = whole.1.0;
      bytes_after = whole.1.1.0;
      table_after = whole.1.1.1.0;
      by_index = whole.1.1.1.1;
    }

pub overflow_sub-a : goal.overflow_sub-a
overflow_sub-a c =
    let n = number_is c.args.a (sym c.is_number.ensures
    ∙ c.if-not-is_number.false) in
    omega (arith, n.from)

pub load_at-requires : goal.load_at-requires
load_at-requires c =
    let a = c.args in
    let n = number_is a.a (sym c.is_number.ensures
    ∙ c.if-not-is_number.false) in
    let l = lengths (memory a.words.now a.bytes.now a.table.now)
    (sym c.too_few.ensures ∙ c.if-too_few.false) in
    (l.words, l.bytes, l.table, omega (arith, n.from, n.to))

pub returns : goal.returns
returns c =
    let a = c.args in
    let n = sym c.is_number.ensures ∙ c.if-not-is_number.false in
    let o = c.load_at.ensures in
    let z = o.sized in
    let whole = any-load (memory a.words.now a.bytes.now a.table.now) a.a a.f a.t a.epochs a.w.now n
    (sym c.too_few.ensures
    ∙ c.if-too_few.false) o.value o.words_after o.bytes_after
    o.table_after z.0 z.1 in record {
      value = whole.0;
      words_after = whole.1.0;
      bytes_after = whole.1.1.0;
      table_after = whole.1.1.1.0;
      by_index = whole.1.1.1.1;
    }
