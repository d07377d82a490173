-- Rows of the right number make a table and go to the load; any others are refused in its order.
use mathlib.Core.Path.{refl, sym, ◌∙◌, subst}
use borrow.Author.Tests.{eq-eqb, ne_eqb}
use Rattle.site.specs.declared.Table.{Table}
use Rattle.sites.specs.many.Memory.{memory}
use Rattle.sites.proofs.many.Groups.{LoadIs}
use Rattle.sites.proofs.many.Lines.{rows-load, rows-number, rows-room, rows_none}
use Rattle.sites.proofs.many.load_rows.Goals as goal

pub returns-then-rows-f : goal.returns-then-rows-f
returns-then-rows-f c =
    let a = c.args in
    let o = c.load in
    let e = o.ensures in
    let whole = rows-load (memory a.words.now a.bytes.now a.table.now) a.a a.f a.rows.now a.epochs a.w.now
    (eq-eqb _ _ c.if-rows-f.true)
    (subst (λ (t : Table). LoadIs (memory a.words.now a.bytes.now a.table.now) a.a a.f t a.epochs
    a.w.now o.result o.new.words o.new.bytes o.new.table)
    c.table_of.ensures (e.value, (e.words_after, (e.bytes_after, (e.table_after, e.by_index))))) in record {
      value = whole.0;
      words_after = whole.1.0;
      bytes_after = whole.1.1.0;
      table_after = whole.1.1.1.0;
      by_index = whole.1.1.1.1;
    }

pub returns-then-not-is_number : goal.returns-then-not-is_number
returns-then-not-is_number c =
    let a = c.args in
    let whole = rows-number (memory a.words.now a.bytes.now a.table.now) a.a a.f a.rows.now a.epochs a.w.now
    (ne_eqb _ _ c.if-rows-f.false)
    (sym c.is_number.ensures ∙ c.if-not-is_number.true) refl in record {
      value = whole.0;
      words_after = whole.1.0;
      bytes_after = whole.1.1.0;
      table_after = whole.1.1.1.0;
      by_index = whole.1.1.1.1;
    }

pub returns-then-too_few : goal.returns-then-too_few
returns-then-too_few c =
    let a = c.args
    in
    let whole = rows-room (memory a.words.now a.bytes.now a.table.now) a.a a.f a.rows.now a.epochs a.w.now
    (ne_eqb _ _ c.if-rows-f.false)
    (sym c.is_number.ensures
    ∙ c.if-not-is_number.false) (sym c.too_few.ensures ∙ c.if-too_few.true) refl in record {
      value = whole.0;
      words_after = whole.1.0;
      bytes_after = whole.1.1.0;
      table_after = whole.1.1.1.0;
      by_index = whole.1.1.1.1;
    }

pub returns : goal.returns
returns c =
    let a = c.args
    in
    let whole = rows_none (memory a.words.now a.bytes.now a.table.now) a.a a.f a.rows.now a.epochs a.w.now
    (ne_eqb _ _ c.if-rows-f.false)
    (sym c.is_number.ensures
    ∙ c.if-not-is_number.false) (sym c.too_few.ensures ∙ c.if-too_few.false) refl in record {
      value = whole.0;
      words_after = whole.1.0;
      bytes_after = whole.1.1.0;
      table_after = whole.1.1.1.0;
      by_index = whole.1.1.1.1;
    }
