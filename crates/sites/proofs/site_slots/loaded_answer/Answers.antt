-- The number and the lengths are tested first; then the slot's first word tells.
use mathlib.Core.Path.{◌≡◌, sym, ◌∙◌}
use Prim.Native.Nat.{◌-◌}
use native.Mathlib.Omega.{arith}
use mathlib.Core.Bool.{true, false, not, cond, ◌&&◌}
use borrow.Author.Tests.{eq-eqb, ne_eqb}
use Rattle.node.specs.Answers.{Done, NoSuchNode, NoRoom}
use Rattle.group.specs.Group.{is_number}
use Rattle.group.proofs.Ground.{number_is}
use Rattle.sites.specs.many.Memory.{memory, group_too_short, is_taken, is_loaded, loaded_answer}
use Rattle.sites.proofs.many.Memories.{lengths}
use Rattle.sites.proofs.site_slots.loaded_answer.Goals as goal

pub returns-then-not-is_number : goal.returns-then-not-is_number
unfolding loaded_answer is_loaded
returns-then-not-is_number c =
    let a = c.args in
    let m = memory a.words.now a.bytes.now a.table.now in
    let n : is_number a.a ≡ false = sym c.is_number.ensures ∙ c.if-not-is_number.true in
    sym (λ i. cond (n i && (not (group_too_short m) && is_taken a.table.now (a.a - 1))) Done (cond (n i && group_too_short m) NoRoom NoSuchNode))

pub returns-then-too_few : goal.returns-then-too_few
unfolding loaded_answer is_loaded
returns-then-too_few c =
    let a = c.args in
    let m = memory a.words.now a.bytes.now a.table.now in
    let n : is_number a.a ≡ true = sym c.is_number.ensures ∙ c.if-not-is_number.false in
    let f : group_too_short m ≡ true = sym c.too_few.ensures ∙ c.if-too_few.true in
    sym (λ i. cond (n i && (not (f i) && is_taken a.table.now (a.a - 1))) Done (cond (n i && f i) NoRoom NoSuchNode))

pub overflow_sub-a : goal.overflow_sub-a
overflow_sub-a c =
    let n = number_is c.args.a (sym c.is_number.ensures ∙ c.if-not-is_number.false) in
    omega (arith, n.from)

pub bounds-table-a : goal.bounds-table-a
bounds-table-a c =
    let a = c.args in
    let n = number_is a.a (sym c.is_number.ensures ∙ c.if-not-is_number.false) in
    let l = lengths (memory a.words.now a.bytes.now a.table.now) (sym c.too_few.ensures ∙ c.if-too_few.false) in
    omega (arith, n.from, n.to, l.table)

pub returns-then-table-a-ne1 : goal.returns-then-table-a-ne1
unfolding loaded_answer is_loaded
returns-then-table-a-ne1 c =
    let a = c.args in
    let m = memory a.words.now a.bytes.now a.table.now in
    let n : is_number a.a ≡ true = sym c.is_number.ensures ∙ c.if-not-is_number.false in
    let f : group_too_short m ≡ false = sym c.too_few.ensures ∙ c.if-too_few.false in
    let k : is_taken a.table.now (a.a - 1) ≡ false = ne_eqb _ _ c.if-table-a-ne1.true in
    sym (λ i. cond (n i && (not (f i) && k i)) Done (cond (n i && f i) NoRoom NoSuchNode))

pub returns : goal.returns
unfolding loaded_answer is_loaded
returns c =
    let a = c.args in
    let m = memory a.words.now a.bytes.now a.table.now in
    let n : is_number a.a ≡ true = sym c.is_number.ensures ∙ c.if-not-is_number.false in
    let f : group_too_short m ≡ false = sym c.too_few.ensures ∙ c.if-too_few.false in
    let k : is_taken a.table.now (a.a - 1) ≡ true = eq-eqb _ _ c.if-table-a-ne1.false in
    sym (λ i. cond (n i && (not (f i) && k i)) Done (cond (n i && f i) NoRoom NoSuchNode))
