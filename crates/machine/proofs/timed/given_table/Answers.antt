use mathlib.Core.Path.{ap, ◌∙◌}
use mathlib.Core.List.{List}
use Prim.Native.Nat.{ℕ, ◌+◌}
use lib.ListN.{get_or}
use borrow.Author.Rules.{rules}
use Rattle.lists.proofs.Laws.{get_d-tab, tab-ext}
use Rattle.site.specs.Load.{no_row}
use Rattle.site.specs.declared.Row.{Row}
use Rattle.site.specs.declared.Table.{Table}
use Rattle.windows.specs.Windows.{due_at, due_all}
use Rattle.machine.specs.timed.Timed.{given_table}
use Rattle.machine.specs.timed.Inner.{no_demand, row_given}
use Rattle.machine.proofs.Made.{made}
use Rattle.machine.proofs.timed.Byte.{row_is}
use Rattle.machine.proofs.timed.given_table.Goals as goal

abbrev all : List Row → Table
all rows = record { rows = rows }

pub returns : goal.returns
unfolding given_table due_all
returns c =
    let a = c.args in
    let ws = a.w.now in
    ap all
    (made _ _ (λ (k : ℕ). row_given (get_or a.t.rows k no_row) (get_or c.due_all-demands.result k 0)) no_row 32
    (λ i y q l k. search rules) _ c.from_fn.ensures.items
    ∙ tab-ext 32 _ _
    (λ k h. row_is a.nodes a.day ws c.requires (k + 1) (get_or a.t.rows k no_row)
    (ap (λ (x : List ℕ). get_or x k 0) c.due_all-demands.ensures
    ∙ get_d-tab 0 32 (λ i. due_at ws (i + 1) 0 no_demand) k h)))
