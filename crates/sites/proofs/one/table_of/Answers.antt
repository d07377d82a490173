use mathlib.Core.Path.{ap}
use mathlib.Core.List.{List}
use borrow.Author.Rules.{rules}
use Rattle.site.specs.Load.{no_row}
use Rattle.site.specs.declared.Row.{Row}
use Rattle.site.specs.declared.Table.{Table}
use Rattle.machine.proofs.Made.{made}
use Rattle.sites.specs.one.Calls.{row_from, table_from}
use Rattle.sites.proofs.one.table_of.Goals as goal

abbrev all : List Row → Table
all rows = record { rows = rows }

pub returns : goal.returns
unfolding table_from
returns c = ap all (made _ _ (row_from c.args.lent.now) no_row 32 (λ i y q l k. search rules) _ c.from_fn.ensures.items)
