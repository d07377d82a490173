use Prim.Native.Nat.{ℕ, ◌/◌, ◌%◌}
use lib.ListN.{get_or}
use borrow.Author.Rules.{rules}
use Rattle.std.specs.Prelude.{None}
use Rattle.machine.specs.reports.Reports.{report_byte, report_bytes}
use Rattle.machine.proofs.Made.{made}
use Rattle.machine.proofs.reports.report_bytes.Goals as goal

pub returns : goal.returns
unfolding report_bytes
returns c =
    made _ _ (λ (k : ℕ). report_byte (get_or c.args.r.nodes (k / 2) None) (k % 2)) 0 64 (λ i y q l k. search rules) _
    c.from_fn.ensures.items
