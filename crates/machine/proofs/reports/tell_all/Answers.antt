use mathlib.Core.Bool.{true}
use mathlib.Core.List.{List}
use mathlib.Core.Path.{◌≡◌, ap, ◌∙◌}
use Prim.Native.Nat.{ℕ, ◌-◌, ◌+◌}
use native.Mathlib.Omega.{arith}
use lib.ListN.{get_or}
use borrow.Author.Rules.{rules}
use Rattle.std.specs.Prelude.{Option, None}
use Rattle.lists.proofs.Laws.{tab-ext}
use Rattle.node.specs.declared.Ground.{Ground}
use Rattle.site.specs.Members.{nobody}
use Rattle.machine.specs.Layout.{store, site_in}
use Rattle.machine.specs.Loading.{member_read}
use Rattle.machine.specs.reports.Reports.{member_report, report_of}
use Rattle.machine.specs.declared.Report.{Report}
use Rattle.machine.proofs.Made.{made}
use Rattle.machine.proofs.Whole.{long-enough, as_member}
use Rattle.machine.proofs.reports.tell_all.Goals as goal

abbrev all : List (Option Ground) → Report
all ts = record { nodes = ts }

-- Member i + 1 of the storage is the site's member at index i.
pub returns : goal.returns
unfolding report_of
returns c =
    let s = store c.args.words.now c.args.bytes.now in
    let h = long-enough s c.requires in
    ap all
    (made _ _ (λ (i : ℕ). member_report true (member_read s (i + 1))) None 32 (λ i y q l k. search rules) _ c.from_fn.ensures.items
    ∙ tab-ext 32 _ _ (λ i l.
    let z : i + 1 - 1 ≡ i = omega arith in
    ap (member_report true) (as_member s (i + 1) h.0 h.1 (omega arith) (omega (arith, l))
    ∙ ap (λ (k : ℕ). get_or (site_in s).members k nobody) z)))
