use mathlib.Core.Path.{sym, ap}
use native.Mathlib.Omega.{arith}
use Rattle.lists.proofs.Chain.{none, start, step, leftover, recast}
use Rattle.machine.specs.Layout.{store, site_in}
use Rattle.desk.specs.listing.Rows.{rows_text}
use Rattle.desk.proofs.listing.Rows.{rows-put}
use Rattle.desk.specs.listings.Output.{second_head}
use Rattle.desk.specs.listings.Inner.{rest_text}
use Rattle.desk.specs.declared.View.{View}
use Rattle.desk.proofs.listings.put_rest.Goals as goal

pub returns-in-Refusals : goal.returns-in-Refusals
returns-in-Refusals c =
    let a = c.args in
    let p = c.requires in
    let ms = (site_in (store a.words.now a.bytes.now)).members in
    let e = ap (λ (x : View). rest_text x a.nodes a.slots ms)
    c.in-Refusals.is in
    let q = step second_head (rows_text a.nodes 0 ms a.slots)
    (leftover e (start a.out.now a.to (rest_text a.v a.nodes a.slots ms) p.4))
    c.put_bytes-at.ensures in
    rows-put _ _ p.2 p.3 p.1 _ 0 (omega (arith, p.0)) q c.put_rows.ensures

pub returns-in-Reasons : goal.returns-in-Reasons
returns-in-Reasons c =
    let a = c.args in
    let ms = (site_in (store a.words.now a.bytes.now)).members in
    recast (sym (ap (λ (x : View). rest_text x a.nodes a.slots ms) c.in-Reasons.is)) (none _ _)
