use mathlib.Core.Bool.{Bool, ◌&&◌}
use mathlib.Core.Path.{refl, sym, ap, ◌∙◌}
use lib.Dec.{ltb, leb}
use lib.ListN.{get_or}
use Rattle.words.proofs.Tests.{hit, skip}
use Rattle.allotment.specs.Allotment.{top_request}
use Rattle.allotment.proofs.ask.Goals as goal

pub returns-then-is_node-is_member : goal.returns-then-is_node-is_member
returns-then-is_node-is_member c =
    let a = c.args in
    sym (hit _ _ _ (ap (λ (t : Bool). ltb a.i a.n && t && leb (get_or a.requests.now a.i 0) top_request)
    (sym c.contains-is_member.ensures) ∙ c.if-is_node-is_member.true))

pub returns-else-is_node-is_member : goal.returns-else-is_node-is_member
returns-else-is_node-is_member c =
    let a = c.args in
    sym (skip _ _ _ _ (ap (λ (t : Bool). ltb a.i a.n && t && leb (get_or a.requests.now a.i 0) top_request)
    (sym c.contains-is_member.ensures) ∙ c.if-is_node-is_member.false) refl)
