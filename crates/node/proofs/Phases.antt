-- Laws of the tests of a phase: what a crate above the node needs to know of them, so that it need not compute them.
-- Assumes nothing.
use mathlib.Core.Path.{◌≡◌, refl, sym, ap, ◌∙◌}
use mathlib.Core.Bool.{Bool, true, false}
use Rattle.words.proofs.Tests.{never}
use Rattle.node.specs.Figures.{is_waiting, negotiates, sending}
use Rattle.node.specs.Distribution.{take_answer, may_take}
use Rattle.node.specs.Answers.{is_done}
use Rattle.node.specs.Model.{Node}
use Rattle.node.specs.declared.Phase.{Phase}
use Rattle.node.specs.declared.Phase.TheVariants.{Waiting, Negotiation, Distribution}
use Rattle.node.specs.Answers.{Done}
use Rattle.node.proofs.Bare.{take-phase}

-- what holds of each phase with the values of its tests (waiting, in negotiation, sending) holds of every phase with its own
pub by_tests : (P : Phase → Bool → Bool → Bool → Type 0) → P Waiting true false false → P Negotiation false true false
    → ((s : Bool) → P (Distribution s) false false s) → (p : Phase) → P p (is_waiting p) (negotiates p) (sending p)
by_tests P w n d Waiting = w
by_tests P w n d Negotiation = n
by_tests P w n d (Distribution s) = d s

pub in-waiting : (p : Phase) → is_waiting p ≡ true → p ≡ Waiting
in-waiting Waiting h = refl
in-waiting Negotiation h = never (sym h)
in-waiting (Distribution s) h = never (sym h)

pub in-negotiation : (p : Phase) → negotiates p ≡ true → p ≡ Negotiation
in-negotiation Waiting h = never (sym h)
in-negotiation Negotiation h = refl
in-negotiation (Distribution s) h = never (sym h)

-- a node that takes is in distribution and does not send
may-take : (p : Phase) → may_take p ≡ Done → p ≡ Distribution false
may-take Waiting h = never (sym (ap is_done h))
may-take Negotiation h = never (sym (ap is_done h))
may-take (Distribution true) h = never (sym (ap is_done h))
may-take (Distribution false) h = refl

pub take-silent : (n : Node) → take_answer n ≡ Done → n.phase ≡ Distribution false
take-silent n h = may-take n.phase (sym (take-phase n) ∙ h)
