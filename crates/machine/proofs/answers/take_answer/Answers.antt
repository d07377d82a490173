-- The tests in their order: each refusal is the definition's at the first test that is met.
use mathlib.Core.Path.{◌≡◌, refl, sym, ap, ◌∙◌}
use mathlib.Core.Bool.{Bool, true, false, not, cond, ◌||◌}
use mathlib.Core.Path.{ap₂}
use Rattle.words.proofs.Tests.{hit, skip, or-neither, or-back}
use Rattle.machine.specs.Layout.{store, site_in}
use Rattle.machine.proofs.steps.Asked.{outs, phase, live, by-phase, the-phase}
use Rattle.site.specs.Answers.{site_take}
use Rattle.node.specs.Figures.{sending}
use Rattle.site.specs.Members.{member_at}
use Rattle.node.specs.Answers.{WrongSender}
use Rattle.node.specs.Model.{Node}
use Rattle.node.specs.Distribution.{may_take, take_answer}
use Rattle.node.proofs.Bare.{take-phase}
use Rattle.node.proofs.Tested.{take-sends}
use Rattle.machine.proofs.answers.take_answer.Goals as goal

pub returns-then-outside : goal.returns-then-outside
unfolding site_take
returns-then-outside c =
    let a = c.args in
    let s = store a.m.words.now a.m.bytes.now in
    let w = outs s c.header-k.ensures a.j a.g c.outside.ensures
    c.outside-2.ensures c.if-outside.true in
    sym (hit _ _ _ w)

pub returns-then-k : goal.returns-then-k
unfolding site_take
returns-then-k c =
    let a = c.args in
    let s = store a.m.words.now a.m.bytes.now in
    let w = outs s c.header-k.ensures a.j a.g c.outside.ensures
    c.outside-2.ensures c.if-outside.false in
    sym (skip _ _ _ _ w (hit _ _ _ (phase s c.header-k.ensures c.if-k.true)))

pub returns-then-live : goal.returns-then-live
unfolding site_take
returns-then-live c =
    let a = c.args in
    let s = store a.m.words.now a.m.bytes.now in
    let w = outs s c.header-k.ensures a.j a.g c.outside.ensures c.outside-2.ensures c.if-outside.false in
    let v = or-neither _ _ w in
    sym (skip _ _ _ _ w (skip _ _ _ _ (phase s c.header-k.ensures c.if-k.false)
    (hit _ _ _ (ap₂ (λ (x y : Bool). not x || not y) (live s a.j v.0 refl c.live.ensures refl)
    (live s a.g v.1 refl c.live-2.ensures refl) ∙ c.if-live.true))))

pub returns-then-not-is_sending : goal.returns-then-not-is_sending
unfolding site_take
returns-then-not-is_sending c =
    let a = c.args in
    let s = store a.m.words.now a.m.bytes.now in
    let k = c.header-k.ensures in
    let w = outs s k a.j a.g c.outside.ensures
    c.outside-2.ensures
    c.if-outside.false in
    let v = or-neither _ _ w in
    let y = ap not (by-phase s a.g v.1 refl sending c.phase-other.ensures c.is_sending.ensures refl ∙ c.if-not-is_sending.true) in
    let lives = ap₂ (λ (x y : Bool). not x || not y)
    (live s a.j v.0 refl c.live.ensures refl)
    (live s a.g v.1 refl c.live-2.ensures refl)
    ∙ c.if-live.false in
    sym (skip _ _ _ _ w (skip _ _ _ _ (phase s k c.if-k.false)
    (skip _ _ _ _ lives (hit _ _ _ (or-back (sending (member_at (site_in s) a.j).node.phase) _ y)))))

-- where the other node sends, a taker that sends is refused as it refuses itself
own-test : (n : Node) (t : Bool) → sending n.phase ≡ t → (u : Bool) → u ≡ false → cond (t || u) WrongSender (take_answer n) ≡ take_answer n
own-test n true e u f = sym (take-sends n e)
own-test n false e u f = skip u WrongSender (take_answer n) _ f refl

pub returns : goal.returns
unfolding site_take
returns c =
    let a = c.args
    in
    let s = store a.m.words.now a.m.bytes.now in
    let k = c.header-k.ensures in
    let w = outs s k a.j a.g c.outside.ensures c.outside-2.ensures
    c.if-outside.false in
    let v = or-neither _ _ w in
    let y = ap not (by-phase s a.g v.1 refl sending c.phase-other.ensures
    c.is_sending.ensures refl ∙ c.if-not-is_sending.false) in
    let lives = ap₂ (λ (x y : Bool). not x || not y)
    (live s a.j v.0 refl c.live.ensures refl)
    (live s a.g v.1 refl c.live-2.ensures refl)
    ∙ c.if-live.false in
    let n = (member_at (site_in s) a.j).node in
    c.take_answer.ensures ∙ ap may_take (the-phase s a.j v.0 refl c.phase-phase.ensures)
    ∙ sym (take-phase n)
    ∙ sym (skip _ _ _ _ w (skip _ _ _ _ (phase s k c.if-k.false)
    (skip _ _ _ _ lives (own-test n (sending n.phase) refl _ y))))
