-- Laws of answers: which one is done, what a chain of tests says whose answer is Done, what a result with a value says of its answer, and numbers.
-- Assumes nothing.
use mathlib.Core.Path.{◌≡◌, refl, sym, ap, ◌∙◌}
use mathlib.Core.Bool.{Bool, true, false, cond}
use Prim.Native.Nat.{◌<◌}
use native.Mathlib.Omega.{arith}
use lib.Dec.{eqb}
use Rattle.words.proofs.Tests.{never}
use Rattle.std.specs.Prelude.{Result, Ok, Err, is_ok}
use Rattle.node.specs.Answers.{Answer, Done, is_done, number, answered}
use Rattle.node.specs.declared.Refusal.{Refusal}
use Rattle.node.specs.declared.Refusal.TheVariants as refusal

-- an answer that is done is Done
pub done-is : (a : Answer) → is_done a ≡ true → a ≡ Done
done-is (Ok _) h = refl
done-is (Err _) h = never (sym h)

-- a test that is refused where it fails
pub test-met : (t : Bool) (a b : Answer) → is_done b ≡ false → cond t a b ≡ Done → (t ≡ true) × (a ≡ Done)
test-met true a b k h = (refl, h)
test-met false a b k h = never (sym (ap is_done h) ∙ k)

-- a test that is refused where it holds
pub test-passed : (t : Bool) (a b : Answer) → is_done a ≡ false → cond t a b ≡ Done → (t ≡ false) × (b ≡ Done)
test-passed true a b k h = never (sym (ap is_done h) ∙ k)
test-passed false a b k h = (refl, h)

-- of two answers, the second where the first is done: both are Done
pub both-done : (a b : Answer) → cond (is_done a) b a ≡ Done → (a ≡ Done) × (b ≡ Done)
both-done a b h = go (is_done a) refl h
  where
    go : (t : Bool) → is_done a ≡ t → cond t b a ≡ Done → (a ≡ Done) × (b ≡ Done)
    go true e k = (done-is a e, k)
    go false e k = never (sym (ap is_done k) ∙ e)

-- an answer's number has at most two digits
pub number_small : (a : Answer) → number a < 100
number_small (Ok _) = omega arith
number_small (Err refusal.BadNames) = omega arith
number_small (Err refusal.OutOfRange) = omega arith
number_small (Err refusal.NoSuchNode) = omega arith
number_small (Err refusal.WrongPhase) = omega arith
number_small (Err refusal.NotLive) = omega arith
number_small (Err refusal.NotDown) = omega arith
number_small (Err refusal.TooManyPackets) = omega arith
number_small (Err refusal.NoSuchPacket) = omega arith
number_small (Err refusal.OwnPacket) = omega arith
number_small (Err refusal.WrongSender) = omega arith
number_small (Err refusal.WrongLength) = omega arith
number_small (Err refusal.BadContents) = omega arith
number_small (Err refusal.TwoRequests) = omega arith
number_small (Err refusal.NotANode) = omega arith
number_small (Err refusal.NoRoom) = omega arith
number_small (Err refusal.BadWindows) = omega arith
number_small (Err refusal.Crowded) = omega arith
number_small (Err refusal.NotGiven) = omega arith

-- a result with a value is accepted where its answer is, and holds the value then
abbrev refusal_in : {T : Type 0} → Result T Refusal → Answer
refusal_in (Ok _) = Done
refusal_in (Err x) = Err x

abbrev value_in : {T : Type 0} → T → Result T Refusal → T
value_in d (Ok x) = x
value_in d (Err _) = d

pub answered-err : {T : Type 0} {x : Refusal} (a : Answer) (v : T) → answered a v ≡ Err x → a ≡ Err x
answered-err (Ok _) v h = never (ap is_ok h)
answered-err (Err y) v h = ap refusal_in h

pub answered-ok : {T : Type 0} {u : T} (a : Answer) (v : T) → answered a v ≡ Ok u → (is_done a ≡ true) × (u ≡ v)
answered-ok (Ok _) v h = (refl, sym (ap (value_in v) h))
answered-ok (Err y) v h = never (sym (ap is_ok h))

-- the number 0 is that of no refusal
pub zero-done : (a : Answer) → number a ≡ 0 → a ≡ Done
zero-done (Ok _) h = refl
zero-done (Err refusal.BadNames) h = absurd (omega (arith, h))
zero-done (Err refusal.OutOfRange) h = absurd (omega (arith, h))
zero-done (Err refusal.NoSuchNode) h = absurd (omega (arith, h))
zero-done (Err refusal.WrongPhase) h = absurd (omega (arith, h))
zero-done (Err refusal.NotLive) h = absurd (omega (arith, h))
zero-done (Err refusal.NotDown) h = absurd (omega (arith, h))
zero-done (Err refusal.TooManyPackets) h = absurd (omega (arith, h))
zero-done (Err refusal.NoSuchPacket) h = absurd (omega (arith, h))
zero-done (Err refusal.OwnPacket) h = absurd (omega (arith, h))
zero-done (Err refusal.WrongSender) h = absurd (omega (arith, h))
zero-done (Err refusal.WrongLength) h = absurd (omega (arith, h))
zero-done (Err refusal.BadContents) h = absurd (omega (arith, h))
zero-done (Err refusal.TwoRequests) h = absurd (omega (arith, h))
zero-done (Err refusal.NotANode) h = absurd (omega (arith, h))
zero-done (Err refusal.NoRoom) h = absurd (omega (arith, h))
zero-done (Err refusal.BadWindows) h = absurd (omega (arith, h))
zero-done (Err refusal.Crowded) h = absurd (omega (arith, h))
zero-done (Err refusal.NotGiven) h = absurd (omega (arith, h))

-- whether an answer's number is 0 is whether it is done
pub zero-is : (a : Answer) → eqb (number a) 0 ≡ is_done a
zero-is (Ok _) = refl
zero-is (Err refusal.BadNames) = refl
zero-is (Err refusal.OutOfRange) = refl
zero-is (Err refusal.NoSuchNode) = refl
zero-is (Err refusal.WrongPhase) = refl
zero-is (Err refusal.NotLive) = refl
zero-is (Err refusal.NotDown) = refl
zero-is (Err refusal.TooManyPackets) = refl
zero-is (Err refusal.NoSuchPacket) = refl
zero-is (Err refusal.OwnPacket) = refl
zero-is (Err refusal.WrongSender) = refl
zero-is (Err refusal.WrongLength) = refl
zero-is (Err refusal.BadContents) = refl
zero-is (Err refusal.TwoRequests) = refl
zero-is (Err refusal.NotANode) = refl
zero-is (Err refusal.NoRoom) = refl
zero-is (Err refusal.BadWindows) = refl
zero-is (Err refusal.Crowded) = refl
zero-is (Err refusal.NotGiven) = refl
