-- Answers one after another, and what an area and an output hold after a call.
-- Assumes nothing.
use mathlib.Core.Path.{◌≡◌, refl, sym, ap, ap₂, ◌∙◌}
use mathlib.Core.Bool.{Bool, true, false, cond}
use mathlib.Core.List.{List}
use Prim.Native.Nat.{ℕ}
use Rattle.std.specs.Prelude.{Option, Some, None, is_some, Result, Ok, Err}
use Rattle.std.proofs.lemmas.Option.{same_Some}
use Rattle.std.specs.Option.{ok_or}
use Rattle.std.specs.Result.{result_ok, IsErrAnd}
use Rattle.lists.specs.Bytes.{written}
use Rattle.words.proofs.Tests.{hit, skip}
use Rattle.node.specs.Answers.{is_done, answered}
use Rattle.node.specs.Answers.{Answer}
use Rattle.node.specs.Answers.{Done, NotANode, NoRoom}
use Rattle.node.specs.Model.{Node}
use Rattle.node.specs.Core.{core_of}
use Rattle.area.specs.Area.{decoded, encoded, valid}
use Rattle.area.specs.Steps.{area_read}
use Rattle.node.specs.declared.Core.{Core}
use Rattle.node.specs.declared.Refusal.{Refusal}
use Rattle.node.specs.declared.Refusal.TheVariants as reason
use Rattle.area.proofs.Valid.{opened-ok, opened-core}
use Rattle.host.specs.Calls.{and_then, is_node_area, unless_refused, output}

-- after an answer that is Done the next one decides; any other answer stands
pub then_next : (x y : Answer) → is_done x ≡ true → and_then x y ≡ y
then_next x y e = hit (is_done x) y x e

pub then-stands : (x y : Answer) → is_done x ≡ false → and_then x y ≡ x
then-stands x y e = skip (is_done x) y x x e refl

-- on a node's area the answer is the node's own
pub a-node : (a : List ℕ) (x : Answer) → valid a ≡ true → and_then (is_node_area a) x ≡ x
a-node a x v = ap (λ (t : Bool). and_then (cond t Done NotANode) x) v

-- a refusal: an area's or an output's bytes are as they were
pub refusal : (x y : Answer) → y ≡ x → is_done x ≡ false → (b l : List ℕ) → (x ≡ y) × (l ≡ cond (is_done y) b l)
refusal x y e d b l = (sym e, sym (skip _ _ _ _ (ap is_done e ∙ d) refl))

-- bytes written where there is room for them
pub in-room : (t : Bool) (b l : List ℕ) → cond t (written l 0 b) l ≡ output (cond t Done NoRoom) b l
in-room true b l = refl
in-room false b l = refl

-- a result without its value
abbrev pub answer_of : {A : Type 0} → Result A Refusal → Answer
answer_of (Ok _) = Done
answer_of (Err e) = Err e

-- a refusal that is passed on
pub passed-on : {A : Type 0} (r : Result A Refusal) {e : Refusal} → IsErrAnd r (λ x. x ≡ e) → r ≡ Err e
passed-on (Ok _) h = absurd h
passed-on (Err x) h = ap Err h

-- a value with its answer: where it is refused, and where it is given
answered-is : {A : Type 0} (y : Answer) (x : A) → answer_of (answered y x) ≡ y
answered-is (Ok _) x = refl
answered-is (Err e) x = refl

module _ {A : Type 0} (y : Answer) (x : A) {r : Result A Refusal} (f : r ≡ answered y x) where
  pub kept-back : {e : Refusal} → r ≡ Err e → y ≡ Err e
  kept-back g = sym (answered-is y x) ∙ ap answer_of (sym f ∙ g)

  pub given-done : {z : A} → r ≡ Ok z → y ≡ Done
  given-done g = sym (answered-is y x) ∙ ap answer_of (sym f ∙ g)

  pub given : {z : A} → r ≡ Ok z → z ≡ x
  given g = same_Some _ _ (sym (ap result_ok (sym f ∙ g)) ∙ ap (λ (w : Answer). result_ok (answered w x)) (given-done g))

-- a value that was asked for, and the refusal x where there is none
module _ {A : Type 0} {o : Option A} {r : Result A Refusal} (h : o ≡ result_ok r) where
  pub found : {c : A} → r ≡ Ok c → o ≡ Some c
  found k = h ∙ ap result_ok k

  pub missing : {e : Refusal} → r ≡ Err e → o ≡ None
  missing k = h ∙ ap result_ok k

  pub told-missing : {x e : Refusal} → r ≡ ok_or o x → r ≡ Err e → ◌≡◌ {A = Answer} (Err e) (Err x)
  told-missing {x} g k = sym (ap answer_of k) ∙ ap answer_of g ∙ ap (λ (y : Option A). answer_of (ok_or y x)) (missing k)

-- a call reads its area
module _ (a : List ℕ) where
  pub opened : {o : Option Core} {r : Result Core Refusal} {c : Core} → o ≡ area_read a → o ≡ result_ok r → r ≡ Ok c → area_read a ≡ Some c
  opened f h k = sym f ∙ found h k

  -- an area that is no node's is refused as 14, whatever its node would answer, and no byte changes
  pub no_node : (x : Node → Answer) {o : Option Core} {r : Result Core Refusal} {e : Refusal} → o ≡ area_read a → r ≡ ok_or o reason.NotANode
      → o ≡ result_ok r → r ≡ Err e → (b l : List ℕ)
      → (Err e ≡ and_then (is_node_area a) (x (decoded a))) × (l ≡ cond (is_done (and_then (is_node_area a) (x (decoded a)))) b l)
  no_node x f g h k b l =
      let v : valid a ≡ false = sym (opened-ok a) ∙ ap is_some (sym f ∙ missing h k) in
      let n = refusal NotANode _ (ap (λ (t : Bool). and_then (cond t Done NotANode) (x (decoded a))) v) refl b l in
      (told-missing h g k ∙ n.0, n.1)

  module _ {c : Core} (e : area_read a ≡ Some c) where
    pub is-node : valid a ≡ true
    is-node = sym (opened-ok a) ∙ ap is_some e

    pub core_is : c ≡ core_of (decoded a)
    core_is = opened-core a c e

    -- it answers x of the area's node
    module _ (x : Node → Answer) where
      -- the node's answer stands
      answers : and_then (is_node_area a) (x (decoded a)) ≡ x (decoded a)
      answers = a-node a (x (decoded a)) is-node

      -- the node refuses, and no byte changes
      pub refuses : (y : Answer) → y ≡ x (decoded a) → is_done y ≡ false → (b l : List ℕ)
          → (y ≡ and_then (is_node_area a) (x (decoded a))) × (l ≡ cond (is_done (and_then (is_node_area a) (x (decoded a)))) b l)
      refuses y k d = refusal y _ (answers ∙ sym k) d

      -- the node makes a step
      pub steps : {m : List ℕ} (n : Node) → x (decoded a) ≡ Done → m ≡ encoded n
          → (Done ≡ and_then (is_node_area a) (x (decoded a))) × (m ≡ unless_refused (and_then (is_node_area a) (x (decoded a))) n a)
      steps n d k = (sym (answers ∙ d), k ∙ sym (ap (λ (y : Answer). unless_refused y n a) (answers ∙ d)))

      -- an output holds the node's bytes where its answer is Done
      pub put-out : {r : Answer} {m b : List ℕ} (w : Answer) (c : Node → List ℕ) (l : List ℕ) → w ≡ x (decoded a) → b ≡ c (decoded a)
          → r ≡ w → m ≡ output w b l
          → (r ≡ and_then (is_node_area a) (x (decoded a))) × (m ≡ output (and_then (is_node_area a) (x (decoded a))) (c (decoded a)) l)
      put-out w c l k h p q = (p ∙ k ∙ sym answers, q ∙ ap₂ (λ (y : Answer) (z : List ℕ). output y z l) (k ∙ sym answers) h)
