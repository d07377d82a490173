-- What an area holds after a beginning and after a step of its node.
-- Assumes nothing.
use mathlib.Core.Path.{◌≡◌, refl, sym, ap, ap₂, ◌∙◌}
use mathlib.Core.Bool.{Bool, true, false, cond}
use mathlib.Core.List.{List}
use Prim.Native.Nat.{ℕ, ◌≤◌}
use native.Mathlib.Omega.{arith}
use borrow.Author.Tests.{eqb-true}
use lib.Dec.{eqb, ltb}
use lib.ListN.{length, drop}
use Rattle.words.proofs.Tests.{by-test, skip}
use Rattle.lists.specs.All.{bounded}
use Rattle.lists.specs.Bytes.{window, span}
use Rattle.lists.proofs.Bounded.{bounded-over}
use Rattle.allotment.specs.Allotment.{top_request, owners_of, schedule_of}
use Rattle.allotment.proofs.Schedules.{owners-made}
use Rattle.masks.specs.Slots.{owners_in, masks_of}
use Rattle.masks.specs.Bytes.{masks_in}
use Rattle.masks.specs.Air.{owners_to}
use Rattle.masks.proofs.Told.{told-within, masks-cut}
use Rattle.node.specs.Core.{core_of, bare, moved_by}
use Rattle.node.specs.Model.{Node}
use Rattle.node.specs.declared.Core.{Core}
use Rattle.node.specs.declared.CoreStep.{CoreStep}
use Rattle.node.specs.Answers.{Answer}
use Rattle.node.specs.Answers.{Done, OutOfRange, NotANode}
use Rattle.node.specs.declared.Move.TheVariants.{Free}
use Rattle.node.specs.Steps.{want_answer}
use Rattle.node.proofs.Bare.{send-phase, take-phase, hear-bare}
use Rattle.node.proofs.Bounds.{want-so}
use Rattle.node.specs.Distribution.{take_answer}
use Rattle.node.proofs.Answers.{both-done}
use Rattle.wire.specs.Layout.{packet_size, schedule_size, packet_in, schedule_in}
use Rattle.wire.specs.Reads.{packet_answer, versioned_ok, schedule_answer}
use Rattle.wire.proofs.Laws.{rest-again, read-accepted}
use Rattle.range.specs.Range.{in_range}
use Rattle.range.proofs.Ranges.{ranges}
use Rattle.range.proofs.Lengths.{Lengths}
use Rattle.allotment.specs.InPlace.{held_in}
use Rattle.area.specs.Area.{node_size, at_schedule, encoded, decoded, valid}
use Rattle.area.specs.Steps.{area_stepped}
use Rattle.area.proofs.Steps.{begun, stepped}
use Rattle.host.proofs.Stays.{schedule-sound}
use Rattle.host.specs.Calls.{and_then, is_node_area, room_answer, is_sized, unless_refused, sent_answer, heard_answer, taken_answer, wanting_of}

-- a beginning in an area that has its length
pub sized : (a : List ℕ) (c : Core) {r : Bool} {m : List ℕ} → Lengths (bare c) → r ≡ eqb (length a) node_size → r ≡ true
    → m ≡ area_stepped c Free c a → m ≡ unless_refused (is_sized a) (bare c) a
sized a c l h k f =
    let e = sym h ∙ k in
    f ∙ begun a c (bare c) (eqb-true _ _ e) refl l ∙ sym (ap (λ (b : Bool). unless_refused (cond b Done NotANode) (bare c) a) e)

-- a beginning that is not refused
pub begins : (a : List ℕ) (x : Answer) (n : Node) {c : Core} {r : Answer} {m : List ℕ} → x ≡ Done → bare c ≡ n → r ≡ is_sized a
    → m ≡ unless_refused (is_sized a) (bare c) a
    → (r ≡ and_then x (is_sized a)) × (m ≡ unless_refused (and_then x (is_sized a)) n a)
begins a x n d k p q =
    let e : and_then x (is_sized a) ≡ is_sized a = ap (λ (y : Answer). and_then y (is_sized a)) d in
    (p ∙ sym e, q ∙ ap (λ (y : Node). unless_refused (is_sized a) y a) k ∙ sym (ap (λ (y : Answer). unless_refused y n a) e))

-- the node of an area makes a step
module _ (a : List ℕ) (v : valid a ≡ true) where
  pub gone : (f : Core → CoreStep) (n : Node) {c : Core} {s : CoreStep} {m : List ℕ} → c ≡ core_of (decoded a) → s ≡ f c
      → moved_by (decoded a) (f (core_of (decoded a))).core (f (core_of (decoded a))).change ≡ n → Lengths n
      → m ≡ area_stepped s.core s.change c a → m ≡ encoded n
  gone f n e g k l w =
      w ∙ ap₂ (λ (s : CoreStep) (c : Core). area_stepped s.core s.change c a) (g ∙ ap f e) e
      ∙ stepped a v (f (core_of (decoded a))).core (f (core_of (decoded a))).change n k l

-- the schedule that is told of the area of a node within the ranges
pub told_is : (a : List ℕ) → in_range (decoded a) ≡ true → schedule_of (owners_to (masks_in a at_schedule) (decoded a).setup.config.nodes)
    ≡ (decoded a).schedule
unfolding decoded held_in
told_is a h =
    let m = masks_in a at_schedule in
    let n = decoded a in
    ap schedule_of
    (told-within m (cond (ltb 0 n.version) n.setup.config.slots 0) n.setup.config.nodes
    (ap (λ (o : List ℕ). bounded o (cond (ltb 0 n.version) n.setup.config.slots 0) n.setup.config.nodes)
    (sym (owners-made (owners_in m))) ∙ (ranges n h).schedule))

-- the owners of the first slots, in bytes that a node accepts, have the masks of all
pub taken-long : (n : Node) (q : List ℕ) → taken_answer n q ≡ Done → length q ≡ schedule_size
unfolding schedule_answer
taken-long n q e = eqb-true _ _
    (read-accepted _ (versioned_ok n.setup (schedule_in q)) (both-done (take_answer n) (schedule_answer n.setup q) e).1).0

pub taken-masks : (n : Node) (q : List ℕ) → taken_answer n q ≡ Done → masks_of (span q 4 n.setup.config.slots)
    ≡ masks_of (owners_of (schedule_in q).schedule)
unfolding schedule_in
taken-masks n q e =
    let k = n.setup.config.slots in
    let used = ltb 0 (schedule_in q).version in
    let o : owners_of (schedule_of (window 80 q 4)) ≡ drop 4 q = owners-made (window 80 q 4)
    ∙ rest-again 80 q 4 (omega (arith, taken-long n q e)) in
    let b = (schedule-sound n.setup q (both-done (take_answer n) (schedule_answer n.setup q) e).1).1 in
    let f : bounded (drop 4 q) (cond used k 0) n.setup.config.nodes ≡ true =
    ap (λ (l : List ℕ). bounded l (cond used k 0) n.setup.config.nodes) (sym o) ∙ b in
    let few : cond used k 0 ≤ k = by-test (λ (x : ℕ). x ≤ k) used k 0 (λ t. omega arith) (λ t. omega arith) in
    masks-cut (drop 4 q) k (λ j h. bounded-over (drop 4 q) (cond used k 0) n.setup.config.nodes f j (omega (arith, few, h)))
    ∙ ap masks_of (sym o)

-- the answers of a node without its schedules
pub sent-bare : (n : Node) (out : List ℕ) → sent_answer (bare (core_of n)) out ≡ sent_answer n out
sent-bare n out = ap (λ (x : Answer). and_then x (room_answer packet_size out)) (send-phase (bare (core_of n)) ∙ sym (send-phase n))

pub heard-bare : (n : Node) (p : List ℕ) → heard_answer (bare (core_of n)) p ≡ heard_answer n p
heard-bare n p =
    ap₂ (λ (x y : Answer). and_then x (and_then (packet_answer n.setup.config.nodes p) y))
    (send-phase (bare (core_of n)) ∙ sym (send-phase n))
    (hear-bare n (packet_in p))

pub taken-bare : (n : Node) (q : List ℕ) → taken_answer (bare (core_of n)) q ≡ taken_answer n q
taken-bare n q = ap (λ (x : Answer). and_then x (schedule_answer n.setup q)) (take-phase (bare (core_of n)) ∙ sym (take-phase n))

-- a demand is tested before the area
pub wanting-so : (a : List ℕ) (w : ℕ) → wanting_of a w ≡ and_then (want_answer w) (is_node_area a)
unfolding wanting_of
wanting-so a w = go (ltb top_request w) ∙ sym (ap (λ (x : Answer). and_then x (is_node_area a)) (want-so w))
  where
    go : (t : Bool) → cond t OutOfRange (is_node_area a) ≡ and_then (cond t OutOfRange Done) (is_node_area a)
    go true = refl
    go false = refl
