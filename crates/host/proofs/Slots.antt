-- The slots that `hydra_slots` tells are those that `hydra_read` shows as the node's own, and those of its mask.
-- Assumes nothing.
use mathlib.Core.Path.{◌≡◌, refl, sym, ap, ap₂, ◌∙◌, subst}
use mathlib.Core.Bool.{Bool, true, false, cond, ◌&&◌}
use mathlib.Core.List.{List, [], ◌∷◌, ◌++◌, append_assoc}
use Prim.Native.Nat.{ℕ, ◌+◌, ◌-◌, ◌^◌, ◌≤◌, ◌<◌}
use native.Mathlib.Omega.{arith}
use borrow.Author.Tests.{ltb-true, ltb-false, ne_eqb}
use lib.Dec.{eqb, ltb}
use lib.Bits
use lib.ListN.{length, get_or, get_or-append, get_or-eq_default}
use lib.Seq.{take_at}
use Rattle.words.specs.Bits.{has_bit, word_of, how_many}
use Rattle.words.proofs.Tests.{by-test}
use Rattle.words.proofs.Laws.{word_of-lt, has_bit-word_of, has_bit-out, how_many-ext}
use Rattle.lists.specs.Bytes.{bytes32, span, written}
use Rattle.masks.specs.Slots.{has_slot}
use Rattle.masks.specs.declared.NodeSlots.{NodeSlots}
use Rattle.masks.proofs.Bits.{share-none}
use Rattle.masks.proofs.Owners.{slot-low, slot-high}
use Rattle.allotment.specs.Allotment.{owners_of, owner_of}
use Rattle.allotment.specs.Model.{Schedule}
use Rattle.allotment.proofs.Schedules.{owner_at, same-owners}
use Rattle.node.specs.Answers.{is_done}
use Rattle.node.specs.Answers.{Answer}
use Rattle.node.specs.Answers.{Done, NotANode}
use Rattle.node.specs.Figures.{negotiates}
use Rattle.node.specs.Negotiation.{in_negotiation, send_answer}
use Rattle.node.specs.Model.{Node}
use Rattle.node.specs.declared.Phase.{Phase}
use Rattle.node.specs.Model.{Versioned}
use Rattle.node.proofs.Answers.{test-met, both-done}
use Rattle.node.proofs.Bare.{send-phase}
use Rattle.node.proofs.Made.{sends-so}
use Rattle.node.proofs.Phases.{in-negotiation}
use Rattle.range.specs.Range.{in_range}
use Rattle.range.proofs.Lengths.{Lengths}
use Rattle.range.proofs.Ranges.{ranges}
use Rattle.wire.specs.Layout.{schedule_bytes}
use Rattle.wire.specs.Phases.{phase_byte}
use Rattle.area.specs.Area.{small_of, encoded, decoded, valid}
use Rattle.area.proofs.Valid.{range-of}
use Rattle.area.proofs.Canon.{lengths}
use Rattle.area.proofs.Masked.{slots-held, own_is, own_row}
use Rattle.host.specs.Report.{report_size, report}
use Rattle.host.specs.Calls.{and_then, is_node_area, room_answer, output, reading_of, out_read, slots_size, is_own, own_slots, output_answer}
use Rattle.host.specs.Calls.{slots_answer, out_slots}
use Rattle.host.specs.Slots.{shown_owner, shown_phase, slot_shown, RowOf, SlotsShown}
use Rattle.host.proofs.Answers.{a-node}
use Rattle.host.proofs.Nodes.{talks, roomy, length-report, phase-in, its_own, back_is}

-- An area that a call accepts

node_of : (a : List ℕ) (x : Answer) → cond (is_done (is_node_area a)) x (is_node_area a) ≡ Done → valid a ≡ true
node_of a x d = (test-met (valid a) Done NotANode refl (both-done (is_node_area a) x d).0).0

pub read-valid : (a out : List ℕ) → reading_of a out ≡ Done → valid a ≡ true
unfolding reading_of
read-valid a out d = node_of a _ d

pub slots-valid : (a out : List ℕ) → slots_answer a out ≡ Done → valid a ≡ true
unfolding slots_answer
slots-valid a out d = node_of a _ d

pub read_done : (a out : List ℕ) → valid a ≡ true → report_size ≤ length out → reading_of a out ≡ Done
unfolding reading_of
read_done a out v h = a-node a (room_answer report_size out) v ∙ roomy report_size out h

-- its node's number is 1 to 32
pub numbered : (a : List ℕ) → valid a ≡ true → (1 ≤ (decoded a).setup.node) × ((decoded a).setup.node ≤ 32)
numbered a v = let s = (ranges (decoded a) (range-of a v)).setting in (s.node-from, omega (arith, s.node-to, s.bounds.nodes-to))

-- What each call writes

read_is : (a out : List ℕ) → reading_of a out ≡ Done → out_read a out ≡ written out 0 (report (decoded a))
unfolding out_read
read_is a out d = ap (λ (x : Answer). output x (report (decoded a)) out) d

pub slots-are : (a out : List ℕ) → slots_answer a out ≡ Done → out_slots a out ≡ written out 0 (own_slots (decoded a))
unfolding out_slots
slots-are a out d = ap (λ (x : Answer). output x (own_slots (decoded a)) out) d

-- the owners of a report at the start of an output
owners-shown : (n : Node) → Lengths n → (out : List ℕ) → span (written out 0 (report n)) 4 80 ≡ owners_of n.schedule
unfolding report schedule_bytes
owners-shown n l out =
    let rest = bytes32 n.flags ++ (bytes32 n.epoch.place ++ small_of n) in
    ap (λ (v : Versioned). span (written out 0 (schedule_bytes v ++ rest)) 4 80) (sends-so n)
    ∙ ap (λ (x : List ℕ). span (bytes32 n.version ++ x) 4 80) (append_assoc (owners_of n.schedule) rest _)
    ∙ take_at (owners_of n.schedule) _ 80 l.schedule

shown-is : (a out : List ℕ) → reading_of a out ≡ Done → (k : ℕ) → shown_owner (out_read a out) k ≡ owner_of (decoded a).schedule k
shown-is a out d k =
    ap (λ (r : List ℕ). shown_owner r k) (read_is a out d) ∙ ap (λ (o : List ℕ). get_or o k 0) (owners-shown (decoded a) (lengths a) out)
    ∙ sym (owner_at (decoded a).schedule k)

-- the phase of a report at the start of an output
first_byte : (p : Phase) → negotiates p ≡ true → phase_byte p ≡ 0
first_byte p t = ap phase_byte (in-negotiation p t)

phase-so : (a words out : List ℕ) → slots_answer a words ≡ Done → reading_of a out ≡ Done → shown_phase (out_read a out) ≡ 0
unfolding slots_answer
phase-so a words out d e =
    let n = decoded a in
    let own = (both-done (is_node_area a) (output_answer n words) d).1 in
    let t = talks n (both-done (send_answer n) (room_answer slots_size words) own).0 in
    let l : length (report n) ≡ report_size = length-report n (lengths a) in
    ap shown_phase (read_is a out e) ∙ get_or-append (report n) _ 0 94 (omega (arith, l)) ∙ phase-in n (lengths a)
    ∙ first_byte n.phase t

-- a slot in the two words of a test that none passes from 80 on
module _ (p : ℕ → Bool) (none : (k : ℕ) → 80 ≤ k → p k ≡ false) where
  abbrev low : ℕ
  low = word_of 64 p

  abbrev high : ℕ
  high = word_of 16 (λ k. p (64 + k))

  word-slot : (k : ℕ) → has_slot low high k ≡ p k
  word-slot k =
      by-test (λ (_ : ℕ). has_slot low high k ≡ p k) (ltb k 64) 0 0
      (λ t. let l = ltb-true k 64 t in slot-low low high k l ∙ has_bit-word_of 64 p k l)
      (λ t.
      let l = ltb-false k 64 t in
      let s : 64 + (k - 64) ≡ k = omega (arith, l) in
      ap (has_slot low high) (sym s) ∙ slot-high low high (k - 64)
      ∙ by-test (λ (_ : ℕ). has_bit high (k - 64) ≡ p k) (ltb (k - 64) 16) 0 0
      (λ u. has_bit-word_of 16 (λ k. p (64 + k)) (k - 64) (ltb-true (k - 64) 16 u) ∙ ap p s)
      (λ u. let m = ltb-false (k - 64) 16 u in has_bit-out high 16 (k - 64) (word_of-lt 16 (λ k. p (64 + k))) m
      ∙ sym (none k (omega (arith, l, m)))))

-- no slot from 80 on is a node's own
own-none : (n : Node) → Lengths n → 1 ≤ n.setup.node → (k : ℕ) → 80 ≤ k → is_own n k ≡ false
own-none n l h k m =
    let e : owner_of n.schedule k ≡ 0 = owner_at n.schedule k
    ∙ get_or-eq_default (owners_of n.schedule) 0 {n = k} (omega (arith, l.schedule, m)) in
    ne_eqb (owner_of n.schedule k) n.setup.node (λ f. omega (arith, e, f, h))

module _ (a words : List ℕ) (d : slots_answer a words ≡ Done) where
  abbrev n : Node
  n = decoded a

  pub low-is : get_or (out_slots a words) 0 0 ≡ word_of 64 (is_own n)
  unfolding own_slots
  low-is = ap (λ (l : List ℕ). get_or l 0 0) (slots-are a words d)

  pub high_is : get_or (out_slots a words) 1 0 ≡ word_of 16 (λ k. is_own n (64 + k))
  unfolding own_slots
  high_is = ap (λ (l : List ℕ). get_or l 1 0) (slots-are a words d)

  count-is : get_or (out_slots a words) 2 0 ≡ how_many 80 (is_own n)
  unfolding own_slots
  count-is = ap (λ (l : List ℕ). get_or l 2 0) (slots-are a words d)

  told_is : (k : ℕ) → slot_shown (out_slots a words) k ≡ is_own n k
  told_is k = ap₂ (λ (x y : ℕ). has_slot x y k) low-is high_is
      ∙ word-slot (is_own n) (own-none n (lengths a) (numbered a (slots-valid a words d)).0) k

  row_is : RowOf a (n.setup.node - 1) (out_slots a words)
  row_is =
      let v = slots-valid a words d in
      let e = sym (own_is a v n.setup.node (numbered a v).0 (numbered a v).1)
      ∙ own_row a v n.setup.node (numbered a v).0 (numbered a v).1 in
      record {
        low = low-is ∙ ap (λ (w : NodeSlots). w.low) e;
        high = high_is ∙ ap (λ (w : NodeSlots). w.high) e;
        count = count-is ∙ ap (λ (w : NodeSlots). w.count) e;
      }

-- What two calls tell

-- two nodes of one number, with the same owners, in the same phase: the call is answered alike, and writes the same
module _ (m n : Node) (lm : Lengths m) (rm : in_range m ≡ true) (ln : Lengths n) (rn : in_range n ≡ true)
    (number : m.setup.node ≡ n.setup.node) (owners : owners_of m.schedule ≡ owners_of n.schedule) (phase : m.phase ≡ n.phase)
    (out : List ℕ) where
  answered-alike : output_answer m out ≡ output_answer n out
  answered-alike = ap (λ (x : Answer). and_then x (room_answer slots_size out)) (send-phase m ∙ ap in_negotiation phase ∙ sym (send-phase n))

  own-alike : own_slots m ≡ own_slots n
  unfolding own_slots
  own-alike =
      ap₂ (λ (s : Schedule) (j : ℕ). word_of 64 (λ k. eqb (owner_of s k) j) ∷ word_of 16 (λ k. eqb (owner_of s (64 + k)) j) ∷ how_many 80
      (λ k. eqb (owner_of s k) j) ∷ [])
      (same-owners m.schedule n.schedule owners) number

  answer-of : (o : Node) → Lengths o → in_range o ≡ true → slots_answer (encoded o) out ≡ output_answer o out
  unfolding slots_answer
  answer-of o l r = its_own o l r (λ x. output_answer x out)

  pub same_answer : slots_answer (encoded m) out ≡ slots_answer (encoded n) out
  same_answer = answer-of m lm rm ∙ answered-alike ∙ sym (answer-of n ln rn)

  pub same-slots : out_slots (encoded m) out ≡ out_slots (encoded n) out
  unfolding out_slots
  same-slots =
      ap₂ (λ (x : Answer) (y : List ℕ). output x y out) same_answer
      (ap own_slots (back_is m lm rm) ∙ own-alike ∙ sym (ap own_slots (back_is n ln rn)))

-- the numbers of two calls that tell no slot in common share no bit
module _ (a b v w : List ℕ) (d : slots_answer a v ≡ Done) (e : slots_answer b w ≡ Done)
    (apart : (k : ℕ) → slot_shown (out_slots a v) k ≡ true → slot_shown (out_slots b w) k ≡ true → ⊥) where
  abbrev one : ℕ → ℕ
  one i = get_or (out_slots a v) i 0

  abbrev two : ℕ → ℕ
  two i = get_or (out_slots b w) i 0

  neither : (s t : Bool) → (s ≡ true → t ≡ true → ⊥) → (s && t) ≡ false
  neither true true f = absurd (f refl refl)
  neither true false f = refl
  neither false t f = refl

  low-apart : Bits.bit_and (one 0) (two 0) ≡ 0
  low-apart =
      share-none 64 (one 0) (two 0)
      (subst (λ (x : ℕ). x < 2 ^ 64) (sym (low-is a v d)) (word_of-lt 64 (is_own (decoded a))))
      (subst (λ (x : ℕ). x < 2 ^ 64) (sym (low-is b w e)) (word_of-lt 64 (is_own (decoded b))))
      (λ k l. neither (has_bit (one 0) k) (has_bit (two 0) k)
      (λ p q. apart k (slot-low (one 0) (one 1) k l ∙ p) (slot-low (two 0) (two 1) k l ∙ q)))

  high-apart : Bits.bit_and (one 1) (two 1) ≡ 0
  high-apart =
      share-none 16 (one 1) (two 1)
      (subst (λ (x : ℕ). x < 2 ^ 16) (sym (high_is a v d)) (word_of-lt 16 (λ k. is_own (decoded a) (64 + k))))
      (subst (λ (x : ℕ). x < 2 ^ 16) (sym (high_is b w e)) (word_of-lt 16 (λ k. is_own (decoded b) (64 + k))))
      (λ k l. neither (has_bit (one 1) k) (has_bit (two 1) k)
      (λ p q. apart (64 + k) (slot-high (one 0) (one 1) k ∙ p) (slot-high (two 0) (two 1) k ∙ q)))

  pub words-apart : (Bits.bit_and (one 0) (two 0) ≡ 0) × (Bits.bit_and (one 1) (two 1) ≡ 0)
  words-apart = (low-apart, high-apart)

pub slots-shown : SlotsShown
slots-shown =
    record {
      shown = λ a out d i k l m. (slots-held.schedule a (read-valid a out d)).slots i k l m
          ∙ ap (λ (x : ℕ). eqb x (i + 1)) (sym (shown-is a out d k));
      own = λ a words out d e k. told_is a words d k ∙ ap (λ (x : ℕ). eqb x (decoded a).setup.node) (sym (shown-is a out e k));
      counted = λ a words out d e.
          count-is a words d
          ∙ how_many-ext 80 (is_own (decoded a)) (λ k. eqb (shown_owner (out_read a out) k) (decoded a).setup.node)
          (λ k _. ap (λ (x : ℕ). eqb x (decoded a).setup.node) (sym (shown-is a out e k)));
      phase = phase-so;
      row = row_is;
    }
