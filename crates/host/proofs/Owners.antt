-- A list of calls on an area is the same list of steps of its node: each call reads exactly the node that the call before it left, refused
-- ones included.
-- Assumes nothing.
use mathlib.Core.Path.{◌≡◌, refl, sym, ap, ap₂, ◌∙◌}
use mathlib.Core.Bool.{Bool, true, cond}
use mathlib.Core.List.{List, [], ◌∷◌}
use Prim.Native.Nat.{ℕ}
use native.Mathlib.Omega.{arith}
use borrow.Author.Tests.{eq-eqb}
use lib.Dec.{eqb, ltb}
use lib.ListN.{length}
use Rattle.words.proofs.Tests.{hit, by-test, read-choice}
use Rattle.allotment.specs.Allotment.{top_request}
use Rattle.node.specs.Answers.{is_done}
use Rattle.node.specs.Negotiation.{packet_of}
use Rattle.node.specs.Close.{closed_node}
use Rattle.node.specs.Begin.{starting, waiting, start_answer, restart_answer}
use Rattle.node.specs.End.{end_answer}
use Rattle.node.specs.Grounds.{ground_of}
use Rattle.node.specs.Model.{Node}
use Rattle.node.specs.Answers.{Answer}
use Rattle.node.specs.Answers.{Done, OutOfRange, NotANode}
use Rattle.node.proofs.Answers.{done-is}
use Rattle.range.specs.Range.{in_range}
use Rattle.range.proofs.Keeps.{keeps-start, keeps-restart}
use Rattle.range.proofs.Lengths.{Lengths, long-start, long-restart, long-hear, long-close, long-take, long-end, long-want}
use Rattle.wire.specs.Layout.{packet_bytes, packet_in, schedule_in}
use Rattle.area.specs.Area.{node_size, encoded, decoded, valid}
use Rattle.area.proofs.Valid.{range-of}
use Rattle.area.proofs.Canon.{lengths, canonical, accepted, length-encoded}
use Rattle.host.specs.Report.{report_size, report}
use Rattle.host.specs.Calls.{and_then, is_sized, output, unless_refused, beginning, after_begin, restarting, after_restart, sent_answer}
use Rattle.host.specs.Calls.{sending_of, out_send, heard_answer, hearing_of, after_hear, ground_bytes, closed_answer, closing_of, after_close}
use Rattle.host.specs.Calls.{close_bytes, out_close, ground_close, taken_answer, taking_of, after_take, ending_of, after_end, wanting_of}
use Rattle.host.specs.Calls.{after_want, room_answer, reading_of, out_read, own_slots, output_answer, slots_answer, out_slots}
use Rattle.host.specs.Owners.{BoxCall, begins, restarts, sends, hears, closes, takes, ends, wants, reads, slots, seen_on}
use Rattle.host.specs.Owners.{area_after_call}
use Rattle.host.specs.Owners.{node_call_answer, node_outputs, seen_of, next_node, node_after_call, area_after_all, seen_on_all, node_after_all}
use Rattle.host.specs.Owners.{seen_of_all}
use Rattle.host.specs.Owners.{ByOwners}
use Rattle.host.proofs.Nodes.{node-area, back_is, its_own, then-done}
use Rattle.host.proofs.Stays.{long-schedule, hear-range, close-range, take_range, end-range, want-range, begin-makes, restart-makes}

abbrev answer_on : List ℕ → BoxCall → Answer
answer_on a c = (seen_on a c).answer

-- an area of the right length is no ground for a refusal
sized : (a : List ℕ) (x : Answer) → length a ≡ node_size → and_then x (is_sized a) ≡ x
sized a x l = ap (and_then x) (hit (eqb (length a) node_size) Done NotANode (eq-eqb (length a) node_size l)) ∙ then-done x

module _ (n : Node) (long : Lengths n) (range : in_range n ≡ true) where
  abbrev a : List ℕ
  a = encoded n

  -- a call answers as its node does
  answers : (c : BoxCall) → answer_on a c ≡ node_call_answer n c
  unfolding beginning restarting sending_of hearing_of closing_of taking_of ending_of wanting_of reading_of slots_answer
  answers (begins s v flags d) = sized a (start_answer s v flags d) (length-encoded n long)
  answers (restarts s flags f) = sized a (restart_answer s flags f) (length-encoded n long)
  answers (sends out) = its_own n long range (λ m. sent_answer m out)
  answers (hears p) = its_own n long range (λ m. heard_answer m p)
  answers (closes out told) = its_own n long range (λ m. closed_answer m out told)
  answers (takes q) = its_own n long range (λ m. taken_answer m q)
  answers ends = its_own n long range end_answer
  answers (wants d) = ap (λ (t : Bool). cond (ltb top_request d) OutOfRange (cond t Done NotANode)) (node-area n long range)
  answers (reads out) = its_own n long range (λ m. room_answer report_size out)
  answers (slots out) = its_own n long range (λ m. output_answer m out)

  -- and writes what its node does
  written-by : (x y : Answer) (f : Node → List ℕ) (out : List ℕ) → x ≡ y → output x (f (decoded a)) out ≡ output y (f n) out
  written-by x y f out e = ap₂ (λ (z : Answer) (m : Node). output z (f m) out) e (back_is n long range)

  outputs : (c : BoxCall) → (seen_on a c).outputs ≡ node_outputs n c
  unfolding out_send out_close ground_close out_read out_slots
  outputs (begins s v flags d) = refl
  outputs (restarts s flags f) = refl
  outputs (sends out) = ap (λ (o : List ℕ). o ∷ []) (written-by _ _ (λ m. packet_bytes (packet_of m)) out (answers (sends out)))
  outputs (hears p) = refl
  outputs (closes out told) =
      ap₂ (λ (o r : List ℕ). o ∷ r ∷ []) (written-by _ _ (λ m. close_bytes (closed_node m)) out (answers (closes out told)))
      (written-by _ _ (λ m. ground_bytes (ground_of m)) told (answers (closes out told)))
  outputs (takes q) = refl
  outputs ends = refl
  outputs (wants d) = refl
  outputs (reads out) = ap (λ (o : List ℕ). o ∷ []) (written-by _ _ report out (answers (reads out)))
  outputs (slots out) = ap (λ (o : List ℕ). o ∷ []) (written-by _ _ own_slots out (answers (slots out)))

  seen-is : (c : BoxCall) → seen_on a c ≡ seen_of n c
  seen-is c = let p = answers c in let q = outputs c in λ i. record { answer = p i; outputs = q i }

  -- and leaves the bytes of its node's step
  kept : (x y : Answer) (f : Node → Node) → x ≡ y → unless_refused x (f (decoded a)) a ≡ encoded (cond (is_done y) (f n) n)
  kept x y f e = ap₂ (λ (z : Answer) (m : Node). unless_refused z (f m) a) e (back_is n long range)
      ∙ sym (read-choice encoded (is_done y) (f n) n)

  same-either : (y : Answer) → a ≡ encoded (cond (is_done y) n n)
  same-either y = by-test (λ (m : Node). a ≡ encoded m) (is_done y) n n (λ _. refl) (λ _. refl)

  leaves : (c : BoxCall) → area_after_call a c ≡ encoded (node_after_call n c)
  unfolding after_begin after_restart after_hear after_close after_take after_end after_want
  leaves (begins s v flags d) = kept _ _ (λ m. starting s v flags d) (answers (begins s v flags d))
  leaves (restarts s flags f) = kept _ _ (λ m. waiting s flags f 0) (answers (restarts s flags f))
  leaves (sends out) = same-either (sent_answer n out)
  leaves (hears p) = kept _ _ (λ m. next_node m (hears p)) (answers (hears p))
  leaves (closes out told) = kept _ _ (λ m. next_node m (closes out told)) (answers (closes out told))
  leaves (takes q) = kept _ _ (λ m. next_node m (takes q)) (answers (takes q))
  leaves ends = kept _ _ (λ m. next_node m ends) (answers ends)
  leaves (wants d) = kept _ _ (λ m. next_node m (wants d)) (answers (wants d))
  leaves (reads out) = same-either (room_answer report_size out)
  leaves (slots out) = same-either (output_answer n out)

  -- a node's step stays in range
  next-long : (c : BoxCall) → Lengths (next_node n c)
  next-long (begins s v flags d) = long-start s v flags d
  next-long (restarts s flags f) = long-restart s flags f 0
  next-long (sends out) = long
  next-long (hears p) = long-hear n (packet_in p) long
  next-long (closes out told) = long-close n long
  next-long (takes q) = long-take n (schedule_in q) long (long-schedule q)
  next-long ends = long-end n long
  next-long (wants d) = long-want n d long
  next-long (reads out) = long
  next-long (slots out) = long

  next-range : (c : BoxCall) → node_call_answer n c ≡ Done → in_range (next_node n c) ≡ true
  next-range (begins s v flags d) e = keeps-start s v flags d e
  next-range (restarts s flags f) e = keeps-restart s flags f 0 e (omega arith)
  next-range (sends out) e = range
  next-range (hears p) e = ap (λ (m : Node). in_range (next_node m (hears p))) (sym (back_is n long range))
      ∙ hear-range a (node-area n long range) p (answers (hears p) ∙ e)
  next-range (closes out told) e = ap (λ (m : Node). in_range (next_node m (closes out told))) (sym (back_is n long range))
      ∙ close-range a (node-area n long range) out told (answers (closes out told) ∙ e)
  next-range (takes q) e = ap (λ (m : Node). in_range (next_node m (takes q))) (sym (back_is n long range))
      ∙ take_range a (node-area n long range) q (answers (takes q) ∙ e)
  next-range ends e = ap (λ (m : Node). in_range (next_node m ends)) (sym (back_is n long range))
      ∙ end-range a (node-area n long range) (answers ends ∙ e)
  next-range (wants d) e = ap (λ (m : Node). in_range (next_node m (wants d))) (sym (back_is n long range))
      ∙ want-range a (node-area n long range) d (answers (wants d) ∙ e)
  next-range (reads out) e = range
  next-range (slots out) e = range

  after-long : (c : BoxCall) → Lengths (node_after_call n c)
  after-long c = by-test Lengths (is_done (node_call_answer n c)) (next_node n c) n (λ _. next-long c) (λ _. long)

  after-range : (c : BoxCall) → in_range (node_after_call n c) ≡ true
  after-range c = by-test (λ (m : Node). in_range m ≡ true) (is_done (node_call_answer n c)) (next_node n c) n (λ d. next-range c (done-is _ d))
      (λ _. range)

-- Lists of calls

seen_all : (n : Node) → Lengths n → in_range n ≡ true → (cs : List BoxCall) → seen_on_all (encoded n) cs ≡ seen_of_all n cs
unfolding seen_on_all seen_of_all
seen_all n l r [] = refl
seen_all n l r (c ∷ cs) = ap₂ ◌∷◌ (seen-is n l r c)
    (ap (λ (b : List ℕ). seen_on_all b cs) (leaves n l r c) ∙ seen_all (node_after_call n c) (after-long n l r c) (after-range n l r c) cs)

held_all : (n : Node) → Lengths n → in_range n ≡ true → (cs : List BoxCall) → area_after_all (encoded n) cs ≡ encoded (node_after_all n cs)
unfolding area_after_all node_after_all
held_all n l r [] = refl
held_all n l r (c ∷ cs) = ap (λ (b : List ℕ). area_after_all b cs) (leaves n l r c)
    ∙ held_all (node_after_call n c) (after-long n l r c) (after-range n l r c) cs

valid-all : (n : Node) → Lengths n → in_range n ≡ true → (cs : List BoxCall) → valid (encoded (node_after_all n cs)) ≡ true
unfolding node_after_all
valid-all n l r [] = accepted n l r
valid-all n l r (c ∷ cs) = valid-all (node_after_call n c) (after-long n l r c) (after-range n l r c) cs

pub by-owners : ByOwners
unfolding beginning restarting after_begin after_restart
by-owners =
    record {
      seen = λ a v cs. ap (λ (b : List ℕ). seen_on_all b cs) (sym (canonical a v)) ∙ seen_all (decoded a) (lengths a) (range-of a v) cs;
      held = all_held;
      accepted = λ a v cs. ap valid (all_held a v cs) ∙ valid-all (decoded a) (lengths a) (range-of a v) cs;
      begun = λ a l s v flags d e.
          let g : beginning a s v flags d ≡ Done = sized a (start_answer s v flags d) l ∙ e in
          (g, ap (λ (x : Answer). unless_refused x (starting s v flags d) a) g, begin-makes a s v flags d g);
      restarted = λ a l s flags f e.
          let g : restarting a s flags f ≡ Done = sized a (restart_answer s flags f) l ∙ e in
          (g, ap (λ (x : Answer). unless_refused x (waiting s flags f 0) a) g, restart-makes a s flags f g);
    }
  where
    all_held : (a : List ℕ) → valid a ≡ true → (cs : List BoxCall) → area_after_all a cs ≡ encoded (node_after_all (decoded a) cs)
    all_held a v cs = ap (λ (b : List ℕ). area_after_all b cs) (sym (canonical a v)) ∙ held_all (decoded a) (lengths a) (range-of a v) cs
