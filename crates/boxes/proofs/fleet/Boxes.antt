-- A box beside the member of its number: what `hydra_read` tells of it, and what each call makes of both.
-- Assumes nothing.
use mathlib.Core.Path.{◌≡◌, refl, sym, ap, ◌∙◌}
use mathlib.Core.Bool.{Bool, true, false, not, cond, ◌&&◌}
use mathlib.Core.List.{List, []}
use Prim.Native.Nat.{ℕ}
use native.Mathlib.Omega.{arith}
use borrow.Author.Tests.{eq-eqb}
use lib.Dec.{eqb}
use lib.ListN.{length, length-replicate}
use Rattle.words.proofs.Tests.{never, clash, both, hit, by-test}
use Rattle.lists.specs.Bytes.{written}
use Rattle.allotment.specs.Allotment.{owners_of, free}
use Rattle.node.specs.Figures.{is_waiting, negotiates, sending, is_last}
use Rattle.node.specs.Negotiation.{heard_node}
use Rattle.node.specs.Close.{closed_node}
use Rattle.node.specs.Distribution.{sent_by, taken_node, take_answer}
use Rattle.node.specs.Begin.{waiting, starting, restart_answer}
use Rattle.node.specs.End.{ended_node}
use Rattle.node.specs.Steps.{wanted_node}
use Rattle.range.specs.Range.{in_range}
use Rattle.node.specs.declared.Setup.{Setup}
use Rattle.node.specs.Model.{Node}
use Rattle.node.specs.declared.Phase.{Phase}
use Rattle.node.specs.declared.Phase.TheVariants.{Waiting, Negotiation, Distribution}
use Rattle.node.specs.Answers.{Answer}
use Rattle.node.specs.Answers.{Done, NotANode}
use Rattle.node.proofs.Phases.{by_tests, take-silent}
use Rattle.range.proofs.Lengths.{Lengths, long-start, long-restart, long-hear, long-close, long-take, long-end, long-want}
use Rattle.node.proofs.Laws as law
use Rattle.node.proofs.Made.{same_sent, restarted}
use Rattle.wire.specs.Layout.{schedule_size, packet_in, schedule_bytes, schedule_in}
use Rattle.wire.proofs.Laws.{length-schedule}
use Rattle.wire.specs.Phases.{phase_byte}
use Rattle.area.specs.Area.{node_size, encoded}
use Rattle.host.specs.Report.{report_size, report}
use Rattle.host.specs.Calls.{and_then, is_sized, unless_refused, beginning, after_begin, restarting, after_restart, hearing_of, after_hear}
use Rattle.host.specs.Calls.{ground_size, closing_of, after_close, close_bytes, out_close, taking_of, after_take, after_end, wanting_of, after_want}
use Rattle.host.specs.Calls.{out_read}
use Rattle.area.proofs.Canon.{length-encoded}
use Rattle.host.proofs.Nodes as host
use Rattle.site.specs.Members.{is_live, with_node}
use Rattle.site.specs.Model.{Member}
use Rattle.boxes.specs.fleet.Fleet.{Box, zeros, reading, box_phase, live, sends, box_holding}

-- up or down as the member; an area of its length, with the bytes of the member's node while it is up; and an output of its length, with
-- what the node sends while it sends
pub record Match (m : Member) (b : Box) : Type 0 where
  pub up : b.up ≡ m.up
  pub area : m.up ≡ true → b.area ≡ encoded m.node
  pub size : length b.area ≡ node_size
  pub room : length b.out ≡ schedule_size
  pub sent : m.up ≡ true → sending m.node.phase ≡ true → b.out ≡ schedule_bytes (sent_by m.node)

-- the node of a member that is up is within the ranges
pub record Fit (m : Member) : Type 0 where
  pub long : m.up ≡ true → Lengths m.node
  pub range : m.up ≡ true → in_range m.node ≡ true

-- Phases

waits : (p : Phase) → not (eqb (phase_byte p) 3) ≡ not (is_waiting p)
waits = by_tests (λ (x : Phase) (w t s : Bool). not (eqb (phase_byte x) 3) ≡ not w) refl refl (λ s. byte-not-waits s)
  where
    byte-not-waits : (s : Bool) → not (eqb (phase_byte (Distribution s)) 3) ≡ true
    byte-not-waits false = refl
    byte-not-waits true = refl

sends-byte : (p : Phase) → eqb (phase_byte p) 2 ≡ sending p
sends-byte = by_tests (λ (x : Phase) (w t s : Bool). eqb (phase_byte x) 2 ≡ s) refl refl (λ s. byte-sends s)
  where
    byte-sends : (s : Bool) → eqb (phase_byte (Distribution s)) 2 ≡ s
    byte-sends false = refl
    byte-sends true = refl

silent : {A : Type 0} (p : Phase) → negotiates p ≡ true → sending p ≡ true → A
silent {A} = by_tests (λ (x : Phase) (w t s : Bool). t ≡ true → s ≡ true → A) (λ t s. never (sym s)) (λ t s. never (sym s))
    (λ x t s. never (sym t))

-- What is read of a box

module _ {m : Member} {b : Box} (M : Match m b) (F : Fit m) where
  module _ (u : m.up ≡ true) where
    pub reading-is : reading b ≡ report m.node
    reading-is = ap (λ (a : List ℕ). out_read a (zeros report_size)) (M.area u)
        ∙ host.read-writes m.node (F.long u) (F.range u) (zeros report_size) (length-replicate {A = ℕ} report_size 0)

    phase-is : box_phase (reading b) ≡ phase_byte m.node.phase
    phase-is = ap box_phase reading-is ∙ host.phase-in m.node (F.long u)

    pub sends-is : sends b ≡ sending m.node.phase
    unfolding sends
    sends-is = ap (λ (x : ℕ). eqb x 2) phase-is ∙ sends-byte m.node.phase

  pub live-is : live b ≡ is_live m
  unfolding live
  live-is = go m.up refl
    where
      go : (t : Bool) → m.up ≡ t → (b.up && not (eqb (box_phase (reading b)) 3)) ≡ is_live m
      go true u = both M.up (ap (λ (x : ℕ). not (eqb x 3)) (phase-is u) ∙ waits m.node.phase)
      go false u = ap (λ (t : Bool). t && not (eqb (box_phase (reading b)) 3)) (M.up ∙ u)
          ∙ sym (ap (λ (t : Bool). t && not (is_waiting m.node.phase)) u)

-- What the calls make of a box

-- another node, and its bytes
remade : {m : Member} {b : Box} {a : List ℕ} (n : Node) → Match m b → Lengths n → a ≡ encoded n
    → (m.up ≡ true → sending n.phase ≡ true → b.out ≡ schedule_bytes (sent_by n)) → Match (with_node m n) (box_holding b a)
remade n M l e f = record { up = M.up; area = λ _. e; size = ap length e ∙ length-encoded n l; room = M.room; sent = f }

module _ {m : Member} {b : Box} (M : Match m b) (F : Fit m) (u : m.up ≡ true) where
  abbrev n : Node
  n = m.node

  -- a call on the area is one on the node's bytes
  on-node : {A : Type 0} (x : List ℕ → A) → x b.area ≡ x (encoded n)
  on-node x = ap x (M.area u)

  pub hear-box : (q : List ℕ) → negotiates n.phase ≡ true → hearing_of b.area q ≡ Done
      → Match (with_node m (heard_node n (packet_in q))) (box_holding b (after_hear b.area q))
  hear-box q t d =
      let h = law.hears n (packet_in q) in
      remade (heard_node n (packet_in q)) M (long-hear n (packet_in q) (F.long u))
      (on-node (λ a. after_hear a q) ∙ host.hear-leaves n (F.long u) (F.range u) q (sym (on-node (λ a. hearing_of a q)) ∙ d))
      (λ _ s. silent n.phase t (sym (ap sending h.phase) ∙ s))

  pub take-box : (q : List ℕ) → take_answer n ≡ Done → taking_of b.area q ≡ Done → length (owners_of (schedule_in q).schedule) ≡ 80
      → Match (with_node m (taken_node n (schedule_in q))) (box_holding b (after_take b.area q))
  take-box q t d l =
      let h = law.takes n (schedule_in q) in
      remade (taken_node n (schedule_in q)) M (long-take n (schedule_in q) (F.long u) l)
      (on-node (λ a. after_take a q) ∙ host.take-leaves n (F.long u) (F.range u) q (sym (on-node (λ a. taking_of a q)) ∙ d))
      (λ _ s. never (sym s ∙ ap sending (h.phase ∙ take-silent n t)))

  pub end-box : negotiates n.phase ≡ false → Match (with_node m (ended_node n)) (box_holding b (after_end b.area))
  end-box t =
      remade (ended_node n) M (long-end n (F.long u))
      (on-node after_end ∙ host.end_leaves n (F.long u) (F.range u) (host.end-answers n (F.long u) (F.range u) ∙ law.end-done n t))
      (λ _ s. begins (is_waiting n.phase && not (is_last n.setup.config n.epoch.place)) (sym (ap sending (law.end-phase n)) ∙ s))
    where
      begins : {A : Type 0} (w : Bool) → sending (cond w Waiting Negotiation) ≡ true → A
      begins true s = never (sym s)
      begins false s = never (sym s)

  pub want-box : (d : ℕ) → wanting_of b.area d ≡ Done → Match (with_node m (wanted_node n d)) (box_holding b (after_want b.area d))
  want-box d e =
      let w = law.wants n d in
      remade (wanted_node n d) M (long-want n d (F.long u))
      (on-node (λ a. after_want a d) ∙ host.want-leaves n (F.long u) (F.range u) d (sym (on-node (λ a. wanting_of a d)) ∙ e))
      (λ _ s. M.sent u (sym (ap sending w.phase) ∙ s) ∙ ap schedule_bytes
      (sym (same_sent (wanted_node n d) n w.version w.schedule)))

  pub close-done : negotiates n.phase ≡ true → closing_of b.area b.out (zeros ground_size) ≡ Done
  close-done t = on-node (λ a. closing_of a b.out (zeros ground_size))
      ∙ host.close-answers n (F.long u) (F.range u) b.out (zeros ground_size) (let h = M.room in omega arith) (omega arith)
      ∙ law.close-done n t

  pub close-box : negotiates n.phase ≡ true → Match (with_node m (closed_node n)) (record {
    up = b.up;
    area = after_close b.area b.out (zeros ground_size);
    out = out_close b.area b.out (zeros ground_size);
  })
  close-box t =
      let d : closing_of (encoded n) b.out (zeros ground_size) ≡ Done = sym (on-node (λ a. closing_of a b.out (zeros ground_size)))
      ∙ close-done t in
      let e : after_close b.area b.out (zeros ground_size) ≡ encoded (closed_node n) = on-node
      (λ a. after_close a b.out (zeros ground_size)) ∙ host.close-leaves n (F.long u) (F.range u) b.out (zeros ground_size) d in
      let w : out_close b.area b.out (zeros ground_size) ≡ written b.out 0 (close_bytes (closed_node n)) = on-node
      (λ a. out_close a b.out (zeros ground_size)) ∙ host.close-writes n (F.long u) (F.range u) b.out (zeros ground_size) d in
      let v = sent_by (closed_node n) in
      let l : length (schedule_bytes v) ≡ schedule_size = length-schedule v (host.sent-long (closed_node n) (long-close n (F.long u))) in
      let full : written b.out 0 (schedule_bytes v) ≡ schedule_bytes v = host.filled (schedule_bytes v) b.out (l ∙ sym M.room) in
      record {
        up = M.up;
        area = λ _. e;
        size = ap length e ∙ length-encoded (closed_node n) (long-close n (F.long u));
        room = ap length w
            ∙ by-test (λ (x : List ℕ). length (written b.out 0 x) ≡ schedule_size) (sending (closed_node n).phase) (schedule_bytes v) []
            (λ _. ap length full ∙ l) (λ _. M.room);
        sent = λ _ s. w ∙ ap (written b.out 0) (hit (sending (closed_node n).phase) (schedule_bytes v) [] s) ∙ full;
      }

-- a member that is down, beside anything of its lengths
pub down-box : {m : Member} {b : Box} → m.up ≡ false → b.up ≡ false → length b.area ≡ node_size → length b.out ≡ schedule_size
    → Match m b
down-box d e l r = record { up = e ∙ sym d; area = λ u. clash _ u d; size = l; room = r; sent = λ u _. clash _ u d }

-- begin and restart, on whatever the memory holds
sized : (a : List ℕ) → length a ≡ node_size → is_sized a ≡ Done
sized a l = hit (eqb (length a) node_size) Done NotANode (eq-eqb _ _ l)

pub restart-done : (a : List ℕ) (s : Setup) (flags place : ℕ) → length a ≡ node_size → restart_answer s flags place ≡ Done
    → restarting a s flags place ≡ Done
unfolding restarting
restart-done a s flags place l d = ap (λ (x : Answer). and_then x (is_sized a)) d ∙ sized a l

pub restart-box : (b : Box) (s : Setup) (flags place : ℕ) → length b.out ≡ schedule_size → restarting b.area s flags place ≡ Done
    → Match (record {
      up = true;
      node = waiting s flags place 0;
    }) (record { up = true; area = after_restart b.area s flags place; out = b.out })
unfolding after_restart
restart-box b s flags place r d =
    let n = waiting s flags place 0 in
    let e : unless_refused (restarting b.area s flags place) n b.area
    ≡ encoded n = ap (λ (x : Answer). unless_refused x n b.area) d in
    record {
      up = refl;
      area = λ _. e;
      size = ap length e ∙ length-encoded n (long-restart s flags place 0);
      room = r;
      sent = λ _ y. never (sym y ∙ ap sending (restarted s flags place 0).phase);
    }

pub begin-box : (a out : List ℕ) (s : Setup) (v flags demand : ℕ) → length out ≡ schedule_size → beginning a s v flags demand ≡ Done
    → Match (record { up = true; node = starting s v flags demand }) (record { up = true; area = after_begin a s v flags demand; out = out })
unfolding after_begin
begin-box a out s v flags demand r d =
    let n = starting s v flags demand in
    let e : unless_refused (beginning a s v flags demand) n a ≡ encoded n = ap (λ (x : Answer). unless_refused x n a) d in
    record {
      up = refl;
      area = λ _. e;
      size = ap length e ∙ length-encoded n (long-start s v flags demand);
      room = r;
      sent = λ _ y. never (sym y ∙ ap sending (law.begins s v free demand demand flags).phase);
    }
