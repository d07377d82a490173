-- A node's next core written, and its schedules moved in place, is its next node written.
-- Assumes nothing.
use mathlib.Core.Path.{◌≡◌, refl, sym, ap, ap₂, ◌∙◌}
use mathlib.Core.Bool.{Bool, true, false}
use mathlib.Core.Logic.{◌⊎◌, inl, inr}
use mathlib.Core.List.{List}
use Prim.Native.Nat.{ℕ, ◌+◌, ◌≤◌, ◌<◌}
use native.Mathlib.Omega.{arith}
use borrow.Author.Tests.{ltb-true, ltb-false}
use lib.Dec.{eqb, ltb}
use lib.ListN.{length, get_or, drop, length-drop}
use lib.Seq.{length-take-le}
use Rattle.words.proofs.Tests.{hit, skip}
use Rattle.lists.specs.Bytes.{span, window, written}
use Rattle.lists.proofs.Laws.{tab-ext}
use Rattle.lists.proofs.Places.{Apart, apart-written}
use Rattle.masks.specs.Bytes.{masks_size, copied}
use Rattle.masks.proofs.Moves.{can-copy}
use Rattle.allotment.specs.InPlace.{held_in}
use Rattle.allotment.proofs.Held.{held-alike}
use Rattle.node.specs.Answers.{is_done}
use Rattle.node.specs.Close.{closed_node, close_answer}
use Rattle.node.specs.Distribution.{sent_by, taken_node}
use Rattle.node.specs.End.{ended_node, end_answer}
use Rattle.node.specs.Negotiation.{heard_node}
use Rattle.node.specs.Figures.{is_waiting}
use Rattle.node.specs.declared.Setup.{Setup}
use Rattle.membership.specs.requests.Requests.{only}
use Rattle.node.proofs.Laws.{end-setup}
use Rattle.node.proofs.Ended.{end-opened}
use Rattle.node.specs.Core.{core_of, bare, core_closed, core_ended, core_taken, take_move_by}
use Rattle.node.specs.InPlace.{both_size, behind, moved_in, dropped_in}
use Rattle.node.proofs.Cores.{holding, close-moved, end_moved, take-moved, take-change, hear-moved}
use Rattle.node.proofs.Made.{carries}
use Rattle.node.proofs.Moved.{copied-held, ended-drops}
use Rattle.node.specs.declared.Core.{Core}
use Rattle.node.specs.declared.CoreStep.{CoreStep}
use Rattle.node.specs.declared.Move.{Move}
use Rattle.node.specs.Model.{Node}
use Rattle.node.specs.declared.Packet.{Packet}
use Rattle.wire.specs.Phases.{phase_of}
use Rattle.site.specs.Members.{setup_of, is_live, with_node}
use Rattle.site.specs.Steps.{close_member, end_member}
use Rattle.site.specs.Model.{Member}
use Rattle.machine.specs.Layout.{Store, bytes_size, node_words_at, node_bytes_at, at_known, at_counters, at_schedule, schedules_at, config_in}
use Rattle.machine.specs.Layout.{node_in}
use Rattle.machine.specs.Layout.{stored_in, node_words, stored_front}
use Rattle.machine.specs.Written.{written_front, written_moved, handed_on}
use Rattle.machine.specs.Inner.{core_in, member_of, next_put}

-- a core written, and its schedules moved: a node's words and front look at no schedule
pub stepped : (s : Store) (i : ℕ) (m : Member) {next c : Core} {v change : Move} {u : Bool} {w b r : List ℕ} → u ≡ m.up → next
    ≡ core_of m.node → change ≡ v → c ≡ core_in s i
    → w ≡ written s.words (node_words_at i) (node_words (bare next)) → b
    ≡ written s.bytes (node_bytes_at i) (stored_front (member_of u (bare next))) → r
    ≡ moved_in change c b (schedules_at i)
    → (w ≡ (written_moved s i m v).words) × (r ≡ (written_moved s i m v).bytes)
unfolding node_words stored_front
stepped s i m u e f g p q h =
    let front = q ∙ (λ x. written s.bytes (node_bytes_at i) (stored_front (member_of (u x) (bare (e x))))) in (
      p ∙ ap (λ (x : Core). written s.words (node_words_at i) (node_words (bare x))) e,
      h
          ∙ (λ x. moved_in (f x) (g x) (front x) (schedules_at i)),
    )

-- what an end makes of the schedules needs no core
pub ended-moved : (n : Node) (c : Core) {v : Move} (b : List ℕ) {r : List ℕ} (at : ℕ) → v ≡ (core_ended (core_of n)).change
    → at + both_size ≤ length b → r ≡ dropped_in v b at → r ≡ moved_in v c b at
ended-moved n c {v} b {r} at e h f =
    f ∙ ap (λ (m : Move). dropped_in m b at) e ∙ sym (ended-drops c b at h (core_of n)) ∙ sym (ap (λ (m : Move). moved_in m c b at) e)

number-there : (s : Store) (i : ℕ) → (node_in s i).setup.node ≡ i + 1
unfolding node_in
number-there s i = refl

-- who doesn't wait on after an end has just opened a round
pub ended-known : (s : Store) (i : ℕ) {next : Core} → next ≡ core_of (ended_node (node_in s i)) → is_waiting next.phase ≡ false
    → next.round.known ≡ only (i + 1) next.request
ended-known s i e w =
    let n = node_in s i in
    let o = end-opened n (sym (ap (λ (x : Core). is_waiting x.phase) e) ∙ w) in
    ap (λ (x : Core). x.round.known) e ∙ o.known
    ∙ ap₂ only (ap (λ (x : Setup). x.node) (end-setup n) ∙ number-there s i) (ap (λ (x : Core). x.request) (sym e))

pub version-there : (s : Store) (i : ℕ) → get_or s.words (node_words_at i) 0 ≡ (node_in s i).version
unfolding node_in
version-there s i = refl

-- the core after a close, an end and a take, and what each makes of the schedules
module _ {c : Core} {o : CoreStep} (n : Node) (e : c ≡ core_of n) where
  pub closed-core : o ≡ core_closed c → (o.core ≡ core_of (closed_node n)) × (o.change ≡ (core_closed (core_of n)).change)
  closed-core f =
      let g = f ∙ ap core_closed e in
      (ap (λ (x : CoreStep). x.core) g ∙ ap core_of (close-moved n), ap (λ (x : CoreStep). x.change) g)

  pub ended-core : o ≡ core_ended c → (o.core ≡ core_of (ended_node n)) × (o.change ≡ (core_ended (core_of n)).change)
  ended-core f =
      let g = f ∙ ap core_ended e in
      (ap (λ (x : CoreStep). x.core) g ∙ ap core_of (end_moved n), ap (λ (x : CoreStep). x.change) g)

  pub taken-core : (q : Node) {v : ℕ} → v ≡ q.version → o ≡ core_taken c v → (o.core ≡ core_of (taken_node n (sent_by q)))
      × (o.change ≡ take_move_by (eqb n.version q.version))
  taken-core q {v} h f =
      let g = f ∙ ap₂ core_taken e h in
      let k : o ≡ core_taken (core_of n) (sent_by q).version = g ∙ ap (core_taken (core_of n)) (sym (carries q).version) in (
        ap (λ (x : CoreStep). x.core) k ∙ ap core_of (take-moved n (sent_by q)),
        ap (λ (x : CoreStep). x.change) g
            ∙ take-change (core_of n) q.version,
      )

-- the node at index i with the schedule of the node at index h
module _ (s : Store) (i h : ℕ) (a : i < 32) (g : h < 32) (b : bytes_size ≤ length s.bytes) where
  abbrev part : List ℕ
  part = span s.bytes (schedules_at h) masks_size

  long-part : length part ≡ masks_size
  long-part = length-take-le masks_size (drop (schedules_at h) s.bytes) (omega (arith, g, b, length-drop (schedules_at h) s.bytes))

  apart-places : (schedules_at i ≤ schedules_at h) ⊎ (schedules_at h + masks_size ≤ schedules_at i)
  apart-places = go (ltb h i) refl
    where
      go : (t : Bool) → ltb h i ≡ t → (schedules_at i ≤ schedules_at h) ⊎ (schedules_at h + masks_size ≤ schedules_at i)
      go true e = inr (omega (arith, ltb-true h i e))
      go false e = inl (omega (arith, ltb-false h i e))

  copied_is : copied s.bytes (schedules_at h) (schedules_at i) ≡ written s.bytes (schedules_at i) part
  copied_is = hit _ _ _ (can-copy s.bytes (schedules_at h) (schedules_at i) (omega (arith, g, b)) (omega (arith, a, b)) apart-places)

  pub handed-apart : Apart s.bytes (handed_on s i h).bytes (schedules_at i) masks_size
  handed-apart =
      let p = apart-written s.bytes part (schedules_at i) (schedules_at i) masks_size (omega arith) (omega (arith, long-part))
      (omega (arith, long-part, a, b)) in
      let e = copied_is in
      record {
        long = ap length e ∙ p.long;
        below = λ k y. ap (λ (x : List ℕ). get_or x k 0) e ∙ p.below k y;
        above = λ k y. ap (λ (x : List ℕ). get_or x k 0) e ∙ p.above k y;
      }

  pub handed-node : node_in (handed_on s i h) i ≡ holding (node_in s i) (sent_by (node_in s h))
  unfolding node_in
  handed-node =
      let t = (handed_on s i h).bytes in
      let p = handed-apart in
      let byte : (k : ℕ) → k < at_schedule → get_or t (node_bytes_at i + k) 0 ≡ get_or s.bytes (node_bytes_at i + k) 0 =
      λ k y. p.below (node_bytes_at i + k) (omega (arith, y)) in
      let list : (k : ℕ) → k + 32 ≤ at_schedule → window 32 t (node_bytes_at i + k) ≡ window 32 s.bytes (node_bytes_at i + k) =
      λ k y. tab-ext 32 _ _ (λ x z. p.below (node_bytes_at i + k + x) (omega (arith, y, z))) in
      let held : held_in t (schedules_at i) ≡ (sent_by (node_in s h)).schedule =
      ap (λ (x : List ℕ). held_in x (schedules_at i)) copied_is
      ∙ copied-held s.bytes (schedules_at h) (schedules_at i) (omega (arith, g, b)) (omega (arith, a, b))
      ∙ sym (carries (node_in s h)).schedule in
      let next = held-alike t s.bytes (behind (schedules_at i)) (behind (schedules_at i))
      (λ k y. p.above (behind (schedules_at i) + k) (omega arith)) in
      λ x. record {
        setup = setup_of (config_in s) (i + 1);
        version = get_or s.words (node_words_at i) 0;
        schedule = held x;
        demand = byte 1 (omega arith) x;
        request = byte 2 (omega arith) x;
        flags = get_or s.words (node_words_at i + 1) 0;
        round = record {
          merged = get_or s.words (node_words_at i + 2) 0;
          known = list at_known (omega arith) x;
          lowest = get_or s.words (node_words_at i + 3) 0;
          highest = get_or s.words (node_words_at i + 4) 0;
          heard = get_or s.words (node_words_at i + 5) 0;
        };
        epoch = record {
          counters = list at_counters (omega arith) x;
          interactions = get_or s.words (node_words_at i + 6) 0;
          place = get_or s.words (node_words_at i + 7) 0;
          updated = eqb (byte 4 (omega arith) x) 1;
          determined = next x;
        };
        phase = phase_of (byte 3 (omega arith) x);
      }

-- the members after a close and an end, done or refused
module _ (m : Member) where
  pub close-done : is_live m ≡ true → is_done (close_answer m.node) ≡ true → close_member m ≡ with_node m (closed_node m.node)
  close-done h d = hit _ _ _ h ∙ ap (with_node m) (hit _ _ _ d)

  pub close-refused : is_live m ≡ true → is_done (close_answer m.node) ≡ false → close_member m ≡ m
  close-refused h d = hit _ _ _ h ∙ ap (with_node m) (skip _ _ _ _ d refl)

  pub end-done : m.up ≡ true → is_done (end_answer m.node) ≡ true → end_member m ≡ with_node m (ended_node m.node)
  end-done h d = hit _ _ _ h ∙ ap (with_node m) (hit _ _ _ d)

  pub end_refused : m.up ≡ true → is_done (end_answer m.node) ≡ false → end_member m ≡ m
  end_refused h d = hit _ _ _ h ∙ ap (with_node m) (skip _ _ _ _ d refl)

-- the core that a hear leaves
pub heard-core : (n : Node) (q : Packet) → core_of (heard_node (bare (core_of n)) q) ≡ core_of (heard_node n q)
heard-core n q = ap core_of (hear-moved n q)

-- a next core written back is its node's numbers written: these look at no schedule
pub next-put : (s : Store) (i : ℕ) {next : Core} (n : Node) → next ≡ core_of n → next_put s i next
    ≡ written_front s i (with_node (stored_in s i) n)
unfolding node_words stored_front
next-put s i n e = ap (next_put s i) e
