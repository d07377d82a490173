-- What holds of the boxes beside a site in which demand 3 holds, by the bytes that `hydra_read` writes for them.
-- Assumes nothing.
use mathlib.Core.Path.{◌≡◌, refl, sym, ap, ap₂, ◌∙◌, subst}
use mathlib.Core.Bool.{Bool, true, false, not, cond, ◌&&◌}
use mathlib.Core.Logic.{◌≢◌}
use mathlib.Core.List.{List, []}
use Prim.Native.Nat.{ℕ, ◌+◌, ◌-◌, ◌≤◌, ◌<◌}
use native.Mathlib.Omega.{arith}
use native.Mathlib.Decide.{dec_lt}
use borrow.Author.Tests.{eqb-true}
use lib.Dec.{eqb}
use lib.ListN.{length, get_or, length-replicate}
use Rattle.allotment.specs.Allotment.{owners_of, owner_of}
use Rattle.allotment.proofs.Schedules.{owner_at, owner-free}
use Rattle.allotment.specs.Model.{Schedule}
use Rattle.words.specs.Bits.{how_many}
use Rattle.node.specs.Figures.{negotiates}
use Rattle.node.specs.Negotiation.{packet_of, hear_answer}
use Rattle.node.specs.Distribution.{sent_by}
use Rattle.range.specs.Range.{in_range}
use Rattle.node.specs.Answers.{Answer}
use Rattle.node.specs.Answers.{Done, WrongSender, OwnPacket}
use Rattle.node.specs.declared.Setup.{Setup}
use Rattle.node.specs.declared.Phase.{Phase}
use Rattle.node.specs.declared.Phase.TheVariants.{Distribution}
use Rattle.node.specs.Model.{Node}
use Rattle.range.proofs.Lengths.{Lengths}
use Rattle.node.proofs.Laws as law
use Rattle.range.proofs.Laws as ranged
use Rattle.wire.specs.Layout.{packet_size, packet_bytes, packet_in, schedule_bytes}
use Rattle.wire.specs.Reads.{packet_answer, part_of}
use Rattle.wire.specs.Phases.{phase_byte}
use Rattle.area.specs.Area.{decoded, valid}
use Rattle.host.specs.Report.{report_size, report}
use Rattle.host.specs.Calls.{and_then, out_send, hearing_of, taking_of, ending_of, reading_of, out_read, slots_size, own_slots, slots_answer}
use Rattle.host.specs.Calls.{out_slots}
use Rattle.host.proofs.Nodes as host
use Rattle.host.proofs.Slots.{read_done, words-apart, slots-shown}
use Rattle.site.specs.Counts.{packets}
use Rattle.site.specs.Members.{member_at, is_live}
use Rattle.node.specs.declared.Config.{Config}
use Rattle.site.specs.Model.{Site}
use Rattle.histories.specs.Past.{Past}
use Rattle.agreement.specs.Demand.{Agree, Agreement, owner}
use Rattle.node.proofs.Tested.{send-done, take_in}
use Rattle.node.proofs.Phases.{by_tests}
use Rattle.histories.proofs.Members.{live-up, awake}
use Rattle.histories.proofs.Steady.{Steady, rests}
use Rattle.histories.proofs.Once.{kept-layout, heard-once}
use Rattle.histories.proofs.Always.{Kept}
use Rattle.boxes.specs.fleet.Fleet.{Box, zeros, reading, version_in, slot_in, request_in, box_phase, sender_in, live, sends}
use Rattle.boxes.specs.fleet.Claim.{ReportsAgree, Agreeing, SlotsAsRead, Working, Plain, Shows}
use Rattle.boxes.proofs.fleet.Boxes.{reading-is, sends-is, live-is, close-done}
use Rattle.boxes.proofs.fleet.Together.{fleet_of, Beside, at, fit, steady, talks, taken-bytes}

-- Reports

slot_is : (o : Node) → Lengths o → (k : ℕ) → slot_in (report o) k ≡ owner o k
slot_is o l k = ap (λ (y : List ℕ). get_or y k 0) (host.owners-in o l) ∙ sym (owner_at o.schedule k)

near-as : {y z v w : ℕ} → y ≡ v → z ≡ w → v ≤ w + 1 → y ≤ z + 1
near-as e f h = omega arith

module _ (m n : Node) (lm : Lengths m) (rm : in_range m ≡ true) (ln : Lengths n) (rn : in_range n ≡ true) where
  -- where the nodes agree, their reports do
  alike : Agree m n → ReportsAgree (report m) (report n)
  alike a =
      let p = host.version-in m rm in
      let q = host.version-in n rn in
      record {
        near = (near-as p q a.near.0, near-as q p a.near.1);
        same = λ e. host.owners-in m lm ∙ ap owners_of (a.same (sym p ∙ e ∙ q)) ∙ sym (host.owners-in n ln);
        slots = λ k y z. slot_is m lm k ∙ a.slots k (λ e. y (slot_is m lm k ∙ e)) (λ e. z (slot_is n ln k ∙ e)) ∙ sym (slot_is n ln k);
      }

-- a node that has a slot has a version above 0
owning : (n : Node) → Lengths n → in_range n ≡ true → (k : ℕ) → owner n k ≢ 0 → 0 < n.version
owning n l r k h = go (dec_lt 0 n.version)
  where
    go : Dec (0 < n.version) → 0 < n.version
    go (yes p) = p
    go (no p) = absurd (h (ap (λ (y : Schedule). owner_of y k) (ranged.zero-free n r l (omega arith)) ∙ owner-free k))

talks-byte : (p : Phase) → eqb (phase_byte p) 0 ≡ negotiates p
talks-byte = by_tests (λ (x : Phase) (w t s : Bool). eqb (phase_byte x) 0 ≡ t) refl refl (λ s. byte-rests s)
  where
    byte-rests : (s : Bool) → eqb (phase_byte (Distribution s)) 0 ≡ false
    byte-rests false = refl
    byte-rests true = refl

-- What holds of the boxes

module _ {f : Config} {past : Past} {s : Site} {area : List ℕ} {air : List (List ℕ)} {boxes : ℕ → Box} (h : Kept f past s area)
    (B : Beside s area air boxes) where
  module _ (j : ℕ) (l : 1 ≤ j) where
    is_up : (boxes j).up ≡ true → (member_at s j).up ≡ true
    is_up u = sym (at h.sound B j l).up ∙ u

    pub live-as : live (boxes j) ≡ is_live (member_at s j)
    live-as = live-is (at h.sound B j l) (fit h.sound B j)

    pub is_live_lem : live (boxes j) ≡ true → is_live (member_at s j) ≡ true
    is_live_lem v = sym live-as ∙ v

    up-live : live (boxes j) ≡ true → (member_at s j).up ≡ true
    up-live v = live-up (member_at s j) (is_live_lem v)

    reads : live (boxes j) ≡ true → reading (boxes j) ≡ report (member_at s j).node
    reads v = reading-is (at h.sound B j l) (fit h.sound B j) (up-live v)

    long : live (boxes j) ≡ true → Lengths (member_at s j).node
    long v = (fit h.sound B j).long (up-live v)

    range : live (boxes j) ≡ true → in_range (member_at s j).node ≡ true
    range v = (fit h.sound B j).range (up-live v)

    pub version_of : (v : live (boxes j) ≡ true) → version_in (reading (boxes j)) ≡ (member_at s j).node.version
    version_of v = ap version_in (reads v) ∙ host.version-in (member_at s j).node (range v)

    pub request-of : (v : live (boxes j) ≡ true) → request_in (reading (boxes j)) ≡ (member_at s j).node.request
    request-of v = ap request_in (reads v) ∙ host.request-in (member_at s j).node (long v)

    pub slot_of : (v : live (boxes j) ≡ true) (k : ℕ) → slot_in (reading (boxes j)) k ≡ owner (member_at s j).node k
    slot_of v k = ap (λ (r : List ℕ). slot_in r k) (reads v) ∙ slot_is (member_at s j).node (long v) k

    phase-of : (v : live (boxes j) ≡ true) → eqb (box_phase (reading (boxes j))) 0 ≡ s.negotiates
    phase-of v =
        ap (λ (r : List ℕ). eqb (box_phase r) 0) (reads v) ∙ ap (λ (y : ℕ). eqb y 0) (host.phase-in (member_at s j).node (long v))
        ∙ talks-byte (member_at s j).node.phase
        ∙ (steady h.sound B j (up-live v)).phase (awake (member_at s j) (is_live_lem v))

    heard-of : (v : live (boxes j) ≡ true) → s.negotiates ≡ true → (p : ℕ) → p < length air
        → hearing_of (boxes j).area (get_or air p []) ≡ cond (eqb (sender_in (get_or air p [])) j) OwnPacket Done
    unfolding packet_in
    heard-of v t p k =
        let n = (member_at s j).node in
        let q = part_of area p in
        let u = up-live v in
        let k' : p < packets s.sent = omega (arith, B.count) in
        let N : n.setup.config.nodes ≡ s.config.nodes = ap (λ (y : Setup). y.config.nodes) (steady h.sound B j u).setup in
        let d : packet_answer n.setup.config.nodes q ≡ Done =
        ap (λ (y : ℕ). packet_answer y q) N ∙ kept-layout h t j l (is_live_lem v) p k' in
        ap₂ hearing_of ((at h.sound B j l).area u) (B.parts p k) ∙ host.hear-answers n (long v) (range v) q
        (talks h.sound B j (is_live_lem v) t)
        ∙ ap (λ (y : Answer). and_then y (hear_answer n (packet_in q))) d ∙ heard-once h t j l (is_live_lem v) p k'
        ∙ ap (λ (y : List ℕ). cond (eqb (sender_in y) j) OwnPacket Done) (sym (B.parts p k))

    -- what a live box sent, taken by this one
    taken_of : (v : live (boxes j) ≡ true) → s.negotiates ≡ false → (i : ℕ) (k : 1 ≤ i) → live (boxes i) ≡ true → sends (boxes i) ≡ true
        → taking_of (boxes j).area (boxes i).out ≡ cond (sends (boxes j)) WrongSender Done
    taken_of v t i k w e =
        let u = up-live v in
        let n = (member_at s j).node in
        let M = at h.sound B i k in
        let x = live-up (member_at s i) (sym (live-is M (fit h.sound B i)) ∙ w) in
        let o : (boxes i).out ≡ schedule_bytes (sent_by (member_at s i).node) = M.sent x (sym (sends-is M (fit h.sound B i) x) ∙ e) in
        ap₂ taking_of ((at h.sound B j l).area u) o
        ∙ host.take-answers n (long v) (range v) _ (taken-bytes h.sound B j i u x).0
        ∙ take_in n (awake (member_at s j) (is_live_lem v)) ((steady h.sound B j u).phase (awake (member_at s j) (is_live_lem v)) ∙ t)
        ∙ ap (λ (b : Bool). cond b WrongSender Done) (sym (sends-is (at h.sound B j l) (fit h.sound B j) u))

    -- the call for the box's own slots
    number_is : (v : live (boxes j) ≡ true) → (decoded (boxes j).area).setup.node ≡ j
    number_is v =
        let u = up-live v in
        let e : j - 1 + 1 ≡ j = omega (arith, l) in
        ap (λ (a : List ℕ). (decoded a).setup.node) ((at h.sound B j l).area u)
        ∙ ap (λ (m : Node). m.setup.node) (host.back_is (member_at s j).node (long v) (range v))
        ∙ ap (λ (y : Setup). y.node) (steady h.sound B j u).setup ∙ e

    valid-of : (boxes j).up ≡ true → valid (boxes j).area ≡ true
    valid-of u =
        let v = is_up u in
        ap valid ((at h.sound B j l).area v) ∙ host.node-area (member_at s j).node ((fit h.sound B j).long v)
        ((fit h.sound B j).range v)

    read_of : (boxes j).up ≡ true → reading_of (boxes j).area (zeros report_size) ≡ Done
    read_of u = let e = length-replicate {A = ℕ} report_size 0 in read_done (boxes j).area (zeros report_size) (valid-of u)
        (omega (arith, e))

    box-up : live (boxes j) ≡ true → (boxes j).up ≡ true
    box-up v = (at h.sound B j l).up ∙ up-live v

    slots-of : (v : live (boxes j) ≡ true) → s.negotiates ≡ true → SlotsAsRead (boxes j) j
    slots-of v t =
        let a = (boxes j).area in
        let e = length-replicate {A = ℕ} slots_size 0 in
        let d : slots_answer a (zeros slots_size) ≡ Done =
        ap (λ (y : List ℕ). slots_answer y (zeros slots_size)) ((at h.sound B j l).area (up-live v))
        ∙ host.slots-answers (member_at s j).node (long v) (range v) (zeros slots_size) (omega (arith, e))
        (talks h.sound B j (is_live_lem v) t) in
        let r = read_of (box-up v) in
        record {
          answer = d;
          slots = λ k. slots-shown.own a (zeros slots_size) (zeros report_size) d r k
              ∙ ap (eqb (slot_in (reading (boxes j)) k)) (number_is v);
          count = slots-shown.counted a (zeros slots_size) (zeros report_size) d r
              ∙ ap (λ (y : ℕ). how_many 80 (λ k. eqb (slot_in (reading (boxes j)) k) y)) (number_is v);
        }

    only_of : (boxes j).up ≡ true → slots_answer (boxes j).area (zeros slots_size) ≡ Done → (live (boxes j) ≡ true) × (s.negotiates ≡ true)
    unfolding live
    only_of u d =
        let p : box_phase (reading (boxes j)) ≡ 0 = slots-shown.phase (boxes j).area (zeros slots_size) (zeros report_size) d (read_of u) in
        let v : live (boxes j) ≡ true = ap₂ (λ (t : Bool) (y : ℕ). t && not (eqb y 3)) u p in
        (v, sym (phase-of v) ∙ ap (λ (y : ℕ). eqb y 0) p)

  -- where the members agree in negotiation, no two live boxes read their own numbers at one slot
  single : (s.negotiates ≡ true → Agreement s) → s.negotiates ≡ true → (i j : ℕ) → 1 ≤ i → 1 ≤ j → live (boxes i) ≡ true
      → live (boxes j) ≡ true
      → (k : ℕ) → slot_in (reading (boxes i)) k ≡ i → slot_in (reading (boxes j)) k ≡ j → i ≡ j
  single agree t i j a b v w k p q =
      let x : owner (member_at s i).node k ≡ i = sym (slot_of i a v k) ∙ p in
      let y : owner (member_at s j).node k ≡ j = sym (slot_of j b w k) ∙ q in
      let x' : owner (member_at s i).node k ≢ 0 = λ e. omega arith in
      let y' : owner (member_at s j).node k ≢ 0 = λ e. omega arith in
      let both = agree t i j (is_live_lem i a v) (is_live_lem j b w)
      (owning (member_at s i).node (long i a v) (range i a v) k x') (owning (member_at s j).node (long j b w) (range j b w) k y') in
      sym x ∙ both.slots k x' y' ∙ y

  -- and the boxes agree
  pub agreeing : (s.negotiates ≡ true → Agreement s) → Agreeing (fleet_of s air boxes)
  agreeing agree =
      let one_site = single agree in
      record {
        agreement = λ t i j a b v w p q.
            let both = agree t i j (is_live_lem i a v) (is_live_lem j b w) (subst (λ (y : ℕ). 0 < y) (version_of i a v) p)
            (subst (λ (y : ℕ). 0 < y) (version_of j b w) q) in
            subst (λ (y : List ℕ). ReportsAgree y (reading (boxes j))) (sym (reads i a v))
            (subst (λ (y : List ℕ). ReportsAgree (report (member_at s i).node) y) (sym (reads j b w))
            (alike (member_at s i).node (member_at s j).node (long i a v) (range i a v) (long j b w) (range j b w) both));
        alone = one_site;
        masks = λ t i j a b v w ne.
            let p = slots-of i a v t in
            let q = slots-of j b w t in
            let z = words-apart (boxes i).area (boxes j).area (zeros slots_size) (zeros slots_size) p.answer q.answer
            (λ k x y. ne (one_site t i j a b v w k (eqb-true _ i (sym (p.slots k) ∙ x)) (eqb-true _ j (sym (q.slots k) ∙ y)))) in
            record { low = z.0; high = z.1 };
      }

  pub working : Working (fleet_of s air boxes)
  working =
      record {
        node = valid-of;
        closes = λ t j l v. close-done (at h.sound B j l) (fit h.sound B j) (up-live j l v) (talks h.sound B j (is_live_lem j l v) t);
        ends = λ t j l u.
            let v = is_up j l u in
            ap ending_of ((at h.sound B j l).area v) ∙ host.end-answers (member_at s j).node ((fit h.sound B j).long v)
            ((fit h.sound B j).range v)
            ∙ law.end-done (member_at s j).node (rests (resting j v t));
        phase = λ j l v. phase-of j l v;
        hears = λ t j p l v k. heard-of j l v t p k;
        takes = λ t i j l k v e w. taken_of j k w t i l v e;
        slots = λ t j l v. slots-of j l v t;
        slots-only = only_of;
      }
    where
      resting : (j : ℕ) → (member_at s j).up ≡ true → s.negotiates ≡ false
          → Steady s.config false s.place (j - 1) (member_at s j).node
      resting j v t = subst (λ (b : Bool). Steady s.config b s.place (j - 1) (member_at s j).node) t (steady h.sound B j v)

  pub plain : Plain (fleet_of s air boxes)
  plain =
      record {
        reads = λ j l u out e.
            let v = is_up j l u in
            ap (λ (a : List ℕ). out_read a out) ((at h.sound B j l).area v)
            ∙ host.read-writes (member_at s j).node ((fit h.sound B j).long v) ((fit h.sound B j).range v) out e
            ∙ sym (reading-is (at h.sound B j l) (fit h.sound B j) v);
        sends = λ t j l v out e. wrote j l v t out e ∙ sym (wrote j l v t (zeros packet_size) (length-replicate {A = ℕ} packet_size 0));
        slots = λ t j l v out e. told j l v t out e ∙ sym (told j l v t (zeros slots_size) (length-replicate {A = ℕ} slots_size 0));
      }
    where
      wrote : (j : ℕ) (l : 1 ≤ j) → live (boxes j) ≡ true → s.negotiates ≡ true → (out : List ℕ) → length out ≡ packet_size
          → out_send (boxes j).area out ≡ packet_bytes (packet_of (member_at s j).node)
      wrote j l v t out e =
          ap (λ (a : List ℕ). out_send a out) ((at h.sound B j l).area (up-live j l v))
          ∙ host.send-writes (member_at s j).node (long j l v) (range j l v) out e
          (send-done (member_at s j).node (talks h.sound B j (is_live_lem j l v) t))

      told : (j : ℕ) (l : 1 ≤ j) → live (boxes j) ≡ true → s.negotiates ≡ true → (out : List ℕ) → length out ≡ slots_size
          → out_slots (boxes j).area out ≡ own_slots (member_at s j).node
      told j l v t out e =
          ap (λ (a : List ℕ). out_slots a out) ((at h.sound B j l).area (up-live j l v))
          ∙ host.slots-writes (member_at s j).node (long j l v) (range j l v) out e (talks h.sound B j (is_live_lem j l v) t)

  pub shows : (j : ℕ) → 1 ≤ j → Shows (member_at s j) (boxes j)
  shows j l =
      record {
        up = (at h.sound B j l).up;
        live = live-as j l;
        area = λ u. (at h.sound B j l).area (is_up j l u);
      }
