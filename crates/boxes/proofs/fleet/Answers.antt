-- A field beside a site gives every event the same answer.
-- Assumes nothing.
use mathlib.Core.Path.{◌≡◌, refl, sym, ap, ap₂, ◌∙◌}
use mathlib.Core.Bool.{Bool, true, false, not, cond, ◌&&◌, ◌||◌}
use mathlib.Core.List.{List}
use Prim.Native.Nat.{ℕ, ◌-◌, ◌≤◌}
use native.Mathlib.Omega.{arith}
use borrow.Author.Tests.{leb-true, le-ltb, not-false}
use lib.Dec.{ltb, leb}
use lib.ListN.{length, length-replicate}
use Rattle.words.proofs.Tests.{skip, past-test, at_test, and_left, and_right, or-neither}
use Rattle.node.specs.Figures.{negotiates, sending}
use Rattle.node.specs.Negotiation.{hear_answer}
use Rattle.node.specs.Distribution.{sent_by, take_answer}
use Rattle.node.specs.declared.Packet.{Packet}
use Rattle.node.specs.Answers.{Answer}
use Rattle.node.specs.Answers.{Done, NoSuchNode, WrongPhase, NotLive, NotDown, TooManyPackets, NoSuchPacket}
use Rattle.node.specs.Answers.{WrongSender, NoRoom}
use Rattle.node.proofs.Tested.{take-sends}
use Rattle.wire.specs.Layout.{packet_size, packet_in, schedule_bytes}
use Rattle.wire.specs.Reads.{packet_answer}
use Rattle.host.specs.Calls.{and_then, restarting, sending_of, hearing_of, taking_of, wanting_of}
use Rattle.host.proofs.Nodes as host
use Rattle.site.specs.Counts.{top_sent, sent_of, packets}
use Rattle.site.specs.Members.{setup_of, header_of, member_at, outside, is_live}
use Rattle.site.specs.Parts.{packet_part}
use Rattle.site.specs.Answers.{area_size, answer_part, site_send, site_hear, site_close, site_take, site_end, site_want, site_crash, site_restart}
use Rattle.site.specs.Answers.{event_answer, answer_of}
use Rattle.site.specs.Model.{Site}
use Rattle.site.specs.declared.Event.{Event}
use Rattle.site.specs.declared.Event.TheVariants.{Send, Hear, Close, Take, End, Want, Crash, Restart}
use Rattle.histories.proofs.Members.{inside, live-up}
use Rattle.histories.proofs.Sound.{Sound}
use Rattle.boxes.specs.fleet.Fleet.{Box, Fleet, zeros, sends, packet, acting, fleet_send, fleet_hear, fleet_take, fleet_want, fleet_crash}
use Rattle.boxes.specs.fleet.Fleet.{fleet_restart, fleet_answer}
use Rattle.boxes.proofs.fleet.Boxes.{live-is, sends-is}
use Rattle.boxes.proofs.fleet.Together.{fleet_of, Beside, at, fit, talks, nodes-is, packet-is, taken-bytes, restarts}

-- a node that sends refuses a taking as 10, so the host program need not test the taker
either-sends : (a b : Bool) (r : Answer) → (a ≡ true → r ≡ WrongSender) → cond (not b) WrongSender r ≡ cond (a || not b) WrongSender r
either-sends true true r h = h refl
either-sends true false r h = refl
either-sends false b r h = refl

module _ {s : Site} {area : List ℕ} {sent : List Packet} {air : List (List ℕ)} {boxes : ℕ → Box} (S : Sound s area sent)
    (B : Beside s area air boxes) where
  abbrev x : Fleet
  x = fleet_of s air boxes

  -- 3, 4, 5 of a send or a hearing
  acting-is : (j : ℕ) (a b : Answer) → (1 ≤ j → s.negotiates ≡ true → is_live (member_at s j) ≡ true → a ≡ b)
      → acting x j a ≡ cond (outside s.config j) NoSuchNode (cond (not s.negotiates) WrongPhase
      (cond (not (is_live (member_at s j))) NotLive b))
  acting-is j a b f =
      past-test _ _ _ _
      (λ o. past-test _ _ _ _
      (λ t.
      let l = (inside s j o).0 in
      ap (λ (v : Bool). cond (not v) NotLive a) (live-is (at S B j l) (fit S B j))
      ∙ past-test _ _ _ _ (λ v. f l (not-false _ t) (not-false _ v))))

  answer-send : (j : ℕ) → fleet_send x j ≡ site_send s j
  unfolding fleet_send site_send
  answer-send j =
      acting-is j _ _
      (λ l t v.
      let m = member_at s j in
      let u = live-up m v in
      let e = length-replicate {A = ℕ} packet_size 0 in
      let done = host.send-answers m.node ((fit S B j).long u) ((fit S B j).range u) (zeros packet_size) (omega arith) in
      past-test (leb top_sent (sent_of s.sent j)) TooManyPackets _ _ (λ _. ap (λ (a : List ℕ). sending_of a (zeros packet_size))
      ((at S B j l).area u) ∙ done))

  answer-hear : (j p : ℕ) → fleet_hear x j p ≡ site_hear s area j p
  unfolding fleet_hear site_hear answer_part
  answer-hear j p =
      acting-is j _ _
      (λ l t v.
      let m = member_at s j in
      let u = live-up m v in
      let q = packet_part (header_of s) area p in
      ap (λ (k : ℕ). cond (not (leb 1 p && leb p k)) NoSuchPacket (hearing_of (boxes j).area (packet x p))) B.count
      ∙ past-test _ _ _ _
      (λ h.
      let z : (leb 1 p && leb p (packets s.sent)) ≡ true = not-false _ h in
      let e = packet-is S B p (leb-true 1 p (and_left (leb 1 p) (leb p (packets s.sent)) z))
      (leb-true p (packets s.sent) (and_right (leb 1 p) (leb p (packets s.sent)) z)) in
      ap₂ hearing_of ((at S B j l).area u) e ∙ host.hear-answers m.node ((fit S B j).long u) ((fit S B j).range u) q (talks S B j v t)
      ∙ ap (λ (N : ℕ). and_then (packet_answer N q) (hear_answer m.node (packet_in q))) (nodes-is S B j u)))

  answer-take : (j i : ℕ) → fleet_take x j i ≡ site_take s j i
  unfolding fleet_take site_take
  answer-take j i =
      past-test _ _ _ _
      (λ o. past-test s.negotiates WrongPhase _ _
      (λ t.
      let m = member_at s j in
      let n = member_at s i in
      let out = or-neither (outside s.config j) (outside s.config i) o in
      let M = at S B j (inside s j out.0).0 in
      let O = at S B i (inside s i out.1).0 in
      let taking = taking_of (boxes j).area (boxes i).out in
      ap₂ (λ (p q : Bool). cond (not p || not q) NotLive (cond (not (sends (boxes i))) WrongSender taking)) (live-is M (fit S B j))
      (live-is O (fit S B i))
      ∙ past-test _ _ _ _
      (λ v.
      let lives = or-neither (not (is_live m)) (not (is_live n)) v in
      let u = live-up m (not-false _ lives.0) in
      let w = live-up n (not-false _ lives.1) in
      let bytes = schedule_bytes (sent_by n.node) in
      ap (λ (q : Bool). cond (not q) WrongSender taking) (sends-is O (fit S B i) w)
      ∙ past-test _ _ _ _
      (λ z. ap₂ taking_of (M.area u) (O.sent w (not-false _ z)) ∙ host.take-answers m.node ((fit S B j).long u) ((fit S B j).range u)
      bytes (taken-bytes S B j i u w).0)
      ∙ either-sends (sending m.node.phase) (sending n.node.phase) (take_answer m.node) (take-sends m.node))))

  answer-want : (j d : ℕ) → fleet_want x j d ≡ site_want s j d
  unfolding fleet_want site_want
  answer-want j d =
      past-test _ _ _ _
      (λ r. past-test _ _ _ _
      (λ o.
      let M = at S B j (inside s j o).0 in
      ap (λ (t : Bool). cond t (wanting_of (boxes j).area d) NotLive) M.up
      ∙ at_test _ _ _ _ (λ u. ap (λ (a : List ℕ). wanting_of a d) (M.area u)
      ∙ host.want-answers (member_at s j).node ((fit S B j).long u) ((fit S B j).range u) d r)))

  answer-crash : (j : ℕ) → fleet_crash x j ≡ site_crash s j
  unfolding fleet_crash site_crash
  answer-crash j = past-test _ _ _ _ (λ o. ap (λ (t : Bool). cond t Done NotLive) (at S B j (inside s j o).0).up)

  answer-restart : (j flags : ℕ) → fleet_restart x j flags ≡ site_restart s j flags
  unfolding fleet_restart site_restart
  answer-restart j flags =
      at_test _ _ _ _
      (λ g. past-test _ _ _ _
      (λ o.
      let M = at S B j (inside s j o).0 in
      ap (λ (t : Bool). cond t NotDown (restarting (boxes j).area (setup_of s.config j) flags s.place)) M.up
      ∙ past-test (member_at s j).up NotDown _ _ (λ _. restarts S B j flags o g)))

  answers : (e : Event) → fleet_answer x e ≡ event_answer s area e
  unfolding site_close site_end
  answers (Send j) = answer-send j
  answers (Hear j p) = answer-hear j p
  answers Close = refl
  answers (Take j i) = answer-take j i
  answers End = refl
  answers (Want j d) = answer-want j d
  answers (Crash j) = answer-crash j
  answers (Restart j flags) = answer-restart j flags

  pub same_answer : (e : Event) → fleet_answer x e ≡ answer_of s area e
  unfolding answer_of
  same_answer e = answers e ∙ sym (skip (ltb (length area) area_size) NoRoom (event_answer s area e) _
      (le-ltb (length area) area_size B.lent) refl)
