-- A field beside a site: each event leaves them beside one another.
-- Assumes nothing.
use mathlib.Core.Path.{◌≡◌, refl, sym, ap, ap₂, ◌∙◌, subst}
use mathlib.Core.Bool.{Bool, true, false, not, cond}
use mathlib.Core.Logic.{⊎_elim}
use mathlib.Core.List.{List, [], ◌∷◌, ◌++◌}
use Prim.Native.Nat.{ℕ, suc, ◌+◌, ◌-◌, ◌≤◌, ◌<◌}
use native.Mathlib.Omega.{arith}
use native.Mathlib.Nat.{eq-or-lt_of_le, le_of_suc-le-suc, not-suc-le-zero}
use borrow.Author.Tests.{eqb-true, eqb-false, le-ltb}
use lib.Dec.{eqb}
use lib.ListN.{length, get_or, set, length-set, length-map, length-append, length-replicate, get_or-append, get_or-map}
use lib.Seq.{get_or_at, get_or-set_same, get_or-set_other}
use Rattle.lists.proofs.Laws.{length-tab}
use Rattle.allotment.specs.Allotment.{top_request, owners_of}
use Rattle.node.specs.Answers.{is_done}
use Rattle.node.specs.Figures.{negotiates}
use Rattle.node.specs.Negotiation.{packet_of, hear_answer}
use Rattle.node.specs.Distribution.{sent_by, taken_node}
use Rattle.node.specs.Steps.{close_outcome, end_outcome}
use Rattle.node.specs.Model.{Node}
use Rattle.node.specs.declared.Packet.{Packet}
use Rattle.node.specs.Model.{Versioned}
use Rattle.node.specs.Answers.{Answer}
use Rattle.node.specs.Answers.{Done}
use Rattle.node.proofs.Answers.{done-is}
use Rattle.node.proofs.Laws as law
use Rattle.range.proofs.Laws as ranged
use Rattle.wire.specs.Layout.{packet_size, schedule_size, packet_bytes, packet_in, schedule_bytes, schedule_in}
use Rattle.wire.specs.Reads.{packet_answer, part_of, placed, has_part}
use Rattle.wire.proofs.Laws as wire
use Rattle.area.specs.Area.{node_size}
use Rattle.host.specs.Calls.{and_then, out_send, hearing_of, after_hear, ground_size, after_close, out_close, taking_of, after_take, after_end}
use Rattle.host.specs.Calls.{wanting_of, after_want, after_restart}
use Rattle.host.proofs.Nodes as host
use Rattle.site.specs.Counts.{top_sent, sent_of, packets}
use Rattle.site.specs.Members.{nobody, setup_of, header_of, member_at, outside, is_live, with_node, put}
use Rattle.site.specs.Parts.{packet_part}
use Rattle.site.specs.Answers.{site_want, site_crash, site_restart, answer_of}
use Rattle.site.specs.Steps.{sent_site, sent_area, heard_site, close_member, closed_site, taken_site, end_member, ended_site, wanted_site}
use Rattle.site.specs.Steps.{crashed_site, restarted_site, next_site, next_area, site_after, area_after}
use Rattle.site.specs.Model.{Member}
use Rattle.site.specs.Model.{Site}
use Rattle.site.specs.declared.Event.{Event}
use Rattle.site.specs.declared.Event.TheVariants.{Send, Hear, Close, Take, End, Want, Crash, Restart}
use Rattle.site.proofs.Counts.{packets-none, packets-more, area-placed}
use Rattle.site.proofs.Accepted.{Acts, Hears, Takes, answered, send-accepted, hear-accepted, close-accepted, take-accepted, end-accepted}
use Rattle.site.proofs.Accepted.{want-accepted, crash-accepted, restart-accepted}
use Rattle.node.proofs.Bounds.{bounds}
use Rattle.node.proofs.Tested.{send-done}
use Rattle.histories.proofs.Members.{inside, live-up, awake}
use Rattle.histories.proofs.Steady.{Steady, rests}
use Rattle.histories.proofs.Sound as sound
use Rattle.histories.proofs.Sound.{Sound, below-32, send-room}
use Rattle.boxes.specs.fleet.Fleet.{Box, Fleet, Act, zeros, live, sends, packet, box_holding, change, close_box, end_box, crashed}
use Rattle.boxes.specs.fleet.Fleet.{next_fleet}
use Rattle.boxes.specs.fleet.Fleet.{fleet_after}
use Rattle.boxes.proofs.fleet.Boxes.{Match, Fit, live-is, hear-box, take-box, end-box, want-box, close-box, down-box, restart-box}
use Rattle.boxes.proofs.fleet.Together.{fleet_of, Beside, Together, at, fit, talks, nodes-is, packet-is, taken-bytes, restarts}
use Rattle.boxes.proofs.fleet.Answers.{same_answer}

-- a live box closes, and a box that is up ends its round, as its member
close-one : {m : Member} {b : Box} → Match m b → Fit m → (is_live m ≡ true → negotiates m.node.phase ≡ true)
    → Match (close_member m) (close_box b)
close-one {m} {b} M F f = subst (λ (v : Bool). Match (close_member m) (cond v shut b)) (sym (live-is M F)) (go (is_live m) refl)
  where
    shut : Box
    shut = record {
      up = b.up;
      area = after_close b.area b.out (zeros ground_size);
      out = out_close b.area b.out (zeros ground_size);
    }

    go : (v : Bool) → is_live m ≡ v → Match (cond v (with_node m (close_outcome m.node)) m) (cond v shut b)
    go true l = subst (λ (n : Node). Match (with_node m n) shut) (sym (law.close-is m.node (f l))) (close-box M F (live-up m l) (f l))
    go false l = M

end-one : {m : Member} {b : Box} → Match m b → Fit m → (m.up ≡ true → negotiates m.node.phase ≡ false) → Match (end_member m) (end_box b)
end-one {m} {b} M F f = subst (λ (v : Bool). Match (end_member m) (cond v (box_holding b (after_end b.area)) b)) (sym M.up)
    (go m.up refl)
  where
    go : (v : Bool) → m.up ≡ v → Match (cond v (with_node m (end_outcome m.node)) m) (cond v (box_holding b (after_end b.area)) b)
    go true u = subst (λ (n : Node). Match (with_node m n) (box_holding b (after_end b.area))) (sym (law.end_is m.node (f u)))
        (end-box M F u (f u))
    go false u = M

module _ {s : Site} {area : List ℕ} {sent : List Packet} {air : List (List ℕ)} {boxes : ℕ → Box} (S : Sound s area sent)
    (B : Beside s area air boxes) where
  abbrev x : Fleet
  x = fleet_of s air boxes

  -- the calls of accepted events are done

  heard-done : (j p : ℕ) → Hears s area j p → hearing_of (boxes j).area (packet_part (header_of s) area p) ≡ Done
  heard-done j p h =
      let a = h.acts in
      let m = member_at s j in
      let u = live-up m a.live in
      let q = packet_part (header_of s) area p in
      let e = sound.hear-is j p S h in
      let k = sound.part-accepted (bounds s.config S.config).nodes-to (S.parts (p - 1) e.0) in
      ap (λ (y : List ℕ). hearing_of y q) ((at S B j (inside s j a.node).0).area u)
      ∙ host.hear-answers m.node ((fit S B j).long u) ((fit S B j).range u) q (talks S B j a.live a.phase)
      ∙ ap (λ (N : ℕ). and_then (packet_answer N q) (hear_answer m.node (packet_in q))) (nodes-is S B j u)
      ∙ ap₂ and_then k h.answer

  taken-done : (j i : ℕ) → Takes s j i → taking_of (boxes j).area (boxes i).out ≡ Done
  taken-done j i a =
      let m = member_at s j in
      let n = member_at s i in
      let u = live-up m a.live in
      let w = live-up n a.other in
      ap₂ taking_of ((at S B j (inside s j a.taker).0).area u) ((at S B i (inside s i a.sender).0).sent w a.sends)
      ∙ host.take-answers m.node ((fit S B j).long u) ((fit S B j).range u) (schedule_bytes (sent_by n.node))
      (taken-bytes S B j i u w).0 ∙ a.answer

  wanted-done : (j d : ℕ) → site_want s j d ≡ Done → wanting_of (boxes j).area d ≡ Done
  wanted-done j d h =
      let a = want-accepted s j d h in
      let u = a.0.up in
      ap (λ (y : List ℕ). wanting_of y d) ((at S B j (inside s j a.0.node).0).area u)
      ∙ host.want-answers (member_at s j).node ((fit S B j).long u) ((fit S B j).range u) d (le-ltb top_request d a.1)

  -- The events

  fits : (i : ℕ) → Fit (get_or s.members i nobody)
  fits i = record { long = λ u. ((S.each i).up u).long; range = λ u. ((S.each i).up u).range }

  -- another member, and the box of its number
  put-beside : (j : ℕ) (m : Member) (b : Box) → outside s.config j ≡ false → Match m b
      → Beside (put s j m) area air (change x j b).boxes
  put-beside j m b o M =
      record {
        members = length-set s.members (j - 1) m ∙ B.members;
        lent = B.lent;
        count = B.count;
        parts = B.parts;
        each = λ i. go i (eqb (suc i) j) refl;
      }
    where
      within : (1 ≤ j) × (j ≤ s.config.nodes)
      within = inside s j o

      there : j - 1 < length s.members
      there = omega (arith, within.0, within.1, (bounds s.config S.config).nodes-to, B.members)

      go : (i : ℕ) (t : Bool) → eqb (suc i) j ≡ t → Match (get_or (set s.members (j - 1) m) i nobody) (cond t b (boxes (suc i)))
      go i true e =
          let k : i ≡ j - 1 = omega (arith, eqb-true (suc i) j e) in
          subst (λ (y : Member). Match y b) (sym (ap (λ (h : ℕ). get_or (set s.members (j - 1) m) h nobody) k
          ∙ get_or-set_same s.members (j - 1) m nobody there)) M
      go i false e =
          let k = eqb-false (suc i) j e in
          subst (λ (y : Member). Match y (boxes (suc i))) (sym (get_or-set_other s.members (j - 1) i m nobody
          (λ q. k (omega (arith, q, within.0))))) (B.each i)

  -- the packet that is sent is the last of the air, and lies in the next part
  send-beside : (j : ℕ) → Acts s j → sent_of s.sent j < top_sent
      → Beside (sent_site s j) (sent_area s area j) (air ++ (out_send (boxes j).area (zeros packet_size) ∷ [])) boxes
  unfolding sent_site
  send-beside j a l =
      subst (λ (y : List ℕ). Beside (sent_site s j) y (air ++ (packet_now ∷ [])) boxes) (sym (area-placed s area j room))
      (record {
        members = B.members;
        lent = let h = B.lent in let k = wire.length-placed area (packets s.sent) q long room in omega arith;
        count = length-append air (packet_now ∷ []) ∙ ap (λ (k : ℕ). k + 1) B.count
            ∙ sym (packets-more s.sent j (omega (arith, S.counters.long, below-32 s j S a)));
        parts = λ p k. ⊎_elim (λ e. newest p e) (λ h. older p h) (eq-or-lt_of_le (le_of_suc-le-suc (up p k)));
        each = B.each;
      })
    where
      m : Member
      m = member_at s j

      u : (member_at s j).up ≡ true
      u = live-up (member_at s j) a.live

      q : Packet
      q = packet_of (member_at s j).node

      packet_now : List ℕ
      packet_now = out_send (boxes j).area (zeros packet_size)

      long : length (packet_of (member_at s j).node).requests ≡ 32
      long = ranged.packet-long (member_at s j).node ((fit S B j).long u)

      room : has_part area (packets s.sent) ≡ true
      room = send-room j S a l B.lent

      bytes-are : packet_now ≡ packet_bytes q
      bytes-are =
          ap (λ (y : List ℕ). out_send y (zeros packet_size)) ((at S B j (inside s j a.node).0).area u)
          ∙ host.send-writes (member_at s j).node ((fit S B j).long u) ((fit S B j).range u) (zeros packet_size)
          (length-replicate {A = ℕ} packet_size 0) (send-done (member_at s j).node (talks S B j a.live a.phase))

      up : (p : ℕ) → p < length (air ++ (packet_now ∷ [])) → suc p ≤ suc (length air)
      up p k = let e : length (air ++ (packet_now ∷ [])) ≡ length air + 1 = length-append air (packet_now ∷ []) in omega arith

      newest : (p : ℕ) → p ≡ length air → get_or (air ++ (packet_now ∷ [])) p [] ≡ part_of (placed area (packets s.sent) q) p
      newest p e = get_or_at air packet_now [] [] p (sym e) ∙ bytes-are
          ∙ sym (ap (part_of (placed area (packets s.sent) q)) (e ∙ B.count) ∙ wire.same-part area (packets s.sent) q long room)

      older : (p : ℕ) → p < length air → get_or (air ++ (packet_now ∷ [])) p [] ≡ part_of (placed area (packets s.sent) q) p
      older p h = get_or-append air (packet_now ∷ []) [] p h ∙ B.parts p h
          ∙ sym (wire.other-part area (packets s.sent) q long room p (λ e. omega (arith, B.count)))

  hear-beside : (j p : ℕ) → Hears s area j p → hearing_of (boxes j).area (packet_part (header_of s) area p) ≡ Done
      → Beside (heard_site s area j p) area air (change x j (box_holding (boxes j)
      (after_hear (boxes j).area (packet_part (header_of s) area p)))).boxes
  unfolding heard_site
  hear-beside j p h d =
      let a = h.acts in
      let m = member_at s j in
      put-beside j _ _ a.node (hear-box (at S B j (inside s j a.node).0) (fit S B j) (live-up m a.live)
      (packet_part (header_of s) area p) (talks S B j a.live a.phase) d)

  -- the packets lapse, and each live box closes
  close-beside : s.negotiates ≡ true → Beside (closed_site s) area [] (λ k. close_box (boxes k))
  unfolding closed_site
  close-beside t =
      record {
        members = length-map s.members close_member ∙ B.members;
        lent = B.lent;
        count = sym packets-none;
        parts = λ p k. absurd (not-suc-le-zero k);
        each = λ i. rw (get_or-map close_member s.members i nobody)
            (close-one (B.each i) (fits i) (λ l. ((S.each i).up (live-up (get_or s.members i nobody) l)).phase
            (awake (get_or s.members i nobody) l) ∙ t));
      }

  take-beside : (j i : ℕ) → Takes s j i → taking_of (boxes j).area (boxes i).out ≡ Done
      → Beside (taken_site s j i) area air (change x j (box_holding (boxes j) (after_take (boxes j).area (boxes i).out))).boxes
  unfolding taken_site
  take-beside j i a d =
      let m = member_at s j in
      let n = member_at s i in
      let u = live-up m a.live in
      let w = live-up n a.other in
      let q = (boxes i).out in
      let e : q ≡ schedule_bytes (sent_by n.node) = (at S B i (inside s i a.sender).0).sent w a.sends in
      let f : schedule_in q ≡ sent_by n.node = ap schedule_in e ∙ (taken-bytes S B j i u w).1 in
      let l : length (owners_of (schedule_in q).schedule) ≡ 80 = ap (λ (y : Versioned). length (owners_of y.schedule)) f
      ∙ host.sent-long n.node ((fit S B i).long w) in
      put-beside j _ _ a.taker
      (subst (λ (y : Versioned). Match (with_node m (taken_node m.node y)) (box_holding (boxes j) (after_take (boxes j).area q))) f
      (take-box (at S B j (inside s j a.taker).0) (fit S B j) u q a.answer d l))

  end-beside : s.negotiates ≡ false → Beside (ended_site s) area [] (λ k. end_box (boxes k))
  unfolding ended_site
  end-beside t =
      record {
        members = length-map s.members end_member ∙ B.members;
        lent = B.lent;
        count = sym packets-none;
        parts = λ p k. absurd (not-suc-le-zero k);
        each = λ i. rw (get_or-map end_member s.members i nobody)
            (end-one (B.each i) (fits i) (λ u. rests (subst (λ (b : Bool). Steady s.config b s.place i
            (get_or s.members i nobody).node) t ((S.each i).up u))));
      }

  want-beside : (j d : ℕ) → site_want s j d ≡ Done → wanting_of (boxes j).area d ≡ Done
      → Beside (wanted_site s j d) area air (change x j (box_holding (boxes j) (after_want (boxes j).area d))).boxes
  unfolding wanted_site
  want-beside j d h e =
      let a = (want-accepted s j d h).0 in
      put-beside j _ _ a.node (want-box (at S B j (inside s j a.node).0) (fit S B j) a.up d e)

  crash-beside : (j : ℕ) (left : List ℕ) → site_crash s j ≡ Done → Beside (crashed_site s j) area air (change x j (crashed left)).boxes
  unfolding crashed_site
  crash-beside j left h = put-beside j _ _ (crash-accepted s j h).node
      (down-box refl refl (length-tab node_size _) (length-tab schedule_size _))

  restart-beside : (j flags : ℕ) → site_restart s j flags ≡ Done
      → Beside (restarted_site s j flags) area air (change x j (record {
        up = true;
        area = after_restart (boxes j).area (setup_of s.config j) flags s.place;
        out = (boxes j).out;
      })).boxes
  unfolding restarted_site
  restart-beside j flags h =
      let a = restart-accepted s j flags h in
      let M = at S B j (inside s j a.node).0 in
      put-beside j _ _ a.node (restart-box (boxes j) (setup_of s.config j) flags s.place M.room
      (restarts S B j flags a.node a.flags))

  -- each accepted event
  accept : (e : Event) (left : List ℕ) → answer_of s area e ≡ Done → Together (next_site s area e) (next_area s area e) (next_fleet x e left)
  unfolding sent_site heard_site closed_site taken_site ended_site wanted_site crashed_site restarted_site
  accept (Send j) left d =
      let a = send-accepted s j (answered s area (Send j) d).1 in
      record { air = _; boxes = boxes; is = refl; beside = send-beside j a.0 a.1 }
  accept (Hear j p) left d =
      let h = hear-accepted s area j p (answered s area (Hear j p) d).1 in
      let l = (inside s j h.acts.node).0 in
      let m = member_at s j in
      let u = live-up m h.acts.live in
      let q = packet_part (header_of s) area p in
      let k : hearing_of (boxes j).area q ≡ Done = heard-done j p h in
      record {
        air = air;
        boxes = _;
        is = ap (λ (y : List ℕ). change x j (box_holding (boxes j) (after_hear (boxes j).area y))) (packet-is S B p h.from h.to);
        beside = hear-beside j p h k;
      }
  accept Close left d = record { air = []; boxes = _; is = refl; beside = close-beside (close-accepted s (answered s area Close d).1) }
  accept (Take j i) left d =
      let h = (answered s area (Take j i) d).1 in
      record { air = air; boxes = _; is = refl; beside = take-beside j i (take-accepted s j i h) (taken-done j i (take-accepted s j i h)) }
  accept End left d = record { air = []; boxes = _; is = refl; beside = end-beside (end-accepted s (answered s area End d).1) }
  accept (Want j v) left d =
      let h = (answered s area (Want j v) d).1 in
      record { air = air; boxes = _; is = refl; beside = want-beside j v h (wanted-done j v h) }
  accept (Crash j) left d = record { air = air; boxes = _; is = refl; beside = crash-beside j left (answered s area (Crash j) d).1 }
  accept (Restart j flags) left d = record {
    air = air;
    boxes = _;
    is = refl;
    beside = restart-beside j flags (answered s area (Restart j flags) d).1;
  }

  -- each event, refused or not
  pub event-together : (a : Act) → Together (site_after s area a.event) (area_after s area a.event) (fleet_after x a)
  unfolding site_after area_after fleet_after
  event-together a =
      subst (λ (y : Answer). Together (site_after s area a.event) (area_after s area a.event)
      (cond (is_done y) (next_fleet x a.event a.left) x)) (sym (same_answer S B a.event))
      (go (is_done (answer_of s area a.event)) refl)
    where
      go : (t : Bool) → is_done (answer_of s area a.event) ≡ t
          → Together (cond t (next_site s area a.event) s) (cond t (next_area s area a.event) area)
          (cond t (next_fleet x a.event a.left) x)
      go true d = accept a.event a.left (done-is _ d)
      go false d = record { air = air; boxes = boxes; is = refl; beside = B }
