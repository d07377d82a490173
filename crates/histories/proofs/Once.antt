-- In a round no node is known with two requests, so no hearing of a packet of the phase is refused as 13; nor as 11 or 12, since its part
-- holds what was sent.
-- Assumes nothing.
use mathlib.Core.Path.{◌≡◌, refl, sym, ap, ap₂, ◌∙◌}
use mathlib.Core.Bool.{true, false, not, cond}
use mathlib.Core.Logic.{◌⊎◌, inl, inr}
use mathlib.Core.List.{List}
use Prim.Native.Nat.{ℕ, ◌-◌, ◌≤◌, ◌<◌}
use native.Mathlib.Omega.{arith}
use borrow.Author.Tests.{eq-eqb, leb-true, not-false}
use lib.Dec.{eqb, ltb, leb}
use lib.ListN.{length, get_or}
use Rattle.words.proofs.Tests.{past-test, and_left, and_right, or-front, or-back}
use Rattle.lists.proofs.Laws.{all-make}
use Rattle.allotment.specs.Allotment.{top_request}
use Rattle.membership.specs.requests.Requests.{none, agree_at, agree}
use Rattle.node.specs.Answers.{is_done}
use Rattle.node.specs.Negotiation.{hear_answer}
use Rattle.node.specs.declared.Setup.{Setup}
use Rattle.node.specs.Model.{Node}
use Rattle.node.specs.declared.Packet.{Packet}
use Rattle.node.specs.Answers.{Answer}
use Rattle.node.specs.Answers.{Done, NoSuchNode, WrongPhase, NotLive, NoSuchPacket, OwnPacket, NoRoom}
use Rattle.node.proofs.Tested.{hear-agreed}
use Rattle.wire.specs.Layout.{packet_in}
use Rattle.wire.specs.Reads.{packet_answer, part_of}
use Rattle.site.specs.Counts.{packets}
use Rattle.site.specs.Members.{header_of, member_at, outside, is_live}
use Rattle.site.specs.Parts.{packet_part}
use Rattle.site.specs.Answers.{area_size, is_packet, answer_part, site_hear, answer_of}
use Rattle.node.specs.declared.Config.{Config}
use Rattle.site.specs.Model.{Site}
use Rattle.site.specs.declared.Event.TheVariants.{Hear}
use Rattle.node.proofs.Bounds.{bounds}
use Rattle.histories.specs.Past.{Past}
use Rattle.histories.specs.Hearing.{plain_hear, HeardOnce}
use Rattle.histories.proofs.Members.{member, inside, live-up, awake}
use Rattle.histories.proofs.Views.{View, view_of, view_in, Start, Good}
use Rattle.histories.proofs.Starts.{start_of, Flagged}
use Rattle.histories.proofs.Sound.{no_packet, part-packet, part-accepted}
use Rattle.histories.proofs.Always.{Kept, always}

-- two views of a round have the requests of its start
views-agree : (N : ℕ) (G : Start) (a q : View) → Good N G a → Good N G q → agree a.R q.R ≡ true
unfolding agree
views-agree N G a q A Q = all-make 32 (λ i. agree_at (get_or a.R i 0) (get_or q.R i 0))
    (λ i l. one i l (A.tidy.each i l) (Q.tidy.each i l))
  where
    Entry : List ℕ → ℕ → Type 0
    Entry R i = (get_or R i 0 ≡ none) ⊎ (get_or R i 0 ≤ top_request)

    one : (i : ℕ) → i < 32 → Entry a.R i → Entry q.R i → agree_at (get_or a.R i 0) (get_or q.R i 0) ≡ true
    one i l (inl e) y = or-front (eqb (get_or a.R i 0) none) _ (eq-eqb _ _ e)
    one i l (inr e) (inl f) = or-back (eqb (get_or a.R i 0) none) _ (or-front (eqb (get_or q.R i 0) none) _ (eq-eqb _ _ f))
    one i l (inr e) (inr f) =
        let x = A.req (record { in_r = l; at = refl; small = e }) in
        let y = Q.req (record { in_r = l; at = refl; small = f }) in
        or-back (eqb (get_or a.R i 0) none) _ (or-back (eqb (get_or q.R i 0) none) _ (eq-eqb _ _ (x ∙ sym y)))

module _ {f : Config} {past : Past} {s : Site} {area : List ℕ} (h : Kept f past s area) (t : s.negotiates ≡ true) (j : ℕ) (one : 1 ≤ j)
    (l : is_live (member_at s j) ≡ true) where
  abbrev hearer : Node
  hearer = (member_at s j).node

  -- the bytes of a packet of the phase keep the layout, and a live node answers 0 to it, or 9 to its own
  module _ (p : ℕ) (k : p < packets s.sent) where
    there : p < length h.air
    there = omega (arith, h.sound.count, k)

    pub kept-layout : packet_answer s.config.nodes (part_of area p) ≡ Done
    kept-layout = part-accepted (bounds s.config h.sound.config).nodes-to (h.sound.parts p there)

    pub heard-once : hear_answer hearer (packet_in (part_of area p)) ≡ cond (eqb (packet_in (part_of area p)).sender j) OwnPacket Done
    heard-once =
        let q = get_or h.air p no_packet in
        let e : packet_in (part_of area p) ≡ q = part-packet (bounds s.config h.sound.config).nodes-to (h.sound.parts p there) in
        let S = (h.sound.each (j - 1)).up (live-up (member_at s j) l) in
        let number : hearer.setup.node ≡ j = ap (λ (y : Setup). y.node) S.setup ∙ omega arith in
        let M : ℕ → ℕ = λ k. (member past.start k).node.flags in
        let F : Flagged M past.start = record { at = λ k _. refl } in
        let g = views-agree s.config.nodes (start_of M past.start) (view_of hearer) (view_in q)
        (((h.sight.each (j - 1)).sees t l).good M F) (h.sight.packets M F p there) in
        ap (hear_answer hearer) e ∙ hear-agreed hearer q (S.phase (awake (member_at s j) l) ∙ t) g
        ∙ ap₂ (λ (y : Packet) (i : ℕ). cond (eqb y.sender i) OwnPacket Done) (sym e) number

-- the answer to any hearing, beside the site and the area that a list of events leaves
module _ {f : Config} {past : Past} {s : Site} {area : List ℕ} (h : Kept f past s area) (j p : ℕ) where
  abbrev part : List ℕ
  part = packet_part (header_of s) area p

  heard-part : outside s.config j ≡ false → s.negotiates ≡ true → is_live (member_at s j) ≡ true → is_packet (header_of s) p ≡ true
      → answer_part (header_of s) (member_at s j) part ≡ cond (eqb (packet_in part).sender j) OwnPacket Done
  unfolding answer_part
  heard-part o t l k =
      let from = leb-true 1 p (and_left (leb 1 p) (leb p (packets s.sent)) k) in
      let to = leb-true p (packets s.sent) (and_right (leb 1 p) (leb p (packets s.sent)) k) in
      let x : p - 1 < packets s.sent = omega arith in
      let one = (inside s j o).0 in
      ap (λ (y : Answer). cond (is_done y) (hear_answer (member_at s j).node (packet_in part)) y) (kept-layout h t j one l (p - 1) x)
      ∙ heard-once h t j one l (p - 1) x

  plain : answer_of s area (Hear j p) ≡ plain_hear (record { site = s; area = area }) j p
  unfolding answer_of site_hear
  plain =
      past-test (ltb (length area) area_size) NoRoom _ _
      (λ _. past-test (outside s.config j) NoSuchNode _ _
      (λ o. past-test (not s.negotiates) WrongPhase _ _
      (λ t. past-test (not (is_live (member_at s j))) NotLive _ _
      (λ l. past-test (not (is_packet (header_of s) p)) NoSuchPacket _ _
      (λ k. heard-part o (not-false _ t) (not-false _ l) (not-false _ k))))))

-- the law
pub heard : HeardOnce
heard = record { hears = λ f t d area es j p. plain (always f t d area es) j p }
