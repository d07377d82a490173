-- A field beside a site: the same figures, phase, place and counts, each box beside its member, and the packets of the air in the parts of
-- the site's area.
-- What is known of a box then.
-- Assumes nothing.
use mathlib.Core.Path.{◌≡◌, sym, ap, ◌∙◌, subst}
use mathlib.Core.Bool.{true, false}
use mathlib.Core.List.{List, []}
use Prim.Native.Nat.{ℕ, suc, ◌-◌, ◌≤◌, ◌<◌}
use native.Mathlib.Omega.{arith}
use lib.ListN.{length, get_or}
use Rattle.node.specs.Figures.{negotiates, flags_ok}
use Rattle.node.specs.Distribution.{sent_by}
use Rattle.node.specs.declared.Setup.{Setup}
use Rattle.node.specs.declared.Packet.{Packet}
use Rattle.node.specs.Answers.{Done}
use Rattle.node.proofs.Tested as law
use Rattle.wire.specs.Layout.{schedule_bytes, schedule_in}
use Rattle.wire.specs.Reads.{schedule_answer, part_of}
use Rattle.host.specs.Calls.{restarting}
use Rattle.host.proofs.Nodes as host
use Rattle.site.specs.Counts.{packets}
use Rattle.site.specs.Members.{nobody, setup_of, header_of, member_at, outside, is_live}
use Rattle.site.specs.Parts.{packet_part}
use Rattle.site.specs.Answers.{area_size}
use Rattle.site.specs.Model.{Site}
use Rattle.histories.proofs.Members.{inside, is-node, live-up, awake}
use Rattle.histories.proofs.Steady.{Steady}
use Rattle.histories.proofs.Sound.{Sound}
use Rattle.boxes.specs.fleet.Fleet.{Box, Fleet, packet}
use Rattle.boxes.proofs.fleet.Boxes.{Match, Fit, restart-done}

-- a field with the figures, the phase, the place and the counts of a site
abbrev pub fleet_of : Site → List (List ℕ) → (ℕ → Box) → Fleet
fleet_of s air boxes = record {
  config = s.config;
  negotiates = s.negotiates;
  place = s.place;
  air = air;
  sent = s.sent;
  boxes = boxes;
}

-- packets and boxes beside a site and its area
pub record Beside (s : Site) (area : List ℕ) (air : List (List ℕ)) (boxes : ℕ → Box) : Type 0 where
  pub members : length s.members ≡ 32
  pub lent : area_size ≤ length area
  pub count : length air ≡ packets s.sent
  pub parts : (p : ℕ) → p < length air → get_or air p [] ≡ part_of area p
  pub each : (i : ℕ) → Match (get_or s.members i nobody) (boxes (suc i))

pub record Together (s : Site) (area : List ℕ) (x : Fleet) : Type 0 where
  pub air : List (List ℕ)
  pub boxes : ℕ → Box
  pub is : x ≡ fleet_of s air boxes
  pub beside : Beside s area air boxes

module _ {s : Site} {area : List ℕ} {sent : List Packet} {air : List (List ℕ)} {boxes : ℕ → Box} (S : Sound s area sent)
    (B : Beside s area air boxes) where
  abbrev pub x : Fleet
  x = fleet_of s air boxes

  -- the box of a number, and what is known of its member

  pub at : (j : ℕ) → 1 ≤ j → Match (member_at s j) (boxes j)
  at j l = let e : suc (j - 1) ≡ j = omega arith in subst (λ (k : ℕ). Match (member_at s j) (boxes k)) e (B.each (j - 1))

  pub steady : (j : ℕ) → (member_at s j).up ≡ true → Steady s.config s.negotiates s.place (j - 1) (member_at s j).node
  steady j u = (S.each (j - 1)).up u

  pub fit : (j : ℕ) → Fit (member_at s j)
  fit j = record { long = λ u. (steady j u).long; range = λ u. (steady j u).range }

  pub nodes-is : (j : ℕ) → (member_at s j).up ≡ true → (member_at s j).node.setup.config.nodes ≡ s.config.nodes
  nodes-is j u = ap (λ (y : Setup). y.config.nodes) (steady j u).setup

  pub slots-is : (j : ℕ) → (member_at s j).up ≡ true → (member_at s j).node.setup.config.slots ≡ s.config.slots
  slots-is j u = ap (λ (y : Setup). y.config.slots) (steady j u).setup

  -- a live node is in the site's phase
  pub talks : (j : ℕ) → is_live (member_at s j) ≡ true → s.negotiates ≡ true → negotiates (member_at s j).node.phase ≡ true
  talks j l t = (steady j (live-up (member_at s j) l)).phase (awake (member_at s j) l) ∙ t

  -- the packet of a number lies in its part
  pub packet-is : (p : ℕ) → 1 ≤ p → p ≤ packets s.sent → packet x p ≡ packet_part (header_of s) area p
  packet-is p a b = B.parts (p - 1) (omega (arith, B.count))

  -- what a sender sent is accepted by a taker
  pub taken-bytes : (j i : ℕ) → (member_at s j).up ≡ true → (member_at s i).up ≡ true
      → (schedule_answer (member_at s j).node.setup (schedule_bytes (sent_by (member_at s i).node)) ≡ Done)
      × (schedule_in (schedule_bytes (sent_by (member_at s i).node)) ≡ sent_by (member_at s i).node)
  taken-bytes j i u w = host.sent-schedule (member_at s i).node (member_at s j).node.setup ((fit i).long w) ((fit i).range w)
      (nodes-is j u ∙ sym (nodes-is i w)) (slots-is j u ∙ sym (slots-is i w))

  -- a restart of any box, on whatever its area holds
  pub restarts : (j flags : ℕ) → outside s.config j ≡ false → flags_ok (setup_of s.config j) flags ≡ true
      → restarting (boxes j).area (setup_of s.config j) flags s.place ≡ Done
  restarts j flags o g =
      let M = at j (inside s j o).0 in
      let d = law.restart-done (setup_of s.config j) flags s.place S.config S.place g
      (is-node s j o) in
      restart-done (boxes j).area (setup_of s.config j) flags s.place M.size d
