-- What the answers look at, read from storage.
-- Assumes nothing.
use mathlib.Core.Path.{◌≡◌, refl, sym, ap, ap₂, ◌∙◌}
use mathlib.Core.Bool.{Bool, true, false, not, cond, ◌&&◌, ◌||◌}
use mathlib.Core.List.{List}
use Prim.Native.Nat.{ℕ, ◌-◌, ◌≤◌}
use lib.ListN.{length}
use Rattle.words.proofs.Tests.{hit, skip}
use Rattle.node.specs.Answers.{Answer, Done, NoSuchNode, WrongPhase, NotLive, TooManyPackets, NoSuchPacket, is_done}
use Rattle.node.specs.Figures.{is_waiting}
use Rattle.node.specs.Negotiation.{send_answer, hear_answer}
use Rattle.node.specs.declared.Packet.{Packet}
use Rattle.node.specs.declared.Phase.{Phase}
use Rattle.node.proofs.Answers.{done-is, test-passed}
use Rattle.wire.specs.Reads.{part_of}
use Rattle.site.specs.Members.{header_of, member_at, outside, is_live, node_index}
use Rattle.site.specs.Answers.{is_full, is_packet, answer_part, site_send, site_hear}
use Rattle.site.specs.declared.SiteHeader.{SiteHeader}
use Rattle.site.specs.Model.{Member}
use Rattle.site.specs.Model.{Site}
use Rattle.machine.specs.steps.Inner.{answer_ready}
use Rattle.machine.specs.steps.After.{site_heard}
use Rattle.machine.specs.Layout.{Store, words_size, bytes_size, up_in, phase_in, node_in, stored_in, config_in, site_in}
use Rattle.machine.specs.Acts.{hear_read}
use Rattle.machine.proofs.Whole.{has-place}
use Rattle.machine.proofs.Seats.{in-config, at-node-index, live-stored, member_is}

-- the header's tests
module _ (s : Store) {k : SiteHeader} (e : k ≡ header_of (site_in s)) where
  pub out : (j : ℕ) {t b : Bool} → t ≡ outside k.config j → t ≡ b → outside (site_in s).config j ≡ b
  out j p q = ap (λ (x : SiteHeader). outside x.config j) (sym e) ∙ sym p ∙ q

  pub outs : (j g : ℕ) {t u b : Bool} → t ≡ outside k.config j → u ≡ outside k.config g → (t || u) ≡ b
      → (outside (site_in s).config j || outside (site_in s).config g) ≡ b
  outs j g p r q = ap₂ ◌||◌ (out j p refl) (out g r refl) ∙ q

  pub phase : {b : Bool} → k.negotiates ≡ b → (site_in s).negotiates ≡ b
  phase q = ap (λ (x : SiteHeader). x.negotiates) (sym e) ∙ q

-- the member's
module _ (s : Store) (j : ℕ) (o : outside (site_in s).config j ≡ false) {i : ℕ} (g : i ≡ node_index j) where
  pub there : stored_in s i ≡ member_at (site_in s) j
  there = ap (stored_in s) (at-node-index (config_in s) j g (in-config s j o)) ∙ sym (member_is s j (in-config s j o))

  pub live : {t b : Bool} → t ≡ (up_in s.bytes i && not (is_waiting (phase_in s.bytes i))) → t ≡ b → is_live (member_at (site_in s) j) ≡ b
  live p q = sym (ap is_live there) ∙ live-stored s i ∙ sym p ∙ q

  pub up : {t b : Bool} → t ≡ up_in s.bytes i → t ≡ b → (member_at (site_in s) j).up ≡ b
  up p q = sym (ap (λ (m : Member). m.up) there) ∙ sym p ∙ q

  phase-there : phase_in s.bytes i ≡ (member_at (site_in s) j).node.phase
  unfolding node_in
  phase-there = ap (λ (m : Member). m.node.phase) there

  -- a test of the phase
  pub the-phase : {p : Phase} → p ≡ phase_in s.bytes i → p ≡ (member_at (site_in s) j).node.phase
  the-phase p = p ∙ phase-there

  pub by-phase : (f : Phase → Bool) {p : Phase} {t b : Bool} → p ≡ phase_in s.bytes i → t ≡ f p → t ≡ b
      → f (member_at (site_in s) j).node.phase ≡ b
  by-phase f p r q = sym (r ∙ ap f (p ∙ phase-there)) ∙ q

-- the answer to a packet
pub heard-read : (s : Store) (j : ℕ) → outside (site_in s).config j ≡ false → words_size ≤ length s.words → bytes_size ≤ length s.bytes
    → (q : Packet) → hear_read s j q ≡ hear_answer (member_at (site_in s) j).node q
unfolding hear_read
heard-read s j o w b q =
    let f = in-config s j o in
    skip _ _ _ _ (has-place s j w b f) (ap (λ (m : Member). hear_answer m.node q) (sym (member_is s j f)))

-- the first three tests of a chain, taken together
first : (t u v : Bool) (r : Answer) → cond t NoSuchNode (cond u WrongPhase (cond v NotLive r))
    ≡ cond (is_done (cond t NoSuchNode (cond u WrongPhase (cond v NotLive Done)))) r
    (cond t NoSuchNode (cond u WrongPhase (cond v NotLive Done)))
first true u v r = refl
first false true v r = refl
first false false true r = refl
first false false false r = refl

ready-first : (k : SiteHeader) (m : Member) (j : ℕ) (r : Answer)
    → cond (outside k.config j) NoSuchNode (cond (not k.negotiates) WrongPhase (cond (not (is_live m)) NotLive r))
    ≡ cond (is_done (answer_ready k m j)) r (answer_ready k m j)
unfolding answer_ready
ready-first k m j r = first (outside k.config j) (not k.negotiates) (not (is_live m)) r

-- a send and a hear, behind their first tests
module _ (s : Store) (j : ℕ) {a : Answer} (e : a ≡ answer_ready (header_of (site_in s)) (member_at (site_in s) j) j) where
  pub ready-out : is_done a ≡ true → outside (site_in s).config j ≡ false
  unfolding answer_ready
  ready-out d = (test-passed (outside (site_in s).config j) NoSuchNode _ refl (sym e ∙ done-is a d)).0

  pub send-refused : is_done a ≡ false → a ≡ site_send (site_in s) j
  unfolding site_send
  send-refused d = e ∙ sym (ready-first (header_of (site_in s)) (member_at (site_in s) j) j _ ∙ skip _ _ _ _ (ap is_done (sym e) ∙ d) refl)

  pub send-rest : is_done a ≡ true → cond (is_full (header_of (site_in s)) j) TooManyPackets (send_answer (member_at (site_in s) j).node)
      ≡ site_send (site_in s) j
  unfolding site_send
  send-rest d = sym (ready-first (header_of (site_in s)) (member_at (site_in s) j) j _ ∙ hit _ _ _ (ap is_done (sym e) ∙ d))

  pub hear-refused : (part : List ℕ) (p : ℕ) → is_done a ≡ false → a ≡ site_heard (site_in s) part j p
  unfolding site_heard
  hear-refused part p d = e ∙ sym
      (ready-first (header_of (site_in s)) (member_at (site_in s) j) j _ ∙ skip _ _ _ _ (ap is_done (sym e) ∙ d) refl)

  pub hear-rest : (part : List ℕ) (p : ℕ) → is_done a ≡ true
      → cond (not (is_packet (header_of (site_in s)) p)) NoSuchPacket (answer_part (header_of (site_in s)) (member_at (site_in s) j) part)
      ≡ site_heard (site_in s) part j p
  unfolding site_heard
  hear-rest part p d = sym (ready-first (header_of (site_in s)) (member_at (site_in s) j) j _ ∙ hit _ _ _ (ap is_done (sym e) ∙ d))

-- a hear of the area is one of the part that its packet has there
pub heard-there : (s : Site) (area : List ℕ) (j p : ℕ) → site_heard s (part_of area (p - 1)) j p ≡ site_hear s area j p
unfolding site_heard site_hear
heard-there s area j p = refl

pub heard-out : (s : Site) (part : List ℕ) (j p : ℕ) → site_heard s part j p ≡ Done → outside s.config j ≡ false
unfolding site_heard
heard-out s part j p h = (test-passed (outside s.config j) NoSuchNode _ refl h).0
