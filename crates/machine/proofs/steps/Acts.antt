-- The functions of one event each: what they write, as the definitions have it.
-- Assumes nothing.
use mathlib.Core.Path.{◌≡◌, refl, sym, ap, ap₂, ◌∙◌}
use mathlib.Core.Bool.{Bool, false, ◌||◌}
use mathlib.Core.List.{List}
use Prim.Native.Nat.{ℕ, ◌+◌, ◌-◌, ◌≤◌}
use native.Mathlib.Omega.{arith}
use lib.ListN.{length, get_or}
use Rattle.words.proofs.Tests.{skip}
use Rattle.lists.proofs.Laws.{get_d-tab}
use Rattle.node.specs.Begin.{waiting}
use Rattle.node.specs.Core.{core_of, bare}
use Rattle.node.proofs.Bare.{waiting-bare}
use Rattle.node.specs.Negotiation.{heard_node, packet_of}
use Rattle.node.specs.Model.{Node}
use Rattle.node.specs.declared.Packet.{Packet}
use Rattle.node.specs.declared.Core.{Core}
use Rattle.wire.specs.Layout.{packet_in}
use Rattle.site.specs.Counts.{packets, sent_of}
use Rattle.site.specs.Members.{outside, member_at, with_node, setup_of, header_of}
use Rattle.site.specs.Steps.{stored, sent_area}
use Rattle.site.specs.declared.SiteHeader.{SiteHeader}
use Rattle.node.specs.declared.Config.{Config}
use Rattle.site.specs.Model.{Member}
use Rattle.machine.specs.Layout.{Store, words_size, bytes_size, at_sent, node_in, stored_in, config_in, site_in}
use Rattle.machine.specs.Written.{written_front}
use Rattle.machine.specs.Acts.{packet_sent, heard_put, wanted_put, taken_put}
use Rattle.machine.proofs.Seats.{inside, member_is}
use Rattle.machine.proofs.Whole.{has-place}
use Rattle.machine.specs.steps.After.{heard_part, taken_store, wanted_store}

module _ (s : Store) (j : ℕ) (h : outside (config_in s) j ≡ false) where
  -- what node j has sent
  pub sent-at : sent_of (site_in s).sent j ≡ get_or s.bytes (at_sent + (j - 1)) 0
  unfolding site_in
  sent-at =
      let q = inside (config_in s) j h in
      get_d-tab 0 32 (λ i. get_or s.bytes (at_sent + i) 0) (j - 1) (omega (arith, q.from, q.top))

  -- the packet that it sends
  pub packet-there : packet_of (node_in s (j - 1)) ≡ packet_of (member_at (site_in s) j).node
  packet-there = ap (λ (v : Member). packet_of v.node) (sym (member_is s j h))

-- the area after a send
pub area-sent : (s : Store) (j : ℕ) {c : ℕ} {k : SiteHeader} (area : List ℕ) → k ≡ header_of (site_in s) → c ≡ packets k.sent
    → stored area c (packet_of (member_at (site_in s) j).node) ≡ sent_area (site_in s) area j
unfolding sent_area
area-sent s j area x y = ap (λ (i : ℕ). stored area i (packet_of (member_at (site_in s) j).node))
    (y ∙ ap (λ (k : SiteHeader). packets k.sent) x)

-- a hear, a want and a take of nodes that have a place
module _ (s : Store) (w : words_size ≤ length s.words) (b : bytes_size ≤ length s.bytes) (j : ℕ) (o : outside (config_in s) j ≡ false)
  where
    pub sent-packet : packet_sent s j ≡ packet_of (node_in s (j - 1))
    unfolding packet_sent
    sent-packet = skip _ _ _ _ (has-place s j w b o) refl

    pub heard-put : (part : List ℕ) {q : Packet} → q ≡ packet_in part → heard_put s j q ≡ heard_part s part j
    unfolding heard_put
    heard-put part e = skip _ _ _ _ (has-place s j w b o)
        (ap (λ (q : Packet). written_front s (j - 1) (with_node (stored_in s (j - 1)) (heard_node (node_in s (j - 1)) q))) e)

    pub wanted-put : (d : ℕ) → wanted_put s j d ≡ wanted_store s j d
    unfolding wanted_put wanted_store
    wanted-put d = skip _ _ _ _ (has-place s j w b o) refl

    pub taken-put : (g : ℕ) → outside (config_in s) g ≡ false → taken_put s j g ≡ taken_store s j g
    unfolding taken_put taken_store
    taken-put g u = skip _ _ _ _ (ap₂ ◌||◌ (has-place s j w b o) (has-place s g w b u)) refl

-- the member that waits, down or up again
pub waits : {f g : Config} {p q : ℕ} {c : Core} (u : Bool) (j flags : ℕ) → f ≡ g → p ≡ q → c ≡ core_of (waiting (setup_of f j) flags p 0)
    → ◌≡◌ {A = Member} (record { up = u; node = bare c }) (record { up = u; node = waiting (setup_of g j) flags q 0 })
waits {g = g} {q = q} u j flags e h l =
    let n : Node → Member = λ y. record { up = u; node = y } in
    ap n (ap bare (l ∙ (λ i. core_of (waiting (setup_of (e i) j) flags (h i) 0))) ∙ waiting-bare (setup_of g j) flags q 0)
