-- Laws of the counts: 32 nodes with at most 8 packets each have at most 256, so the next packet of a node that has sent fewer than 8 has
-- its part in the area.
-- Assumes nothing.
use mathlib.Core.Path.{◌≡◌, refl, ◌∙◌}
use mathlib.Core.Bool.{true}
use mathlib.Core.List.{List, [], ◌∷◌}
use Prim.Native.Nat.{ℕ, suc, ◌+◌, ◌-◌, ◌*◌, ◌≤◌, ◌<◌}
use native.Mathlib.Omega.{arith}
use borrow.Author.Tests.{le-leb}
use lib.ListN.{length, get_or, length-set}
use Rattle.words.proofs.Tests.{hit}
use Rattle.lists.proofs.Laws.{get_d-zeros}
use Rattle.lists.proofs.Every.{every_set}
use Rattle.allotment.specs.Allotment.{total}
use Rattle.allotment.proofs.Laws.{total-zeros, total-set}
use Rattle.node.specs.Negotiation.{packet_of}
use Rattle.wire.specs.Layout.{packet_size}
use Rattle.wire.specs.Reads.{placed, has_part}
use Rattle.site.specs.Counts.{top_sent, top_packets, sent_of, packets, none_sent, one_more}
use Rattle.site.specs.Members.{member_at}
use Rattle.site.specs.Answers.{area_size}
use Rattle.site.specs.Steps.{sent_area}
use Rattle.site.specs.Model.{Site}

-- 32 counts, none above 8
pub record Counts (l : List ℕ) : Type 0 where
  pub long : length l ≡ 32
  pub most : (i : ℕ) → get_or l i 0 ≤ top_sent

pub none-counts : Counts none_sent
none-counts = record { long = refl; most = λ i. omega (arith, get_d-zeros 32 i) }

pub more-counts : (l : List ℕ) (j : ℕ) → Counts l → sent_of l j < top_sent → Counts (one_more l j)
more-counts l j h k =
    record {
      long = length-set l (j - 1) (sent_of l j + 1) ∙ h.long;
      most = every_set (λ i x. x ≤ top_sent) 0 l (j - 1) (sent_of l j + 1) h.most (omega arith);
    }

-- a send is one packet more
pub packets-none : packets none_sent ≡ 0
packets-none = total-zeros 32

pub packets-more : (l : List ℕ) (j : ℕ) → j - 1 < length l → packets (one_more l j) ≡ packets l + 1
packets-more l j h = omega (arith, total-set l (j - 1) (sent_of l j + 1) h)

-- 256 packets from 32 nodes
total-most : (l : List ℕ) → ((i : ℕ) → get_or l i 0 ≤ top_sent) → total l ≤ top_sent * length l
unfolding total
total-most [] h = omega arith
total-most (x ∷ l) h = omega (arith, h 0, total-most l (λ i. h (suc i)))

pub packets-most : (l : List ℕ) → Counts l → packets l ≤ top_packets
packets-most l h = omega (arith, total-most l h.most, h.long)

pub packets-room : (l : List ℕ) (j : ℕ) → Counts l → j - 1 < 32 → sent_of l j < top_sent → packets l < top_packets
packets-room l j h w k = omega (arith, packets-most (one_more l j) (more-counts l j h k), packets-more l j (omega (arith, h.long)))

-- so the area has the part of the next packet
pub part-there : (area l : List ℕ) → packets l < top_packets → area_size ≤ length area → has_part area (packets l) ≡ true
part-there area l h r = le-leb (packet_size * packets l + packet_size) (length area) (omega arith)

pub area-placed : (s : Site) (area : List ℕ) (j : ℕ) → has_part area (packets s.sent) ≡ true
    → sent_area s area j ≡ placed area (packets s.sent) (packet_of (member_at s j).node)
unfolding sent_area
area-placed s area j h = hit _ _ _ h
