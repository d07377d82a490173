-- Specification, 3.9: what holds of a group after every list of calls. The packets of its sites lie in places of their
-- own; each site may always have 16, all together 128 more; and a send that is accepted finds a free place.
-- Assumes nothing.
use Rattle.std.specs.Prelude.{◌≡◌, Bool, true, not, List, [], ◌∷◌, map, ℕ, ◌+◌, ◌≤◌, ◌<◌, eqb, length, get_or}
use Rattle.words.specs.Bits.{digit}
use Rattle.allotment.specs.Allotment.{total}
use Rattle.node.specs.Negotiation.{packet_of}
use Rattle.wire.specs.Reads.{placed}
use Rattle.site.specs.Members.{member_at}
use Rattle.site.specs.declared.Event.TheVariants.{Send}
use Rattle.windows.specs.declared.Window.{Window}
use Rattle.machine.specs.timed.Timed.{Timed}
use Rattle.group.specs.Places.{top_places, entry, site_of, place}
use Rattle.group.specs.Group.{Taken, Group, is_number, site_slot_of, packets_in, common_share, common, packet_place}
use Rattle.group.specs.Calls.{SiteCall, group_accepts}
use Rattle.group.specs.Steps.{after_group}

-- how many entries pass a test
unfoldable pub how_often : (ℕ → Bool) → List ℕ → ℕ
how_often p [] = 0
how_often p (x ∷ t) = digit (p x) + how_often p t

-- the places in use, and those of site a
abbrev pub used : List ℕ → ℕ
used t = how_often (λ x. not (eqb x 0)) t

abbrev pub used_by : ℕ → List ℕ → ℕ
used_by a t = how_often (λ x. eqb (site_of x) a) t

pub record Fit (g : Group) : Type 0 where
  pub site_slots : length g.site_slots ≡ 8
  pub places : length g.places ≡ top_places
  -- each packet of a site has a place, by its entry; so no two packets share one
  pub lies : (a p : ℕ) → is_number a ≡ true → p < packets_in (site_slot_of g a) → get_or g.places (packet_place g a (p + 1)) 0 ≡ entry a (p + 1)
  -- a site has as many places as packets, and all sites have as many as are in use
  pub own : (a : ℕ) → is_number a ≡ true → used_by a g.places ≡ packets_in (site_slot_of g a)
  pub all : used g.places ≡ total (map packets_in g.site_slots)
  -- at most 128 packets are beyond the sites' own shares
  pub shared : common g ≤ common_share
  -- an accepted send has a free place; its packet is written there, and no other byte changes
  pub room : (a j : ℕ) (ws : List Window) → group_accepts g (SiteCall a (record { event = Send j; windows = ws })) ≡ true
      → place 0 g.places < top_places
  pub written : (a j : ℕ) (ws : List Window) (t : Timed) → site_slot_of g a ≡ Taken t
      → group_accepts g (SiteCall a (record { event = Send j; windows = ws })) ≡ true
      → (after_group g (SiteCall a (record { event = Send j; windows = ws }))).area
      ≡ placed g.area (place 0 g.places) (packet_of (member_at t.site j).node)
