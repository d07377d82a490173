-- Specification, 3.9: eight sites with their days, and one packet area.
-- Assumes nothing.
use Rattle.std.specs.Prelude.{Bool, cond, ◌&&◌, List, [], ◌++◌, map, ℕ, zero, suc, ◌+◌, ◌-◌, ◌*◌, leb, get_or, replicate}
use Rattle.lists.specs.Bytes.{window}
use Rattle.allotment.specs.Allotment.{total}
use Rattle.wire.specs.Layout.{packet_size}
use Rattle.site.specs.Counts.{packets}
use Rattle.site.specs.Answers.{area_size}
use Rattle.machine.specs.timed.Timed.{Timed}
use Rattle.group.specs.Places.{top_places, entry, place}

-- what stands at a number: no site, or a site with its day
pub data SiteSlot : Type 0 where
  Empty : SiteSlot
  Taken : Timed → SiteSlot

-- the eight site slots, that of number a at index a - 1; the 256 entries of the places; and the lent area
pub record Group : Type 0 where
  pub site_slots : List SiteSlot
  pub places : List ℕ
  pub area : List ℕ

-- nothing is loaded and every place is free, whatever the area holds
abbrev pub vacant : List ℕ → Group
vacant area = record { site_slots = replicate 8 Empty; places = replicate top_places 0; area = area }

-- the numbers of a group are 1 to 8
abbrev pub is_number : ℕ → Bool
is_number a = leb 1 a && leb a 8

-- the site slot of a number; at any other number nothing is loaded
abbrev pub site_slot_of : Group → ℕ → SiteSlot
site_slot_of g a = cond (is_number a) (get_or g.site_slots (a - 1) Empty) Empty

-- the packets of a site in this phase, by its own counts
abbrev pub packets_in : SiteSlot → ℕ
packets_in Empty = 0
packets_in (Taken t) = packets t.site.sent

-- the packets that each site may always have in a phase, and those that all sites together may have beyond them
abbrev pub own_share : ℕ
own_share = 16

abbrev pub common_share : ℕ
common_share = 128

-- what a site has beyond its own share, and what all have: the common places that are taken
abbrev pub beyond : SiteSlot → ℕ
beyond s = packets_in s - own_share

unfoldable pub common : Group → ℕ
common g = total (map beyond g.site_slots)

-- the place of packet p of site a
abbrev pub packet_place : Group → ℕ → ℕ → ℕ
packet_place g a p = place (entry a p) g.places

-- the bytes of that place
abbrev pub part_at : Group → ℕ → ℕ → List ℕ
part_at g a p = window packet_size g.area (packet_size * packet_place g a p)

-- n parts one behind another, from packet 1 on
unfoldable pub parts_of : (ℕ → List ℕ) → ℕ → List ℕ
parts_of part zero = []
parts_of part (suc n) = parts_of part n ++ part (n + 1)

-- the area as site a alone would have it: its n packets in the order of their numbers, and behind them nothing that it looks at
unfoldable pub own_area : Group → ℕ → ℕ → List ℕ
own_area g a n = parts_of (part_at g a) n ++ replicate (area_size - packet_size * n) 0
