-- Specification, 3.9: what an accepted call makes of a group and its area. A load begins a number anew and frees its
-- packets; a close frees those of its site; a send writes its packet into the lowest free place, and no other byte
-- changes; any other event leaves places and area as they are.
-- Assumes nothing.
use Rattle.std.specs.Prelude.{cond, List, [], ◌∷◌, ℕ, ◌+◌, ◌-◌, set}
use Rattle.node.specs.Negotiation.{packet_of}
use Rattle.site.specs.Members.{member_at}
use Rattle.site.specs.Steps.{stored}
use Rattle.site.specs.declared.Event.{Event}
use Rattle.site.specs.declared.Event.TheVariants.{Send, Hear, Close, Take, End, Want, Crash, Restart}
use Rattle.machine.specs.timed.Timed.{Timed, loaded_timed, timed_after}
use Rattle.machine.specs.timed.Calls.{Call}
use Rattle.group.specs.Places.{entry, place, place_filled, freed}
use Rattle.group.specs.Group.{SiteSlot, Empty, Taken, Group, site_slot_of, packets_in, own_area}
use Rattle.group.specs.Calls.{GroupCall, LoadSite, SiteCall, group_accepts}

-- the places after an accepted event of site a, which has n packets
abbrev pub next_places : List ℕ → ℕ → ℕ → Event → List ℕ
next_places places a n (Send j) = place_filled (entry a (n + 1)) places
next_places places a n (Hear j p) = places
next_places places a n Close = freed a places
next_places places a n (Take j i) = places
next_places places a n End = places
next_places places a n (Want j d) = places
next_places places a n (Crash j) = places
next_places places a n (Restart j flags) = places

-- the area after an accepted event of a site
abbrev pub next_bytes : Group → Timed → Event → List ℕ
next_bytes g t (Send j) = stored g.area (place 0 g.places) (packet_of (member_at t.site j).node)
next_bytes g t (Hear j p) = g.area
next_bytes g t Close = g.area
next_bytes g t (Take j i) = g.area
next_bytes g t End = g.area
next_bytes g t (Want j d) = g.area
next_bytes g t (Crash j) = g.area
next_bytes g t (Restart j flags) = g.area

-- the group after an accepted event of the site slot of number a; the site is what it would be with an area of its own
abbrev pub next_by : Group → ℕ → SiteSlot → Call → Group
next_by g a Empty c = g
next_by g a (Taken t) c =
    record {
      site_slots = set g.site_slots (a - 1) (Taken (timed_after t (own_area g a (packets_in (Taken t))) c.windows c.event));
      places = next_places g.places a (packets_in (Taken t)) c.event;
      area = next_bytes g t c.event;
    }

-- the group after an accepted call
unfoldable pub next_group : Group → GroupCall → Group
next_group g (LoadSite a f t D ws) =
    record { site_slots = set g.site_slots (a - 1) (Taken (loaded_timed f t D ws)); places = freed a g.places; area = g.area }
next_group g (SiteCall a c) = next_by g a (site_slot_of g a) c

-- a refused call changes nothing
unfoldable pub after_group : Group → GroupCall → Group
after_group g c = cond (group_accepts g c) (next_group g c) g

-- after a list of calls: each finds group and area as the call before it left them
unfoldable pub run_group : Group → List GroupCall → Group
run_group g [] = g
run_group g (c ∷ cs) = run_group (after_group g c) cs
