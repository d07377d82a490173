-- Where the packets of a phase lie in the lent area (specification, 5 Bytes on the air): one after another, in the order in which they are
-- sent. No other definition says it.
-- Assumes nothing.
use Rattle.std.specs.Prelude.{List, ℕ, ◌-◌}
use Rattle.wire.specs.Reads.{part_of}
use Rattle.site.specs.Counts.{packets}
use Rattle.site.specs.declared.SiteHeader.{SiteHeader}

-- the index of the part that packet p has to itself; packets are numbered from 1
abbrev pub packet_index : SiteHeader → ℕ → ℕ
packet_index k p = p - 1

-- the index of the part that the next packet is written into
abbrev pub next_index : SiteHeader → ℕ
next_index k = packets k.sent

-- the bytes found in the part of packet p
abbrev pub packet_part : SiteHeader → List ℕ → ℕ → List ℕ
packet_part k area p = part_of area (packet_index k p)
