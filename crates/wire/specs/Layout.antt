-- Specification, 5 Bytes on the air: highest byte first.
-- A packet has 45 bytes: the sender (1), lowest and highest version (4 each), the flags (4), and a byte for each of 32 nodes: its request,
-- 255 without one.
-- A schedule has 84 bytes: the version (4) and 80 owners. One layout, in which both are written and read.
-- Assumes nothing.
use Rattle.std.specs.Prelude.{cond, ◌&&◌, List, ◌∷◌, ◌++◌, ℕ, ◌%◌, leb, length, get_or}
use Rattle.lists.specs.Bytes.{word32, bytes32, window, written}
use Rattle.masks.specs.Bytes.{masks_in, has_room}
use Rattle.masks.specs.Air.{owners_to}
use Rattle.allotment.specs.Allotment.{owners_of, schedule_of}
use Rattle.node.specs.declared.Packet.{Packet}
use Rattle.node.specs.Model.{Versioned}

abbrev pub packet_size : ℕ
packet_size = 45

abbrev pub schedule_size : ℕ
schedule_size = 84

-- what is written for a packet
unfoldable pub packet_bytes : Packet → List ℕ
packet_bytes p = (p.sender % 256) ∷ (bytes32 p.lowest ++ (bytes32 p.highest ++ (bytes32 p.flags ++ p.requests)))

-- the packet that bytes stand for
unfoldable pub packet_in : List ℕ → Packet
packet_in l = record { sender = get_or l 0 0; lowest = word32 l 1; highest = word32 l 5; flags = word32 l 9; requests = window 32 l 13 }

-- what is written for a version and its schedule
unfoldable pub schedule_bytes : Versioned → List ℕ
schedule_bytes v = bytes32 v.version ++ owners_of v.schedule

-- the version and schedule that bytes stand for
unfoldable pub schedule_in : List ℕ → Versioned
schedule_in l = record { version = word32 l 0; schedule = schedule_of (window 80 l 4) }

-- a version and the owners of the masks of n nodes at a place of some bytes, at the start of an output; without room nothing changes
abbrev pub schedule_written : ℕ → List ℕ → ℕ → ℕ → List ℕ → List ℕ
schedule_written version l at n out =
    cond (has_room l at && leb schedule_size (length out))
    (written out 0 (schedule_bytes (record { version = version; schedule = schedule_of (owners_to (masks_in l at) n) })))
    out
