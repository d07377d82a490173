-- What a box acts on (specification, 6 Node calls and node area), 96 bytes: version and schedule as on the air, flags 4, place 4, demand,
-- request, phase, updated.
-- Assumes nothing.
use Rattle.std.specs.Prelude.{List, ◌++◌, ℕ}
use Rattle.lists.specs.Bytes.{bytes32}
use Rattle.node.specs.Distribution.{sent_by}
use Rattle.node.specs.Model.{Node}
use Rattle.wire.specs.Layout.{schedule_bytes}
use Rattle.area.specs.Area.{small_of}

abbrev pub report_size : ℕ
report_size = 96

unfoldable pub report : Node → List ℕ
report n = schedule_bytes (sent_by n) ++ (bytes32 n.flags ++ (bytes32 n.epoch.place ++ small_of n))
