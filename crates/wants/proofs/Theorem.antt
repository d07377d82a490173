-- The reports do not depend on demands.
-- Assumes nothing.
use Rattle.wants.specs.Wants.{SameWithoutWants}
use Rattle.wants.proofs.Events.{events}
use Rattle.wants.proofs.Windows.{windows}

pub same-without-wants : SameWithoutWants
same-without-wants = record { events = events; windows = windows }
