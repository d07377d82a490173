use mathlib.Core.Path.{sym}
use native.Mathlib.Omega.{arith}
use lib.Seq.{set_out}
use Rattle.sites.proofs.places.put_entry.Goals as goal

pub returns-then-places-at : goal.returns-then-places-at
returns-then-places-at c = sym (set_out _ _ _ (omega arith))
