use mathlib.Core.Path.{refl}
use Rattle.machine.specs.Layout.{at_config}
use Rattle.machine.proofs.Writes.{put-copy}
use Rattle.machine.proofs.load.put_config.Goals as goal

pub returns : goal.returns
returns c = put-copy c.args.words.now _ at_config 6 c.copy_from_slice.ensures.after refl
