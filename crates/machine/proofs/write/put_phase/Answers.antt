use mathlib.Core.Path.{refl}
use mir.Val.{bool_byte}
use native.Mathlib.Omega.{arith}
use Rattle.machine.proofs.Writes.{put-copy, then_one}
use Rattle.machine.specs.Layout.{at_sent, at_phase}
use Rattle.site.specs.Counts.{none_sent}
use Rattle.machine.proofs.write.put_phase.Goals as goal

pub returns : goal.returns
returns c =
    let l = c.args.bytes.now in
    then_one l none_sent (bool_byte c.args.negotiates) at_sent at_phase (put-copy l none_sent at_sent 32 c.copy_from_slice.ensures.after refl)
    refl (omega arith)
