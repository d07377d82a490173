use native.Mathlib.Omega.{arith}
use Rattle.site.specs.declared.Event.TheVariants.{Hear}
use Rattle.site.proofs.Accepted.{hear-accepted}
use Rattle.machine.specs.Layout.{store}
use Rattle.machine.specs.steps.After.{heard_store}
use Rattle.machine.proofs.steps.Whole.{told-long, in-part}
use Rattle.machine.proofs.events.hear.Goals as goal

pub overflow_sub-p : goal.overflow_sub-p
overflow_sub-p c =
    let a = c.args in
    let p = told-long (store a.words.now a.bytes.now) a.area.now (Hear a.j a.p) c.requires in
    omega (arith, (hear-accepted _ _ _ _ p.1.1).from)

pub hear_from-requires : goal.hear_from-requires
hear_from-requires c =
    let a = c.args in
    let s = store a.words.now a.bytes.now in
    in-part s a.area.now a.j a.p c.requires

pub returns : goal.returns
unfolding heard_store
returns c =
    let o = c.hear_from.ensures in record {
      words_after = o.words_after;
      bytes_after = o.bytes_after;
    }
