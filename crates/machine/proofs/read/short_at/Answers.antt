use mathlib.Core.Path.{◌≡◌, sym, ap, ◌∙◌}
use Prim.Native.Nat.{◌+◌, ◌-◌}
use native.Mathlib.Omega.{arith}
use Rattle.lists.specs.Bytes.{span}
use Rattle.lists.proofs.Laws.{window-span}
use Rattle.machine.proofs.read.short_at.Goals as goal

pub returns : goal.returns
returns c =
    let s = c.args.s.now in
    let at = c.args.at in
    let n : at + 32 - at ≡ 32 = omega arith in
    c.copy_from_slice.ensures.after ∙ ap (span s at) n ∙ sym (window-span 32 s at c.requires)
