use mathlib.Core.Path.{◌≡◌, ap, ◌∙◌}
use Prim.Native.Nat.{ℕ, ◌-◌, ◌+◌}
use native.Mathlib.Omega.{arith}
use lib.ListN.{take, drop}
use Rattle.lists.specs.All.{bounded}
use Rattle.masks.proofs.bytes.is_blank.Goals as goal

pub returns : goal.returns
returns c =
    let a = c.args in
    let e : a.from + a.n - a.from ≡ a.n = omega arith in
    c.all_fit.ensures ∙ ap (λ (k : ℕ). bounded (take k (drop a.from a.s.now)) 0 0) e
