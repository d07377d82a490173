use mathlib.Core.List.{List}
use mathlib.Core.Path.{◌≡◌, refl, ap, ◌∙◌}
use Prim.Native.Nat.{ℕ, ◌+◌, ◌-◌}
use native.Mathlib.Omega.{arith}
use lib.ListN.{length, set}
use Rattle.lists.specs.Bytes.{written}
use Rattle.membership.specs.requests.Requests.{no_requests}
use Rattle.machine.proofs.Writes.{put-copy, set-in}
use Rattle.machine.proofs.write.put_own.Goals as goal

pub returns : goal.returns
returns c =
    let a = c.args in
    let l = a.out.now in
    let e : length no_requests ≡ 32 = refl in
    let k : a.i ≡ a.i + 1 - 1 = omega arith in
    ap (λ (x : List ℕ). set x (a.at + a.i) a.request)
    (put-copy l no_requests a.at 32 (c.copy_from_slice.ensures.after ∙ c.no_requests.ensures) e)
    ∙ set-in l no_requests a.at a.i a.request (omega (arith, e, c.requires.0)) (omega (arith, e, c.requires.1))
    ∙ ap (λ (x : ℕ). written l a.at (set no_requests x a.request)) k
