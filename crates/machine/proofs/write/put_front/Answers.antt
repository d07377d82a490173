use Rattle.machine.proofs.Writes.{put-copy, three}
use Rattle.machine.specs.Layout.{stored_front, node_bytes_at}
use Rattle.lists.specs.Bytes.{written}
use mir.Val.{bool_byte}
use lib.ListN.{length}
use mathlib.Core.List.{[], ◌∷◌}
use mathlib.Core.Path.{◌≡◌, refl, ap, ◌∙◌}
use Prim.Native.Nat.{ℕ, ◌+◌}
use native.Mathlib.Omega.{arith}
use borrow.Author.Rules.{rules}
use Rattle.machine.proofs.write.put_front.Goals as goal

pub returns : goal.returns
unfolding stored_front
returns c =
    let a = c.args in
    let at = node_bytes_at a.i in
    let known : length a.c.round.known ≡ 32 = search rules in
    let counters : length a.c.counters ≡ 32 = search rules in
    three a.bytes.now _ _ _ at (at + 5) (at + 37)
    (put-copy a.bytes.now _ at 5 c.copy_from_slice.ensures.after refl
    ∙ ap (λ (x : ℕ). written a.bytes.now at
    (bool_byte a.up ∷ a.c.demand ∷ a.c.request ∷ x ∷ bool_byte a.c.updated ∷ []))
    c.phase_byte.ensures)
    (put-copy _ a.c.round.known (at + 5) 32 c.copy_from_slice-2.ensures.after known)
    (put-copy _ a.c.counters (at + 37) 32 c.copy_from_slice-3.ensures.after counters)
    refl (omega arith) (omega arith)
