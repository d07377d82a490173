use Rattle.machine.proofs.Writes.{put-copy, three}
use Rattle.machine.specs.Layout.{stored_front, node_bytes_at}
use Rattle.lists.specs.Bytes.{written}
use Rattle.membership.specs.requests.Requests.{no_requests, only}
use Rattle.wire.specs.Phases.{phase_byte}
use mir.Val.{bool_byte}
use lib.ListN.{length, length-set}
use mathlib.Core.List.{List, [], ◌∷◌, ◌++◌}
use mathlib.Core.Path.{◌≡◌, refl, sym, ap, ◌∙◌}
use Prim.Native.Nat.{ℕ, ◌-◌, ◌+◌}
use native.Mathlib.Omega.{arith}
use borrow.Author.Rules.{rules}
use Rattle.machine.proofs.write.put_opened_front.Goals as goal

pub returns : goal.returns
unfolding stored_front
returns c =
    let a = c.args in
    let counters : length a.c.counters ≡ 32 = search rules in
    let k : length (only (a.i + 1) a.c.request) ≡ 32 = length-set no_requests (a.i + 1 - 1) a.c.request in
    three a.bytes.now _ _ _ (node_bytes_at a.i) (node_bytes_at a.i + 5) (node_bytes_at a.i + 37)
    (put-copy a.bytes.now _ (node_bytes_at a.i) 5 c.copy_from_slice.ensures.after refl
    ∙ ap (λ (x : ℕ). written a.bytes.now (node_bytes_at a.i)
    (1 ∷ a.c.demand ∷ a.c.request ∷ x ∷ bool_byte a.c.updated ∷ []))
    c.phase_byte.ensures)
    c.put_own.ensures (put-copy _ a.c.counters (node_bytes_at a.i + 37) 32 c.copy_from_slice-2.ensures.after counters) refl
    (omega arith) (omega arith)
    ∙ ap (λ (x : List ℕ). written a.bytes.now (node_bytes_at a.i)
    ((1 ∷ a.c.demand ∷ a.c.request ∷ phase_byte a.c.phase ∷ bool_byte a.c.updated ∷ []) ++ (x ++ a.c.counters)))
    (sym c.requires.2)
