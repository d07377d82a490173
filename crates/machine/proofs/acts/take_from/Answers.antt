use mathlib.Core.List.{List}
use mathlib.Core.Path.{sym, ap, ◌∙◌}
use Prim.Native.Nat.{ℕ}
use native.Mathlib.Omega.{arith}
use Rattle.lists.specs.Bytes.{written}
use Rattle.node.specs.Core.{core_of, bare}
use Rattle.machine.specs.Inner.{member_of}
use Rattle.site.specs.Steps.{taken_member}
use Rattle.machine.specs.Layout.{store, node_bytes_at, stored_front, node_in, stored_in}
use Rattle.machine.specs.Written.{handed_on, taken_at}
use Rattle.machine.proofs.Moves.{stepped, taken-core, version-there, handed-node}
use Rattle.machine.proofs.acts.take_from.Goals as goal

pub put_row-requires : goal.put_row-requires
put_row-requires c = let p =
    c.requires
    in (p.0, p.2)

pub put_front-requires : goal.put_front-requires
put_front-requires c =
    let p = c.requires in
    let k = c.copy.auto.s in
    (p.0, omega (arith, p.3, k))

pub move_schedules-requires : goal.move_schedules-requires
move_schedules-requires c =
    let p = c.requires in
    let k = c.copy.auto.s in
    let l = c.put_front.auto.bytes in
    (p.0, omega (arith, p.3, k, l))

pub returns : goal.returns
unfolding taken_at
returns c =
    let a = c.args in
    let p = c.requires in
    let i = a.i in
    let s = store a.words.now a.bytes.now in
    let n = node_in s i in
    let o = node_in s a.h in
    let next = c.take-o.result.core in
    let up = c.is_up-up.result in
    let core = c.core-c.ensures in
    let made = taken-core n core o (c.version.ensures ∙ version-there s a.h)
    c.take-o.ensures in
    let handed = core ∙ sym (ap core_of (handed-node s i a.h p.0 p.1 p.3)) in
    let front = c.put_front.ensures
    ∙ ap (λ (l : List ℕ). written l (node_bytes_at i) (stored_front (member_of up (bare next))))
    c.copy.ensures
    in
    let whole = stepped (handed_on s i a.h) i (taken_member (stored_in s i) (stored_in s a.h))
    c.is_up-up.ensures made.0 made.1 handed
    c.put_row.ensures front
    c.move_schedules.ensures in record {
      words_after = whole.0;
      bytes_after = whole.1;
    }
