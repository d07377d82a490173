use mathlib.Core.Path.{◌≡◌, sym, ap, ◌∙◌}
use Prim.Native.Nat.{◌≤◌, ◌-◌}
use native.Mathlib.Omega.{arith}
use borrow.Author.Rules.{rules}
use lib.ListN.{length, take, drop, length-drop}
use lib.Seq.{take_all}
use Rattle.area.specs.Area.{node_size}
use Rattle.lists.proofs.Laws.{window-span}
use Rattle.area.proofs.list_at.Goals as goal

pub returns : goal.returns
returns c =
    let s = c.args.s.now in
    let at = c.args.at in
    let h : length s ≡ node_size = search rules in
    let k : length (drop at s) ≤ node_size - at = simp length-drop (omega arith) in
    (rw c.unwrap.ensures at c.first_chunk.ensures.cases).same ∙ ap (take 32) (take_all (node_size - at) (drop at s) k)
    ∙ sym (window-span 32 s at (omega arith))
