use mathlib.Core.List.{List}
use mathlib.Core.Path.{ap, ◌∙◌}
use Prim.Native.Nat.{ℕ}
use Rattle.node.specs.InPlace.{moved_in}
use Rattle.node.specs.declared.Move.TheVariants.{Free}
use Rattle.machine.specs.Layout.{schedules_at}
use Rattle.node.proofs.Moved.{free-any}
use Rattle.machine.proofs.write.put_free.Goals as goal

pub returns : goal.returns
returns c =
    let a = c.args in record {
      words_after = c.put_row.ensures;
      bytes_after = c.move_at.ensures
          ∙ ap (λ (l : List ℕ). moved_in Free a.c l (schedules_at a.i))
          c.put_front.ensures ∙ free-any a.c _ _ (schedules_at a.i);
    }
