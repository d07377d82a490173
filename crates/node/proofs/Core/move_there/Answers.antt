use mathlib.Core.List.{List}
use mathlib.Core.Logic.{◌⊎◌, inl, inr}
use mathlib.Core.Path.{◌≡◌, sym, ap, ◌∙◌}
use Prim.Native.Nat.{ℕ, ◌+◌, ◌≤◌}
use lib.ListN.{length}
use Rattle.node.specs.InPlace.{both_size, moved_there, dropped_in}
use Rattle.node.specs.declared.Core.{Core}
use Rattle.node.specs.declared.Move.{Move}
use Rattle.node.specs.declared.Move.TheVariants.{Drop, Free}
use Rattle.node.proofs.Moved.{drop-there, free-there}
use Rattle.node.proofs.Core.move_there.Goals as goal

dropped : (m : Move) (c : Core) (l : List ℕ) (at : ℕ) {r : List ℕ} → (m ≡ Drop) ⊎ (m ≡ Free) → at + both_size ≤ length l
    → r ≡ dropped_in m l at → r ≡ moved_there m c l at
dropped m c l at (inl e) h f = f ∙ ap (λ (x : Move). dropped_in x l at) e ∙ drop-there c l at h ∙ sym (ap (λ (x : Move). moved_there x c l at) e)
dropped m c l at (inr e) h f = f ∙ ap (λ (x : Move). dropped_in x l at) e ∙ free-there c l at h ∙ sym (ap (λ (x : Move). moved_there x c l at) e)

pub returns-in-Drop : goal.returns-in-Drop
returns-in-Drop c = dropped c.args.change c.args.self c.args.s.now c.args.at c.in-Drop.is c.requires c.drop_at.ensures
