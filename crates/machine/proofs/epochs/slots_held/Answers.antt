use mathlib.Core.Path.{◌∙◌}
use Prim.Native.Nat.{ℕ, ◌+◌}
use borrow.Author.Rules.{rules}
use Rattle.lists.proofs.Laws.{tab-ext}
use Rattle.machine.specs.Layout.{store}
use Rattle.machine.specs.Loading.{slots_read}
use Rattle.machine.proofs.Made.{made}
use Rattle.machine.proofs.combined.Held.{slots_read_lem}
use Rattle.machine.proofs.epochs.slots_held.Goals as goal

pub returns : goal.returns
returns c =
    let s = store c.args.m.words.now c.args.m.bytes.now in
    made _ _ (λ (i : ℕ). slots_read s (i + 1)) 0 32 (λ i y q l k. search rules) _ c.from_fn.ensures.items
    ∙ tab-ext 32 _ _ (λ i l. slots_read_lem s i c.args.m.long.0 c.args.m.long.1 l)
