use mathlib.Core.Path.{refl, sym, ap, ◌∙◌}
use lib.ListN.{length}
use Rattle.words.proofs.Tests.{hit, skip}
use Rattle.machine.specs.Layout.{store}
use Rattle.machine.proofs.Owned.{told-whole}
use Rattle.machine.proofs.Whole.{live-placed}
use Rattle.desk.proofs.listing.show_owners.Goals as goal

pub returns-then-not-is_live : goal.returns-then-not-is_live
returns-then-not-is_live c =
    c.requires ∙ sym (skip _ _ _ _ (sym c.is_live.ensures ∙ c.if-not-is_live.true) refl)

pub returns : goal.returns
returns c =
    let live = sym c.is_live.ensures ∙ c.if-not-is_live.false in
    let s = store c.args.words.now c.args.bytes.now in
    c.tell_owners.ensures
    ∙ told-whole s c.args.j c.args.owners.now (ap length c.requires) (live-placed s c.args.j live) ∙ sym (hit _ _ _ live)
