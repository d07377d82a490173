use mathlib.Core.Path.{sym, ap, ◌∙◌}
use mathlib.Core.Bool.{true}
use borrow.Author.Tests.{lt-ltb}
use lib.ListN.{get_or}
use Rattle.words.proofs.Tests.{hit}
use Rattle.node.specs.Core.{bare}
use Rattle.node.proofs.Bare.{begun-bare}
use Rattle.site.specs.Load.{no_row, loaded_member}
use Rattle.site.specs.declared.Row.{Row}
use Rattle.machine.specs.Inner.{member_of}
use Rattle.machine.proofs.load.loaded_core.Goals as goal

pub returns : goal.returns
unfolding loaded_member
returns c =
    let row : Row = get_or c.args.t.rows c.args.i no_row in
    ap (member_of true) (ap bare c.start.ensures ∙ begun-bare _ row.version row.want row.want row.flags)
    ∙ sym (hit _ _ _ (lt-ltb _ _ c.requires.1))
