use mathlib.Core.Path.{sym}
use Rattle.lists.proofs.Chain.{recast}
use Rattle.machine.specs.Layout.{store}
use Rattle.sites.proofs.one.Laws.{live-bytes, rest-bytes}
use Rattle.sites.proofs.one.put_node.Goals as goal

pub returns-then-live : goal.returns-then-live
returns-then-live c =
    let s = store c.args.words.now c.args.bytes.now in
    recast (sym (live-bytes s c.args.j c.requires.1 c.live.ensures c.if-live.true)) c.put_live.ensures

pub returns : goal.returns
returns c =
    let s = store c.args.words.now c.args.bytes.now in
    recast (sym (rest-bytes s c.args.j c.requires.1 c.live.ensures c.if-live.false
    c.up.ensures)) c.put_rest.ensures
