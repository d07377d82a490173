-- The five parts of a live node's bytes are put one behind another.
use mathlib.Core.List.{[], ◌∷◌}
use mathlib.Core.Path.{◌≡◌, refl, sym, ap, ◌∙◌}
use lib.ListN.{length, replicate}
use Rattle.lists.specs.Bytes.{bytes32}
use Rattle.lists.proofs.Chain.{retry}
use Rattle.node.specs.declared.Core.{Core}
use Rattle.machine.specs.Layout.{store}
use Rattle.machine.specs.Loading.{member_read}
use Rattle.machine.proofs.Owned.{told-whole}
use Rattle.sites.proofs.one.Laws.{live-put}
use borrow.Author.Rules.{rules}
use Rattle.sites.proofs.one.put_live.Goals as goal

pub returns : goal.returns
returns c =
    let o = c.tell_owners in
    let k = c.core-c.ensures in
    let s = store c.args.words.now c.args.bytes.now in
    let n = (member_read s c.args.j).node in
    let w = o.ensures ∙ told-whole s c.args.j (replicate 80 0) refl c.requires.1 in
    let long : length o.new.out ≡ 80 = search rules in
    live-put n c.requires.0 (ap length (sym w) ∙ long) c.put_byte-a.ensures
    (retry (c.word_bytes-version.ensures ∙ ap (λ (x : Core). bytes32 x.version) k) c.put_bytes-b.ensures)
    (retry (c.word_bytes-flags.ensures ∙ ap (λ (x : Core). bytes32 x.flags) k) c.put_bytes-d.ensures)
    (retry (ap (λ (x : Core). x.request ∷ []) k) c.put_byte-e.ensures)
    (retry w c.put_bytes.ensures)
