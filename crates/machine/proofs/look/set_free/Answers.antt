use mathlib.Core.Path.{◌≡◌, sym, ap, ◌∙◌}
use Prim.Native.Nat.{ℕ}
use Rattle.words.proofs.Tests.{hit, or-front, or-back}
use Rattle.node.specs.Core.{bare}
use Rattle.site.specs.Members.{outside}
use Rattle.machine.specs.Layout.{Store, store, too_short, config_in}
use Rattle.machine.specs.Written.{written_free, member_put}
use Rattle.machine.proofs.Seats.{outside-as, at-node-index}
use Rattle.machine.proofs.Whole.{long-enough, stored-member}
use Rattle.machine.proofs.look.set_free.Goals as goal

pub returns-then-is_short : goal.returns-then-is_short
unfolding member_put
returns-then-is_short c =
    let a = c.args in
    let s = store a.words.now a.bytes.now in
    let e : s ≡ member_put s a.j (record { up = a.up; node = bare a.c }) =
    sym (hit _ _ _ (or-front (too_short s) (outside (config_in s) a.j) (sym c.is_short.ensures ∙ c.if-is_short.true))) in record {
      words_after = ap (λ (x : Store). x.words) e;
      bytes_after = ap (λ (x : Store). x.bytes) e;
    }

pub returns-then-outside : goal.returns-then-outside
unfolding member_put
returns-then-outside c =
    let a = c.args in
    let s = store a.words.now a.bytes.now in
    let o = outside-as s a.j c.header-k.ensures c.outside.ensures c.if-outside.true in
    let e : s ≡ member_put s a.j (record { up = a.up; node = bare a.c }) =
    sym (hit _ _ _ (or-back (too_short s) (outside (config_in s) a.j) o)) in record {
      words_after = ap (λ (x : Store). x.words) e;
      bytes_after = ap (λ (x : Store). x.bytes) e;
    }

pub put_free-requires : goal.put_free-requires
put_free-requires c =
    let a = c.args in
    let h = long-enough (store a.words.now a.bytes.now) (sym c.is_short.ensures ∙ c.if-is_short.false) in
    (c.node_index.ensures.within, h.0, h.1)

pub returns : goal.returns
returns c =
    let a = c.args in
    let s = store a.words.now a.bytes.now in
    let h = long-enough s (sym c.is_short.ensures ∙ c.if-is_short.false) in
    let o = outside-as s a.j c.header-k.ensures c.outside.ensures c.if-outside.false in
    let e = at-node-index (config_in s) a.j c.node_index.ensures.value o in
    let z = sym (stored-member s a.j h.0 h.1 o (record { up = a.up; node = bare a.c })) in record {
      words_after = c.put_free.ensures.words_after ∙ ap (λ (x : ℕ). (written_free s x (record { up = a.up; node = bare a.c })).words) e
          ∙ ap (λ (x : Store). x.words) z;
      bytes_after = c.put_free.ensures.bytes_after ∙ ap (λ (x : ℕ). (written_free s x (record { up = a.up; node = bare a.c })).bytes) e
          ∙ ap (λ (x : Store). x.bytes) z;
    }
