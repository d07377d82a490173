-- The bytes of the packet's place go to the hear.
use mathlib.Core.Path.{◌≡◌, ap, ◌∙◌}
use mathlib.Core.Bool.{not}
use Prim.Native.Nat.{◌-◌, ◌≤◌}
use native.Mathlib.Omega.{arith}
use lib.ListN.{length}
use lib.Seq.{take_all}
use Rattle.node.specs.Answers.{Answer}
use Rattle.wire.specs.Reads.{part_of}
use Rattle.site.specs.Counts.{packets}
use Rattle.machine.specs.Layout.{Store, store, site_in}
use Rattle.machine.specs.combined.Kept.{first_refusal}
use Rattle.sites.specs.many.Inner.{own_by}
use Rattle.sites.proofs.many.Hears.{part-there, heard-done, heard-refused}
use borrow.Author.Rules.{rules}
use Rattle.sites.proofs.turns.hear.Goals as goal

pub returns-then-is_err : goal.returns-then-is_err
returns-then-is_err c =
    let a = c.args
    in
    let p = c.requires
    in
    let s = store a.words.now a.bytes.now in
    let part = c.heard_bytes-part.result in
    let own = own_by a.list.now a.area.now a.a s in
    let l : length part ≡ 45 = search rules in
    let t : part_of part 0 ≡ part = take_all 45 part (omega (arith, l)) in
    let f : 1 ≤ a.p → a.p ≤ packets (site_in s).sent → part_of part 0 ≡ part_of own (a.p - 1) = λ h k. t
    ∙ c.heard_bytes-part.ensures
    ∙ part-there s a.list.now a.area.now a.a a.p h k in
    let h = c.is_err.ensures.negation ∙ ap not c.if-is_err.true in
    let z = heard-refused s p.0 p.1 (part_of part 0) own a.j a.p f a.o h in record {
      value = c.first_of.ensures ∙ ap (λ (x : Answer). first_refusal x a.o) c.answer_from.ensures ∙ z.0;
      words_after = ap (λ (x : Store). x.words) z.1;
      bytes_after = ap (λ (x : Store). x.bytes) z.1;
    }

pub returns : goal.returns
returns c =
    let a = c.args in
    let p = c.requires in
    let s = store a.words.now a.bytes.now in
    let part = c.heard_bytes-part.result in
    let own = own_by a.list.now a.area.now a.a s in
    let l : length part ≡ 45 = search rules in
    let t : part_of part 0 ≡ part = take_all 45 part (omega (arith, l)) in
    let f : 1 ≤ a.p → a.p ≤ packets (site_in s).sent → part_of part 0 ≡ part_of own (a.p - 1) = λ h k. t
    ∙ c.heard_bytes-part.ensures
    ∙ part-there s a.list.now a.area.now a.a a.p h k in
    let h = c.is_err.ensures.negation ∙ ap not c.if-is_err.false in
    let z = heard-done s p.0 p.1 (part_of part 0) own a.j a.p f a.o h in
    let o = c.hear_from.ensures in record {
      value = o.value ∙ z.0;
      words_after = o.words_after ∙ ap (λ (x : Store). x.words) z.1;
      bytes_after = o.bytes_after ∙ ap (λ (x : Store). x.bytes) z.1;
    }
