-- The parts of the site and of the places go through one turn, come back to where they lay, and its day is written.
use mathlib.Core.Path.{◌≡◌, sym, ap, ap₂, ◌∙◌}
use Prim.Native.Nat.{◌-◌, ◌+◌, ◌*◌}
use native.Mathlib.Omega.{arith}
use mathlib.Core.Bool.{Bool}
use lib.ListN.{length, take, drop}
use lib.Seq.{length-take-le}
use Rattle.machine.specs.Layout.{Store, store, words_size, bytes_size, site_in}
use Rattle.group.specs.Places.{top_places}
use Rattle.sites.specs.many.Memory.{memory, lent, places_in}
use Rattle.sites.specs.many.Inner.{OneSite, one_site, common_full, lone_in, answer_by, day_by, tally_by, lent_store_by, site_by, places_by, area_by}
use Rattle.sites.specs.many.Inner.{report_by, memory_by}
use Rattle.sites.proofs.many.Lists.{front_length}
use Rattle.sites.proofs.many.Memories.{cut-store, cut-words, cut-bytes, words_back, bytes_back, table-back}
use Rattle.sites.proofs.calls.event_at.Goals as goal

pub slice_bounds-turn-end-4 : goal.slice_bounds-turn-end-4
slice_bounds-turn-end-4 c =
    let q = c.requires
    in
    sym (length-take-le 256 c.args.table.now (omega (arith, q.2)))

pub turn-answer-requires : goal.turn-answer-requires
turn-answer-requires c =
    let a = c.args in
    let q = c.requires in
    let m = memory a.words.now a.bytes.now a.table.now in (
      omega (arith, cut-words m a.i q.0 q.3),
      omega (arith, cut-bytes m a.i q.1 q.3),
      length-take-le 256 a.table.now (omega (arith, q.2)),
      q.4,
    )

pub set_site_slot-requires : goal.set_site_slot-requires
set_site_slot-requires c =
    let a = c.args in
    let q = c.requires
    in
    let m = memory a.words.now a.bytes.now a.table.now in
    let t = c.turn-answer in
    let k : length t.new.list ≡ 256 = t.auto.list ∙ length-take-le 256 a.table.now (omega (arith, q.2)) in
    (omega (arith, q.2, front_length a.table.now t.new.list 256 k (omega (arith, q.2))), q.3)

pub returns : goal.returns
unfolding memory_by
returns c =
    let a = c.args in
    let q = c.requires in
    let m = memory a.words.now a.bytes.now a.table.now in
    let v = lent a.w.now a.t.now a.out.now in
    let x = lone_in m a.area.now a.i a.a in
    let t = c.turn-answer in
    let o = t.ensures in
    let X : one_site (store (take (words_size * a.i + words_size - words_size * a.i) (drop (words_size * a.i) a.words.now))
    (take (bytes_size * a.i + bytes_size - bytes_size * a.i) (drop (bytes_size * a.i) a.bytes.now)))
    c.day_at-day.result a.a (places_in a.table.now) a.area.now
    ≡ x = λ k. one_site (cut-store m a.i k)
    (c.day_at-day.ensures k) a.a (places_in a.table.now) a.area.now in
    let F = c.is_full-full.ensures in
    let day = o.day_after ∙ ap₂ (λ (y : OneSite) (f : Bool). day_by y f v a.e) X F in
    let st : store t.new.words t.new.bytes ≡ lent_store_by x (common_full m a.e) v a.e =
    (λ k. record { words = o.words_after k; bytes = o.bytes_after k }) ∙ ap₂ (λ (y : OneSite) (f : Bool). lent_store_by y f v a.e) X F in
    let w = ap (λ (y : Store). y.words) st in
    let b = ap (λ (y : Store). y.bytes) st in
    let S = lent_store_by x (common_full m a.e) v a.e in
    let lw : length S.words ≡ words_size = ap length (sym w) ∙ t.auto.words ∙ cut-words m a.i q.0 q.3 in
    let lb : length S.bytes ≡ bytes_size = ap length (sym b) ∙ t.auto.bytes ∙ cut-bytes m a.i q.1 q.3 in
    let p = o.list_after ∙ ap₂ (λ (y : OneSite) (f : Bool). places_by y f v a.e) X F in
    let lp : length (places_by x (common_full m a.e) v a.e) ≡ top_places = ap length (sym p) ∙ t.auto.list
    ∙ length-take-le 256 a.table.now (omega (arith, q.2)) in
    let site : site_in S ≡ site_by x (common_full m a.e) v a.e = ap site_in (sym st) ∙ o.site_after
    ∙ ap₂ (λ (y : OneSite) (f : Bool). site_by y f v a.e) X F in record {
      value = o.value ∙ ap₂ (λ (y : OneSite) (f : Bool). answer_by y f v a.e) X F;
      tally_after = o.tally_after ∙ ap₂ (λ (y : OneSite) (f : Bool). tally_by y f v a.e) X F;
      words_after = words_back m a.i S lw w;
      bytes_after = bytes_back m a.i S lb b;
      table_after = c.set_site_slot.ensures
          ∙ table-back a.table.now a.i lp p day;
      area_after = o.area_after ∙ ap₂ (λ (y : OneSite) (f : Bool). area_by y f v a.e) X F;
      out_after = o.out_after ∙ ap₂ (λ (y : OneSite) (f : Bool). report_by y f v a.e) X F;
      sized = ((lw, lb), lp, site);
    }
