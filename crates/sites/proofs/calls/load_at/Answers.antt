-- The machine loads the part of the site; where it is done, the number's places are freed and its slot is taken.
use mathlib.Core.Path.{◌≡◌, refl, sym, ap, ◌∙◌}
use native.Mathlib.Omega.{arith}
use lib.ListN.{length}
use lib.Seq.{length-take-le}
use Rattle.words.proofs.Tests.{hit, skip}
use Rattle.machine.proofs.Refused.{handed}
use Rattle.node.proofs.Answers.{answered-ok, answered-err, done-is}
use Rattle.node.specs.Answers.{is_done}
use Rattle.machine.specs.Layout.{Store, store, words_size, bytes_size, site_in}
use Rattle.machine.specs.timed.Stored.{stored_load_answer, stored_load, timed_loaded_store, timed_loaded_site}
use Rattle.group.specs.Places.{top_places, freed}
use Rattle.group.proofs.Places.{length-freed}
use Rattle.sites.specs.many.Memory.{memory, store_at, places_in}
use Rattle.sites.specs.many.Inner.{loaded_by}
use Rattle.sites.proofs.many.Lists.{front_length}
use Rattle.sites.proofs.many.Memories.{cut-store, cut-words, cut-bytes, words_back, bytes_back, table-back}
use Rattle.sites.proofs.calls.load_at.Goals as goal

pub returns-in_err-day : goal.returns-in_err-day
unfolding loaded_by
returns-in_err-day c =
    let a = c.args in
    let q = c.requires in
    let m = memory a.words.now a.bytes.now a.table.now in
    let ws = a.w.now in
    let s = store_at m a.i in
    let S = timed_loaded_store s a.f a.t a.epochs ws in
    let e = cut-store m a.i in
    let l = c.load in
    let o = l.ensures in
    let v : store l.new.words l.new.bytes ≡ S = (λ k. record { words = o.words_after k; bytes = o.bytes_after k })
    ∙ ap (λ (x : Store). timed_loaded_store x a.f a.t a.epochs ws) e in
    let w = ap (λ (x : Store). x.words) v in
    let b = ap (λ (x : Store). x.bytes) v in
    let lw : length S.words ≡ words_size = ap length (sym w) ∙ l.auto.words ∙ cut-words m a.i q.0 q.3 in
    let lb : length S.bytes ≡ bytes_size = ap length (sym b) ∙ l.auto.bytes ∙ cut-bytes m a.i q.1 q.3 in
    let site : site_in S ≡ timed_loaded_site s a.f a.t a.epochs ws = ap site_in (sym v) ∙ o.bytes_after_2
    ∙ ap (λ (x : Store). timed_loaded_site x a.f a.t a.epochs ws) e in
    let told : l.result ≡ stored_load s a.f a.t a.epochs ws = o.value ∙ ap (λ (x : Store). stored_load x a.f a.t a.epochs ws) e in
    let k = answered-err _ _ (sym told ∙ c.in_err-day.was) in record {
      value = handed _ c.from_residual.ensures.1 ∙ sym k;
      words_after = words_back m a.i S lw w;
      bytes_after = bytes_back m a.i S lb b;
      table_after = sym (skip _ _ _ _ (ap is_done k) refl);
      sized = ((lw, lb), site);
    }

pub slice_bounds-free-end-2 : goal.slice_bounds-free-end-2
slice_bounds-free-end-2 c =
    let q = c.requires in
    sym (length-take-le 256 c.args.table.now (omega (arith, q.2)))

pub set_site_slot-requires : goal.set_site_slot-requires
set_site_slot-requires c =
    let a = c.args in
    let q = c.requires in
    let k : length c.free.new.places ≡ 256 = c.free.auto.places
    ∙ length-take-le 256 a.table.now (omega (arith, q.2)) in
    (omega (arith, q.2, front_length a.table.now c.free.new.places 256 k (omega (arith, q.2))), q.3)

pub returns : goal.returns
unfolding loaded_by
returns c =
    let a = c.args in
    let q = c.requires in
    let m = memory a.words.now a.bytes.now a.table.now in
    let ws = a.w.now in
    let s = store_at m a.i in
    let S = timed_loaded_store s a.f a.t a.epochs ws in
    let e = cut-store m a.i in
    let l = c.load in
    let o = l.ensures in
    let v : store l.new.words l.new.bytes ≡ S = (λ k. record { words = o.words_after k; bytes = o.bytes_after k })
    ∙ ap (λ (x : Store). timed_loaded_store x a.f a.t a.epochs ws) e in
    let w = ap (λ (x : Store). x.words) v in
    let b = ap (λ (x : Store). x.bytes) v in
    let lw : length S.words ≡ words_size = ap length (sym w) ∙ l.auto.words ∙ cut-words m a.i q.0 q.3 in
    let lb : length S.bytes ≡ bytes_size = ap length (sym b) ∙ l.auto.bytes ∙ cut-bytes m a.i q.1 q.3 in
    let site : site_in S ≡ timed_loaded_site s a.f a.t a.epochs ws = ap site_in (sym v) ∙ o.bytes_after_2
    ∙ ap (λ (x : Store). timed_loaded_site x a.f a.t a.epochs ws) e in
    let told : l.result ≡ stored_load s a.f a.t a.epochs ws = o.value ∙ ap (λ (x : Store). stored_load x a.f a.t a.epochs ws) e in
    let k = answered-ok _ _ (sym told ∙ c.in_ok-day.was) in
    let d = k.0 in
    let p : length (freed a.a (places_in a.table.now)) ≡ top_places = length-freed a.a (places_in a.table.now)
    ∙ length-take-le top_places a.table.now (omega (arith, q.2)) in record {
      value = sym (done-is (stored_load_answer s a.f a.t a.epochs ws) d);
      words_after = words_back m a.i S lw w;
      bytes_after = bytes_back m a.i S lb b;
      table_after = c.set_site_slot.ensures
          ∙ table-back a.table.now a.i p c.free.ensures k.1
          ∙ sym (hit _ _ _ d);
      sized = ((lw, lb), site);
    }
