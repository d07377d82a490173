-- Each arm is its event's own contract, with the event known from the match; what an arm does not lend stays as it was.
use mathlib.Core.Path.{◌≡◌, refl, sym, ap, ◌∙◌}
use mathlib.Core.List.{List}
use Prim.Native.Nat.{ℕ}
use Rattle.machine.specs.Layout.{Store, store, site_in}
use Rattle.machine.proofs.Whole.{as-closed, as-ended, has-place}
use Rattle.machine.proofs.Seats.{in-config}
use Rattle.machine.proofs.steps.Whole.{told-long}
use Rattle.machine.specs.steps.After.{next_store, sent_store, storage_answer, wanted_store}
use Rattle.node.specs.Answers.{Done}
use native.Mathlib.Omega.{arith}
use Rattle.site.proofs.Accepted.{take-accepted, want-accepted, crash-accepted, restart-accepted}
use Rattle.site.specs.Steps.{next_area}
use Rattle.site.specs.declared.Event.{Event}
use Rattle.machine.proofs.events.apply.Goals as goal

-- an arm knows which event it has: what is said of that event is said of the one lent
module _ (s : Store) (area : List ℕ) {e x : Event} (q : e ≡ x) where
  accepted : storage_answer s area e ≡ Done → storage_answer s area x ≡ Done
  accepted h = sym (ap (storage_answer s area) q) ∙ h

  done : {w b l : List ℕ} → w ≡ (next_store s area x).words → b ≡ (next_store s area x).bytes → l ≡ next_area (site_in s) area x
      → (w ≡ (next_store s area e).words) × ((b ≡ (next_store s area e).bytes) × (l ≡ next_area (site_in s) area e))
  done h k m = (
    h ∙ ap (λ (y : Event). (next_store s area y).words) (sym q),
    (k ∙ ap (λ (y : Event). (next_store s area y).bytes) (sym q), m ∙ ap (λ (y : Event). next_area (site_in s) area y) (sym q)),
  )

pub send-requires : goal.send-requires
send-requires c =
    let s = store c.args.words.now c.args.bytes.now in
    accepted s c.args.area.now c.in-Send.is c.requires

pub hear-requires : goal.hear-requires
hear-requires c =
    let s = store c.args.words.now c.args.bytes.now in
    accepted s c.args.area.now c.in-Hear.is c.requires

pub take-requires : goal.take-requires
take-requires c =
    let s = store c.args.words.now c.args.bytes.now in
    let e = c.in-Take in
    let p = told-long s c.args.area.now _ (accepted s c.args.area.now e.is c.requires) in
    let q = take-accepted (site_in s) _ _ p.1.1 in
    (has-place s e.j p.0 p.1.0 (in-config s e.j q.taker), has-place s e.g p.0 p.1.0 (in-config s e.g q.sender))

pub want-requires : goal.want-requires
want-requires c =
    let s = store c.args.words.now c.args.bytes.now in
    let p = told-long s c.args.area.now _ (accepted s c.args.area.now c.in-Want.is c.requires) in
    let q = want-accepted (site_in s) _ _ p.1.1 in
    (has-place s c.in-Want.j p.0 p.1.0 (in-config s c.in-Want.j q.0.node), omega (arith, q.1))

pub crash-requires : goal.crash-requires
crash-requires c =
    let s = store c.args.words.now c.args.bytes.now in
    let p = told-long s c.args.area.now _ (accepted s c.args.area.now c.in-Crash.is c.requires) in
    has-place s c.in-Crash.j p.0 p.1.0 (in-config s c.in-Crash.j (crash-accepted (site_in s) _ p.1.1).node)

pub restart-requires : goal.restart-requires
restart-requires c =
    let s = store c.args.words.now c.args.bytes.now in
    let p = told-long s c.args.area.now _ (accepted s c.args.area.now c.in-Restart.is c.requires) in
    has-place s c.in-Restart.j p.0 p.1.0 (in-config s c.in-Restart.j (restart-accepted (site_in s) _ _ p.1.1).node)

pub returns-in-Send : goal.returns-in-Send
unfolding sent_store
returns-in-Send c =
    let s = store c.args.words.now c.args.bytes.now in
    let whole = done s c.args.area.now c.in-Send.is refl c.send.ensures.bytes_after c.send.ensures.area_after in record {
      words_after = whole.0;
      bytes_after = whole.1.0;
      area_after = whole.1.1;
    }

pub returns-in-Hear : goal.returns-in-Hear
returns-in-Hear c =
    let s = store c.args.words.now c.args.bytes.now in
    let whole = done s c.args.area.now c.in-Hear.is c.hear.ensures.words_after c.hear.ensures.bytes_after refl in record {
      words_after = whole.0;
      bytes_after = whole.1.0;
      area_after = whole.1.1;
    }

pub returns-in-Close : goal.returns-in-Close
returns-in-Close c =
    let s = store c.args.words.now c.args.bytes.now in
    let p = told-long s c.args.area.now _ c.requires in
    let h = as-closed s p.0 p.1.0 in
    let whole = done s c.args.area.now c.in-Close.is (c.close.ensures.words_after ∙ ap (λ (x : Store). x.words) h)
    (c.close.ensures.bytes_after ∙ ap (λ (x : Store). x.bytes) h) refl in record {
      words_after = whole.0;
      bytes_after = whole.1.0;
      area_after = whole.1.1;
    }

pub returns-in-Take : goal.returns-in-Take
returns-in-Take c =
    let s = store c.args.words.now c.args.bytes.now in
    let whole = done s c.args.area.now c.in-Take.is c.take.ensures.words_after c.take.ensures.bytes_after refl in record {
      words_after = whole.0;
      bytes_after = whole.1.0;
      area_after = whole.1.1;
    }

pub returns-in-End : goal.returns-in-End
returns-in-End c =
    let s = store c.args.words.now c.args.bytes.now in
    let p = told-long s c.args.area.now _ c.requires in
    let h = as-ended s p.0 p.1.0 in
    let whole = done s c.args.area.now c.in-End.is (c.end.ensures.words_after ∙ ap (λ (x : Store). x.words) h)
    (c.end.ensures.bytes_after ∙ ap (λ (x : Store). x.bytes) h) refl in record {
      words_after = whole.0;
      bytes_after = whole.1.0;
      area_after = whole.1.1;
    }

pub returns-in-Want : goal.returns-in-Want
unfolding wanted_store
returns-in-Want c =
    let s = store c.args.words.now c.args.bytes.now in
    let whole = done s c.args.area.now c.in-Want.is refl c.want.ensures refl in record {
      words_after = whole.0;
      bytes_after = whole.1.0;
      area_after = whole.1.1;
    }

pub returns-in-Crash : goal.returns-in-Crash
returns-in-Crash c =
    let s = store c.args.words.now c.args.bytes.now in
    let whole = done s c.args.area.now c.in-Crash.is c.crash.ensures.words_after c.crash.ensures.bytes_after refl in record {
      words_after = whole.0;
      bytes_after = whole.1.0;
      area_after = whole.1.1;
    }

pub returns-in-Restart : goal.returns-in-Restart
returns-in-Restart c =
    let s = store c.args.words.now c.args.bytes.now in
    let whole = done s c.args.area.now c.in-Restart.is c.restart.ensures.words_after c.restart.ensures.bytes_after refl in record {
      words_after = whole.0;
      bytes_after = whole.1.0;
      area_after = whole.1.1;
    }
