-- Slots held, over every list of events.
-- Assumes nothing.
use mathlib.Core.Path.{◌≡◌, refl, sym, subst}
use mathlib.Core.Bool.{true}
use mathlib.Core.List.{List, [], ◌∷◌, ◌++◌, append-nil, append_assoc}
use Prim.Native.Nat.{ℕ}
use Rattle.site.specs.Load.{loaded_site}
use Rattle.site.specs.Run.{RunState, after, run}
use Rattle.node.specs.declared.Config.{Config}
use Rattle.site.specs.declared.Table.{Table}
use Rattle.site.specs.declared.Event.{Event}
use Rattle.site.specs.Model.{Site}
use Rattle.histories.specs.Past.{Past, no_past, past_after, trace}
use Rattle.histories.specs.Reached.{begin}
use Rattle.agreement.proofs.Theorem.{holds}
use Rattle.tally.specs.Counting.{tally_ok}
use Rattle.tally.specs.Ends.{schedules_of}
use Rattle.tally.proofs.Valid.{first-valid, valid, by-nodes}
use Rattle.tally.proofs.Steps.{same_answer, same-site, same_area, stays-valid}
use Rattle.agreement.specs.accounts.Accounts.{Account, after_tallied, run_tallied, account, epoch_site, epoch_sites, heeded, Accounts}
use Rattle.agreement.proofs.accounts.Counted.{Goes, goes}
use Rattle.agreement.proofs.accounts.Slots.{Sums, sums-step, sums-loaded}
use Rattle.agreement.proofs.accounts.Spoilt.{run-heeded, spoilt-stays}
use Rattle.agreement.proofs.accounts.Once.{once}

-- what holds after each event
pub record Keeps (past : Past) (w : RunState) (l : List Site) (a : Account) : Type 0 where
  pub state : a.state ≡ w
  pub ok : tally_ok a.tally ≡ true
  pub epochs : Goes past a.tally
  pub sums : Sums l a.tally

step : {past : Past} {w : RunState} {l : List Site} {a : Account} (e : Event) → Keeps past w l a
    → Keeps (past_after past w e) (after w e) (l ++ epoch_site w e) (after_tallied a e)
step {past} {w} {l} {a} e k = subst (λ (x : RunState). Keeps (past_after past x e) (after x e) (l ++ epoch_site x e) (after_tallied a e))
    k.state here
  where
    v : RunState
    v = a.state

    here : Keeps (past_after past v e) (after v e) (l ++ epoch_site v e) (after_tallied a e)
    here =
        let s = same-site v.site v.area a.tally k.ok e in
        let r = same_area v.site v.area a.tally k.ok e in
        record {
          state = λ i. record { site = s i; area = r i };
          ok = stays-valid v.site v.area a.tally e k.ok;
          epochs = goes past v a.tally e k.ok k.epochs;
          sums = sums-step l v a.tally e k.ok k.sums;
        }

steps : {past : Past} {w : RunState} {l : List Site} {a : Account} (es : List Event) → Keeps past w l a
    → Keeps (trace past w es) (run w es) (l ++ epoch_sites w es) (run_tallied a es)
unfolding trace run run_tallied epoch_sites
steps {past = past} {w} {l} {a} [] k = subst (λ (x : List Site). Keeps past w x a) (sym (append-nil l)) k
steps {past = past} {w} {l} {a} (e ∷ es) k =
    subst (λ (x : List Site). Keeps (trace (past_after past w e) (after w e) es) (run (after w e) es) x (run_tallied (after_tallied a e) es))
    (append_assoc l (epoch_site w e) (epoch_sites (after w e) es)) (steps {past = past_after past w e} es (step e k))

kept : (f : Config) (t : Table) (area : List ℕ) (es : List Event)
    → Keeps (trace (no_past (loaded_site f t)) (begin f t area) es) (run (begin f t area) es)
    (loaded_site f t ∷ epoch_sites (begin f t area) es) (account f t area es)
kept f t area es = steps es (record { state = refl; ok = first-valid; epochs = refl; sums = sums-loaded f t })

pub accounts : Accounts
accounts =
    record {
      meets = λ s. by-nodes (schedules_of s);
      accounted = λ f t d area es.
          let k = kept f t area es in
          let w = run (begin f t area) es in
          record {
            state = k.state;
            answers = λ e. same_answer w.site w.area (account f t area es).tally k.ok e;
            valid = k.ok;
            epochs = k.epochs;
            slots = k.sums.slots;
            held = k.sums.held;
            total = (valid (account f t area es).tally k.ok).total;
            once = λ u. once f t d u area es;
          };
      lent = λ f t d area cs.
          record {
            state = run-heeded (begin f t area) cs;
            demand3 = λ u. holds.demand3 f t d u area
                (heeded cs);
            tally = λ w c h. spoilt-stays w c h;
          };
    }
