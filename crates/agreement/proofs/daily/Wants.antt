-- The wants of an epoch, one after another, give each node its demand.
-- Assumes nothing.
use mathlib.Core.Path.{◌≡◌, refl, sym, ap, ◌∙◌}
use mathlib.Core.Bool.{Bool, true, false, cond}
use mathlib.Core.List.{List, [], ◌∷◌, ◌++◌, append-nil}
use Prim.Native.Nat.{ℕ, zero, suc, ◌+◌, ◌≤◌, ◌<◌}
use native.Mathlib.Omega.{arith}
use lib.ListN.{length}
use Rattle.words.proofs.Tests.{hit, skip, read_same}
use Rattle.node.specs.Answers.{is_done}
use Rattle.site.specs.Answers.{area_size, answer_of}
use Rattle.site.specs.Run.{RunState, after, run}
use Rattle.site.specs.Model.{Site}
use Rattle.site.specs.declared.Event.{Event}
use Rattle.site.specs.declared.Event.TheVariants.{Want}
use Rattle.histories.specs.Past.{Past, past_after, trace}
use Rattle.windows.specs.Windows.{list_ok, has_windows, demand_at}
use Rattle.windows.specs.declared.Window.{Window}
use Rattle.machine.specs.timed.Timed.{given_site}
use Rattle.machine.proofs.timed.Laws.{given-same}
use Rattle.machine.proofs.timed.Given.{was, part_site, want-area, want-site, start, stay-site, finish}
use Rattle.agreement.specs.daily.Daily.{wants_of}

-- one list of events after another
pub run-append : (w : RunState) (x y : List Event) → run w (x ++ y) ≡ run (run w x) y
unfolding run
run-append w [] y = refl
run-append w (e ∷ x) y = run-append (after w e) x y

pub trace-append : (past : Past) (w : RunState) (x y : List Event) → trace past w (x ++ y) ≡ trace (trace past w x) (run w x) y
unfolding run trace
trace-append past w [] y = refl
trace-append past w (e ∷ x) y = trace-append (past_after past w e) (after w e) x y

-- a want adds nothing to the past
no-past : (past : Past) (w : RunState) (j d : ℕ) → past_after past w (Want j d) ≡ past
unfolding past_after
no-past past w j d = read_same (λ (x : Past). x) (is_done (answer_of w.site w.area (Want j d))) past past past refl refl

module _ (ws : List Window) (e D : ℕ) (s : Site) (area : List ℕ) (long : length s.members ≡ 32) (room : area_size ≤ length area)
    (ok : list_ok s.config.nodes D ws ≡ true) where
  -- the site once the first n nodes have their demands, with the area
  abbrev state : ℕ → RunState
  state n = record { site = part_site ws e s n; area = area }

  want-state : (n : ℕ) → n < 32 → has_windows ws (n + 1) ≡ true → after (state n) (Want (n + 1) (demand_at ws (n + 1) e)) ≡ state (suc n)
  want-state n l h = λ i. record {
    site = want-site ws e s D area room ok n l h i;
    area = want-area (part_site ws e s n) area (n + 1)
        (demand_at ws (n + 1) e) i;
  }

  -- the wants of the first n nodes
  wants-run : (n : ℕ) → n ≤ 32 → run (record { site = s; area = area }) (wants_of ws e n) ≡ state n
  unfolding wants_of run
  wants-run zero l = λ i. record { site = sym (start ws e s long) i; area = area }
  wants-run (suc n) l = go (has_windows ws (n + 1)) refl (wants-run n (omega (arith, l)))
    where
      go : (t : Bool) → has_windows ws (n + 1) ≡ t → run (record { site = s; area = area }) (wants_of ws e n) ≡ state n
          → run (record { site = s; area = area })
          (wants_of ws e n ++ cond (has_windows ws (n + 1)) (Want (n + 1) (demand_at ws (n + 1) e) ∷ []) []) ≡ state (suc n)
      go true h r =
          ap (λ (l : List Event). run (record { site = s; area = area }) (wants_of ws e n ++ l)) (hit _ _ _ h)
          ∙ run-append (record { site = s; area = area }) (wants_of ws e n) (Want (n + 1) (demand_at ws (n + 1) e) ∷ [])
          ∙ ap (λ (w : RunState). after w (Want (n + 1) (demand_at ws (n + 1) e))) r
          ∙ want-state n (omega (arith, l)) h
      go false h r =
          ap (λ (l : List Event). run (record { site = s; area = area }) (wants_of ws e n ++ l)) (skip _ _ _ _ h refl)
          ∙ ap (run (record { site = s; area = area })) (append-nil (wants_of ws e n))
          ∙ r
          ∙ (λ i. record { site = stay-site ws e s n (omega (arith, l)) (given-same ws e (n + 1) (was ws e s n) h) i; area = area })

  pub wants-all : run (record { site = s; area = area }) (wants_of ws e 32) ≡ record { site = given_site ws e s; area = area }
  wants-all = wants-run 32 (omega arith) ∙ (λ i. record { site = finish ws e s 32 (λ k h l. absurd (omega arith)) i; area = area })

-- wants add nothing to the past
pub wants-past : (past : Past) (w : RunState) (ws : List Window) (e n : ℕ) → trace past w (wants_of ws e n) ≡ past
unfolding wants_of trace
wants-past past w ws e zero = refl
wants-past past w ws e (suc n) = trace-append past w (wants_of ws e n) _
    ∙ ap (λ (p : Past). trace p (run w (wants_of ws e n)) last) (wants-past past w ws e n) ∙ go (has_windows ws (n + 1))
  where
    last : List Event
    last = cond (has_windows ws (n + 1)) (Want (n + 1) (demand_at ws (n + 1) e) ∷ []) []

    go : (t : Bool) → trace past (run w (wants_of ws e n)) (cond t (Want (n + 1) (demand_at ws (n + 1) e) ∷ []) []) ≡ past
    go true = no-past past (run w (wants_of ws e n)) (n + 1) (demand_at ws (n + 1) e)
    go false = refl
