-- Kept lines that were run up to a place, and trials from there on.
-- Assumes nothing.
use mathlib.Core.Path.{◌≡◌, refl, sym, ap, ap₂, ◌∙◌, subst}
use mathlib.Core.Bool.{Bool, true, false, cond, ◌||◌}
use mathlib.Core.List.{List}
use Prim.Native.Nat.{ℕ, ◌+◌, ◌≤◌}
use native.Mathlib.Omega.{arith}
use lib.ListN.{length}
use Rattle.machine.specs.timed.Calls.{TimedState}
use Rattle.reduce.specs.Inner.{NextLine, says_of, line_text, kept, line_gives, line_run, gives_from, SameTo, Passed, Spared, cleared}
use Rattle.reduce.proofs.Kept.{gives-step}
use Rattle.reduce.proofs.Marks.{cleared-out}

-- marks cleared from a place on are the same before it
cleared-before : (ms : List Bool) (at hi : ℕ) → at ≤ hi → hi ≤ length ms → SameTo at ms (cleared ms at hi)
cleared-before ms at hi h k i l = cleared-out ms at hi i h k (λ x y. omega (arith, x, l))

module _ (a : ℕ) (s : List ℕ) (ms : List Bool) (from : ℕ) (w : TimedState) where
  pub pass-start : from ≤ length s → Passed a s ms from w false from w
  pass-start h = record { onward = omega arith; within = h; same = λ ns k. refl }

  -- a line more: what its step came to, and the state that it left
  pub pass-next : (at : ℕ) (v : TimedState) → Passed a s ms from w false at v → (n : ℕ) (h : NextLine s at n) (r : Bool) (u : TimedState)
      → r ≡ line_gives (kept ms at) a v (says_of (line_text s at n)) → u ≡ line_run (kept ms at) v (says_of (line_text s at n))
      → (t : Bool) → r ≡ t → Passed a s ms from w t n u
  pass-next at v q n h r u e k t g =
      let p = says_of (line_text s at n) in
      record {
        onward = omega (arith, q.onward, h.onward);
        within = h.within;
        same = λ ns f.
            let m = f at h.onward in
            q.same ns (λ i l. f i (omega (arith, l, h.onward)))
            ∙ gives-step s a (kept ns) at n h v r u (e ∙ ap (λ (x : Bool). line_gives x a v p) (sym m))
            (k ∙ ap (λ (x : Bool). line_run x v p) (sym m))
            ∙ ap (λ (x : Bool). x || gives_from a s ns n u) g;
      }

  -- a run behind another
  pub pass-then : (at : ℕ) (v : TimedState) (b : Bool) (to : ℕ) (u : TimedState) → Passed a s ms from w false at v
      → Passed a s ms at v b to u
      → (t : Bool) → b ≡ t → Passed a s ms from w t to u
  pass-then at v b to u q r t g =
      record {
        onward = omega (arith, q.onward, r.onward);
        within = r.within;
        same = λ ns f. q.same ns (λ i l. f i (omega (arith, l, r.onward))) ∙ r.same ns f
            ∙ ap (λ (x : Bool). x || gives_from a s ns to u) g;
      }

  -- the last line gave the number: what is behind it can go
  pub pass-hit : (at : ℕ) (v : TimedState) (hi : ℕ) → at ≤ hi → hi ≤ length ms → Passed a s ms from w true at v
      → gives_from a s (cleared ms at hi) from w ≡ true
  pass-hit at v hi h k q = q.same (cleared ms at hi) (cleared-before ms at hi h k)

  -- a trial behind the lines that were run
  module _ (at : ℕ) (v : TimedState) (ns : List Bool) (q : Passed a s ms from w false at v) (p : Spared a s ms at v ns) where
    pub pass-spared : Passed a s ns from w false at v
    pass-spared = record { onward = q.onward; within = q.within; same = λ os g. q.same os (λ i l. g i l ∙ p.before i l) }

    pub still-given : gives_from a s ms from w ≡ true → gives_from a s ns from w ≡ true
    still-given g = q.same ns p.before ∙ p.given (sym (q.same ms (λ i l. refl)) ∙ g)

module _ (a : ℕ) (s : List ℕ) (ms : List Bool) (at : ℕ) (w : TimedState) where
  pub spared-none : Spared a s ms at w ms
  spared-none = record { given = λ g. g; before = λ i l. refl }

  -- a trial
  pub spared-tried : (hi : ℕ) (r : Bool) (ns : List Bool) → at ≤ hi → hi ≤ length ms → r ≡ gives_from a s (cleared ms at hi) at w
      → ns ≡ cond r (cleared ms at hi) ms → Spared a s ms at w ns
  spared-tried hi true ns h k e m =
      subst (Spared a s ms at w) (sym m) (record { given = λ g. sym e; before = cleared-before ms at hi h k })
  spared-tried hi false ns h k e m = subst (Spared a s ms at w) (sym m) spared-none
