-- The synchronous field after the sorted events up to a phase: its own phase, and how an event in an earlier phase of a box that has not
-- come so far leaves it.
-- Assumes nothing.
use mathlib.Core.Path.{◌≡◌, refl, sym, ap, ap₂, ◌∙◌, subst}
use mathlib.Core.Bool.{Bool, true, false, cond}
use mathlib.Core.Logic.{◌≢◌}
use mathlib.Core.List.{List, [], ◌∷◌, ◌++◌}
use Prim.Native.Nat.{ℕ, zero, suc, ◌+◌, ◌%◌, ◌≤◌, ◌<◌}
use native.Mathlib.Omega.{arith}
use borrow.Author.Tests.{eq-eqb, ne_eqb, eqb-true, eqb-false}
use lib.Dec.{eqb}
use native.Mathlib.Nat.{not-suc-le-zero}
use Rattle.words.proofs.Tests.{hit, same_or_not}
use Rattle.node.specs.Figures.{is_last}
use Rattle.node.specs.declared.Config.{Config}
use Rattle.node.specs.Answers.{Answer}
use Rattle.site.specs.declared.Event.TheVariants.{Close, End}
use Rattle.boxes.specs.fleet.Fleet.{Fleet, Act, close_box, end_box, next_fleet, fleet_after, fleet_run, fleet_answers}
use Rattle.apart.specs.Apart.{negotiation, last_phase, acting_box, tick_box, between, sorted, between_answers, sorted_answers}
use Rattle.apart.proofs.Local.{Like, within, Within, run-like, answers-append, run-append, run-snoc, but, but-is, is-but, Kept}
use Rattle.apart.proofs.Local.{kept-after, kept_run, anyone, else-after, Quiet, quiet}

-- the three phases of a round
pub data Kind (s : ℕ) : Type 0 where
  talk : negotiation s ≡ true → negotiation (suc s) ≡ false → Kind s
  rest : negotiation s ≡ false → last_phase s ≡ false → negotiation (suc s) ≡ false → Kind s
  last : negotiation s ≡ false → last_phase s ≡ true → negotiation (suc s) ≡ true → Kind s

pub kind : (s : ℕ) → Kind s
kind s = go (negotiation s) (last_phase s) refl refl
  where
    go : (a b : Bool) → negotiation s ≡ a → last_phase s ≡ b → Kind s
    go true b e f = let h : s % 3 ≡ 0 = eqb-true (s % 3) 0 e in talk e (ne_eqb (suc s % 3) 0 (λ g. omega arith))
    go false true e f = let h : s % 3 ≡ 2 = eqb-true (s % 3) 2 f in last e f (eq-eqb (suc s % 3) 0 (omega arith))
    go false false e f =
        let h : s % 3 ≢ 0 = eqb-false (s % 3) 0 e in
        let g : s % 3 ≢ 2 = eqb-false (s % 3) 2 f in
        rest e f (ne_eqb (suc s % 3) 0 (λ d. omega (arith, h, g, d)))

-- what stands between two phases
module _ (s : ℕ) (x : Fleet) where
  pub closes : negotiation s ≡ true → x.negotiates ≡ true → fleet_run x (between s) ≡ next_fleet x Close []
  unfolding between fleet_run fleet_after
  closes e n = rw (e, n) refl

  pub rests : negotiation s ≡ false → last_phase s ≡ false → fleet_run x (between s) ≡ x
  unfolding between fleet_run
  rests e f = rw (e, f) refl

  pub ends : negotiation s ≡ false → last_phase s ≡ true → x.negotiates ≡ false → fleet_run x (between s) ≡ next_fleet x End []
  unfolding between fleet_run fleet_after
  ends e f n = rw (e, f, n) refl

-- what it makes of a box
pub tick-box : (s : ℕ) (x : Fleet) (j : ℕ) → x.negotiates ≡ negotiation s → (fleet_run x (between s)).boxes j ≡ tick_box s (x.boxes j)
tick-box s x j n = go (kind s)
  where
    go : Kind s → (fleet_run x (between s)).boxes j ≡ tick_box s (x.boxes j)
    go (talk e g) = ap (λ (y : Fleet). y.boxes j) (closes s x e (n ∙ e)) ∙ sym (hit (negotiation s) (close_box (x.boxes j)) _ e)
    go (rest e f g) = ap (λ (y : Fleet). y.boxes j) (rests s x e f)
        ∙ sym (ap₂ (λ (p q : Bool). cond p (close_box (x.boxes j)) (cond q (end_box (x.boxes j)) (x.boxes j))) e f)
    go (last e f g) = ap (λ (y : Fleet). y.boxes j) (ends s x e f (n ∙ e))
        ∙ sym (ap₂ (λ (p q : Bool). cond p (close_box (x.boxes j)) (cond q (end_box (x.boxes j)) (x.boxes j))) e f)

-- and of the phase
tick-phase : (s : ℕ) (x : Fleet) → x.negotiates ≡ negotiation s → (fleet_run x (between s)).negotiates ≡ negotiation (suc s)
tick-phase s x n = go (kind s)
  where
    go : Kind s → (fleet_run x (between s)).negotiates ≡ negotiation (suc s)
    go (talk e g) = ap (λ (y : Fleet). y.negotiates) (closes s x e (n ∙ e)) ∙ sym g
    go (rest e f g) = ap (λ (y : Fleet). y.negotiates) (rests s x e f) ∙ n ∙ e ∙ sym g
    go (last e f g) = ap (λ (y : Fleet). y.negotiates) (ends s x e f (n ∙ e)) ∙ sym g

-- and of two fields that are alike but for some boxes, and for the packets of a negotiation, which lapse
between-like : {P : ℕ → Bool} (s : ℕ) (x y : Fleet) → x.negotiates ≡ negotiation s → Kept x y
    → ((k : ℕ) → P k ≡ true → x.boxes k ≡ y.boxes k) → (x.negotiates ≡ false → Quiet x y)
    → Like P (fleet_run x (between s)) (fleet_run y (between s))
between-like {P} s x y n k b q = go (kind s)
  where
    m : y.negotiates ≡ negotiation s
    m = sym k.negotiates ∙ n

    go : Kind s → Like P (fleet_run x (between s)) (fleet_run y (between s))
    go (talk e g) =
        rw (closes s x e (n ∙ e), closes s y e (m ∙ e))
        (record { config = k.config; negotiates = refl; place = k.place; air = refl; sent = refl; boxes = λ i p. ap close_box (b i p) })
    go (rest e f g) =
        let h = q (n ∙ e) in
        rw (rests s x e f, rests s y e f) (record {
          config = k.config;
          negotiates = k.negotiates;
          place = k.place;
          air = h.air;
          sent = h.sent;
          boxes = b;
        })
    go (last e f g) =
        rw (ends s x e f (n ∙ e), ends s y e f (m ∙ e))
        (record {
          config = k.config;
          negotiates = refl;
          place = ap₂ (λ (f : Config) (p : ℕ). cond (is_last f p) 0 (p + 1)) k.config k.place;
          air = refl;
          sent = refl;
          boxes = λ i p. ap end_box (b i p);
        })

-- The field after the sorted events

abbrev pub sync : (ℕ → List Act) → Fleet → ℕ → Fleet
sync log x s = fleet_run x (sorted log s)

-- the field at the start of a phase
abbrev pub start : (ℕ → List Act) → Fleet → ℕ → Fleet
start log x zero = x
start log x (suc s) = fleet_run (sync log x s) (between s)

pub sync-first : (log : ℕ → List Act) (x : Fleet) → sync log x zero ≡ fleet_run x (log zero)
unfolding sorted
sync-first log x = refl

pub sync-next : (log : ℕ → List Act) (x : Fleet) (s : ℕ) → sync log x (suc s) ≡ fleet_run (fleet_run (sync log x s) (between s)) (log (suc s))
unfolding sorted
sync-next log x s = run-append (sorted log s ++ between s) (log (suc s)) x
    ∙ ap (λ (y : Fleet). fleet_run y (log (suc s))) (run-append (sorted log s) (between s) x)

pub sync-is : (log : ℕ → List Act) (x : Fleet) (s : ℕ) → sync log x s ≡ fleet_run (start log x s) (log s)
sync-is log x zero = sync-first log x
sync-is log x (suc s) = sync-next log x s

pub sync-phase : (log : ℕ → List Act) (x : Fleet) → x.negotiates ≡ true → ((s : ℕ) → Within anyone (log s)) → (s : ℕ)
    → (sync log x s).negotiates ≡ negotiation s
sync-phase log x n w zero = ap (λ (y : Fleet). y.negotiates) (sync-first log x) ∙ sym (kept_run (log zero) x (w zero)).negotiates ∙ n
sync-phase log x n w (suc s) =
    ap (λ (y : Fleet). y.negotiates) (sync-next log x s)
    ∙ sym (kept_run (log (suc s)) (fleet_run (sync log x s) (between s)) (w (suc s))).negotiates
    ∙ tick-phase s (sync log x s) (sync-phase log x n w s)

-- The answers

between-answers : (s : ℕ) (x : Fleet) → x.negotiates ≡ negotiation s → fleet_answers x (between s) ≡ between_answers s
unfolding between between_answers fleet_answers
between-answers s x n = go (kind s)
  where
    go : Kind s → fleet_answers x (between s) ≡ between_answers s
    go (talk e g) = let m : x.negotiates ≡ true = n ∙ e in rw (e, m) refl
    go (rest e f g) = rw (e, f) refl
    go (last e f g) = let m : x.negotiates ≡ false = n ∙ e in rw (e, f, m) refl

pub sync-answers : (log : ℕ → List Act) (answers : ℕ → List Answer) (x : Fleet) → x.negotiates ≡ true → ((s : ℕ) → Within anyone (log s))
    → ((s : ℕ) → answers s ≡ fleet_answers (start log x s) (log s)) → (s : ℕ) → fleet_answers x (sorted log s) ≡ sorted_answers answers s
unfolding sorted sorted_answers
sync-answers log answers x n w h zero = sym (h zero)
sync-answers log answers x n w h (suc s) =
    answers-append (sorted log s ++ between s) (log (suc s)) x
    ∙ ap₂ (λ (p q : List Answer). p ++ q)
    (answers-append (sorted log s) (between s) x ∙ ap₂ (λ (p q : List Answer). p ++ q) (sync-answers log answers x n w h s)
    (between-answers s (sync log x s) (sync-phase log x n w s)))
    (ap (λ (y : Fleet). fleet_answers y (log (suc s))) (run-append (sorted log s) (between s) x) ∙ sym (h (suc s)))

-- An event more, in phase u

module _ (log : ℕ → List Act) (x : Fleet) (u : ℕ) (a : Act) where
  abbrev pub longer : ℕ → List Act
  longer s = cond (eqb s u) (log s ++ (a ∷ [])) (log s)

  pub longer-there : longer u ≡ log u ++ (a ∷ [])
  longer-there = ap (λ (t : Bool). cond t (log u ++ (a ∷ [])) (log u)) (eq-eqb u u refl)

  pub longer-else : (s : ℕ) → s ≢ u → longer s ≡ log s
  longer-else s h = ap (λ (t : Bool). cond t (log s ++ (a ∷ [])) (log s)) (ne_eqb s u h)

  sorted_before : (s : ℕ) → s < u → sorted longer s ≡ sorted log s
  unfolding sorted
  sorted_before zero h = longer-else zero (λ e. omega arith)
  sorted_before (suc s) h = ap₂ (λ (p q : List Act). (p ++ between s) ++ q) (sorted_before s (omega arith))
      (longer-else (suc s) (λ e. omega arith))

  pub sync-before : (s : ℕ) → s < u → sync longer x s ≡ sync log x s
  sync-before s h = ap (fleet_run x) (sorted_before s h)

  pub sync-there : sync longer x u ≡ fleet_after (sync log x u) a
  unfolding sorted
  sync-there = go u refl
    where
      go : (s : ℕ) → s ≡ u → sync longer x s ≡ fleet_after (sync log x s) a
      go zero e = ap (fleet_run x) (subst (λ (v : ℕ). longer v ≡ log v ++ (a ∷ [])) (sym e) longer-there) ∙ run-snoc (log zero) a x
      go (suc s) e =
          ap₂ (λ (p q : List Act). fleet_run x ((p ++ between s) ++ q)) (sorted_before s (omega arith))
          (subst (λ (v : ℕ). longer v ≡ log v ++ (a ∷ [])) (sym e) longer-there)
          ∙ run-append (sorted log s ++ between s) (log (suc s) ++ (a ∷ [])) x
          ∙ run-snoc (log (suc s)) a (fleet_run x (sorted log s ++ between s))
          ∙ ap (λ (y : Fleet). fleet_after y a) (sym (run-append (sorted log s ++ between s) (log (suc s)) x))

  pub start-before : (s : ℕ) → s ≤ u → start longer x s ≡ start log x s
  start-before zero h = refl
  start-before (suc s) h = ap (λ (y : Fleet). fleet_run y (between s)) (sync-before s h)

  -- the phases behind it, if the box whose event it is has not come to them
  module _ (n : x.negotiates ≡ true) (w : (s : ℕ) → Within anyone (log s)) (one : within anyone a.event ≡ true)
      (off : (s : ℕ) → u < s → Within (but (acting_box a.event)) (log s)) where
    abbrev P : ℕ → Bool
    P = but (acting_box a.event)

    run_on : (s : ℕ) → u < s → Like P (start log x s) (start longer x s) → Like P (sync log x s) (sync longer x s)
    run_on s h l = rw (sync-is log x s, sync-is longer x s, longer-else s (λ e. omega arith)) (run-like (log s) _ _ (off s h) l)

    flip : (k : ℕ) → P k ≡ true → but k (acting_box a.event) ≡ true
    flip k p = is-but (acting_box a.event) k (λ e. but-is k (acting_box a.event) p (sym e))

    start-next : Like P (fleet_run (sync log x u) (between u)) (fleet_run (sync longer x u) (between u))
    start-next =
        rw sync-there
        (between-like u (sync log x u) (fleet_after (sync log x u) a) (sync-phase log x n w u) (kept-after anyone (sync log x u) a one)
        (λ k p. sym (else-after (sync log x u) k a one (flip k p)))
        (quiet (sync log x u) a one))

    pub start-later : (s : ℕ) → u < s → Like P (start log x s) (start longer x s)
    start-later zero h = absurd (not-suc-le-zero h)
    start-later (suc s) h = same_or_not s u
        (λ e. subst (λ (v : ℕ). Like P (fleet_run (sync log x v) (between v)) (fleet_run (sync longer x v) (between v))) (sym e) start-next)
        (λ e.
        let l = run_on s (omega arith) (start-later s (omega arith)) in
        between-like s (sync log x s) (sync longer x s) (sync-phase log x n w s) (record {
          config = l.config;
          negotiates = l.negotiates;
          place = l.place;
        }) l.boxes
        (λ q. record { air = l.air; sent = l.sent }))

    pub sync-later : (s : ℕ) → u < s → Like P (sync log x s) (sync longer x s)
    sync-later s h = run_on s h (start-later s h)
