-- Orderly lists keep the clocks of boxes that are up abreast.
-- Assumes nothing.
use mathlib.Core.Path.{◌≡◌, refl, sym, ap, ◌∙◌, subst}
use mathlib.Core.Bool.{Bool, true, false, cond}
use mathlib.Core.Logic.{◌≢◌}
use mathlib.Core.List.{List, [], ◌∷◌, ◌++◌}
use Prim.Native.Nat.{ℕ, suc, ◌+◌, ◌*◌, ◌/◌, ◌%◌, ◌≤◌}
use native.Mathlib.Omega.{arith}
use borrow.Author.Tests.{eq-eqb, ne_eqb, eqb-true, eqb-false}
use lib.Dec.{eqb}
use Rattle.words.proofs.Tests.{never, same_or_not, read_same}
use Rattle.node.specs.Answers.{is_done}
use Rattle.node.specs.declared.Config.{Config}
use Rattle.site.specs.declared.Table.{Table}
use Rattle.site.specs.declared.Event.{Event}
use Rattle.site.specs.declared.Event.TheVariants.{Send, Hear, Close, Take, End, Want, Crash, Restart}
use Rattle.boxes.specs.fleet.Fleet.{Box, Fleet, Act, live, change, close_box, end_box, next_fleet, fleet_answer, fleet_after}
use Rattle.apart.specs.Apart.{Step, tick, act, Apart, negotiation, last_phase, box_now, acting_box, possible, acted, tick_box, ticked}
use Rattle.apart.specs.Apart.{apart_after, apart_run, begun_apart}
use Rattle.apart.specs.Claim.{Abreast, AllAbreast, Waits, Orderly, then}
use Rattle.apart.proofs.Local.{within, anyone}

pub abreast-begun : (f : Config) (t : Table) (left : ℕ → List ℕ) → AllAbreast (begun_apart f t left)
unfolding begun_apart
abreast-begun f t left = record { any = λ i j p q. record { one = omega arith; other = omega arith } }

-- The clock of one box goes on

pub tick-up : (s : ℕ) (b : Box) → (tick_box s b).up ≡ b.up
tick-up s b =
    read_same (λ (c : Box). c.up) (negotiation s) (close_box b) _ b.up (read_same (λ (c : Box). c.up) (live b) _ b b.up refl refl)
    (read_same (λ (c : Box). c.up) (last_phase s) (end_box b) b b.up (read_same (λ (c : Box). c.up) b.up _ b b.up refl refl) refl)

-- the round of a clock that goes on
stays-round : (c : ℕ) → last_phase c ≡ false → suc c / 3 ≡ c / 3
stays-round c e = let h : c % 3 ≢ 2 = eqb-false (c % 3) 2 e in omega (arith, h)

next-round : (c : ℕ) → last_phase c ≡ true → 3 * (suc c / 3) ≡ suc c
next-round c e = let h : c % 3 ≡ 2 = eqb-true (c % 3) 2 e in omega arith

later-abreast : (c d : ℕ) → Abreast c d → (last_phase c ≡ true → c ≤ d + 1) → Abreast (suc c) d
later-abreast c d a w = go (last_phase c) refl
  where
    go : (t : Bool) → last_phase c ≡ t → Abreast (suc c) d
    go true e =
        let h = w e in
        let g = next-round c e in
        let o = a.other in
        record { one = omega arith; other = omega arith }
    go false e =
        let g = stays-round c e in
        let p = a.one in
        let o = a.other in
        record { one = subst (λ (n : ℕ). 3 * n ≤ d + 2) (sym g) p; other = omega arith }

pub turned : {c d : ℕ} → Abreast c d → Abreast d c
turned a = record { one = a.other; other = a.one }

pub self : (c : ℕ) → Abreast c c
self c = record { one = omega arith; other = omega arith }

module _ (A : Apart) (j : ℕ) where
  abbrev c : ℕ
  c = A.clock j

  abbrev next : Apart
  next = ticked A j

  clock-there : next.clock j ≡ suc c
  unfolding ticked
  clock-there = ap (λ (t : Bool). cond t (suc c) (A.clock j)) (eq-eqb j j refl)

  pub clock-else : (k : ℕ) → k ≢ j → next.clock k ≡ A.clock k
  unfolding ticked
  clock-else k h = ap (λ (t : Bool). cond t (suc c) (A.clock k)) (ne_eqb k j h)

  -- who is up
  now-there : (box_now next j).up ≡ (box_now A j).up
  unfolding ticked
  now-there =
      ap (λ (s : ℕ). ((next.phases s).boxes j).up) clock-there
      ∙ ap (λ (t : Bool). ((cond t (change (A.phases (suc c)) j (tick_box c (box_now A j))) (A.phases (suc c))).boxes j).up)
      (eq-eqb (suc c) (suc c) refl)
      ∙ ap (λ (t : Bool). (cond t (tick_box c (box_now A j)) ((A.phases (suc c)).boxes j)).up) (eq-eqb j j refl)
      ∙ tick-up c (box_now A j)

  pub now-same : (k : ℕ) → k ≢ j → box_now next k ≡ box_now A k
  unfolding ticked
  now-same k h =
      ap (λ (s : ℕ). (next.phases s).boxes k) (clock-else k h)
      ∙ read_same (λ (y : Fleet). y.boxes k) (eqb (A.clock k) (suc c)) (change (A.phases (A.clock k)) j (tick_box c (box_now A j)))
      (A.phases (A.clock k)) (box_now A k)
      (ap (λ (t : Bool). cond t (tick_box c (box_now A j)) ((A.phases (A.clock k)).boxes k)) (ne_eqb k j h)) refl

  now-else : (k : ℕ) → k ≢ j → (box_now next k).up ≡ (box_now A k).up
  now-else k h = ap (λ (b : Box). b.up) (now-same k h)

  tick-abreast : AllAbreast A → Waits A (tick j) → AllAbreast next
  tick-abreast n w = record {
    any = λ i k p q. same_or_not i j (λ e. same_or_not k j (λ g. subst2 i k (e ∙ sym g)) (λ g. at i k e g p q))
        (λ e. same_or_not k j (λ g. turned (at k i g e q p)) (λ g. off i k e g p q));
  }
    where
      subst2 : (i k : ℕ) → i ≡ k → Abreast (next.clock i) (next.clock k)
      subst2 i k e = subst (λ (l : ℕ). Abreast (next.clock i) (next.clock l)) e (self (next.clock i))

      at : (i k : ℕ) → i ≡ j → k ≢ j → (box_now next i).up ≡ true → (box_now next k).up ≡ true → Abreast (next.clock i) (next.clock k)
      at i k e g p q =
          let uj : (box_now A j).up ≡ true = sym now-there ∙ ap (λ (l : ℕ). (box_now next l).up) (sym e) ∙ p in
          let uk : (box_now A k).up ≡ true = sym (now-else k g) ∙ q in
          subst (λ (s : ℕ). Abreast s (next.clock k)) (sym (ap next.clock e ∙ clock-there))
          (subst (Abreast (suc c)) (sym (clock-else k g)) (later-abreast c (A.clock k) (n.any j k uj uk) (λ d. w.ends j refl d uj k uk)))

      off : (i k : ℕ) → i ≢ j → k ≢ j → (box_now next i).up ≡ true → (box_now next k).up ≡ true → Abreast (next.clock i) (next.clock k)
      off i k e g p q =
          subst (λ (s : ℕ). Abreast s (next.clock k)) (sym (clock-else i e))
          (subst (Abreast (A.clock i)) (sym (clock-else k g)) (n.any i k (sym (now-else i e) ∙ p) (sym (now-else k g) ∙ q)))

-- An event of one box

-- a box that is up behind an event was up before it, or it restarted
data WasUp (x : Fleet) (a : Act) (k : ℕ) : Type 0 where
  was : (x.boxes k).up ≡ true → WasUp x a k
  came : (flags : ℕ) → a.event ≡ Restart k flags → (x.boxes k).up ≡ false → WasUp x a k

-- one box changed: another was up before, and this one's successor is
put_up : {P : Type 0} (x : Fleet) (j k : ℕ) (b : Box) → ((change x j b).boxes k).up ≡ true → (k ≡ j → b.up ≡ true → P)
    → ((x.boxes k).up ≡ true → P) → P
put_up {P} x j k b p f g = go (eqb k j) refl p
  where
    go : (t : Bool) → eqb k j ≡ t → (cond t b (x.boxes k)).up ≡ true → P
    go true e h = f (eqb-true k j e) h
    go false e h = g h

was-next : (x : Fleet) (a : Act) (e : Event) (k : ℕ) → a.event ≡ e → within anyone e ≡ true → ((next_fleet x e a.left).boxes k).up ≡ true
    → WasUp x a k
was-next x a (Send j) k d w p = was p
was-next x a (Hear j q) k d w p = put_up x j k _ p (λ e u. was (ap (λ (i : ℕ). (x.boxes i).up) e ∙ u)) was
was-next x a Close k d w p = never (sym w)
was-next x a (Take j i) k d w p = put_up x j k _ p (λ e u. was (ap (λ (i : ℕ). (x.boxes i).up) e ∙ u)) was
was-next x a End k d w p = never (sym w)
was-next x a (Want j v) k d w p = put_up x j k _ p (λ e u. was (ap (λ (i : ℕ). (x.boxes i).up) e ∙ u)) was
was-next x a (Crash j) k d w p = put_up x j k _ p (λ e u. never (sym u)) was
was-next x a (Restart j flags) k d w p = put_up x j k _ p (λ e u. go e (x.boxes k).up refl) was
  where
    go : k ≡ j → (t : Bool) → (x.boxes k).up ≡ t → WasUp x a k
    go e true h = was h
    go e false h = came flags (d ∙ ap (λ (i : ℕ). Restart i flags) (sym e)) h

was-up : (x : Fleet) (a : Act) (k : ℕ) → within anyone a.event ≡ true → ((fleet_after x a).boxes k).up ≡ true → WasUp x a k
unfolding fleet_after
was-up x a k w p = go (is_done (fleet_answer x a.event)) p
  where
    go : (t : Bool) → ((cond t (next_fleet x a.event a.left) x).boxes k).up ≡ true → WasUp x a k
    go true h = was-next x a a.event k refl w h
    go false h = was h

-- the same of boxes apart
data WasNow (A : Apart) (a : Act) (k : ℕ) : Type 0 where
  was : (box_now A k).up ≡ true → WasNow A a k
  came : (flags : ℕ) → a.event ≡ Restart k flags → (box_now A k).up ≡ false → WasNow A a k

pub possible-any : (A : Apart) (e : Event) → possible A e ≡ true → within anyone e ≡ true
possible-any A (Send j) r = refl
possible-any A (Hear j q) r = refl
possible-any A Close r = r
possible-any A (Take j i) r = refl
possible-any A End r = r
possible-any A (Want j d) r = refl
possible-any A (Crash j) r = refl
possible-any A (Restart j flags) r = refl

-- an event changes no clock
pub acted-clock : (A : Apart) (a : Act) (k : ℕ) → (acted A a).clock k ≡ A.clock k
unfolding acted
acted-clock A a k = read_same (λ (B : Apart). B.clock k) (possible A a.event) _ A (A.clock k) refl refl

was-now : (A : Apart) (a : Act) (k : ℕ) → (box_now (acted A a) k).up ≡ true → WasNow A a k
unfolding acted
was-now A a k p = go (possible A a.event) refl p
  where
    c : ℕ
    c = A.clock k

    turn : WasUp (A.phases c) a k → WasNow A a k
    turn (was u) = was u
    turn (came flags e d) = came flags e d

    go : (t : Bool) → possible A a.event ≡ t
        → (box_now (cond t
        (record {
          clock = A.clock;
          phases = λ s. cond (eqb s (A.clock (acting_box a.event))) (fleet_after (A.phases s) a) (A.phases s);
          log = λ s. cond (eqb s (A.clock (acting_box a.event))) (A.log s ++ (a ∷ [])) (A.log s);
          answers = λ s. cond (eqb s (A.clock (acting_box a.event))) (A.answers s ++ (fleet_answer (A.phases s) a.event ∷ []))
              (A.answers s);
        })
        A) k).up ≡ true → WasNow A a k
    go false r h = was h
    go true r h = at (eqb c (A.clock (acting_box a.event))) h
      where
        at : (t : Bool) → ((cond t (fleet_after (A.phases c) a) (A.phases c)).boxes k).up ≡ true → WasNow A a k
        at true g = turn (was-up (A.phases c) a k (possible-any A a.event r) g)
        at false g = was g

acted-abreast : (A : Apart) (a : Act) → AllAbreast A → Waits A (act a) → AllAbreast (acted A a)
acted-abreast A a n w =
    record {
      any = λ i k p q. subst (λ (s : ℕ). Abreast s ((acted A a).clock k)) (sym (acted-clock A a i))
          (subst (Abreast (A.clock i)) (sym (acted-clock A a k)) (go i k (was-now A a i p) (was-now A a k q)));
    }
  where
    go : (i k : ℕ) → WasNow A a i → WasNow A a k → Abreast (A.clock i) (A.clock k)
    go i k (was u) (was v) = n.any i k u v
    go i k (was u) (came flags e d) = w.restarts a k flags refl e d i u
    go i k (came flags e d) (was v) = turned (w.restarts a i flags refl e d k v)
    go i k (came flags e d) (came flags2 e2 d2) = subst (λ (l : ℕ). Abreast (A.clock i) (A.clock l)) (ap acting_box (sym e ∙ e2))
        (self (A.clock i))

after-abreast : (A : Apart) (m : Step) → AllAbreast A → Waits A m → AllAbreast (apart_after A m)
after-abreast A (tick j) n w = tick-abreast A j n w
after-abreast A (act a) n w = acted-abreast A a n w

pub abreast-run : (A : Apart) (steps : List Step) → AllAbreast A → Orderly A steps → AllAbreast (apart_run A steps)
unfolding apart_run
abreast-run A [] n o = n
abreast-run A (m ∷ steps) n (then w o) = abreast-run (apart_after A m) steps (after-abreast A m n w) o
