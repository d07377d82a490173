-- Each step keeps each box, in each phase that it has come to, the box of the synchronous field after the sorted events.
-- Assumes nothing.
use mathlib.Core.Path.{◌≡◌, refl, sym, ap, ap₂, ◌∙◌, subst}
use mathlib.Core.Bool.{Bool, true, false, cond}
use mathlib.Core.Logic.{◌≢◌}
use mathlib.Core.List.{List, [], ◌∷◌, ◌++◌}
use Prim.Native.Nat.{ℕ, suc, ◌≤◌, ◌<◌}
use native.Mathlib.Omega.{arith}
use native.Mathlib.Decide.{dec_lt}
use borrow.Author.Tests.{eq-eqb, ne_eqb, le-leb, leb-true}
use lib.Dec.{eqb, leb}
use Rattle.words.proofs.Tests.{same_or_not, both, and_left, and_right}
use Rattle.node.specs.Answers.{Answer}
use Rattle.node.specs.declared.Config.{Config}
use Rattle.site.specs.declared.Table.{Table}
use Rattle.site.specs.declared.Event.{Event}
use Rattle.site.specs.declared.Event.TheVariants.{Send, Hear, Close, Take, End, Want, Crash, Restart}
use Rattle.boxes.specs.fleet.Fleet.{Box, Fleet, Act, change, fleet_answer, fleet_after, fleet_run, fleet_answers, begun_fleet}
use Rattle.apart.specs.Apart.{Step, tick, act, Apart, box_now, acting_box, possible, acted, tick_box, ticked, apart_after, apart_run}
use Rattle.apart.specs.Apart.{between}
use Rattle.apart.specs.Apart.{sorted, begun_apart}
use Rattle.apart.proofs.Local.{Like, within, Within, none, within-snoc, same_answer, after-like, answers-like, answers-snoc, but}
use Rattle.apart.proofs.Local.{is-but, anyone, within-anyone, else-run}
use Rattle.apart.proofs.Sync.{tick-box, sync, start, sync-is, sync-next, sync-phase, start-before, start-later, longer, longer-there}
use Rattle.apart.proofs.Sync.{longer-else, sync-before, sync-there, sync-later}

-- the boxes that have come to phase s
abbrev pub came : (ℕ → ℕ) → ℕ → ℕ → Bool
came clock s k = leb s (clock k)

pub record Inv (x : Fleet) (A : Apart) : Type 0 where
  pub begun : x.negotiates ≡ true
  pub each : (s : ℕ) → Like (came A.clock s) (A.phases s) (sync A.log x s)
  pub off : (s k : ℕ) → A.clock k < s → Within (but k) (A.log s)
  pub some : (s : ℕ) → Within anyone (A.log s)
  pub answers : (s : ℕ) → A.answers s ≡ fleet_answers (start A.log x s) (A.log s)

pub like-self : {P : ℕ → Bool} (x : Fleet) → Like P x x
like-self x = record { config = refl; negotiates = refl; place = refl; air = refl; sent = refl; boxes = λ k p. refl }

like-more : {P Q : ℕ → Bool} {x y z : Fleet} → Like P x y → Like Q y z → ((k : ℕ) → P k ≡ true → Q k ≡ true) → Like P x z
like-more l m h =
    record {
      config = l.config ∙ m.config;
      negotiates = l.negotiates ∙ m.negotiates;
      place = l.place ∙ m.place;
      air = l.air ∙ m.air;
      sent = l.sent ∙ m.sent;
      boxes = λ k p. l.boxes k p ∙ m.boxes k (h k p);
    }

here : (n : ℕ) → leb n n ≡ true
here n = le-leb n n (omega arith)

-- a possible event is one of boxes that have come to its phase
possible-came : (A : Apart) (e : Event) → possible A e ≡ true → within (came A.clock (A.clock (acting_box e))) e ≡ true
possible-came A (Send j) r = here (A.clock j)
possible-came A (Hear j p) r = here (A.clock j)
possible-came A Close r = r
possible-came A (Take j i) r = both (here (A.clock j)) r
possible-came A End r = r
possible-came A (Want j d) r = here (A.clock j)
possible-came A (Crash j) r = here (A.clock j)
possible-came A (Restart j flags) r = here (A.clock j)

-- and so of no box that has not
within-less : (P Q : ℕ → Bool) → ((k : ℕ) → P k ≡ true → Q k ≡ true) → (e : Event) → within P e ≡ true → within Q e ≡ true
within-less P Q h (Send j) p = h j p
within-less P Q h (Hear j q) p = h j p
within-less P Q h Close p = p
within-less P Q h (Take j i) p = both (h j (and_left (P j) (P i) p)) (h i (and_right (P j) (P i) p))
within-less P Q h End p = p
within-less P Q h (Want j d) p = h j p
within-less P Q h (Crash j) p = h j p
within-less P Q h (Restart j flags) p = h j p

came-but : (clock : ℕ → ℕ) (s k : ℕ) → clock k < s → (i : ℕ) → came clock s i ≡ true → but k i ≡ true
came-but clock s k h i p = is-but i k (λ e. let l : s ≤ clock i = leb-true s (clock i) p in let g : clock k
    ≡ clock i = ap clock e in omega arith)

-- an event of one box
module _ (x : Fleet) (A : Apart) (v : Inv x A) (a : Act) (r : possible A a.event ≡ true) where
  abbrev j : ℕ
  j = acting_box a.event

  abbrev u : ℕ
  u = A.clock j

  abbrev next : ℕ → Fleet
  next s = cond (eqb s u) (fleet_after (A.phases s) a) (A.phases s)

  inside : within (came A.clock u) a.event ≡ true
  inside = possible-came A a.event r

  one : within anyone a.event ≡ true
  one = within-anyone (came A.clock u) a.event inside

  next-there : next u ≡ fleet_after (A.phases u) a
  next-there = ap (λ (t : Bool). cond t (fleet_after (A.phases u) a) (A.phases u)) (eq-eqb u u refl)

  next-else : (s : ℕ) → s ≢ u → next s ≡ A.phases s
  next-else s h = ap (λ (t : Bool). cond t (fleet_after (A.phases s) a) (A.phases s)) (ne_eqb s u h)

  each-there : Like (came A.clock u) (next u) (sync (longer A.log x u a) x u)
  each-there = rw (next-there, sync-there A.log x u a) (after-like (v.each u) a inside)

  each-else : (s : ℕ) → s ≢ u → Like (came A.clock s) (next s) (sync (longer A.log x u a) x s)
  each-else s h = rw (next-else s h) (go (dec_lt s u))
    where
      go : Dec (s < u) → Like (came A.clock s) (A.phases s) (sync (longer A.log x u a) x s)
      go (yes l) = rw (sync-before A.log x u a s l) (v.each s)
      go (no l) =
          let g : u < s = omega (arith, h, l) in
          like-more (v.each s) (sync-later A.log x u a v.begun v.some one (λ t m. v.off t j m) s g)
          (λ k p. came-but A.clock s j g k p)

  -- the answers
  abbrev answered : ℕ → List Answer
  answered s = cond (eqb s u) (A.answers s ++ (fleet_answer (A.phases s) a.event ∷ [])) (A.answers s)

  answers-there : answered u ≡ fleet_answers (start (longer A.log x u a) x u) (longer A.log x u a u)
  answers-there =
      ap (λ (t : Bool). cond t (A.answers u ++ (fleet_answer (A.phases u) a.event ∷ [])) (A.answers u)) (eq-eqb u u refl)
      ∙ ap₂ (λ (l : List Answer) (r : Answer). l ++ (r ∷ [])) (v.answers u)
      (same_answer (v.each u) a.event inside ∙ ap (λ (y : Fleet). fleet_answer y a.event) (sync-is A.log x u))
      ∙ sym (answers-snoc (A.log u) a (start A.log x u))
      ∙ ap₂ (λ (y : Fleet) (l : List Act). fleet_answers y l) (sym (start-before A.log x u a u (omega arith)))
      (sym (longer-there A.log x u a))

  answers-else : (s : ℕ) → s ≢ u → answered s ≡ fleet_answers (start (longer A.log x u a) x s) (longer A.log x u a s)
  answers-else s h =
      ap (λ (t : Bool). cond t (A.answers s ++ (fleet_answer (A.phases s) a.event ∷ [])) (A.answers s)) (ne_eqb s u h)
      ∙ v.answers s ∙ go (dec_lt s u) ∙ ap (fleet_answers (start (longer A.log x u a) x s)) (sym (longer-else A.log x u a s h))
    where
      go : Dec (s < u) → fleet_answers (start A.log x s) (A.log s) ≡ fleet_answers (start (longer A.log x u a) x s) (A.log s)
      go (yes l) = ap (λ (y : Fleet). fleet_answers y (A.log s)) (sym (start-before A.log x u a s (omega arith)))
      go (no l) =
          let g : u < s = omega (arith, h, l) in
          answers-like (A.log s) _ _ (v.off s j g) (start-later A.log x u a v.begun v.some one (λ t m. v.off t j m) s g)

  pub acted-keeps : Inv x (record { clock = A.clock; phases = next; log = longer A.log x u a; answers = answered })
  acted-keeps =
      record {
        begun = v.begun;
        each = λ s. same_or_not s u (λ e. subst (λ (t : ℕ). Like (came A.clock t) (next t) (sync (longer A.log x u a) x t)) (sym e)
            each-there) (each-else s);
        off = λ s k h. same_or_not s u
            (λ e. subst (Within (but k)) (sym (ap (longer A.log x u a) e ∙ longer-there A.log x u a))
            (within-snoc (A.log u) a (v.off u k (subst (λ (t : ℕ). A.clock k < t) e h))
            (within-less (came A.clock u) (but k) (came-but A.clock u k (subst (λ (t : ℕ). A.clock k < t) e h)) a.event inside)))
            (λ e. subst (Within (but k)) (sym (longer-else A.log x u a s e)) (v.off s k h));
        some = λ s. same_or_not s u
            (λ e. subst (Within anyone) (sym (ap (longer A.log x u a) e ∙ longer-there A.log x u a))
            (within-snoc (A.log u) a (v.some u) one))
            (λ e. subst (Within anyone) (sym (longer-else A.log x u a s e)) (v.some s));
        answers = λ s. same_or_not s u (λ e. subst (λ (t : ℕ). answered t
            ≡ fleet_answers (start (longer A.log x u a) x t) (longer A.log x u a t)) (sym e) answers-there) (answers-else s);
      }

keeps-acted : (x : Fleet) (A : Apart) → Inv x A → (a : Act) → Inv x (acted A a)
unfolding acted
keeps-acted x A v a = go (possible A a.event) refl
  where
    go : (t : Bool) → possible A a.event ≡ t
        → Inv x (cond t
        (record {
          clock = A.clock;
          phases = λ s. cond (eqb s (A.clock (acting_box a.event))) (fleet_after (A.phases s) a) (A.phases s);
          log = λ s. cond (eqb s (A.clock (acting_box a.event))) (A.log s ++ (a ∷ [])) (A.log s);
          answers = λ s. cond (eqb s (A.clock (acting_box a.event))) (A.answers s ++ (fleet_answer (A.phases s) a.event ∷ []))
              (A.answers s);
        })
        A)
    go true r = acted-keeps x A v a r
    go false r = v

-- The clock of one box goes on

module _ (x : Fleet) (A : Apart) (v : Inv x A) (j : ℕ) where
  abbrev c : ℕ
  c = A.clock j

  abbrev later : ℕ → ℕ
  later k = cond (eqb k j) (suc c) (A.clock k)

  later-there : later j ≡ suc c
  later-there = ap (λ (t : Bool). cond t (suc c) (A.clock j)) (eq-eqb j j refl)

  later-else : (k : ℕ) → k ≢ j → later k ≡ A.clock k
  later-else k h = ap (λ (t : Bool). cond t (suc c) (A.clock k)) (ne_eqb k j h)

  abbrev moved : Box
  moved = tick_box c (box_now A j)

  abbrev behind : ℕ → Fleet
  behind s = cond (eqb s (suc c)) (change (A.phases s) j moved) (A.phases s)

  -- the box as it is then
  moved-is : moved ≡ (sync A.log x (suc c)).boxes j
  moved-is =
      ap (tick_box c) ((v.each c).boxes j (here c))
      ∙ sym (tick-box c (sync A.log x c) j (sync-phase A.log x v.begun v.some c))
      ∙ sym (else-run j (A.log (suc c)) (fleet_run (sync A.log x c) (between c)) (v.off (suc c) j (omega arith)))
      ∙ sym (ap (λ (y : Fleet). y.boxes j) (sync-next A.log x c))

  box-there : (k : ℕ) → came later (suc c) k ≡ true → (change (A.phases (suc c)) j moved).boxes k ≡ (sync A.log x (suc c)).boxes k
  box-there k p = same_or_not k j
      (λ e. ap (λ (t : Bool). cond t moved ((A.phases (suc c)).boxes k)) (eq-eqb k j e) ∙ moved-is
      ∙ ap (λ (i : ℕ). (sync A.log x (suc c)).boxes i) (sym e))
      (λ e. ap (λ (t : Bool). cond t moved ((A.phases (suc c)).boxes k)) (ne_eqb k j e)
      ∙ (v.each (suc c)).boxes k (sym (ap (leb (suc c)) (later-else k e)) ∙ p))

  tick-there : Like (came later (suc c)) (change (A.phases (suc c)) j moved) (sync A.log x (suc c))
  tick-there =
      let l = v.each (suc c) in
      record { config = l.config; negotiates = l.negotiates; place = l.place; air = l.air; sent = l.sent; boxes = box-there }

  tick-else : (s : ℕ) → s ≢ suc c → Like (came later s) (A.phases s) (sync A.log x s)
  tick-else s h =
      let l = v.each s in
      record {
        config = l.config;
        negotiates = l.negotiates;
        place = l.place;
        air = l.air;
        sent = l.sent;
        boxes = λ k p. l.boxes k (same_or_not k j
            (λ e. let g : s ≤ suc c = leb-true s (suc c) (sym (ap (leb s) (ap later e ∙ later-there)) ∙ p) in
            ap (λ (i : ℕ). leb s (A.clock i)) e ∙ le-leb s c (omega (arith, g, h)))
            (λ e. sym (ap (leb s) (later-else k e)) ∙ p));
      }

  tick-each : (s : ℕ) → Like (came later s) (behind s) (sync A.log x s)
  tick-each s = same_or_not s (suc c)
      (λ e. subst (λ (t : ℕ). Like (came later t) (behind t) (sync A.log x t)) (sym e)
      (subst (λ (y : Fleet). Like (came later (suc c)) y (sync A.log x (suc c)))
      (sym (ap (λ (t : Bool). cond t (change (A.phases (suc c)) j moved) (A.phases (suc c))) (eq-eqb (suc c) (suc c) refl))) tick-there))
      (λ e. subst (λ (y : Fleet). Like (came later s) y (sync A.log x s))
      (sym (ap (λ (t : Bool). cond t (change (A.phases s) j moved) (A.phases s)) (ne_eqb s (suc c) e))) (tick-else s e))

  pub tick-keeps : Inv x (ticked A j)
  unfolding ticked
  tick-keeps =
      record {
        begun = v.begun;
        each = tick-each;
        off = λ s k h. v.off s k (same_or_not k j
            (λ e. let g : later k ≡ suc c = ap later e ∙ later-there in let i : A.clock k ≡ c = ap A.clock e in omega (arith, g, h, i))
            (λ e. let g : later k ≡ A.clock k = later-else k e in omega (arith, g, h)));
        some = v.some;
        answers = v.answers;
      }

-- Lists of steps

pub keeps : (x : Fleet) (A : Apart) → Inv x A → (m : Step) → Inv x (apart_after A m)
keeps x A v (tick j) = tick-keeps x A v j
keeps x A v (act a) = keeps-acted x A v a

pub keeps-run : (x : Fleet) (A : Apart) → Inv x A → (steps : List Step) → Inv x (apart_run A steps)
unfolding apart_run
keeps-run x A v [] = v
keeps-run x A v (m ∷ steps) = keeps-run x (apart_after A m) (keeps x A v m) steps

pub keeps-begun : (f : Config) (t : Table) (left : ℕ → List ℕ) → Inv (begun_fleet f t left) (begun_apart f t left)
unfolding begun_apart begun_fleet fleet_answers
keeps-begun f t left = record {
  begun = refl;
  each = λ s. like-self (fleet_run (begun_fleet f t left) (sorted (λ u. []) s));
  off = λ s k h. none;
  some = λ s. none;
  answers = λ s. refl;
}
