-- Demand 3 of boxes with a clock each, proved: over every list of steps.
-- Assumes nothing.
use mathlib.Core.Path.{◌≡◌, refl, sym, ap, ◌∙◌, subst}
use mathlib.Core.Bool.{Bool, true, false, cond}
use mathlib.Core.Logic.{◌≢◌}
use mathlib.Core.List.{List, [], ◌∷◌}
use Prim.Native.Nat.{ℕ, zero, suc, ◌+◌, ◌*◌, ◌/◌, ◌%◌, ◌≤◌, ◌<◌}
use native.Mathlib.Omega.{arith}
use borrow.Author.Tests.{le-leb, eq-eqb, eqb-true, eqb-false}
use lib.ListN.{length, get_or}
use Rattle.words.proofs.Tests.{and_left, and_right}
use Rattle.area.specs.Area.{decoded, valid}
use Rattle.host.specs.lookup.Lookup.{demand_after}
use Rattle.boxes.proofs.service.Proved.{service}
use Rattle.site.specs.Members.{outside}
use Rattle.node.specs.declared.Config.{Config}
use Rattle.site.specs.declared.Table.{Table}
use Rattle.site.specs.Answers.{area_size}
use Rattle.host.specs.Calls.{slots_size, slots_answer}
use Rattle.boxes.specs.fleet.Fleet.{Box, Fleet, zeros, reading, version_in, slot_in, live, fleet_run, begun_fleet}
use Rattle.boxes.specs.fleet.Claim.{Begins, ReportsAgree, SlotsApart, SlotsAsRead, fleet_final}
use Rattle.boxes.proofs.fleet.Theorem.{fleet-holds}
use Rattle.apart.specs.Apart.{Step, Apart, negotiation, box_now, tick_box, apart_after, apart_run, between, sorted, sorted_before}
use Rattle.apart.specs.Apart.{begun_apart}
use Rattle.apart.specs.Determined.{place_of_phase, start_of, Negotiates}
use Rattle.apart.specs.Time.{calls, AllInStep}
use Rattle.apart.specs.Claim.{AsOne, stays, all_stay, SameReading, Reads, Gets, Knows, by_read, by_slots, Uses, Works, Abreast}
use Rattle.apart.specs.Claim.{AllAbreast, Replays, reading_in, ApartDemand3, ApartHolds}
use Rattle.apart.proofs.Keeps.{Inv, keeps, keeps-run, keeps-begun}
use Rattle.apart.proofs.Sync.{tick-box, sync-phase, sync-answers}
use Rattle.apart.proofs.Local.{run-append}
use Rattle.apart.proofs.Determined.{place_is, begun-place, begun-config, have-come, all-justified, all-unique, config-now, up-known}
use Rattle.apart.proofs.Determined.{up-inside}
use Rattle.apart.proofs.Time.{same-round, keeps-time}
use Rattle.apart.proofs.Windows.{want-and-end}
use Rattle.apart.proofs.UntilClose.{still, go_on, step-settled, step-clock, clock-run, apart-append, live-settled}
use Rattle.apart.proofs.Near.{abreast-begun, abreast-run}

up_of : (b : Box) → live b ≡ true → b.up ≡ true
unfolding live
up_of b h = and_left b.up _ h

-- two clocks in negotiation that are abreast show the same
same-phase : (c d : ℕ) → negotiation c ≡ true → negotiation d ≡ true → Abreast c d → c ≡ d
same-phase c d p q a =
    let m : c % 3 ≡ 0 = eqb-true (c % 3) 0 p in
    let n : d % 3 ≡ 0 = eqb-true (d % 3) 0 q in
    let e = a.one in
    let o = a.other in
    omega arith

module _ (f : Config) (t : Table) (left : ℕ → List ℕ) (b : Begins f t left) (A : Apart) (v : Inv (begun_fleet f t left) A) where
  started : (s j : ℕ) → s ≤ A.clock j → start_of f t left A s j ≡ (fleet_final f t left (sorted_before A.log s)).boxes j
  unfolding sorted_before fleet_run
  started zero j h = refl
  started (suc s) j h =
      ap (tick_box s) ((v.each s).boxes j (le-leb s (A.clock j) (omega arith)))
      ∙ sym (tick-box s (fleet_final f t left (sorted A.log s)) j (sync-phase A.log (begun_fleet f t left) v.begun v.some s))
      ∙ ap (λ (y : Fleet). y.boxes j) (sym (run-append (sorted A.log s) (between s) (begun_fleet f t left)))

  -- the phase of the sorted list
  phase-of : (s : ℕ) → (fleet_final f t left (sorted A.log s)).negotiates ≡ negotiation s
  phase-of = sync-phase A.log (begun_fleet f t left) v.begun v.some

  one : AsOne f t left A
  one =
      record {
        boxes = λ s j h. (v.each s).boxes j (le-leb s (A.clock j) h);
        starts = started;
        phase = λ s. (v.each s).negotiates ∙ sync-phase A.log (begun_fleet f t left) v.begun v.some s;
        place = λ s. (v.each s).place ∙ place_is (begun_fleet f t left) v.begun A.log v.some (begun-place f t left b) s
            ∙ ap (λ (g : Config). place_of_phase g s) (begun-config f t left b);
        answers = sync-answers A.log A.answers (begun_fleet f t left) v.begun v.some v.answers;
        demand3 = λ s. fleet-holds.demand3 f t left b (sorted A.log s);
      }

  abbrev x : ℕ → Fleet
  x s = fleet_final f t left (sorted A.log s)

  -- a box in negotiation is live in the sorted list
  in_one : (s k : ℕ) (n : Negotiates A s k) → live ((x s).boxes k) ≡ true
  in_one s k n = ap live (sym (one.boxes s k n.came)) ∙ n.lives

  agree : f.split ≡ 0 → (s i j : ℕ) → Negotiates A s i → Negotiates A s j → 0 < version_in (reading_in A s i)
      → 0 < version_in (reading_in A s j) → ReportsAgree (reading_in A s i) (reading_in A s j)
  agree u s i j p q =
      rw (one.boxes s i p.came, one.boxes s j q.came)
      (λ vi vj. ((one.demand3 s).agreeing u).agreement (phase-of s ∙ p.phase) i j p.number q.number (in_one s i p) (in_one s j q) vi
      vj)

  slots_apart : f.split ≡ 0 → (s i j : ℕ) → Negotiates A s i → Negotiates A s j → i ≢ j
      → SlotsApart ((A.phases s).boxes i) ((A.phases s).boxes j)
  slots_apart u s i j p q ne =
      subst (λ (b : Box). SlotsApart b ((A.phases s).boxes j)) (sym (one.boxes s i p.came))
      (subst (λ (b : Box). SlotsApart ((x s).boxes i) b) (sym (one.boxes s j q.came))
      (((one.demand3 s).agreeing u).masks (phase-of s ∙ p.phase) i j p.number q.number (in_one s i p) (in_one s j q) ne))

  at-one-phase : f.split ≡ 0 → (s i j k : ℕ) → 1 ≤ i → 1 ≤ j → negotiation s ≡ true → s ≤ A.clock i → s ≤ A.clock j
      → live ((A.phases s).boxes i) ≡ true → live ((A.phases s).boxes j) ≡ true
      → slot_in (reading ((A.phases s).boxes i)) k ≡ i → slot_in (reading ((A.phases s).boxes j)) k ≡ j → i ≡ j
  at-one-phase u s i j k ni nj g ci cj =
      rw (one.boxes s i ci, one.boxes s j cj)
      (λ li lj oi oj. ((one.demand3 s).agreeing u).alone (phase-of s ∙ g) i j ni nj li lj k oi oj)

  shown : (area : List ℕ) → area_size ≤ length area → (s : ℕ) → Replays f t A area s
  shown area h s =
      let r = (one.demand3 s).replayed area h in
      record { answers = sym r.answers ∙ one.answers s; shows = λ j n c. rw (one.boxes s j c) (r.shows j n) }

  single : f.split ≡ 0 → (i j k : ℕ) → Abreast (A.clock i) (A.clock j) → Reads A i k → Reads A j k → i ≡ j
  single u i j k near p q =
      let e : A.clock i ≡ A.clock j = same-phase (A.clock i) (A.clock j) p.phase q.phase near in
      let l : A.clock i ≤ A.clock j = omega arith in
      at-one-phase u (A.clock i) i j k p.numbered q.numbered p.phase (omega arith) l p.lives
      (ap (λ (s : ℕ). live ((A.phases s).boxes j)) e ∙ q.lives) p.owns
      (ap (λ (s : ℕ). slot_in (reading ((A.phases s).boxes j)) k) e ∙ q.owns)

  -- a box that is up holds a node, and its phase is its clock's
  valid-now : (j : ℕ) → 1 ≤ j → (box_now A j).up ≡ true → valid (box_now A j).area ≡ true
  valid-now j n u =
      let e = one.boxes (A.clock j) j (omega arith) in
      ap (λ (c : Box). valid c.area) e ∙ (one.demand3 (A.clock j)).working.node j n (sym (ap (λ (c : Box). c.up) e) ∙ u)

  phase-now : (j : ℕ) → negotiation (A.clock j) ≡ true → (A.phases (A.clock j)).negotiates ≡ true
  phase-now j g = one.phase (A.clock j) ∙ g

  working : (j : ℕ) → 1 ≤ j → Works A j
  working j n =
      let c = A.clock j in
      let e = one.boxes c j (omega arith) in
      let w = (one.demand3 c).working in
      let g : (A.phases c).air ≡ (x c).air = (v.each c).air in
      record {
        node = valid-now j n;
        phase = rw e (λ l. w.phase j n l ∙ phase-of c);
        closes = λ t. rw e (λ l. w.closes (phase-of c ∙ t) j n l);
        ends = λ t. rw e (λ u. w.ends (phase-of c ∙ t) j n u);
        hears = λ t. rw (e, g) (λ l p h. w.hears (phase-of c ∙ t) j p n l h);
        takes = λ t. rw e (λ l i m h. rw (one.boxes c i h) (λ li si. w.takes (phase-of c ∙ t) i j m n li si l));
        slots = λ t l. subst (λ (b : Box). SlotsAsRead b j) (sym e) (w.slots (phase-of c ∙ t) j n (sym (ap live e) ∙ l));
        slots-only = λ u d.
            let o = w.slots-only j n (sym (ap (λ (b : Box). b.up) e) ∙ u)
            (sym (ap (λ (b : Box). slots_answer b.area (zeros slots_size)) e) ∙ d) in
            (ap live e ∙ o.0, sym (phase-of c) ∙ o.1);
      }

  -- the slots that `hydra_slots` gives, and those that are read
  gets-reads : (j k : ℕ) → Gets A j k → Reads A j k
  gets-reads j k g =
      let w = working j g.numbered in
      let o = w.slots-only g.up g.answer in
      record { numbered = g.numbered; phase = o.1; lives = o.0; owns = eqb-true _ j (sym ((w.slots o.1 o.0).slots k) ∙ g.has) }

  reads-gets : (j k : ℕ) → Reads A j k → Gets A j k
  reads-gets j k r =
      let w = (working j r.numbered).slots r.phase r.lives in
      record { numbered = r.numbered; up = up_of (box_now A j) r.lives; answer = w.answer; has = w.slots k ∙ eq-eqb _ j r.owns }

  known : (j k : ℕ) → Knows A j k → Reads A j k
  known j k (by_read r) = r
  known j k (by_slots g) = gets-reads j k g

  pub all : ApartDemand3 f t left A
  all = record {
    as_one = one;
    agreement = agree;
    masks = slots_apart;
    justified = λ u. all-justified f t left b u A v;
    came = λ u. have-come f t left b u A v;
    unique = λ u. all-unique f t left b u A v;
    replayed = shown;
    works = working;
  }

-- what a box reads, over a list of steps that passes it by
settled-run : (f : Config) (t : Table) (left : ℕ → List ℕ) → Begins f t left → (A : Apart) → Inv (begun_fleet f t left) A
    → (more : List Step) (j : ℕ) → 1 ≤ j
    → negotiation (A.clock j) ≡ true → (box_now A j).up ≡ true → all_stay j more ≡ true
    → SameReading (box_now A j) (box_now (apart_run A more) j)
unfolding apart_run all_stay
settled-run f t left b A v [] j n g u p = still (box_now A j)
settled-run f t left b A v (m ∷ more) j n g u p =
    let q : stays j m ≡ true = and_left (stays j m) (all_stay j more) p in
    let h = phase-now f t left b A v j g in
    let w = valid-now f t left b A v j n u in
    let s = step-settled A j h u w m q in
    let c = step-clock A j m q in
    go_on s (settled-run f t left b (apart_after A m) (keeps (begun_fleet f t left) A v m) more j n (ap negotiation c ∙ g) (s.up ∙ u)
    (and_right (stays j m) (all_stay j more) p))

-- so it uses at the end of such a list what it used at its start
uses-run : (f : Config) (t : Table) (left : ℕ → List ℕ) → Begins f t left → (A : Apart) → Inv (begun_fleet f t left) A
    → (more : List Step) (j k : ℕ)
    → all_stay j more ≡ true → Reads A j k → Reads (apart_run A more) j k
uses-run f t left b A v more j k p u =
    let s = settled-run f t left b A v more j u.numbered u.phase (up_of (box_now A j) u.lives) p in
    record {
      numbered = u.numbered;
      phase = ap negotiation (clock-run A j more p) ∙ u.phase;
      lives = live-settled (box_now A j) (box_now (apart_run A more) j) s u.lives;
      owns = ap (λ (o : List ℕ). get_or o k 0) s.owners ∙ u.owns;
    }

-- clocks in step are abreast

half : (c d : ℕ) → calls c ≤ calls d + 1 → 3 * (c / 3) ≤ d + 2
half c d l = go (negotiation d) refl
  where
    p : 2 * (c / 3) ≤ calls c
    p = omega arith

    go : (t : Bool) → negotiation d ≡ t → 3 * (c / 3) ≤ d + 2
    go true g = let q : calls d ≡ 2 * (d / 3) + 0 = ap (λ (t : Bool). 2 * (d / 3) + cond t 0 1) g in omega (arith, p, q, l)
    go false g =
        let q : calls d ≡ 2 * (d / 3) + 1 = ap (λ (t : Bool). 2 * (d / 3) + cond t 0 1) g in
        let z : d % 3 ≢ 0 = eqb-false (d % 3) 0 g in
        omega (arith, p, q, l, z)

step-abreast : (A : Apart) → AllInStep A → AllAbreast A
step-abreast A s = record {
  any = λ i j u v. let e = s.any i j u v in record {
    one = half (A.clock i) (A.clock j) e.one;
    other = half (A.clock j) (A.clock i) e.other;
  };
}

-- the theorem
pub apart-holds : ApartHolds
apart-holds =
    record {
      demand3 = λ f t left b steps. all f t left b (apart_run (begun_apart f t left) steps) (reached f t left steps);
      same-slots = λ f t left b steps j k.
          let A = apart_run (begun_apart f t left) steps in
          let v = reached f t left steps in
          (gets-reads f t left b A v j k, reads-gets f t left b A v j k);
      until-close = λ f t left b steps more j n g u p. settled-run f t left b (apart_run (begun_apart f t left) steps)
          (reached f t left steps) more j n g u p;
      alone-two = two;
      alone = single-user;
      abreast = λ f t left steps o. abreast-run (begun_apart f t left) steps (abreast-begun f t left) o;
      in_step = step-abreast;
      at_once = λ A s i j u v e. same-round (A.clock i) (A.clock j) (s.any i j u v) e;
      keeps-time = keeps-time;
      alone-on-time = λ f t left b s steps shortest skew time due T w o.
          single-user f t left b s steps (step-abreast _ (keeps-time.in_step shortest skew due T w time
          (apart_run (begun_apart f t left) steps) o));
      windows = λ f t left b steps D e j ws h u l.
          let A = apart_run (begun_apart f t left) steps in
          let v = reached f t left steps in
          want-and-end A j u (ap (λ (g : Config). outside g j) (config-now f t left A v (A.clock j)) ∙ up-known f t left A v j u) l
          (demand_after f.nodes j D ws e (decoded (box_now A j).area).demand)
          ∙ service.same f.nodes j D e ws h (box_now A j).area (valid-now f t left b A v j (up-inside f t left A v j u).0 u);
    }
  where
    reached : (f : Config) (t : Table) (left : ℕ → List ℕ) (steps : List Step)
        → Inv (begun_fleet f t left) (apart_run (begun_apart f t left) steps)
    reached f t left steps = keeps-run (begun_fleet f t left) (begun_apart f t left) (keeps-begun f t left) steps

    has : (f : Config) (t : Table) (left : ℕ → List ℕ) → Begins f t left → (steps : List Step) (j k : ℕ) → Uses f t left steps j k
        → Reads (apart_run (begun_apart f t left) steps) j k
    has f t left b steps j k h =
        let A = apart_run (begun_apart f t left) h.before in
        let v = reached f t left h.before in
        subst (λ (A : Apart). Reads A j k) (sym (apart-append (begun_apart f t left) h.before h.since)
        ∙ ap (apart_run (begun_apart f t left)) h.are)
        (uses-run f t left b A v h.since j k h.stayed (known f t left b A v j k h.knew))

    two : (f : Config) (t : Table) (left : ℕ → List ℕ) → Begins f t left → f.split ≡ 0 → (steps : List Step) (i j k : ℕ)
        → Abreast ((apart_run (begun_apart f t left) steps).clock i) ((apart_run (begun_apart f t left) steps).clock j) → Uses f t left steps i k
        → Uses f t left steps j k → i ≡ j
    two f t left b s steps i j k near p q = single f t left b (apart_run (begun_apart f t left) steps) (reached f t left steps) s i j k near
        (has f t left b steps i k p) (has f t left b steps j k q)

    single-user : (f : Config) (t : Table) (left : ℕ → List ℕ) → Begins f t left → f.split ≡ 0 → (steps : List Step)
        → AllAbreast (apart_run (begun_apart f t left) steps)
        → (i j k : ℕ) → Uses f t left steps i k → Uses f t left steps j k → i ≡ j
    single-user f t left b s steps near i j k p q =
        let A = apart_run (begun_apart f t left) steps in
        two f t left b s steps i j k (near.any i j (up_of (box_now A i) (has f t left b steps i k p).lives)
        (up_of (box_now A j) (has f t left b steps j k q).lives)) p q
