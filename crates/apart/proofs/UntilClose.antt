-- In negotiation no call changes what a box reads of version and owners, so that what it read at the round's start it would read at any
-- moment before its close.
-- Assumes nothing.
use mathlib.Core.Path.{◌≡◌, refl, sym, ap, ap₂, ◌∙◌, subst}
use mathlib.Core.Bool.{Bool, true, false, not, cond, ◌&&◌, ◌||◌}
use mathlib.Core.Logic.{◌≢◌}
use mathlib.Core.List.{List, [], ◌∷◌, ◌++◌}
use Prim.Native.Nat.{ℕ}
use borrow.Author.Tests.{eq-eqb, eqb-true}
use lib.Dec.{eqb}
use lib.ListN.{length-replicate}
use Rattle.words.proofs.Tests.{never, and_left, and_right}
use Rattle.allotment.specs.Allotment.{owners_of}
use Rattle.node.specs.Answers.{is_done}
use Rattle.node.specs.Negotiation.{heard_node}
use Rattle.node.specs.Steps.{wanted_node}
use Rattle.node.specs.declared.Setup.{Setup}
use Rattle.node.specs.Model.{Node}
use Rattle.node.specs.Answers.{Answer}
use Rattle.node.specs.Answers.{Done, OutOfRange, NoSuchNode, WrongPhase, NotDown}
use Rattle.node.proofs.Answers.{done-is}
use Rattle.node.proofs.Laws as law
use Rattle.range.specs.Range.{in_range}
use Rattle.range.proofs.Lengths.{Lengths, long-hear, long-want}
use Rattle.wire.specs.Layout.{packet_in}
use Rattle.wire.specs.Phases.{phase_byte}
use Rattle.area.specs.Area.{encoded, decoded, valid}
use Rattle.area.proofs.Canon.{lengths, canonical}
use Rattle.area.proofs.Valid.{range-of}
use Rattle.host.specs.Report.{report_size, report}
use Rattle.host.specs.Calls.{out_read, hearing_of, after_hear, wanting_of, after_want, slots_size, slots_answer, out_slots}
use Rattle.host.proofs.Nodes as host
use Rattle.host.proofs.Slots.{same_answer, same-slots}
use Rattle.host.proofs.Stays.{hear-range, want-range}
use Rattle.node.specs.Figures.{flags_ok}
use Rattle.site.specs.Members.{setup_of, outside}
use Rattle.site.specs.declared.Event.{Event}
use Rattle.site.specs.declared.Event.TheVariants.{Send, Hear, Close, Take, End, Want, Crash, Restart}
use Rattle.boxes.specs.fleet.Fleet.{Box, Fleet, Act, zeros, version_in, box_owners, box_phase, live, packet, change, fleet_take, fleet_restart}
use Rattle.boxes.specs.fleet.Fleet.{fleet_answer, next_fleet, fleet_after}
use Rattle.apart.specs.Apart.{Step, tick, act, Apart, box_now, acting_box, possible, acted, ticked, apart_after, apart_run}
use Rattle.apart.specs.Claim.{SameReading, no_crash, stays, all_stay}
use Rattle.apart.proofs.Local.{within, anyone, but-is}
use Rattle.apart.proofs.Near.{possible-any, acted-clock, clock-else, now-same}

-- The calls

module _ (a : List ℕ) (v : valid a ≡ true) where
  abbrev n : Node
  n = decoded a

  read_is : out_read a (zeros report_size) ≡ report n
  read_is = ap (λ (b : List ℕ). out_read b (zeros report_size)) (sym (canonical a v))
      ∙ host.read-writes n (lengths a) (range-of a v) (zeros report_size) (length-replicate {A = ℕ} report_size 0)

  -- another node with the number, the version and the schedule of this one
  module _ (up : Bool) (out : List ℕ) (m : Node) (l : Lengths m) (r : in_range m ≡ true)
      (j : m.setup.node ≡ n.setup.node) (e : m.version ≡ n.version) (g : owners_of m.schedule ≡ owners_of n.schedule)
      (h : m.phase ≡ n.phase) where
    next-is : out_read (encoded m) (zeros report_size) ≡ report m
    next-is = host.read-writes m l r (zeros report_size) (length-replicate {A = ℕ} report_size 0)

    settled-node : SameReading (record { up = up; area = a; out = out }) (record { up = up; area = encoded m; out = out })
    settled-node =
        record {
          up = refl;
          version = ap version_in next-is ∙ host.version-in m r ∙ e ∙ sym (host.version-in n (range-of a v)) ∙ sym (ap version_in read_is);
          owners = ap box_owners next-is ∙ host.owners-in m l ∙ g ∙ sym (host.owners-in n (lengths a)) ∙ sym (ap box_owners read_is);
          phase = ap box_phase next-is ∙ host.phase-in m l ∙ ap phase_byte h ∙ sym (host.phase-in n (lengths a)) ∙ sym (ap box_phase read_is);
          answer = same_answer m n l r (lengths a) (range-of a v) j g h (zeros slots_size)
              ∙ ap (λ (b : List ℕ). slots_answer b (zeros slots_size)) (canonical a v);
          own = same-slots m n l r (lengths a) (range-of a v) j g h (zeros slots_size)
              ∙ ap (λ (b : List ℕ). out_slots b (zeros slots_size)) (canonical a v);
        }

  settled-unless : (up : Bool) (out : List ℕ) (x : Answer) (m : Node) → Lengths m → (x ≡ Done → in_range m ≡ true)
      → m.setup.node ≡ n.setup.node → m.version ≡ n.version → owners_of m.schedule ≡ owners_of n.schedule → m.phase ≡ n.phase
      → SameReading (record { up = up; area = a; out = out }) (record { up = up; area = cond (is_done x) (encoded m) a; out = out })
  settled-unless up out x m l r j e g h = go (is_done x) refl
    where
      go : (t : Bool) → is_done x ≡ t → SameReading (record {
        up = up;
        area = a;
        out = out;
      }) (record { up = up; area = cond t (encoded m) a; out = out })
      go true d = settled-node up out m l (r (done-is x d)) j e g h
      go false d = record { up = refl; version = refl; owners = refl; phase = refl; answer = refl; own = refl }

  settled-hear : (up : Bool) (out p : List ℕ) → SameReading (record {
    up = up;
    area = a;
    out = out;
  }) (record { up = up; area = after_hear a p; out = out })
  unfolding after_hear
  settled-hear up out p =
      let h = law.hears n (packet_in p) in
      settled-unless up out (hearing_of a p) (heard_node n (packet_in p)) (long-hear n (packet_in p) (lengths a)) (hear-range a v p)
      (ap (λ (y : Setup). y.node) h.setup) h.version (ap owners_of h.schedule) h.phase

  settled-want : (up : Bool) (out : List ℕ) (d : ℕ) → SameReading (record {
    up = up;
    area = a;
    out = out;
  }) (record { up = up; area = after_want a d; out = out })
  unfolding after_want
  settled-want up out d =
      let h = law.wants n d in
      settled-unless up out (wanting_of a d) (wanted_node n d) (long-want n d (lengths a)) (want-range a v d) (ap (λ (y : Setup). y.node)
      h.setup) h.version (ap owners_of h.schedule) h.phase

-- The events of one phase

pub still : (b : Box) → SameReading b b
still b = record { up = refl; version = refl; owners = refl; phase = refl; answer = refl; own = refl }

pub go_on : {a b c : Box} → SameReading a b → SameReading b c → SameReading a c
go_on p q = record {
  up = q.up ∙ p.up;
  version = q.version ∙ p.version;
  owners = q.owners ∙ p.owners;
  phase = q.phase ∙ p.phase;
  answer = q.answer ∙ p.answer;
  own = q.own ∙ p.own;
}

settled-put : (x : Fleet) (i j : ℕ) (c : Box) → (i ≡ j → SameReading (x.boxes i) c) → SameReading (x.boxes j) ((change x i c).boxes j)
settled-put x i j c f = go (eqb j i) refl
  where
    go : (t : Bool) → eqb j i ≡ t → SameReading (x.boxes j) (cond t c (x.boxes j))
    go true e = let h : j ≡ i = eqb-true j i e in subst (λ (k : ℕ). SameReading (x.boxes k) c) (sym h) (f (sym h))
    go false e = still (x.boxes j)

-- no taking in negotiation, and no restart of a box that is up
take_no : (x : Fleet) (i h : ℕ) → x.negotiates ≡ true → is_done (fleet_take x i h) ≡ false
unfolding fleet_take
take_no x i h n = go (outside x.config i || outside x.config h) x.negotiates n _
  where
    go : (o p : Bool) → p ≡ true → (a : Answer) → is_done (cond o NoSuchNode (cond p WrongPhase a)) ≡ false
    go true p e a = refl
    go false p e a = ap (λ (t : Bool). is_done (cond t WrongPhase a)) e

restart-no : (x : Fleet) (i flags : ℕ) → (x.boxes i).up ≡ true → is_done (fleet_restart x i flags) ≡ false
unfolding fleet_restart
restart-no x i flags u = go (flags_ok (setup_of x.config i) flags) (outside x.config i) (x.boxes i).up u _
  where
    go : (g o p : Bool) → p ≡ true → (a : Answer) → is_done (cond g (cond o NoSuchNode (cond p NotDown a)) OutOfRange) ≡ false
    go false o p e a = refl
    go true true p e a = refl
    go true false p e a = ap (λ (t : Bool). is_done (cond t NotDown a)) e

module _ (x : Fleet) (j : ℕ) (n : x.negotiates ≡ true) (u : (x.boxes j).up ≡ true) (v : valid (x.boxes j).area ≡ true) where
  at_own : (i : ℕ) → i ≡ j → valid (x.boxes i).area ≡ true
  at_own i e = ap (λ (k : ℕ). valid (x.boxes k).area) e ∙ v

  settled-next : (e : Event) (left : List ℕ) → within anyone e ≡ true → no_crash j e ≡ true → is_done (fleet_answer x e) ≡ true
      → SameReading (x.boxes j) ((next_fleet x e left).boxes j)
  settled-next (Send i) left w s d = still (x.boxes j)
  settled-next (Hear i p) left w s d = settled-put x i j _ (λ e. settled-hear (x.boxes i).area (at_own i e) (x.boxes i).up
      (x.boxes i).out (packet x p))
  settled-next Close left w s d = never (sym w)
  settled-next (Take i h) left w s d = never (sym d ∙ take_no x i h n)
  settled-next End left w s d = never (sym w)
  settled-next (Want i q) left w s d = settled-put x i j _ (λ e. settled-want (x.boxes i).area (at_own i e) (x.boxes i).up
      (x.boxes i).out q)
  settled-next (Crash i) left w s d = settled-put x i j _ (λ e. never (sym s ∙ ap not (eq-eqb i j e)))
  settled-next (Restart i flags) left w s d = settled-put x i j _
      (λ e. never (sym d ∙ restart-no x i flags (ap (λ (k : ℕ). (x.boxes k).up) e ∙ u)))

  pub settled-after : (a : Act) → within anyone a.event ≡ true → no_crash j a.event ≡ true
      → SameReading (x.boxes j) ((fleet_after x a).boxes j)
  unfolding fleet_after
  settled-after a w s = go (is_done (fleet_answer x a.event)) refl
    where
      go : (t : Bool) → is_done (fleet_answer x a.event) ≡ t → SameReading (x.boxes j)
          ((cond t (next_fleet x a.event a.left) x).boxes j)
      go true d = settled-next a.event a.left w s d
      go false d = still (x.boxes j)

-- Steps

module _ (A : Apart) (j : ℕ) (n : (A.phases (A.clock j)).negotiates ≡ true) (u : (box_now A j).up ≡ true)
    (v : valid (box_now A j).area ≡ true) where
  acted-settled : (a : Act) → no_crash j a.event ≡ true → SameReading (box_now A j) (box_now (acted A a) j)
  unfolding acted
  acted-settled a s = go (possible A a.event) refl
    where
      c : ℕ
      c = A.clock j

      go : (t : Bool) → possible A a.event ≡ t
          → SameReading (box_now A j) (box_now (cond t
          (record {
            clock = A.clock;
            phases = λ s. cond (eqb s (A.clock (acting_box a.event))) (fleet_after (A.phases s) a) (A.phases s);
            log = λ s. cond (eqb s (A.clock (acting_box a.event))) (A.log s ++ (a ∷ [])) (A.log s);
            answers = λ s. cond (eqb s (A.clock (acting_box a.event))) (A.answers s ++ (fleet_answer (A.phases s) a.event ∷ []))
                (A.answers s);
          })
          A) j)
      go false r = still (box_now A j)
      go true r = at (eqb c (A.clock (acting_box a.event)))
        where
          at : (t : Bool) → SameReading (box_now A j) ((cond t (fleet_after (A.phases c) a) (A.phases c)).boxes j)
          at true = settled-after (A.phases c) j n u v a (possible-any A a.event r) s
          at false = still (box_now A j)

  tick-settled : (i : ℕ) → not (eqb i j) ≡ true → SameReading (box_now A j) (box_now (ticked A i) j)
  tick-settled i p = let h : j ≢ i = but-is i j p in subst (SameReading (box_now A j)) (sym (now-same A i j h)) (still (box_now A j))

  pub step-settled : (m : Step) → stays j m ≡ true → SameReading (box_now A j) (box_now (apart_after A m) j)
  step-settled (tick i) p = tick-settled i p
  step-settled (act a) p = acted-settled a p

-- the clock is where it was
pub step-clock : (A : Apart) (j : ℕ) (m : Step) → stays j m ≡ true → (apart_after A m).clock j ≡ A.clock j
step-clock A j (tick i) p = clock-else A i j (but-is i j p)
step-clock A j (act a) p = acted-clock A a j

pub clock-run : (A : Apart) (j : ℕ) (steps : List Step) → all_stay j steps ≡ true → (apart_run A steps).clock j ≡ A.clock j
unfolding apart_run all_stay
clock-run A j [] p = refl
clock-run A j (m ∷ steps) p =
    clock-run (apart_after A m) j steps (and_right (stays j m) (all_stay j steps) p)
    ∙ step-clock A j m (and_left (stays j m) (all_stay j steps) p)

pub apart-append : (A : Apart) (steps more : List Step) → apart_run A (steps ++ more) ≡ apart_run (apart_run A steps) more
unfolding apart_run
apart-append A [] more = refl
apart-append A (m ∷ steps) more = apart-append (apart_after A m) steps more

pub live-settled : (b c : Box) → SameReading b c → live b ≡ true → live c ≡ true
unfolding live
live-settled b c s h = ap₂ (λ (u : Bool) (p : ℕ). u && not (eqb p 3)) s.up s.phase ∙ h
