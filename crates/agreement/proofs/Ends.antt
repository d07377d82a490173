-- What the end of a round keeps, and the end of an epoch.
-- Assumes nothing.
use mathlib.Core.Path.{◌≡◌, refl, sym, ap, ◌∙◌, subst}
use mathlib.Core.Bool.{Bool, true, false, cond}
use mathlib.Core.Logic.{◌⊎◌, inl, inr}
use mathlib.Core.List.{List}
use Prim.Native.Nat.{ℕ, suc, ◌*◌, ◌≤◌, ◌<◌}
use native.Mathlib.Omega.{arith}
use borrow.Author.Tests.{eq-eqb, ne_eqb}
use lib.Dec.{eqb}
use Rattle.words.specs.Bits.{size}
use Rattle.words.proofs.Tests.{met?, clash, hit, skip}
use Rattle.allotment.specs.Allotment.{free}
use Rattle.allotment.specs.Model.{Schedule}
use Rattle.node.specs.Figures.{is_last, negotiates, is_waiting, sending}
use Rattle.membership.specs.counters.Counters.{with_self}
use Rattle.node.specs.End.{expires, ended_node}
use Rattle.node.specs.declared.Setup.{Setup}
use Rattle.node.specs.Model.{Node}
use Rattle.node.specs.declared.Packet.{Packet}
use Rattle.node.proofs.Laws.{ends, end-begun}
use Rattle.node.proofs.Majority.{counts-self, kept-most}
use Rattle.node.proofs.Ended.{end-asleep, end-rejoins, end-expires, end-keeps}
use Rattle.site.specs.Members.{with_node}
use Rattle.site.specs.Steps.{end_member, ended_site}
use Rattle.node.specs.declared.Config.{Config}
use Rattle.site.specs.Model.{Member}
use Rattle.site.specs.Model.{Site}
use Rattle.site.proofs.Steps.{member-ended, ended-up, ended-down}
use Rattle.histories.specs.Past.{Past, past_at_end}
use Rattle.histories.proofs.Tests.{either}
use Rattle.histories.proofs.Sets.{In, apart, in-self}
use Rattle.histories.proofs.Members.{member, is_live_lem, asleep, down}
use Rattle.histories.proofs.Steady.{Steady, rests, steady-number, steady-last, steady-index, steady-small, steady-met}
use Rattle.histories.proofs.Sound.{Sits, Sound}
use Rattle.histories.proofs.Logs.{Upto, end_before}
use Rattle.agreement.proofs.Quorum.{IsQ}
use Rattle.agreement.proofs.Members.{Each, each_none, each_at}
use Rattle.agreement.proofs.Stages.{Tied, Stage, idle, rep, dec, fin, IsFin, Compat, core_of, Fine, Lives, lives_at, Cond, Fin, GFin}
use Rattle.agreement.proofs.Stages.{Glob}
use Rattle.agreement.proofs.Cores.{end-core}
use Rattle.agreement.proofs.Invariant.{Inv}
use Rattle.agreement.proofs.Begins.{begin-inv, First, first, first-inv}

-- a member after an end, by what it was: P before, X after
pub end-each : {f : Config} {here : ℕ} {P X : ℕ → Node → Type 0} (i : ℕ) (m : Member) → Sits f false here i m → Each P i m
    → (Steady f false here i m.node → is_waiting m.node.phase ≡ false → P i m.node → X i (ended_node m.node))
    → (Steady f false here i m.node → is_waiting m.node.phase ≡ true → Each X i (with_node m (ended_node m.node)))
    → Each X i (end_member m)
end-each i m S E lives waits = either (met? m.up)
    (λ u.
    let st = S.up u in
    each_at (ended-up m u (rests st)) (either (met? (is_waiting m.node.phase)) (waits st) (λ y. record {
      live = λ _. lives st y (E.live (is_live_lem m u y));
    })))
    (λ u. each_at (ended-down m u) (each_none m (down m u)))

-- the next round of the epoch: a live node goes on as it was, and who waited waits on
round-each : {f : Config} {here : ℕ} (M : ℕ → ℕ) (w : ℕ) (sch : ℕ → Schedule) (g : Stage) → is_last f here ≡ false
    → (i : ℕ) (m : Member)
    → Sits f false here i m → Each (Lives M w sch g false) i m → Each (Lives M w sch g true) i (end_member m)
round-each M w sch g l i m S E = end-each i m S E
    (λ st y A. let e = steady-last st ∙ l in lives_at (core_of m.node) (sending (ended_node m.node).phase)
    ((ends m.node e).flags ∙ A.flags) (end-core m.node e) refl A.stage (λ z. clash true refl z))
    (λ st y. each_none (with_node m (ended_node m.node)) (asleep (with_node m (ended_node m.node))
    (end-asleep m.node y (steady-last st ∙ l))))

-- the next epoch, where a live node's version is fine unless it expires
epoch-each : {f : Config} {here : ℕ} (M : ℕ → ℕ) (w u : ℕ) (sch sch' : ℕ → Schedule) (g : Stage) → sch' 0 ≡ free
    → is_last f here ≡ true
    → ((i : ℕ) (n : Node) → Steady f false here i n → Lives M w sch g false i n → expires n ≡ false
    → Fine u sch' n.version n.schedule)
    → (i : ℕ) (m : Member) → Sits f false here i m → Each (Lives M w sch g false) i m → Each (First u sch') i (end_member m)
epoch-each M w u sch sch' g z l fine i m S E = end-each i m S E
    (λ st y A.
    let e = steady-last st ∙ l in
    first (end-begun n e) (either (met? (expires n)) (λ x. at_zero (end-expires n e y x)) (λ x. let k = end-keeps n e y x in rw
    (k.0, k.1) (fine i n st A x))))
    (λ st y. let e = steady-last st ∙ l in record { live = λ _. first (end-begun n e) (at_zero (end-rejoins n e y)) })
  where
    n : Node
    n = m.node

    at_zero : ((ended_node n).version ≡ 0) × ((ended_node n).schedule ≡ free) → Fine u sch' (ended_node n).version (ended_node n).schedule
    at_zero k = rw (k.0, k.1) (record { ver = inl refl; sched = sym z })

-- nobody adopted
pub fine_of : (M : ℕ → ℕ) (w : ℕ) (sch : ℕ → Schedule) (g : Stage) → (IsFin g → ⊥) → (i : ℕ) (n : Node) → Cond M w sch g i (core_of n)
    → Fine w sch n.version n.schedule
fine_of M w sch idle k i n A = A.fine
fine_of M w sch (rep Q x s) k i n A = A.fine
fine_of M w sch (dec Q x rq new) k i n A = A.fine
fine_of M w sch (fin Q x new) k i n A = absurd (k tt)

fin? : (g : Stage) → (IsFin g → ⊥) ⊎ ((Q : ℕ) × (x : ℕ) × (new : Schedule) × (g ≡ fin Q x new))
fin? idle = inl (λ z. z)
fin? (rep Q x s) = inl (λ z. z)
fin? (dec Q x rq new) = inl (λ z. z)
fin? (fin Q x new) = inr (Q, x, new, refl)

-- a node that keeps its schedule is in Q or has met a node of Q: what it counts, itself included, is more than half, and so is Q
pub kept-meets : {f : Config} {here : ℕ} (M : ℕ → ℕ) (Q i : ℕ) (n : Node) → f.split ≡ 0 → Steady f false here i n → expires n ≡ false
    → IsQ f.nodes M Q → Tied M i n.epoch.interactions → (In Q i → ⊥) → ⊥
kept-meets {f} M Q i n w st e q t far =
    let o = rw (← steady-number st) at
    (in-self f.nodes n.epoch.interactions i (steady-small st) (steady-index st) (steady-met st)) in
    let X = with_self n.epoch.interactions n.setup.node in
    let h : f.nodes < 2 * size X = subst (λ (x : ℕ). f.nodes < 2 * size x) (counts-self n)
    (rw (ap (λ (u : Setup). u.config.nodes) st.setup) at (kept-most n (ap (λ (u : Setup). u.config.split) st.setup ∙ w) e)) in
    omega (
      arith,
      h,
      q.most,
      apart f.nodes X Q o.0 q.fits
          (λ j p r. either (o.1 j p) (λ m. far (t.back q.closed m r)) (λ z. far (rw z at r))),
    )

-- somebody adopted x + 1
module _ (M : ℕ → ℕ) (w : ℕ) (sch : ℕ → Schedule) (z : sch 0 ≡ free) (f : Config) (whole : f.split ≡ 0) (Q x : ℕ) (new : Schedule)
    (G : GFin M w sch f Q x new) where
  adopted : ℕ → Schedule
  adopted v = cond (eqb v (suc x)) new (sch v)

  before : (v : ℕ) → v ≤ x → adopted v ≡ sch v
  unfolding adopted
  before v h = skip (eqb v (suc x)) _ _ _ (ne_eqb v (suc x) (λ e. omega arith)) refl

  latest : adopted (suc x) ≡ new
  unfolding adopted
  latest = hit (eqb (suc x) (suc x)) _ _ (eq-eqb (suc x) (suc x) refl)

  adopted-zero : adopted 0 ≡ free
  adopted-zero = before 0 (omega arith) ∙ z

  adopted-comp : Compat (adopted x) (adopted (suc x))
  adopted-comp = rw (before x (omega arith), latest) G.comp

  -- outside Q and with nobody of Q in I_e a node expires
  fin-fine : {here : ℕ} (i : ℕ) (n : Node) → Steady f false here i n → Fin M w sch Q x new i (core_of n) → expires n ≡ false
      → Fine x adopted n.version n.schedule
  fin-fine i n st A e =
      either A.right
      (λ t. absurd (kept-meets M Q i n whole st e G.is_q t.0 t.1))
      (λ t. either t
      (λ r. record {
        ver = either r.0 inl (λ y. inr (inl y));
        sched = r.1 ∙ sym (before n.version (either r.0 (λ y. omega arith) (λ y. omega arith)));
      })
      (λ r. record { ver = inr (inr r.0); sched = r.1 ∙ sym (ap adopted r.0 ∙ latest) }))

-- the site
module _ {past : Past} {s : Site} {area : List ℕ} {air : List Packet} (h : Sound s area air) (I : Inv past s) (e : s.negotiates ≡ false)
  where
    pub sits : (i : ℕ) → Sits s.config false s.place i (member s i)
    sits i = subst (λ (b : Bool). Sits s.config b s.place i (member s i)) e (h.each i)

    pub ending : (i : ℕ) → Each (Lives I.M I.w I.sch I.g false) i (member s i)
    ending i = subst (λ (b : Bool). Each (Lives I.M I.w I.sch I.g b) i (member s i)) e (I.each i)

    round-inv : is_last s.config s.place ≡ false → Inv (past_at_end past s (ended_site s)) (ended_site s)
    unfolding ended_site
    round-inv l = begin-inv I.M I.w I.sch I.g (ended_site s) _ past.log I.whole refl I.none I.comp I.glob
        (λ y. clash _ (I.late y).1 l)
        (λ i. each_at (member-ended s i) (round-each I.M I.w I.sch I.g l i (member s i) (sits i) (ending i)))
        I.old (λ d m y. I.now d m (y ∙ skip (is_last s.config s.place) _ _ _ l refl))

    module _ (upto : Upto past) (l : is_last s.config s.place ≡ true) where
      epoch-by : (u : ℕ) (sch : ℕ → Schedule) → sch 0 ≡ free → Compat (sch u) (sch (suc u))
          → ((i : ℕ) (n : Node) → Steady s.config false s.place i n → Lives I.M I.w I.sch I.g false i n
          → expires n ≡ false → Fine u sch n.version n.schedule)
          → Inv (past_at_end past s (ended_site s)) (ended_site s)
      unfolding ended_site
      epoch-by u sch z k fine = first-inv u sch (ended_site s) _ past.log I.whole refl z I.old
          (end_before past s (ended_site s) upto l) k
          (λ i. each_at (member-ended s i) (epoch-each I.M I.w u I.sch sch I.g z l fine i (member s i) (sits i) (ending i)))

      epoch-inv : Inv (past_at_end past s (ended_site s)) (ended_site s)
      epoch-inv = either (fin? I.g)
          (λ k. epoch-by I.w I.sch I.none I.comp (λ i n st A x. fine_of I.M I.w I.sch I.g k i n A.stage))
          (λ r.
          let G : GFin I.M I.w I.sch s.config r.0 r.1 r.2 = subst (Glob I.M I.w I.sch s.config) r.3
          I.glob in
          epoch-by r.1 (adopted I.M I.w I.sch I.none s.config I.whole r.0 r.1 r.2 G)
          (adopted-zero I.M I.w I.sch I.none s.config I.whole r.0 r.1 r.2 G)
          (adopted-comp I.M I.w I.sch I.none s.config I.whole r.0 r.1 r.2 G)
          (λ i n st A. fin-fine I.M I.w I.sch I.none s.config I.whole r.0 r.1 r.2 G i n st
          (subst (λ (g : Stage). Cond I.M I.w I.sch g i (core_of n)) r.3 A.stage)))

    -- an accepted end
    pub keep-end : Upto past → Inv (past_at_end past s (ended_site s)) (ended_site s)
    keep-end upto = either (met? (is_last s.config s.place)) (epoch-inv upto) round-inv
