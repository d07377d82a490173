-- A close, third part: what is determined, and the whole site.
-- Assumes nothing.
use mathlib.Core.Path.{◌≡◌, refl, sym, ap, ◌∙◌}
use mathlib.Core.Bool.{Bool, true, false}
use mathlib.Core.List.Memᴰ
use mathlib.Core.List.{List, ◌++◌, Memᴰ}
use Prim.Native.Nat.{ℕ, ◌+◌, ◌-◌}
use native.Mathlib.Omega.{arith}
use lib.ListN.{get_or}
use Rattle.words.proofs.Tests.{clash}
use Rattle.allotment.specs.Model.{Schedule}
use Rattle.node.specs.Figures.{is_last}
use Rattle.node.specs.Close.{determines}
use Rattle.node.specs.declared.Setup.{Setup}
use Rattle.node.specs.Model.{Node}
use Rattle.node.proofs.Verdicts.{determines-tests}
use Rattle.site.specs.Members.{nobody}
use Rattle.site.specs.Steps.{closed_site}
use Rattle.node.specs.declared.Config.{Config}
use Rattle.site.specs.Model.{Member}
use Rattle.site.specs.Model.{Site}
use Rattle.site.proofs.Steps.{member-closed}
use Rattle.histories.specs.Past.{Determination, Past, determination, determined_at, past_at_close}
use Rattle.histories.proofs.Tests.{either}
use Rattle.histories.proofs.Sets.{In, in-number}
use Rattle.histories.proofs.Members.{member, live-up, awake}
use Rattle.histories.proofs.Steady.{steady-setup, steady-last}
use Rattle.histories.proofs.Logs.{new-of}
use Rattle.histories.proofs.Always.{Kept}
use Rattle.agreement.specs.Demand.{Justified, SameDetermination}
use Rattle.agreement.proofs.Members.{each_at, Miss}
use Rattle.agreement.proofs.Stages.{Stage, idle, rep, dec, fin, IsFin, Closing, Glob, Base}
use Rattle.agreement.proofs.Invariant.{LogOk, Matches, Inv}
use Rattle.agreement.proofs.Ready.{test, All, Ready, ready, ready-match}
use Rattle.agreement.proofs.Closes.{C, is-Q, base-of, at_x, dec-asks, dec-new, shut, close-each, shut-glob, shut-late}

match-same : (g : Stage) (d e : Determination) → (IsFin g → ⊥) → Matches g d → Matches g e → SameDetermination d e
match-same idle d e k p q = absurd p
match-same (rep Q x s) d e k p q = absurd p
match-same (fin Q x new) d e k p q = absurd (k tt)
match-same (dec Q x rq new) d e k p q = record {
  version = p.version ∙ sym q.version;
  schedule = p.sched ∙ sym q.sched;
  nodes = p.nodes ∙ sym q.nodes;
  requests = λ j h. let z : In Q (j - 1) = rw p.nodes at (in-number d.nodes j h) in p.R (j - 1) z ∙ sym (q.R (j - 1) z);
}

shut-match : (g : Stage) (l : Bool) (d : Determination) → Matches g d → Matches (shut g l) d
shut-match idle l d m = m
shut-match (rep Q x s) l d m = m
shut-match (dec Q x rq new) true d m = (m.version, m.sched)
shut-match (dec Q x rq new) false d m = m
shut-match (fin Q x new) l d m = m

-- a log and what a close adds, all of the epoch's in one stage
module _ (N : ℕ) (g : Stage) (k : IsFin g → ⊥) (ep : ℕ) (log new : List Determination) (old : LogOk N log)
    (now : (d : Determination) → Memᴰ d log → d.epoch ≡ ep → Matches g d)
    (adds : (d : Determination) → Memᴰ d new → (d.epoch ≡ ep) × Matches g d × Justified N d) where
  more-now : (d : Determination) → Memᴰ d (log ++ new) → d.epoch ≡ ep → Matches g d
  more-now d m e = either (Memᴰ.append_cases log m) (λ p. now d p e) (λ p. (adds d p).1)

  more-old : LogOk N (log ++ new)
  more-old = record {
    each = λ d m. either (Memᴰ.append_cases log m) (old.each d) (λ p. (adds d p).2);
    pair = λ d e m n h. either (Memᴰ.append_cases log m)
        (λ p. either (Memᴰ.append_cases log n) (λ q. old.pair d e p q h)
        (λ q. match-same g d e k (now d p (h ∙ (adds e q).0)) (adds e q).1))
        (λ p. match-same g d e k (adds d p).1 (more-now e n (sym h ∙ (adds d p).0)));
  }

module _ (f : Config) (here : ℕ) (M : ℕ → ℕ) (w : ℕ) (sch : ℕ → Schedule) (past : Past) where
  -- in the stage made ready, what determines now is what the stage says
  fits-stage : (g : Stage) → (IsFin g → ⊥) → Glob M w sch f g → Base M w sch past.start g → (i : ℕ) (n : Node)
      → Closing f here M w sch g past.start i n → test g n ≡ false → determines n ≡ true
      → Matches g (determination past n) × Justified f.nodes (determination past n)
  fits-stage idle k G B i n A t y = clash _ (determines-tests n y).0 t
  fits-stage (rep Q x s) k G B i n A t y = clash _ y t
  fits-stage (fin Q x new) k G B i n A t y = absurd (k tt)
  fits-stage (dec Q x rq new) k G B i n A t y =
      let e = (determines-tests n y).0 in
      let K = C f here M w sch past.start i n Q x rq new G B A e in
      let q = is-Q f here M w sch past.start i n Q x rq new G B A e in
      let v = at_x f here M w sch past.start i n Q x rq new G B A e in
      let bo = base-of f here M w sch past.start i n Q x rq new G B A e in (
        record {
          version = omega (arith, v);
          sched = dec-new f here M w sch past.start i n Q x rq new G B A e;
          nodes = sym q;
          R = dec-asks f here M w sch past.start i n Q x rq new G B A e;
        },
        record {
          most = K.most;
          held = λ j h.
              let u = K.all (in-number n.round.merged j h) in
              record {
                live = A.good.was u.1;
                request = sym (u.1.at ∙ A.good.req u.1);
                version = ap (λ (z : ℕ). z + 1) ((bo (j - 1) u.0 u.1).0 ∙ sym v);
              };
        },
      )

  adds-of : (g : Stage) (k : IsFin g → ⊥) (G : Glob M w sch f g) (nodes : List Member) (E : All f here M w sch past.start g nodes)
      (B : Base M w sch past.start g) (O : (i : ℕ) → Miss (test g) (get_or nodes i nobody)) (d : Determination)
      → Memᴰ d (determined_at past nodes) → (d.epoch ≡ past.epoch) × Matches g d × Justified f.nodes d
  adds-of g k G nodes E B O d m =
      let x = new-of past nodes d m in
      let t = fits-stage g k G B x.i (get_or nodes x.i nobody).node ((E x.i).live x.live) ((O x.i).no x.live) x.yes in
      (ap (λ (z : Determination). z.epoch) x.d-is, rw x.d-is t.0, rw x.d-is t.1)

-- from the stage made ready
close-inv : (past : Past) (s : Site) (I : Inv past s) (r : Ready s.config s.place I.M I.w I.sch past.start s.members)
    → ((d : Determination) → Memᴰ d past.log → d.epoch ≡ past.epoch → Matches r.g d) → Inv (past_at_close past s) (closed_site s)
unfolding closed_site
close-inv past s I r now =
    let l = is_last s.config s.place in
    let adds = adds-of s.config s.place I.M I.w I.sch past r.g r.calm r.glob s.members r.each r.base
    r.ok in
    record {
      whole = I.whole;
      M = I.M;
      w = I.w;
      sch = I.sch;
      g = shut r.g l;
      none = I.none;
      comp = I.comp;
      glob = shut-glob s.config s.place I.M I.w I.sch past.start r.g r.glob l;
      late = λ z. (refl, shut-late r.g r.calm l z);
      start = I.start;
      base = λ z. clash false z refl;
      old = more-old s.config.nodes r.g r.calm past.epoch past.log _ I.old now adds;
      now = λ d m y. shut-match r.g l d (more-now s.config.nodes r.g r.calm past.epoch past.log _ I.old now adds d m
          y);
      each = λ i. each_at (member-closed s i)
          (close-each s.config s.place I.M I.w I.sch past.start r.g r.calm r.glob r.base l refl i
          (member s i) (r.each i) (r.ok i));
    }

-- each live node as its round closes
closing : {f : Config} {past : Past} {s : Site} {area : List ℕ} → Kept f past s area → (I : Inv past s) → s.negotiates ≡ true
    → All s.config s.place I.M I.w I.sch past.start I.g s.members
closing {s = s} h I t i = record {
  live = λ l.
      let st = (h.sound.each i).up (live-up (member s i) l) in
      let z = (h.sight.each i).sees t l in
      let A = (I.each i).live l in
      record {
        whole = ap (λ (x : Setup). x.config.split) (steady-setup st) ∙ I.whole;
        setup = steady-setup st;
        last = steady-last st;
        phase = st.phase (awake (member s i) l) ∙ t;
        good = z.good I.M I.start;
        ver = z.version;
        req = z.request;
        flags = A.flags;
        stage = A.stage;
      };
}

-- an accepted close
pub keep-close : {f : Config} {past : Past} {s : Site} {area : List ℕ} → Kept f past s area → Inv past s → s.negotiates ≡ true
    → Inv (past_at_close past s) (closed_site s)
keep-close {past = past} {s = s} h I t =
    let k : IsFin I.g → ⊥ = λ z. clash s.negotiates t (I.late z).0 in
    let E = closing h I t in
    close-inv past s I (ready s.config s.place I.M I.w I.sch past.start s.members I.g k I.glob E (I.base t))
    (λ d m y. ready-match s.config s.place I.M I.w I.sch past.start s.members I.g k I.glob E (I.base t) d
    (I.now d m y))
