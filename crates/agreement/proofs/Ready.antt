-- A close, first part: the stage is lifted to the one that the round's views give, before any node closes.
-- Assumes nothing.
use mathlib.Core.Path.{◌≡◌, refl, sym, ap, ◌∙◌}
use mathlib.Core.Bool.{Bool, false}
use mathlib.Core.Logic.{inl, inr}
use mathlib.Core.List.{List}
use Prim.Native.Nat.{ℕ, ◌-◌, ◌<◌}
use native.Mathlib.Omega.{arith}
use lib.ListN.{get_or}
use Rattle.words.proofs.Tests.{clash}
use Rattle.allotment.specs.Allotment.{next}
use Rattle.allotment.specs.Model.{Schedule}
use Rattle.allotment.proofs.Laws.{compatible, same-asks}
use Rattle.node.specs.Figures.{top_version}
use Rattle.node.specs.Close.{complete, determines}
use Rattle.node.specs.declared.Setup.{Setup}
use Rattle.node.specs.Model.{Node}
use Rattle.node.proofs.Verdicts.{determines-tests, level-tests}
use Rattle.site.specs.Members.{nobody}
use Rattle.node.specs.declared.Config.{Config}
use Rattle.site.specs.Model.{Member}
use Rattle.site.specs.Model.{Site}
use Rattle.histories.specs.Past.{Determination}
use Rattle.histories.proofs.Tests.{either}
use Rattle.histories.proofs.Sets.{In}
use Rattle.histories.proofs.Views.{View, view_of, Good}
use Rattle.histories.proofs.Starts.{start_of}
use Rattle.histories.proofs.Members.{member}
use Rattle.agreement.proofs.Quorum.{Complete, complete-Q, one-Q, is-complete}
use Rattle.agreement.proofs.Members.{Each, Miss, scan}
use Rattle.agreement.proofs.Stages.{Stage, idle, rep, dec, fin, IsFin, Core, core_of, Closing, Cond, Idle, Rep, Decided, GRep, GDec}
use Rattle.agreement.proofs.Stages.{Glob, Base}
use Rattle.agreement.proofs.Invariant.{Matches}

-- a node is known to itself
pub own_in : (f : Config) (here : ℕ) (M : ℕ → ℕ) (w : ℕ) (sch : ℕ → Schedule) (g : Stage) (b : Site) (i : ℕ) (n : Node)
    → Closing f here M w sch g b i n → In n.round.merged i
own_in f here M w sch g b i n A =
    let k : n.setup.node - 1 ≡ i = omega (arith, ap (λ (x : Setup). x.node) A.setup) in
    rw k at (A.good.inm A.good.mine.1)

-- of a complete view: what the stage is then
module _ (f : Config) (M : ℕ → ℕ) (w : ℕ) (sch : ℕ → Schedule) (b : Site) (q : View) (A : Good f.nodes (start_of M b) q)
    (C : Complete f.nodes (start_of M b) q) where
  up-rep : (i : ℕ) (n : Core) → n.v ≡ (member b i).node.version → Idle M w sch i n → Rep M w sch q.m q.hi A.hi_at.0 i n
  up-rep i n e I = record {
    fine = I.fine;
    tied = inl I.tied;
    upd = I.upd;
    le = λ h. omega (arith, e, A.hi-ge (C.all h).1);
    at = λ h. e ∙ ap (λ (k : ℕ). (member b k).node.version) h ∙ A.hi_at.3;
  }

  g-rep : GRep M w sch f q.m A.hi_at.0
  g-rep = record { is_q = complete-Q f.nodes (start_of M b) A C; s-in = A.inm A.hi_at.2 }

  module _ (flat : q.lo ≡ q.hi) where
    one-version : (k : ℕ) → In q.m k → (member b k).node.version ≡ q.hi
    one-version k h = omega (arith, flat, A.lo-le (C.all h).1, A.hi-ge (C.all h).1)

    abbrev asked : ℕ → ℕ
    asked k = (member b k).node.request

    abbrev fresh : Schedule
    fresh = next (sch q.hi) q.m q.R f.nodes f.slots

    up-dec : (i : ℕ) (n : Core) → n.v ≡ (member b i).node.version → n.req ≡ (member b i).node.request → Idle M w sch i n
        → Decided M w sch q.m q.hi asked fresh i n
    up-dec i n e r I = record {
      fine = I.fine;
      tied = inl I.tied;
      ver = λ h. e ∙ one-version i h;
      req = λ h. r;
      upd = λ h. clash _ h I.upd;
    }

    re-dec : (Q x s : ℕ) → x ≡ q.hi → (i : ℕ) (n : Core) → n.v ≡ (member b i).node.version → n.req ≡ (member b i).node.request
        → Rep M w sch Q x s i n
        → Decided M w sch q.m q.hi asked fresh i n
    re-dec Q x s p i n e r I = record {
      fine = I.fine;
      tied = either I.tied inl (λ t. inr (t ∙ p));
      ver = λ h. e ∙ one-version i h;
      req = λ h. r;
      upd = λ h. clash _ h I.upd;
    }

    g-dec : q.hi < top_version → GDec M w sch f q.m q.hi asked fresh
    g-dec t = record {
      is_q = complete-Q f.nodes (start_of M b) A C;
      below = t;
      gives = λ R h. same-asks (sch q.hi) q.m R q.R f.nodes f.slots (λ k l y. let i : In q.m k = record {
        is = y;
      } in let r = C.all i in h k i ∙ sym (r.1.at ∙ A.req r.1));
      comp = record { same = compatible (sch q.hi) q.m q.R f.nodes f.slots };
    }

-- what no live node may pass once the stage is lifted
abbrev pub test : Stage → Node → Bool
test idle n = complete n
test (rep Q x s) n = determines n
test (dec Q x rq new) n = false
test (fin Q x new) n = false

no-miss : (m : Member) → Miss (λ n. false) m
no-miss m = record { no = λ e. refl }

module _ (f : Config) (here : ℕ) (M : ℕ → ℕ) (w : ℕ) (sch : ℕ → Schedule) (b : Site) where
  -- each member of a list, in negotiation
  abbrev pub All : Stage → List Member → Type 0
  All g nodes = (i : ℕ) → Each (Closing f here M w sch g b) i (get_or nodes i nobody)

  -- a stage in which each node may close
  pub record Ready (nodes : List Member) : Type 0 where
    pub g : Stage
    pub calm : IsFin g → ⊥
    pub glob : Glob M w sch f g
    pub each : All g nodes
    pub base : Base M w sch b g
    pub ok : (i : ℕ) → Miss (test g) (get_or nodes i nobody)

  module _ (g h : Stage) (lift : (i : ℕ) (n : Core) → n.v ≡ (member b i).node.version → n.req ≡ (member b i).node.request
      → Cond M w sch g i n → Cond M w sch h i n) where
    relift : (i : ℕ) (m : Member) → Each (Closing f here M w sch g b) i m → Each (Closing f here M w sch h b) i m
    relift i m E = record {
      live = λ l.
          let A = E.live l in
          record {
            whole = A.whole;
            setup = A.setup;
            last = A.last;
            phase = A.phase;
            good = A.good;
            ver = A.ver;
            req = A.req;
            flags = A.flags;
            stage = lift i (core_of m.node) A.ver A.req A.stage;
          };
    }

    rebase : Base M w sch b g → Base M w sch b h
    rebase B i l = lift i (core_of (member b i).node) refl refl (B i l)

  module _ (nodes : List Member) (q : View) (A : Good f.nodes (start_of M b) q) (C : Complete f.nodes (start_of M b) q) where
    to-rep : All idle nodes → Base M w sch b idle → ((i : ℕ) → Miss determines (get_or nodes i nobody)) → Ready nodes
    to-rep E B none =
        let h = rep q.m q.hi A.hi_at.0 in
        let lift : (i : ℕ) (n : Core) → n.v ≡ (member b i).node.version → n.req ≡ (member b i).node.request → Idle M w sch i n
        → Cond M w sch h i n = λ i n e r. up-rep f M w sch b q A C i n e in
        record {
          g = h;
          calm = λ z. z;
          glob = g-rep f M w sch b q A C;
          each = λ i. relift idle h lift i (get_or nodes i nobody) (E i);
          base = rebase idle h lift B;
          ok = none;
        }

    to-dec : (flat : q.lo ≡ q.hi) → q.hi < top_version → (g : Stage)
        → ((i : ℕ) (n : Core) → n.v ≡ (member b i).node.version → n.req ≡ (member b i).node.request → Cond M w sch g i n
        → Decided M w sch q.m q.hi (asked f M w sch b q A C flat) (fresh f M w sch b q A C flat) i n)
        → All g nodes → Base M w sch b g → Ready nodes
    to-dec flat t g lift E B =
        let h = dec q.m q.hi (asked f M w sch b q A C flat) (fresh f M w sch b q A C flat) in
        record {
          g = h;
          calm = λ z. z;
          glob = g-dec f M w sch b q A C flat t;
          each = λ i. relift g h lift i (get_or nodes i nobody) (E i);
          base = rebase g h lift B;
          ok = λ i. no-miss (get_or nodes i nobody);
        }

  module _ (nodes : List Member) where
    ready-idle : All idle nodes → Base M w sch b idle → Ready nodes
    ready-idle E B = either (scan determines nodes)
        (λ r.
        let n = (get_or nodes r.i nobody).node in
        let A : Closing f here M w sch idle b r.i n = (E r.i).live r.live in
        let t = determines-tests n r.yes in
        let C = is-complete n f r.i (start_of M b) A.whole A.setup A.good t.0 in
        let d = level-tests n t.1 in
        let v : n.version ≡ n.round.highest = A.ver ∙ one-version f M w sch b (view_of n) A.good C d r.i
        (own_in f here M w sch idle b r.i n A) in
        to-dec nodes (view_of n) A.good C d (rw v at t.2) idle (up-dec f M w sch b (view_of n) A.good C d) E B)
        (λ none. either (scan complete nodes)
        (λ r.
        let n = (get_or nodes r.i nobody).node in
        let A : Closing f here M w sch idle b r.i n = (E r.i).live r.live in
        to-rep nodes (view_of n) A.good (is-complete n f r.i (start_of M b) A.whole A.setup A.good r.yes) E B none)
        (λ none'. record { g = idle; calm = λ z. z; glob = tt; each = E; base = B; ok = none' }))

    ready-rep : (Q x s : ℕ) → GRep M w sch f Q s → All (rep Q x s) nodes → Base M w sch b (rep Q x s) → Ready nodes
    ready-rep Q x s G E B = either (scan determines nodes)
        (λ r.
        let n = (get_or nodes r.i nobody).node in
        let A : Closing f here M w sch (rep Q x s) b r.i n = (E r.i).live r.live in
        let t = determines-tests n r.yes in
        let C = is-complete n f r.i (start_of M b) A.whole A.setup A.good t.0 in
        let d = level-tests n t.1 in
        let lv = one-version f M w sch b (view_of n) A.good C d in
        let v : n.version ≡ n.round.highest = A.ver ∙ lv r.i (own_in f here M w sch (rep Q x s) b r.i n A) in
        let o : Q ≡ n.round.merged = one-Q G.is_q (complete-Q f.nodes (start_of M b) A.good C) in
        let si : In n.round.merged s = rw o at G.s-in in
        let l : Rep M w sch Q x s s (core_of (member b s).node) = B s (A.good.was (C.all si).1) in
        let xe : x ≡ n.round.highest = sym (l.at refl) ∙ lv s si in
        to-dec nodes (view_of n) A.good C d (rw v at t.2) (rep Q x s) (re-dec f M w sch b (view_of n) A.good C d Q x s xe) E B)
        (λ none. record { g = rep Q x s; calm = λ z. z; glob = G; each = E; base = B; ok = none })

    -- from any stage but the last
    pub ready : (g : Stage) → (IsFin g → ⊥) → Glob M w sch f g → All g nodes → Base M w sch b g → Ready nodes
    ready idle k G E B = ready-idle E B
    ready (rep Q x s) k G E B = ready-rep Q x s G E B
    ready (dec Q x rq new) k G E B = record {
      g = dec Q x rq new;
      calm = λ z. z;
      glob = G;
      each = E;
      base = B;
      ok = λ i. no-miss (get_or nodes i nobody);
    }
    ready (fin Q x new) k G E B = absurd (k tt)

    -- what was determined before is still the stage's
    pub ready-match : (g : Stage) (k : IsFin g → ⊥) (G : Glob M w sch f g) (E : All g nodes) (B : Base M w sch b g) (d : Determination)
        → Matches g d → Matches (ready g k G E B).g d
    unfolding ready
    ready-match idle k G E B d m = absurd m
    ready-match (rep Q x s) k G E B d m = absurd m
    ready-match (dec Q x rq new) k G E B d m = m
    ready-match (fin Q x new) k G E B d m = absurd (k tt)
