-- A close, second part: each node closes, inside a fixed stage.
-- Assumes nothing.
use mathlib.Core.Path.{◌≡◌, refl, sym, ap, ◌∙◌}
use mathlib.Core.Bool.{Bool, true, false}
use mathlib.Core.Logic.{◌⊎◌, inl, inr}
use Prim.Native.Nat.{ℕ, suc}
use native.Mathlib.Omega.{arith}
use lib.ListN.{get_or}
use Rattle.words.proofs.Tests.{met?, clash}
use Rattle.allotment.specs.Model.{Schedule}
use Rattle.node.specs.Figures.{is_last, successor}
use Rattle.node.specs.Close.{complete, level, determines, repeats, new_schedule, updated_by, determined_by, due, closed_node}
use Rattle.node.specs.declared.Setup.{Setup}
use Rattle.node.specs.Model.{Node}
use Rattle.node.proofs.Verdicts.{repeats-tests, incomplete-determines, incomplete-repeats, level-repeats, determines-if, level-if}
use Rattle.node.proofs.Laws.{closes-so}
use Rattle.node.proofs.Tested.{due-if, due-early, due-unmarked, marks, marks-not, new_by}
use Rattle.site.specs.Members.{is_live}
use Rattle.site.specs.Steps.{close_member}
use Rattle.node.specs.declared.Config.{Config}
use Rattle.site.specs.Model.{Member}
use Rattle.site.specs.Model.{Site}
use Rattle.site.proofs.Steps.{closed-live, closed-other}
use Rattle.histories.proofs.Tests.{either}
use Rattle.histories.proofs.Sets.{In, in?}
use Rattle.histories.proofs.Views.{view_of, Known}
use Rattle.histories.proofs.Starts.{start_of}
use Rattle.histories.proofs.Members.{member}
use Rattle.agreement.proofs.Quorum.{Complete, complete-Q, one-Q, is-complete}
use Rattle.agreement.proofs.Members.{Each, each_none, each_at, Miss}
use Rattle.agreement.proofs.Stages.{Stage, idle, rep, dec, fin, IsFin, Tied, core_of, Lives, lives_at, Closing, Cond, Sends, Rep}
use Rattle.agreement.proofs.Stages.{Decided, GRep, GDec, Glob, Base}
use Rattle.agreement.proofs.Cores.{marked, stayed-core, stayed-sends, raised-core, raised-sends}
use Rattle.agreement.proofs.Ready.{own_in, test}

-- a node that determines nothing has no mark but the one it had
unmarked : (n : Node) → determines n ≡ false → n.epoch.updated ≡ false → updated_by n ≡ false
unmarked n d u = (marks-not n d).0 ∙ u

module _ (f : Config) (here : ℕ) (M : ℕ → ℕ) (w : ℕ) (sch : ℕ → Schedule) (b : Site) (i : ℕ) (n : Node) where
  -- a close that raises no version, by what it leaves
  stays : (g : Stage) → due n ≡ false → n.flags ≡ M i → Cond M w sch g i (marked n) → Sends M w sch g (marked n) (repeats n)
      → Lives M w sch g false i (closed_node n)
  stays g d e C S = lives_at (marked n) (repeats n) ((closes-so n).flags ∙ e) (stayed-core n d) (stayed-sends n d) C (λ _. S)

  close-idle : Closing f here M w sch idle b i n → complete n ≡ false → Lives M w sch idle false i (closed_node n)
  close-idle A e =
      let u = unmarked n (incomplete-determines n e) A.stage.upd in
      stays idle (due-unmarked n u) A.flags (record { fine = A.stage.fine; tied = A.stage.tied; upd = u }) (incomplete-repeats n e)

  close-rep : (Q x s : ℕ) → GRep M w sch f Q s → Base M w sch b (rep Q x s) → Closing f here M w sch (rep Q x s) b i n
      → determines n ≡ false → Lives M w sch (rep Q x s) false i (closed_node n)
  close-rep Q x s G B A e =
      let u = unmarked n e A.stage.upd in
      stays (rep Q x s) (due-unmarked n u) A.flags (record {
        fine = A.stage.fine;
        tied = A.stage.tied;
        upd = u;
        le = A.stage.le;
        at = A.stage.at;
      }) sent
    where
      sent : repeats n ≡ true → n.version ≡ x
      sent y =
          let t = repeats-tests n y in
          let C = is-complete n f i (start_of M b) A.whole A.setup A.good t.0 in
          let o : Q ≡ n.round.merged = one-Q G.is_q (complete-Q f.nodes (start_of M b) A.good C) in
          let k = C.all (rw o at G.s-in) in
          let p : Rep M w sch Q x s s (core_of (member b s).node) = B s (A.good.was k.1) in
          let h = A.good.hi_at in
          let r : Rep M w sch Q x s h.0 (core_of (member b h.0).node) = B h.0 (A.good.was h.2) in
          let z : In Q h.0 = rw o (A.good.inm h.2) in
          omega (arith, t.2, h.3, r.le z, A.good.hi-ge k.1, p.at refl)

  module _ (Q x : ℕ) (rq : ℕ → ℕ) (new : Schedule) (G : GDec M w sch f Q x rq new) (B : Base M w sch b (dec Q x rq new))
      (A : Closing f here M w sch (dec Q x rq new) b i n) where
    module _ (e : complete n ≡ true) where
      pub C : Complete f.nodes (start_of M b) (view_of n)
      C = is-complete n f i (start_of M b) A.whole A.setup A.good e

      pub is-Q : Q ≡ n.round.merged
      is-Q = one-Q G.is_q (complete-Q f.nodes (start_of M b) A.good C)

      -- what the stage says of a node known at the round's start
      pub base-of : (k d : ℕ) → Known n.round.known k d → ((member b k).node.version ≡ x) × ((member b k).node.request ≡ rq k)
      base-of k d h =
          let r : Decided M w sch Q x rq new k (core_of (member b k).node) = B k (A.good.was h) in
          let z : In Q k = rw is-Q (A.good.inm h) in
          (r.ver z, r.req z)

      pub in-Q : In Q i
      in-Q = rw is-Q (own_in f here M w sch (dec Q x rq new) b i n A)

      flat : n.round.lowest ≡ n.round.highest
      flat = let l = A.good.lo_at in let h = A.good.hi_at in sym l.3 ∙ (base-of l.0 l.1 l.2).0
          ∙ sym (base-of h.0 h.1 h.2).0 ∙ h.3

      pub at_x : n.version ≡ x
      at_x = A.stage.ver in-Q

      dec-level : level n ≡ true
      dec-level = level-if n flat

      dec-determines : determines n ≡ true
      dec-determines = determines-if n e dec-level (rw at_x G.below)

      pub dec-asks : (k : ℕ) → In Q k → get_or n.round.known k 0 ≡ rq k
      dec-asks k h = let t = C.all (rw is-Q at h) in t.1.at ∙ A.good.req t.1 ∙ (base-of k t.0 t.1).1

      pub dec-new : new_schedule n ≡ new
      dec-new =
          let v : n.schedule ≡ sch x = A.stage.fine.sched ∙ ap sch at_x in
          new_by n v (sym is-Q) (ap (λ (u : Setup). u.config.nodes) A.setup) (ap (λ (u : Setup). u.config.slots) A.setup)
          ∙ G.gives n.round.known dec-asks

    quiet : repeats n ≡ false
    quiet = either (met? (complete n)) (λ e. level-repeats n (dec-level e)) (λ e. incomplete-repeats n e)

    mark-ok : updated_by n ≡ true → In Q i × (determined_by n ≡ new)
    mark-ok y = either (met? (complete n))
        (λ e. (in-Q e, (marks n (dec-determines e)).1 ∙ dec-new e))
        (λ e. let d = marks-not n (incomplete-determines n e) in let u = A.stage.upd (sym d.0 ∙ y) in (u.0, d.1 ∙ u.1))

    close-dec : is_last f here ≡ false → Lives M w sch (dec Q x rq new) false i (closed_node n)
    close-dec l =
        stays (dec Q x rq new) (due-early n (A.last ∙ l)) A.flags (record {
          fine = A.stage.fine;
          tied = A.stage.tied;
          ver = A.stage.ver;
          req = A.stage.req;
          upd = mark-ok;
        }) quiet

    fin-right : (Tied M i n.epoch.interactions × (In Q i → ⊥)) ⊎
        ((((n.version ≡ 0) ⊎ (n.version ≡ x)) × (n.schedule ≡ sch n.version))
        ⊎ ((n.version ≡ suc x) × (n.schedule ≡ new)))
    fin-right = either (in? Q i)
        (λ h. inr (inl (inr (A.stage.ver h), A.stage.fine.sched)))
        (λ h. either A.stage.tied (λ t. inl (t, h)) (λ t. inr (inl (inr t, A.stage.fine.sched))))

    close-fin : is_last f here ≡ true → Lives M w sch (fin Q x new) false i (closed_node n)
    close-fin l = either (met? (updated_by n))
        (λ e.
        let k = mark-ok e in
        let v : n.version ≡ x = A.stage.ver k.0 in
        let d = due-if n (A.last ∙ l) e in
        let z : (successor n.version ≡ suc x) × (determined_by n ≡ new) = (omega (arith, G.below), k.1) in
        lives_at _ true ((closes-so n).flags ∙ A.flags) (raised-core n d) (raised-sends n d) (record { right = inr (inr z) }) (λ _ _. z))
        (λ e. stays (fin Q x new) (due-unmarked n e) A.flags (record { right = fin-right }) (λ t. clash _ t quiet))

-- the stage after a close, by whether the round is the epoch's last
abbrev pub shut : Stage → Bool → Stage
shut idle l = idle
shut (rep Q x s) l = rep Q x s
shut (dec Q x rq new) true = fin Q x new
shut (dec Q x rq new) false = dec Q x rq new
shut (fin Q x new) l = fin Q x new

module _ (f : Config) (here : ℕ) (M : ℕ → ℕ) (w : ℕ) (sch : ℕ → Schedule) (b : Site) where
  close-lives : (g : Stage) → (IsFin g → ⊥) → Glob M w sch f g → Base M w sch b g → (l : Bool) → is_last f here ≡ l
      → (i : ℕ) (n : Node)
      → Closing f here M w sch g b i n → test g n ≡ false → Lives M w sch (shut g l) false i (closed_node n)
  close-lives idle k G B l h i n A t = close-idle f here M w sch b i n A t
  close-lives (rep Q x s) k G B l h i n A t = close-rep f here M w sch b i n Q x s G B A t
  close-lives (dec Q x rq new) k G B true h i n A t = close-fin f here M w sch b i n Q x rq new G B A h
  close-lives (dec Q x rq new) k G B false h i n A t = close-dec f here M w sch b i n Q x rq new G B A h
  close-lives (fin Q x new) k G B l h i n A t = absurd (k tt)

  pub close-each : (g : Stage) → (IsFin g → ⊥) → Glob M w sch f g → Base M w sch b g → (l : Bool) → is_last f here ≡ l
      → (i : ℕ) (m : Member)
      → Each (Closing f here M w sch g b) i m → Miss (test g) m → Each (Lives M w sch (shut g l) false) i (close_member m)
  close-each g k G B l h i m E O = either (met? (is_live m))
      (λ y. let A = E.live y in each_at (closed-live m y A.phase) (record {
        live = λ _. close-lives g k G B l h i m.node A (O.no y);
      }))
      (λ y. each_at (closed-other m y) (each_none m y))

  pub shut-glob : (g : Stage) → Glob M w sch f g → (l : Bool) → Glob M w sch f (shut g l)
  shut-glob idle G l = tt
  shut-glob (rep Q x s) G l = G
  shut-glob (dec Q x rq new) G true = record { is_q = G.is_q; comp = G.comp }
  shut-glob (dec Q x rq new) G false = G
  shut-glob (fin Q x new) G l = G

pub shut-late : (g : Stage) → (IsFin g → ⊥) → (l : Bool) → IsFin (shut g l) → l ≡ true
shut-late idle k l z = absurd z
shut-late (rep Q x s) k l z = absurd z
shut-late (dec Q x rq new) k true z = refl
shut-late (dec Q x rq new) k false z = absurd z
shut-late (fin Q x new) k l z = absurd (k tt)
