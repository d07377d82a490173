-- A site at a round's start, at an epoch's start, and at loading.
-- Assumes nothing.
use mathlib.Core.Path.{◌≡◌, refl, sym, ap, subst}
use mathlib.Core.Bool.{Bool, true, false}
use mathlib.Core.Logic.{inl, inr}
use mathlib.Core.List.Memᴰ
use mathlib.Core.List.{List, [], Memᴰ}
use Prim.Native.Nat.{ℕ, zero, suc, ◌+◌, ◌≤◌, ◌<◌}
use native.Mathlib.Omega.{arith}
use borrow.Author.Tests.{ltb-true}
use lib.Dec.{ltb}
use lib.ListN.{get_or}
use Rattle.words.proofs.Tests.{clash, by-test}
use Rattle.lists.proofs.Every.{every-tab}
use Rattle.allotment.specs.Allotment.{free}
use Rattle.allotment.specs.Model.{Schedule}
use Rattle.node.specs.Model.{Epoch}
use Rattle.node.specs.Model.{Node}
use Rattle.node.specs.Answers.{Done}
use Rattle.node.proofs.Laws.{Begun, begins}
use Rattle.node.proofs.Made.{given}
use Rattle.node.proofs.Tested.{start-asks}
use Rattle.site.specs.Members.{setup_of, nobody, down_member}
use Rattle.site.specs.Load.{no_row, loaded_member, loaded_site, load_answer}
use Rattle.node.specs.declared.Config.{Config}
use Rattle.site.specs.declared.Table.{Table}
use Rattle.site.specs.Model.{Site}
use Rattle.site.proofs.Accepted.{Loads, load-accepted}
use Rattle.histories.specs.Past.{Determination, no_past}
use Rattle.histories.proofs.Sets.{in-none}
use Rattle.histories.proofs.Members.{member, down}
use Rattle.agreement.proofs.Members.{Each, each_none}
use Rattle.agreement.proofs.Stages.{Stage, idle, IsFin, Compat, Fine, Lives, Glob}
use Rattle.agreement.proofs.Invariant.{LogOk, Matches, Inv}

-- a site in which a round starts
pub begin-inv : (M : ℕ → ℕ) (w : ℕ) (sch : ℕ → Schedule) (g : Stage) (b : Site) (ep : ℕ) (log : List Determination) → b.config.split ≡ 0
    → b.negotiates ≡ true
    → sch 0 ≡ free → Compat (sch w) (sch (suc w)) → Glob M w sch b.config g → (IsFin g → ⊥)
    → ((i : ℕ) → Each (Lives M w sch g true) i (member b i))
    → LogOk b.config.nodes log → ((d : Determination) → Memᴰ d log → d.epoch ≡ ep → Matches g d) → Inv (record {
      start = b;
      epoch = ep;
      log = log;
    }) b
begin-inv M w sch g b ep log u t z k G nf E old now = record {
  whole = u;
  M = M;
  w = w;
  sch = sch;
  g = g;
  none = z;
  comp = k;
  glob = G;
  late = λ y. absurd (nf y);
  each = subst (λ (neg : Bool). (i : ℕ) → Each (Lives M w sch g neg) i (member b i)) (sym t) E;
  start = record { at = λ i l. ((E i).live l).flags };
  base = λ _ i l. ((E i).live l).stage;
  old = old;
  now = now;
}

-- a node at an epoch's start
pub record First (w : ℕ) (sch : ℕ → Schedule) (i : ℕ) (n : Node) : Type 0 where
  pub fine : Fine w sch n.version n.schedule
  pub Ie : n.epoch.interactions ≡ 0
  pub upd : n.epoch.updated ≡ false

pub first : {w : ℕ} {sch : ℕ → Schedule} {i : ℕ} {n : Node} → Begun n → Fine w sch n.version n.schedule → First w sch i n
first b f = record { fine = f; Ie = ap (λ (e : Epoch). e.interactions) b.epoch; upd = ap (λ (e : Epoch). e.updated) b.epoch }

-- a site of such nodes: the epoch's flags are theirs
pub first-inv : (w : ℕ) (sch : ℕ → Schedule) (b : Site) (ep : ℕ) (log : List Determination) → b.config.split ≡ 0 → b.negotiates ≡ true
    → sch 0 ≡ free → LogOk b.config.nodes log
    → ((d : Determination) → Memᴰ d log → d.epoch < ep) → Compat (sch w) (sch (suc w))
    → ((i : ℕ) → Each (First w sch) i (member b i)) → Inv (record {
      start = b;
      epoch = ep;
      log = log;
    }) b
first-inv w sch b ep log u t z old h k E =
    begin-inv (λ i. (member b i).node.flags) w sch idle b ep log u t z k tt (λ y. y) begins-idle old
    (λ d m e. absurd (omega (arith, h d m)))
  where
    begins-idle : (i : ℕ) → Each (Lives (λ i. (member b i).node.flags) w sch idle true) i (member b i)
    begins-idle i = record {
      live = λ l. let A = (E i).live l in record {
        flags = refl;
        stage = record { fine = A.fine; tied = record { back = λ C h x. absurd (in-none _ (rw A.Ie at h)) }; upd = A.upd };
        sends = λ y. clash true refl y;
      };
    }

-- Loading.

low-fine : (v : ℕ) → v ≤ 1 → Fine 1 (λ v. free) v free
low-fine zero h = record { ver = inl refl; sched = refl }
low-fine (suc zero) h = record { ver = inr (inl refl); sched = refl }
low-fine (suc (suc v)) h = absurd (omega arith)

loaded-each : (f : Config) (t : Table) → Loads f t → (i : ℕ) → Each (First 1 (λ v. free)) i (loaded_member f t i)
unfolding loaded_member
loaded-each f t l i =
    by-test (Each (First 1 (λ v. free)) i) (ltb i f.nodes) _ _
    (λ e.
    let r = get_or t.rows i no_row in
    let u = setup_of f (i + 1) in
    let g = given u r.version free r.want r.want r.flags in
    let v = (start-asks u r.version r.flags r.want (l.row i (ltb-true i f.nodes e))).version in
    record {
      live = λ _. first (begins u r.version free r.want r.want r.flags)
          (rw (g.version, g.schedule) (low-fine r.version v));
    })
    (λ e. each_none (down_member f (i + 1)) (down (down_member f (i + 1)) refl))

-- a site just loaded
pub load-inv : (f : Config) (t : Table) → load_answer f t ≡ Done → f.split ≡ 0 → Inv (no_past (loaded_site f t)) (loaded_site f t)
unfolding loaded_site
load-inv f t e u =
    first-inv 1 (λ v. free) (loaded_site f t) 0 [] u refl refl (record {
      each = λ d m. absurd (Memᴰ.not-nil m);
      pair = λ d e m. absurd (Memᴰ.not-nil m);
    }) (λ d m. absurd (Memᴰ.not-nil m))
    (record { same = λ k p q. refl })
    (every-tab (Each (First 1 (λ v. free))) nobody 32 (loaded_member f t) (loaded-each f t (load-accepted f t e))
    (λ i. each_none nobody refl))
