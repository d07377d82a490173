-- What a hearing, a take, a new demand, a crash and a restart keep.
-- Assumes nothing.
use mathlib.Core.Path.{◌≡◌, refl, sym, ap, ◌∙◌}
use mathlib.Core.Bool.{Bool, true, false, ◌&&◌}
use mathlib.Core.Logic.{inl, inr}
use Prim.Native.Nat.{ℕ, ◌-◌}
use native.Mathlib.Omega.{arith}
use lib.Bits.{bit_or}
use lib.Dec.{eqb}
use Rattle.words.proofs.Tests.{met?, clash, hit, skip}
use Rattle.lists.proofs.Every.{every_set}
use Rattle.membership.specs.requests.Requests.{requesters}
use Rattle.allotment.specs.Model.{Schedule}
use Rattle.node.specs.Figures.{sending}
use Rattle.node.specs.Negotiation.{merges, heard_node}
use Rattle.node.specs.Distribution.{sent_by, taken_node}
use Rattle.node.specs.Steps.{wanted_node}
use Rattle.node.specs.Model.{Node}
use Rattle.node.specs.declared.Packet.{Packet}
use Rattle.node.proofs.Laws.{hears, takes, wants}
use Rattle.node.proofs.Tested.{merges-in}
use Rattle.site.specs.Members.{nobody, member_at, is_live, with_node, put}
use Rattle.site.specs.Model.{Member}
use Rattle.site.specs.Model.{Site}
use Rattle.histories.specs.Past.{Past}
use Rattle.histories.proofs.Tests.{either}
use Rattle.histories.proofs.Sets.{In, in-number, in-or}
use Rattle.histories.proofs.Views.{view_in, in-known, Good}
use Rattle.histories.proofs.Starts.{start_of}
use Rattle.histories.proofs.Members.{live_same}
use Rattle.agreement.proofs.Members.{Each, each_none}
use Rattle.agreement.proofs.Stages.{Stage, idle, rep, dec, fin, Tied, Core, core_of, Lives, lives_at, Cond}
use Rattle.agreement.proofs.Cores.{want-core, with_met, hear-core, take-core}
use Rattle.agreement.proofs.Invariant.{Inv}

-- a site of which one member alone changed
put_inv : {past : Past} {s : Site} (j : ℕ) (m : Member) (I : Inv past s)
    → Each (Lives I.M I.w I.sch I.g s.negotiates) (j - 1) m → Inv past (put s j m)
put_inv {past} {s} j m I h =
    record {
      whole = I.whole;
      M = I.M;
      w = I.w;
      sch = I.sch;
      g = I.g;
      none = I.none;
      comp = I.comp;
      glob = I.glob;
      late = I.late;
      each = every_set (Each (Lives I.M I.w I.sch I.g s.negotiates)) nobody s.members (j - 1) m I.each h;
      start = I.start;
      base = I.base;
      old = I.old;
      now = I.now;
    }

-- a member that isn't live
pub keep-none : {past : Past} {s : Site} (j : ℕ) (m : Member) → is_live m ≡ false → Inv past s → Inv past (put s j m)
keep-none j m e I = put_inv j m I (each_none m e)

-- another demand
pub keep-want : {past : Past} {s : Site} (j d : ℕ) → Inv past s
    → Inv past (put s j (with_node (member_at s j) (wanted_node (member_at s j).node d)))
keep-want {past} {s} j d I =
    let m = member_at s j in
    let n = m.node in
    let h = wants n d in
    put_inv j (with_node m (wanted_node n d)) I (record {
      live = λ l.
          let A = (I.each (j - 1)).live (sym (live_same m (wanted_node n d) h.phase) ∙ l) in
          lives_at (core_of n) (sending n.phase) (h.flags ∙ A.flags) (want-core n d) (ap sending h.phase) A.stage A.sends;
    })

-- I_e grows
tie-more : (M : ℕ → ℕ) (w : ℕ) (sch : ℕ → Schedule) (g : Stage) (i : ℕ) (n : Core) (e : ℕ) → (Tied M i n.Ie → Tied M i e)
    → Cond M w sch g i n → Cond M w sch g i (with_met n e)
tie-more M w sch idle i n e f A = record { fine = A.fine; tied = f A.tied; upd = A.upd }
tie-more M w sch (rep Q x s) i n e f A = record {
  fine = A.fine;
  tied = either A.tied (λ t. inl (f t)) inr;
  upd = A.upd;
  le = A.le;
  at = A.at;
}
tie-more M w sch (dec Q x rq new) i n e f A = record {
  fine = A.fine;
  tied = either A.tied (λ t. inl (f t)) inr;
  ver = A.ver;
  req = A.req;
  upd = A.upd;
}
tie-more M w sch (fin Q x new) i n e f A = record { right = either A.right (λ t. inl (f t.0, t.1)) inr }

-- by a packet whose sender has gathered what was so at the round's start
tie-hear : (N : ℕ) (M : ℕ → ℕ) (b : Site) (i : ℕ) (n : Node) (q : Packet) → n.setup.node - 1 ≡ i → Good N (start_of M b) (view_in q)
    → Tied M i n.epoch.interactions → Tied M i (heard_node n q).epoch.interactions
tie-hear N M b i n q k Q t = either (met? (merges n q))
    (λ e. let o : In q.flags i = rw k at (in-number q.flags n.setup.node (merges-in n q e).1) in rw
    ((hears n q).interactions ∙ hit (merges n q) _ _ e) (joined o))
    (λ e. rw ((hears n q).interactions ∙ skip (merges n q) _ _ _ e refl) t)
  where
    joined : In q.flags i → Tied M i (bit_or n.epoch.interactions (requesters q.requests))
    joined o = record {
      back = λ C h x. either (in-or n.epoch.interactions (requesters q.requests) h) (λ p. t.back C p x)
          (λ p. Q.reach C (Q.conn C (in-known q.requests _ Q.tidy p).1 Q.mine.1 x) o);
    }

pub keep-hear : {past : Past} {s : Site} (j : ℕ) (q : Packet) (I : Inv past s) → is_live (member_at s j) ≡ true → s.negotiates ≡ true
    → (member_at s j).node.setup.node - 1 ≡ j - 1
    → Good s.config.nodes (start_of I.M past.start) (view_in q)
    → Inv past (put s j (with_node (member_at s j) (heard_node (member_at s j).node q)))
keep-hear {past} {s} j q I l t k Q =
    let n = (member_at s j).node in
    let h = hears n q in
    let A = (I.each (j - 1)).live l in
    let e = (heard_node n q).epoch.interactions in
    put_inv j (with_node (member_at s j) (heard_node n q)) I (record {
      live = λ _.
          lives_at (with_met (core_of n) e) (sending n.phase) (h.flags ∙ A.flags) (hear-core n q) (ap sending h.phase)
          (tie-more I.M I.w I.sch I.g (j - 1) (core_of n) e (tie-hear s.config.nodes I.M past.start (j - 1) n q k Q)
          A.stage) (λ z. clash s.negotiates t z);
    })

-- a take
module _ (M : ℕ → ℕ) (w : ℕ) (sch : ℕ → Schedule) (i j : ℕ) (n x : Node) where
  -- the mark of a node without one stays down
  unmarked : n.epoch.updated ≡ false → (taken_node n (sent_by x)).epoch.updated ≡ false
  unmarked e = (takes n (sent_by x)).updated ∙ ap (λ (b : Bool). b && eqb n.version (sent_by x).version) e

  take-lives : (g : Stage) → Lives M w sch g false i n → Lives M w sch g false j x → sending x.phase ≡ true
      → Lives M w sch g false i (taken_node n (sent_by x))
  take-lives idle A B y = clash (sending x.phase) y (B.sends refl)
  take-lives (rep Q v s) A B y =
      let S : x.version ≡ v = B.sends refl y in
      lives_at _ (sending n.phase) ((takes n (sent_by x)).flags ∙ A.flags) (take-core n x) (ap sending (takes n (sent_by x)).phase)
      (record { fine = B.stage.fine; tied = inr S; upd = unmarked A.stage.upd; le = λ h. omega (arith, S); at = λ h. S }) (λ _ _. S)
  take-lives (dec Q v rq new) A B y = clash (sending x.phase) y (B.sends refl)
  take-lives (fin Q v new) A B y =
      let S = B.sends refl y in
      lives_at _ (sending n.phase) ((takes n (sent_by x)).flags ∙ A.flags) (take-core n x) (ap sending (takes n (sent_by x)).phase)
      (record {
        right = inr (inr S);
      }) (λ _ _. S)

pub keep-take : {past : Past} {s : Site} (j i : ℕ) → Inv past s → s.negotiates ≡ false → is_live (member_at s j) ≡ true
    → is_live (member_at s i) ≡ true → sending (member_at s i).node.phase ≡ true
    → Inv past (put s j (with_node (member_at s j) (taken_node (member_at s j).node (sent_by (member_at s i).node))))
keep-take {past} {s} j i I t l o y =
    put_inv j (with_node (member_at s j) (taken_node (member_at s j).node (sent_by (member_at s i).node))) I (record {
      live = λ _. rw t (take-lives I.M I.w I.sch (j - 1) (i - 1) (member_at s j).node (member_at s i).node I.g
          (rw t at ((I.each (j - 1)).live l)) (rw t at ((I.each (i - 1)).live o)) y);
    })
