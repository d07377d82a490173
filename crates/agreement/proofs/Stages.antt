-- The stages of an epoch, and what each says of the nodes.
-- Assumes nothing.
use mathlib.Core.Path.{◌≡◌, sym, subst}
use mathlib.Core.Bool.{Bool, true, false}
use mathlib.Core.Logic.{◌⊎◌, ◌≢◌}
use mathlib.Core.List.{List}
use Prim.Native.Nat.{ℕ, suc, ◌≤◌, ◌<◌}
use lib.ListN.{get_or}
use Rattle.allotment.specs.Allotment.{owner_of, next}
use Rattle.allotment.specs.Model.{Schedule}
use Rattle.node.specs.Figures.{top_version, is_last, negotiates, sending}
use Rattle.node.specs.Model.{Node}
use Rattle.site.specs.Members.{setup_of, is_live}
use Rattle.node.specs.declared.Config.{Config}
use Rattle.site.specs.Model.{Site}
use Rattle.histories.proofs.Sets.{In}
use Rattle.histories.proofs.Views.{view_of, Closed, Good}
use Rattle.histories.proofs.Starts.{start_of}
use Rattle.histories.proofs.Members.{member}
use Rattle.agreement.proofs.Quorum.{IsQ}

-- no slot is given to different nodes
pub record Compat (S U : Schedule) : Type 0 where
  pub same : (k : ℕ) → owner_of S k ≢ 0 → owner_of U k ≢ 0 → owner_of S k ≡ owner_of U k

-- nothing of I_e leads into a closed set that the node is not in
pub record Tied (M : ℕ → ℕ) (i Ie : ℕ) : Type 0 where
  pub back : {X l : ℕ} → Closed M X → In Ie l → In X l → In X i

-- nobody was complete in this epoch; a set Q was, with the highest version x, which node s had; Q stood at x, and somebody determined `new`
-- from its requests; and it was adopted
pub data Stage : Type 0 where
  idle : Stage
  rep : ℕ → ℕ → ℕ → Stage
  dec : ℕ → ℕ → (ℕ → ℕ) → Schedule → Stage
  fin : ℕ → ℕ → Schedule → Stage

-- the last stage
abbrev pub IsFin : Stage → Type 0
IsFin idle = ⊥
IsFin (rep Q x s) = ⊥
IsFin (dec Q x rq new) = ⊥
IsFin (fin Q x new) = Unit {0}

-- what the stages speak of
pub record Core : Type 0 where
  pub v : ℕ
  pub S : Schedule
  pub req : ℕ
  pub Ie : ℕ
  pub upd : Bool
  pub new : Schedule

-- of a node
abbrev pub core_of : Node → Core
core_of n = record {
  v = n.version;
  S = n.schedule;
  req = n.request;
  Ie = n.epoch.interactions;
  upd = n.epoch.updated;
  new = n.epoch.determined;
}

-- one of two neighbouring versions, or 0, with its schedule
pub record Fine (w : ℕ) (sch : ℕ → Schedule) (v : ℕ) (S : Schedule) : Type 0 where
  pub ver : (v ≡ 0) ⊎ ((v ≡ w) ⊎ (v ≡ suc w))
  pub sched : S ≡ sch v

module _ (M : ℕ → ℕ) (w : ℕ) (sch : ℕ → Schedule) where
  -- nobody was complete yet
  pub record Idle (i : ℕ) (n : Core) : Type 0 where
    pub fine : Fine w sch n.v n.S
    pub tied : Tied M i n.Ie
    pub upd : n.upd ≡ false

  -- no node of Q is above x, and node s is at it; whoever took is at x
  pub record Rep (Q x s i : ℕ) (n : Core) : Type 0 where
    pub fine : Fine w sch n.v n.S
    pub tied : Tied M i n.Ie ⊎ (n.v ≡ x)
    pub upd : n.upd ≡ false
    pub le : In Q i → n.v ≤ x
    pub at : i ≡ s → n.v ≡ x

  -- all of Q is at x, with the requests rq; a mark is a node's of Q, and goes with the schedule `new`
  pub record Decided (Q x : ℕ) (rq : ℕ → ℕ) (new : Schedule) (i : ℕ) (n : Core) : Type 0 where
    pub fine : Fine w sch n.v n.S
    pub tied : Tied M i n.Ie ⊎ (n.v ≡ x)
    pub ver : In Q i → n.v ≡ x
    pub req : In Q i → n.req ≡ rq i
    pub upd : n.upd ≡ true → In Q i × (n.new ≡ new)

  -- outside Q with no node of Q in I_e; or at 0 or x with its schedule; or at x + 1 with the new one
  pub record Fin (Q x : ℕ) (new : Schedule) (i : ℕ) (n : Core) : Type 0 where
    pub right : (Tied M i n.Ie × (In Q i → ⊥)) ⊎ ((((n.v ≡ 0) ⊎ (n.v ≡ x)) × (n.S ≡ sch n.v)) ⊎ ((n.v ≡ suc x) × (n.S ≡ new)))

  -- what a sender sends
  abbrev pub Sends : Stage → Core → Bool → Type 0
  Sends idle n y = y ≡ false
  Sends (rep Q x s) n y = y ≡ true → n.v ≡ x
  Sends (dec Q x rq new) n y = y ≡ false
  Sends (fin Q x new) n y = y ≡ true → (n.v ≡ suc x) × (n.S ≡ new)

  -- what a stage says of the node at index i
  abbrev pub Cond : Stage → ℕ → Core → Type 0
  Cond idle i n = Idle i n
  Cond (rep Q x s) i n = Rep Q x s i n
  Cond (dec Q x rq new) i n = Decided Q x rq new i n
  Cond (fin Q x new) i n = Fin Q x new i n

  module _ (f : Config) where
    -- Q decides, and s is in it
    pub record GRep (Q s : ℕ) : Type 0 where
      pub is_q : IsQ f.nodes M Q
      pub s-in : In Q s

    -- Q decides at a version below the top; whatever list holds Q's requests gives `new`
    pub record GDec (Q x : ℕ) (rq : ℕ → ℕ) (new : Schedule) : Type 0 where
      pub is_q : IsQ f.nodes M Q
      pub below : x < top_version
      pub gives : (R : List ℕ) → ((k : ℕ) → In Q k → get_or R k 0 ≡ rq k) → next (sch x) Q R f.nodes f.slots ≡ new
      pub comp : Compat (sch x) new

    -- Q decided
    pub record GFin (Q x : ℕ) (new : Schedule) : Type 0 where
      pub is_q : IsQ f.nodes M Q
      pub comp : Compat (sch x) new

    -- what holds of a stage itself
    abbrev pub Glob : Stage → Type 0
    Glob idle = Unit {0}
    Glob (rep Q x s) = GRep Q s
    Glob (dec Q x rq new) = GDec Q x rq new
    Glob (fin Q x new) = GFin Q x new

-- a live node: the epoch's flags, the stage, and in distribution what it sends
pub record Lives (M : ℕ → ℕ) (w : ℕ) (sch : ℕ → Schedule) (g : Stage) (neg : Bool) (i : ℕ) (n : Node) : Type 0 where
  pub flags : n.flags ≡ M i
  pub stage : Cond M w sch g i (core_of n)
  pub sends : neg ≡ false → Sends M w sch g (core_of n) (sending n.phase)

-- by what the stages speak of: its core, and whether it sends
pub lives_at : {M : ℕ → ℕ} {w : ℕ} {sch : ℕ → Schedule} {g : Stage} {neg : Bool} {i : ℕ} {n : Node} (k : Core) (y : Bool) → n.flags ≡ M i
    → core_of n ≡ k → sending n.phase ≡ y
    → Cond M w sch g i k → (neg ≡ false → Sends M w sch g k y) → Lives M w sch g neg i n
lives_at {M} {w} {sch} {g} {neg} {i} {n} k y f e p C S = record {
  flags = f;
  stage = subst (Cond M w sch g i) (sym e) C;
  sends = λ z. subst (λ (x : Core). Sends M w sch g x (sending n.phase)) (sym e) (subst (Sends M w sch g k) (sym p) (S z));
}

-- the stage held of each node as the round started, also of one that has crashed since
abbrev pub Base : (ℕ → ℕ) → ℕ → (ℕ → Schedule) → Site → Stage → Type 0
Base M w sch b g = (i : ℕ) → is_live (member b i) ≡ true → Cond M w sch g i (core_of (member b i).node)

-- a live node as its round closes: its site may not split; what every site keeps of it (crates/histories), and the stage
pub record Closing (f : Config) (here : ℕ) (M : ℕ → ℕ) (w : ℕ) (sch : ℕ → Schedule) (g : Stage) (b : Site) (i : ℕ) (n : Node) : Type 0
  where
    pub whole : n.setup.config.split ≡ 0
    pub setup : n.setup ≡ setup_of f (suc i)
    pub last : is_last n.setup.config n.epoch.place ≡ is_last f here
    pub phase : negotiates n.phase ≡ true
    pub good : Good f.nodes (start_of M b) (view_of n)
    pub ver : n.version ≡ (member b i).node.version
    pub req : n.request ≡ (member b i).node.request
    pub flags : n.flags ≡ M i
    pub stage : Cond M w sch g i (core_of n)
