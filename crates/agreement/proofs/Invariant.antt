-- What every event keeps where a majority is asked for, of a site and its past.
-- Assumes nothing.
use mathlib.Core.Path.{◌≡◌}
use mathlib.Core.Bool.{true, false}
use mathlib.Core.List.{List, Memᴰ}
use Prim.Native.Nat.{ℕ, suc}
use lib.ListN.{get_or}
use Rattle.allotment.specs.Allotment.{free}
use Rattle.allotment.specs.Model.{Schedule}
use Rattle.node.specs.Figures.{is_last}
use Rattle.site.specs.Model.{Site}
use Rattle.histories.specs.Past.{Determination, Past}
use Rattle.histories.proofs.Sets.{In}
use Rattle.histories.proofs.Members.{member}
use Rattle.histories.proofs.Starts.{Flagged}
use Rattle.agreement.specs.Demand.{Justified, SameDetermination}
use Rattle.agreement.proofs.Members.{Each}
use Rattle.agreement.proofs.Stages.{Stage, idle, rep, dec, fin, IsFin, Compat, Lives, Glob, Base}

-- the determinations so far, among N nodes
pub record LogOk (N : ℕ) (log : List Determination) : Type 0 where
  pub each : (d : Determination) → Memᴰ d log → Justified N d
  pub pair : (d e : Determination) → Memᴰ d log → Memᴰ e log → d.epoch ≡ e.epoch → SameDetermination d e

-- a determination is the one of the stage
pub record Matching (Q x : ℕ) (rq : ℕ → ℕ) (new : Schedule) (d : Determination) : Type 0 where
  pub version : d.version ≡ suc x
  pub sched : d.schedule ≡ new
  pub nodes : d.nodes ≡ Q
  pub R : (k : ℕ) → In Q k → get_or d.requests k 0 ≡ rq k

-- the determinations of this epoch are those of its stage
abbrev pub Matches : Stage → Determination → Type 0
Matches idle d = ⊥
Matches (rep Q x s) d = ⊥
Matches (dec Q x rq new) d = Matching Q x rq new d
Matches (fin Q x new) d = (d.version ≡ suc x) × (d.schedule ≡ new)

-- the epoch's flags, two neighbouring versions and their schedules, the stage; each live member and each determination keeps to them
pub record Inv (past : Past) (s : Site) : Type 1 where
  -- the site may not split
  pub whole : s.config.split ≡ 0
  pub M : ℕ → ℕ
  pub w : ℕ
  pub sch : ℕ → Schedule
  pub g : Stage
  pub none : sch 0 ≡ free
  pub comp : Compat (sch w) (sch (suc w))
  pub glob : Glob M w sch s.config g
  pub late : IsFin g → (s.negotiates ≡ false) × (is_last s.config s.place ≡ true)
  pub each : (i : ℕ) → Each (Lives M w sch g s.negotiates) i (member s i)
  pub start : Flagged M past.start
  pub base : s.negotiates ≡ true → Base M w sch past.start g
  pub old : LogOk s.config.nodes past.log
  pub now : (d : Determination) → Memᴰ d past.log → d.epoch ≡ past.epoch → Matches g d
