-- Demand 3 (specification, 10 Lists of events), for a table `t` under the settings `f`, any content of the packet area,
-- and any list of the eight events, refused ones included. It has no hypothesis but that the table is accepted and that the site may not
-- split (S-14).
-- Assumes nothing.
use Rattle.std.specs.Prelude.{◌≡◌, true, ◌≢◌, ℕ, ◌+◌, ◌*◌, ◌≤◌, ◌<◌, get_or}
use mathlib.Core.List.{List, Memᴰ}
use Rattle.words.specs.Bits.{size, is_in}
use Rattle.allotment.specs.Allotment.{owner_of}
use Rattle.membership.specs.requests.Requests.{entry_of}
use Rattle.node.specs.Model.{Node}
use Rattle.node.specs.Answers.{Done}
use Rattle.site.specs.Members.{member_at, is_live}
use Rattle.site.specs.Load.{load_answer, loaded_site}
use Rattle.site.specs.Run.{run}
use Rattle.node.specs.declared.Config.{Config}
use Rattle.site.specs.declared.Table.{Table}
use Rattle.site.specs.Model.{Site}
use Rattle.site.specs.declared.Event.{Event}
use Rattle.histories.specs.Past.{Determination, trace, no_past}
use Rattle.histories.specs.Reached.{begin}

-- the owner of the slot at index k by a node's schedule
abbrev pub owner : Node → ℕ → ℕ
owner n k = owner_of n.schedule k

-- two nodes agree: their versions differ by 1 at most, equal versions have one schedule, and the two schedules give no slot to different
-- nodes
pub record Agree (m n : Node) : Type 0 where
  pub near : (m.version ≤ n.version + 1) × (n.version ≤ m.version + 1)
  pub same : m.version ≡ n.version → m.schedule ≡ n.schedule
  pub slots : (k : ℕ) → owner m k ≢ 0 → owner n k ≢ 0 → owner m k ≡ owner n k

-- any two live nodes above version 0 agree
abbrev pub Agreement : Site → Type 0
Agreement s =
    (i j : ℕ) → is_live (member_at s i) ≡ true → is_live (member_at s j) ≡ true
    → 0 < (member_at s i).node.version → 0 < (member_at s j).node.version
    → Agree (member_at s i).node (member_at s j).node

-- the node of number j was live at a round's start, held this request, and a version just below
pub record Held (start : Site) (j r v : ℕ) : Type 0 where
  pub live : is_live (member_at start j) ≡ true
  pub request : (member_at start j).node.request ≡ r
  pub version : (member_at start j).node.version + 1 ≡ v

-- a determined version rests on requests of a majority of the N nodes; each node held that request at the round's start, at the version
-- just below
pub record Justified (N : ℕ) (d : Determination) : Type 0 where
  pub most : N < 2 * size d.nodes
  pub held : (j : ℕ) → is_in d.nodes j ≡ true → Held d.start j (entry_of d.requests j) d.version

-- two determinations are the same: version, schedule, nodes, and the requests of these nodes
pub record SameDetermination (d e : Determination) : Type 0 where
  pub version : d.version ≡ e.version
  pub schedule : d.schedule ≡ e.schedule
  pub nodes : d.nodes ≡ e.nodes
  pub requests : (j : ℕ) → is_in d.nodes j ≡ true → entry_of d.requests j ≡ entry_of e.requests j

-- the site after a list of events from a site just loaded
abbrev pub final : Config → Table → List ℕ → List Event → Site
final f t area es = (run (begin f t area) es).site

-- what is determined on the way
abbrev pub determinations : Config → Table → List ℕ → List Event → List Determination
determinations f t area es = (trace (no_past (loaded_site f t)) (begin f t area) es).log

-- demand 3
pub record Demand3 (f : Config) (t : Table) (area : List ℕ) (es : List Event) : Type 0 where
  -- where the list ends in negotiation
  pub agreement : (final f t area es).negotiates ≡ true → Agreement (final f t area es)
  -- every determination of the list
  pub justified : (d : Determination) → Memᴰ d (determinations f t area es) → Justified f.nodes d
  -- any two determinations of one epoch, at the same close or not
  pub unique : (d e : Determination) → Memᴰ d (determinations f t area es) → Memᴰ e (determinations f t area es)
      → d.epoch ≡ e.epoch → SameDetermination d e

-- the theorem's statement: proved in proofs/Theorem.antt
pub record Holds : Type 0 where
  pub demand3 : (f : Config) (t : Table) → load_answer f t ≡ Done → f.split ≡ 0 → (area : List ℕ) (es : List Event) → Demand3 f t area es
