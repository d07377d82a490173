-- Specification, 10.5 What two nodes know: the paper's Theorem 1. At any moment of negotiation two nodes that lack no request of their M'
-- know the same nodes with the same requests, or no node is known to both. No majority is asked: it holds of sites that may split and of
-- those that may not, alike (S-14). Its only hypothesis is that the table is accepted.
-- Assumes nothing.
use Rattle.std.specs.Prelude.{◌≡◌, Bool, true, false, ◌⊎◌, List, ℕ}
use Rattle.words.specs.Bits.{is_in, is_inside}
use Rattle.membership.specs.requests.Requests.{requesters, entry_of}
use Rattle.node.specs.Close.{complete}
use Rattle.node.specs.Model.{Node}
use Rattle.node.specs.Answers.{Done}
use Rattle.site.specs.Members.{member_at, is_live}
use Rattle.site.specs.Load.{load_answer}
use Rattle.node.specs.declared.Config.{Config}
use Rattle.site.specs.declared.Table.{Table}
use Rattle.site.specs.Model.{Site}
use Rattle.site.specs.declared.Event.{Event}
use Rattle.site.specs.declared.Event.TheVariants.{Close}
use Rattle.histories.specs.Reached.{reached, Accepted}

-- no node of M' lacks a request in R': what line 24 asks beside the majority
abbrev pub informed : Node → Bool
informed n = is_inside n.round.merged (requesters n.round.known)

-- two nodes know the requests of the same nodes, and the same requests
pub record SameRequests (m n : Node) : Type 0 where
  pub nodes : m.round.merged ≡ n.round.merged
  pub requests : (j : ℕ) → is_in m.round.merged j ≡ true → entry_of m.round.known j ≡ entry_of n.round.known j

-- no node is in both M'
pub record NoneInCommon (m n : Node) : Type 0 where
  pub apart : (j : ℕ) → is_in m.round.merged j ≡ true → is_in n.round.merged j ≡ false

abbrev pub Knows : Node → Node → Type 0
Knows m n = SameRequests m n ⊎ NoneInCommon m n

-- any two live nodes that lack nothing
abbrev pub Consistent : Site → Type 0
Consistent s =
    (i j : ℕ) → is_live (member_at s i) ≡ true → is_live (member_at s j) ≡ true
    → informed (member_at s i).node ≡ true → informed (member_at s j).node ≡ true
    → Knows (member_at s i).node (member_at s j).node

-- after any list of events, any two live nodes that are complete at one accepted close
abbrev pub Completes : Config → Table → List ℕ → Type 0
Completes f t area =
    (es : List Event) → Accepted (reached f t area es) Close
    → (i j : ℕ) → is_live (member_at (reached f t area es).site i) ≡ true → is_live (member_at (reached f t area es).site j) ≡ true
    → complete (member_at (reached f t area es).site i).node ≡ true → complete (member_at (reached f t area es).site j).node ≡ true
    → Knows (member_at (reached f t area es).site i).node (member_at (reached f t area es).site j).node

-- the theorem's statement, for any content of the packet area and any list of events: proved in proofs/Theorem.antt
pub record Consensus : Type 0 where
  pub consistent : (f : Config) (t : Table) → load_answer f t ≡ Done → (area : List ℕ) (es : List Event)
      → (reached f t area es).site.negotiates ≡ true → Consistent (reached f t area es).site
  -- so of two that are complete at one close
  pub completes : (f : Config) (t : Table) → load_answer f t ≡ Done → (area : List ℕ) → Completes f t area
