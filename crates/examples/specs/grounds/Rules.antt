-- Specification, 3.6 Ground of a close: each rule is given exactly under the conditions of its branch of Algorithm 1, lines 24 to 37; what
-- a node sends then; and what the missing node is.
-- Assumes nothing.
use Rattle.std.specs.Prelude.{◌≡◌, Bool, true, false, not, ◌&&◌, ℕ, ◌^◌, ◌≤◌, ◌<◌, eqb, ltb}
use Rattle.words.specs.Bits.{is_in, is_inside}
use Rattle.membership.specs.requests.Requests.{requesters}
use Rattle.node.specs.Figures.{top_version, splits, enough, successor, sending}
use Rattle.node.specs.Close.{complete, level, due, repeats, updated_by, determined_by, closed_node}
use Rattle.node.specs.Distribution.{sent_by}
use Rattle.node.specs.Grounds.{rule_of, missing_of}
use Rattle.node.specs.Model.{Node}
use Rattle.node.specs.declared.Rule.{Rule}
use Rattle.node.specs.declared.Rule.TheVariants.{RequestMissing, NoMajority, OwnLower, Repeating, AtTop, NotDue, NewSent}

-- no node of M' lacks a request in R'
abbrev pub informed : Node → Bool
informed n = is_inside n.round.merged (requesters n.round.known)

-- this close sends no new schedule, and no earlier round of the epoch has set the mark: this round's tests decide
abbrev pub decides : Node → Bool
decides n = not (due n) && not n.epoch.updated

-- the conditions of each rule
abbrev pub branch : Rule → Node → Bool
-- line 24: a node of M' has no request
branch RequestMissing n = decides n && not (informed n)
-- line 24: M' counts N/2 nodes or fewer, and the site may not split
branch NoMajority n = decides n && (informed n && not (enough n.setup.config n.round.merged))
-- lines 26 and 28: the versions differ, and its own is not the highest
branch OwnLower n = decides n && (complete n && (not (level n) && not (eqb n.version n.round.highest)))
-- lines 28 and 29: the versions differ, and it repeats
branch Repeating n = decides n && repeats n
-- line 26 at the top version, the specification's own rule
branch AtTop n = decides n && (complete n && (level n && not (ltb n.version top_version)))
-- lines 27 and 34: the mark is set, in this round or before, and this is not the epoch's last round
branch NotDue n = not (due n) && updated_by n
-- lines 34 and 35
branch NewSent n = due n

-- the rules at which a node sends nothing
abbrev pub is_silent : Rule → Bool
is_silent RequestMissing = true
is_silent NoMajority = true
is_silent OwnLower = true
is_silent Repeating = false
is_silent AtTop = true
is_silent NotDue = false
is_silent NewSent = false

-- each rule exactly under its conditions; so one always applies, and never two
pub record Exact (n : Node) : Type 0 where
  pub given : branch (rule_of n) n ≡ true
  pub only : (r : Rule) → branch r n ≡ true → rule_of n ≡ r

-- what a node sends at its close
pub record Sending (n : Node) : Type 0 where
  -- a new version with the determined schedule, exactly where the rule says so
  pub new : rule_of n ≡ NewSent → (sending (closed_node n).phase ≡ true) × (sent_by (closed_node n) ≡ record {
    version = successor n.version;
    schedule = determined_by n;
  })
  pub old : (rule_of n ≡ NewSent → due n ≡ true) × (due n ≡ true → rule_of n ≡ NewSent)
  -- its old version and schedule
  pub again : rule_of n ≡ Repeating → (sending (closed_node n).phase ≡ true) × (sent_by (closed_node n) ≡ sent_by n)
  -- nothing
  pub silent : is_silent (rule_of n) ≡ true → sending (closed_node n).phase ≡ false
  -- where a schedule is determined and not yet due, a node sends its old one exactly where it repeats
  pub waits : rule_of n ≡ NotDue → sending (closed_node n).phase ≡ repeats n

-- the lowest missing node, of a node whose M' is a word
pub record Missing (n : Node) : Type 0 where
  pub none : (missing_of n ≡ 0 → informed n ≡ true) × (informed n ≡ true → missing_of n ≡ 0)
  -- it is in M' and has no request, and each lower node of M' has one
  pub lacking : 0 < missing_of n → (is_in n.round.merged (missing_of n) ≡ true)
      × (is_in (requesters n.round.known) (missing_of n) ≡ false)
  pub least : (j : ℕ) → j < missing_of n → is_in n.round.merged j ≡ true → is_in (requesters n.round.known) j ≡ true
  pub small : missing_of n ≤ 32

-- the theorem's statement, for every node: proved in proofs/grounds/Theorem.antt
pub record GroundsRight : Type 0 where
  pub exact : (n : Node) → Exact n
  pub sending : (n : Node) → Sending n
  pub missing : (n : Node) → n.round.merged < 2 ^ 32 → Missing n
  -- at a site that may split no majority is asked for (S-14)
  pub split : (n : Node) → splits n.setup.config ≡ true → rule_of n ≡ NoMajority → ⊥
