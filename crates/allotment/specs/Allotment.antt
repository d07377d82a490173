-- Specification, 4 Allotment, and the paper's section 4.3: the next schedule, from the last one and the members' requests.
-- Slots and nodes are counted from 0 here: slot k + 1 stands at index k, node j at index j - 1, and an owner is a node's number or 0 for
-- none.
-- Nodes are the first N (at most 32), slots the first K (at most 80): whatever the arguments, nothing else is looked at or given.
-- Assumes nothing.
use Rattle.std.specs.Prelude.{Bool, true, cond, ◌&&◌, ◌||◌, List, [], ◌∷◌, ◌≡◌, ℕ, min, ◌+◌, ◌-◌, ◌≤◌, ◌<◌, eqb, ltb, leb, get_or, set, replicate}
use Rattle.words.specs.Bits.{has_bit, digit}
use Rattle.lists.specs.All.{iter, tab}
use Rattle.allotment.specs.Model.{Schedule}
use Rattle.allotment.specs.declared.Deal.{Deal}

-- the greatest request (specification, 1 Figures)
abbrev pub top_request : ℕ
top_request = 15

-- the most slots of an epoch
abbrev pub top_slots : ℕ
top_slots = 80

-- A schedule is looked at and made by these three alone; how it is held is this crate's own matter.

-- the owners of its slots, 80 of them in every schedule of the code
unfoldable pub owners_of : Schedule → List ℕ
owners_of s = s.owners

-- the owner of the slot at index k; 0 behind the last
unfoldable pub owner_of : Schedule → ℕ → ℕ
owner_of s k = get_or (owners_of s) k 0

-- the schedule with these owners
unfoldable pub schedule_of : List ℕ → Schedule
schedule_of l = record { owners = l }

-- what stands behind the last of a list of schedules
abbrev pub no_schedule : Schedule
no_schedule = record { owners = [] }

-- a schedule in which all slots are free
abbrev pub free : Schedule
free = schedule_of (replicate 80 0)

-- what the node at index i asks for: its request, where it is one of the N nodes, a member, and has one; 0 otherwise
abbrev pub ask : ℕ → ℕ → List ℕ → ℕ → ℕ
ask N members requests i = cond (ltb i N && has_bit members i && leb (get_or requests i 0) top_request) (get_or requests i 0) 0

-- what each node asks for
unfoldable pub asks : ℕ → ℕ → List ℕ → List ℕ
asks N members requests = tab 32 (ask N members requests)

-- Targets: over the nodes in rising order, again and again, one more slot to each that was dealt fewer than it asks for,
-- until all have what they ask for or K slots are dealt.

-- one slot to the node at index i, unless it has its request or none is left
unfoldable pub deal_one : List ℕ → ℕ → Deal → Deal
deal_one wanted i d =
    cond (ltb 0 d.left && ltb (get_or d.targets i 0) (get_or wanted i 0))
    (record { targets = set d.targets i (get_or d.targets i 0 + 1); left = d.left - 1 })
    d

-- once over the nodes, in rising order
unfoldable pub deal_round : List ℕ → Deal → Deal
deal_round wanted d = iter 32 (deal_one wanted) d

-- nothing is dealt yet of K slots
abbrev pub undealt : ℕ → Deal
undealt K = record { targets = replicate 32 0; left = min K top_slots }

-- over and over: after as many rounds as the greatest request has, all are met or none is left
unfoldable pub dealt : List ℕ → ℕ → Deal
dealt wanted K = iter top_request (λ _ d. deal_round wanted d) (undealt K)

-- the targets
abbrev pub targets : ℕ → ℕ → ℕ → List ℕ → List ℕ
targets N K members requests = (dealt (asks N members requests) K).targets

-- a draft: the slots given so far, and how many each node has of them
pub record Draft : Type 0 where
  pub owners : List ℕ
  pub held : List ℕ

-- slot k goes to the node of number j, which then has one more
abbrev pub given : Draft → ℕ → ℕ → Draft
given d k j = record { owners = set d.owners k j; held = set d.held (j - 1) (get_or d.held (j - 1) 0 + 1) }

-- whether the node of number j has fewer than its target
abbrev pub below_target : List ℕ → Draft → ℕ → Bool
below_target target d j = ltb (get_or d.held (j - 1) 0) (get_or target (j - 1) 0)

-- an owner keeps a slot if it has kept fewer than its target so far; otherwise the slot is released
unfoldable pub keep_one : List ℕ → List ℕ → ℕ → ℕ → Draft → Draft
keep_one target old K k d = cond (ltb k K && ltb 0 (get_or old k 0) && below_target target d (get_or old k 0)) (given d k (get_or old k 0)) d

-- nobody has a slot yet
abbrev pub blank : Draft
blank = record { owners = replicate 80 0; held = replicate 32 0 }

-- going up the slots
unfoldable pub kept : List ℕ → List ℕ → ℕ → Draft
kept target old K = iter 80 (keep_one target old K) blank

-- of the node chosen so far (its number, or 0) and that at index i: the one below its target with fewer slots, and where both have as many
-- the lower number
unfoldable pub better : List ℕ → Draft → ℕ → ℕ → ℕ
better target d i best =
    cond (below_target target d (i + 1) && (eqb best 0 || ltb (get_or d.held i 0) (get_or d.held (best - 1) 0))) (i + 1) best

-- of the nodes below their targets the one with the fewest slots, the lowest number among equals; 0 where there is none
unfoldable pub chosen : List ℕ → Draft → ℕ
chosen target d = iter 32 (better target d) 0

-- a draft by how many slots each node has, which is all that the choice looks at
abbrev pub holding : List ℕ → Draft
holding held = record { owners = []; held = held }

-- a node of number j gets slot k; 0 is no node, and the slot stays free
abbrev pub give_to : Draft → ℕ → ℕ → Draft
give_to d k j = cond (eqb j 0) d (given d k j)

-- a slot that was free before goes to that node, or stays free; a slot released now is not filled now
unfoldable pub fill_one : List ℕ → List ℕ → ℕ → ℕ → Draft → Draft
fill_one target old K k d = cond (ltb k K && eqb (get_or old k 0) 0) (give_to d k (chosen target d)) d

-- up the slots that the old schedule left free
unfoldable pub filled : List ℕ → List ℕ → ℕ → Draft → Draft
filled target old K d = iter 80 (fill_one target old K) d

-- the next schedule by the targets
abbrev pub allotted : List ℕ → List ℕ → ℕ → List ℕ
allotted target old K = (filled target old K (kept target old K)).owners

-- the next schedule
unfoldable pub next : Schedule → ℕ → List ℕ → ℕ → ℕ → Schedule
next s members requests N K = schedule_of (allotted (targets N K members requests) (owners_of s) K)

-- What the laws speak of.

-- the sum of a list
unfoldable pub total : List ℕ → ℕ
total [] = 0
total (x ∷ l) = x + total l

-- how many slots of a list have the owner j
unfoldable pub count : ℕ → List ℕ → ℕ
count j [] = 0
count j (x ∷ l) = digit (eqb x j) + count j l

-- of the first n nodes that are below their targets, the node of number j has the fewest slots, and fewer than those of lower numbers
pub record Least (target : List ℕ) (d : Draft) (n j : ℕ) : Type 0 where
  pub node : (0 < j) × (j ≤ n)
  pub lacking : below_target target d j ≡ true
  pub fewest : (i : ℕ) → i < n → below_target target d (i + 1) ≡ true → get_or d.held (j - 1) 0 ≤ get_or d.held i 0
  pub first : (i : ℕ) → i + 1 < j → below_target target d (i + 1) ≡ true → get_or d.held (j - 1) 0 < get_or d.held i 0

-- What the allotment keeps, whatever the schedule, the members, the requests, N and K (proved in proofs/Fairness.antt).
pub record Fairness (s : Schedule) (members : ℕ) (requests : List ℕ) (N K : ℕ) : Type 0 where
  -- the targets add to the smaller of the slots and of all that is asked for
  pub all-dealt : total (targets N K members requests) ≡ min (min K top_slots) (total (asks N members requests))
  -- no target is more than what the node asks for
  pub asked : (i : ℕ) → get_or (targets N K members requests) i 0 ≤ get_or (asks N members requests) i 0
  -- a node whose target is behind another's by more than one has all that it asks for
  pub even : (i j : ℕ) → get_or (targets N K members requests) i 0 + 1 < get_or (targets N K members requests) j 0
      → get_or (targets N K members requests) i 0 ≡ get_or (asks N members requests) i 0
  -- so has a node whose target is behind that of a node with a higher number
  pub in-turn : (i j : ℕ) → i < j → get_or (targets N K members requests) i 0 < get_or (targets N K members requests) j 0
      → get_or (targets N K members requests) i 0 ≡ get_or (asks N members requests) i 0
  -- no node has more slots than its target
  pub within : (j : ℕ) → 0 < j → count j (owners_of (next s members requests N K)) ≤ get_or (targets N K members requests) (j - 1) 0
  -- a slot that had an owner keeps it or becomes free: what is released in this step is not handed on in it
  pub not-handed-on : (k : ℕ) → 0 < owner_of s k → 0 < owner_of (next s members requests N K) k
      → owner_of (next s members requests N K) k ≡ owner_of s k
  -- an owner of no more slots than its target loses none of them
  pub keeps : (k : ℕ) → k < min K top_slots → 0 < owner_of s k
      → count (owner_of s k) (owners_of s) ≤ get_or (targets N K members requests) (owner_of s k - 1) 0
      → owner_of (next s members requests N K) k ≡ owner_of s k
  -- where a slot that was free stays free, every node has its target
  pub none-idle : (k : ℕ) → k < min K top_slots → owner_of s k ≡ 0 → owner_of (next s members requests N K) k ≡ 0
      → (j : ℕ) → 0 < j → count j (owners_of (next s members requests N K)) ≡ get_or (targets N K members requests) (j - 1) 0
