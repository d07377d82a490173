-- Requests by node (the paper's R' and R_q; specification, 3.1 Negotiation and 5 Bytes on the air): 32 entries, each a
-- node's request, or 255 where it has none. The entry of node j stands at index j - 1.
-- Assumes nothing.
use Rattle.std.specs.Prelude.{Bool, cond, not, ◌&&◌, ◌||◌, List, ℕ, zero, suc, ◌+◌, ◌-◌, eqb, leb, get_or, set, replicate}
use Rattle.words.specs.Bits.{has_bit, word_of}
use Rattle.lists.specs.All.{all_below, tab}
use Rattle.allotment.specs.Allotment.{top_request}

-- the entry of a node without a request
abbrev pub none : ℕ
none = 255

-- whether the node at index i has a request
abbrev pub has_request : List ℕ → ℕ → Bool
has_request l i = not (eqb (get_or l i 0) none)

-- the nodes that have a request
unfoldable pub requesters : List ℕ → ℕ
requesters l = word_of 32 (has_request l)

-- nobody has one
abbrev pub no_requests : List ℕ
no_requests = replicate 32 none

-- node j alone has one (line 7)
abbrev pub only : ℕ → ℕ → List ℕ
only j r = set no_requests (j - 1) r

-- the entry of node j
abbrev pub entry_of : List ℕ → ℕ → ℕ
entry_of l j = get_or l (j - 1) 0

-- the request that either list has, the first one's where both have one
abbrev pub first_known : ℕ → ℕ → ℕ
first_known x y = cond (eqb x none) y x

-- R' merged with R_q (line 21)
unfoldable pub union : List ℕ → List ℕ → List ℕ
union a b = tab 32 (λ i. first_known (get_or a i 0) (get_or b i 0))

-- one of the two is no request, or they are the same
abbrev pub agree_at : ℕ → ℕ → Bool
agree_at x y = eqb x none || (eqb y none || eqb x y)

-- no node has two different requests in the two lists
unfoldable pub agree : List ℕ → List ℕ → Bool
agree a b = all_below 32 (λ i. agree_at (get_or a i 0) (get_or b i 0))

-- no request, or one within the range of requests of a node whose flag is set
abbrev pub request_within : ℕ → Bool → Bool
request_within x flag = eqb x none || (leb x top_request && flag)

-- requests stand only for the nodes of a set
unfoldable pub requests_within : List ℕ → ℕ → Bool
requests_within l flags = all_below 32 (λ i. request_within (get_or l i 0) (has_bit flags i))

-- whether the node at index i is in a set and has no request
abbrev pub lacks : ℕ → List ℕ → ℕ → Bool
lacks w l i = has_bit w i && eqb (get_or l i 0) none

-- the number of the first node that has p among the k from index i on; 0 for none
unfoldable pub first_with : ℕ → ℕ → (ℕ → Bool) → ℕ
first_with zero i p = 0
first_with (suc k) i p = cond (p i) (i + 1) (first_with k (i + 1) p)

-- the lowest node of a set that has no request; 0 for none
unfoldable pub lowest_missing : ℕ → List ℕ → ℕ
lowest_missing w l = first_with 32 0 (lacks w l)
