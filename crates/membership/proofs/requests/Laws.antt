-- Laws of requests by node: who has one, of one node's request alone, of two lists merged, and of requests that stand for the nodes of a
-- set.
-- Assumes nothing.
use mathlib.Core.Bool.{Bool, true, false, not, cond, ◌&&◌, ◌||◌}
use mathlib.Core.List.{List}
use mathlib.Core.Logic.{◌≢◌}
use mathlib.Core.Path.{◌≡◌, refl, sym, ap, ap₂, ◌∙◌}
use Prim.Native.Nat.{ℕ, zero, suc, ◌+◌, ◌-◌, ◌^◌, ◌≤◌, ◌<◌}
use native.Mathlib.Omega.{arith}
use lib.Bits
use lib.Bits.{or_lt}
use lib.Dec.{eqb, ltb, leb}
use lib.ListN.{length, get_or, set, length-set, get_or-replicate}
use lib.Pow.{pow-lt}
use lib.Seq.{get_or-set_same, get_or-set_other, set_out, ext_get_or}
use borrow.Author.Tests.{eq-eqb, ne_eqb, eqb-true, eqb-false, le-leb, ltb-true, ltb-false, not-true}
use Rattle.lists.proofs.Laws.{all-at, all-make, all_none, all_more, get_d-tab, length-tab}
use Rattle.words.proofs.Tests.{or-front, or-back, or-rest, only_if, same_or_not, hit, skip, and_left, and_right, both}
use Rattle.words.proofs.Laws.{has_bit-or, has_bit-out, has_bit-word_of, word_of-lt, word_of-below, has_bit-power, same_word}
use Rattle.words.specs.Bits.{has_bit, is_in, is_inside}
use Rattle.masks.proofs.Taken.{iff}
use Rattle.lists.specs.All.{all_below, tab}
use Rattle.allotment.specs.Allotment.{top_request}
use Rattle.membership.specs.requests.Requests.{none, has_request, requesters, no_requests, only, entry_of, first_known, union, agree_at}
use Rattle.membership.specs.requests.Requests.{agree}
use Rattle.membership.specs.requests.Requests.{request_within, requests_within, first_with}

-- who has a request
pub requesters-has : (l : List ℕ) (i : ℕ) → i < 32 → has_bit (requesters l) i ≡ has_request l i
unfolding requesters
requesters-has l i h = has_bit-word_of 32 (has_request l) i h

pub requesters-lt : (l : List ℕ) → requesters l < 2 ^ 32
unfolding requesters
requesters-lt l = word_of-lt 32 (has_request l)

-- nobody
pub get_d-none : (i : ℕ) → i < 32 → get_or no_requests i 0 ≡ none
get_d-none i h = get_or-replicate 32 i none 0 h

-- one node alone
pub length-only : (j r : ℕ) → length (only j r) ≡ 32
length-only j r = length-set no_requests (j - 1) r

-- its request at its own place, and none at any other
pub only-own : (j r i : ℕ) → i < 32 → i ≡ j - 1 → get_or (only j r) i 0 ≡ r
only-own j r i l e = ap (λ (x : ℕ). get_or (set no_requests x r) i 0) (sym e) ∙ get_or-set_same no_requests i r 0 l

pub only-other : (j r i : ℕ) → i < 32 → i ≢ j - 1 → get_or (only j r) i 0 ≡ none
only-other j r i l e = get_or-set_other no_requests (j - 1) i r 0 e ∙ get_d-none i l

pub entry-only : (j r : ℕ) → 1 ≤ j → j ≤ 32 → entry_of (only j r) j ≡ r
entry-only j r h l = only-own j r (j - 1) (omega arith) refl

pub requesters-only : (j r : ℕ) → 1 ≤ j → j ≤ 32 → r ≤ top_request → requesters (only j r) ≡ 2 ^ (j - 1)
requesters-only j r h k m =
    let q : j - 1 < 32 = omega arith in
    same_word 32 (requesters (only j r)) (2 ^ (j - 1)) (requesters-lt (only j r)) (pow-lt q)
    (λ i l. requesters-has (only j r) i l ∙ at i l ∙ sym (has_bit-power (j - 1) i q l))
  where
    at : (i : ℕ) → i < 32 → has_request (only j r) i ≡ eqb i (j - 1)
    at i l = go (eqb i (j - 1)) refl
      where
        go : (t : Bool) → eqb i (j - 1) ≡ t → has_request (only j r) i ≡ t
        go true e =
            let z : i ≡ j - 1 = eqb-true i (j - 1) e in
            ap not (ne_eqb (get_or (only j r) i 0) none (λ f.
            let y : get_or (only j r) i 0 ≡ r = only-own j r i l z in
            omega arith))
        go false e = ap not (eq-eqb (get_or (only j r) i 0) none (only-other j r i l (eqb-false i (j - 1) e)))

-- two lists merged
pub length_union : (a b : List ℕ) → length (union a b) ≡ 32
unfolding union
length_union a b = length-tab 32 (λ i. first_known (get_or a i 0) (get_or b i 0))

pub get_d-union : (a b : List ℕ) (i : ℕ) → i < 32 → get_or (union a b) i 0 ≡ first_known (get_or a i 0) (get_or b i 0)
unfolding union
get_d-union a b i h = get_d-tab 0 32 (λ i. first_known (get_or a i 0) (get_or b i 0)) i h

-- a request of the first list stands, one of the second where the first has none
pub union-first : (a b : List ℕ) (i : ℕ) → i < 32 → get_or a i 0 ≢ none → get_or (union a b) i 0 ≡ get_or a i 0
union-first a b i l e = get_d-union a b i l ∙ skip (eqb (get_or a i 0) none) _ _ _ (ne_eqb (get_or a i 0) none e) refl

pub union-second : (a b : List ℕ) (i : ℕ) → i < 32 → get_or a i 0 ≡ none → get_or (union a b) i 0 ≡ get_or b i 0
union-second a b i l e = get_d-union a b i l ∙ hit (eqb (get_or a i 0) none) _ _ (eq-eqb (get_or a i 0) none e)

first-has : (x y : ℕ) → not (eqb (first_known x y) none) ≡ (not (eqb x none) || not (eqb y none))
first-has x y = go (eqb x none) refl
  where
    go : (t : Bool) → eqb x none ≡ t → not (eqb (first_known x y) none) ≡ (not (eqb x none) || not (eqb y none))
    go true e = simp e
    go false e = simp e

pub has-union : (a b : List ℕ) (i : ℕ) → i < 32 → has_request (union a b) i ≡ (has_request a i || has_request b i)
has-union a b i h = ap (λ (x : ℕ). not (eqb x none)) (get_d-union a b i h) ∙ first-has (get_or a i 0) (get_or b i 0)

pub requesters-union : (a b : List ℕ) → requesters (union a b) ≡ Bits.bit_or (requesters a) (requesters b)
requesters-union a b =
    same_word 32 (requesters (union a b)) (Bits.bit_or (requesters a) (requesters b)) (requesters-lt (union a b))
    (or_lt 32 (requesters a) (requesters b) (requesters-lt a) (requesters-lt b))
    (λ i l. requesters-has (union a b) i l ∙ has-union a b i l ∙ sym
    (has_bit-or (requesters a) (requesters b) i ∙ ap₂ ◌||◌ (requesters-has a i l) (requesters-has b i l)))

-- no node with two requests
pub agree_at_lem : (a b : List ℕ) → agree a b ≡ true → (i : ℕ) → i < 32 → agree_at (get_or a i 0) (get_or b i 0) ≡ true
unfolding agree
agree_at_lem a b h i l = all-at 32 (λ i. agree_at (get_or a i 0) (get_or b i 0)) h i l

-- requests of the nodes of a set
pub within-at : (l : List ℕ) (w : ℕ) → requests_within l w ≡ true → (i : ℕ) → i < 32 → request_within (get_or l i 0) (has_bit w i) ≡ true
unfolding requests_within
within-at l w h i k = all-at 32 (λ i. request_within (get_or l i 0) (has_bit w i)) h i k

pub within-make : (l : List ℕ) (w : ℕ) → ((i : ℕ) → i < 32 → request_within (get_or l i 0) (has_bit w i) ≡ true) → requests_within l w ≡ true
unfolding requests_within
within-make l w h = all-make 32 (λ i. request_within (get_or l i 0) (has_bit w i)) h

asked : (l : List ℕ) (w : ℕ) → requests_within l w ≡ true → (i : ℕ) → i < 32 → has_bit (requesters l) i ≡ true
    → (leb (get_or l i 0) top_request && has_bit w i) ≡ true
asked l w h i k p = or-rest (eqb (get_or l i 0) none) _ (within-at l w h i k) (not-true _ (sym (requesters-has l i k) ∙ p))

pub within-sub : (l : List ℕ) (w : ℕ) → requests_within l w ≡ true → (i : ℕ) → i < 32 → has_bit (requesters l) i ≡ true → has_bit w i ≡ true
within-sub l w h i k p = and_right (leb (get_or l i 0) top_request) _ (asked l w h i k p)

-- no request, or one within the range of requests
abbrev pub request_fits : ℕ → Bool
request_fits x = request_within x true

-- each entry is one of these
unfoldable pub requests_fit : List ℕ → Bool
requests_fit l = all_below 32 (λ i. request_fits (get_or l i 0))

-- it is the same to ask that whoever has a request is in the set and that each entry is in range
pub within-apart : (l : List ℕ) (w : ℕ) → w < 2 ^ 32 → (is_inside (requesters l) w && requests_fit l) ≡ requests_within l w
unfolding requests_fit
within-apart l w h = iff (is_inside (requesters l) w && requests_fit l) (requests_within l w) (λ e. within-make l w (λ i k. one i k e))
    (λ e. both (inside e) (all-make 32 (λ i. request_fits (get_or l i 0)) (λ i k. fits (get_or l i 0) (has_bit w i) (within-at l w e i k))))
  where
    one : (i : ℕ) → i < 32 → (is_inside (requesters l) w && requests_fit l) ≡ true → request_within (get_or l i 0) (has_bit w i) ≡ true
    one i k e = go (eqb (get_or l i 0) none) refl
      where
        go : (t : Bool) → eqb (get_or l i 0) none ≡ t → request_within (get_or l i 0) (has_bit w i) ≡ true
        go true f = or-front _ _ f
        go false f =
            let r : request_fits (get_or l i 0) ≡ true = all-at 32 (λ i. request_fits (get_or l i 0)) (and_right (is_inside (requesters l) w) _ e) i k in
            let x : leb (get_or l i 0) top_request ≡ true =
            and_left (leb (get_or l i 0) top_request) true (or-rest (eqb (get_or l i 0) none) _ r f) in
            let y : Bits.bit_or (requesters l) w ≡ w = eqb-true _ _ (and_left (is_inside (requesters l) w) (requests_fit l) e) in
            let z : has_bit w i ≡ true = ap (λ (v : ℕ). has_bit v i) (sym y) ∙ has_bit-or (requesters l) w i
            ∙ or-front _ (has_bit w i) (requesters-has l i k ∙ ap not f) in
            or-back (eqb (get_or l i 0) none) _ (both x z)

    fits : (x : ℕ) (t : Bool) → request_within x t ≡ true → request_fits x ≡ true
    fits x t e = go (eqb x none) refl
      where
        go : (b : Bool) → eqb x none ≡ b → request_fits x ≡ true
        go true f = or-front _ _ f
        go false f = or-back (eqb x none) _ (both (and_left (leb x top_request) t (or-rest (eqb x none) _ e f)) refl)

    absorbed : (a b : Bool) → (a ≡ true → b ≡ true) → (a || b) ≡ b
    absorbed true b f = sym (f refl)
    absorbed false b f = refl

    inside : requests_within l w ≡ true → is_inside (requesters l) w ≡ true
    inside e = eq-eqb (Bits.bit_or (requesters l) w) w
        (same_word 32 (Bits.bit_or (requesters l) w) w (or_lt 32 _ _ (requesters-lt l) h) h
        (λ i k. has_bit-or (requesters l) w i ∙ absorbed (has_bit (requesters l) i) (has_bit w i) (within-sub l w e i k)))

-- the test of all entries, behind the test of the set: before the first, and a turn
pub within-none : (p : ℕ → Bool) (s t : Bool) → t ≡ s → t ≡ (s && all_below 0 p)
within-none p true t e = e ∙ all_none p
within-none p false t e = e

pub within-more : (p : ℕ → Bool) (n : ℕ) (s t u : Bool) → t ≡ (s && all_below n p) → u ≡ p n → (t && u) ≡ (s && all_below (n + 1) p)
within-more p n true t u e f = all_more p n t u e f
within-more p n false t u e f = ap (λ (x : Bool). x && u) e

-- the requesters are among the first n nodes where the set is
pub requesters-below : (l : List ℕ) (w n : ℕ) → requests_within l w ≡ true → w < 2 ^ n → n ≤ 32 → requesters l < 2 ^ n
unfolding requesters
requesters-below l w n h k m =
    word_of-below n 32 (has_request l) m (λ i a b. only_if (has_request l i) (has_bit w i)
    (λ e. within-sub l w h i b (requesters-has l i b ∙ e)) (has_bit-out w n i k a))

within-or : (x y : ℕ) (s t : Bool) → request_within x s ≡ true → request_within y t ≡ true → request_within (first_known x y) (s || t) ≡ true
within-or x y s t h k = go (eqb x none) refl
  where
    wide : (z : ℕ) (u v : Bool) → request_within z u ≡ true → (u ≡ true → v ≡ true) → request_within z v ≡ true
    wide z u v p f = last (eqb z none) refl
      where
        last : (b : Bool) → eqb z none ≡ b → request_within z v ≡ true
        last true e = or-front _ _ e
        last false e =
            let q : (leb z top_request && u) ≡ true = or-rest (eqb z none) _ p e in
            or-back (eqb z none) _ (both (and_left (leb z top_request) u q) (f (and_right (leb z top_request) u q)))

    go : (b : Bool) → eqb x none ≡ b → request_within (first_known x y) (s || t) ≡ true
    go true e = ap (λ (z : ℕ). request_within z (s || t)) (hit (eqb x none) y x e) ∙ wide y t (s || t) k (or-back s t)
    go false e = ap (λ (z : ℕ). request_within z (s || t)) (skip (eqb x none) y x x e refl) ∙ wide x s (s || t) h (or-front s t)

pub within-union : (a b : List ℕ) (v w : ℕ) → requests_within a v ≡ true → requests_within b w ≡ true
    → requests_within (union a b) (Bits.bit_or v w) ≡ true
within-union a b v w h k =
    within-make (union a b) (Bits.bit_or v w)
    (λ i l. ap₂ request_within (get_d-union a b i l) (has_bit-or v w i)
    ∙ within-or (get_or a i 0) (get_or b i 0) (has_bit v i) (has_bit w i) (within-at a v h i l) (within-at b w k i l))

pub within-only : (j r w : ℕ) → r ≤ top_request → is_in w j ≡ true → requests_within (only j r) w ≡ true
within-only j r w m h = within-make (only j r) w (λ i l. go i l (eqb i (j - 1)) refl)
  where
    go : (i : ℕ) → i < 32 → (t : Bool) → eqb i (j - 1) ≡ t → request_within (get_or (only j r) i 0) (has_bit w i) ≡ true
    go i l true e =
        let z : i ≡ j - 1 = eqb-true i (j - 1) e in
        or-back (eqb (get_or (only j r) i 0) none) _
        (both (le-leb (get_or (only j r) i 0) top_request (let y : get_or (only j r) i 0 ≡ r = only-own j r i l z in omega arith))
        (ap (has_bit w) z ∙ and_right (ltb 0 j) (has_bit w (j - 1)) h))
    go i l false e = or-front _ _ (eq-eqb (get_or (only j r) i 0) none (only-other j r i l (eqb-false i (j - 1) e)))

-- the first of some nodes: it is the next one, or it is behind that
pub first-here : (p : ℕ → Bool) (n i : ℕ) → i < n → p i ≡ true → first_with (n - i) i p ≡ i + 1
unfolding first_with
first-here p n i l h = go (n - i) refl
  where
    go : (k : ℕ) → n - i ≡ k → first_with k i p ≡ i + 1
    go zero e = absurd (omega arith)
    go (suc k) e = hit _ _ _ h

pub first-behind : (p : ℕ → Bool) (n i : ℕ) → i < n → p i ≡ false → first_with (n - i) i p ≡ first_with (n - (i + 1)) (i + 1) p
unfolding first_with
first-behind p n i l h = go (n - i) refl
  where
    go : (k : ℕ) → n - i ≡ k → first_with k i p ≡ first_with (n - (i + 1)) (i + 1) p
    go zero e = absurd (omega arith)
    go (suc k) e =
        let z : k ≡ n - (i + 1) = omega arith in
        skip _ _ _ _ h (ap (λ (m : ℕ). first_with m (i + 1) p) z)

pub first-none : (p : ℕ → Bool) (i : ℕ) → first_with 0 i p ≡ 0
unfolding first_with
first-none p i = refl

-- node j alone, entry by entry
pub only-tab : (i r : ℕ) → tab 32 (λ k. cond (eqb k (cond (ltb i 32) i none)) r none) ≡ set no_requests i r
unfolding tab
only-tab i r = go (ltb i 32) refl
  where
    at : (k : ℕ) → k < 32 → i < 32 → cond (eqb k i) r none ≡ get_or (set no_requests i r) k 0
    at k l h =
        same_or_not k i
        (λ e. hit _ _ _ (eq-eqb k i e) ∙ sym (ap (λ (x : ℕ). get_or (set no_requests i r) x 0) e ∙ get_or-set_same no_requests i r 0 h))
        (λ e. skip _ _ _ _ (ne_eqb k i e) (sym (get_or-set_other no_requests i k r 0 e ∙ get_or-replicate 32 k none 0 l)))

    go : (t : Bool) → ltb i 32 ≡ t → tab 32 (λ k. cond (eqb k (cond t i none)) r none) ≡ set no_requests i r
    go true e = ext_get_or 0 (tab 32 (λ k. cond (eqb k i) r none)) (set no_requests i r)
        (length-tab 32 (λ k. cond (eqb k i) r none) ∙ sym (length-set no_requests i r))
        (λ k l. let m = length-tab 32 (λ k. cond (eqb k i) r none) in get_d-tab 0 32 (λ k. cond (eqb k i) r none) k (omega arith)
        ∙ at k (omega arith) (ltb-true i 32 e))
    go false e = sym (set_out no_requests i r (ltb-false i 32 e))
