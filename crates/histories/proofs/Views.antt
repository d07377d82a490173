-- What a node gathers in a round, and what a packet carries of it; merging keeps what is known of both.
-- Assumes nothing.
use mathlib.Core.Path.{◌≡◌, refl, sym, ◌∙◌}
use mathlib.Core.Bool.{true}
use mathlib.Core.Logic.{◌⊎◌, inl, inr}
use mathlib.Core.List.{List}
use Prim.Native.Nat.{ℕ, suc, ◌-◌, ◌^◌, ◌≤◌, ◌<◌, min, max}
use native.Mathlib.Omega.{arith}
use borrow.Author.Tests.{eq-eqb, not-true}
use lib.Dec.{eqb}
use lib.Bits.{bit_or, or_lt}
use lib.ListN.{get_or}
use Rattle.words.specs.Bits.{is_inside}
use Rattle.words.proofs.Tests.{clash, same_or_not}
use Rattle.allotment.specs.Allotment.{top_request}
use Rattle.membership.specs.requests.Requests.{none, requesters, only, union}
use Rattle.membership.proofs.requests.Laws.{requesters-has, requesters-lt, only-own, only-other, union-first, union-second}
use Rattle.node.specs.Model.{Node}
use Rattle.node.specs.declared.Packet.{Packet}
use Rattle.histories.proofs.Tests.{either, total}
use Rattle.histories.proofs.Sets.{In, in-or, in-or-l, in-or-r, in-lt, inside-at}

-- who gathered it (by its index), M', R', lowest and highest
pub record View : Type 0 where
  pub who : ℕ
  pub m : ℕ
  pub R : List ℕ
  pub lo : ℕ
  pub hi : ℕ

-- of a node in negotiation
abbrev pub view_of : Node → View
view_of n = record { who = n.setup.node - 1; m = n.round.merged; R = n.round.known; lo = n.round.lowest; hi = n.round.highest }

-- of a packet
abbrev pub view_in : Packet → View
view_in q = record { who = q.sender - 1; m = q.flags; R = q.requests; lo = q.lowest; hi = q.highest }

-- of two
abbrev pub merge : View → View → View
merge a q = record { who = a.who; m = bit_or a.m q.m; R = union a.R q.R; lo = min a.lo q.lo; hi = max a.hi q.hi }

-- the node at index k has the request c in R
pub record Known (R : List ℕ) (k c : ℕ) : Type 0 where
  pub in_r : k < 32
  pub at : get_or R k 0 ≡ c
  pub small : c ≤ top_request

-- each entry is no request, or one within the range
pub record Tidy (R : List ℕ) : Type 0 where
  pub each : (k : ℕ) → k < 32 → (get_or R k 0 ≡ none) ⊎ (get_or R k 0 ≤ top_request)

-- what is known of a union
pub known-join : (a b : List ℕ) {k c : ℕ} → Known (union a b) k c → Known a k c ⊎ Known b k c
known-join a b {k} {c} h = same_or_not (get_or a k 0) none
    (λ e. inr (record { in_r = h.in_r; at = sym (union-second a b k h.in_r e) ∙ h.at; small = h.small }))
    (λ e. inl (record { in_r = h.in_r; at = sym (union-first a b k h.in_r e) ∙ h.at; small = h.small }))

pub join-l : (a b : List ℕ) (k c : ℕ) → Known a k c → Known (union a b) k c
join-l a b k c h = record { in_r = h.in_r; at = union-first a b k h.in_r (λ e. omega (arith, h.at, h.small)) ∙ h.at; small = h.small }

pub join-r : (a b : List ℕ) (k c : ℕ) → Tidy a → Known b k c → (d : ℕ) × Known (union a b) k d
join-r a b k c t h = either (t.each k h.in_r)
    (λ e. (c, record { in_r = h.in_r; at = union-second a b k h.in_r e ∙ h.at; small = h.small }))
    (λ l. (get_or a k 0, record { in_r = h.in_r; at = union-first a b k h.in_r (λ e. omega arith); small = l }))

pub tidy-join : (a b : List ℕ) → Tidy a → Tidy b → Tidy (union a b)
tidy-join a b s t = record {
  each = λ k l. same_or_not (get_or a k 0) none
      (λ e. either (t.each k l) (λ f. inl (union-second a b k l e ∙ f)) (λ f. inr (rw (union-second a b k l e) f)))
      (λ e. either (s.each k l) (λ f. absurd (e f)) (λ f. inr (rw (union-first a b k l e) f)));
}

-- who has a request in the list
pub in-known : (R : List ℕ) (k : ℕ) → Tidy R → In (requesters R) k → (c : ℕ) × Known R k c
in-known R k t h =
    let l : k < 32 = in-lt 32 (requesters R) k (requesters-lt R) h in
    either (t.each k l)
    (λ e. clash (eqb (get_or R k 0) none) (eq-eqb (get_or R k 0) none e) (not-true _ (sym (requesters-has R k l) ∙ h.is)))
    (λ e. (get_or R k 0, record { in_r = l; at = refl; small = e }))

-- one request alone
pub only-known : (i r : ℕ) → i < 32 → r ≤ top_request → Known (only (suc i) r) i r
only-known i r h s = record { in_r = h; at = only-own (suc i) r i h (omega arith); small = s }

pub known_only : (i r k c : ℕ) → Known (only (suc i) r) k c → (k ≡ i) × (c ≡ r)
known_only i r k c h = same_or_not k i
    (λ e. (e, sym h.at ∙ only-own (suc i) r k h.in_r (omega arith)))
    (λ e. absurd (omega (arith, only-other (suc i) r k h.in_r (λ z. e (omega arith)), h.at, h.small)))

pub tidy-only : (i r : ℕ) → r ≤ top_request → Tidy (only (suc i) r)
tidy-only i r s = record {
  each = λ k l. same_or_not k i (λ e. inr (rw (only-own (suc i) r k l (omega arith)) s))
      (λ e. inl (only-other (suc i) r k l (λ z. e (omega arith))));
}

-- the epoch's flags, and the round's start: who was live, with which version and request
pub record Start : Type 1 where
  pub M : ℕ → ℕ
  pub was : ℕ → Type 0
  pub ver : ℕ → ℕ
  pub req : ℕ → ℕ

-- with each node also those of its flags
pub record Closed (M : ℕ → ℕ) (X : ℕ) : Type 0 where
  pub out : (k l : ℕ) → In X k → In (M k) l → In X l

module _ (N : ℕ) (G : Start) where
  -- what holds of every view of a round
  pub record Good (v : View) : Type 0 where
    pub fits : v.m < 2 ^ N
    pub tidy : Tidy v.R
    pub mine : (c : ℕ) × Known v.R v.who c
    pub req : {k c : ℕ} → Known v.R k c → c ≡ G.req k
    pub was : {k c : ℕ} → Known v.R k c → G.was k
    pub inm : {k c : ℕ} → Known v.R k c → In v.m k
    pub next : {k c l : ℕ} → Known v.R k c → In (G.M k) l → In v.m l
    pub reach : {X k : ℕ} → Closed G.M X → In X v.who → In v.m k → In X k
    pub conn : {X k c l d : ℕ} → Closed G.M X → Known v.R k c → Known v.R l d → In X k → In X l
    pub lo-le : {k c : ℕ} → Known v.R k c → v.lo ≤ G.ver k
    pub hi-ge : {k c : ℕ} → Known v.R k c → G.ver k ≤ v.hi
    pub lo_at : (k : ℕ) × (c : ℕ) × Known v.R k c × (G.ver k ≡ v.lo)
    pub hi_at : (k : ℕ) × (c : ℕ) × Known v.R k c × (G.ver k ≡ v.hi)

  -- a merge happens where each of the two is in the other's set
  pub merge-good : (a q : View) → Good a → Good q → In a.m q.who → In q.m a.who → Good (merge a q)
  merge-good a q A Q i j = record {
    fits = or_lt N a.m q.m A.fits Q.fits;
    tidy = tidy-join a.R q.R A.tidy Q.tidy;
    mine = (A.mine.0, join-l a.R q.R a.who A.mine.0 A.mine.1);
    req = λ h. either (known-join a.R q.R h) A.req Q.req;
    was = λ h. either (known-join a.R q.R h) A.was Q.was;
    inm = λ h. either (known-join a.R q.R h) (λ p. in-or-l a.m q.m (A.inm p)) (λ p. in-or-r a.m q.m (Q.inm p));
    next = λ h e. either (known-join a.R q.R h) (λ p. in-or-l a.m q.m (A.next p e)) (λ p. in-or-r a.m q.m (Q.next p e));
    reach = λ C w h. either (in-or a.m q.m h) (A.reach C w) (Q.reach C (A.reach C w i));
    conn = λ C h g x. either (known-join a.R q.R h)
        (λ p. either (known-join a.R q.R g) (λ r. A.conn C p r x)
        (λ r. Q.conn C Q.mine.1 r (A.reach C (A.conn C p A.mine.1 x) i)))
        (λ p. either (known-join a.R q.R g) (λ r. A.conn C A.mine.1 r (Q.reach C (Q.conn C p Q.mine.1 x) j))
        (λ r. Q.conn C p r x));
    lo-le = λ h. either (known-join a.R q.R h) (λ p. omega (arith, A.lo-le p)) (λ p. omega (arith, Q.lo-le p));
    hi-ge = λ h. either (known-join a.R q.R h) (λ p. omega (arith, A.hi-ge p)) (λ p. omega (arith, Q.hi-ge p));
    lo_at = either (total a.lo q.lo)
        (λ h. let r = A.lo_at in (r.0, r.1, join-l a.R q.R r.0 r.1 r.2, omega (arith, r.3)))
        (λ h. let r = Q.lo_at in let t = join-r a.R q.R r.0 r.1 A.tidy r.2 in (r.0, t.0, t.1, omega (arith, r.3)));
    hi_at = either (total a.hi q.hi)
        (λ h. let r = Q.hi_at in let t = join-r a.R q.R r.0 r.1 A.tidy r.2 in (r.0, t.0, t.1, omega (arith, r.3)))
        (λ h. let r = A.hi_at in (r.0, r.1, join-l a.R q.R r.0 r.1 r.2, omega (arith, r.3)));
  }

  -- each node of M' has a request
  pub record Filled (v : View) : Type 0 where
    pub all : {k : ℕ} → In v.m k → (c : ℕ) × Known v.R k c

-- the view of a node that lacks no request
pub filled : (n : Node) (N : ℕ) (G : Start) → Good N G (view_of n) → is_inside n.round.merged (requesters n.round.known) ≡ true
    → Filled N G (view_of n)
filled n N G A e = record {
  all = λ h. in-known n.round.known _ A.tidy (inside-at n.round.merged (requesters n.round.known) _ e h);
}
