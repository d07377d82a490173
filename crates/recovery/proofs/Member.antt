-- A node in a calm epoch: what it has seen, until the last close, and after it.
-- Assumes nothing.
use mathlib.Core.Path.{◌≡◌, refl, sym, ap, ap₂, ◌∙◌, subst}
use mathlib.Core.Bool.{Bool, true, false, not, ◌||◌}
use mathlib.Core.Logic.{◌⊎◌, inl, inr}
use mathlib.Core.List.{List}
use Prim.Native.Nat.{ℕ, suc, ◌+◌, ◌-◌, ◌^◌, ◌≤◌, ◌<◌, min, max}
use native.Mathlib.Omega.{arith}
use borrow.Author.Tests.{eq-eqb, eqb-true, lt-ltb, le-leb, leb-true, not-true}
use lib.Dec.{eqb, leb}
use lib.Bits.{bit_or, or_self}
use lib.Pow.{pow_mono}
use lib.ListN.{get_or}
use Rattle.words.specs.Bits.{has_bit, with_bit, digit, is_inside}
use Rattle.words.proofs.Tests.{met?, clash, hit, skip, same_or_not, is_false, both, or-front, or-back, or_cases}
use Rattle.lists.specs.All.{tab}
use Rattle.lists.proofs.Laws.{get_d-tab}
use Rattle.allotment.specs.Allotment.{top_request, next}
use Rattle.allotment.specs.Model.{Schedule}
use Rattle.allotment.proofs.Laws.{same-asks}
use Rattle.membership.specs.requests.Requests.{none, requesters, only, union}
use Rattle.membership.proofs.requests.Laws.{requesters-has, requesters-lt, only-own, only-other, union-first, union-second}
use Rattle.node.specs.Figures.{top_version, is_last, is_waiting, negotiates, sending}
use Rattle.node.specs.Negotiation.{packet_of, merges, heard_node}
use Rattle.node.specs.Close.{complete, level, repeats, new_schedule, counts_by, updated_by, determined_by, due, closed_node}
use Rattle.range.specs.Range.{in_range}
use Rattle.node.specs.End.{expires, ended_node}
use Rattle.membership.specs.counters.Counters.{members_of}
use Rattle.node.specs.Steps.{wanted_node}
use Rattle.node.specs.declared.Setup.{Setup}
use Rattle.node.specs.Model.{Node}
use Rattle.node.specs.declared.Packet.{Packet}
use Rattle.node.proofs.Verdicts.{incomplete-determines, level-repeats, determines-if, level-if}
use Rattle.membership.proofs.counters.Laws.{members-has, members-lt}
use Rattle.node.proofs.Laws.{hears, closes-so, count_kept, ends, wants}
use Rattle.node.proofs.Majority.{complete-informed}
use Rattle.node.proofs.Made.{JustOpened, tells}
use Rattle.node.proofs.Tested.{merges-if, due-if, due-early, marks, marks-not, marked-stays, new_by}
use Rattle.node.proofs.Ended.{end-talks, end-opened, end-keeps, end-flags}
use Rattle.range.proofs.Laws.{count-heard}
use Rattle.site.specs.Members.{setup_of}
use Rattle.node.specs.declared.Config.{Config}
use Rattle.histories.proofs.Tests.{either}
use Rattle.histories.proofs.Sets.{In, in?, in-or, in-or-l, in-or-r, in-lt, in-none, in-with, same_set, inside-if, inside-at}

-- what the members are enough for: one of them that lacks nothing is complete, and one that has met them all keeps its schedule. That more
-- than half are enough is in Majority.antt
pub record Enough (f : Config) (L : ℕ) : Type 0 where
  pub decides : (i : ℕ) (n : Node) → In L i → n.setup ≡ setup_of f (suc i) → n.round.merged ≡ L
      → is_inside n.round.merged (requesters n.round.known) ≡ true → complete n ≡ true
  pub lasts : (i : ℕ) (n : Node) → In L i → n.setup ≡ setup_of f (suc i) → n.epoch.interactions < 2 ^ f.nodes
      → ((k : ℕ) → In L k → In n.epoch.interactions k ⊎ (k ≡ i)) → expires n ≡ false

-- the epoch: its figures, members, version, schedule and requests
module _ (f : Config) (L v : ℕ) (S : Schedule) (q : ℕ → ℕ) where
  -- what the members determine
  abbrev pub fresh : Schedule
  fresh = next S L (tab 32 q) f.nodes f.slots

  -- what the node at an index, or its packet, has gathered in a round
  pub record Seen (who m : ℕ) (R : List ℕ) (lo hi : ℕ) : Type 0 where
    pub set : m ≡ L
    pub low : lo ≡ v
    pub high : hi ≡ v
    pub each : (k : ℕ) → k < 32 → (get_or R k 0 ≡ none) ⊎ (get_or R k 0 ≡ q k)
    pub own : get_or R who 0 ≡ q who
    pub of : (k : ℕ) → k < 32 → (get_or R k 0 ≡ none → ⊥) → In L k

  abbrev pub SeenBy : ℕ → Node → Type 0
  SeenBy i n = Seen i n.round.merged n.round.known n.round.lowest n.round.highest

  pub record SeenIn (p : Packet) : Type 0 where
    pub from : 1 ≤ p.sender
    pub member : In L (p.sender - 1)
    pub seen : Seen (p.sender - 1) p.flags p.requests p.lowest p.highest

  -- a member until the last close, by the phase, whom it has heard in this round, and how many rounds were full
  pub record Still (neg : Bool) (ear full : ℕ) (i : ℕ) (n : Node) : Type 0 where
    pub setup : n.setup ≡ setup_of f (suc i)
    pub flags : n.flags ≡ L
    pub version : n.version ≡ v
    pub schedule : n.schedule ≡ S
    pub request : n.request ≡ q i
    pub phase : negotiates n.phase ≡ neg
    pub silent : sending n.phase ≡ false
    pub mark : n.epoch.updated ≡ true → n.epoch.determined ≡ fresh
    pub done : 0 < full → n.epoch.updated ≡ true
    pub interactions : 0 < full → (k : ℕ) → In L k → In n.epoch.interactions k ⊎ (k ≡ i)
    pub seen : neg ≡ true → SeenBy i n
    pub heard : neg ≡ true → (k : ℕ) → k < 32 → In ear k → (get_or n.round.known k 0 ≡ q k) × In n.epoch.interactions k
        × In n.round.heard k
    pub only : neg ≡ true → (k : ℕ) → In n.round.heard k → In L k
    pub often : (k : ℕ) → In L k → (full ≤ get_or n.epoch.counters k 0) ⊎ (k ≡ i)
    pub other : (k : ℕ) → k < 32 → (In L k → ⊥) → get_or n.epoch.counters k 0 ≡ 0

  -- and after it
  pub record Sent (full : ℕ) (i : ℕ) (n : Node) : Type 0 where
    pub setup : n.setup ≡ setup_of f (suc i)
    pub version : n.version ≡ suc v
    pub schedule : n.schedule ≡ fresh
    pub phase : negotiates n.phase ≡ false
    pub sends : sending n.phase ≡ true
    pub interactions : (k : ℕ) → In L k → In n.epoch.interactions k ⊎ (k ≡ i)
    pub often : (k : ℕ) → In L k → (full ≤ get_or n.epoch.counters k 0) ⊎ (k ≡ i)
    pub other : (k : ℕ) → k < 32 → (In L k → ⊥) → get_or n.epoch.counters k 0 ≡ 0

  -- the same, said of equal things
  seen_as : {i j a b : ℕ} {R U : List ℕ} {lo lo' hi hi' : ℕ} → i ≡ j → a ≡ b → R ≡ U → lo ≡ lo' → hi ≡ hi' → Seen j b U lo' hi'
      → Seen i a R lo hi
  seen_as e w x y z B = rw (e, w, x, y, z) B

  module _ (small : f.nodes ≤ 32) (fits : L < 2 ^ f.nodes) (enough : Enough f L) (below : v < top_version)
      (asks : (k : ℕ) → In L k → q k ≤ top_request) where
    -- a member's index
    pub index-lt : (i : ℕ) → In L i → i < 32
    index-lt i h = omega (arith, in-lt f.nodes L i fits h, small)

    wide : L < 2 ^ 32
    wide = let p : 2 ^ f.nodes ≤ 2 ^ 32 = pow_mono small in omega arith

    -- a round that was just opened
    pub seen-open : (i : ℕ) (n : Node) → In L i → n.setup.node ≡ suc i → n.version ≡ v → n.flags ≡ L → n.request ≡ q i → JustOpened n
        → SeenBy i n
    seen-open i n h a b c d o = record {
      set = o.merged ∙ c;
      low = o.lowest ∙ b;
      high = o.highest ∙ b;
      each = λ k l. same_or_not k i
          (λ e. inr (entry k ∙ only-own n.setup.node n.request k l (omega arith) ∙ d ∙ ap q (sym e)))
          (λ e. inl (entry k ∙ only-other n.setup.node n.request k l (λ z. e (omega arith))));
      own = entry i ∙ only-own n.setup.node n.request i (index-lt i h) (omega arith) ∙ d;
      of = λ k l x. same_or_not k i (λ e. rw e h) (λ e. absurd (x (entry k
          ∙ only-other n.setup.node n.request k l (λ z. e (omega arith)))));
    }
      where
        entry : (k : ℕ) → get_or n.round.known k 0 ≡ get_or (only n.setup.node n.request) k 0
        entry k = ap (λ (R : List ℕ). get_or R k 0) o.known

    -- two together
    pub seen-union : (i : ℕ) → In L i → (a b : ℕ) (R U : List ℕ) (lo hi lo' hi' : ℕ) → Seen i a R lo hi → (j : ℕ) → Seen j b U lo' hi'
        → Seen i (bit_or a b) (union R U) (min lo lo') (max hi hi')
    seen-union i h a b R U lo hi lo' hi' A j B = record {
      set = ap₂ bit_or A.set B.set ∙ or_self L;
      low = omega (arith, A.low, B.low);
      high = omega (arith, A.high, B.high);
      each = λ k l. same_or_not (get_or R k 0) none
          (λ e. either (B.each k l) (λ y. inl (union-second R U k l e ∙ y)) (λ y. inr (union-second R U k l e ∙ y)))
          (λ e. either (A.each k l) (λ y. absurd (e y)) (λ y. inr (union-first R U k l e ∙ y)));
      own = union-first R U i (index-lt i h) (λ e. omega (arith, A.own, asks i h)) ∙ A.own;
      of = λ k l x. same_or_not (get_or R k 0) none (λ e. B.of k l (λ y. x (union-second R U k l e ∙ y))) (λ e. A.of k l e);
    }

    -- Hearing

    -- a packet of a member is merged by a member
    merging : (i : ℕ) (n : Node) (p : Packet) → In L i → n.setup ≡ setup_of f (suc i) → SeenBy i n → SeenIn p → merges n p ≡ true
    merging i n p h e A B =
        let node : n.setup.node ≡ suc i = ap (λ (s : Setup). s.node) e in
        let z : n.setup.node - 1 ≡ i = omega arith in
        let x : has_bit n.round.merged (p.sender - 1) ≡ true = ap (λ (w : ℕ). has_bit w (p.sender - 1)) A.set ∙ B.member.is in
        let y : has_bit p.flags (n.setup.node - 1) ≡ true = ap₂ has_bit B.seen.set z ∙ h.is in
        merges-if n p (both (lt-ltb 0 p.sender B.from) x) (both (lt-ltb 0 n.setup.node (omega arith)) y)

    -- the sender is known then, and met
    told : (p : Packet) → SeenIn p → In (requesters p.requests) (p.sender - 1)
    told p B =
        let l = index-lt (p.sender - 1) B.member in
        record { is = requesters-has p.requests (p.sender - 1) l ∙ ap not (go (eqb (get_or p.requests (p.sender - 1) 0) none) refl) }
      where
        go : (t : Bool) → eqb (get_or p.requests (p.sender - 1) 0) none ≡ t → t ≡ false
        go true e = absurd (omega (
          arith,
          eqb-true (get_or p.requests (p.sender - 1) 0) none e,
          B.seen.own,
          asks (p.sender - 1)
              B.member,
        ))
        go false e = refl

    pub still-hear : (i : ℕ) (n : Node) (p : Packet) (ear full : ℕ) → In L i → Still true ear full i n → SeenIn p
        → Still true (with_bit ear (p.sender - 1)) full i (heard_node n p)
    still-hear i n p ear full h A B =
        let l = index-lt (p.sender - 1) B.member in
        let W = A.seen refl in
        let c = hears n p in
        let t = merging i n p h A.setup W B in
        let merged = c.merged ∙ hit (merges n p) _ _ t in
        let known = c.known ∙ hit (merges n p) _ _ t in
        let interactions = c.interactions ∙ hit (merges n p) _ _ t in
        record {
          setup = c.setup ∙ A.setup;
          flags = c.flags ∙ A.flags;
          version = c.version ∙ A.version;
          schedule = c.schedule ∙ A.schedule;
          request = c.request ∙ A.request;
          phase = ap negotiates c.phase ∙ A.phase;
          silent = ap sending c.phase ∙ A.silent;
          mark = λ u. c.determined ∙ A.mark (sym c.updated ∙ u);
          done = λ u. c.updated ∙ A.done u;
          interactions = λ u k m. either (A.interactions u k m)
              (λ x. inl (rw interactions (in-or-l n.epoch.interactions (requesters p.requests) x))) inr;
          seen = λ _. seen_as refl merged known (c.lowest ∙ hit (merges n p) _ _ t) (c.highest ∙ hit (merges n p) _ _ t)
              (seen-union i h n.round.merged p.flags n.round.known p.requests n.round.lowest n.round.highest
              p.lowest p.highest W (p.sender - 1) B.seen);
          heard = λ _ k b e. either (in-with ear (p.sender - 1) k l b e)
              (λ x. let y = A.heard refl k b x in (
                ap (λ (Z : List ℕ). get_or Z k 0) known
                    ∙ known-first k b y.0,
                rw interactions (in-or-l n.epoch.interactions (requesters p.requests) y.1),
                rw c.heard
                    (in-or-l n.round.heard (requesters p.requests) y.2),
              ))
              (λ z. rw z (
                ap (λ (Z : List ℕ). get_or Z (p.sender - 1) 0) known
                    ∙ known-new,
                rw interactions (in-or-r n.epoch.interactions (requesters p.requests) (told p B)),
                rw c.heard
                    (in-or-r n.round.heard (requesters p.requests) (told p B)),
              ));
          only = λ _ k x. either (in-or n.round.heard (requesters p.requests) (rw c.heard at x)) (λ y. A.only refl k y)
              (λ y. from-members k y);
          often = λ k m. rw c.counters (A.often k m);
          other = λ k b x. ap (λ (Z : List ℕ). get_or Z k 0) c.counters ∙ A.other k b x;
        }
      where
        R : List ℕ
        R = n.round.known

        -- a packet has requests of members alone
        from-members : (k : ℕ) → In (requesters p.requests) k → In L k
        from-members k y =
            let l = in-lt 32 (requesters p.requests) k (requesters-lt p.requests) y in
            B.seen.of k l (λ z. clash (eqb (get_or p.requests k 0) none) (eq-eqb (get_or p.requests k 0) none z)
            (not-true _ (sym (requesters-has p.requests k l) ∙ y.is)))

        U : List ℕ
        U = p.requests

        known-first : (k : ℕ) → k < 32 → get_or R k 0 ≡ q k → get_or (union R U) k 0 ≡ q k
        known-first k b e = same_or_not (get_or R k 0) none
            (λ z. either ((A.seen refl).each k b) (λ y. either (B.seen.each k b) (λ u. union-second R U k b z ∙ u ∙ sym z ∙ e)
            (λ u. union-second R U k b z ∙ u)) (λ y. either (B.seen.each k b) (λ u. union-second R U k b z ∙ u ∙ sym z ∙ e)
            (λ u. union-second R U k b z ∙ u)))
            (λ z. union-first R U k b z ∙ e)

        known-new : get_or (union R U) (p.sender - 1) 0 ≡ q (p.sender - 1)
        known-new =
            let l = index-lt (p.sender - 1) B.member in
            same_or_not (get_or R (p.sender - 1) 0) none
            (λ z. union-second R U (p.sender - 1) l z ∙ B.seen.own)
            (λ z. either ((A.seen refl).each (p.sender - 1) l) (λ y. absurd (z y)) (λ y. union-first R U (p.sender - 1) l z ∙ y))

    -- Sending
    pub seen-packet : (i : ℕ) (n : Node) → In L i → n.setup ≡ setup_of f (suc i) → SeenBy i n → SeenIn (packet_of n)
    seen-packet i n h e A =
        let t = tells n in
        let node : n.setup.node ≡ suc i = ap (λ (s : Setup). s.node) e in
        let z : (packet_of n).sender - 1 ≡ i = omega (arith, t.sender) in
        record { from = omega (arith, t.sender); member = rw z h; seen = seen_as z t.flags t.requests t.lowest t.highest A }

    -- Closing
    module _ (i : ℕ) (n : Node) (ear full : ℕ) (h : In L i) (A : Still true ear full i n) where
      W : SeenBy i n
      W = A.seen refl

      flat : level n ≡ true
      flat = level-if n (W.low ∙ sym W.high)

      under : n.version < top_version
      under = omega (arith, A.version, below)

      -- whoever knows all members is complete
      all-complete : ((k : ℕ) → In L k → get_or n.round.known k 0 ≡ q k) → complete n ≡ true
      all-complete g = enough.decides i n h A.setup W.set
          (ap (λ (w : ℕ). is_inside w (requesters n.round.known)) W.set
          ∙ inside-if L (requesters n.round.known) wide (requesters-lt n.round.known) known)
        where
          known : (k : ℕ) → In L k → In (requesters n.round.known) k
          known k m = record {
            is = requesters-has n.round.known k (index-lt k m) ∙ ap not
                (is_false (eqb (get_or n.round.known k 0) none) (λ e. omega
                (arith, eqb-true (get_or n.round.known k 0) none e, g k m, asks k m)));
          }

      -- and only they
      complete-all : complete n ≡ true → (k : ℕ) → In L k → get_or n.round.known k 0 ≡ q k
      complete-all e k m =
          let l = index-lt k m in
          let x : is_inside L (requesters n.round.known) ≡ true = sym
          (ap (λ (w : ℕ). is_inside w (requesters n.round.known)) W.set) ∙ complete-informed n e in
          let y = inside-at L (requesters n.round.known) k x m in
          either (W.each k l) (λ z. clash (eqb (get_or n.round.known k 0) none) (eq-eqb (get_or n.round.known k 0) none z)
          (not-true _ (sym (requesters-has n.round.known k l) ∙ y.is))) (λ z. z)

      new_is : complete n ≡ true → new_schedule n ≡ fresh
      new_is e =
          new_by n A.schedule W.set (ap (λ (s : Setup). s.config.nodes) A.setup)
          (ap (λ (s : Setup). s.config.slots) A.setup)
          ∙ same-asks S L n.round.known (tab 32 q) f.nodes f.slots (λ k l m. complete-all e k (record {
            is = m;
          }) ∙ sym (get_d-tab 0 32 q k (omega (arith, small))))

      mark-by : updated_by n ≡ true → determined_by n ≡ fresh
      mark-by u = either (met? (complete n))
          (λ e. (marks n (determines-if n e flat under)).1 ∙ new_is e)
          (λ e. let d = marks-not n (incomplete-determines n e) in d.1 ∙ A.mark (sym d.0 ∙ u))

      module _ (all : Bool) (g : all ≡ true → (k : ℕ) → In L k → In ear k ⊎ (k ≡ i)) where
        -- a round was full: an earlier one, or this one
        which : 0 < full + digit all → (0 < full) ⊎ (all ≡ true)
        which t = either (met? all) inr (λ e. inl (let x : 0 < full + 0 = subst (λ (b : Bool). 0 < full + digit b) e t in omega arith))

        done-by : 0 < full + digit all → updated_by n ≡ true
        done-by t = either (which t)
            (λ x. marked-stays n (A.done x))
            (λ x. (marks n (determines-if n (all-complete (λ k m. either (g x k m) (λ y. (A.heard refl k (index-lt k m) y).0)
            (λ y. rw y W.own))) flat under)).0)

        met_by : 0 < full + digit all → (k : ℕ) → In L k → In n.epoch.interactions k ⊎ (k ≡ i)
        met_by t k m = either (which t) (λ x. A.interactions x k m)
            (λ x. either (g x k m) (λ y. inl (A.heard refl k (index-lt k m) y).1) inr)

        module _ (good : in_range n ≡ true) where
          grows : (k : ℕ) → k < 32 → get_or n.epoch.counters k 0 ≤ get_or (counts_by n) k 0
          grows k l = either (met? (has_bit n.round.heard k)) (λ e. omega (arith, count-heard n k good A.phase l e))
              (λ e. omega (arith, count_kept n k l e))

          -- each other member counts the full rounds, and who is no member counts nothing
          often-by : (k : ℕ) → In L k → (full + digit all ≤ get_or (counts_by n) k 0) ⊎ (k ≡ i)
          often-by k m = either (A.often k m) (λ o. counters o (met? all)) inr
            where
              counters : full ≤ get_or n.epoch.counters k 0 → (all ≡ true) ⊎ (all ≡ false)
                  → (full + digit all ≤ get_or (counts_by n) k 0) ⊎ (k ≡ i)
              counters o (inl e) = either (g e k m) (λ y. inl (rw e (omega (
                arith,
                o,
                count-heard n k good A.phase (index-lt k m)
                    (A.heard refl k (index-lt k m) y).2.is,
              )))) inr
              counters o (inr e) = inl (rw e (omega (arith, o, grows k (index-lt k m))))

          other-by : (k : ℕ) → k < 32 → (In L k → ⊥) → get_or (counts_by n) k 0 ≡ 0
          other-by k l x = count_kept n k l (is_false (has_bit n.round.heard k) (λ e. x (A.only refl k (record {
            is = e;
          })))) ∙ A.other k l x

        pub still-close : in_range n ≡ true → is_last n.setup.config n.epoch.place ≡ false
            → Still false ear (full + digit all) i (closed_node n)
        still-close good l =
            let c = closes-so n in
            let d = due-early n l in
            let quiet : (due n || repeats n) ≡ false = ap₂ ◌||◌ d (level-repeats n flat) in
            record {
              setup = c.setup ∙ A.setup;
              flags = c.flags ∙ A.flags;
              version = c.version ∙ skip (due n) _ _ _ d A.version;
              schedule = c.schedule ∙ skip (due n) _ _ _ d A.schedule;
              request = c.request ∙ skip (due n) _ _ _ d A.request;
              phase = ap negotiates c.phase;
              silent = ap sending c.phase ∙ quiet;
              mark = λ t. c.determined ∙ skip (due n) _ _ _ d (mark-by (sym (c.updated ∙ skip (due n) _ _ _ d refl) ∙ t));
              done = λ t. c.updated ∙ skip (due n) _ _ _ d (done-by t);
              interactions = λ t k m. rw c.interactions (met_by t k m);
              seen = λ t. clash false t refl;
              heard = λ t. clash false t refl;
              only = λ t. clash false t refl;
              often = λ k m. rw c.counters (often-by good k m);
              other = λ k b x. ap (λ (z : List ℕ). get_or z k 0) c.counters ∙ other-by good k b x;
            }

        pub sent-close : in_range n ≡ true → is_last n.setup.config n.epoch.place ≡ true → 0 < full + digit all
            → Sent (full + digit all) i (closed_node n)
        sent-close good l t =
            let c = closes-so n in
            let u = done-by t in
            let d = due-if n l u in
            record {
              setup = c.setup ∙ A.setup;
              version = c.version ∙ hit (due n) _ _ d ∙ (omega (arith, A.version, below));
              schedule = c.schedule ∙ hit (due n) _ _ d ∙ mark-by u;
              phase = ap negotiates c.phase;
              sends = ap sending c.phase ∙ ap (λ (x : Bool). x || repeats n) d;
              interactions = λ k m. rw c.interactions (met_by t k m);
              often = λ k m. rw c.counters (often-by good k m);
              other = λ k b x. ap (λ (z : List ℕ). get_or z k 0) c.counters ∙ other-by good k b x;
            }

    -- The next round
    pub still-round : (i : ℕ) (n : Node) (ear full : ℕ) → In L i → is_waiting n.phase ≡ false
        → is_last n.setup.config n.epoch.place ≡ false → Still false ear full i n → Still true 0 full i (ended_node n)
    still-round i n ear full h w l A =
        let c = ends n l in
        let p = end-talks n w in
        let o = end-opened n (ap is_waiting p) in
        let setup = c.setup ∙ A.setup in
        record {
          setup = setup;
          flags = c.flags ∙ A.flags;
          version = c.version ∙ A.version;
          schedule = c.schedule ∙ A.schedule;
          request = c.request ∙ A.request;
          phase = ap negotiates p;
          silent = ap sending p;
          mark = λ t. c.determined ∙ A.mark (sym c.updated ∙ t);
          done = λ t. c.updated ∙ A.done t;
          interactions = λ t k m. rw c.interactions (A.interactions t k m);
          seen = λ t. seen-open i (ended_node n) h (ap (λ (s : Setup). s.node) setup) (c.version ∙ A.version) (c.flags ∙ A.flags)
              (c.request ∙ A.request) o;
          heard = λ t k b e. absurd (in-none k e);
          only = λ t k e. absurd (in-none k (rw o.heard at e));
          often = λ k m. rw c.counters (A.often k m);
          other = λ k b x. ap (λ (Z : List ℕ). get_or Z k 0) c.counters ∙ A.other k b x;
        }

    -- Another demand
    pub still-want : (i : ℕ) (n : Node) (neg : Bool) (ear full : ℕ) (d : ℕ) → Still neg ear full i n → Still neg ear full i (wanted_node n d)
    still-want i n neg ear full d A =
        let c = wants n d in
        record {
          setup = c.setup ∙ A.setup;
          flags = c.flags ∙ A.flags;
          version = c.version ∙ A.version;
          schedule = c.schedule ∙ A.schedule;
          request = c.request ∙ A.request;
          phase = ap negotiates c.phase ∙ A.phase;
          silent = ap sending c.phase ∙ A.silent;
          mark = rw c.epoch A.mark;
          done = rw c.epoch A.done;
          interactions = rw c.epoch A.interactions;
          seen = λ t. let e = c.round in seen_as refl (λ j. (e j).merged) (λ j. (e j).known) (λ j. (e j).lowest) (λ j. (e j).highest)
              (A.seen t);
          heard = rw (c.epoch, c.round) A.heard;
          only = rw c.round A.only;
          often = rw c.epoch A.often;
          other = rw c.epoch A.other;
        }

    pub sent-want : (i : ℕ) (n : Node) (full d : ℕ) → Sent full i n → Sent full i (wanted_node n d)
    sent-want i n full d A =
        let c = wants n d in
        record {
          setup = c.setup ∙ A.setup;
          version = c.version ∙ A.version;
          schedule = c.schedule ∙ A.schedule;
          phase = ap negotiates c.phase ∙ A.phase;
          sends = ap sending c.phase ∙ A.sends;
          interactions = rw c.epoch A.interactions;
          often = rw c.epoch A.often;
          other = rw c.epoch A.other;
        }

    -- The epoch's last end: no member expires
    module _ (i : ℕ) (n : Node) (full : ℕ) (h : In L i) (w : is_waiting n.phase ≡ false)
        (last : is_last n.setup.config n.epoch.place ≡ true) (A : Sent full i n) where
      pub keeps : n.epoch.interactions < 2 ^ f.nodes → ((ended_node n).version ≡ suc v) × ((ended_node n).schedule ≡ fresh)
      keeps m = let k = end-keeps n last w (enough.lasts i n h A.setup m A.interactions) in (k.0 ∙ A.version, k.1 ∙ A.schedule)

      -- and with as many full rounds as a node must be heard in, its flags are the members again
      pub flags-again : 1 ≤ f.min_heard → f.min_heard ≤ full → (ended_node n).flags ≡ L
      flags-again some heard-enough = end-flags n last w ∙ same_set 32 flags L
          (members-lt n.epoch.counters n.setup.node n.setup.config.min_heard) wide inner outer
        where
          flags : ℕ
          flags = members_of n.epoch.counters n.setup.node n.setup.config.min_heard

          node : n.setup.node ≡ suc i
          node = ap (λ (s : Setup). s.node) A.setup

          heard : n.setup.config.min_heard ≡ f.min_heard
          heard = ap (λ (s : Setup). s.config.min_heard) A.setup

          has : (k : ℕ) → k < 32 → has_bit flags k ≡ (leb n.setup.config.min_heard (get_or n.epoch.counters k 0)
              || eqb (k + 1) n.setup.node)
          has k l = members-has n.epoch.counters n.setup.node n.setup.config.min_heard k l

          inner : (k : ℕ) → In flags k → In L k
          inner k x =
              let l = in-lt 32 flags k (members-lt n.epoch.counters n.setup.node n.setup.config.min_heard) x in
              either (in? L k) (λ y. y)
              (λ y. absurd (either (or_cases (leb n.setup.config.min_heard (get_or n.epoch.counters k 0))
              (eqb (k + 1) n.setup.node)
              (sym (has k l) ∙ x.is))
              (λ e. omega (arith, leb-true n.setup.config.min_heard (get_or n.epoch.counters k 0) e, A.other k l y, heard, some))
              (λ e. let z : k ≡ i = omega (arith, eqb-true (k + 1) n.setup.node e, node) in y (rw z h))))

          outer : (k : ℕ) → In L k → In flags k
          outer k m =
              let l = index-lt k m in
              record {
                is = has k l ∙ either (A.often k m)
                    (λ o. or-front _ (eqb (k + 1) n.setup.node) (le-leb n.setup.config.min_heard (get_or n.epoch.counters k 0)
                    (omega (arith, o, heard, heard-enough))))
                    (λ e. or-back (leb n.setup.config.min_heard (get_or n.epoch.counters k 0)) _
                    (eq-eqb (k + 1) n.setup.node (omega (arith, e, node))));
              }
