-- What the steps of a node within the ranges come to, and what it sends.
-- Assumes nothing.
use mathlib.Core.Path.{◌≡◌, refl, sym, ap, ap₂, ◌∙◌, subst}
use mathlib.Core.Bool.{Bool, true, false, cond, ◌||◌}
use Prim.Native.Nat.{ℕ, ◌+◌, ◌≤◌, ◌<◌}
use native.Mathlib.Omega.{arith}
use borrow.Author.Tests.{lt-ltb, ne_eqb}
use lib.Dec.{eqb, ltb}
use lib.ListN.{length, get_or}
use Rattle.words.specs.Bits.{has_bit, is_in}
use Rattle.words.proofs.Tests.{clash, same_or_not, hit, skip}
use Rattle.words.proofs.Laws.{inside-in}
use Rattle.lists.specs.All.{bounded}
use Rattle.lists.proofs.Bounded.{bounded_at, bounded-over}
use Rattle.allotment.specs.Allotment.{top_request, owners_of, free}
use Rattle.allotment.proofs.Schedules.{owner_at, free-is}
use Rattle.allotment.specs.Model.{Schedule}
use Rattle.membership.specs.requests.Requests.{none, entry_of}
use Rattle.node.specs.Figures.{top_version, successor, negotiates, sending}
use Rattle.node.specs.Negotiation.{packet_of}
use Rattle.node.specs.Close.{level, repeats, counts_by, due, closed_node}
use Rattle.membership.specs.counters.Counters.{plus}
use Rattle.node.specs.Distribution.{sent_by}
use Rattle.range.specs.Range.{schedule_ok, in_range}
use Rattle.node.specs.declared.Setup.{Setup}
use Rattle.node.specs.Model.{Node}
use Rattle.node.specs.declared.Packet.{Packet}
use Rattle.range.proofs.Ranges.{ranges, at-negotiation, counts-negotiating}
use Rattle.range.proofs.Keeps.{PacketRanges, marked_by}
use Rattle.membership.proofs.counters.Laws.{get_d-counted}
use Rattle.node.proofs.Laws.{closes-so, due-updated}
use Rattle.node.proofs.Verdicts.{repeats-tests, level-if}
use Rattle.node.proofs.Made.{tells, carries, packet-so}
use Rattle.range.proofs.Lengths.{Lengths}

-- Requests and schedules

-- all slots are free at version 0, and a determined schedule is kept only with the mark
pub zero-free : (n : Node) → in_range n ≡ true → Lengths n → n.version ≡ 0 → n.schedule ≡ free
zero-free n h l e =
    free-is n.schedule l.schedule
    (λ k. owner_at n.schedule k ∙ bounded-over (owners_of n.schedule) 0 n.setup.config.nodes
    (ap (λ (v : ℕ). schedule_ok n.schedule (ltb 0 v) n.setup) (sym e) ∙ (ranges n h).schedule) k (omega arith))

-- where one is due it is the next, and the request is the demand
pub due-version : (n : Node) → in_range n ≡ true → due n ≡ true → (closed_node n).version ≡ n.version + 1
due-version n h t =
    (closes-so n).version ∙ hit (due n) _ _ t
    ∙ omega (arith, marked_by n (ranges n h) (due-updated n t))

pub due-request : (n : Node) → in_range n ≡ true → due n ≡ true → (closed_node n).request ≡ n.demand
due-request n h t =
    let m = marked_by n (ranges n h) (due-updated n t) in
    (closes-so n).request ∙ hit (due n) _ _ t ∙ skip _ _ _ _ (ne_eqb n.version (successor n.version) (λ e. omega (arith, m))) refl

-- version 0 is never sent: a node at 0 repeats only beside a higher version, and that is not its own
pub sends-above : (n : Node) → in_range n ≡ true → negotiates n.phase ≡ true → sending (closed_node n).phase ≡ true
    → 0 < (closed_node n).version
sends-above n h p y = go (due n) refl
  where
    sends : (due n || repeats n) ≡ true
    sends = sym (ap sending (closes-so n).phase) ∙ y

    go : (t : Bool) → due n ≡ t → 0 < (closed_node n).version
    go true e = omega (arith, due-version n h e)
    go false e =
        let o = at-negotiation n (ranges n h) p in
        let t = repeats-tests n (sym (ap (λ (b : Bool). b || repeats n) e) ∙ sends) in
        same_or_not n.version 0
        (λ z. clash (level n) (level-if n (omega (arith, o.low, t.2))) t.1)
        (λ z. omega (arith, z, (closes-so n).version ∙ skip (due n) _ _ _ e refl))

-- C_e: a node that was heard counts one more, any other as before
pub count-heard : (n : Node) (i : ℕ) → in_range n ≡ true → negotiates n.phase ≡ true → i < 32 → has_bit n.round.heard i ≡ true
    → get_or (counts_by n) i 0 ≡ get_or n.epoch.counters i 0 + 1
count-heard n i h p l b =
    let r = ranges n h in
    let c : get_or n.epoch.counters i 0 ≤ n.epoch.place = bounded_at n.epoch.counters n.setup.config.nodes n.epoch.place
    (counts-negotiating n r p) i in
    let k : get_or n.epoch.counters i 0 < 255 = omega (arith, r.epoch.place, r.setting.bounds.rounds-to) in
    get_d-counted n.epoch.counters n.round.heard i l ∙ ap (plus (get_or n.epoch.counters i 0)) b ∙ hit _ _ _ (lt-ltb _ _ k)

-- what a node of the same site sends can be taken
pub sent-version : (n : Node) → in_range n ≡ true → (sent_by n).version ≤ top_version
sent-version n h = subst (λ (v : ℕ). v ≤ top_version) (sym (carries n).version) (ranges n h).version

pub sent-schedule : (n : Node) (s : Setup) → in_range n ≡ true → s.config.nodes ≡ n.setup.config.nodes
    → s.config.slots ≡ n.setup.config.slots
    → schedule_ok (sent_by n).schedule (ltb 0 (sent_by n).version) s ≡ true
sent-schedule n s h a b = ap₂ (λ (S : Schedule) (v : ℕ). schedule_ok S (ltb 0 v) s) (carries n).schedule (carries n).version
    ∙ ap₂ (λ (N K : ℕ). bounded (owners_of n.schedule) (cond (ltb 0 n.version) K 0) N) a b ∙ (ranges n h).schedule

-- Packets

-- what the layout asks of a packet in a site of N nodes: a sender up to N with its flag and its request, besides what the ranges ask
pub record Lawful (q : Packet) (N : ℕ) : Type 0 where
  pub sender-to : q.sender ≤ N
  pub flag : is_in q.flags q.sender ≡ true
  pub request : entry_of q.requests q.sender ≤ top_request
  pub asked : eqb (entry_of q.requests q.sender) none ≡ false
  pub sound : PacketRanges q N

pub packet-lawful : (n : Node) → in_range n ≡ true → negotiates n.phase ≡ true → Lawful (packet_of n) n.setup.config.nodes
packet-lawful n h p =
    subst (λ (q : Packet). Lawful q n.setup.config.nodes) (sym (packet-so n))
    (let r = ranges n h in
    let o = at-negotiation n r p in
    let e : entry_of n.round.known n.setup.node ≡ n.request = o.own in
    record {
      sender-to = r.setting.node-to;
      flag = inside-in n.flags n.round.merged n.setup.node o.inside r.own;
      request = omega (arith, r.request);
      asked = ne_eqb (entry_of n.round.known n.setup.node) none (λ z. omega (arith, r.request));
      sound = record { low = omega (arith, o.low, o.high); high = o.top; flags = o.merged; asked = o.asked };
    })

pub packet-long : (n : Node) → Lengths n → length (packet_of n).requests ≡ 32
packet-long n l = ap length (tells n).requests ∙ l.known
