-- What a node's tests say of it, and when they are met: merging, the new version that is due, the mark; and the answers of a hearing, a
-- send, a take and a restart.
-- Assumes nothing.
use mathlib.Core.Path.{◌≡◌, refl, sym, ap, ap₂, ◌∙◌}
use mathlib.Core.Bool.{Bool, true, false, not, cond, ◌&&◌, ◌||◌, and-false}
use Prim.Native.Nat.{ℕ, ◌≤◌, ◌<◌}
use borrow.Author.Tests.{le-leb, leb-true, lt-ltb, ltb-true}
use lib.Dec.{eqb, leb, ltb}
use Rattle.words.specs.Bits.{is_in}
use Rattle.words.proofs.Tests.{never, hit, skip, and_left, and_right, both}
use Rattle.allotment.specs.Allotment.{top_request, next}
use Rattle.allotment.specs.Model.{Schedule}
use Rattle.membership.specs.requests.Requests.{agree}
use Rattle.node.specs.Figures.{config_ok, is_node, flags_ok, is_last, is_waiting, negotiates, distributes, sending}
use Rattle.node.specs.Negotiation.{merges, send_answer, hear_answer}
use Rattle.node.specs.Close.{determines, new_schedule, updated_by, determined_by, due}
use Rattle.node.specs.Distribution.{take_answer}
use Rattle.node.specs.Begin.{start_answer, restart_answer}
use Rattle.node.specs.declared.Setup.{Setup}
use Rattle.node.specs.Model.{Node}
use Rattle.node.specs.declared.Packet.{Packet}
use Rattle.node.specs.declared.Phase.{Phase}
use Rattle.node.specs.declared.Phase.TheVariants.{Waiting, Negotiation, Distribution}
use Rattle.node.specs.Answers.{Answer}
use Rattle.node.specs.Answers.{Done, OutOfRange, NoSuchNode, WrongPhase, OwnPacket, WrongSender, TwoRequests}
use Rattle.node.proofs.Answers.{test-met}

-- Hearing

-- a packet is merged where each of the two is in the other's set
pub merges-in : (n : Node) (q : Packet) → merges n q ≡ true → (is_in n.round.merged q.sender ≡ true)
    × (is_in q.flags n.setup.node ≡ true)
unfolding merges
merges-in n q e = (and_left _ _ e, and_right (is_in n.round.merged q.sender) _ e)

pub merges-if : (n : Node) (q : Packet) → is_in n.round.merged q.sender ≡ true → is_in q.flags n.setup.node ≡ true → merges n q
    ≡ true
unfolding merges
merges-if n q a b = both a b

-- where the requests agree, a node in negotiation answers 9 or 0
not-two : (m g : Bool) → g ≡ true → cond (m && not g) TwoRequests Done ≡ Done
not-two true g e = ap (λ (t : Bool). cond (not t) TwoRequests Done) e
not-two false g e = refl

pub hear-agreed : (n : Node) (q : Packet) → negotiates n.phase ≡ true → agree n.round.known q.requests ≡ true → hear_answer n q
    ≡ cond (eqb q.sender n.setup.node) OwnPacket Done
unfolding hear_answer
hear-agreed n q t g =
    hit (negotiates n.phase) _ WrongPhase t
    ∙ ap (λ (x : Answer). cond (eqb q.sender n.setup.node) OwnPacket x)
    (not-two (merges n q) (agree n.round.known q.requests) g)

-- a node in negotiation sends
pub send-done : (n : Node) → negotiates n.phase ≡ true → send_answer n ≡ Done
unfolding send_answer
send-done n t = hit (negotiates n.phase) Done WrongPhase t

-- Close

module _ (n : Node) where
  -- a new version is due in the last round with the mark, and not otherwise
  pub due-if : is_last n.setup.config n.epoch.place ≡ true → updated_by n ≡ true → due n ≡ true
  unfolding due
  due-if l u = ap₂ ◌&&◌ l u

  pub due-early : is_last n.setup.config n.epoch.place ≡ false → due n ≡ false
  unfolding due
  due-early l = ap (λ (t : Bool). t && updated_by n) l

  pub due-unmarked : updated_by n ≡ false → due n ≡ false
  unfolding due
  due-unmarked u = ap (λ (t : Bool). is_last n.setup.config n.epoch.place && t) u
      ∙ and-false (is_last n.setup.config n.epoch.place)

  -- a node that determines has the mark, with its new schedule; any other as it was
  pub marks : determines n ≡ true → (updated_by n ≡ true) × (determined_by n ≡ new_schedule n)
  marks d = (ap (λ (t : Bool). t || n.epoch.updated) d, hit (determines n) _ _ d)

  pub marks-not : determines n ≡ false → (updated_by n ≡ n.epoch.updated) × (determined_by n ≡ n.epoch.determined)
  marks-not d = (ap (λ (t : Bool). t || n.epoch.updated) d, skip (determines n) _ _ _ d refl)

  -- the mark stays
  pub marked-stays : n.epoch.updated ≡ true → updated_by n ≡ true
  marked-stays u = ap (λ (t : Bool). determines n || t) u ∙ or-true (determines n)
    where
      or-true : (a : Bool) → (a || true) ≡ true
      or-true true = refl
      or-true false = refl

  -- what a node determines, by its schedule and its M'
  pub new_by : {S : Schedule} {Q N K : ℕ} → n.schedule ≡ S → n.round.merged ≡ Q → n.setup.config.nodes ≡ N → n.setup.config.slots
      ≡ K → new_schedule n ≡ next S Q n.round.known N K
  new_by s q a b = λ i. next (s i) (q i) n.round.known (a i) (b i)

-- Distribution

-- a node that sends takes nothing
pub take-sends : (n : Node) → sending n.phase ≡ true → take_answer n ≡ WrongSender
unfolding take_answer
take-sends n e = go n.phase e
  where
    go : (p : Phase) → sending p ≡ true → cond (distributes p) (cond (sending p) WrongSender Done) WrongPhase ≡ WrongSender
    go Waiting e = never (sym e)
    go Negotiation e = never (sym e)
    go (Distribution x) e = ap (λ (t : Bool). cond t WrongSender Done) e

-- a node in distribution takes, unless it sends
pub take_in : (n : Node) → is_waiting n.phase ≡ false → negotiates n.phase ≡ false → take_answer n
    ≡ cond (sending n.phase) WrongSender Done
unfolding take_answer
take_in n = go n.phase
  where
    go : (p : Phase) → is_waiting p ≡ false → negotiates p ≡ false → cond (distributes p) (cond (sending p) WrongSender Done) WrongPhase
        ≡ cond (sending p) WrongSender Done
    go Waiting w t = never w
    go Negotiation w t = never t
    go (Distribution b) w t = refl

-- Beginnings

-- what a beginning is asked, test by test
pub record Starts (s : Setup) (v m d : ℕ) : Type 0 where
  pub config : config_ok s.config ≡ true
  pub version : v ≤ 1
  pub demand : d ≤ top_request
  pub flags : flags_ok s m ≡ true
  pub node : is_node s ≡ true

pub start-asks : (s : Setup) (v flags demand : ℕ) → start_answer s v flags demand ≡ Done → Starts s v flags demand
unfolding start_answer
start-asks s v flags demand h =
    let p = test-met (config_ok s.config && (leb v 1 && (leb demand top_request && flags_ok s flags))) _ OutOfRange refl h in
    let q = and_right (config_ok s.config) _ p.0 in
    let r = and_right (leb v 1) _ q in
    record {
      config = and_left (config_ok s.config) _ p.0;
      version = leb-true v 1 (and_left (leb v 1) _ q);
      demand = leb-true demand top_request (and_left (leb demand top_request) _ r);
      flags = and_right (leb demand top_request) _ r;
      node = (test-met (is_node s) Done NoSuchNode refl p.1).0;
    }

pub start-done : (s : Setup) (v flags demand : ℕ) → Starts s v flags demand → start_answer s v flags demand ≡ Done
unfolding start_answer
start-done s v flags demand h =
    hit (config_ok s.config && (leb v 1 && (leb demand top_request && flags_ok s flags))) _ OutOfRange
    (both h.config (both (le-leb v 1 h.version) (both (le-leb demand top_request h.demand) h.flags)))
    ∙ hit (is_node s) Done NoSuchNode h.node

pub restart-done : (s : Setup) (flags p : ℕ) → config_ok s.config ≡ true → p < s.config.rounds → flags_ok s flags ≡ true → is_node s
    ≡ true → restart_answer s flags p ≡ Done
unfolding restart_answer
restart-done s flags p a b c d =
    hit (config_ok s.config && (ltb p s.config.rounds && flags_ok s flags)) _ OutOfRange (both a (both (lt-ltb _ _ b) c))
    ∙ hit (is_node s) Done NoSuchNode d

pub record Restarts (s : Setup) (m f : ℕ) : Type 0 where
  pub config : config_ok s.config ≡ true
  pub place : f < s.config.rounds
  pub flags : flags_ok s m ≡ true
  pub node : is_node s ≡ true

pub restart-asks : (s : Setup) (flags f : ℕ) → restart_answer s flags f ≡ Done → Restarts s flags f
unfolding restart_answer
restart-asks s flags f h =
    let p = test-met (config_ok s.config && (ltb f s.config.rounds && flags_ok s flags)) _ OutOfRange refl h in
    let q = and_right (config_ok s.config) _ p.0 in
    record {
      config = and_left (config_ok s.config) _ p.0;
      place = ltb-true f s.config.rounds (and_left (ltb f s.config.rounds) _ q);
      flags = and_right (ltb f s.config.rounds) _ q;
      node = (test-met (is_node s) Done NoSuchNode refl p.1).0;
    }
