-- What a node makes, field by field: a round just opened, a packet, what it sends in distribution, a beginning, a restart. Proofs about
-- sites read it here and not in the definitions' text.
-- Assumes nothing.
use mathlib.Core.Path.{◌≡◌, refl, sym, subst}
use Prim.Native.Nat.{ℕ}
use Rattle.allotment.specs.Allotment.{free}
use Rattle.allotment.specs.Model.{Schedule}
use Rattle.membership.specs.requests.Requests.{only}
use Rattle.membership.specs.counters.Counters.{members_of}
use Rattle.node.specs.Figures.{request_at}
use Rattle.node.specs.Negotiation.{opened, packet_of, moved}
use Rattle.node.specs.Close.{lapsed}
use Rattle.node.specs.Distribution.{sent_by}
use Rattle.node.specs.Begin.{empty_epoch, begun, waiting}
use Rattle.node.specs.End.{at_next_place, next_round, waits_on, version_after, schedule_after, next_epoch}
use Rattle.node.specs.Steps.{wanted_node}
use Rattle.node.specs.declared.Setup.{Setup}
use Rattle.node.specs.declared.Round.{Round}
use Rattle.node.specs.Model.{Node}
use Rattle.node.specs.declared.Packet.{Packet}
use Rattle.node.specs.Model.{Versioned}
use Rattle.node.specs.declared.Phase.TheVariants.{Waiting, Negotiation}

-- a round that was just opened
pub record Opened (node v flags request : ℕ) (r : Round) : Type 0 where
  pub merged : r.merged ≡ flags
  pub known : r.known ≡ only node request
  pub lowest : r.lowest ≡ v
  pub highest : r.highest ≡ v
  pub heard : r.heard ≡ 0

pub opens : (node v flags request : ℕ) → Opened node v flags request (opened node v flags request)
unfolding opened
opens node v flags request = record { merged = refl; known = refl; lowest = refl; highest = refl; heard = refl }

-- of a node
abbrev pub JustOpened : Node → Type 0
JustOpened n = Opened n.setup.node n.version n.flags n.request n.round

pub just-opened : (n : Node) → n.round ≡ opened n.setup.node n.version n.flags n.request → JustOpened n
just-opened n e = subst (Opened n.setup.node n.version n.flags n.request) (sym e)
    (opens n.setup.node n.version n.flags n.request)

-- a packet is what its sender has gathered
pub record Tells (n : Node) (q : Packet) : Type 0 where
  pub sender : q.sender ≡ n.setup.node
  pub lowest : q.lowest ≡ n.round.lowest
  pub highest : q.highest ≡ n.round.highest
  pub flags : q.flags ≡ n.round.merged
  pub requests : q.requests ≡ n.round.known

pub tells : (n : Node) → Tells n (packet_of n)
unfolding packet_of
tells n = record { sender = refl; lowest = refl; highest = refl; flags = refl; requests = refl }

-- what is sent in distribution
pub record Carries (n : Node) (q : Versioned) : Type 0 where
  pub version : q.version ≡ n.version
  pub schedule : q.schedule ≡ n.schedule

pub carries : (n : Node) → Carries n (sent_by n)
unfolding sent_by
carries n = record { version = refl; schedule = refl }

pub sends-so : (n : Node) → sent_by n ≡ record { version = n.version; schedule = n.schedule }
unfolding sent_by
sends-so n = refl

-- nodes with one version and schedule send the same
pub same_sent : (m n : Node) → m.version ≡ n.version → m.schedule ≡ n.schedule → sent_by m ≡ sent_by n
unfolding sent_by
same_sent m n v s = λ i. record { version = v i; schedule = s i }

-- a beginning has what it was given
pub record Given (s : Setup) (v : ℕ) (S : Schedule) (d r m : ℕ) (n : Node) : Type 0 where
  pub setup : n.setup ≡ s
  pub version : n.version ≡ v
  pub schedule : n.schedule ≡ S
  pub demand : n.demand ≡ d
  pub request : n.request ≡ r
  pub flags : n.flags ≡ m

pub given : (s : Setup) (v : ℕ) (S : Schedule) (d r m : ℕ) → Given s v S d r m (begun s v S d r m)
unfolding begun
given s v S d r m = record { setup = refl; version = refl; schedule = refl; demand = refl; request = refl; flags = refl }

-- a restarted node waits at its place f, with nothing but its flags m and its demand d
pub record Restarted (s : Setup) (m f d : ℕ) (n : Node) : Type 0 where
  pub setup : n.setup ≡ s
  pub version : n.version ≡ 0
  pub schedule : n.schedule ≡ free
  pub demand : n.demand ≡ d
  pub flags : n.flags ≡ m
  pub place : n.epoch.place ≡ f
  pub phase : n.phase ≡ Waiting

pub restarted : (s : Setup) (m f d : ℕ) → Restarted s m f d (waiting s m f d)
unfolding waiting
restarted s m f d = record { setup = refl; version = refl; schedule = refl; demand = refl; flags = refl; place = refl; phase = refl }

-- The same as whole records

pub opened-so : (node v flags request : ℕ) → opened node v flags request
    ≡ record { merged = flags; known = only node request; lowest = v; highest = v; heard = 0 }
unfolding opened
opened-so node v flags request = refl

pub packet-so : (n : Node) → packet_of n
    ≡ record {
      sender = n.setup.node;
      lowest = n.round.lowest;
      highest = n.round.highest;
      flags = n.round.merged;
      requests = n.round.known;
    }
unfolding packet_of
packet-so n = refl

pub begun-so : (s : Setup) (v : ℕ) (S : Schedule) (d r m : ℕ)
    → begun s v S d r m ≡ record {
      setup = s;
      version = v;
      schedule = S;
      demand = d;
      request = r;
      flags = m;
      round = opened s.node v m r;
      epoch = empty_epoch 0;
      phase = Negotiation;
    }
unfolding begun
begun-so s v S d r m = refl

pub waiting-so : (s : Setup) (m f d : ℕ) → waiting s m f d
    ≡ record {
      setup = s;
      version = 0;
      schedule = free;
      demand = d;
      request = 0;
      flags = m;
      round = lapsed;
      epoch = empty_epoch f;
      phase = Waiting;
    }
unfolding waiting
waiting-so s m f d = refl

pub wanted-so : (n : Node) (d : ℕ)
    → wanted_node n d ≡ record {
      setup = n.setup;
      version = n.version;
      schedule = n.schedule;
      demand = d;
      request = n.request;
      flags = n.flags;
      round = n.round;
      epoch = n.epoch;
      phase = n.phase;
    }
unfolding wanted_node
wanted-so n d = refl

-- a round that follows, an epoch that follows, and a wait that goes on
pub next-round-so : (n : Node) → next_round n
    ≡ moved n (opened n.setup.node n.version n.flags n.request) (at_next_place n.epoch) Negotiation
unfolding next_round
next-round-so n = refl

pub waits-so : (n : Node) → waits_on n ≡ moved n n.round (at_next_place n.epoch) Waiting
unfolding waits_on
waits-so n = refl

pub next-epoch-so : (n : Node) → next_epoch n
    ≡ begun n.setup (version_after n) (schedule_after n) n.demand (request_at n (version_after n))
    (members_of n.epoch.counters n.setup.node n.setup.config.min_heard)
unfolding next_epoch
next-epoch-so n = refl
