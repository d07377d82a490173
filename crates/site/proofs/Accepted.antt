-- What an accepted loading says of the table, and each accepted event of the site that it meets.
-- Assumes nothing.
use mathlib.Core.Path.{◌≡◌, refl, sym, ap, ◌∙◌}
use mathlib.Core.Bool.{Bool, true, false, not, cond, ◌&&◌, ◌||◌}
use mathlib.Core.List.{List}
use Prim.Native.Nat.{ℕ, ◌+◌, ◌≤◌, ◌<◌}
use native.Mathlib.Omega.{arith}
use borrow.Author.Tests.{leb-true, leb-false, lt-leb, ltb-false, not-false}
use lib.Dec.{ltb, leb}
use lib.ListN.{length, get_or}
use Rattle.words.proofs.Tests.{or-neither, and_left, and_right}
use Rattle.lists.proofs.Laws.{all-at}
use Rattle.allotment.specs.Allotment.{top_request}
use Rattle.node.specs.Figures.{config_ok, flags_ok, sending}
use Rattle.node.specs.Negotiation.{hear_answer}
use Rattle.node.specs.Distribution.{take_answer}
use Rattle.node.specs.Begin.{start_answer}
use Rattle.node.specs.Answers.{Answer}
use Rattle.node.specs.Answers.{Done, OutOfRange, NoSuchNode, WrongPhase, NotLive, NotDown, TooManyPackets}
use Rattle.node.specs.Answers.{NoSuchPacket, WrongSender, NoRoom}
use Rattle.node.proofs.Answers.{done-is, test-met, test-passed, both-done}
use Rattle.wire.specs.Layout.{packet_in}
use Rattle.wire.specs.Reads.{packet_answer}
use Rattle.node.proofs.Bounds as node
use Rattle.site.specs.Counts.{top_sent, sent_of, packets}
use Rattle.site.specs.Members.{setup_of, header_of, member_at, outside, is_live}
use Rattle.site.specs.Parts.{packet_part}
use Rattle.site.specs.Answers.{area_size, is_full, is_packet, site_send, answer_part, site_hear, site_close, site_take, site_end, site_want}
use Rattle.site.specs.Answers.{site_crash, site_restart, event_answer, answer_of}
use Rattle.site.specs.Load.{row_ok, no_row, table_ok, load_answer}
use Rattle.node.specs.declared.Config.{Config}
use Rattle.site.specs.declared.Table.{Table}
use Rattle.site.specs.Model.{Site}
use Rattle.site.specs.declared.Event.{Event}
use Rattle.site.proofs.Laws.{packet-above}

-- an area of 11,520 bytes or more, and the event's own tests
pub answered : (s : Site) (area : List ℕ) (e : Event) → answer_of s area e ≡ Done → (area_size ≤ length area) × (event_answer s area e ≡ Done)
unfolding answer_of
answered s area e h = let p = test-passed (ltb (length area) area_size) NoRoom (event_answer s area e) refl h in (ltb-false _ _ p.0, p.1)

-- a live node acts in negotiation
pub record Acts (s : Site) (j : ℕ) : Type 0 where
  pub node : outside s.config j ≡ false
  pub phase : s.negotiates ≡ true
  pub live : is_live (member_at s j) ≡ true

acts : (s : Site) (j : ℕ) (a : Answer)
    → cond (outside s.config j) NoSuchNode (cond (not s.negotiates) WrongPhase (cond (not (is_live (member_at s j))) NotLive a))
    ≡ Done → Acts s j × (a ≡ Done)
acts s j a h =
    let x = test-passed (outside s.config j) NoSuchNode _ refl h in
    let y = test-passed (not s.negotiates) WrongPhase _ refl x.1 in
    let z = test-passed (not (is_live (member_at s j))) NotLive a refl y.1 in
    (record { node = x.0; phase = not-false _ y.0; live = not-false _ z.0 }, z.1)

-- a live node sends, while it has sent fewer than 8 packets in this phase
pub send-accepted : (s : Site) (j : ℕ) → site_send s j ≡ Done → Acts s j × (sent_of s.sent j < top_sent)
unfolding site_send
send-accepted s j h =
    let x = acts s j _ h in
    (x.0, leb-false _ _ (test-passed (is_full (header_of s) j) TooManyPackets _ refl x.1).0)

-- of an accepted part the node's own answer is Done
part-accepted : (s : Site) (part : List ℕ) (j : ℕ) → answer_part (header_of s) (member_at s j) part ≡ Done
    → hear_answer (member_at s j).node (packet_in part) ≡ Done
unfolding answer_part
part-accepted s part j h = (both-done (packet_answer s.config.nodes part) (hear_answer (member_at s j).node (packet_in part)) h).1

-- a node hears a packet of this phase
pub record Hears (s : Site) (area : List ℕ) (j p : ℕ) : Type 0 where
  pub acts : Acts s j
  pub from : 1 ≤ p
  pub to : p ≤ packets s.sent
  pub answer : hear_answer (member_at s j).node (packet_in (packet_part (header_of s) area p)) ≡ Done

pub hear-accepted : (s : Site) (area : List ℕ) (j p : ℕ) → site_hear s area j p ≡ Done → Hears s area j p
unfolding site_hear
hear-accepted s area j p h =
    let x = acts s j _ h in
    let y = test-passed (not (is_packet (header_of s) p)) NoSuchPacket _ refl x.1 in
    let z : is_packet (header_of s) p ≡ true = not-false _ y.0 in
    record {
      acts = x.0;
      from = packet-above (header_of s) p z;
      to = leb-true p (packets s.sent) (and_right (leb 1 p) (leb p (packets s.sent)) z);
      answer = part-accepted s (packet_part (header_of s) area p) j y.1;
    }

pub close-accepted : (s : Site) → site_close s ≡ Done → s.negotiates ≡ true
unfolding site_close
close-accepted s h = (test-met s.negotiates Done WrongPhase refl h).0

pub end-accepted : (s : Site) → site_end s ≡ Done → s.negotiates ≡ false
unfolding site_end
end-accepted s h = (test-passed s.negotiates WrongPhase Done refl h).0

-- node j takes from sender i
pub record Takes (s : Site) (j i : ℕ) : Type 0 where
  pub taker : outside s.config j ≡ false
  pub sender : outside s.config i ≡ false
  pub phase : s.negotiates ≡ false
  pub live : is_live (member_at s j) ≡ true
  pub other : is_live (member_at s i) ≡ true
  pub silent : sending (member_at s j).node.phase ≡ false
  pub sends : sending (member_at s i).node.phase ≡ true
  pub answer : take_answer (member_at s j).node ≡ Done

pub take-accepted : (s : Site) (j i : ℕ) → site_take s j i ≡ Done → Takes s j i
unfolding site_take
take-accepted s j i h =
    let x = test-passed (outside s.config j || outside s.config i) NoSuchNode _ refl h in
    let y = test-passed s.negotiates WrongPhase _ refl x.1 in
    let z = test-passed (not (is_live (member_at s j)) || not (is_live (member_at s i))) NotLive _ refl y.1 in
    let w = test-passed (sending (member_at s j).node.phase || not (sending (member_at s i).node.phase)) WrongSender _ refl z.1 in
    let n = or-neither (outside s.config j) (outside s.config i) x.0 in
    let l = or-neither (not (is_live (member_at s j))) (not (is_live (member_at s i))) z.0 in
    let t = or-neither (sending (member_at s j).node.phase) (not (sending (member_at s i).node.phase)) w.0 in
    record {
      taker = n.0;
      sender = n.1;
      phase = y.0;
      live = not-false _ l.0;
      other = not-false _ l.1;
      silent = t.0;
      sends = not-false _ t.1;
      answer = w.1;
    }

-- a node that is up, for want and crash
pub record Stands (s : Site) (j : ℕ) : Type 0 where
  pub node : outside s.config j ≡ false
  pub up : (member_at s j).up ≡ true

pub crash-accepted : (s : Site) (j : ℕ) → site_crash s j ≡ Done → Stands s j
unfolding site_crash
crash-accepted s j h =
    let x = test-passed (outside s.config j) NoSuchNode _ refl h in
    record { node = x.0; up = (test-met (member_at s j).up Done NotLive refl x.1).0 }

pub want-accepted : (s : Site) (j d : ℕ) → site_want s j d ≡ Done → Stands s j × (d ≤ top_request)
unfolding site_want site_crash
want-accepted s j d h =
    let x = test-passed (ltb top_request d) OutOfRange _ refl h in
    (crash-accepted s j x.1, ltb-false _ _ x.0)

-- a node that is down restarts with good flags
pub record Restarts (s : Site) (j m : ℕ) : Type 0 where
  pub node : outside s.config j ≡ false
  pub down : (member_at s j).up ≡ false
  pub flags : flags_ok (setup_of s.config j) m ≡ true

pub restart-accepted : (s : Site) (j flags : ℕ) → site_restart s j flags ≡ Done → Restarts s j flags
unfolding site_restart
restart-accepted s j flags h =
    let x = test-met (flags_ok (setup_of s.config j) flags) _ OutOfRange refl h in
    let y = test-passed (outside s.config j) NoSuchNode _ refl x.1 in
    record { node = y.0; down = (test-passed (member_at s j).up NotDown Done refl y.1).0; flags = x.0 }

-- a site is loaded from good figures and N good rows
pub record Loads (f : Config) (t : Table) : Type 0 where
  pub config : config_ok f ≡ true
  pub row : (i : ℕ) → i < f.nodes
      → start_answer (setup_of f (i + 1)) (get_or t.rows i no_row).version (get_or t.rows i no_row).flags (get_or t.rows i no_row).want
      ≡ Done

pub load-accepted : (f : Config) (t : Table) → load_answer f t ≡ Done → Loads f t
unfolding load_answer table_ok row_ok
load-accepted f t h =
    let x = (test-met (config_ok f && table_ok f t) Done OutOfRange refl h).0 in
    let g : config_ok f ≡ true = and_left (config_ok f) (table_ok f t) x in
    record {
      config = g;
      row = λ i k.
          let l : i < 32 = omega (arith, (node.bounds f g).nodes-to) in
          let y = all-at 32 (λ i. leb f.nodes i || row_ok f i (get_or t.rows i no_row)) (and_right (config_ok f) (table_ok f t) x) i l in
          done-is _ (sym (ap (λ (b : Bool). b || row_ok f i (get_or t.rows i no_row)) (lt-leb f.nodes i k)) ∙ y);
    }
