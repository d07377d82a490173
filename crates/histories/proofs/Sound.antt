-- Each node of a site is in step with it, and the packets of the phase lie in the lent area, each in its own part.
-- This holds of a site just loaded, with any area, and each accepted event keeps it.
-- Assumes nothing.
use mathlib.Core.Path.{◌≡◌, refl, sym, ap, ◌∙◌, subst}
use mathlib.Core.Bool.{Bool, true, false, not, cond, ◌&&◌}
use mathlib.Core.Logic.{⊎_elim}
use mathlib.Core.List.{List, [], ◌∷◌, ◌++◌}
use Prim.Native.Nat.{ℕ, suc, ◌+◌, ◌-◌, ◌≤◌, ◌<◌}
use native.Mathlib.Omega.{arith}
use native.Mathlib.Nat.{eq-or-lt_of_le, le_of_suc-le-suc, not-suc-le-zero}
use borrow.Author.Tests.{leb-false, ltb-true, ne_eqb, not-false}
use lib.Dec.{ltb}
use lib.ListN.{length, get_or, length-append, get_or-append, get_or-map}
use lib.Seq.{get_or_at}
use Rattle.words.proofs.Tests.{never, by-test}
use Rattle.lists.proofs.Every.{every_set, every-tab}
use Rattle.allotment.specs.Allotment.{top_request}
use Rattle.membership.specs.requests.Requests.{none, entry_of}
use Rattle.node.specs.Figures.{config_ok, is_last, is_waiting, negotiates}
use Rattle.node.specs.Negotiation.{packet_of, heard_node}
use Rattle.node.specs.Distribution.{sent_by, taken_node}
use Rattle.node.specs.Steps.{close_outcome, end_outcome, wanted_node}
use Rattle.node.specs.Begin.{waiting, restart_answer}
use Rattle.node.specs.declared.Setup.{Setup}
use Rattle.node.specs.Model.{Node}
use Rattle.node.specs.declared.Packet.{Packet}
use Rattle.node.specs.Answers.{Done}
use Rattle.range.proofs.Keeps as keep
use Rattle.node.proofs.Laws as law
use Rattle.node.proofs.Tested.{restart-done}
use Rattle.range.proofs.Laws as ranged
use Rattle.wire.specs.Layout.{packet_bytes, packet_in}
use Rattle.wire.specs.Reads.{packet_ok, packet_answer, part_of, placed, has_part}
use Rattle.wire.proofs.Laws as wire
use Rattle.site.specs.Members.{nobody, setup_of, header_of, member_at, is_live, with_node, down_member, put}
use Rattle.site.specs.Parts.{packet_part}
use Rattle.site.specs.Load.{loaded_member, loaded_site, load_answer}
use Rattle.site.specs.Counts.{top_sent, sent_of, packets}
use Rattle.site.specs.Answers.{area_size}
use Rattle.site.specs.Steps.{sent_site, sent_area, heard_site, close_member, closed_site, taken_site, end_member, place_after, ended_site}
use Rattle.site.specs.Steps.{wanted_site, crashed_site, restarted_site}
use Rattle.node.specs.declared.Config.{Config}
use Rattle.site.specs.declared.Table.{Table}
use Rattle.site.specs.Model.{Member}
use Rattle.site.specs.Model.{Site}
use Rattle.site.proofs.Counts.{Counts, none-counts, more-counts, packets-none, packets-more, packets-room, part-there, area-placed}
use Rattle.site.proofs.Accepted.{Acts, Hears, Takes, Restarts, Loads, load-accepted}
use Rattle.node.proofs.Bounds.{bounds}
use Rattle.histories.proofs.Members.{inside, is-node, live-up, awake}
use Rattle.histories.proofs.Steady.{Steady, rests, steady-waits, steady-hear, steady-close, steady-take, steady-end, steady-want}
use Rattle.histories.proofs.Steady.{steady-start, steady-restart}

-- a member that is up is in step with the site
pub record Sits (f : Config) (talk : Bool) (p i : ℕ) (m : Member) : Type 0 where
  pub up : m.up ≡ true → Steady f talk p i m.node

-- a packet that keeps the layout lies in the part of an index
pub record Part (N : ℕ) (area : List ℕ) (p : ℕ) (q : Packet) : Type 0 where
  pub is : part_of area p ≡ packet_bytes q
  pub ok : packet_ok N q ≡ true
  pub long : length q.requests ≡ 32

-- what stands behind the last packet
abbrev pub no_packet : Packet
no_packet = record { sender = 0; lowest = 0; highest = 0; flags = 0; requests = [] }

-- a site, the lent area, and the packets of the phase
pub record Sound (s : Site) (area : List ℕ) (air : List Packet) : Type 0 where
  pub config : config_ok s.config ≡ true
  pub place : s.place < s.config.rounds
  pub each : (i : ℕ) → Sits s.config s.negotiates s.place i (get_or s.members i nobody)
  pub counters : Counts s.sent
  pub count : length air ≡ packets s.sent
  pub parts : (p : ℕ) → p < length air → Part s.config.nodes area p (get_or air p no_packet)
  pub quiet : s.negotiates ≡ false → air ≡ []

-- Parts

pub part-packet : {N : ℕ} {area : List ℕ} {p : ℕ} {q : Packet} → N ≤ 32 → Part N area p q → packet_in (part_of area p) ≡ q
part-packet {N} {area} {p} {q} n h = ap packet_in h.is ∙ wire.packet-back q (wire.keeps-fits N q n (wire.keeps N q h.ok) h.long)

-- the bytes of a packet of the phase are never refused as 11 or 12
pub part-accepted : {N : ℕ} {area : List ℕ} {p : ℕ} {q : Packet} → N ≤ 32 → Part N area p q → packet_answer N (part_of area p) ≡ Done
part-accepted {N} {area} {p} {q} n h = ap (packet_answer N) h.is ∙ wire.packet-accepted N q n h.ok h.long

-- what the ranges ask of a packet that is heard
part_sound : {N : ℕ} {area : List ℕ} {p : ℕ} {q : Packet} → Part N area p q → keep.PacketRanges q N
part_sound {N} {area} {p} {q} h =
    let k = wire.keeps N q h.ok in
    record { low = k.versions; high = k.top; flags = k.flags; asked = k.asked }

-- what a live node sends keeps the layout
packet-ok : (n : Node) (N : ℕ) → n.setup.config.nodes ≡ N → ranged.Lawful (packet_of n) n.setup.config.nodes
    → packet_ok N (packet_of n) ≡ true
packet-ok n N e h =
    subst (λ (x : ℕ). packet_ok x (packet_of n) ≡ true) e
    (wire.kept n.setup.config.nodes (packet_of n)
    (record {
      sender = h.sender-to;
      versions = h.sound.low;
      top = h.sound.high;
      flags = h.sound.flags;
      flag = h.flag;
      asked = h.sound.asked;
      own = ne_eqb (entry_of (packet_of n).requests (packet_of n).sender) none (λ z. omega (arith, h.request));
    }))

-- Another member

put-sound : {s : Site} {area : List ℕ} {air : List Packet} (j : ℕ) (m : Member) → Sound s area air
    → Sits s.config s.negotiates s.place (j - 1) m → Sound (put s j m) area air
put-sound {s} {area} {air} j m h k =
    record {
      config = h.config;
      place = h.place;
      each = every_set (Sits s.config s.negotiates s.place) nobody s.members (j - 1) m h.each k;
      counters = h.counters;
      count = h.count;
      parts = h.parts;
      quiet = h.quiet;
    }

-- The events

-- a node that acts is one of 32
pub below-32 : (s : Site) {area : List ℕ} {air : List Packet} (j : ℕ) → Sound s area air → Acts s j → j - 1 < 32
below-32 s j h a = let i = inside s j a.node in omega (arith, i.0, i.1, (bounds s.config h.config).nodes-to)

-- a packet of a node that has sent fewer than 8 has its part in the area
pub send-room : {s : Site} {area : List ℕ} {air : List Packet} (j : ℕ) → Sound s area air → Acts s j → sent_of s.sent j < top_sent
    → area_size ≤ length area → has_part area (packets s.sent) ≡ true
send-room {s} {area} j h a l r = part-there area s.sent (packets-room s.sent j h.counters (below-32 s j h a) l) r

pub send-sound : {s : Site} {area : List ℕ} {air : List Packet} (j : ℕ) → Sound s area air → Acts s j → sent_of s.sent j < top_sent
    → area_size ≤ length area
    → Sound (sent_site s j) (sent_area s area j) (air ++ (packet_of (member_at s j).node ∷ []))
unfolding sent_site
send-sound {s} {area} {air} j h a l r =
    subst (λ (y : List ℕ). Sound (sent_site s j) y (air ++ (x ∷ []))) (sym (area-placed s area j room))
    (record {
      config = h.config;
      place = h.place;
      each = h.each;
      counters = more-counts s.sent j h.counters l;
      count = length-append air (x ∷ []) ∙ ap (λ (k : ℕ). k + 1) h.count
          ∙ sym (packets-more s.sent j (omega (arith, h.counters.long, node_index)));
      parts = λ p k. ⊎_elim (λ e. newest p e) (λ m. older p m) (eq-or-lt_of_le (le_of_suc-le-suc (up p k)));
      quiet = λ e. never (sym a.phase ∙ e);
    })
  where
    node_index : j - 1 < 32
    node_index = below-32 s j h a

    n : Node
    n = (member_at s j).node

    x : Packet
    x = packet_of n

    steady : Steady s.config s.negotiates s.place (j - 1) n
    steady = (h.each (j - 1)).up (live-up (member_at s j) a.live)

    long : length x.requests ≡ 32
    long = ranged.packet-long n steady.long

    ok : packet_ok s.config.nodes x ≡ true
    ok = packet-ok n s.config.nodes (ap (λ (y : Setup). y.config.nodes) steady.setup)
        (ranged.packet-lawful n steady.range (steady.phase (awake (member_at s j) a.live) ∙ a.phase))

    room : has_part area (packets s.sent) ≡ true
    room = send-room j h a l r

    up : (p : ℕ) → p < length (air ++ (x ∷ [])) → suc p ≤ suc (length air)
    up p k = let e : length (air ++ (x ∷ [])) ≡ length air + 1 = length-append air (x ∷ []) in omega arith

    newest : (p : ℕ) → p ≡ length air → Part s.config.nodes (placed area (packets s.sent) x) p (get_or (air ++ (x ∷ [])) p no_packet)
    newest p e =
        subst (λ (q : Packet). Part s.config.nodes (placed area (packets s.sent) x) p q) (sym (get_or_at air x [] no_packet p (sym e)))
        (record {
          is = ap (part_of (placed area (packets s.sent) x)) (e ∙ h.count) ∙ wire.same-part area (packets s.sent) x long room;
          ok = ok;
          long = long;
        })

    older : (p : ℕ) → p < length air → Part s.config.nodes (placed area (packets s.sent) x) p (get_or (air ++ (x ∷ [])) p no_packet)
    older p m =
        let o = h.parts p m in
        subst (λ (q : Packet). Part s.config.nodes (placed area (packets s.sent) x) p q)
        (sym (get_or-append air (x ∷ []) no_packet p m))
        (record {
          is = wire.other-part area (packets s.sent) x long room p (λ e. omega (arith, h.count)) ∙ o.is;
          ok = o.ok;
          long = o.long;
        })

-- the packet that is heard is the one that was sent
pub hear-is : {s : Site} {area : List ℕ} {air : List Packet} (j p : ℕ) → Sound s area air → Hears s area j p
    → (p - 1 < length air) × (packet_in (packet_part (header_of s) area p) ≡ get_or air (p - 1) no_packet)
hear-is {s} {area} {air} j p h a =
    let l : p - 1 < length air = omega (arith, h.count, a.from, a.to) in
    (l, part-packet (bounds s.config h.config).nodes-to (h.parts (p - 1) l))

pub hear-sound : {s : Site} {area : List ℕ} {air : List Packet} (j p : ℕ) → Sound s area air → Hears s area j p
    → Sound (heard_site s area j p) area air
unfolding heard_site
hear-sound {s} {area} {air} j p h a =
    let e = hear-is j p h a in
    let q = packet_in (packet_part (header_of s) area p) in
    let m = member_at s j in
    let o : keep.PacketRanges q s.config.nodes = subst (λ (x : Packet). keep.PacketRanges x s.config.nodes) (sym e.1)
    (part_sound (h.parts (p - 1) e.0)) in
    put-sound j (with_node m (heard_node m.node q)) h (record { up = λ u. steady-hear q ((h.each (j - 1)).up u) a.answer o })

pub close-sound : {s : Site} {area : List ℕ} {air : List Packet} → Sound s area air → s.negotiates ≡ true → Sound (closed_site s) area []
unfolding closed_site
close-sound {s} {area} {air} h t =
    record {
      config = h.config;
      place = h.place;
      each = λ i. rw (get_or-map close_member s.members i nobody) (one i (get_or s.members i nobody) (h.each i));
      counters = none-counts;
      count = sym packets-none;
      parts = λ p k. absurd (not-suc-le-zero k);
      quiet = λ _. refl;
    }
  where
    one : (i : ℕ) (m : Member) → Sits s.config s.negotiates s.place i m → Sits s.config false s.place i (close_member m)
    one i m k = go (is_live m) refl
      where
        go : (b : Bool) → is_live m ≡ b → Sits s.config false s.place i (cond b (with_node m (close_outcome m.node)) m)
        go true e =
            record {
              up = λ u.
                  let o : Steady s.config true s.place i m.node = subst
                  (λ (b : Bool). Steady s.config b s.place i m.node) t (k.up u) in
                  subst (Steady s.config false s.place i) (sym (law.close-is m.node (o.phase (awake m e))))
                  (steady-close o (awake m e));
            }
        go false e = record {
          up = λ u. steady-waits (k.up u) (not-false _ (sym (ap (λ (b : Bool). b && not (is_waiting m.node.phase)) u) ∙ e));
        }

pub take-sound : {s : Site} {area : List ℕ} {air : List Packet} (j i : ℕ) → Sound s area air → Takes s j i
    → Sound (taken_site s j i) area air
unfolding taken_site
take-sound {s} {area} {air} j i h a =
    let m = member_at s j in
    put-sound j (with_node m (taken_node m.node (sent_by (member_at s i).node))) h (record {
      up = λ u.
          subst (λ (b : Bool). Steady s.config b s.place (j - 1) (taken_node m.node (sent_by (member_at s i).node)))
          (sym a.phase)
          (steady-take (rest j u) (rest i (live-up (member_at s i) a.other)) a.answer);
    })
  where
    rest : (x : ℕ) → (member_at s x).up ≡ true → Steady s.config false s.place (x - 1) (member_at s x).node
    rest x u = subst (λ (b : Bool). Steady s.config b s.place (x - 1) (member_at s x).node) a.phase ((h.each (x - 1)).up u)

pub end-sound : {s : Site} {area : List ℕ} {air : List Packet} → Sound s area air → s.negotiates ≡ false → Sound (ended_site s) area []
unfolding ended_site
end-sound {s} {area} {air} h t =
    record {
      config = h.config;
      place = by-test (λ (x : ℕ). x < s.config.rounds) (is_last s.config s.place) 0 (s.place + 1)
          (λ e. (bounds s.config h.config).rounds-from) (λ e. leb-false s.config.rounds (s.place + 1) e);
      each = λ i. rw (get_or-map end_member s.members i nobody) (one i (get_or s.members i nobody) (h.each i));
      counters = none-counts;
      count = sym packets-none;
      parts = λ p k. absurd (not-suc-le-zero k);
      quiet = λ e. never e;
    }
  where
    one : (i : ℕ) (m : Member) → Sits s.config s.negotiates s.place i m → Sits s.config true (place_after s) i (end_member m)
    one i m k = go m.up refl
      where
        go : (b : Bool) → m.up ≡ b → Sits s.config true (place_after s) i (cond b (with_node m (end_outcome m.node)) m)
        go true e =
            record {
              up = λ u.
                  let o : Steady s.config false s.place i m.node = subst
                  (λ (b : Bool). Steady s.config b s.place i m.node) t (k.up e) in
                  subst (Steady s.config true (place_after s) i) (sym (law.end_is m.node (rests o))) (steady-end o);
            }
        go false e = record { up = λ u. never (sym u ∙ e) }

pub want-sound : {s : Site} {area : List ℕ} {air : List Packet} (j d : ℕ) → Sound s area air → d ≤ top_request
    → Sound (wanted_site s j d) area air
unfolding wanted_site
want-sound {s} j d h l =
    let m = member_at s j in
    put-sound j (with_node m (wanted_node m.node d)) h (record { up = λ u. steady-want d ((h.each (j - 1)).up u) l })

pub crash-sound : {s : Site} {area : List ℕ} {air : List Packet} (j : ℕ) → Sound s area air → Sound (crashed_site s j) area air
unfolding crashed_site
crash-sound {s} j h = put-sound j (down_member s.config j) h (record { up = λ u. never (sym u) })

pub restart-sound : {s : Site} {area : List ℕ} {air : List Packet} (j flags : ℕ) → Sound s area air → Restarts s j flags
    → Sound (restarted_site s j flags) area air
unfolding restarted_site
restart-sound {s} j flags h a =
    put-sound j (record { up = true; node = waiting (setup_of s.config j) flags s.place 0 }) h (record {
      up = λ u.
          subst (λ (x : ℕ). Steady s.config s.negotiates s.place (j - 1) (waiting (setup_of s.config x) flags s.place 0)) e
          (steady-restart s.config s.negotiates (j - 1) flags s.place
          (subst (λ (x : ℕ). restart_answer (setup_of s.config x) flags s.place ≡ Done) (sym e) done));
    })
  where
    e : j - 1 + 1 ≡ j
    e = let l : 1 ≤ j = (inside s j a.node).0 in omega arith

    done : restart_answer (setup_of s.config j) flags s.place ≡ Done
    done = restart-done (setup_of s.config j) flags s.place h.config h.place a.flags
        (is-node s j a.node)

-- Loading

pub load-sound : (f : Config) (t : Table) (area : List ℕ) → load_answer f t ≡ Done → Sound (loaded_site f t) area []
unfolding loaded_site loaded_member
load-sound f t area h =
    record {
      config = l.config;
      place = (bounds f l.config).rounds-from;
      each = every-tab (Sits f true 0) nobody 32 (loaded_member f t) loaded (λ i. record { up = λ u. never (sym u) });
      counters = none-counts;
      count = sym packets-none;
      parts = λ p k. absurd (not-suc-le-zero k);
      quiet = λ e. never e;
    }
  where
    l : Loads f t
    l = load-accepted f t h

    loaded : (i : ℕ) → Sits f true 0 i (loaded_member f t i)
    loaded i =
        by-test (Sits f true 0 i) (ltb i f.nodes) _ _
        (λ e. record { up = λ _. steady-start f i _ _ _ (l.row i (ltb-true i f.nodes e)) })
        (λ e. record { up = λ u. never (sym u) })
