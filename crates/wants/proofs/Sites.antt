-- The scene of a site in a list of events: its answers and its reports are those of the site, and each event makes of the scene what
-- it makes of the site.
-- Assumes nothing.
use mathlib.Core.Path.{◌≡◌, refl, sym, ap, ap₂, ◌∙◌}
use mathlib.Core.Bool.{Bool, true, false, not, cond, ◌&&◌, ◌||◌}
use mathlib.Core.List.{List, [], ◌∷◌, ◌++◌, map}
use Prim.Native.Nat.{ℕ, zero, suc, ◌+◌, ◌-◌, ◌<◌}
use native.Mathlib.Omega.{arith}
use borrow.Author.Tests.{leb-true, not-false}
use lib.Dec.{eqb, leb, ltb}
use lib.ListN.{length, get_or, get_or-map}
use lib.Seq.{map-set_same}
use Rattle.words.proofs.Tests.{never, past-test, at_test, read-choice, and_left, and_right}
use Rattle.lists.proofs.Laws.{tab-ext}
use Rattle.node.specs.Figures.{sending}
use Rattle.node.specs.Negotiation.{packet_of, heard_node}
use Rattle.node.specs.Steps.{close_outcome, end_outcome}
use Rattle.node.specs.declared.Packet.{Packet}
use Rattle.node.specs.declared.Ground.{Ground}
use Rattle.node.specs.Answers.{Answer}
use Rattle.node.specs.Answers.{Done, NoSuchNode, WrongPhase, NotLive, TooManyPackets, NoSuchPacket, OwnPacket}
use Rattle.node.specs.Answers.{WrongSender, NoRoom}
use Rattle.range.proofs.Ranges.{ranges}
use Rattle.range.proofs.Laws as ranged
use Rattle.wire.specs.Reads.{has_part}
use Rattle.wire.proofs.Laws as wire
use Rattle.site.specs.Counts.{top_sent, packets, sent_of}
use Rattle.site.specs.Members.{nobody, header_of, member_at, outside, is_live, with_node, put}
use Rattle.site.specs.Answers.{area_size, is_packet, site_send, site_close, site_take, site_end, site_crash, site_restart, answer_of}
use Rattle.site.specs.Steps.{sent_site, sent_area, heard_site, close_member, closed_site, taken_site, end_member, ended_site, wanted_site}
use Rattle.site.specs.Steps.{crashed_site, restarted_site, next_site, next_area}
use Rattle.site.specs.Model.{Member}
use Rattle.site.specs.Model.{Site}
use Rattle.site.specs.declared.Event.{Event}
use Rattle.site.specs.declared.Event.TheVariants.{Send, Hear, Close, Take, End, Want, Crash, Restart}
use Rattle.site.proofs.Counts.{area-placed}
use Rattle.site.proofs.Steps.{hear-as}
use Rattle.site.proofs.Accepted.{answered, send-accepted, hear-accepted, close-accepted, take-accepted, end-accepted, want-accepted}
use Rattle.site.proofs.Accepted.{restart-accepted, Acts}
use Rattle.node.proofs.Bounds.{bounds}
use Rattle.std.specs.Prelude.{Some, None}
use Rattle.machine.specs.reports.Reports.{member_report, report_of, closes_with}
use Rattle.histories.specs.Hearing.{plain_hear, sender_of}
use Rattle.histories.proofs.Members.{live-up}
use Rattle.histories.proofs.Sound.{Sound, no_packet, part-packet, hear-is, send-room, send-sound, hear-sound, close-sound, take-sound}
use Rattle.histories.proofs.Sound.{end-sound, want-sound, crash-sound, restart-sound}
use Rattle.node.specs.Outline.{Outline}
use Rattle.wants.specs.Outline.{MemberOutline, member_outline, site_outline}
use Rattle.wants.specs.Wants.{is_want, report_at}
use Rattle.wants.proofs.Maps.{map-set, map_snoc}
use Rattle.node.proofs.Outline.{PacketOutline, packet_outline, sent_outline, sends, send_by as send_by_lem, take_by as take_by_lem, hears, close-by, takes, Fits, end_by_lem}
use Rattle.node.proofs.Outline.{wants, grounds}
use Rattle.wants.proofs.Scenes.{scene_of, member_in, packet_at, send_by, hear_by, take_by, crash_by, restart_by, answer_by, put_by}
use Rattle.wants.proofs.Scenes.{heard_member_by, taken_member_by, close_member_by, end_member_by, next_by, told_for, report_for, report_in}

-- Members

-- a step of all members, where each has what it needs
map-step : (P : Member → Type 0) (f : Member → Member) (g : MemberOutline → MemberOutline)
    → ((m : Member) → P m → member_outline (f m) ≡ g (member_outline m))
    → (ms : List Member) → ((i : ℕ) → P (get_or ms i nobody)) → map member_outline (map f ms) ≡ map g (map member_outline ms)
map-step P f g h [] k = refl
map-step P f g h (m ∷ ms) k =
    ap₂ (λ (x : MemberOutline) (l : List MemberOutline). x ∷ l) (h m (k zero)) (map-step P f g h ms (λ i. k (suc i)))

member-by : (s : Site) (j : ℕ) → member_outline (member_at s j) ≡ member_in (site_outline s) j
member-by s j = sym (get_or-map member_outline s.members (j - 1) nobody)

put-by : (s : Site) (j : ℕ) (m : Member) (o : MemberOutline) → member_outline m ≡ o → site_outline (put s j m) ≡ put_by (site_outline s) j o
put-by s j m o e =
    let l = map-set member_outline s.members (j - 1) m in
    (λ i. record { config = s.config; negotiates = s.negotiates; place = s.place; sent = s.sent; members = l i })
    ∙ ap (put_by (site_outline s) j) e

packet-by : (air : List Packet) (p : ℕ)
    → packet_outline (get_or air (p - 1) no_packet) ≡ get_or (map packet_outline air) (p - 1) (packet_outline no_packet)
packet-by air p = sym (get_or-map packet_outline air (p - 1) no_packet)

-- Answers

module _ (s : Site) (area : List ℕ) (air : List Packet) (h : Sound s area air) where
  -- 15 for an area that is too short, before anything else
  abbrev in_area : Answer → Answer
  in_area a = cond (ltb (length area) area_size) NoRoom a

  sender-is : (p : ℕ) → is_packet (header_of s) p ≡ true
      → sender_of (record { site = s; area = area }) p ≡ (packet_at (scene_of s area air) p).sender
  sender-is p k =
      let from = leb-true 1 p (and_left (leb 1 p) (leb p (packets s.sent)) k) in
      let to = leb-true p (packets s.sent) (and_right (leb 1 p) (leb p (packets s.sent)) k) in
      let there : p - 1 < length air = omega (arith, h.count) in
      ap (λ (q : Packet). q.sender) (part-packet (bounds s.config h.config).nodes-to (h.parts (p - 1) there))
      ∙ ap (λ (q : PacketOutline). q.sender) (packet-by air p)

  hear-plain : (j p : ℕ) → plain_hear (record { site = s; area = area }) j p ≡ answer_by (scene_of s area air) (Hear j p)
  hear-plain j p =
      past-test (ltb (length area) area_size) NoRoom _ _
      (λ _. past-test (outside s.config j) NoSuchNode _ _
      (λ _. past-test (not s.negotiates) WrongPhase _ _
      (λ _. past-test (not (is_live (member_at s j))) NotLive _ _
      (λ _. past-test (not (is_packet (header_of s) p)) NoSuchPacket _ _
      (λ k. ap (λ (x : ℕ). cond (eqb x j) OwnPacket Done) (sender-is p (not-false _ k)))))))
      ∙ ap (λ (m : MemberOutline). in_area (hear_by (site_outline s) j p m (packet_at (scene_of s area air) p).sender)) (member-by s j)

  -- each event that is no want is answered by the scene
  pub answer-is : (e : Event) → is_want e ≡ false
      → ((j p : ℕ) → answer_of s area (Hear j p) ≡ plain_hear (record { site = s; area = area }) j p)
      → answer_of s area e ≡ answer_by (scene_of s area air) e
  unfolding answer_of site_send site_close site_take site_end site_crash site_restart
  answer-is (Send j) w l =
      ap (λ (a : Answer). in_area (cond (outside s.config j) NoSuchNode (cond (not s.negotiates) WrongPhase
      (cond (not (is_live (member_at s j))) NotLive (cond (leb top_sent (sent_of s.sent j)) TooManyPackets a)))))
      (send_by_lem (member_at s j).node)
      ∙ ap (λ (m : MemberOutline). in_area (send_by (site_outline s) j m)) (member-by s j)
  answer-is (Hear j p) w l = l j p ∙ hear-plain j p
  answer-is Close w l = refl
  answer-is (Take j i) w l =
      ap (λ (a : Answer). in_area (cond (outside s.config j || outside s.config i) NoSuchNode (cond s.negotiates WrongPhase
      (cond (not (is_live (member_at s j)) || not (is_live (member_at s i))) NotLive
      (cond (sending (member_at s j).node.phase || not (sending (member_at s i).node.phase)) WrongSender a)))))
      (take_by_lem (member_at s j).node)
      ∙ ap₂ (λ (m o : MemberOutline). in_area (take_by (site_outline s) j i m o)) (member-by s j) (member-by s i)
  answer-is End w l = refl
  answer-is (Want j d) w l = never w
  answer-is (Crash j) w l = ap (λ (m : MemberOutline). in_area (crash_by (site_outline s) j m)) (member-by s j)
  answer-is (Restart j flags) w l = ap (λ (m : MemberOutline). in_area (restart_by (site_outline s) j flags m)) (member-by s j)

-- Reports

told_is : (t : Bool) (m : Member) → member_report t m ≡ told_for t (member_outline m)
unfolding member_report told_for
told_is t m = ap (λ (g : Ground). cond (t && is_live m) (Some g) None) (grounds m.node)

pub report-of : (t : Bool) (ms : List Member) → report_of t ms ≡ report_for t (map member_outline ms)
unfolding report_of report_for
report-of t ms =
    λ k. record {
      nodes = tab-ext 32 _ _ (λ i l. told_is t (get_or ms i nobody) ∙ ap (told_for t) (sym (get_or-map member_outline ms i nobody))) k;
    }

pub report-is : (s : Site) (area : List ℕ) (air : List Packet) (e : Event) → answer_of s area e ≡ answer_by (scene_of s area air) e
    → report_at s area e ≡ report_in (scene_of s area air) e
report-is s area air e a =
    report-of (closes_with e (answer_of s area e)) s.members
    ∙ ap (λ (x : Answer). report_for (closes_with e x) (map member_outline s.members)) a

-- Steps

close-member : (m : Member) → member_outline (close_member m) ≡ close_member_by (member_outline m)
close-member m =
    read-choice member_outline (is_live m) (with_node m (close_outcome m.node)) m
    ∙ ap (λ (o : Outline). cond (is_live m) (record { up = m.up; node = o }) (member_outline m)) (close-by m.node)

end-member : (m : Member) → (m.up ≡ true → Fits m.node) → member_outline (end_member m) ≡ end_member_by (member_outline m)
end-member m h =
    read-choice member_outline m.up (with_node m (end_outcome m.node)) m
    ∙ at_test m.up _ _ _ (λ u i. record { up = m.up; node = end_by_lem m.node (h u) i })

-- a member that is up is within the ranges
fits : {s : Site} {area : List ℕ} {air : List Packet} → Sound s area air → (i : ℕ) → (get_or s.members i nobody).up ≡ true
    → Fits (get_or s.members i nobody).node
fits {s} h i u =
    let n = (get_or s.members i nobody).node in
    let r = ranges n ((h.each i).up u).range in
    record {
      from = r.setting.node-from;
      to = omega (arith, r.setting.node-to, r.setting.bounds.nodes-to);
      demand = r.demand;
      request = r.request;
    }

-- a send keeps the area's length
long-sent : {s : Site} {area : List ℕ} {air : List Packet} (j : ℕ) → Sound s area air → Acts s j → has_part area (packets s.sent) ≡ true
    → length (sent_area s area j) ≡ length area
long-sent {s} {area} j h a room =
    let n = (member_at s j).node in
    let S = (h.each (j - 1)).up (live-up (member_at s j) a.live) in
    ap length (area-placed s area j room) ∙ wire.length-placed area (packets s.sent) (packet_of n) (ranged.packet-long n S.long) room

-- the packets after an accepted event, and the scene
pub record Next (s : Site) (area : List ℕ) (air : List Packet) (e : Event) : Type 0 where
  pub then : List Packet
  pub sound : Sound (next_site s area e) (next_area s area e) then
  pub scene : scene_of (next_site s area e) (next_area s area e) then ≡ next_by (scene_of s area air) e

pub next : (s : Site) (area : List ℕ) (air : List Packet) (e : Event) → Sound s area air → answer_of s area e ≡ Done → Next s area air e
unfolding sent_site closed_site taken_site ended_site wanted_site crashed_site restarted_site
next s area air (Send j) h d =
    let a = answered s area (Send j) d in
    let b = send-accepted s j a.1 in
    let n = (member_at s j).node in
    let q : map packet_outline (air ++ (packet_of n ∷ [])) ≡ map packet_outline air ++ (sent_outline (member_in (site_outline s) j).node ∷ []) =
    map_snoc packet_outline air (packet_of n)
    ∙ ap (λ (x : PacketOutline). map packet_outline air ++ (x ∷ []))
    (sends n ∙ ap (λ (m : MemberOutline). sent_outline m.node) (member-by s j)) in
    let l = long-sent j h b.0 (send-room j h b.0 b.1 a.0) in
    record {
      then = air ++ (packet_of n ∷ []);
      sound = send-sound j h b.0 b.1 a.0;
      scene = λ i. record { site = site_outline (sent_site s j); air = q i; short = ltb (l i) area_size };
    }
next s area air (Hear j p) h d =
    let b = hear-accepted s area j p (answered s area (Hear j p) d).1 in
    let k = hear-is j p h b in
    let q = get_or air (p - 1) no_packet in
    let m = member_at s j in
    let o = heard_member_by (member_in (site_outline s) j) (packet_at (scene_of s area air) p) in
    let e : site_outline (heard_site s area j p) ≡ put_by (site_outline s) j o =
    ap site_outline (hear-as s area j p q k.1)
    ∙ put-by s j (with_node m (heard_node m.node q)) _
    ((λ i. record { up = m.up; node = hears m.node q i }) ∙ ap₂ heard_member_by (member-by s j) (packet-by air p)) in
    record {
      then = air;
      sound = hear-sound j p h b;
      scene = λ i. record { site = e i; air = map packet_outline air; short = ltb (length area) area_size };
    }
next s area air Close h d =
    let q = map-step (λ m. m ≡ m) close_member close_member_by (λ m _. close-member m) s.members (λ i. refl) in
    record {
      then = [];
      sound = close-sound h (close-accepted s (answered s area Close d).1);
      scene = λ i. record {
        site = record { config = s.config; negotiates = false; place = s.place; sent = (closed_site s).sent; members = q i };
        air = [];
        short = ltb (length area) area_size;
      };
    }
next s area air (Take j i) h d =
    let a = take-accepted s j i (answered s area (Take j i) d).1 in
    let m = member_at s j in
    let o = member_at s i in
    let q = ap₂ taken_member_by (member-by s j) (member-by s i) in
    let e = put-by s j _ _ ((λ k. record { up = m.up; node = takes m.node o.node k }) ∙ q) in
    record {
      then = air;
      sound = take-sound j i h a;
      scene = λ k. record { site = e k; air = map packet_outline air; short = ltb (length area) area_size };
    }
next s area air End h d =
    let q = map-step (λ m. m.up ≡ true → Fits m.node) end_member end_member_by end-member s.members (fits h) in
    record {
      then = [];
      sound = end-sound h (end-accepted s (answered s area End d).1);
      scene = λ i. record {
        site = record { config = s.config; negotiates = true; place = (ended_site s).place; sent = (ended_site s).sent; members = q i };
        air = [];
        short = ltb (length area) area_size;
      };
    }
next s area air (Want j x) h d =
    let m = member_at s j in
    let q = map-set_same member_outline s.members (j - 1) _ nobody (λ i. record { up = m.up; node = wants m.node x i }) in
    record {
      then = air;
      sound = want-sound j x h (want-accepted s j x (answered s area (Want j x) d).1).1;
      scene = λ i. record {
        site = record { config = s.config; negotiates = s.negotiates; place = s.place; sent = s.sent; members = q i };
        air = map packet_outline air;
        short = ltb (length area) area_size;
      };
    }
next s area air (Crash j) h d =
    let e = put-by s j _ _ refl in
    record {
      then = air;
      sound = crash-sound j h;
      scene = λ i. record { site = e i; air = map packet_outline air; short = ltb (length area) area_size };
    }
next s area air (Restart j flags) h d =
    let e = put-by s j _ _ refl in
    record {
      then = air;
      sound = restart-sound j flags h (restart-accepted s j flags (answered s area (Restart j flags) d).1);
      scene = λ i. record { site = e i; air = map packet_outline air; short = ltb (length area) area_size };
    }
