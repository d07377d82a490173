-- A site in a calm epoch: each event keeps its members calm.
-- Assumes nothing.
use mathlib.Core.Path.{◌≡◌, refl, sym, ap, ap₂, ◌∙◌, subst}
use mathlib.Core.Bool.{Bool, true, false, not, ◌&&◌, ◌||◌}
use mathlib.Core.Logic.{◌⊎◌}
use mathlib.Core.List.{List, [], ◌∷◌, ◌++◌}
use Prim.Native.Nat.{ℕ, suc, ◌+◌, ◌-◌, ◌^◌, ◌≤◌, ◌<◌}
use native.Mathlib.Omega.{arith}
use native.Mathlib.Decide.{dec_lt}
use lib.ListN.{get_or, set, length, replicate, length-set, get_or-eq_default}
use Rattle.words.specs.Bits.{has_bit, with_bit, digit, is_inside}
use Rattle.words.proofs.Tests.{met?, clash, same_or_not, and_left, implied}
use lib.Seq.{get_or-set_same, get_or-set_other}
use Rattle.lists.proofs.Laws.{get_d-zeros, all-at}
use Rattle.lists.proofs.Every.{every_set, every_more}
use Rattle.allotment.specs.Allotment.{top_request}
use Rattle.allotment.specs.Model.{Schedule}
use Rattle.node.specs.Figures.{top_version, is_last, is_waiting, negotiates, sending}
use Rattle.node.specs.Negotiation.{packet_of, heard_node}
use Rattle.node.specs.Begin.{waiting}
use Rattle.range.specs.Range.{in_range}
use Rattle.node.specs.End.{ended_node}
use Rattle.node.specs.Distribution.{taken_node, sent_by}
use Rattle.node.specs.Steps.{wanted_node}
use Rattle.node.specs.declared.Phase.{Phase}
use Rattle.node.specs.declared.Setup.{Setup}
use Rattle.node.specs.Model.{Node}
use Rattle.node.specs.declared.Packet.{Packet}
use Rattle.node.proofs.Laws.{wants, hears, takes, closes-so}
use Rattle.node.proofs.Made.{restarted}
use Rattle.node.proofs.Ended.{end-asleep, end-talks}
use Rattle.site.specs.Members.{nobody, setup_of, member_at, is_live, with_node, down_member, put}
use Rattle.site.specs.Steps.{sent_site, close_member, closed_site, taken_site, end_member, ended_site, wanted_site, crashed_site, restarted_site}
use Rattle.node.specs.declared.Config.{Config}
use Rattle.site.specs.Model.{Member}
use Rattle.site.specs.Model.{Site}
use Rattle.site.proofs.Accepted.{Takes}
use Rattle.node.proofs.Bounds.{bounds}
use Rattle.site.proofs.Steps.{member-closed, closed-live, closed-other, member-ended, ended-up, ended-down}
use Rattle.recovery.specs.Calm.{Watch, all_heard}
use Rattle.histories.proofs.Tests.{either}
use Rattle.histories.proofs.Sets.{In, in-with, inside-at}
use Rattle.histories.proofs.Members.{member, live-up, awake, is_live_lem, asleep, down, live_same}
use Rattle.histories.proofs.Sound.{Sound, no_packet}
use Rattle.histories.proofs.Steady.{Steady, rests, steady-last, steady-met}
use Rattle.recovery.proofs.Member as calm

module _ (f : Config) (L v : ℕ) (S : Schedule) (q : ℕ → ℕ) where
  -- the member at an index: who is live is a member of the epoch, and the other way round
  pub record One (neg late : Bool) (ear full : ℕ) (i : ℕ) (m : Member) : Type 0 where
    pub who : is_live m ≡ true → In L i
    pub all : In L i → is_live m ≡ true
    pub still : In L i → late ≡ false → calm.Still f L v S q neg ear full i m.node
    pub sent : In L i → late ≡ true → 0 < full → calm.Sent f L v S q full i m.node

  -- the last close has been
  abbrev pub late : Site → Bool
  late s = not s.negotiates && is_last f s.place

  pub record Quiet (s : Site) (air : List Packet) (r : Watch) : Type 0 where
    pub config : s.config ≡ f
    pub long : length r.heard ≡ 32
    pub each : (i : ℕ) → One s.negotiates (late s) (get_or r.heard i 0) r.full i (member s i)
    pub packets : (p : ℕ) → p < length air → calm.SeenIn f L v S q (get_or air p no_packet)

  -- of a member that is no member of the epoch nothing is asked
  other : {neg late : Bool} {ear full : ℕ} {i : ℕ} (m : Member) → is_live m ≡ false → (In L i → ⊥) → One neg late ear full i m
  other m e out = record {
    who = λ l. clash (is_live m) l e;
    all = λ h. absurd (out h);
    still = λ h. absurd (out h);
    sent = λ h. absurd (out h);
  }

  one_at : {neg late : Bool} {ear full : ℕ} {i : ℕ} {m n : Member} → m ≡ n → One neg late ear full i n → One neg late ear full i m
  one_at e h = rw e h

  -- a live member stands in the list
  in_list : (l : List Member) (i : ℕ) → is_live (get_or l i nobody) ≡ true → i < length l
  in_list l i e = go (dec_lt i (length l))
    where
      go : Dec (i < length l) → i < length l
      go (yes h) = h
      go (no h) = clash (is_live (get_or l i nobody)) e (ap is_live (get_or-eq_default l nobody {n = i} (omega arith)))

  -- one member changes
  swapped : {s : Site} {air : List Packet} {r : Watch} (j : ℕ) (m : Member) → Quiet s air r
      → One s.negotiates (late s) (get_or r.heard (j - 1) 0) r.full (j - 1) m → Quiet (put s j m) air r
  swapped {s} {air} {r} j m Q h = record {
    config = Q.config;
    long = Q.long;
    each = every_set (λ i m. One s.negotiates (late s) (get_or r.heard i 0) r.full i m) nobody s.members (j - 1) m Q.each h;
    packets = Q.packets;
  }

  module _ (small : f.nodes ≤ 32) (fits : L < 2 ^ f.nodes) (enough : calm.Enough f L) (below : v < top_version)
      (asks : (k : ℕ) → In L k → q k ≤ top_request) where
    -- a want
    pub quiet-want : {s : Site} {air : List Packet} {r : Watch} (j d : ℕ) → Quiet s air r → Quiet (wanted_site s j d) air r
    unfolding wanted_site
    quiet-want {s} {air} {r} j d Q =
        let m = member_at s j in
        let A = Q.each (j - 1) in
        let e = live_same m (wanted_node m.node d) (wants m.node d).phase in
        swapped j (with_node m (wanted_node m.node d)) Q (record {
          who = λ l. A.who (sym e ∙ l);
          all = λ h. e ∙ A.all h;
          still = λ h t. calm.still-want f L v S q small fits enough below asks (j - 1) m.node s.negotiates
              (get_or r.heard (j - 1) 0) r.full d (A.still h t);
          sent = λ h t u. calm.sent-want f L v S q small fits enough below asks (j - 1) m.node r.full d (A.sent h t u);
        })

    -- a crash of a node that is no member
    pub quiet-crash : {s : Site} {air : List Packet} {r : Watch} (j : ℕ) → (In L (j - 1) → ⊥) → Quiet s air r
        → Quiet (crashed_site s j) air r
    unfolding crashed_site
    quiet-crash {s} j out Q = swapped j (down_member s.config j) Q (other (down_member s.config j) refl out)

    -- a restart of a node that is down
    pub quiet-restart : {s : Site} {air : List Packet} {r : Watch} (j flags : ℕ) → (member_at s j).up ≡ false → Quiet s air r
        → Quiet (restarted_site s j flags) air r
    unfolding restarted_site
    quiet-restart {s} j flags u Q =
        let m : Member = record { up = true; node = waiting (setup_of s.config j) flags s.place 0 } in
        swapped j m Q (other m (asleep m (ap is_waiting (restarted (setup_of s.config j) flags s.place 0).phase))
        (λ h. clash (member_at s j).up (and_left _ _ ((Q.each (j - 1)).all h)) u))

    -- a send
    pub quiet-send : {s : Site} {air : List Packet} {r : Watch} (j : ℕ) → is_live (member_at s j) ≡ true → s.negotiates ≡ true
        → Quiet s air r → Quiet (sent_site s j) (air ++ (packet_of (member_at s j).node ∷ [])) r
    unfolding sent_site
    quiet-send {s} {air} {r} j l t Q =
        let n = (member_at s j).node in
        let A = Q.each (j - 1) in
        let h = A.who l in
        let e : late s ≡ false = ap (λ (b : Bool). not b && is_last f s.place) t in
        let B = A.still h e in
        record {
          config = Q.config;
          long = Q.long;
          each = Q.each;
          packets = every_more (calm.SeenIn f L v S q) no_packet air (packet_of n) Q.packets
              (calm.seen-packet f L v S q small fits enough below asks (j - 1) n h B.setup (B.seen t));
        }

    -- a hear
    pub quiet-hear : {s : Site} {air : List Packet} {r : Watch} (j : ℕ) (p : Packet) → is_live (member_at s j) ≡ true → s.negotiates ≡ true
        → calm.SeenIn f L v S q p → Quiet s air r
        → Quiet (put s j (with_node (member_at s j) (heard_node (member_at s j).node p))) air (record {
          heard = set r.heard (j - 1) (with_bit (get_or r.heard (j - 1) 0) (p.sender - 1));
          full = r.full;
          crashed = r.crashed;
          over = r.over;
        })
    quiet-hear {s} {air} {r} j p l t B Q =
        let n = (member_at s j).node in
        let m = member_at s j in
        let A = Q.each (j - 1) in
        let h = A.who l in
        let lt : j - 1 < 32 = calm.index-lt f L v S q small fits enough below asks (j - 1) h in
        let e : late s ≡ false = ap (λ (b : Bool). not b && is_last f s.place) t in
        let w = live_same m (heard_node n p) (hears n p).phase in
        let C : calm.Still f L v S q true (with_bit (get_or r.heard (j - 1) 0) (p.sender - 1)) r.full (j - 1) (heard_node n p)
        = calm.still-hear f L v S q small fits enough below asks (j - 1) n p (get_or r.heard (j - 1) 0) r.full h
        (rw t at (A.still h e)) B in
        let new : One s.negotiates (late s) (with_bit (get_or r.heard (j - 1) 0) (p.sender - 1)) r.full (j - 1)
        (with_node m (heard_node n p)) = record {
          who = λ x. h;
          all = λ x. w ∙ l;
          still = λ x y. rw t C;
          sent = λ x y. clash (late s) y e;
        } in
        record {
          config = Q.config;
          long = length-set r.heard (j - 1) _ ∙ Q.long;
          each = λ i. same_or_not i (j - 1)
              (λ z. subst (λ (k : ℕ). One s.negotiates (late s) (get_or (set r.heard (j - 1)
              (with_bit (get_or r.heard (j - 1) 0) (p.sender - 1))) k 0) r.full k
              (get_or (set s.members (j - 1) (with_node m (heard_node n p))) k nobody)) (sym z)
              (rw (
                get_or-set_same r.heard (j - 1) (with_bit (get_or r.heard (j - 1) 0) (p.sender - 1)) 0 (omega (arith, Q.long)),
                get_or-set_same s.members (j - 1) (with_node m (heard_node n p)) nobody (in_list s.members (j - 1) l),
              ) new))
              (λ z. rw (
                get_or-set_other r.heard (j - 1) i (with_bit (get_or r.heard (j - 1) 0) (p.sender - 1)) 0 z,
                get_or-set_other
                    s.members (j - 1) i (with_node m (heard_node n p)) nobody z,
              ) (Q.each i));
          packets = Q.packets;
        }

    -- a close
    heard-by : (heard : List ℕ) → all_heard L heard ≡ true → (i : ℕ) → In L i → (k : ℕ) → In L k → In (get_or heard i 0) k ⊎ (k ≡ i)
    unfolding all_heard
    heard-by heard e i h k m =
        let li = calm.index-lt f L v S q small fits enough below asks i h in
        let lk = calm.index-lt f L v S q small fits enough below asks k m in
        let x : is_inside L (with_bit (get_or heard i 0) i) ≡ true = implied (has_bit L i) _
        (all-at 32 (λ i. not (has_bit L i) || is_inside L (with_bit (get_or heard i 0) i)) e i li) h.is in
        in-with (get_or heard i 0) i k li lk (inside-at L (with_bit (get_or heard i 0) i) k x m)

    place_of : {s : Site} {area : List ℕ} {air : List Packet} → Sound s area air → (i : ℕ) → is_live (member s i) ≡ true
        → (member s i).node.epoch.place ≡ s.place
    place_of {s} h i l = ((h.each i).up (and_left _ _ l)).place

    pub quiet-close : {s : Site} {area : List ℕ} {air : List Packet} {r : Watch} → Sound s area air → s.negotiates ≡ true → Quiet s air r
        → Quiet (closed_site s) [] (record {
          heard = r.heard;
          full = r.full + digit (all_heard L r.heard);
          crashed = r.crashed;
          over = r.over;
        })
    unfolding closed_site
    quiet-close {s} {area} {air} {r} sound t Q = record {
      config = Q.config;
      long = Q.long;
      each = λ i. one_at (member-closed s i) (one i (member s i) refl (Q.each i));
      packets = λ p l. absurd (omega arith);
    }
      where
        early : late s ≡ false
        early = ap (λ (b : Bool). not b && is_last f s.place) t

        one : (i : ℕ) (m : Member) → m ≡ member s i → One s.negotiates (late s) (get_or r.heard i 0) r.full i m
            → One false (is_last f s.place) (get_or r.heard i 0) (r.full + digit (all_heard L r.heard)) i (close_member m)
        one i m z A = either (met? (is_live m)) yes-case (λ y. one_at (closed-other m y) (other m y (λ h. clash (is_live m) (A.all h) y)))
          where
            n : Node
            n = m.node

            yes-case : is_live m ≡ true → One false (is_last f s.place) (get_or r.heard i 0)
                (r.full + digit (all_heard L r.heard)) i (close_member m)
            yes-case y =
                let h = A.who y in
                let B : calm.Still f L v S q true (get_or r.heard i 0) r.full i n = rw t at (A.still h early) in
                let pl : n.epoch.place ≡ s.place = ap (λ (x : Member). x.node.epoch.place) z
                ∙ place_of sound i (sym (ap is_live z) ∙ y) in
                let lastn : is_last n.setup.config n.epoch.place ≡ is_last f s.place =
                ap₂ is_last (ap (λ (s : Setup). s.config) B.setup) pl in
                let good : in_range n ≡ true = ap (λ (x : Member). in_range x.node) z
                ∙ ((sound.each i).up (and_left _ _ (sym (ap is_live z) ∙ y))).range in
                let g : all_heard L r.heard ≡ true → (k : ℕ) → In L k → In (get_or r.heard i 0) k
                ⊎ (k ≡ i) = λ e. heard-by r.heard e i h in
                one_at (closed-live m y B.phase) (record {
                  who = λ _. h;
                  all = λ _. ap (λ (p : Phase). m.up && not (is_waiting p)) (closes-so n).phase
                      ∙ ap (λ (b : Bool). b && true) (and_left m.up (not (is_waiting m.node.phase)) y);
                  still = λ _ e. calm.still-close f L v S q small fits enough below asks i n (get_or r.heard i 0) r.full h B
                      (all_heard L r.heard) g good (lastn ∙ e);
                  sent = λ _ e u. calm.sent-close f L v S q small fits enough below asks i n (get_or r.heard i 0) r.full h B
                      (all_heard L r.heard) g good (lastn ∙ e) u;
                })

    -- nothing is taken
    pub quiet-take : {s : Site} {air : List Packet} {r : Watch} (j i : ℕ) → Takes s j i → Quiet s air r → Quiet (taken_site s j i) air r
    unfolding taken_site
    quiet-take {s} {air} {r} j i a Q =
        let m = member_at s j in
        let x = member_at s i in
        let A = Q.each (j - 1) in
        let B = Q.each (i - 1) in
        swapped j (with_node m (taken_node m.node (sent_by x.node))) Q
        (either (met? (late s))
        (λ t. same_or_not r.full 0
        (λ u. record {
          who = λ _. A.who a.live;
          all = λ _. live_same m (taken_node m.node (sent_by x.node)) (takes m.node (sent_by x.node)).phase ∙ a.live;
          still = λ _ e. clash (late s) t e;
          sent = λ _ _ e. absurd (omega (arith, u, e));
        })
        (λ u. clash (sending m.node.phase) (A.sent (A.who a.live) t (omega (arith, u))).sends a.silent))
        (λ t. clash (sending x.node.phase) a.sends (B.still (B.who a.other) t).silent))

    -- the next round
    pub quiet-end : {s : Site} {area : List ℕ} {air : List Packet} {r : Watch} → Sound s area air → s.negotiates ≡ false
        → is_last f s.place ≡ false → Quiet s air r
        → Quiet (ended_site s) [] (record { heard = replicate 32 0; full = r.full; crashed = r.crashed; over = r.over })
    unfolding ended_site
    quiet-end {s} {area} {air} {r} sound t l Q = record {
      config = Q.config;
      long = refl;
      each = λ i. one_at (member-ended s i) (subst (λ (x : ℕ). One true false x r.full i (end_member (member s i)))
          (sym (get_d-zeros 32 i)) (one i (member s i) refl (Q.each i)));
      packets = λ p l. absurd (omega arith);
    }
      where
        early : late s ≡ false
        early = ap₂ (λ (b c : Bool). not b && c) t l

        one : (i : ℕ) (m : Member) → m ≡ member s i → One s.negotiates (late s) (get_or r.heard i 0) r.full i m
            → One true false 0 r.full i (end_member m)
        one i m z A = either (met? m.up)
            (λ u.
            let st = steady u in
            let last = steady-last st ∙ ap (λ (g : Config). is_last g s.place) Q.config ∙ l in
            one_at (ended-up m u (rests st)) (either (met? (is_waiting m.node.phase))
            (λ y. other (with_node m (ended_node m.node)) (asleep (with_node m (ended_node m.node)) (end-asleep m.node y last))
            (λ h. clash (is_waiting m.node.phase) y (awake m (A.all h))))
            (λ y.
            let h = A.who (is_live_lem m u y) in
            let C : calm.Still f L v S q false (get_or r.heard i 0) r.full i m.node = rw t at (A.still h early) in
            record {
              who = λ _. h;
              all = λ _. is_live_lem (with_node m (ended_node m.node)) u (ap is_waiting (end-talks m.node y));
              still = λ _ _. calm.still-round f L v S q small fits enough below asks i m.node (get_or r.heard i 0) r.full h y last C;
              sent = λ _ e. clash false e refl;
            })))
            (λ u. one_at (ended-down m u) (other m (down m u) (λ h. clash m.up (live-up m (A.all h)) u)))
          where
            steady : m.up ≡ true → Steady s.config false s.place i m.node
            steady u = subst (λ (x : Member). Steady s.config false s.place i x.node) (sym z)
                (subst (λ (b : Bool). Steady s.config b s.place i (member s i).node) t
                ((sound.each i).up (sym (ap (λ (x : Member). x.up) z) ∙ u)))

    -- the last end
    pub risen : {s : Site} {area : List ℕ} {air : List Packet} {r : Watch} → Sound s area air → s.negotiates ≡ false
        → is_last f s.place ≡ true → 0 < r.full → Quiet s air r → (i : ℕ) → In L i
        → (is_live (member (ended_site s) i) ≡ true) × ((member (ended_site s) i).node.version ≡ suc v)
        × ((member (ended_site s) i).node.schedule ≡ calm.fresh f L v S q)
        × (f.min_heard ≤ r.full → (member (ended_site s) i).node.flags ≡ L)
    risen {s} {area} {air} {r} sound t l u Q i h =
        subst (λ (m : Member). (is_live m ≡ true) × (m.node.version ≡ suc v) × (m.node.schedule ≡ calm.fresh f L v S q)
        × (f.min_heard ≤ r.full → m.node.flags ≡ L)) (sym (member-ended s i ∙ ended-up m up (rests st))) (
          is_live_lem (with_node m (ended_node n)) up (ap is_waiting (end-talks n w)),
          k.0,
          k.1,
          λ e. calm.flags-again f L v S q small fits
              enough below asks i n r.full h w last B some e,
        )
      where
        m : Member
        m = member s i

        n : Node
        n = m.node

        A : One s.negotiates (late s) (get_or r.heard i 0) r.full i (member s i)
        A = Q.each i

        B : calm.Sent f L v S q r.full i (member s i).node
        B = A.sent h (ap₂ (λ (b c : Bool). not b && c) t l) u

        w : is_waiting (member s i).node.phase ≡ false
        w = awake (member s i) (A.all h)

        up : (member s i).up ≡ true
        up = live-up (member s i) (A.all h)

        st : Steady s.config false s.place i (member s i).node
        st = subst (λ (b : Bool). Steady s.config b s.place i (member s i).node) t ((sound.each i).up up)

        last : is_last (member s i).node.setup.config (member s i).node.epoch.place ≡ true
        last = steady-last st ∙ ap (λ (g : Config). is_last g s.place) Q.config ∙ l

        some : 1 ≤ f.min_heard
        some = subst (λ (x : Config). 1 ≤ x.min_heard) Q.config (bounds s.config sound.config).heard-from

        k : ((ended_node (member s i).node).version ≡ suc v) × ((ended_node (member s i).node).schedule ≡ calm.fresh f L v S q)
        k = calm.keeps f L v S q small fits enough below asks i (member s i).node r.full h w last B
            (subst (λ (x : Config). (member s i).node.epoch.interactions < 2 ^ x.nodes) Q.config (steady-met st))
