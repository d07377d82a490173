-- The events of a calm epoch: each keeps the members calm.
-- Assumes nothing.
use mathlib.Core.Path.{◌≡◌, refl, sym, ap, ◌∙◌, subst}
use mathlib.Core.Bool.{Bool, true, false, cond}
use mathlib.Core.List.{List, [], ◌∷◌, ◌++◌}
use Prim.Native.Nat.{ℕ, ◌-◌, ◌^◌, ◌≤◌, ◌<◌}
use borrow.Author.Tests.{lt-ltb}
use lib.ListN.{get_or, set}
use Rattle.words.specs.Bits.{with_bit, is_in}
use Rattle.words.proofs.Tests.{clash, both, or-neither}
use Rattle.allotment.specs.Allotment.{top_request}
use Rattle.allotment.specs.Model.{Schedule}
use Rattle.node.specs.Answers.{is_done}
use Rattle.node.specs.Figures.{top_version, is_last}
use Rattle.node.specs.Negotiation.{packet_of, heard_node}
use Rattle.node.specs.declared.Packet.{Packet}
use Rattle.node.specs.Answers.{Done}
use Rattle.node.proofs.Answers.{done-is}
use Rattle.wire.specs.Layout.{packet_in}
use Rattle.site.specs.Members.{header_of, member_at, with_node, put}
use Rattle.site.specs.Parts.{packet_part}
use Rattle.site.specs.Answers.{answer_of}
use Rattle.site.specs.Steps.{heard_site, next_site, next_area, site_after, area_after}
use Rattle.site.specs.Run.{RunState, after, run}
use Rattle.node.specs.declared.Config.{Config}
use Rattle.site.specs.Model.{Site}
use Rattle.site.specs.declared.Event.{Event}
use Rattle.site.specs.declared.Event.TheVariants.{Send, Hear, Close, Take, End, Want, Crash, Restart}
use Rattle.site.proofs.Steps.{hear-as}
use Rattle.site.proofs.Accepted.{answered, send-accepted, hear-accepted, close-accepted, take-accepted, end-accepted, want-accepted}
use Rattle.site.proofs.Accepted.{crash-accepted, restart-accepted}
use Rattle.recovery.specs.Calm.{Watch, watching, watch_after, watched}
use Rattle.histories.proofs.Sets.{In}
use Rattle.histories.proofs.Members.{inside}
use Rattle.histories.proofs.Sound.{Sound, no_packet, hear-is, send-sound, hear-sound, close-sound, take-sound, end-sound, want-sound}
use Rattle.histories.proofs.Sound.{crash-sound, restart-sound}
use Rattle.recovery.proofs.Member as calm
use Rattle.recovery.proofs.Site as site

-- What was noted of a crash or of the epoch's end stays noted

pub record Clear (r : Watch) : Type 0 where
  pub over : r.over ≡ false
  pub crashed : r.crashed ≡ false

clear-back : (L : ℕ) (r : Watch) (s : Site) (area : List ℕ) (e : Event) → Clear (watching L r s area e) → Clear r
clear-back L r s area (Send j) c = c
clear-back L r s area (Hear j p) c = record { over = c.over; crashed = c.crashed }
clear-back L r s area Close c = record { over = c.over; crashed = c.crashed }
clear-back L r s area (Take j i) c = c
clear-back L r s area End c = record { over = (or-neither r.over _ c.over).0; crashed = c.crashed }
clear-back L r s area (Want j d) c = c
clear-back L r s area (Crash j) c = record { over = c.over; crashed = (or-neither r.crashed _ c.crashed).0 }
clear-back L r s area (Restart j flags) c = c

clear_step : (L : ℕ) (r : Watch) (w : RunState) (e : Event) → Clear (watch_after L r w e) → Clear r
unfolding watch_after
clear_step L r w e c = go (is_done (answer_of w.site w.area e)) c
  where
    go : (t : Bool) → Clear (cond t (watching L r w.site w.area e) r) → Clear r
    go true c = clear-back L r w.site w.area e c
    go false c = c

clear-start : (L : ℕ) (r : Watch) (w : RunState) (es : List Event) → Clear (watched L r w es) → Clear r
unfolding watched
clear-start L r w [] c = c
clear-start L r w (e ∷ es) c = clear_step L r w e (clear-start L (watch_after L r w e) (after w e) es c)

-- The events of the epoch

module _ (f : Config) (L v : ℕ) (S : Schedule) (q : ℕ → ℕ) (small : f.nodes ≤ 32) (fits : L < 2 ^ f.nodes) (enough : calm.Enough f L)
    (below : v < top_version) (asks : (k : ℕ) → In L k → q k ≤ top_request) where
  pub record Going (r : Watch) (s : Site) (area : List ℕ) : Type 0 where
    pub air : List Packet
    pub sound : Sound s area air
    pub quiet : site.Quiet f L v S q s air r

  hear-quiet : (s : Site) (area : List ℕ) (air : List Packet) (r : Watch) (j p : ℕ)
      → packet_in (packet_part (header_of s) area p) ≡ get_or air (p - 1) no_packet
      → site.Quiet f L v S q (put s j (with_node (member_at s j) (heard_node (member_at s j).node (get_or air (p - 1) no_packet)))) air (record {
        heard = set r.heard (j - 1) (with_bit (get_or r.heard (j - 1) 0) ((get_or air (p - 1) no_packet).sender - 1));
        full = r.full;
        crashed = r.crashed;
        over = r.over;
      })
      → site.Quiet f L v S q (heard_site s area j p) air (watching L r s area (Hear j p))
  hear-quiet s area air r j p e h =
      let heard : Packet → Watch = λ x. record {
        heard = set r.heard (j - 1) (with_bit (get_or r.heard (j - 1) 0) (x.sender - 1));
        full = r.full;
        crashed = r.crashed;
        over = r.over;
      } in
      let q' = get_or air (p - 1) no_packet in
      subst (λ (x : Packet). site.Quiet f L v S q (heard_site s area j p) air (heard x)) (sym e)
      (subst (λ (t : Site). site.Quiet f L v S q t air (heard q')) (sym (hear-as s area j p q' e)) h)

  goes : (r : Watch) (s : Site) (area : List ℕ) (e : Event) → Going r s area → answer_of s area e ≡ Done → Clear (watching L r s area e)
      → Going (watching L r s area e) (next_site s area e) (next_area s area e)
  goes r s area (Send j) h d c =
      let a = answered s area (Send j) d in
      let b = send-accepted s j a.1 in
      record {
        air = h.air ++ (packet_of (member_at s j).node ∷ []);
        sound = send-sound j h.sound b.0 b.1 a.0;
        quiet = site.quiet-send f L v S q small fits enough below asks j b.0.live b.0.phase h.quiet;
      }
  goes r s area (Hear j p) h d c =
      let b = hear-accepted s area j p (answered s area (Hear j p) d).1 in
      let k = hear-is j p h.sound b in
      record {
        air = h.air;
        sound = hear-sound j p h.sound b;
        quiet = hear-quiet s area h.air r j p k.1 (site.quiet-hear f L v S q small fits enough below asks j
            (get_or h.air (p - 1) no_packet) b.acts.live b.acts.phase (h.quiet.packets (p - 1) k.0) h.quiet);
      }
  goes r s area Close h d c =
      let t = close-accepted s (answered s area Close d).1 in
      record {
        air = [];
        sound = close-sound h.sound t;
        quiet = site.quiet-close f L v S q small fits enough below asks h.sound t h.quiet;
      }
  goes r s area (Take j i) h d c =
      let a = take-accepted s j i (answered s area (Take j i) d).1 in
      record {
        air = h.air;
        sound = take-sound j i h.sound a;
        quiet = site.quiet-take f L v S q small fits enough below asks j i a h.quiet;
      }
  goes r s area End h d c =
      let t = end-accepted s (answered s area End d).1 in
      let o = or-neither r.over (is_last s.config s.place) c.over in
      let l : is_last f s.place ≡ false = sym (ap (λ (g : Config). is_last g s.place) h.quiet.config)
      ∙ o.1 in
      let Q = site.quiet-end f L v S q small fits enough below asks h.sound t l h.quiet in
      record {
        air = [];
        sound = end-sound h.sound t;
        quiet = record { config = Q.config; long = Q.long; each = Q.each; packets = Q.packets };
      }
  goes r s area (Want j x) h d c =
      let a = want-accepted s j x (answered s area (Want j x) d).1 in
      record {
        air = h.air;
        sound = want-sound j x h.sound a.1;
        quiet = site.quiet-want f L v S q small fits enough below asks j x h.quiet;
      }
  goes r s area (Crash j) h d c =
      let o : is_in L j ≡ false = (or-neither r.crashed (is_in L j) c.crashed).1 in
      let Q = site.quiet-crash f L v S q small fits enough below asks j (crash-out s area j o d) h.quiet in
      record {
        air = h.air;
        sound = crash-sound j h.sound;
        quiet = record { config = Q.config; long = Q.long; each = Q.each; packets = Q.packets };
      }
    where
      crash-out : (s : Site) (area : List ℕ) (j : ℕ) → is_in L j ≡ false → answer_of s area (Crash j) ≡ Done → In L (j - 1) → ⊥
      crash-out s area j o d h = let l : 1 ≤ j = (inside s j (crash-accepted s j (answered s area (Crash j) d).1).node).0 in clash
          (is_in L j) (both (lt-ltb 0 j l) h.is) o
  goes r s area (Restart j flags) h d c =
      let a = restart-accepted s j flags (answered s area (Restart j flags) d).1 in
      record {
        air = h.air;
        sound = restart-sound j flags h.sound a;
        quiet = site.quiet-restart f L v S q small fits enough below asks j flags a.down h.quiet;
      }

  goes_on : (w : RunState) (r : Watch) (e : Event) → Going r w.site w.area → Clear (watch_after L r w e)
      → Going (watch_after L r w e) (after w e).site (after w e).area
  unfolding watch_after site_after area_after
  goes_on w r e h c = go (is_done (answer_of w.site w.area e)) refl c
    where
      go : (t : Bool) → is_done (answer_of w.site w.area e) ≡ t → Clear (cond t (watching L r w.site w.area e) r)
          → Going (cond t (watching L r w.site w.area e) r) (cond t (next_site w.site w.area e) w.site)
          (cond t (next_area w.site w.area e) w.area)
      go true d c = goes r w.site w.area e h (done-is _ d) c
      go false d c = h

  pub goes_through : (w : RunState) (r : Watch) (es : List Event) → Going r w.site w.area → Clear (watched L r w es)
      → Going (watched L r w es) (run w es).site (run w es).area
  unfolding watched run
  goes_through w r [] h c = h
  goes_through w r (e ∷ es) h c = goes_through (after w e) (watch_after L r w e) es
      (goes_on w r e h (clear-start L (watch_after L r w e) (after w e) es c)) c
