-- An accepted call of a site keeps the counts of the group, what the other sites mirror, and what the site itself mirrors: the same call
-- with an area of its own.
-- Assumes nothing.
use mathlib.Core.Path.{◌≡◌, refl, sym, ap, ◌∙◌, subst}
use mathlib.Core.Bool.{true, false, not, cond}
use mathlib.Core.Logic.{◌≢◌, ⊎_elim}
use mathlib.Core.List.{List}
use Prim.Native.Nat.{ℕ, ◌+◌, ◌-◌, ◌*◌, ◌≤◌, ◌<◌}
use native.Mathlib.Omega.{arith}
use borrow.Author.Tests.{le-leb}
use lib.ListN.{length, get_or, set}
use Rattle.words.proofs.Tests.{hit, and_left, same_or_not}
use Rattle.node.specs.Answers.{is_done}
use Rattle.node.specs.Negotiation.{packet_of}
use Rattle.node.specs.declared.Packet.{Packet}
use Rattle.wire.specs.Layout.{packet_size}
use Rattle.wire.specs.Reads.{part_of, placed, has_part}
use Rattle.wire.proofs.Laws.{same-part, other-part, length-placed}
use Rattle.site.specs.Counts.{packets}
use Rattle.site.specs.Members.{member_at}
use Rattle.site.specs.Answers.{area_size}
use Rattle.site.specs.Steps.{stored, area_after}
use Rattle.site.specs.Events.{is_close}
use Rattle.site.specs.declared.Event.{Event}
use Rattle.site.specs.declared.Event.TheVariants.{Send, Hear, Close, Take, End, Want, Crash, Restart}
use Rattle.windows.specs.declared.Window.{Window}
use Rattle.machine.specs.timed.Timed.{Timed, timed_answer, timed_after}
use Rattle.machine.specs.timed.Calls.{Call, TimedState, after_call}
use Rattle.group.specs.Places.{top_places, entry, place, place_filled}
use Rattle.group.specs.Group.{SiteSlot, Empty, Taken, Group, is_number, site_slot_of, packets_in, packet_place, own_area}
use Rattle.group.specs.Calls.{SiteCall, is_send, plain_answer, is_crowded, group_accepts}
use Rattle.group.specs.Steps.{next_by}
use Rattle.group.proofs.Places.{place-new, freed-from}
use Rattle.group.proofs.Parts.{own-part, own-long, place-part}
use Rattle.group.proofs.Looks.{Alike, timed-answer, timed-after}
use Rattle.group.proofs.Lawful.{Lawful}
use Rattle.group.proofs.Ground.{Ground, Mirror, number_is, site-is, site-slot-same, bound}
use Rattle.group.proofs.Changes.{stays, stays-ground, stays-other, frees, frees-ground, frees-other, fills, free_part, fills-ground}
use Rattle.group.proofs.Changes.{kept-place, kept-part, kept_fresh, fills-other}
use Rattle.group.proofs.Sites.{area-kept, sent-kept, closed-sent, sender, sent-more, sent-area}
use Rattle.group.proofs.Admits.{site-slot-answer, unshort, finds}

-- a call of number b made h of g, and site b mirrors w then
pub record Stepped (g h : Group) (b : ℕ) (w : TimedState) : Type 0 where
  pub ground : Ground h
  pub others : (a : ℕ) (v : TimedState) → a ≢ b → Mirror g a v → Mirror h a v
  pub itself : Mirror h b w

abbrev pub call_of : Event → List Window → Call
call_of e ws = record { event = e; windows = ws }

module _ (g : Group) (G : Ground g) (b : ℕ) (w : TimedState) (M : Mirror g b w) where
  abbrev t : Timed
  t = w.timed

  abbrev n : ℕ
  n = packets w.timed.site.sent

  -- the area as the site sees it, and the one of its own
  pub alike : Alike (own_area g b n) w.area n
  alike = record {
    left = own-long g b n;
    right = M.room;
    parts = λ p l. own-part g b n p l ∙ place-part g b (p + 1) G.room (M.low p l)
        ∙ M.parts p l;
  }

  pub same_answer : (c : Call) → plain_answer g (SiteCall b c) ≡ timed_answer t w.area c.windows c.event
  same_answer c = site-slot-answer g b c t G.room M.site_slot ∙ timed-answer t (own_area g b n) w.area c.windows alike c.event

  count : packets_in (site_slot_of g b) ≡ n
  count = ap packets_in M.site_slot

  module _ (ws : List Window) (L : Lawful w.timed.site) where
    -- the site slot after an event
    abbrev x : Event → SiteSlot
    x e = Taken (timed_after t (own_area g b n) ws e)

    same-site-slot : (e : Event) → x e ≡ Taken (timed_after t w.area ws e)
    same-site-slot e = ap Taken (timed-after t (own_area g b n) w.area ws alike e)

    site-slot-is : (e : Event) → cond (is_number b) (get_or (set g.site_slots (b - 1) (x e)) (b - 1) Empty) Empty
        ≡ Taken (timed_after t w.area ws e)
    site-slot-is e = site-slot-same g.site_slots b (x e) M.number G.site_slots ∙ same-site-slot e

    -- the packets stay
    stay : (e : Event) → is_send e ≡ false → is_close e ≡ false → is_done (timed_answer t w.area ws e) ≡ true
        → Stepped g (stays g G b M.number (x e)) b (after_call w (call_of e ws))
    stay e h k d =
        let m : packets (timed_after t w.area ws e).site.sent ≡ n = sent-kept t w.area ws L e h k d in
        let r : area_after t.site w.area e ≡ w.area = area-kept t.site w.area e h in
        record {
          ground = stays-ground g G b M.number (x e) (ap packets_in (same-site-slot e) ∙ m ∙ sym count);
          others = stays-other g G b M.number (x e);
          itself = record {
            number = M.number;
            site_slot = site-slot-is e;
            room = subst (λ (y : List ℕ). area_size ≤ length y) (sym r) M.room;
            low = λ p l. M.low p (omega arith);
            parts = λ p l. M.parts p (omega arith) ∙ ap (λ (y : List ℕ). part_of y p) (sym r);
            fresh = λ i p l. M.fresh i p (omega arith);
          };
        }

    -- the packets lapse
    close : is_done (timed_answer t w.area ws Close) ≡ true
        → Stepped g (frees g G b M.number (x Close)) b (after_call w (call_of Close ws))
    close d =
        let m : packets (timed_after t w.area ws Close).site.sent ≡ 0 = closed-sent t w.area ws d in
        let r : area_after t.site w.area Close ≡ w.area = area-kept t.site w.area Close refl in
        record {
          ground = frees-ground g G b M.number (x Close) (ap packets_in (same-site-slot Close) ∙ m);
          others = frees-other g G b M.number (x Close);
          itself = record {
            number = M.number;
            site_slot = site-slot-is Close;
            room = subst (λ (y : List ℕ). area_size ≤ length y) (sym r) M.room;
            low = λ p l. absurd (omega arith);
            parts = λ p l. absurd (omega arith);
            fresh = λ i p l k e. (freed-from b g.places i (entry b p) (let z = number_is b M.number in omega (arith, z.from)) e).0
                (site-is b p k);
          };
        }

    -- one packet more
    module _ (j : ℕ) (h : group_accepts g (SiteCall b (call_of (Send j) ws)) ≡ true) where
      d : is_done (timed_answer t w.area ws (Send j)) ≡ true
      d = ap is_done (sym (same_answer (call_of (Send j) ws)))
          ∙ and_left (is_done (plain_answer g (SiteCall b (call_of (Send j) ws)))) (not (is_crowded g (SiteCall b (call_of (Send j) ws)))) h

      abbrev q : Packet
      q = packet_of (member_at t.site j).node

      long : length q.requests ≡ 32
      long = L.long j (sender t w.area ws j L d).live

      free : place 0 g.places < top_places
      free = finds g b j ws h G

      abbrev new : Group
      new = fills g G b M.number (x (Send j)) q long free

      more : packets (timed_after t w.area ws (Send j)).site.sent ≡ n + 1
      more = sent-more t w.area ws j L d

      few : n ≤ 144
      few = omega (arith, bound g G b M.number, count)

      part : has_part w.area n ≡ true
      part = le-leb (packet_size * n + packet_size) (length w.area) (omega (arith, few, M.room))

      area-is : area_after t.site w.area (Send j) ≡ placed w.area n q
      area-is = sent-area t w.area ws j L d part

      abbrev entry_new : ℕ
      entry_new = entry b (packets_in (site_slot_of g b) + 1)

      new-place : place entry_new (place_filled entry_new g.places) ≡ place 0 g.places
      new-place = place-new entry_new g.places
          (λ k. M.fresh k (packets_in (site_slot_of g b) + 1) (omega (arith, count)) (omega (arith, count, few)))
          (omega (arith, free, G.places))

      positive : (p : ℕ) → 1 ≤ entry b p
      positive p = let z = number_is b M.number in omega (arith, z.from)

      older : (p : ℕ) → p < n → entry_new ≢ entry b (p + 1)
      older p l e = omega (arith, count, e)

      newest-is : (p : ℕ) → p ≡ n → entry b (p + 1) ≡ entry_new
      newest-is p e = ap (λ (k : ℕ). entry b (k + 1)) (e ∙ sym count)

      low-new : (p : ℕ) → p < n + 1 → packet_place new b (p + 1) < top_places
      low-new p l =
          same_or_not p n
          (λ e. let z = ap (λ (c : ℕ). place c (place_filled entry_new g.places)) (newest-is p e) ∙ new-place in omega (arith, free, z))
          (λ e. let k : p < n = omega (arith, l, e)
          in let z = kept-place g G b M.number (x (Send j)) q long free (entry b (p + 1)) (positive (p + 1)) (older p k)
          in omega (arith, M.low p k, z))

      parts-new : (p : ℕ) → p < n + 1 → part_of new.area (packet_place new b (p + 1)) ≡ part_of (placed w.area n q) p
      parts-new p l =
          same_or_not p n
          (λ e.
          ap (part_of new.area) (ap (λ (c : ℕ). place c (place_filled entry_new g.places)) (newest-is p e) ∙ new-place)
          ∙ same-part g.area (place 0 g.places) q long (free_part g G b M.number (x (Send j)) q long free)
          ∙ sym (ap (part_of (placed w.area n q)) e ∙ same-part w.area n q long part))
          (λ e.
          let k : p < n = omega (arith, l, e) in
          kept-part g G b M.number (x (Send j)) q long free (entry b (p + 1)) (positive (p + 1)) (older p k) (M.low p k)
          ∙ M.parts p k
          ∙ sym (other-part w.area n q long part p e))

      filled-so : Stepped g new b (after_call w (call_of (Send j) ws))
      filled-so =
          let m : packets_in (x (Send j)) ≡ packets_in (site_slot_of g b) + 1 = ap packets_in (same-site-slot (Send j)) ∙ more
          ∙ ap (λ (k : ℕ). k + 1) (sym count) in
          record {
            ground = fills-ground g G b M.number (x (Send j)) q long free m
                (⊎_elim (λ z. omega (arith, z, m, G.shared)) (λ z. omega (arith, z, m)) (unshort g b j ws h));
            others = fills-other g G b M.number (x (Send j)) q long free;
            itself = record {
              number = M.number;
              site_slot = site-slot-is (Send j);
              room = subst (λ (y : List ℕ). area_size ≤ length y) (sym area-is)
                  (omega (arith, M.room, length-placed w.area n q long part));
              low = λ p l. low-new p (omega (arith, l, more));
              parts = λ p l. parts-new p (omega (arith, l, more)) ∙ ap (λ (y : List ℕ). part_of y p) (sym area-is);
              fresh = λ k p l m. kept_fresh g G b M.number (x (Send j)) q long free (entry b p) (λ e. omega (arith, count, l, more, e))
                  (λ i. M.fresh i p (omega (arith, l, more)) m) k;
            };
          }

      group-is : new ≡ next_by g b (Taken t) (call_of (Send j) ws)
      group-is =
          let a : placed g.area (place 0 g.places) q ≡ stored g.area (place 0 g.places) q =
          sym (hit _ _ g.area (free_part g G b M.number (x (Send j)) q long free)) in
          λ i. record {
            site_slots = set g.site_slots (b - 1) (x (Send j));
            places = place_filled (entry b (count i + 1)) g.places;
            area = a i;
          }

      send : Stepped g (next_by g b (Taken t) (call_of (Send j) ws)) b (after_call w (call_of (Send j) ws))
      send = subst (λ (h : Group). Stepped g h b (after_call w (call_of (Send j) ws))) group-is filled-so

    pub moves : (e : Event) → group_accepts g (SiteCall b (call_of e ws)) ≡ true
        → Stepped g (next_by g b (Taken t) (call_of e ws)) b (after_call w (call_of e ws))
    moves e h = go e h (ap is_done (sym (same_answer (call_of e ws)))
        ∙ and_left (is_done (plain_answer g (SiteCall b (call_of e ws)))) (not (is_crowded g (SiteCall b (call_of e ws)))) h)
      where
        go : (e : Event) → group_accepts g (SiteCall b (call_of e ws)) ≡ true → is_done (timed_answer t w.area ws e) ≡ true
            → Stepped g (next_by g b (Taken t) (call_of e ws)) b (after_call w (call_of e ws))
        go (Send j) h k = send j h
        go (Hear j p) h k = stay (Hear j p) refl refl k
        go Close h k = close k
        go (Take j i) h k = stay (Take j i) refl refl k
        go End h k = stay End refl refl k
        go (Want j v) h k = stay (Want j v) refl refl k
        go (Crash j) h k = stay (Crash j) refl refl k
        go (Restart j flags) h k = stay (Restart j flags) refl refl k
