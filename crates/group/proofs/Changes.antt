-- The three ways in which a call of number b changes a group: its places stay, they are freed, or one more is filled. The counts hold on,
-- and the sites of other numbers mirror what they did.
-- Assumes nothing.
use mathlib.Core.Path.{◌≡◌, refl, sym, ap, ◌∙◌}
use mathlib.Core.Bool.{Bool, true, false, not}
use mathlib.Core.Logic.{◌≢◌}
use mathlib.Core.List.{map}
use Prim.Native.Nat.{ℕ, ◌+◌, ◌-◌, ◌*◌, ◌≤◌, ◌<◌}
use native.Mathlib.Omega.{arith}
use borrow.Author.Tests.{le-leb, eq-eqb, ne_eqb}
use lib.Dec.{eqb}
use lib.ListN.{length, get_or, set, length-set}
use lib.Seq.{get_or-set_same, get_or-set_other}
use Rattle.words.specs.Bits.{digit}
use Rattle.words.proofs.Tests.{same_or_not}
use Rattle.allotment.specs.Allotment.{total}
use Rattle.node.specs.declared.Packet.{Packet}
use Rattle.wire.specs.Layout.{packet_size}
use Rattle.wire.specs.Reads.{part_of, placed, has_part}
use Rattle.wire.proofs.Laws.{other-part, length-placed}
use Rattle.site.specs.Counts.{packets}
use Rattle.machine.specs.timed.Calls.{TimedState}
use Rattle.group.specs.Places.{top_places, entry, site_of, place, place_filled, freed}
use Rattle.group.specs.Group.{SiteSlot, Group, is_number, site_slot_of, packets_in, common_share, beyond, packet_place}
use Rattle.group.specs.Fit.{how_often, used, used_by}
use Rattle.group.proofs.Places.{place_found, place_other, often-set, zero_of, freed-from, length-freed, place-freed, used-freed}
use Rattle.group.proofs.Places.{own-freed, other-freed}
use Rattle.group.proofs.Ground.{Ground, Mirror, number_is, site-is, site-slot-other, bound, ground-set}

module _ (g : Group) (G : Ground g) (b : ℕ) (n : is_number b ≡ true) (x : SiteSlot) where
  -- The places stay

  abbrev pub stays : Group
  stays = record { site_slots = set g.site_slots (b - 1) x; places = g.places; area = g.area }

  pub stays-ground : packets_in x ≡ packets_in (site_slot_of g b) → Ground stays
  stays-ground e = ground-set g G b n x g.places g.area G.places G.room (G.own b n ∙ sym e) (λ c m h. refl)
      (ap (λ (k : ℕ). used g.places + k) (sym e)) (omega (arith, G.shared, e))

  pub stays-other : (a : ℕ) (w : TimedState) → a ≢ b → Mirror g a w → Mirror stays a w
  stays-other a w h M =
      record {
        number = M.number;
        site_slot = site-slot-other g.site_slots b x n a h
            ∙ M.site_slot;
        room = M.room;
        low = M.low;
        parts = M.parts;
        fresh = M.fresh;
      }

  -- The packets of a site that mirrors another have entries within their range

  in-range : (a : ℕ) (w : TimedState) → Mirror g a w → packets w.timed.site.sent ≤ 144
  in-range a w M = let e : packets_in (site_slot_of g a) ≡ packets w.timed.site.sent = ap packets_in M.site_slot
      in omega (arith, bound g G a M.number)

  -- The places are freed

  abbrev pub frees : Group
  frees = record { site_slots = set g.site_slots (b - 1) x; places = freed b g.places; area = g.area }

  pub frees-ground : packets_in x ≡ 0 → Ground frees
  frees-ground e =
      let i = number_is b n in
      ground-set g G b n x (freed b g.places) g.area (length-freed b g.places ∙ G.places) G.room
      (own-freed b g.places i.from ∙ sym e)
      (λ c m h. other-freed b c g.places (number_is c m).from h)
      (let u = used-freed b g.places i.from in omega (arith, G.own b n)) (omega (arith, G.shared))

  pub frees-other : (a : ℕ) (w : TimedState) → a ≢ b → Mirror g a w → Mirror frees a w
  frees-other a w h M =
      record {
        number = M.number;
        site_slot = site-slot-other g.site_slots b x n a h ∙ M.site_slot;
        room = M.room;
        low = λ p l. let q = same p l in let m = M.low p l in omega arith;
        parts = λ p l. ap (part_of g.area) (same p l) ∙ M.parts p l;
        fresh = λ k p l m e. M.fresh k p l m
            (freed-from b g.places k (entry a p) (let i = number_is a M.number in omega (arith, i.from)) e).1;
      }
    where
      same : (p : ℕ) → p < packets w.timed.site.sent → place (entry a (p + 1)) (freed b g.places) ≡ packet_place g a (p + 1)
      same p l =
          let s = site-is a (p + 1) (omega (arith, in-range a w M)) in
          place-freed b (entry a (p + 1)) g.places (λ e. h (sym s ∙ e)) (let i = number_is a M.number in omega (arith, i.from))

  -- One more is filled, with packet q in it

  module _ (q : Packet) (long : length q.requests ≡ 32) (free : place 0 g.places < top_places) where
    -- the entry of the new packet
    abbrev pub newest : ℕ
    newest = entry b (packets_in (site_slot_of g b) + 1)

    abbrev pub fills : Group
    fills = record {
      site_slots = set g.site_slots (b - 1) x;
      places = place_filled newest g.places;
      area = placed g.area (place 0 g.places) q;
    }

    pub free_part : has_part g.area (place 0 g.places) ≡ true
    free_part = le-leb (packet_size * place 0 g.places + packet_size) (length g.area) (omega (arith, G.room))

    was_free : get_or g.places (place 0 g.places) 0 ≡ 0
    was_free = place_found 0 g.places (omega (arith, G.places))

    -- a count of entries
    counters : (p : ℕ → Bool) → p 0 ≡ false → how_often p (place_filled newest g.places) ≡ how_often p g.places + digit (p newest)
    counters p e =
        let o = often-set p g.places (place 0 g.places) newest (omega (arith, G.places)) in
        let z : digit (p (get_or g.places (place 0 g.places) 0)) ≡ 0 = ap (λ (k : ℕ). digit (p k)) was_free ∙ ap digit e in
        omega arith

    pub fills-ground : packets_in x ≡ packets_in (site_slot_of g b) + 1 → total (map beyond g.site_slots) + beyond x ≤ common_share
        + beyond (site_slot_of g b) → Ground fills
    fills-ground e shared =
        let i = number_is b n in
        let m = bound g G b n in
        let s = site-is b (packets_in (site_slot_of g b) + 1) (omega arith) in
        let mine : used_by b (place_filled newest g.places)
        ≡ used_by b g.places + 1 = counters (λ y. eqb (site_of y) b) (zero_of b i.from)
        ∙ ap (λ (d : Bool). used_by b g.places + digit d) (eq-eqb _ _ s) in
        let all : used (place_filled newest g.places) ≡ used g.places + 1 = counters (λ y. not (eqb y 0)) refl
        ∙ ap (λ (d : Bool). used g.places + digit (not d)) (ne_eqb newest 0 (λ z. omega (arith, i.from, z))) in
        ground-set g G b n x (place_filled newest g.places) (placed g.area (place 0 g.places) q)
        (length-set g.places (place 0 g.places) newest ∙ G.places)
        (let l = length-placed g.area (place 0 g.places) q long free_part in omega (arith, G.room))
        (omega (arith, G.own b n))
        (λ c k h.
        let j = number_is c k in
        let d : digit (eqb (site_of newest) c) ≡ 0 = ap digit (ne_eqb (site_of newest) c (λ z. h (sym z ∙ s))) in
        let o : used_by c (place_filled newest g.places) ≡ used_by c g.places + digit (eqb (site_of newest) c) =
        counters (λ y. eqb (site_of y) c) (zero_of c j.from) in
        omega arith)
        (omega arith) shared

    -- an entry of another site, or of an older packet of this one, stays where it is with what lies there
    module _ (c : ℕ) (from : 1 ≤ c) (other : newest ≢ c) where
      pub kept-place : place c (place_filled newest g.places) ≡ place c g.places
      kept-place = place_other c newest g.places (place 0 g.places) (λ e. omega (arith, was_free, e)) other

      pub kept-part : place c g.places < top_places
          → part_of (placed g.area (place 0 g.places) q) (place c (place_filled newest g.places))
          ≡ part_of g.area (place c g.places)
      kept-part l =
          let f = place_found c g.places (omega (arith, G.places)) in
          ap (part_of (placed g.area (place 0 g.places) q)) kept-place
          ∙ other-part g.area (place 0 g.places) q long free_part (place c g.places)
          (λ e. let z = sym f ∙ ap (λ (k : ℕ). get_or g.places k 0) e ∙ was_free in omega arith)

    -- entries that were nowhere and are not the new one are nowhere
    pub kept_fresh : (c : ℕ) → newest ≢ c → ((k : ℕ) → get_or g.places k 0 ≢ c) → (k : ℕ) → get_or (place_filled newest g.places) k 0 ≢ c
    kept_fresh c h f k e =
        same_or_not k (place 0 g.places)
        (λ z. h (sym (get_or-set_same g.places (place 0 g.places) newest 0 (omega (arith, G.places)))
        ∙ ap (λ (i : ℕ). get_or (place_filled newest g.places) i 0) (sym z) ∙ e))
        (λ z. f k (sym (get_or-set_other g.places (place 0 g.places) k newest 0 z) ∙ e))

    pub fills-other : (a : ℕ) (w : TimedState) → a ≢ b → Mirror g a w → Mirror fills a w
    fills-other a w h M =
        record {
          number = M.number;
          site_slot = site-slot-other g.site_slots b x n a h ∙ M.site_slot;
          room = M.room;
          low = λ p l. let k = kept-place (entry a (p + 1)) (positive (p + 1)) (differs (p + 1) (omega (arith, in-range a w M))) in let m =
              M.low p l in omega arith;
          parts = λ p l. kept-part (entry a (p + 1)) (positive (p + 1)) (differs (p + 1) (omega (arith, in-range a w M))) (M.low p l)
              ∙ M.parts p l;
          fresh = λ k p l m. kept_fresh (entry a p) (differs p m) (λ i. M.fresh i p l m) k;
        }
      where
        positive : (p : ℕ) → 1 ≤ entry a p
        positive p = let i = number_is a M.number in omega (arith, i.from)

        differs : (p : ℕ) → p < 256 → newest ≢ entry a p
        differs p l e =
            let s = site-is b (packets_in (site_slot_of g b) + 1) (omega (arith, bound g G b n)) in
            h (sym (site-is a p l) ∙ ap site_of (sym e) ∙ s)
