-- What is counted in a group, and how a site in it mirrors one with an area of its own. Both are kept where one site
-- slot and its places change.
-- Assumes nothing.
use mathlib.Core.Path.{◌≡◌, sym, ap, ◌∙◌}
use mathlib.Core.Bool.{true, cond}
use mathlib.Core.Logic.{◌≢◌}
use mathlib.Core.List.{List, map}
use Prim.Native.Nat.{ℕ, ◌+◌, ◌-◌, ◌≤◌, ◌<◌}
use native.Mathlib.Omega.{arith}
use borrow.Author.Tests.{leb-true}
use lib.Dec.{leb}
use lib.ListN.{length, get_or, set, length-set}
use lib.Seq.{get_or-set_same, get_or-set_other}
use Rattle.words.proofs.Tests.{hit, at_test, and_left, and_right, same_or_not}
use Rattle.allotment.specs.Allotment.{total}
use Rattle.wire.specs.Reads.{part_of}
use Rattle.site.specs.Counts.{packets}
use Rattle.site.specs.Answers.{area_size}
use Rattle.machine.specs.timed.Calls.{TimedState}
use Rattle.group.specs.Places.{top_places, entry, site_of}
use Rattle.group.specs.Group.{SiteSlot, Empty, Taken, Group, is_number, site_slot_of, packets_in, common_share, beyond, packet_place}
use Rattle.group.specs.Fit.{used, used_by}
use Rattle.group.proofs.Shares.{total-site-slot, site-slot-total}

-- the counts of a group
pub record Ground (g : Group) : Type 0 where
  pub site_slots : length g.site_slots ≡ 8
  pub places : length g.places ≡ top_places
  pub room : area_size ≤ length g.area
  pub own : (a : ℕ) → is_number a ≡ true → used_by a g.places ≡ packets_in (site_slot_of g a)
  pub all : used g.places ≡ total (map packets_in g.site_slots)
  pub shared : total (map beyond g.site_slots) ≤ common_share

-- site a of a group is the site of w, and its packets lie in the group's area as they lie in the area of w
pub record Mirror (g : Group) (a : ℕ) (w : TimedState) : Type 0 where
  pub number : is_number a ≡ true
  pub site_slot : site_slot_of g a ≡ Taken w.timed
  pub room : area_size ≤ length w.area
  pub low : (p : ℕ) → p < packets w.timed.site.sent → packet_place g a (p + 1) < top_places
  pub parts : (p : ℕ) → p < packets w.timed.site.sent → part_of g.area (packet_place g a (p + 1)) ≡ part_of w.area p
  pub fresh : (k p : ℕ) → packets w.timed.site.sent < p → p < 256 → get_or g.places k 0 ≢ entry a p

-- Numbers

pub record Number (a : ℕ) : Type 0 where
  pub from : 1 ≤ a
  pub to : a ≤ 8

pub number_is : (a : ℕ) → is_number a ≡ true → Number a
number_is a h = record { from = leb-true _ _ (and_left (leb 1 a) (leb a 8) h); to = leb-true _ _ (and_right (leb 1 a) (leb a 8) h) }

-- an entry tells its site
pub site-is : (a p : ℕ) → p < 256 → site_of (entry a p) ≡ a
site-is a p l = omega arith

-- the site slot that is set, and any other
module _ (l : List SiteSlot) (b : ℕ) (x : SiteSlot) (n : is_number b ≡ true) where
  pub site-slot-same : length l ≡ 8 → cond (is_number b) (get_or (set l (b - 1) x) (b - 1) Empty) Empty ≡ x
  site-slot-same e = hit _ _ _ n ∙ get_or-set_same l (b - 1) x Empty (let i = number_is b n in omega (arith, i.from, i.to))

  pub site-slot-other : (a : ℕ) → a ≢ b → cond (is_number a) (get_or (set l (b - 1) x) (a - 1) Empty) Empty
      ≡ cond (is_number a) (get_or l (a - 1) Empty) Empty
  site-slot-other a h = at_test (is_number a) _ _ _
      (λ m. get_or-set_other l (b - 1) (a - 1) x Empty
      (λ e. let i = number_is b n in let j = number_is a m in h (omega (arith, i.from, j.from, e))))

module _ (g : Group) (G : Ground g) where
  -- a site has at most 144 packets
  pub bound : (a : ℕ) → is_number a ≡ true → packets_in (site_slot_of g a) ≤ 144
  bound a n =
      let i = number_is a n in
      let e : packets_in (site_slot_of g a) ≡ packets_in (get_or g.site_slots (a - 1) Empty) = ap packets_in (hit (is_number a) _ _ n) in
      let s = site-slot-total beyond g.site_slots (a - 1) (omega (arith, i.from, i.to, G.site_slots)) in
      omega (arith, G.shared)

  -- one site slot and the places change
  module _ (b : ℕ) (n : is_number b ≡ true) (x : SiteSlot) (places area : List ℕ) where
    pub ground-set : length places ≡ top_places → area_size ≤ length area → used_by b places ≡ packets_in x
        → ((c : ℕ) → is_number c ≡ true → c ≢ b → used_by c places ≡ used_by c g.places)
        → used places + packets_in (site_slot_of g b) ≡ used g.places + packets_in x
        → total (map beyond g.site_slots) + beyond x ≤ common_share + beyond (site_slot_of g b)
        → Ground (record { site_slots = set g.site_slots (b - 1) x; places = places; area = area })
    ground-set long room mine others all shared =
        let i = number_is b n in
        let k : b - 1 < length g.site_slots = omega (arith, i.from, i.to, G.site_slots) in
        let e = hit (is_number b) (get_or g.site_slots (b - 1) Empty) Empty n in
        let p : packets_in (site_slot_of g b) ≡ packets_in (get_or g.site_slots (b - 1) Empty) = ap packets_in e in
        let q : beyond (site_slot_of g b) ≡ beyond (get_or g.site_slots (b - 1) Empty) = ap beyond e in
        record {
          site_slots = length-set g.site_slots (b - 1) x ∙ G.site_slots;
          places = long;
          room = room;
          own = λ c m. same_or_not c b
              (λ z. ap (λ (y : ℕ). used_by y places) z ∙ mine ∙ ap packets_in (sym (site-slot-same g.site_slots b x n G.site_slots))
              ∙ ap (λ (y : ℕ). packets_in (cond (is_number y) (get_or (set g.site_slots (b - 1) x) (y - 1) Empty) Empty)) (sym z))
              (λ z. others c m z ∙ G.own c m ∙ ap packets_in (sym (site-slot-other g.site_slots b x n c z)));
          all = let t = total-site-slot packets_in g.site_slots (b - 1) x k in omega (arith, G.all);
          shared = let t = total-site-slot beyond g.site_slots (b - 1) x k in omega arith;
        }
