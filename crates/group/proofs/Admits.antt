-- What an accepted call says of the group that it meets, and why an accepted send finds a free place.
-- Assumes nothing.
use mathlib.Core.Path.{◌≡◌, refl, ap, ◌∙◌}
use mathlib.Core.Bool.{Bool, true, false, not, ◌&&◌}
use mathlib.Core.Logic.{◌⊎◌, inl, inr, ⊎_elim}
use mathlib.Core.List.{List, map}
use Prim.Native.Nat.{ℕ, ◌+◌, ◌-◌, ◌*◌, ◌≤◌, ◌<◌}
use native.Mathlib.Omega.{arith}
use borrow.Author.Tests.{leb-false, lt-leb, le-leb, le-ltb, not-true}
use lib.Dec.{leb}
use lib.ListN.{length, get_or}
use Rattle.words.proofs.Tests.{clash, met?, hit, skip, and_left, and_right, and-rest}
use Rattle.allotment.specs.Allotment.{total}
use Rattle.node.specs.Answers.{is_done}
use Rattle.node.specs.Answers.{Done, NoSuchNode}
use Rattle.node.proofs.Answers.{done-is, test-met}
use Rattle.node.specs.Negotiation.{packet_of}
use Rattle.wire.specs.Layout.{packet_size}
use Rattle.wire.specs.Reads.{placed}
use Rattle.site.specs.Members.{member_at}
use Rattle.site.specs.Answers.{area_size}
use Rattle.node.specs.declared.Config.{Config}
use Rattle.site.specs.declared.Table.{Table}
use Rattle.site.specs.declared.Event.TheVariants.{Send}
use Rattle.windows.specs.declared.Window.{Window}
use Rattle.machine.specs.timed.Timed.{Timed, timed_load_answer, timed_answer}
use Rattle.machine.specs.timed.Calls.{Call}
use Rattle.group.specs.Places.{top_places, place}
use Rattle.group.specs.Group.{SiteSlot, Empty, Taken, Group, is_number, site_slot_of, packets_in, own_share, common_share, beyond, common}
use Rattle.group.specs.Group.{own_area}
use Rattle.group.specs.Calls.{GroupCall, LoadSite, SiteCall, site_slot_answer, is_send, plain_answer, is_short, is_crowded, group_accepts}
use Rattle.group.specs.Steps.{next_by, next_group, after_group}
use Rattle.group.proofs.Places.{free_one}
use Rattle.group.proofs.Shares.{spare}
use Rattle.group.proofs.Ground.{Ground, number_is}

-- one of two tests fails
fails : (a b : Bool) → (a && b) ≡ false → (a ≡ false) ⊎ (b ≡ false)
fails a b h = ⊎_elim (λ e. inr (and-rest a b h e)) (λ e. inl e) (met? a)

-- a site that has fewer than 16 packets is not refused as 17
pub sixteen : (g : Group) (a : ℕ) (c : Call) → packets_in (site_slot_of g a) < own_share → is_crowded g (SiteCall a c) ≡ false
unfolding is_crowded
sixteen g a c h =
    let s : is_short g a ≡ false = ap (λ (b : Bool). b && leb common_share (common g)) (lt-leb own_share (packets_in (site_slot_of g a)) h) in
    last (is_send c.event) (is_done (plain_answer g (SiteCall a c))) (is_short g a) s
  where
    last : (x y z : Bool) → z ≡ false → (x && (y && z)) ≡ false
    last true true z e = e
    last true false z e = refl
    last false y z e = refl

-- an accepted load is of a number, and the site alone would load
pub load-admits : (g : Group) (a : ℕ) (f : Config) (t : Table) (D : ℕ) (ws : List Window) → is_done (plain_answer g (LoadSite a f t D ws))
    ≡ true → (is_number a ≡ true) × (timed_load_answer f t D ws ≡ Done)
unfolding plain_answer
load-admits g a f t D ws h = test-met (is_number a) _ NoSuchNode refl (done-is _ h)

-- an event is not accepted where nothing is loaded
pub empty-answer : (g : Group) (a : ℕ) (c : Call) → site_slot_of g a ≡ Empty → plain_answer g (SiteCall a c) ≡ NoSuchNode
unfolding plain_answer
empty-answer g a c h = ap (λ (s : SiteSlot). site_slot_answer g a s c) h

pub site-slot-answer : (g : Group) (a : ℕ) (c : Call) (t : Timed) → area_size ≤ length g.area → site_slot_of g a ≡ Taken t
    → plain_answer g (SiteCall a c) ≡ timed_answer t (own_area g a (packets_in (Taken t))) c.windows c.event
unfolding plain_answer
site-slot-answer g a c t r h = ap (λ (s : SiteSlot). site_slot_answer g a s c) h ∙ skip _ _ _ _ (le-ltb (length g.area) area_size r) refl

-- so it is of a number
pub call-number : (g : Group) (a : ℕ) (c : Call) → is_done (plain_answer g (SiteCall a c)) ≡ true → is_number a ≡ true
call-number g a c h = ⊎_elim (λ e. e)
    (λ e. clash (is_done (plain_answer g (SiteCall a c))) h (ap is_done (empty-answer g a c (skip _ _ _ _ e refl)))) (met? (is_number a))

module _ (g : Group) (a j : ℕ) (ws : List Window) (h : group_accepts g (SiteCall a (record { event = Send j; windows = ws })) ≡ true) where
  abbrev c : GroupCall
  c = SiteCall a (record { event = Send j; windows = ws })

  -- a send that is not refused as 17: the site has fewer than 16, or a common place is left
  pub unshort : (packets_in (site_slot_of g a) < own_share) ⊎ (total (map beyond g.site_slots) < common_share)
  unfolding is_crowded common
  unshort =
      let d : is_done (plain_answer g c) ≡ true = and_left (is_done (plain_answer g c)) (not (is_crowded g c)) h in
      let n : is_crowded g c ≡ false = not-true _ (and_right (is_done (plain_answer g c)) (not (is_crowded g c)) h) in
      let s : is_short g a ≡ false = and-rest (is_done (plain_answer g c)) (is_short g a) n d in
      ⊎_elim (λ e. inl (leb-false _ _ e)) (λ e. inr (leb-false _ _ e))
      (fails (leb own_share (packets_in (site_slot_of g a))) (leb common_share (common g)) s)

  pub finds : Ground g → place 0 g.places < top_places
  finds G =
      let m : is_number a ≡ true = call-number g a _ (and_left (is_done (plain_answer g c)) (not (is_crowded g c)) h) in
      let i = number_is a m in
      let e : packets_in (site_slot_of g a) ≡ packets_in (get_or g.site_slots (a - 1) Empty) = ap packets_in (hit (is_number a) _ _ m) in
      let u = spare g.site_slots (a - 1) G.site_slots (omega (arith, i.from, i.to)) G.shared
      (⊎_elim (λ x. inl (omega arith)) (λ x. inr x) unshort) in
      let z = free_one g.places (omega (arith, G.all, G.places)) in
      omega (arith, G.places)

  -- the packet is written there
  pub writes : Ground g → (t : Timed) → site_slot_of g a ≡ Taken t → (after_group g c).area
      ≡ placed g.area (place 0 g.places) (packet_of (member_at t.site j).node)
  unfolding after_group next_group
  writes G t e =
      let f = finds G in
      ap (λ (x : Group). x.area) (hit _ _ g h ∙ ap (λ (s : SiteSlot). next_by g a s (record { event = Send j; windows = ws })) e)
      ∙ hit _ _ g.area (le-leb (packet_size * place 0 g.places + packet_size) (length g.area) (omega (arith, f, G.room)))
