-- A send by places: from its answer and its writes to what the definitions say.
-- Assumes nothing.
use mathlib.Core.Path.{◌≡◌, refl, sym, ap, ◌∙◌}
use mathlib.Core.Bool.{Bool, true, false, not, ◌&&◌}
use mathlib.Core.List.{List}
use Prim.Native.Nat.{ℕ, ◌+◌, ◌≤◌}
use borrow.Author.Tests.{le-ltb}
use lib.Dec.{leb}
use lib.ListN.{length}
use Rattle.words.proofs.Tests.{hit, skip, both}
use Rattle.node.specs.Answers.{is_done, Answer, Done, Crowded}
use Rattle.node.specs.Negotiation.{packet_of}
use Rattle.node.proofs.Answers.{done-is}
use Rattle.site.specs.Counts.{packets}
use Rattle.site.specs.Members.{member_at}
use Rattle.site.specs.Answers.{area_size, site_send, answer_of}
use Rattle.site.specs.Steps.{stored}
use Rattle.site.specs.declared.Event.TheVariants.{Send}
use Rattle.machine.specs.Layout.{Store, words_size, bytes_size, site_in}
use Rattle.machine.proofs.Whole.{enough}
use Rattle.machine.specs.steps.After.{sent_store, storage_answer, store_after, area_into}
use Rattle.group.specs.Places.{entry, place, place_filled}
use Rattle.group.specs.Group.{own_share}
use Rattle.sites.specs.many.Inner.{group_send_answer, send_short, send_taken, send_answer, send_store, send_places, send_area}

-- the site's own answer
pub plain-send : (s : Store) (l : List ℕ) (j : ℕ) → words_size ≤ length s.words → bytes_size ≤ length s.bytes → area_size ≤ length l
    → storage_answer s l (Send j) ≡ site_send (site_in s) j
unfolding storage_answer answer_of
plain-send s l j w b r = skip _ _ _ _ (enough s w b) (skip _ _ _ _ (le-ltb _ _ r) refl)

module _ (s : Store) (o : Answer) (full : Bool) (j a : ℕ) (P A : List ℕ) where
  abbrev n : ℕ
  n = packets (site_in s).sent

  -- the answer, and what bytes, places and area are
  abbrev pub Sent : Answer → List ℕ → List ℕ → List ℕ → Type 0
  Sent r b l x = (r ≡ send_answer s o full j)
      × ((b ≡ (send_store s o full j).bytes) × ((l ≡ send_places s o full j a P) × (x ≡ send_area s o full j P A)))

  kept : {r : Answer} → r ≡ send_answer s o full j → send_taken s o full j ≡ false → Sent r s.bytes P A
  unfolding send_store send_places send_area
  kept e h = (e, (ap (λ (x : Store). x.bytes) (sym (skip _ _ _ _ h refl)), (sym (skip _ _ _ _ h refl), sym (skip _ _ _ _ h refl))))

  pub send-refused : {r : Answer} → is_done (group_send_answer s o j) ≡ false → r ≡ group_send_answer s o j → Sent r s.bytes P A
  unfolding send_answer send_taken send_short
  send-refused d e =
      kept (e ∙ sym (skip _ _ _ _ (ap (λ (b : Bool). b && (leb own_share n && full)) d) refl))
      (ap (λ (b : Bool). b && not (send_short s o full j)) d)

  -- refused by the site, by the windows, or by neither
  pub site-refuses : {r : Answer} → r ≡ site_send (site_in s) j → is_done r ≡ false → Sent r s.bytes P A
  site-refuses {r} e h =
      let g : group_send_answer s o j ≡ r = skip _ _ _ _ (ap is_done (sym e) ∙ h) (sym e) in
      send-refused (ap is_done g ∙ h) (sym g)

  pub list-refuses : is_done (site_send (site_in s) j) ≡ true → is_done o ≡ false → Sent o s.bytes P A
  list-refuses d h =
      let g : group_send_answer s o j ≡ o = hit _ _ _ d in
      send-refused (ap is_done g ∙ h) (sym g)

  pub neither-refuses : is_done (site_send (site_in s) j) ≡ true → is_done o ≡ true → is_done (group_send_answer s o j) ≡ true
  neither-refuses d h = ap is_done (hit _ o _ d) ∙ h

  pub send-crowded : is_done (group_send_answer s o j) ≡ true → (leb own_share n && full) ≡ true → Sent Crowded s.bytes P A
  unfolding send_answer send_taken send_short
  send-crowded d h =
      let k : send_short s o full j ≡ true = both d h in
      kept (sym (hit _ _ _ k)) (λ i. d i && not (k i))

  pub send-done : {b l x : List ℕ} → is_done (group_send_answer s o j) ≡ true → (leb own_share n && full) ≡ false → b ≡ (sent_store s j).bytes → l
      ≡ place_filled (entry a (n + 1)) P
      → x ≡ stored A (place 0 P) (packet_of (member_at (site_in s) j).node) → Sent Done b l x
  unfolding send_answer send_taken send_short send_store send_places send_area
  send-done d h p q r =
      let k : send_short s o full j ≡ false = both d h in
      let t : send_taken s o full j ≡ true = λ i. d i && not (k i) in (
        sym (skip _ _ _ _ k (done-is (group_send_answer s o j) d)),
        (p ∙ ap (λ (x : Store). x.bytes) (sym (hit _ _ _ t)), (q ∙ sym (hit _ _ _ t), r ∙ sym (hit _ _ _ t))),
      )

-- what an accepted send into a part writes
pub bytes-sent : (s : Store) (l : List ℕ) (j : ℕ) → is_done (storage_answer s l (Send j)) ≡ true → (store_after s l (Send j)).bytes
    ≡ (sent_store s j).bytes
unfolding store_after
bytes-sent s l j d = ap (λ (x : Store). x.bytes) (hit _ _ _ d)

pub area-sent : (s : Store) (l : List ℕ) (at j : ℕ) → is_done (storage_answer s l (Send j)) ≡ true → area_into s l at j
    ≡ stored l at (packet_of (member_at (site_in s) j).node)
unfolding area_into
area-sent s l at j d = hit _ _ _ d
