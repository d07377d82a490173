-- An event in storage: from its answer and its writes to what the definitions say of all lent numbers.
-- Assumes nothing.
use mathlib.Core.Path.{◌≡◌, refl, sym, ap, ◌∙◌}
use mathlib.Core.Bool.{Bool, true, false, cond}
use mathlib.Core.List.{List}
use Prim.Native.Nat.{ℕ, ◌-◌, ◌≤◌, ◌<◌}
use borrow.Author.Tests.{lt-ltb, le-ltb}
use lib.Dec.{ltb}
use lib.ListN.{length}
use Rattle.words.proofs.Tests.{hit, skip, never}
use Rattle.node.specs.Answers.{Answer, Done, NoRoom, is_done}
use Rattle.node.proofs.Answers.{done-is, test-passed}
use Rattle.site.specs.Answers.{area_size, event_answer, answer_of}
use Rattle.node.specs.Negotiation.{packet_of}
use Rattle.site.specs.Members.{member_at}
use Rattle.site.specs.Steps.{stored, next_area, site_after, area_after}
use Rattle.site.specs.declared.Event.{Event}
use Rattle.site.specs.declared.Event.TheVariants.{Send, Hear}
use Rattle.site.proofs.Accepted.{answered}
use Rattle.machine.specs.Layout.{Store, words_size, bytes_size, too_short, store, site_in}
use Rattle.wire.specs.Reads.{part_of}
use Rattle.machine.proofs.steps.Asked.{heard-there}
use Rattle.machine.proofs.Whole.{enough, long-enough}
use Rattle.machine.specs.steps.After.{sent_store, heard_part, next_store, storage_answer, store_after, site_with, area_with, site_heard}
use Rattle.machine.specs.steps.After.{part_answer, part_store, area_into}
use Rattle.machine.proofs.steps.Follows.{follows}

module _ (s : Store) (l : List ℕ) (e : Event) where
  -- the answer
  pub short-storage : too_short s ≡ true → NoRoom ≡ storage_answer s l e
  unfolding storage_answer
  short-storage h = sym (hit _ _ _ h)

  in-storage : too_short s ≡ false → answer_of (site_in s) l e ≡ storage_answer s l e
  unfolding storage_answer
  in-storage h = sym (skip _ _ _ _ h refl)

  pub short-area : too_short s ≡ false → length l < area_size → NoRoom ≡ storage_answer s l e
  unfolding answer_of
  short-area h k = sym (hit (ltb (length l) area_size) NoRoom (event_answer (site_in s) l e) (lt-ltb _ _ k)) ∙ in-storage h

  pub by-event : too_short s ≡ false → area_size ≤ length l → {a : Answer} → a ≡ event_answer (site_in s) l e → a ≡ storage_answer s l e
  unfolding answer_of
  by-event h k f = f ∙ sym (skip (ltb (length l) area_size) NoRoom (event_answer (site_in s) l e) _ (le-ltb _ _ k) refl) ∙ in-storage h

  -- answer, words, bytes and area, each as its definition has it
  abbrev pub Settled : Answer → List ℕ → List ℕ → List ℕ → Type 0
  Settled a w b x = (a ≡ storage_answer s l e)
      × ((w ≡ (store_after s l e).words) × ((b ≡ (store_after s l e).bytes) × ((site_in (store w b) ≡ site_with s l e) × (x ≡ area_with s l e))))

  area-by : (t : Bool) → too_short s ≡ false → is_done (storage_answer s l e) ≡ t → area_with s l e ≡ cond t (next_area (site_in s) l e) l
  unfolding area_with area_after
  area-by t h g = skip _ _ _ _ h (ap (λ (a : Answer). cond (is_done a) (next_area (site_in s) l e) l) (in-storage h)
      ∙ ap (λ (b : Bool). cond b (next_area (site_in s) l e) l) g)

  area-kept : is_done (storage_answer s l e) ≡ false → area_with s l e ≡ l
  unfolding area_with
  area-kept g = go (too_short s) refl
    where
      go : (t : Bool) → too_short s ≡ t → area_with s l e ≡ l
      go true h = hit _ _ _ h
      go false h = area-by false h g

  store_by : (t : Bool) → is_done (storage_answer s l e) ≡ t → store_after s l e ≡ cond t (next_store s l e) s
  unfolding store_after
  store_by t g = ap (λ (b : Bool). cond b (next_store s l e) s) g

  pub refused : {a : Answer} → a ≡ storage_answer s l e → is_done a ≡ false → Settled a s.words s.bytes l
  refused f d =
      let g = ap is_done (sym f) ∙ d in
      let q = sym (store_by false g) in
      (f, (ap (λ (x : Store). x.words) q, (ap (λ (x : Store). x.bytes) q, (ap site_in q ∙ follows s l e, sym (area-kept g)))))

  pub accepted : {a : Answer} {w b x : List ℕ} → too_short s ≡ false → a ≡ storage_answer s l e → is_done a ≡ true → w ≡ (next_store s l e).words
      → b ≡ (next_store s l e).bytes → x ≡ next_area (site_in s) l e
      → Settled a w b x
  accepted {a} {w} {b} {x} h f d p q r =
      let g = ap is_done (sym f) ∙ d in
      let z = sym (store_by true g) in
      let v : store w b ≡ next_store s l e = λ i. record { words = p i; bytes = q i } in (
        f,
        (
          p ∙ ap (λ (y : Store). y.words) z,
          (q ∙ ap (λ (y : Store). y.bytes) z, (ap site_in (v ∙ z) ∙ follows s l e, r ∙ sym (area-by true h g))),
        ),
      )

  -- what an accepted event tells: the storage is long enough, and the site accepts
  pub told : is_done (storage_answer s l e) ≡ true → (too_short s ≡ false) × (event_answer (site_in s) l e ≡ Done)
  unfolding storage_answer
  told d = go (too_short s) refl
    where
      go : (t : Bool) → too_short s ≡ t → (too_short s ≡ false) × (event_answer (site_in s) l e ≡ Done)
      go true h = never (sym d ∙ ap is_done (hit _ _ _ h))
      go false h = (h, (answered (site_in s) l e (sym (skip _ _ _ _ h refl) ∙ done-is _ d)).1)

-- an accepted event tells that the storage is long enough
pub told-long : (s : Store) (l : List ℕ) (e : Event) → storage_answer s l e ≡ Done
    → (words_size ≤ length s.words) × ((bytes_size ≤ length s.bytes) × (event_answer (site_in s) l e ≡ Done))
told-long s l e h =
    let q = told s l e (ap is_done h) in
    let k = long-enough s q.0 in
    (k.0, (k.1, q.1))

-- of storage that is long enough, all is as the site has it
pub as-site : (s : Store) (l : List ℕ) (e : Event) → words_size ≤ length s.words → bytes_size ≤ length s.bytes
    → (storage_answer s l e ≡ answer_of (site_in s) l e)
    × ((site_with s l e ≡ site_after (site_in s) l e) × (area_with s l e ≡ area_after (site_in s) l e))
unfolding storage_answer site_with area_with
as-site s l e w b =
    let h = enough s w b in
    (skip _ _ _ _ h refl, (skip _ _ _ _ h refl, skip _ _ _ _ h refl))

-- a send into the part of an index
module _ (s : Store) (l : List ℕ) (at j : ℕ) where
  pub into-refused : is_done (storage_answer s l (Send j)) ≡ false → (s.bytes ≡ (store_after s l (Send j)).bytes) × (l ≡ area_into s l at j)
  unfolding store_after area_into
  into-refused d = (ap (λ (x : Store). x.bytes) (sym (skip _ _ _ _ d refl)), sym (skip _ _ _ _ d refl))

  pub into-done : {b x : List ℕ} → is_done (storage_answer s l (Send j)) ≡ true → b ≡ (sent_store s j).bytes → x
      ≡ stored l at (packet_of (member_at (site_in s) j).node)
      → (b ≡ (store_after s l (Send j)).bytes) × (x ≡ area_into s l at j)
  unfolding store_after area_into
  into-done d p q = (p ∙ ap (λ (x : Store). x.bytes) (sym (hit _ _ _ d)), q ∙ sym (hit _ _ _ d))

-- a hear of the packet in given bytes
module _ (s : Store) (part : List ℕ) (j p : ℕ) where
  abbrev pub Heard : Answer → List ℕ → List ℕ → Type 0
  Heard a w b = (a ≡ part_answer s part j p) × ((w ≡ (part_store s part j p).words) × (b ≡ (part_store s part j p).bytes))

  -- the answer
  pub part-short : too_short s ≡ true → NoRoom ≡ part_answer s part j p
  unfolding part_answer
  part-short h = sym (hit _ _ _ h)

  pub part-is : {a : Answer} → too_short s ≡ false → a ≡ site_heard (site_in s) part j p → a ≡ part_answer s part j p
  unfolding part_answer
  part-is h e = e ∙ sym (skip _ _ _ _ h refl)

  -- what an accepted hear tells
  pub part-told : is_done (part_answer s part j p) ≡ true → (too_short s ≡ false) × (site_heard (site_in s) part j p ≡ Done)
  unfolding part_answer
  part-told d = let q = test-passed (too_short s) NoRoom (site_heard (site_in s) part j p) refl (done-is _ d) in (q.0, q.1)

  heard-by : {a : Answer} {w b : List ℕ} (t : Bool) → a ≡ part_answer s part j p → is_done a ≡ t → w ≡ (cond t (heard_part s part j) s).words
      → b ≡ (cond t (heard_part s part j) s).bytes → Heard a w b
  unfolding part_store
  heard-by t f d u v =
      let q : cond t (heard_part s part j) s ≡ part_store s part j p = ap (λ (x : Bool). cond x (heard_part s part j) s) (sym d ∙ ap is_done f)
      in
      (f, (u ∙ ap (λ (x : Store). x.words) q, v ∙ ap (λ (x : Store). x.bytes) q))

  pub refused-part : {a : Answer} → a ≡ part_answer s part j p → is_done a ≡ false → Heard a s.words s.bytes
  refused-part e d = heard-by false e d refl refl

  pub done-part : {a : Answer} {w b : List ℕ} → a ≡ part_answer s part j p → is_done a ≡ true → w ≡ (heard_part s part j).words → b
      ≡ (heard_part s part j).bytes → Heard a w b
  done-part e d u v = heard-by true e d u v

pub part-long : (s : Store) (part : List ℕ) (j p : ℕ) → part_answer s part j p ≡ Done
    → (words_size ≤ length s.words) × ((bytes_size ≤ length s.bytes) × (site_heard (site_in s) part j p ≡ Done))
part-long s part j p h =
    let q = part-told s part j p (ap is_done h) in
    let k = long-enough s q.0 in
    (k.0, (k.1, q.1))

-- a hear of packet p of the area is one of its part
pub in-part : (s : Store) (area : List ℕ) (j p : ℕ) → storage_answer s area (Hear j p) ≡ Done → part_answer s (part_of area (p - 1)) j p ≡ Done
unfolding part_answer
in-part s area j p h =
    let q = told s area (Hear j p) (ap is_done h) in
    skip _ _ _ _ q.0 (heard-there (site_in s) area j p ∙ q.1)
