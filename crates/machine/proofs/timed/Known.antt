-- An event by what its list was found to be, and the same where that is the list's own test.
-- Assumes nothing.
use mathlib.Core.Path.{◌≡◌, refl, sym, ap, ap₂, ◌∙◌}
use mathlib.Core.Bool.{Bool, true, false, cond, ◌&&◌}
use mathlib.Core.List.{List}
use Prim.Native.Nat.{ℕ}
use Rattle.words.proofs.Tests.{never, hit, skip, read_same}
use Rattle.node.specs.Answers.{Answer, Done, NoRoom, BadWindows, is_done}
use Rattle.site.specs.Answers.{answer_of}
use Rattle.site.specs.Members.{header_of}
use Rattle.site.specs.Events.{is_end}
use Rattle.site.specs.declared.SiteHeader.{SiteHeader}
use Rattle.site.specs.declared.Event.{Event}
use Rattle.site.specs.declared.Event.TheVariants.{End}
use Rattle.windows.specs.Windows.{list_ok}
use Rattle.windows.specs.declared.Window.{Window}
use Rattle.machine.specs.Layout.{Store, store, too_short, site_in}
use Rattle.machine.specs.Loading.{header_read}
use Rattle.machine.specs.steps.After.{next_store, storage_answer, store_after, area_with}
use Rattle.machine.specs.timed.Timed.{Timed, answer_by, in_last_round, next_day, timed_answer, next_timed, timed_after}
use Rattle.machine.specs.timed.Stored.{timed_in, stored_answer, stored_day, begun_store, timed_store, answered_by, day_by, store_by}
use Rattle.machine.specs.timed.Inner.{day_begun, list_verdict}
use Rattle.machine.specs.declared.Day.{Day}
use Rattle.machine.proofs.Whole.{as-header, long-enough}
use Rattle.machine.proofs.timed.Stored.{Long, TurnIs, end_with, timed-site}

module _ (ok : Bool) (s : Store) (d : Day) (l : List ℕ) (ws : List Window) where
  -- answer, day, words, bytes and area, each as its definition has it
  abbrev pub TestedIs : Event → Answer → Day → List ℕ → List ℕ → List ℕ → Type 0
  TestedIs e a n w b x =
      ((a ≡ answered_by ok s l e) × (n ≡ day_by ok s d l e))
      × ((w ≡ (store_by ok s d l ws e).words) × ((b ≡ (store_by ok s d l ws e).bytes) × (x ≡ area_with s l e)))

  -- what is no end is the event of the storage
  plain-answered : (e : Event) → is_end e ≡ false → answered_by ok s l e ≡ storage_answer s l e
  unfolding answered_by storage_answer
  plain-answered e h =
      ap (cond (too_short s) NoRoom)
      (skip (is_end e && is_done (answer_of (site_in s) l e)) _ _ _ (ap (λ (b : Bool). b && is_done (answer_of (site_in s) l e)) h) refl)

  plain-store : (e : Event) → is_end e ≡ false → store_by ok s d l ws e ≡ store_after s l e
  unfolding store_by store_after
  plain-store e h =
      ap₂ (λ (a : Answer) (x : Store). cond (is_done a) (store_after x l e) s) (plain-answered e h)
      (skip (is_end e && in_last_round (site_in s)) _ s s (ap (λ (b : Bool). b && in_last_round (site_in s)) h) refl)
      ∙ go (is_done (storage_answer s l e)) refl
    where
      go : (b : Bool) → is_done (storage_answer s l e) ≡ b → cond b (store_after s l e) s ≡ store_after s l e
      go true k = refl
      go false k = sym (skip _ (next_store s l e) s s k refl)

  pub plain-tested : (e : Event) → is_end e ≡ false → {a : Answer} {w b x : List ℕ} → a ≡ storage_answer s l e
      → w ≡ (store_after s l e).words → b ≡ (store_after s l e).bytes → x ≡ area_with s l e → TestedIs e a d w b x
  unfolding day_by
  plain-tested e h f p q m =
      let n : d ≡ day_by ok s d l e =
      sym (read_same (λ (x : Day). x) (is_done (answered_by ok s l e)) (next_day (timed_in s d) e) d d
      (skip (is_end e && in_last_round (site_in s)) _ d d (ap (λ (b : Bool). b && in_last_round (site_in s)) h) refl) refl) in
      let z = sym (plain-store e h) in (
        (f ∙ sym (plain-answered e h), n),
        (p ∙ ap (λ (x : Store). x.words) z, (q ∙ ap (λ (x : Store). x.bytes) z, m)),
      )

  -- an end that is refused
  refused : (a : Answer) → answered_by ok s l End ≡ a → is_done a ≡ false → TestedIs End a d s.words s.bytes l
  unfolding day_by store_by
  refused a h k =
      let g = ap is_done h ∙ k in
      let q : s ≡ store_by ok s d l ws End = sym (skip _ _ _ _ g refl) in
      let n : d ≡ day_by ok s d l End = sym (skip _ _ _ _ g refl) in (
        (sym h, n),
        (ap (λ (x : Store). x.words) q, (ap (λ (x : Store). x.bytes) q, sym (end_with s l))),
      )

  -- by the storage's own answer
  pub refused-plain : {a : Answer} → a ≡ storage_answer s l End → is_done a ≡ false → TestedIs End a d s.words s.bytes l
  unfolding answered_by storage_answer
  refused-plain {a} h k = refused a (go (too_short s) refl) k
    where
      go : (b : Bool) → too_short s ≡ b → answered_by ok s l End ≡ a
      go true t = hit _ _ _ t ∙ sym (hit (too_short s) NoRoom (answer_of (site_in s) l End) t) ∙ sym h
      go false t =
          let r : storage_answer s l End ≡ answer_of (site_in s) l End = skip _ _ _ _ t refl in
          skip _ _ _ _ t (skip _ _ _ _ (ap is_done (sym r ∙ sym h) ∙ k) (sym r ∙ sym h))

  -- by its list
  module _ {p : Answer} (h : p ≡ storage_answer s l End) (done : is_done p ≡ true) where
    accepted : answered_by ok s l End ≡ cond ok Done BadWindows
    unfolding answered_by storage_answer
    accepted = go (too_short s) refl
      where
        go : (b : Bool) → too_short s ≡ b → answered_by ok s l End ≡ cond ok Done BadWindows
        go true t =
            never (sym (ap is_done (sym (hit (too_short s) NoRoom (answer_of (site_in s) l End) t) ∙ sym h) ∙ done))
        go false t =
            let r : storage_answer s l End ≡ answer_of (site_in s) l End = skip _ _ _ _ t refl in
            skip _ _ _ _ t (hit _ _ _ (ap is_done (sym r ∙ sym h) ∙ done))

    pub accepted-header : {k : SiteHeader} → k ≡ header_read s → k ≡ header_of (site_in s)
    unfolding storage_answer
    accepted-header {k} q = go (too_short s) refl
      where
        go : (b : Bool) → too_short s ≡ b → k ≡ header_of (site_in s)
        go true t = never (sym (ap is_done (sym (hit (too_short s) NoRoom (answer_of (site_in s) l End) t) ∙ sym h) ∙ done))
        go false t = let m = long-enough s t in q ∙ as-header s m.0 m.1

    pub refused-list : ok ≡ false → TestedIs End BadWindows d s.words s.bytes l
    refused-list f = refused BadWindows (accepted ∙ skip _ _ _ _ f refl) refl

    -- an accepted end, from the storage with the demands of the epoch that begins
    pub done-tested : ok ≡ true → {g : Store} {n : Day} {w b x : List ℕ} → g ≡ begun_store s d l ws End
        → n ≡ day_begun (site_in s) d → w ≡ (store_after g l End).words → b ≡ (store_after g l End).bytes → x ≡ area_with g l End
        → TestedIs End Done n w b x
    unfolding day_by store_by
    done-tested f {g} {n} {w} {b} {x} q m y r v =
        let a : answered_by ok s l End ≡ Done = accepted ∙ hit _ _ _ f in
        let u : store_after g l End ≡ store_by ok s d l ws End = ap (λ (i : Store). store_after i l End) q ∙ sym (hit _ _ _ (ap is_done a)) in
        let e : n ≡ day_by ok s d l End = m ∙ sym (hit _ _ _ (ap is_done a)) in (
          (sym a, e),
          (y ∙ ap (λ (i : Store). i.words) u, (r ∙ ap (λ (i : Store). i.bytes) u, v ∙ end_with g l ∙ sym (end_with s l))),
        )

-- where it was found to be what its test says
module _ (s : Store) (d : Day) (l : List ℕ) (ws : List Window) (e : Event) {ok : Bool} (h : ok ≡ list_verdict s d ws e) where
  abbrev t : Timed
  t = timed_in s d

  abbrev fits : Bool
  fits = list_ok (site_in s).config.nodes d.length ws

  by_answer : stored_answer s d l ws e ≡ answered_by ok s l e
  unfolding stored_answer timed_answer answered_by
  by_answer = go (too_short s) refl
    where
      same : (b : Bool) → too_short s ≡ false → is_end e ≡ b → timed_answer t l ws e ≡ answer_by ok (site_in s) l e
      same true k c =
          let m = long-enough s k in
          let v : ok ≡ fits = h ∙ hit _ _ _ c
          ∙ ap (λ (x : SiteHeader). list_ok x.config.nodes d.length ws) (as-header s m.0 m.1) in
          ap (λ (b : Bool). answer_by b (site_in s) l e) (sym v)
      same false k c =
          let f = ap (λ (b : Bool). b && is_done (answer_of (site_in s) l e)) c in
          skip _ _ _ (answer_of (site_in s) l e) f refl ∙ sym (skip _ _ _ (answer_of (site_in s) l e) f refl)

      go : (b : Bool) → too_short s ≡ b → stored_answer s d l ws e ≡ answered_by ok s l e
      go true k = hit (too_short s) NoRoom (timed_answer t l ws e) k ∙ sym (hit (too_short s) NoRoom (answer_by ok (site_in s) l e) k)
      go false k = skip (too_short s) NoRoom (timed_answer t l ws e) _ k (same (is_end e) k refl)
          ∙ sym (skip (too_short s) NoRoom (answer_by ok (site_in s) l e) _ k refl)

  by-day : stored_day s d l ws e ≡ day_by ok s d l e
  unfolding stored_answer stored_day day_by timed_after next_timed
  by-day = go (too_short s) refl
    where
      told : (b : Bool) → too_short s ≡ false → is_done (timed_answer t l ws e) ≡ b → (timed_after t l ws e).day
          ≡ cond (is_done (stored_answer s d l ws e)) (next_day t e) d
      told true k c =
          ap (λ (x : Timed). x.day) (hit (is_done (timed_answer t l ws e)) (next_timed t l ws e) t c)
          ∙ sym (hit _ _ _ (ap is_done (skip (too_short s) NoRoom (timed_answer t l ws e) _ k refl) ∙ c))
      told false k c =
          ap (λ (x : Timed). x.day) (skip (is_done (timed_answer t l ws e)) (next_timed t l ws e) t t c refl)
          ∙ sym (skip _ _ _ _ (ap is_done (skip (too_short s) NoRoom (timed_answer t l ws e) _ k refl) ∙ c) refl)

      go : (b : Bool) → too_short s ≡ b → stored_day s d l ws e ≡ day_by ok s d l e
      go true k = hit _ _ _ k
          ∙ sym (skip _ _ _ _ (ap is_done (sym by_answer ∙ hit (too_short s) NoRoom (timed_answer t l ws e) k)) refl)
      go false k = skip _ _ _ _ k (told (is_done (timed_answer t l ws e)) k refl)
          ∙ ap (λ (a : Answer). cond (is_done a) (next_day t e) d) by_answer

  pub store_by_lem : timed_store s d l ws e ≡ store_by ok s d l ws e
  unfolding timed_store store_by
  store_by_lem = ap (λ (a : Answer). cond (is_done a) (store_after (begun_store s d l ws e) l e) s) by_answer

  -- an event by its own list
  pub by-list : {a : Answer} {n : Day} {w b x : List ℕ} → TestedIs ok s d l ws e a n w b x → TurnIs s d l ws e a n w b x
  by-list {w = w} {b = b} r =
      let z = sym store_by_lem in
      let u : store w b ≡ timed_store s d l ws e =
      (λ i. record { words = r.1.0 i; bytes = r.1.1.0 i }) ∙ z in (
        (r.0.0 ∙ sym by_answer, r.0.1 ∙ sym by-day),
        (
          r.1.0 ∙ ap (λ (y : Store). y.words) z,
          (r.1.1.0 ∙ ap (λ (y : Store). y.bytes) z, (ap site_in u ∙ timed-site s d l ws e, r.1.1.1)),
        ),
      )

-- a list that keeps the rules is found to be so, whichever the event
pub keeps : (s : Store) (d : Day) (ws : List Window) (e : Event) → Long s → list_ok (site_in s).config.nodes d.length ws ≡ true
    → true ≡ list_verdict s d ws e
keeps s d ws e m h =
    sym (read_same (λ (b : Bool). b) (is_end e) (list_ok (header_read s).config.nodes d.length ws) true true
    (ap (λ (x : SiteHeader). list_ok x.config.nodes d.length ws) (as-header s m.0 m.1) ∙ h) refl)
