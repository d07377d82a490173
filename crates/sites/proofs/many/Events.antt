-- One event of a site by places: the send, the hear and any other event, as the definitions have them.
-- Assumes nothing.
use mathlib.Core.Path.{◌≡◌, refl, sym, ap, ap₂, ◌∙◌, subst}
use mathlib.Core.Bool.{Bool, true, false, not, cond, ◌&&◌, ◌||◌}
use mathlib.Core.List.{List}
use Prim.Native.Nat.{ℕ, ◌≤◌}
use borrow.Author.Tests.{le-ltb, ltb-false}
use lib.Dec.{leb, ltb}
use lib.ListN.{length}
use Rattle.words.proofs.Tests.{clash, hit, skip, at_test, read-choice, read_same, and_left, or-neither}
use Rattle.node.specs.Answers.{is_done, Answer, Done, NotANode, NoRoom, Crowded}
use Rattle.node.proofs.Answers.{done-is, both-done}
use Rattle.site.specs.Answers.{area_size, site_send, site_hear, answer_of}
use Rattle.site.specs.Events.{is_close, is_end}
use Rattle.site.specs.Model.{Site}
use Rattle.site.specs.declared.Event.{Event}
use Rattle.site.specs.declared.Event.TheVariants.{Send, Hear, Close, Take, End, Want, Crash, Restart}
use Rattle.machine.specs.Layout.{Store, store, words_size, bytes_size, too_short, site_in}
use Rattle.machine.proofs.Whole.{enough}
use Rattle.machine.specs.steps.After.{sent_store, storage_answer, store_after, area_with}
use Rattle.machine.proofs.steps.Whole.{as-site}
use Rattle.machine.proofs.steps.Follows.{follows}
use Rattle.windows.specs.declared.Window.{Window}
use Rattle.machine.specs.timed.Timed.{Timed, next_in_day, in_last_round, next_timed}
use Rattle.machine.specs.timed.Stored.{timed_in, timed_store}
use Rattle.machine.specs.declared.Day.{Day}
use Rattle.machine.proofs.timed.Laws.{plain-after}
use Rattle.machine.proofs.timed.Stored.{plain_turn}
use Rattle.machine.specs.reports.Reports.{put_report}
use Rattle.machine.proofs.reports.Laws.{no-close-put}
use Rattle.tally.specs.Counting.{tally_ok}
use Rattle.tally.specs.Ends.{tallied_answer, tally_at}
use Rattle.tally.specs.declared.Tally.{Tally}
use Rattle.machine.specs.combined.Kept.{Kept, first_refusal, kept_answer}
use Rattle.machine.specs.combined.Stored.{kept_in, report_too_short, lent_too_short, step_answer, step_accepted, step_store, step_report, step_kept}
use Rattle.machine.proofs.combined.Laws.{few-short, kept-refused, store-refused, step-timed}
use Rattle.group.specs.Places.{freed}
use Rattle.group.specs.Group.{own_share}
use Rattle.group.specs.Calls.{is_send}
use Rattle.group.specs.Steps.{next_places, next_bytes}
use Rattle.group.proofs.Parts.{own-long}
use Rattle.sites.specs.many.Memory.{Lent}
use Rattle.sites.specs.many.Inner.{is_hear, OneSite, around, timed_of, sent_count, own_area_of, kept_by, plain_by}
use Rattle.sites.specs.many.Inner.{short_by, taken_by}
use Rattle.sites.specs.many.Inner.{answer_by, day_by, tally_by, lent_store_by, site_by, places_by, area_by, report_by, list_answer, group_send_answer}
use Rattle.sites.specs.many.Inner.{send_short, send_taken}
use Rattle.sites.specs.many.Inner.{send_answer, send_store, send_places, send_area, group_hear_answer, hear_store}
use Rattle.sites.proofs.many.Areas.{timed-by, tally-by, area-by, step-answer, step-store, step-report, kept-timed, kept-tally}

-- what is neither
pub neither-is : (e : Event) → ((j : ℕ) → e ≡ Send j → ⊥) → ((j p : ℕ) → e ≡ Hear j p → ⊥) → (is_send e ≡ false) × (is_hear e ≡ false)
neither-is (Send j) g h = absurd (g j refl)
neither-is (Hear j p) g h = absurd (h j p refl)
neither-is Close g h = (refl, refl)
neither-is (Take j i) g h = (refl, refl)
neither-is End g h = (refl, refl)
neither-is (Want j d) g h = (refl, refl)
neither-is (Crash j) g h = (refl, refl)
neither-is (Restart j flags) g h = (refl, refl)

and-true : (b : Bool) → (b && true) ≡ b
and-true true = refl
and-true false = refl

and-false : (b : Bool) → (b && false) ≡ false
and-false true = refl
and-false false = refl

either : {A : Type 0} (t : Bool) (y : A) → y ≡ cond t y y
either true y = refl
either false y = refl

-- what an event answers and leaves
abbrev pub TurnIs : OneSite → Bool → Lent → Event → Answer → Day → Tally → List ℕ → List ℕ → List ℕ → List ℕ → List ℕ → Type 0
TurnIs x full v e r n q w b l y o =
    (r ≡ answer_by x full v e)
    × ((n ≡ day_by x full v e)
    × ((q ≡ tally_by x full v e)
    × ((w ≡ (lent_store_by x full v e).words)
    × ((b ≡ (lent_store_by x full v e).bytes)
    × ((l ≡ places_by x full v e)
    × ((y ≡ area_by x full v e) × ((o ≡ report_by x full v e) × (site_in (store w b) ≡ site_by x full v e))))))))

-- all that is refused leaves all as it was
refused-turn : (x : OneSite) (full : Bool) (v : Lent) (e : Event) {r : Answer} → taken_by x full v e ≡ false → r
    ≡ cond (short_by x full v e) Crowded (plain_by x v e)
    → TurnIs x full v e r x.day v.tally x.store.words x.store.bytes x.places x.area v.out
unfolding answer_by day_by tally_by lent_store_by site_by places_by area_by report_by
refused-turn x full v e {r} h k =
    let s : x.store ≡ cond (taken_by x full v e)
    (step_store x.store x.day (own_area_of x) v.windows v.tally v.out e) x.store =
    sym (skip _ _ _ _ h refl) in (
      k,
      (
        sym (skip _ _ _ _ h refl),
        (
          sym (skip _ _ _ _ h refl),
          (
            ap (λ (y : Store). y.words) s,
            (
              ap (λ (y : Store). y.bytes) s,
              (sym (skip _ _ _ _ h refl), (sym (skip _ _ _ _ h refl), (sym (skip _ _ _ _ h refl), sym (skip _ _ _ _ h refl)))),
            ),
          ),
        ),
      ),
    )

-- an area of the site's own is long enough
few-own : (x : OneSite) (out : List ℕ) → ltb (length x.area) area_size ≡ false → lent_too_short x.store (own_area_of x) out
    ≡ lent_too_short x.store x.area out
few-own x out h = ap (λ (b : Bool). too_short x.store || (b || report_too_short out))
    (le-ltb _ _ (own-long (around x) x.number (sent_count x)) ∙ sym h)

-- 15
pub room-turn : (x : OneSite) (full : Bool) (v : Lent) (e : Event) → lent_too_short x.store x.area v.out ≡ true
    → TurnIs x full v e NoRoom x.day v.tally x.store.words x.store.bytes x.places x.area v.out
unfolding taken_by short_by plain_by step_answer
room-turn x full v e h =
    refused-turn x full v e (ap (λ (a : Answer). is_done a && not (short_by x full v e)) plain)
    (sym (skip _ _ _ _
    (ap (λ (a : Answer). is_send e && (is_done a && (leb own_share (sent_count x) && full))) plain ∙ and-false (is_send e))
    plain))
  where
    go : (b : Bool) → ltb (length x.area) area_size ≡ b
        → cond b NoRoom (step_answer x.store x.day (own_area_of x) v.windows v.tally v.out e) ≡ NoRoom
    go true c = refl
    go false c = hit _ _ _ (few-own x v.out c ∙ h)

    plain : plain_by x v e ≡ NoRoom
    plain = go (ltb (length x.area) area_size) refl

module _ (x : OneSite) (v : Lent) (few : lent_too_short x.store x.area v.out ≡ false) where
  abbrev s : Store
  s = x.store

  abbrev d : Day
  d = x.day

  abbrev own : List ℕ
  own = own_area_of x

  abbrev ws : List Window
  ws = v.windows

  abbrev t : Tally
  t = v.tally

  abbrev out : List ℕ
  out = v.out

  long : (words_size ≤ length s.words) × (bytes_size ≤ length s.bytes)
  long = few-short s x.area out few

  no_short : ltb (length x.area) area_size ≡ false
  no_short = (or-neither (ltb (length x.area) area_size) (report_too_short out)
      (or-neither (too_short s) (ltb (length x.area) area_size || report_too_short out) few).1).0

  pub room : area_size ≤ length x.area
  room = ltb-false (length x.area) area_size no_short

  own_room : area_size ≤ length own
  own_room = own-long (around x) x.number (sent_count x)

  own-few : lent_too_short s own out ≡ false
  own-few = few-own x out no_short ∙ few

  plain-is : (e : Event) → plain_by x v e ≡ step_answer s d own ws t out e
  unfolding plain_by
  plain-is e = skip _ _ _ _ no_short refl

  -- what the machine refuses it leaves
  refused-kept : (e : Event) → is_done (plain_by x v e) ≡ false → kept_by x v e ≡ kept_in s d own t
  refused-kept e h = kept-refused s d own ws t out e (ap is_done (sym (plain-is e)) ∙ h)

  -- of what is no end
  module _ (e : Event) (h : is_end e ≡ false) where
    plain-own : plain_by x v e ≡ first_refusal (answer_of (site_in s) own e) (list_answer s d ws)
    unfolding step_answer kept_answer tallied_answer
    plain-own =
        plain-is e
        ∙ skip _ _ _ _ own-few (ap (λ (b : Bool). first_refusal
        (cond (b && is_done (answer_of (site_in s) own e)) (cond (tally_ok t) Done NotANode) (answer_of (site_in s) own e))
        (list_answer s d ws)) h)

    day-kept : (kept_by x v e).timed.day ≡ d
    unfolding next_timed
    day-kept =
        ap (λ (z : Timed). z.day) (timed-by s d own ws t out e ∙ skip _ _ _ _ own-few refl)
        ∙ read_same (λ (z : Timed). z.day) (is_done (kept_answer (kept_in s d own t) ws e)) (next_timed (timed_in s d) own ws e) (timed_in s d) d
        (skip (is_end e && in_last_round (site_in s)) (next_in_day d) d d (ap (λ (b : Bool). b && in_last_round (site_in s)) h) refl) refl

    tally-kept : (kept_by x v e).tally ≡ t
    tally-kept =
        tally-by s d own ws t out e
        ∙ skip _ _ _ _ own-few
        (read_same (λ (z : Tally). z) (is_done (kept_answer (kept_in s d own t) ws e))
        (cond (is_end e) (tally_at (next_timed (timed_in s d) own ws e).site t) t) t t (skip _ _ _ _ h refl) refl)

    store_kept : timed_store s d own ws e ≡ store_after s own e
    store_kept =
        let q = plain_turn s d own ws e h {a = storage_answer s own e} {w = (store_after s own e).words} {b = (store_after s own e).bytes}
        {x = area_with s own e} refl refl refl (follows s own e) refl in
        λ i. record { words = sym q.1.0 i; bytes = sym q.1.1.0 i }

    step_kept_lem : is_done (plain_by x v e) ≡ true → step_store s d own ws t out e ≡ store_after s own e
    unfolding step_store
    step_kept_lem a = hit _ _ _ (ap is_done (sym (plain-is e)) ∙ a) ∙ store_kept

    site-own : is_done (plain_by x v e) ≡ true → site_in (step_store s d own ws t out e) ≡ (kept_by x v e).timed.site
    site-own a =
        ap site_in (step_kept_lem a)
        ∙ follows s own e
        ∙ (as-site s own e long.0 long.1).1.0
        ∙ sym (ap (λ (z : Timed). z.site)
        (step-timed s d own ws t out e (ap is_done (sym (plain-is e)) ∙ a) ∙ plain-after (timed_of x) own ws e h))

    site-by : (full : Bool) → site_in (lent_store_by x full v e) ≡ site_by x full v e
    unfolding lent_store_by site_by taken_by
    site-by full =
        read-choice site_in (taken_by x full v e) _ _
        ∙ at_test (taken_by x full v e) _ _ _ (λ a. site-own (and_left _ (not (short_by x full v e)) a))

    -- it reports nothing
    report-kept : is_close e ≡ false → step_report s d own ws t out e ≡ out
    unfolding step_report
    report-kept c =
        read_same (λ (z : List ℕ). z) (step_accepted s d own ws t out e) (put_report s own e out) out out
        (sym (no-close-put s own e out (ap (λ (b : Bool). b && is_done (storage_answer s own e)) c))) refl

  -- the answer of a storage that is long enough
  storage-own : (e : Event) → storage_answer s own e ≡ answer_of (site_in s) own e
  unfolding storage_answer
  storage-own e = skip _ _ _ _ (enough s long.0 long.1) refl

  -- a send
  module _ (full : Bool) (j : ℕ) where
    abbrev said : Answer
    said = list_answer s d ws

    own-send : answer_of (site_in s) own (Send j) ≡ site_send (site_in s) j
    unfolding answer_of
    own-send = skip _ _ _ _ (le-ltb _ _ own_room) refl

    send-plain : plain_by x v (Send j) ≡ group_send_answer s said j
    send-plain = plain-own (Send j) refl ∙ ap (λ (a : Answer). first_refusal a said) own-send

    short-is : short_by x full v (Send j) ≡ send_short s said full j
    unfolding short_by send_short
    short-is = ap (λ (a : Answer). is_done a && (leb own_share (sent_count x) && full)) send-plain

    taken_is : taken_by x full v (Send j) ≡ send_taken s said full j
    unfolding taken_by send_taken
    taken_is = λ i. is_done (send-plain i) && not (short-is i)

    send-stored : is_done (plain_by x v (Send j)) ≡ true → step_store s d own ws t out (Send j) ≡ sent_store s j
    unfolding store_after
    send-stored a =
        let q = both-done (site_send (site_in s) j) said (done-is (group_send_answer s said j) (ap is_done (sym send-plain) ∙ a)) in
        step_kept_lem (Send j) refl a ∙ hit _ _ _ (ap is_done (storage-own (Send j) ∙ own-send ∙ q.0))

    store_is : lent_store_by x full v (Send j) ≡ send_store s said full j
    unfolding lent_store_by send_store taken_by
    store_is =
        at_test (taken_by x full v (Send j)) _ _ _ (λ a. send-stored (and_left _ (not (short_by x full v (Send j))) a))
        ∙ ap (λ (b : Bool). cond b (sent_store s j) s) taken_is

    pub send-turn : {r : Answer} {b l y : List ℕ} → r ≡ send_answer s said full j → b ≡ (send_store s said full j).bytes → l
        ≡ send_places s said full j x.number x.places → y ≡ send_area s said full j x.places x.area
        → TurnIs x full v (Send j) r d t s.words b l y out
    unfolding answer_by day_by tally_by places_by area_by report_by send_answer send_places send_area send_store sent_store
    send-turn {r} {b} {l} {y} e p q m =
        let T = taken_by x full v (Send j) in
        let c : r ≡ cond (short_by x full v (Send j)) Crowded (plain_by x v (Send j)) = e
        ∙ sym (ap₂ (λ (u : Bool) (a : Answer). cond u Crowded a) short-is send-plain) in
        let n : d ≡ cond T (kept_by x v (Send j)).timed.day d =
        sym (read_same (λ (z : Day). z) T (kept_by x v (Send j)).timed.day d d (day-kept (Send j) refl) refl) in
        let u : t ≡ cond T (kept_by x v (Send j)).tally t =
        sym (read_same (λ (z : Tally). z) T (kept_by x v (Send j)).tally t t (tally-kept (Send j) refl) refl) in
        let o : out ≡ cond T (step_report s d own ws t out (Send j)) out =
        sym (read_same (λ (z : List ℕ). z) T (step_report s d own ws t out (Send j)) out out (report-kept (Send j) refl refl) refl) in
        let w : s.words ≡ (send_store s said full j).words =
        sym (read_same (λ (z : Store). z.words) (send_taken s said full j) (sent_store s j) s s.words refl refl) in
        let ww : s.words ≡ (lent_store_by x full v (Send j)).words = w ∙ ap (λ (z : Store). z.words) (sym store_is) in
        let bb : b ≡ (lent_store_by x full v (Send j)).bytes = p ∙ ap (λ (z : Store). z.bytes) (sym store_is) in (
          c,
          (
            n,
            (
              u,
              (
                ww,
                (
                  bb,
                  (
                    q ∙ sym (ap (λ (b : Bool). cond b (next_places x.places x.number (sent_count x) (Send j)) x.places) taken_is),
                    (
                      m ∙ sym (ap (λ (b : Bool). cond b (next_bytes (around x) (timed_of x) (Send j)) x.area) taken_is),
                      (o, (λ i. site_in (store (ww i) (bb i))) ∙ site-by (Send j) refl full),
                    ),
                  ),
                ),
              ),
            ),
          ),
        )

  -- an event that is no send is never refused as 17
  module _ (full : Bool) (e : Event) (h : is_send e ≡ false) where
    never-short : short_by x full v e ≡ false
    unfolding short_by
    never-short = ap (λ (b : Bool). b && (is_done (plain_by x v e) && (leb own_share (sent_count x) && full))) h

    taken-done : taken_by x full v e ≡ is_done (plain_by x v e)
    unfolding taken_by
    taken-done = ap (λ (b : Bool). is_done (plain_by x v e) && not b) never-short ∙ and-true (is_done (plain_by x v e))

    -- what is left where the machine refuses is what was there
    kept_by_lem : {A : Type 0} (f : Kept → A) → cond (taken_by x full v e) (f (kept_by x v e)) (f (kept_in s d own t)) ≡ f (kept_by x v e)
    kept_by_lem f = go (taken_by x full v e) refl
      where
        go : (b : Bool) → taken_by x full v e ≡ b → cond b (f (kept_by x v e)) (f (kept_in s d own t)) ≡ f (kept_by x v e)
        go true z = refl
        go false z = sym (ap f (refused-kept e (sym taken-done ∙ z)))

    -- from what the machine makes of the site with an area of its own
    pub plain-turn-by : {r : Answer} {n : Day} {q : Tally} {w b l y o : List ℕ} → r ≡ plain_by x v e → n ≡ (kept_by x v e).timed.day
        → q ≡ (kept_by x v e).tally → store w b ≡ step_store s d own ws t out e
        → l ≡ cond (is_done (plain_by x v e)) (next_places x.places x.number (sent_count x) e) x.places → y
        ≡ cond (is_done (plain_by x v e)) (next_bytes (around x) (timed_of x) e) x.area
        → o ≡ step_report s d own ws t out e → site_in (store w b) ≡ (kept_by x v e).timed.site → TurnIs x full v e r n q w b l y o
    unfolding answer_by day_by tally_by lent_store_by site_by places_by area_by report_by step_report
    plain-turn-by {r} {n} {q} {w} {b} {l} {y} {o} p i k m u z g f =
        let T = taken_by x full v e in
        let st : store w b ≡ cond T (step_store s d own ws t out e) s = m ∙ sym (store_by T refl) in (
          p ∙ sym (skip _ _ _ _ never-short refl),
          (
            i ∙ sym (kept_by_lem (λ (k : Kept). k.timed.day)),
            (
              k ∙ sym (kept_by_lem (λ (k : Kept). k.tally)),
              (
                ap (λ (z : Store). z.words) st,
                (
                  ap (λ (z : Store). z.bytes) st,
                  (
                    u ∙ sym (ap (λ (b : Bool). cond b (next_places x.places x.number (sent_count x) e) x.places) taken-done),
                    (
                      z ∙ sym (ap (λ (b : Bool). cond b (next_bytes (around x) (timed_of x) e) x.area) taken-done),
                      (g ∙ sym (report-by T refl), f ∙ sym (kept_by_lem (λ (k : Kept). k.timed.site))),
                    ),
                  ),
                ),
              ),
            ),
          ),
        )
      where
        refuses : taken_by x full v e ≡ false → step_accepted s d own ws t out e ≡ false
        refuses z = ap is_done (sym (plain-is e)) ∙ sym taken-done ∙ z

        store_by : (b : Bool) → taken_by x full v e ≡ b → cond b (step_store s d own ws t out e) s ≡ step_store s d own ws t out e
        store_by true z = refl
        store_by false z = sym (store-refused s d own ws t out e (refuses z))

        report-by : (b : Bool) → taken_by x full v e ≡ b → cond b (step_report s d own ws t out e) out ≡ step_report s d own ws t out e
        report-by true z = refl
        report-by false z = sym (skip _ _ _ _ (refuses z) refl)

  -- a hear
  pub hear-turn : (full : Bool) (j p : ℕ) {r : Answer} {w b : List ℕ} → r ≡ group_hear_answer s own (list_answer s d ws) j p → w
      ≡ (hear_store s own (list_answer s d ws) j p).words → b ≡ (hear_store s own (list_answer s d ws) j p).bytes
      → TurnIs x full v (Hear j p) r d t w b x.places x.area out
  unfolding hear_store store_after answer_of
  hear-turn full j p {r} {w} {b} e u z =
      let own-hear : answer_of (site_in s) own (Hear j p) ≡ site_hear (site_in s) own j p = skip _ _ _ _ (le-ltb _ _ own_room) refl in
      let a : plain_by x v (Hear j p) ≡ group_hear_answer s own (list_answer s d ws) j p = plain-own (Hear j p) refl
      ∙ ap (λ (q : Answer). first_refusal q (list_answer s d ws)) own-hear in
      let m : store w b ≡ hear_store s own (list_answer s d ws) j p = λ i. record { words = u i; bytes = z i } in
      let n : hear_store s own (list_answer s d ws) j p ≡ step_store s d own ws t out (Hear j p) =
      go a own-hear (is_done (plain_by x v (Hear j p))) refl in
      plain-turn-by full (Hear j p) refl (e ∙ sym a) (sym (day-kept (Hear j p) refl)) (sym (tally-kept (Hear j p) refl))
      (m ∙ n)
      (either (is_done (plain_by x v (Hear j p))) x.places)
      (either (is_done (plain_by x v (Hear j p))) x.area)
      (sym (report-kept (Hear j p) refl refl))
      (ap site_in (m ∙ n) ∙ site (is_done (plain_by x v (Hear j p))) refl)
    where
      go : plain_by x v (Hear j p) ≡ group_hear_answer s own (list_answer s d ws) j p → answer_of (site_in s) own (Hear j p)
          ≡ site_hear (site_in s) own j p
          → (c : Bool) → is_done (plain_by x v (Hear j p)) ≡ c
          → hear_store s own (list_answer s d ws) j p ≡ step_store s d own ws t out (Hear j p)
      go a k true c =
          let f = both-done (site_hear (site_in s) own j p) (list_answer s d ws)
          (done-is (group_hear_answer s own (list_answer s d ws) j p) (ap is_done (sym a) ∙ c)) in
          hit _ _ _ (ap is_done (sym a) ∙ c) ∙ sym (step_kept_lem (Hear j p) refl c ∙ hit _ _ _ (ap is_done (storage-own (Hear j p) ∙ k ∙ f.0)))
      go a k false c = skip _ _ _ _ (ap is_done (sym a) ∙ c)
          (sym (store-refused s d own ws t out (Hear j p) (ap is_done (sym (plain-is (Hear j p))) ∙ c)))

      site : (c : Bool) → is_done (plain_by x v (Hear j p)) ≡ c → site_in (step_store s d own ws t out (Hear j p))
          ≡ (kept_by x v (Hear j p)).timed.site
      site true c = site-own (Hear j p) refl c
      site false c =
          ap site_in (store-refused s d own ws t out (Hear j p) (ap is_done (sym (plain-is (Hear j p))) ∙ c))
          ∙ sym (ap (λ (k : Kept). k.timed.site) (refused-kept (Hear j p) c))

  -- any other event
  module _ (full : Bool) (e : Event) (no-send : is_send e ≡ false) (no-hear : is_hear e ≡ false) where
    places-kept : (t : Bool) → cond (is_close e && t) (freed x.number x.places) x.places
        ≡ cond t (next_places x.places x.number (sent_count x) e) x.places
    places-kept t = go e no-send t
      where
        go : (e : Event) → is_send e ≡ false → (t : Bool) → cond (is_close e && t) (freed x.number x.places) x.places
            ≡ cond t (next_places x.places x.number (sent_count x) e) x.places
        go (Send j) h t = clash (is_send (Send j)) refl h
        go (Hear j p) h t = either t _
        go Close h t = refl
        go (Take j i) h t = either t _
        go End h t = either t _
        go (Want j d) h t = either t _
        go (Crash j) h t = either t _
        go (Restart j flags) h t = either t _

    area_same : (t : Bool) → x.area ≡ cond t (next_bytes (around x) (timed_of x) e) x.area
    area_same t = go e no-send t
      where
        go : (e : Event) → is_send e ≡ false → (t : Bool) → x.area ≡ cond t (next_bytes (around x) (timed_of x) e) x.area
        go (Send j) h t = clash (is_send (Send j)) refl h
        go (Hear j p) h t = either t _
        go Close h t = either t _
        go (Take j i) h t = either t _
        go End h t = either t _
        go (Want j d) h t = either t _
        go (Crash j) h t = either t _
        go (Restart j flags) h t = either t _

    pub other-turn : {r : Answer} {c : Day} {i : Tally} {w b l y o : List ℕ} → r ≡ step_answer s d x.area ws t out e
        → w ≡ (step_store s d x.area ws t out e).words → b ≡ (step_store s d x.area ws t out e).bytes → o
        ≡ step_report s d x.area ws t out e
        → kept_in (store w b) c y i ≡ step_kept s d x.area ws t out e
        → l ≡ cond (is_close e && is_done r) (freed x.number x.places) x.places
        → TurnIs x full v e r c i w b l y o
    other-turn {r} {c} {i} {w} {b} {l} {y} {o} p q m n k f =
        let a : step_answer s d x.area ws t out e ≡ plain_by x v e = step-answer x.area own room own_room ws e no-hear s d t out
        ∙ sym (plain-is e) in
        let time = kept-timed x.area own room own_room ws e no-hear s d t out in
        let count = kept-tally x.area own room own_room ws e no-hear s d t out in
        let st : store w b ≡ step_store s d own ws t out e = (λ i. record { words = q i; bytes = m i })
        ∙ step-store x.area own room own_room ws e no-hear s d t out in
        let ll = f ∙ ap (λ (u : Answer). cond (is_close e && is_done u) (freed x.number x.places) x.places) (p ∙ a)
        ∙ places-kept (is_done (plain_by x v e)) in
        let yy = ap (λ (z : Kept). z.area) k ∙ area-by s d x.area ws t out e no-send ∙ area_same (is_done (plain_by x v e)) in
        plain-turn-by full e no-send (p ∙ a)
        (ap (λ (z : Kept). z.timed.day) k ∙ ap (λ (z : Timed). z.day) time)
        (ap (λ (z : Kept). z.tally) k ∙ count)
        st ll yy
        (n ∙ step-report x.area own room own_room ws e no-hear s d t out)
        (ap (λ (z : Kept). z.timed.site) k ∙ ap (λ (z : Timed). z.site) time)

-- what is no send does not look at the common places
pub unfull : (x : OneSite) (v : Lent) (full : Bool) (e : Event) → is_send e ≡ false → {r : Answer} {n : Day} {k : Tally} {w b l y o : List ℕ}
    → TurnIs x false v e r n k w b l y o → TurnIs x full v e r n k w b l y o
unfolding answer_by day_by tally_by lent_store_by site_by places_by area_by report_by taken_by short_by
unfull x v full e h {r} {n} {k} {w} {b} {l} {y} {o} z =
    subst (λ (s : Bool). (r ≡ cond s Crowded (plain_by x v e))
    × ((n ≡ da s)
    × ((k ≡ ta s)
    × ((w ≡ (st s).words)
    × ((b ≡ (st s).bytes) × ((l ≡ pl s) × ((y ≡ ar s) × ((o ≡ re s) × (site_in (store w b) ≡ si s))))))))) q z
  where
    q : short_by x false v e ≡ short_by x full v e
    q = ap (λ (b : Bool). b && (is_done (plain_by x v e) && (leb own_share (sent_count x) && false))) h
        ∙ sym (ap (λ (b : Bool). b && (is_done (plain_by x v e) && (leb own_share (sent_count x) && full))) h)

    da : Bool → Day
    da s = cond (is_done (plain_by x v e) && not s) (kept_by x v e).timed.day x.day

    ta : Bool → Tally
    ta s = cond (is_done (plain_by x v e) && not s) (kept_by x v e).tally v.tally

    st : Bool → Store
    st s = cond (is_done (plain_by x v e) && not s)
        (step_store x.store x.day (own_area_of x) v.windows v.tally v.out e) x.store

    si : Bool → Site
    si s = cond (is_done (plain_by x v e) && not s) (kept_by x v e).timed.site (site_in x.store)

    pl : Bool → List ℕ
    pl s = cond (is_done (plain_by x v e) && not s) (next_places x.places x.number (sent_count x) e) x.places

    ar : Bool → List ℕ
    ar s = cond (is_done (plain_by x v e) && not s) (next_bytes (around x) (timed_of x) e) x.area

    re : Bool → List ℕ
    re s = cond (is_done (plain_by x v e) && not s) (step_report x.store x.day (own_area_of x) v.windows v.tally v.out e) v.out
