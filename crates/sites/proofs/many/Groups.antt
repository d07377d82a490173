-- From the calls on one site's part of the memory to what the definitions say of the whole group.
-- Assumes nothing.
use mathlib.Core.Path.{◌≡◌, refl, sym, ap, ap₂, ◌∙◌}
use mathlib.Core.Bool.{Bool, true, false, not, cond, ◌&&◌}
use mathlib.Core.List.{List, map}
use Prim.Native.Nat.{ℕ, ◌-◌, ◌*◌, ◌<◌}
use native.Mathlib.Omega.{arith}
use lib.Dec.{ltb, leb}
use lib.ListN.{length, set}
use lib.Seq.{length-take-le}
use Rattle.words.proofs.Tests.{never, hit, skip, read_same, both, and_left, and_right}
use Rattle.lists.specs.All.{tab}
use Rattle.lists.proofs.Laws.{get_d-tab}
use Rattle.allotment.specs.Allotment.{total}
use Rattle.node.specs.Answers.{is_done, number}
use Rattle.node.specs.Answers.{Answer}
use Rattle.node.specs.Answers.{Done, NoSuchNode, NoRoom, Crowded}
use Rattle.node.proofs.Answers.{done-is}
use Rattle.site.specs.Answers.{area_size}
use Rattle.node.specs.declared.Config.{Config}
use Rattle.site.specs.declared.Table.{Table}
use Rattle.site.specs.declared.Event.{Event}
use Rattle.site.specs.declared.Event.TheVariants.{Send, Hear, Close, Take, End, Want, Crash, Restart}
use Rattle.machine.specs.Layout.{Store, words_size, bytes_size, site_in}
use Rattle.machine.proofs.Whole.{enough}
use Rattle.windows.specs.declared.Window.{Window}
use Rattle.machine.specs.timed.Timed.{Timed, first_epoch, timed_load_answer, loaded_timed, timed_answer, timed_after}
use Rattle.machine.specs.timed.Stored.{timed_in, stored_load_answer, timed_loaded_store, timed_loaded_site}
use Rattle.machine.proofs.timed.Stored.{as-begun}
use Rattle.machine.specs.combined.Kept.{first_refusal}
use Rattle.machine.specs.combined.Stored.{step_answer, step_accepted, step_store, step_report, step_kept}
use Rattle.machine.proofs.combined.Laws.{step-accepts, step-timed}
use Rattle.tally.specs.declared.Tally.{Tally}
use Rattle.group.specs.Places.{top_places, freed}
use Rattle.group.specs.Group.{SiteSlot, Empty, Taken, Group, is_number, site_slot_of, packets_in, own_share, common_share, beyond, common}
use Rattle.group.specs.Group.{own_area}
use Rattle.group.specs.Calls.{GroupCall, LoadSite, is_send, site_slot_answer, plain_answer, is_crowded, answer_to}
use Rattle.group.specs.Calls as group
use Rattle.group.specs.Steps.{next_places, next_bytes, next_by, next_group, after_group}
use Rattle.group.proofs.Ground.{number_is}
use Rattle.group.proofs.Places.{length-freed}
use Rattle.sites.specs.many.Memory.{Memory, memory, Lent, group_too_short, store_at, is_taken, day_at, site_slot_in, is_loaded, loaded_answer}
use Rattle.sites.specs.many.Memory.{places_in}
use Rattle.sites.specs.many.Memory.{group_in, store_words, store_bytes, table_with}
use Rattle.sites.specs.many.Calls.{group_load_answer, loaded_memory, after_load, group_loaded, event_call, own_area_in, site_step_answer}
use Rattle.sites.specs.many.Calls.{group_event_answer}
use Rattle.sites.specs.many.Calls.{is_heeded, own_kept, next_memory, after_event, group_area_after, group_tally_after, report_after}
use Rattle.sites.specs.many.Calls.{group_after}
use Rattle.sites.specs.many.Inner.{OneSite, around, timed_of, sent_count, own_area_of, kept_by, plain_by, short_by, taken_by, answer_by}
use Rattle.sites.specs.many.Inner.{day_by, tally_by}
use Rattle.sites.specs.many.Inner.{lent_store_by, site_by}
use Rattle.sites.specs.many.Inner.{places_by, area_by, report_by, common_in, common_full, lone_in, memory_by, loaded_by, Sized}
use Rattle.sites.proofs.many.Lists.{length-span, span-again}
use Rattle.sites.proofs.many.Memories.{Lengths, lengths, group-then, same-again}

-- memory that is long enough
abbrev grouped : Memory → List ℕ → Group
grouped m area = record { site_slots = tab 8 (site_slot_in m); places = places_in m.table; area = area }

group-is : (m : Memory) (area : List ℕ) → group_too_short m ≡ false → group_in m area ≡ grouped m area
unfolding group_in
group-is m area h = skip _ _ _ _ h refl

and-true : (b : Bool) → (b && true) ≡ b
and-true true = refl
and-true false = refl

and-false : (b : Bool) → (b && false) ≡ false
and-false true = refl
and-false false = refl

-- what an event answers, writes and stands for
abbrev pub EventIs : Memory → List ℕ → ℕ → Lent → Event → Answer → Tally → List ℕ → List ℕ → List ℕ → List ℕ → List ℕ → Type 0
EventIs m area a v e r q w b t y o =
    (r ≡ group_event_answer m area a v e)
    × ((w ≡ (after_event m area a v e).words)
    × ((b ≡ (after_event m area a v e).bytes)
    × ((t ≡ (after_event m area a v e).table)
    × ((y ≡ group_area_after m area a v e)
    × ((o ≡ report_after m area a v e)
    × ((group_in (memory w b t) y ≡ group_after m area a v e) × (q ≡ group_tally_after m area a v e)))))))

-- a refused event leaves all as it was
pub not-heeded : (m : Memory) (area : List ℕ) (a : ℕ) (v : Lent) (e : Event) {r : Answer} → is_heeded m area a v e ≡ false → r
    ≡ group_event_answer m area a v e → EventIs m area a v e r v.tally m.words m.bytes m.table area v.out
unfolding after_event group_area_after group_tally_after report_after group_after
not-heeded m area a v e {r} h k =
    let q : m ≡ after_event m area a v e = sym (skip _ _ _ _ h refl) in (
      k,
      (
        ap (λ (x : Memory). x.words) q,
        (
          ap (λ (x : Memory). x.bytes) q,
          (
            ap (λ (x : Memory). x.table) q,
            (sym (skip _ _ _ _ h refl), (sym (skip _ _ _ _ h refl), (sym (skip _ _ _ _ h refl), sym (skip _ _ _ _ h refl)))),
          ),
        ),
      ),
    )

-- a number at which nothing is loaded
pub not-loaded : (m : Memory) (area : List ℕ) (a : ℕ) (v : Lent) (e : Event) {r : Answer} → is_done r ≡ false → r ≡ loaded_answer m a
    → EventIs m area a v e r v.tally m.words m.bytes m.table area v.out
unfolding group_event_answer
not-loaded m area a v e h k =
    let d : is_done (loaded_answer m a) ≡ false = ap is_done (sym k) ∙ h in
    let q : group_event_answer m area a v e ≡ loaded_answer m a = skip _ _ _ _ d refl in
    not-heeded m area a v e (ap is_done q ∙ d) (k ∙ sym q)

pub loaded-here : (m : Memory) (a : ℕ) → is_done (loaded_answer m a) ≡ true → is_loaded m a ≡ true
unfolding loaded_answer
loaded-here m a h = go (is_loaded m a) (is_number a && group_too_short m) refl h
  where
    go : (b c : Bool) → is_loaded m a ≡ b → is_done (cond b Done (cond c NoRoom NoSuchNode)) ≡ true → is_loaded m a ≡ true
    go true c k q = k
    go false true k q = never (sym q)
    go false false k q = never (sym q)

-- a number at which a site is loaded
module _ (m : Memory) (a : ℕ) (h : is_loaded m a ≡ true) where
  pub loaded-number : is_number a ≡ true
  unfolding is_loaded
  loaded-number = and_left (is_number a) (not (group_too_short m) && is_taken m.table (a - 1)) h

  loaded-rest : (not (group_too_short m) && is_taken m.table (a - 1)) ≡ true
  unfolding is_loaded
  loaded-rest = and_right (is_number a) (not (group_too_short m) && is_taken m.table (a - 1)) h

  long : group_too_short m ≡ false
  long = not-true-is (group_too_short m) (and_left (not (group_too_short m)) (is_taken m.table (a - 1)) loaded-rest)
    where
      not-true-is : (b : Bool) → not b ≡ true → b ≡ false
      not-true-is true k = sym k
      not-true-is false k = refl

  pub loaded-lengths : Lengths m
  loaded-lengths = lengths m long

  taken_here : is_taken m.table (a - 1) ≡ true
  taken_here = and_right (not (group_too_short m)) (is_taken m.table (a - 1)) loaded-rest

  low : a - 1 < 8
  low = let n = number_is a loaded-number in omega (arith, n.from, n.to)

module _ (m : Memory) (area : List ℕ) (a : ℕ) (v : Lent) (e : Event) (h : is_loaded m a ≡ true) where
  abbrev i : ℕ
  i = a - 1

  abbrev G : Group
  G = grouped m area

  abbrev x : OneSite
  x = lone_in m area i a

  abbrev full : Bool
  full = common_full m e

  abbrev c : GroupCall
  c = event_call a v.windows e

  site-slot-is : site_slot_of G a ≡ Taken (timed_of x)
  unfolding site_slot_in
  site-slot-is = hit _ _ _ (loaded-number m a h) ∙ get_d-tab Empty 8 (site_slot_in m) i (low m a h) ∙ hit _ _ _ (taken_here m a h)

  own_is : own_area G a (sent_count x) ≡ own_area_of x
  unfolding own_area
  own_is = refl

  -- the group's own answer, but for 17
  group-plain : plain_answer G c ≡ cond (ltb (length area) area_size) NoRoom (timed_answer (timed_of x) (own_area_of x) v.windows e)
  unfolding plain_answer
  group-plain =
      ap (λ (s : SiteSlot). site_slot_answer G a s (record { event = e; windows = v.windows })) site-slot-is
      ∙ ap (λ (o : List ℕ). cond (ltb (length area) area_size) NoRoom (timed_answer (timed_of x) o v.windows e)) own_is

  -- what the machine accepts the group accepts
  own-done : is_done (plain_by x v e) ≡ true → (ltb (length area) area_size ≡ false)
      × (step_accepted x.store x.day (own_area_of x) v.windows v.tally v.out e ≡ true)
  unfolding plain_by
  own-done d = go (ltb (length area) area_size) refl
    where
      go : (b : Bool) → ltb (length area) area_size ≡ b → (ltb (length area) area_size ≡ false)
          × (step_accepted x.store x.day (own_area_of x) v.windows v.tally v.out e ≡ true)
      go true k = never (sym (sym (ap is_done (hit _ NoRoom _ k)) ∙ d))
      go false k = (k, sym (ap is_done (skip _ NoRoom _ _ k refl)) ∙ d)

  plain_done : is_done (plain_by x v e) ≡ true → is_done (plain_answer G c) ≡ true
  plain_done d =
      let q = own-done d in
      ap is_done (group-plain ∙ skip _ _ _ _ q.0 refl)
      ∙ step-accepts x.store x.day (own_area_of x) v.windows v.tally v.out e q.1

  -- where nothing else is to be said, 17 is the group's
  crowd-is : is_done (plain_by x v e) ≡ true → is_crowded G c ≡ short_by x full v e
  unfolding is_crowded short_by common common_in
  crowd-is d =
      (λ k. is_send e && ((plain_done d ∙ sym d) k
      && (leb own_share (packets_in (site-slot-is k)) && leb common_share (total (map beyond (tab 8 (site_slot_in m)))))))
      ∙ go (is_send e) (is_done (plain_by x v e)) (leb own_share (sent_count x)) (leb common_share (total (map beyond (tab 8 (site_slot_in m)))))
    where
      go : (b p q r : Bool) → (b && (p && (q && r))) ≡ (b && (p && (q && (b && r))))
      go true p q r = refl
      go false p q r = refl

  no-crowd : is_done (plain_by x v e) ≡ false → short_by x full v e ≡ false
  unfolding short_by
  no-crowd d = ap (λ (b : Bool). is_send e && (b && (leb own_share (sent_count x) && full))) d ∙ and-false (is_send e)

  accept-is : taken_by x full v e ≡ true → group.group_accepts G c ≡ true
  unfolding taken_by
  accept-is k =
      let d = and_left (is_done (plain_by x v e)) (not (short_by x full v e)) k in
      both (plain_done d) (ap not (crowd-is d) ∙ and_right (is_done (plain_by x v e)) (not (short_by x full v e)) k)

  whole : group_in m area ≡ G
  whole = group-is m area (long m a h)

  own_in : own_area_in m area a ≡ own_area_of x
  own_in = ap (λ (g : Group). own_area g a (sent_count x)) whole ∙ own_is

  own-answer : site_step_answer m area a v e ≡ plain_by x v e
  unfolding site_step_answer plain_by
  own-answer = ap (λ (o : List ℕ). cond (ltb (length area) area_size) NoRoom
      (step_answer x.store x.day o v.windows v.tally v.out e)) own_in

  answer-is : group_event_answer m area a v e ≡ answer_by x full v e
  unfolding group_event_answer loaded_answer answer_by
  answer-is =
      ap (λ (b : Bool). first_refusal (cond b Done (cond (is_number a && group_too_short m) NoRoom NoSuchNode)) last) h
      ∙ ap₂ (λ (z : Answer) (g : Group). first_refusal z (cond (is_crowded g c) Crowded Done)) own-answer whole
      ∙ go (is_done (plain_by x v e)) refl
    where
      last : Answer
      last = first_refusal (site_step_answer m area a v e) (cond (is_crowded (group_in m area) c) Crowded Done)

      go : (b : Bool) → is_done (plain_by x v e) ≡ b → first_refusal (plain_by x v e) (cond (is_crowded G c) Crowded Done)
          ≡ cond (short_by x full v e) Crowded (plain_by x v e)
      go true d =
          hit _ _ _ d
          ∙ ap (λ (b : Bool). cond b Crowded Done) (crowd-is d)
          ∙ ap (cond (short_by x full v e) Crowded) (sym (done-is (plain_by x v e) d))
      go false d = skip (is_done (plain_by x v e)) _ _ _ d refl ∙ sym (skip _ _ _ _ (no-crowd d) refl)

  taken-plain : taken_by x full v e ≡ true → is_done (plain_by x v e) ≡ true
  unfolding taken_by
  taken-plain k = and_left (is_done (plain_by x v e)) (not (short_by x full v e)) k

  heed-is : is_heeded m area a v e ≡ taken_by x full v e
  unfolding answer_by taken_by
  heed-is = ap is_done answer-is ∙ go (short_by x full v e) (plain_by x v e)
    where
      go : (b : Bool) (z : Answer) → is_done (cond b Crowded z) ≡ (is_done z && not b)
      go true z = sym (and-false (is_done z))
      go false z = sym (and-true (is_done z))

  bytes-is : next_bytes G (timed_of x) e ≡ next_bytes (around x) (timed_of x) e
  bytes-is = go e
    where
      go : (e : Event) → next_bytes G (timed_of x) e ≡ next_bytes (around x) (timed_of x) e
      go (Send j) = refl
      go (Hear j p) = refl
      go Close = refl
      go (Take j k) = refl
      go End = refl
      go (Want j d) = refl
      go (Crash j) = refl
      go (Restart j flags) = refl

  next-is : next_group G c ≡ record {
    site_slots = set (tab 8 (site_slot_in m)) i (Taken (timed_after (timed_of x) (own_area_of x) v.windows e));
    places = next_places (places_in m.table) a (sent_count x) e;
    area = next_bytes (around x) (timed_of x) e;
  }
  unfolding next_group
  next-is =
      ap (λ (s : SiteSlot). next_by G a s (record { event = e; windows = v.windows })) site-slot-is
      ∙ (λ k. record {
        site_slots = set (tab 8 (site_slot_in m)) i (Taken (timed_after (timed_of x) (own_is k) v.windows e));
        places = next_places (places_in m.table) a (sent_count x) e;
        area = bytes-is k;
      })

  -- a refused event leaves all as it was
  module _ (no : taken_by x full v e ≡ false) where
    memory_kept : memory_by m area i a v e ≡ m
    unfolding memory_by lent_store_by places_by day_by
    memory_kept =
        let s : lent_store_by x full v e ≡ store_at m i = skip _ _ _ _ no refl in
        let p : places_by x full v e ≡ places_in m.table = skip _ _ _ _ no refl in
        let d : day_by x full v e ≡ day_at m.table i = skip _ _ _ _ no refl in
        (λ k. memory (store_words m i (s k)) (store_bytes m i (s k)) (table_with m.table (p k) i (d k)))
        ∙ same-again m (loaded-lengths m a h) i (low m a h) (taken_here m a h)

    area-kept : area_by x full v e ≡ area
    unfolding area_by
    area-kept = skip _ _ _ _ no refl

  memory-is : memory_by m area i a v e ≡ after_event m area a v e
  unfolding after_event memory_by lent_store_by places_by day_by
  memory-is = go (taken_by x full v e) refl
    where
      go : (t : Bool) → taken_by x full v e ≡ t → memory_by m area i a v e ≡ cond (is_heeded m area a v e) (next_memory m area a v e) m
      go true k =
          let s : lent_store_by x full v e ≡ step_store (store_at m i) (day_at m.table i) (own_area_in m area a) v.windows
          v.tally v.out e =
          hit _ _ _ k ∙ ap (λ (o : List ℕ). step_store (store_at m i) (day_at m.table i) o v.windows v.tally v.out e) (sym own_in)
          in
          let p : places_by x full v e ≡ next_places (places_in m.table) a (sent_count x) e = hit _ _ _ k in
          let d : day_by x full v e ≡ (own_kept m area a v e).timed.day =
          hit _ _ _ k ∙ ap (λ (o : List ℕ). (step_kept (store_at m i) (day_at m.table i) o v.windows v.tally v.out e).timed.day)
          (sym own_in) in
          (λ j. memory (store_words m i (s j)) (store_bytes m i (s j)) (table_with m.table (p j) i (d j))) ∙ sym (hit _ _ _ (heed-is ∙ k))
      go false k = memory_kept k ∙ sym (skip _ _ _ _ (heed-is ∙ k) refl)

  area-is : area_by x full v e ≡ group_area_after m area a v e
  unfolding area_by group_area_after
  area-is = λ k. cond (sym heed-is k) (sym (ap (λ (g : Group). next_bytes g (timed_of x) e) whole ∙ bytes-is) k) area

  tally-is : tally_by x full v e ≡ group_tally_after m area a v e
  unfolding tally_by group_tally_after
  tally-is = λ k. cond (sym heed-is k)
      (step_kept (store_at m i) (day_at m.table i) (sym own_in k) v.windows v.tally v.out e).tally v.tally

  report-is : report_by x full v e ≡ report_after m area a v e
  unfolding report_by report_after
  report-is = λ k. cond (sym heed-is k) (step_report (store_at m i) (day_at m.table i) (sym own_in k) v.windows v.tally v.out e)
      v.out

  module _ (sized : Sized (lent_store_by x full v e)) (placed : length (places_by x full v e) ≡ top_places)
      (stands : site_in (lent_store_by x full v e) ≡ site_by x full v e) where
    after_is : group_in (memory_by m area i a v e) (area_by x full v e) ≡ cond (is_heeded m area a v e) (after_group G c) G
    unfolding memory_by after_group site_by places_by area_by day_by
    after_is = go (taken_by x full v e) refl
      where
        go : (t : Bool) → taken_by x full v e ≡ t → group_in (memory_by m area i a v e) (area_by x full v e)
            ≡ cond (is_heeded m area a v e) (after_group G c) G
        go true k =
            let time : (kept_by x v e).timed ≡ timed_after (timed_of x) (own_area_of x) v.windows e =
            step-timed x.store x.day (own_area_of x) v.windows v.tally v.out e (own-done (taken-plain k)).1 in
            let s = stands ∙ hit _ _ _ k ∙ ap (λ (z : Timed). z.site) time in
            let d : day_by x full v e ≡ (timed_after (timed_of x) (own_area_of x) v.windows e).day = hit _ _ _ k
            ∙ ap (λ (z : Timed). z.day) time in
            let p : places_by x full v e ≡ next_places (places_in m.table) a (sent_count x) e = hit _ _ _ k in
            let y : area_by x full v e ≡ next_bytes (around x) (timed_of x) e = hit _ _ _ k in
            group-then m (loaded-lengths m a h) i (low m a h) (lent_store_by x full v e) sized (places_by x full v e) placed
            (day_by x full v e) (area_by x full v e)
            ∙ (λ j. record {
              site_slots = set (tab 8 (site_slot_in m)) i (Taken (record { site = s j; day = d j }));
              places = p j;
              area = y j;
            })
            ∙ sym (hit _ _ _ (accept-is k) ∙ next-is)
            ∙ sym (hit _ _ _ (heed-is ∙ k))
        go false k = ap₂ group_in (memory_kept k) (area-kept k) ∙ whole ∙ sym (skip _ _ _ _ (heed-is ∙ k) refl)

    pub loaded-event : {r : Answer} {q : Tally} {w b t y o : List ℕ} → r ≡ answer_by x full v e → q ≡ tally_by x full v e
        → w ≡ (memory_by m area i a v e).words → b ≡ (memory_by m area i a v e).bytes → t ≡ (memory_by m area i a v e).table → y
        ≡ area_by x full v e
        → o ≡ report_by x full v e → EventIs m area a v e r q w b t y o
    unfolding group_after
    loaded-event {r} {q} {w} {b} {t} {y} {o} p k d u n z f =
        let l : memory w b t ≡ memory_by m area i a v e = λ k. record { words = d k; bytes = u k; table = n k } in
        let g = l ∙ memory-is in (
          p ∙ sym answer-is,
          (
            ap (λ (l : Memory). l.words) g,
            (
              ap (λ (l : Memory). l.bytes) g,
              (
                ap (λ (l : Memory). l.table) g,
                (
                  z ∙ area-is,
                  (
                    f ∙ report-is,
                    (
                      ap₂ group_in l z ∙ after_is
                          ∙ sym (ap (λ (g : Group). cond (is_heeded m area a v e) (after_group g c) g) whole),
                      k ∙ tally-is,
                    ),
                  ),
                ),
              ),
            ),
          ),
        )

-- of memory that is long enough the answer to a load is the group's
pub load-answers : (m : Memory) (area : List ℕ) (a : ℕ) (f : Config) (t : Table) (D : ℕ) (ws : List Window) → group_too_short m ≡ false
    → number (group_load_answer m a f t D ws) ≡ answer_to (group_in m area) (LoadSite a f t D ws)
unfolding group_load_answer answer_to is_crowded plain_answer
load-answers m area a f t D ws h = ap (λ (x : Answer). number (cond (is_number a) x NoSuchNode)) (skip _ _ _ _ h refl)

-- what a load answers, writes and stands for
module _ (m : Memory) (a : ℕ) (f : Config) (t : Table) (D : ℕ) (ws : List Window) where
  abbrev pub LoadIs : Answer → List ℕ → List ℕ → List ℕ → Type 0
  LoadIs r w b l =
      (r ≡ group_load_answer m a f t D ws)
      × ((w ≡ (after_load m a f t D ws).words)
      × ((b ≡ (after_load m a f t D ws).bytes)
      × ((l ≡ (after_load m a f t D ws).table) × ((area : List ℕ) → group_in (memory w b l) area ≡ group_loaded m area a f t D ws))))

  -- nothing is written
  kept-load : {r : Answer} (x : Answer) → group_load_answer m a f t D ws ≡ x → is_done x ≡ false → r ≡ x
      → ((area : List ℕ) → group_in m area ≡ group_loaded m area a f t D ws) → LoadIs r m.words m.bytes m.table
  unfolding after_load
  kept-load x e d k g =
      let q : m ≡ after_load m a f t D ws = sym (skip _ _ _ _ (ap is_done e ∙ d) refl) in
      (k ∙ sym e, (ap (λ (l : Memory). l.words) q, (ap (λ (l : Memory). l.bytes) q, (ap (λ (l : Memory). l.table) q, g))))

  refused-group : (area : List ℕ) → is_done (cond (is_number a) (timed_load_answer f t D ws) NoSuchNode) ≡ false → group_in m area
      ≡ group_loaded m area a f t D ws
  unfolding group_loaded after_group plain_answer is_crowded
  refused-group area d =
      let g = group_in m area in
      sym (read_same (λ (z : Group). z) (group_too_short m) g
      (cond (group.group_accepts g (LoadSite a f t D ws)) (next_group g (LoadSite a f t D ws)) g)
      g refl (skip _ _ _ _ (ap (λ (b : Bool). b && true) d) refl))

  pub no_number : {r : Answer} → is_number a ≡ false → r ≡ NoSuchNode → LoadIs r m.words m.bytes m.table
  unfolding group_load_answer
  no_number n k = kept-load NoSuchNode (skip _ _ _ _ n refl) refl k (λ area. refused-group area (ap is_done (skip _ _ _ _ n refl)))

  pub no_room : {r : Answer} → is_number a ≡ true → group_too_short m ≡ true → r ≡ NoRoom → LoadIs r m.words m.bytes m.table
  unfolding group_load_answer group_loaded
  no_room n h k = kept-load NoRoom (hit _ _ _ n ∙ hit _ _ _ h) refl k (λ area. sym (hit _ _ _ h))

  module _ (n : is_number a ≡ true) (h : group_too_short m ≡ false) where
    abbrev at : ℕ
    at = a - 1

    long-memory : Lengths m
    long-memory = lengths m h

    low-number : at < 8
    low-number = let k = number_is a n in omega (arith, k.from, k.to)

    answer-plain : group_load_answer m a f t D ws ≡ timed_load_answer f t D ws
    unfolding group_load_answer
    answer-plain = hit _ _ _ n ∙ skip _ _ _ _ h refl

    stored-plain : stored_load_answer (store_at m at) f t D ws ≡ timed_load_answer f t D ws
    unfolding stored_load_answer
    stored-plain =
        let w = length-span m.words (words_size * at) words_size (omega (arith, low-number, long-memory.words)) in
        let b = length-span m.bytes (bytes_size * at) bytes_size (omega (arith, low-number, long-memory.bytes)) in
        skip _ _ _ _ (enough (store_at m at) (omega (arith, w)) (omega (arith, b))) refl

    abbrev S : Store
    S = timed_loaded_store (store_at m at) f t D ws

    pub any-load : {r : Answer} {w b l : List ℕ} → r ≡ stored_load_answer (store_at m at) f t D ws → w ≡ (loaded_by m at a f t D ws).words
        → b ≡ (loaded_by m at a f t D ws).bytes → l ≡ (loaded_by m at a f t D ws).table
        → Sized (timed_loaded_store (store_at m at) f t D ws) → site_in (timed_loaded_store (store_at m at) f t D ws)
        ≡ timed_loaded_site (store_at m at) f t D ws → LoadIs r w b l
    unfolding loaded_by timed_loaded_store after_load group_loaded after_group plain_answer is_crowded next_group
    any-load {r} {w} {b} {l} p q u v sized stands = go (is_done (timed_load_answer f t D ws)) refl
      where
        made : memory w b l ≡ loaded_by m at a f t D ws
        made = λ k. record { words = q k; bytes = u k; table = v k }

        go : (z : Bool) → is_done (timed_load_answer f t D ws) ≡ z → LoadIs r w b l
        go true k =
            let done : stored_load_answer (store_at m at) f t D ws ≡ Done = stored-plain ∙ done-is (timed_load_answer f t D ws) k in
            let table : (loaded_by m at a f t D ws).table ≡ table_with m.table (freed a (places_in m.table)) at (first_epoch D) =
            hit _ _ _ (ap is_done done) in
            let o : memory w b l ≡ loaded_memory m a f t D ws = made ∙ (λ j. memory (store_words m at S) (store_bytes m at S) (table j)) in
            let after : loaded_memory m a f t D ws ≡ after_load m a f t D ws = sym (hit _ _ _ (ap is_done answer-plain ∙ k)) in
            let long-places : length (freed a (places_in m.table)) ≡ top_places = length-freed a (places_in m.table)
            ∙ length-take-le top_places m.table (omega (arith, long-memory.table)) in
            let timed : timed_in S (first_epoch D) ≡ loaded_timed f t D ws = as-begun (store_at m at) S f t D ws (first_epoch D) done refl stands
            in (
              p ∙ stored-plain ∙ sym answer-plain,
              (
                ap (λ (x : Memory). x.words) (o ∙ after),
                (
                  ap (λ (x : Memory). x.bytes) (o ∙ after),
                  (
                    ap (λ (x : Memory). x.table) (o ∙ after),
                    λ area.
                        ap (λ (x : Memory). group_in x area) o
                        ∙ group-then m long-memory at low-number S sized (freed a (places_in m.table)) long-places (first_epoch D) area
                        ∙ (λ j. record {
                          site_slots = set (tab 8 (site_slot_in m)) at (Taken (timed j));
                          places = freed a (places_in m.table);
                          area = area;
                        })
                        ∙ sym (skip (group_too_short m) _ _ _ h (ap (λ (g : Group). after_group g (LoadSite a f t D ws)) (group-is m area h)
                        ∙ hit _ _ _ (ap (λ (y : Answer). is_done y && true) (hit (is_number a) (timed_load_answer f t D ws) NoSuchNode n)
                        ∙ ap (λ (y : Bool). y && true) k))),
                  ),
                ),
              ),
            )
        go false k =
            let no : is_done (stored_load_answer (store_at m at) f t D ws) ≡ false = ap is_done stored-plain ∙ k in
            let s : S ≡ store_at m at = skip _ _ _ _ no refl in
            let table : (loaded_by m at a f t D ws).table ≡ m.table = skip _ _ _ _ no refl in
            let words = span-again m.words (words_size * at) words_size (omega (arith, low-number, long-memory.words)) in
            let bytes = span-again m.bytes (bytes_size * at) bytes_size (omega (arith, low-number, long-memory.bytes)) in
            let o : memory w b l ≡ m = made ∙ (λ j. memory (store_words m at (s j)) (store_bytes m at (s j)) (table j))
            ∙ (λ j. memory (words j) (bytes j) m.table) in
            let z = kept-load {r = r} (timed_load_answer f t D ws) answer-plain k (p ∙ stored-plain)
            (λ area. refused-group area (ap is_done (hit (is_number a) _ _ n) ∙ k)) in (
              z.0,
              (
                ap (λ (x : Memory). x.words) o
                    ∙ z.1.0,
                (
                  ap (λ (x : Memory). x.bytes) o
                      ∙ z.1.1.0,
                  (
                    ap (λ (x : Memory). x.table) o ∙ z.1.1.1.0,
                    λ area. ap (λ (x : Memory). group_in x area) o
                        ∙ z.1.1.1.1 area,
                  ),
                ),
              ),
            )
