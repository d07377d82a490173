-- The lent memory of a group: its lengths, what is read of the site at an index, and what is left of the others where one is written.
-- Assumes nothing.
use mathlib.Core.Path.{◌≡◌, refl, sym, ap, ap₂, ◌∙◌}
use mathlib.Core.Bool.{Bool, true, false, cond, ◌||◌}
use mathlib.Core.Logic.{◌≢◌}
use mathlib.Core.List.{List, ◌++◌}
use Prim.Native.Nat.{ℕ, ◌+◌, ◌-◌, ◌*◌, ◌≤◌, ◌<◌}
use native.Mathlib.Omega.{arith}
use borrow.Author.Tests.{eq-eqb, eqb-true, ltb-true, ltb-false, le-ltb}
use borrow.Rule.Slice.PartMut.{put_mid}
use lib.Dec.{eqb, ltb}
use lib.ListN.{length, get_or, set, take, drop, replicate, length-set, length-replicate}
use lib.Seq.{ext_get_or, get_or-take, get_or-set_same, get_or-set_other, set-get_or, take-set-le, length-take-le}
use Rattle.words.proofs.Tests.{hit, skip, or-neither}
use Rattle.lists.specs.All.{tab}
use Rattle.lists.specs.Bytes.{span, written}
use Rattle.lists.proofs.Laws.{tab-ext, length-written, part-written, get_d-zeros}
use Rattle.site.specs.Counts.{packets}
use Rattle.machine.specs.Layout.{Store, store, words_size, bytes_size, site_in}
use Rattle.lists.proofs.Places.{in-written, behind-written}
use Rattle.machine.specs.timed.Stored.{timed_in}
use Rattle.machine.specs.declared.Day.{Day}
use Rattle.group.specs.Places.{top_places}
use Rattle.group.specs.Group.{Empty, Taken, vacant, own_share, beyond}
use Rattle.sites.specs.many.Memory.{Memory, memory, table_size, group_too_short, store_at, site_slot_at, is_taken, day_at, site_slot_in}
use Rattle.sites.specs.many.Memory.{places_in, group_in}
use Rattle.sites.specs.many.Memory.{store_words, store_bytes, site_slot_taken, table_with}
use Rattle.sites.specs.many.Inner.{Sized}
use Rattle.sites.proofs.many.Lists.{length-span, span-again, span_same, span-before, span-behind, tab-set, mid, front-written}

pub record Lengths (m : Memory) : Type 0 where
  pub words : 8 * words_size ≤ length m.words
  pub bytes : 8 * bytes_size ≤ length m.bytes
  pub table : table_size ≤ length m.table

pub lengths : (m : Memory) → group_too_short m ≡ false → Lengths m
lengths m h =
    let p = or-neither (ltb (length m.words) (8 * words_size)) _ h in
    let q = or-neither (ltb (length m.bytes) (8 * bytes_size)) (ltb (length m.table) table_size) p.1 in
    record { words = ltb-false _ _ p.0; bytes = ltb-false _ _ q.0; table = ltb-false _ _ q.1 }

-- the storage that parts of words and bytes are
pub cut-store : (m : Memory) (i : ℕ)
    → store (take (words_size * i + words_size - words_size * i) (drop (words_size * i) m.words))
    (take (bytes_size * i + bytes_size - bytes_size * i) (drop (bytes_size * i) m.bytes)) ≡ store_at m i
cut-store m i = λ k. record { words = mid m.words (words_size * i) words_size k; bytes = mid m.bytes (bytes_size * i) bytes_size k }

-- what a site has beyond its own share
pub taken-beyond : (m : Memory) (i : ℕ) {n : ℕ} → get_or m.table (site_slot_at i) 0 ≡ 1
    → n ≡ packets (site_in (store (take (words_size * i + words_size - words_size * i) (drop (words_size * i) m.words))
    (take (bytes_size * i + bytes_size - bytes_size * i) (drop (bytes_size * i) m.bytes)))).sent
    → beyond (site_slot_in m i) ≡ n - own_share
unfolding site_slot_in
taken-beyond m i h e =
    ap beyond (hit _ _ _ (eq-eqb _ _ h))
    ∙ ap (λ (k : ℕ). k - own_share) (sym (e ∙ ap (λ (s : Store). packets (site_in s).sent) (cut-store m i)))

-- a part of words or bytes that has come back
pub words_back : (m : Memory) (i : ℕ) (s : Store) {w : List ℕ} → length s.words ≡ words_size → w ≡ s.words
    → put_mid (words_size * i) (words_size * i + words_size - words_size * i) m.words w ≡ store_words m i s
words_back m i s l e = ap (put_mid (words_size * i) (words_size * i + words_size - words_size * i) m.words) e
    ∙ part-written m.words s.words (words_size * i) (words_size * i + words_size) (omega arith) (omega (arith, l))

pub bytes_back : (m : Memory) (i : ℕ) (s : Store) {b : List ℕ} → length s.bytes ≡ bytes_size → b ≡ s.bytes
    → put_mid (bytes_size * i) (bytes_size * i + bytes_size - bytes_size * i) m.bytes b ≡ store_bytes m i s
bytes_back m i s l e = ap (put_mid (bytes_size * i) (bytes_size * i + bytes_size - bytes_size * i) m.bytes) e
    ∙ part-written m.bytes s.bytes (bytes_size * i) (bytes_size * i + bytes_size) (omega arith) (omega (arith, l))

-- the lengths of the parts
pub cut-words : (m : Memory) (i : ℕ) → 8 * words_size ≤ length m.words → i < 8
    → length (take (words_size * i + words_size - words_size * i) (drop (words_size * i) m.words)) ≡ words_size
cut-words m i h k = ap length (mid m.words (words_size * i) words_size)
    ∙ length-span m.words (words_size * i) words_size (omega (arith, h, k))

pub cut-bytes : (m : Memory) (i : ℕ) → 8 * bytes_size ≤ length m.bytes → i < 8
    → length (take (bytes_size * i + bytes_size - bytes_size * i) (drop (bytes_size * i) m.bytes)) ≡ bytes_size
cut-bytes m i h k = ap length (mid m.bytes (bytes_size * i) bytes_size)
    ∙ length-span m.bytes (bytes_size * i) bytes_size (omega (arith, h, k))

-- the memory with another site at index i
module _ (m : Memory) (L : Lengths m) (i : ℕ) (low : i < 8) (s : Store) (sized : Sized s) (places : List ℕ)
    (long : length places ≡ top_places) (d : Day) where
  abbrev next : Memory
  next = memory (store_words m i s) (store_bytes m i s) (table_with m.table places i d)

  words-room : words_size * i + length s.words ≤ length m.words
  words-room = omega (arith, sized.0, L.words, low)

  bytes-room : bytes_size * i + length s.bytes ≤ length m.bytes
  bytes-room = omega (arith, sized.1, L.bytes, low)

  abbrev fresh : List ℕ
  fresh = written m.table 0 places

  front-room : 0 + length places ≤ length m.table
  front-room = omega (arith, long, L.table)

  length-fresh : length fresh ≡ length m.table
  length-fresh = length-written m.table places 0 front-room

  length-table : length (table_with m.table places i d) ≡ length m.table
  length-table = length-set (set (set fresh (site_slot_at i) 1) (site_slot_at i + 1) d.length) (site_slot_at i + 2) d.epoch
      ∙ length-set (set fresh (site_slot_at i) 1) (site_slot_at i + 1) d.length ∙ length-set fresh (site_slot_at i) 1 ∙ length-fresh

  pub long-enough : group_too_short next ≡ false
  long-enough =
      let a : ltb (length (store_words m i s)) (8 * words_size) ≡ false =
      le-ltb (length (store_words m i s)) (8 * words_size)
      (omega (arith, length-written m.words s.words (words_size * i) words-room, L.words)) in
      let b : ltb (length (store_bytes m i s)) (8 * bytes_size) ≡ false =
      le-ltb (length (store_bytes m i s)) (8 * bytes_size)
      (omega (arith, length-written m.bytes s.bytes (bytes_size * i) bytes-room, L.bytes)) in
      let c : ltb (length (table_with m.table places i d)) table_size ≡ false =
      le-ltb (length (table_with m.table places i d)) table_size (omega (arith, length-table, L.table)) in
      λ k. a k || (b k || c k)

  -- the places
  places_then : places_in (table_with m.table places i d) ≡ places
  places_then =
      take-set-le top_places (set (set fresh (site_slot_at i) 1) (site_slot_at i + 1) d.length) (site_slot_at i + 2) d.epoch (omega arith)
      ∙ take-set-le top_places (set fresh (site_slot_at i) 1) (site_slot_at i + 1) d.length (omega arith)
      ∙ take-set-le top_places fresh (site_slot_at i) 1 (omega arith)
      ∙ span_same m.table places 0 front-room top_places long

  -- the site
  store_then : store_at next i ≡ s
  store_then = λ k. record {
    words = span_same m.words s.words (words_size * i) words-room words_size sized.0 k;
    bytes = span_same m.bytes s.bytes (bytes_size * i) bytes-room bytes_size sized.1 k;
  }

  last-read : get_or (table_with m.table places i d) (site_slot_at i + 2) 0 ≡ d.epoch
  last-read = get_or-set_same (set (set fresh (site_slot_at i) 1) (site_slot_at i + 1) d.length) (site_slot_at i + 2) d.epoch 0
      (omega (
        arith,
        low,
        L.table,
        length-fresh,
        length-set (set fresh (site_slot_at i) 1) (site_slot_at i + 1) d.length,
        length-set fresh (site_slot_at i) 1,
      ))

  middle-read : get_or (table_with m.table places i d) (site_slot_at i + 1) 0 ≡ d.length
  middle-read =
      get_or-set_other (set (set fresh (site_slot_at i) 1) (site_slot_at i + 1) d.length) (site_slot_at i + 2) (site_slot_at i + 1) d.epoch 0
      (λ e. absurd (omega (arith, e)))
      ∙ get_or-set_same (set fresh (site_slot_at i) 1) (site_slot_at i + 1) d.length 0
      (omega (arith, low, L.table, length-fresh, length-set fresh (site_slot_at i) 1))

  first_read : get_or (table_with m.table places i d) (site_slot_at i) 0 ≡ 1
  first_read =
      get_or-set_other (set (set fresh (site_slot_at i) 1) (site_slot_at i + 1) d.length) (site_slot_at i + 2) (site_slot_at i) d.epoch 0
      (λ e. absurd (omega (arith, e)))
      ∙ get_or-set_other (set fresh (site_slot_at i) 1) (site_slot_at i + 1) (site_slot_at i) d.length 0 (λ e. absurd (omega (arith, e)))
      ∙ get_or-set_same fresh (site_slot_at i) 1 0 (omega (arith, low, L.table, length-fresh))

  site-slot-then : site_slot_in next i ≡ Taken (timed_in s d)
  unfolding site_slot_in
  site-slot-then = hit _ _ _ (eq-eqb _ _ first_read)
      ∙ (λ k. Taken (timed_in (store_then k) (record { length = middle-read k; epoch = last-read k })))

  -- any other
  other-read : (n : ℕ) → top_places ≤ n → n ≢ site_slot_at i → n ≢ site_slot_at i + 1 → n ≢ site_slot_at i + 2
      → get_or (table_with m.table places i d) n 0
      ≡ get_or m.table n 0
  other-read n h a b c =
      get_or-set_other (set (set fresh (site_slot_at i) 1) (site_slot_at i + 1) d.length) (site_slot_at i + 2) n d.epoch 0 c
      ∙ get_or-set_other (set fresh (site_slot_at i) 1) (site_slot_at i + 1) n d.length 0 b
      ∙ get_or-set_other fresh (site_slot_at i) n 1 0 a
      ∙ behind-written m.table places 0 front-room n (omega (arith, h, long))

  module _ (k : ℕ) (below : k < 8) (differs : k ≢ i) where
    words-other : span (store_words m i s) (words_size * k) words_size ≡ span m.words (words_size * k) words_size
    words-other = go (ltb k i) refl
      where
        go : (t : Bool) → ltb k i ≡ t → span (store_words m i s) (words_size * k) words_size ≡ span m.words (words_size * k) words_size
        go true e = span-before m.words s.words (words_size * i) words-room (words_size * k) words_size (omega (arith, ltb-true k i e))
        go false e = span-behind m.words s.words (words_size * i) words-room (words_size * k) words_size
            (omega (arith, ltb-false k i e, differs, sized.0)) (omega (arith, below, L.words))

    bytes-other : span (store_bytes m i s) (bytes_size * k) bytes_size ≡ span m.bytes (bytes_size * k) bytes_size
    bytes-other = go (ltb k i) refl
      where
        go : (t : Bool) → ltb k i ≡ t → span (store_bytes m i s) (bytes_size * k) bytes_size ≡ span m.bytes (bytes_size * k) bytes_size
        go true e = span-before m.bytes s.bytes (bytes_size * i) bytes-room (bytes_size * k) bytes_size (omega (arith, ltb-true k i e))
        go false e = span-behind m.bytes s.bytes (bytes_size * i) bytes-room (bytes_size * k) bytes_size
            (omega (arith, ltb-false k i e, differs, sized.1)) (omega (arith, below, L.bytes))

    site-slot-other : site_slot_in next k ≡ site_slot_in m k
    unfolding site_slot_in
    site-slot-other =
        let a = other-read (site_slot_at k) (omega arith) (λ e. differs (omega (arith, e))) (λ e. absurd (omega (arith, e)))
        (λ e. absurd (omega (arith, e))) in
        let b = other-read (site_slot_at k + 1) (omega arith) (λ e. absurd (omega (arith, e))) (λ e. differs (omega (arith, e)))
        (λ e. absurd (omega (arith, e))) in
        let c = other-read (site_slot_at k + 2) (omega arith) (λ e. absurd (omega (arith, e))) (λ e. absurd (omega (arith, e)))
        (λ e. differs (omega (arith, e))) in
        λ j. cond (eqb (a j) 1) (Taken (timed_in (store (words-other j) (bytes-other j)) (record { length = b j; epoch = c j }))) Empty

  -- the group
  pub group-then : (area : List ℕ) → group_in next area
      ≡ record { site_slots = set (tab 8 (site_slot_in m)) i (Taken (timed_in s d)); places = places; area = area }
  unfolding group_in
  group-then area =
      let q = tab-set Empty 8 (site_slot_in m) (site_slot_in next) i (Taken (timed_in s d)) low site-slot-then
      (λ k l e. site-slot-other k l e) in
      skip _ _ _ _ long-enough (λ j. record { site_slots = q j; places = places_then j; area = area })

-- the memory with the site that it has at index i
pub same-again : (m : Memory) (L : Lengths m) (i : ℕ) → i < 8 → is_taken m.table i ≡ true
    → memory (store_words m i (store_at m i)) (store_bytes m i (store_at m i))
    (table_with m.table (places_in m.table) i (day_at m.table i)) ≡ m
same-again m L i low taken =
    let w = span-again m.words (words_size * i) words_size (omega (arith, low, L.words)) in
    let b = span-again m.bytes (bytes_size * i) bytes_size (omega (arith, low, L.bytes)) in
    let p : written m.table 0 (places_in m.table) ≡ m.table = span-again m.table 0 top_places (omega (arith, L.table)) in
    let one : get_or m.table (site_slot_at i) 0 ≡ 1 = eqb-true _ _ taken in
    let t = m.table in
    let a : set t (site_slot_at i) 1 ≡ t = ap (set t (site_slot_at i)) (sym one) ∙ set-get_or t (site_slot_at i) 0 in
    let q : site_slot_taken t i (day_at t i) ≡ t =
    ap (λ (l : List ℕ). set (set l (site_slot_at i + 1) (get_or t (site_slot_at i + 1) 0)) (site_slot_at i + 2) (get_or t (site_slot_at i + 2) 0)) a
    ∙ ap (λ (l : List ℕ). set l (site_slot_at i + 2) (get_or t (site_slot_at i + 2) 0)) (set-get_or t (site_slot_at i + 1) 0)
    ∙ set-get_or t (site_slot_at i + 2) 0 in
    let z = ap (λ (l : List ℕ). site_slot_taken l i (day_at t i)) p ∙ q in
    λ k. memory (w k) (b k) (z k)

-- the places that have come back, and a day
pub table-back : (t : List ℕ) (i : ℕ) {b P : List ℕ} {d e : Day} → length P ≡ top_places → b ≡ P → d ≡ e
    → site_slot_taken (b ++ drop top_places t) i d
    ≡ table_with t P i e
table-back t i {b} {P} {d} {e} l q k =
    ap₂ (λ (x : List ℕ) (y : Day). site_slot_taken x i y) (ap (λ (x : List ℕ). x ++ drop top_places t) q ∙ front-written t P top_places l) k

-- a group that has just begun
pub begun : (m : Memory) → Lengths m → (area : List ℕ)
    → group_in (memory m.words m.bytes (written m.table 0 (replicate table_size 0))) area ≡ vacant area
unfolding group_in site_slot_in tab
begun m L area =
    let t = m.table in
    let zeros : List ℕ = replicate table_size 0 in
    let l : length zeros ≡ table_size = length-replicate {A = ℕ} table_size 0 in
    let room : 0 + length zeros ≤ length t = omega (arith, l, L.table) in
    let n = written t 0 zeros in
    let k : length n ≡ length t = length-written t zeros 0 room in
    let a : ltb (length m.words) (8 * words_size) ≡ false = le-ltb (length m.words) (8 * words_size) L.words in
    let b : ltb (length m.bytes) (8 * bytes_size) ≡ false = le-ltb (length m.bytes) (8 * bytes_size) L.bytes in
    let c : ltb (length n) table_size ≡ false = le-ltb (length n) table_size (omega (arith, k, L.table)) in
    let long : group_too_short (memory m.words m.bytes n) ≡ false = λ j. a j || (b j || c j) in
    let zero : (i : ℕ) → i < table_size → get_or n i 0 ≡ 0 = λ i h. let e : 0 + i ≡ i = omega arith in ap (λ (x : ℕ). get_or n x 0) (sym e)
    ∙ in-written t zeros 0 room i (omega (arith, h, l)) ∙ get_d-zeros table_size i in
    let empty : (i : ℕ) → i < 8 → site_slot_in (memory m.words m.bytes n) i ≡ Empty =
    λ i h. skip _ _ _ _ (ap (λ (x : ℕ). eqb x 1) (zero (site_slot_at i) (omega (arith, h)))) refl in
    let site_slots : tab 8 (site_slot_in (memory m.words m.bytes n)) ≡ replicate 8 Empty =
    tab-ext 8 (site_slot_in (memory m.words m.bytes n)) (λ i. Empty) empty in
    let f : length (places_in n) ≡ top_places = length-take-le top_places n (omega (arith, k, L.table)) in
    let places : places_in n ≡ replicate top_places 0 =
    ext_get_or 0 (places_in n) (replicate top_places 0) (f ∙ sym (length-replicate {A = ℕ} top_places 0))
    (λ i h. let g : i < top_places = omega (arith, f, h) in get_or-take top_places n i 0 g ∙ zero i (omega (arith, g))
    ∙ sym (get_d-zeros top_places i)) in
    skip _ _ _ _ long (λ j. record { site_slots = site_slots j; places = places j; area = area })
