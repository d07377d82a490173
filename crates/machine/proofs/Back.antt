-- A member that was written is read back.
-- Assumes nothing.
use mathlib.Core.Path.{◌≡◌, refl, sym, ap, ap₂, ◌∙◌}
use mathlib.Core.Bool.{Bool, true, false}
use mathlib.Core.List.{List, ◌++◌}
use Prim.Native.Nat.{ℕ, ◌+◌, ◌≤◌, ◌<◌}
use native.Mathlib.Omega.{arith}
use mir.Val.{bool_byte}
use lib.Dec.{eqb}
use lib.ListN.{length, get_or, length-append, get_or-append}
use lib.Seq.{get_or-append-add}
use Rattle.lists.specs.Bytes.{window, written}
use Rattle.lists.proofs.Laws.{tab-ext, length-written}
use Rattle.lists.proofs.Places.{in-written, behind-written, window-in, Apart, apart_none, apart-written, apart-then}
use Rattle.allotment.specs.InPlace.{held_in}
use Rattle.allotment.proofs.Held.{held-alike}
use Rattle.node.specs.Core.{core_of, moved_by, schedules_by}
use Rattle.node.specs.InPlace.{both_size, behind, moved_in}
use Rattle.node.specs.declared.Config.{Config}
use Rattle.node.specs.declared.Move.{Move}
use Rattle.node.specs.Model.{Node}
use Rattle.node.specs.Model.{Schedules}
use Rattle.node.proofs.Moved.{moved-held, moved_apart}
use Rattle.range.proofs.Lengths.{Lengths}
use Rattle.wire.specs.Phases.{phase_of}
use Rattle.wire.proofs.Phases.{phase-back}
use Rattle.site.specs.Members.{setup_of}
use Rattle.site.specs.Model.{Member}
use Rattle.machine.specs.Layout.{Store, store, words_size, bytes_size, row_size, room_size, node_words_at, node_bytes_at, at_known, at_counters}
use Rattle.machine.specs.Layout.{at_schedule}
use Rattle.machine.specs.Layout.{schedules_at, config_in, node_in, stored_in, node_words, stored_small, stored_front}
use Rattle.machine.specs.Written.{written_front, written_moved}
use Rattle.machine.proofs.Laws.{apart-within, config-same}

mark-back : (b : Bool) → eqb (bool_byte b) 1 ≡ b
mark-back true = refl
mark-back false = refl

module _ (m : Member) (l : Lengths m.node) where
  pub length-row : length (node_words m.node) ≡ row_size
  unfolding node_words
  length-row = refl

  pub length_front : length (stored_front m) ≡ at_schedule
  unfolding stored_front
  length_front = simp length-append (omega (arith, l.known, l.counters))

  -- where each list stands among a member's bytes
  known-there : (x : ℕ) → x < 32 → get_or (stored_front m) (at_known + x) 0 ≡ get_or m.node.round.known x 0
  unfolding stored_front
  known-there x h =
      get_or-append-add (stored_small m) (m.node.round.known ++ m.node.epoch.counters) x 0
      ∙ get_or-append m.node.round.known m.node.epoch.counters 0 x (omega (arith, l.known))

  counts-there : (x : ℕ) → x < 32 → get_or (stored_front m) (at_counters + x) 0 ≡ get_or m.node.epoch.counters x 0
  unfolding stored_front
  counts-there x h =
      let z : at_counters + x ≡ at_known + (32 + x) = omega arith in
      let y : 32 + x ≡ length m.node.round.known + x = omega (arith, l.known) in
      ap (λ (v : ℕ). get_or (stored_front m) v 0) z
      ∙ get_or-append-add (stored_small m) (m.node.round.known ++ m.node.epoch.counters) (32 + x) 0
      ∙ ap (λ (v : ℕ). get_or (m.node.round.known ++ m.node.epoch.counters) v 0) y
      ∙ get_or-append-add m.node.round.known m.node.epoch.counters x 0

  module _ (s : Store) (i : ℕ) (h : i < 32) (w : words_size ≤ length s.words) (b : bytes_size ≤ length s.bytes) where
    abbrev pub row : List ℕ
    row = written s.words (node_words_at i) (node_words m.node)

    abbrev pub half : List ℕ
    half = written s.bytes (node_bytes_at i) (stored_front m)

    long-half : length half ≡ length s.bytes
    long-half = length-written s.bytes (stored_front m) (node_bytes_at i) (omega (arith, length_front))

    -- numbers
    word_read : (k : ℕ) → k < row_size → get_or row (node_words_at i + k) 0 ≡ get_or (node_words m.node) k 0
    word_read k j = in-written s.words (node_words m.node) (node_words_at i) (omega (arith, length-row)) k (omega (arith, length-row))

    first_word : get_or row (node_words_at i) 0 ≡ get_or (node_words m.node) 0 0
    first_word =
        let z : node_words_at i ≡ node_words_at i + 0 = omega arith in
        ap (λ (v : ℕ). get_or row v 0) z ∙ word_read 0 (omega arith)

    byte-read : (k : ℕ) → k < at_schedule → get_or half (node_bytes_at i + k) 0 ≡ get_or (stored_front m) k 0
    byte-read k j = in-written s.bytes (stored_front m) (node_bytes_at i) (omega (arith, length_front)) k (omega (arith, length_front))

    first_byte : get_or half (node_bytes_at i) 0 ≡ get_or (stored_front m) 0 0
    first_byte =
        let z : node_bytes_at i ≡ node_bytes_at i + 0 = omega arith in
        ap (λ (v : ℕ). get_or half v 0) z ∙ byte-read 0 (omega arith)

    -- lists
    known_read : window 32 half (node_bytes_at i + at_known) ≡ m.node.round.known
    known_read = window-in s.bytes (stored_front m) (node_bytes_at i) (omega (arith, length_front)) 32 at_known m.node.round.known
        (omega (arith, length_front)) l.known known-there

    counts-read : window 32 half (node_bytes_at i + at_counters) ≡ m.node.epoch.counters
    counts-read = window-in s.bytes (stored_front m) (node_bytes_at i) (omega (arith, length_front)) 32 at_counters
        m.node.epoch.counters
        (omega (arith, length_front)) l.counters counts-there

    -- the schedules stand behind
    held-half : (at : ℕ) → schedules_at i ≤ at → held_in half at ≡ held_in s.bytes at
    held-half at g = held-alike half s.bytes at at
        (λ k j. behind-written s.bytes (stored_front m) (node_bytes_at i) (omega (arith, length_front)) (at + k)
        (omega (arith, length_front, g)))

    -- nothing else is written
    pub words-apart : Apart s.words row (node_words_at i) row_size
    words-apart = apart-written s.words (node_words m.node) (node_words_at i) (node_words_at i) row_size (omega arith)
        (omega (arith, length-row))
        (omega (arith, length-row))

    pub half-apart : Apart s.bytes half (node_bytes_at i) room_size
    half-apart = apart-written s.bytes (stored_front m) (node_bytes_at i) (node_bytes_at i) room_size (omega arith)
        (omega (arith, length_front))
        (omega (arith, length_front))

    -- what is read of a member's words, its bytes and its schedules, of bytes that differ from these in the schedules alone
    module _ (t : List ℕ) (p : Apart half t (schedules_at i) both_size) where
      byte-back : (k : ℕ) → k < at_schedule → get_or t (node_bytes_at i + k) 0 ≡ get_or (stored_front m) k 0
      byte-back k j = p.below (node_bytes_at i + k) (omega (arith, j)) ∙ byte-read k j

      byte-first : get_or t (node_bytes_at i) 0 ≡ get_or (stored_front m) 0 0
      byte-first = p.below (node_bytes_at i) (omega arith) ∙ first_byte

      list_back : (k : ℕ) → k + 32 ≤ at_schedule → window 32 t (node_bytes_at i + k) ≡ window 32 half (node_bytes_at i + k)
      list_back k j = tab-ext 32 _ _ (λ x y. p.below (node_bytes_at i + k + x) (omega (arith, j, y)))

      config-back : config_in (store row t) ≡ config_in s
      config-back =
          config-same {s = s} {t = store row t} i words-apart
          (apart-then half-apart (apart-within (schedules_at i) both_size (omega arith) (omega arith) p)) h

      read_back : m.node.setup ≡ setup_of (config_in s) (i + 1) → held_in t (schedules_at i) ≡ m.node.schedule
          → held_in t (behind (schedules_at i)) ≡ m.node.epoch.determined → stored_in (store row t) i ≡ m
      unfolding node_in node_words stored_front
      read_back own held next =
          let setup = ap (λ (f : Config). setup_of f (i + 1)) config-back ∙ sym own in
          let up = ap (λ (x : ℕ). eqb x 1) byte-first ∙ mark-back m.up in
          let phase = ap phase_of (byte-back 3 (omega arith)) ∙ phase-back m.node.phase in
          let updated = ap (λ (x : ℕ). eqb x 1) (byte-back 4 (omega arith)) ∙ mark-back m.node.epoch.updated in
          let known = list_back at_known (omega arith) ∙ known_read in
          let counters = list_back at_counters (omega arith) ∙ counts-read in
          λ x. record {
            up = up x;
            node = record {
              setup = setup x;
              version = first_word x;
              schedule = held x;
              demand = byte-back 1 (omega arith) x;
              request = byte-back 2 (omega arith) x;
              flags = word_read 1 (omega arith) x;
              round = record {
                merged = word_read 2 (omega arith) x;
                known = known x;
                lowest = word_read 3 (omega arith) x;
                highest = word_read 4 (omega arith) x;
                heard = word_read 5 (omega arith) x;
              };
              epoch = record {
                counters = counters x;
                interactions = word_read 6 (omega arith) x;
                place = word_read 7 (omega arith) x;
                updated = updated x;
                determined = next x;
              };
              phase = phase x;
            };
          }

    pub front-stored : m.node.setup ≡ setup_of (config_in s) (i + 1) → (node_in s i).schedule ≡ m.node.schedule
        → (node_in s i).epoch.determined ≡ m.node.epoch.determined → stored_in (written_front s i m) i ≡ m
    unfolding node_in
    front-stored own e f =
        read_back half (apart_none half (schedules_at i) both_size) own (held-half (schedules_at i) (omega arith) ∙ e)
        (held-half (behind (schedules_at i)) (omega arith) ∙ f)

    -- its schedules moved
    module _ (v : Move) where
      room-both : schedules_at i + both_size ≤ length half
      room-both = omega (arith, long-half)

      abbrev moved : List ℕ
      moved = moved_in v (core_of (node_in s i)) half (schedules_at i)

      moved-only : Apart half moved (schedules_at i) both_size
      moved-only = moved_apart half (schedules_at i) room-both v (core_of (node_in s i))

      moved-pair : schedules_by v (core_of (node_in s i)) (held_in half (schedules_at i)) (held_in half (behind (schedules_at i)))
          ≡ schedules_by v (core_of (node_in s i)) (node_in s i).schedule (node_in s i).epoch.determined
      unfolding node_in
      moved-pair = ap₂ (schedules_by v (core_of (node_in s i))) (held-half (schedules_at i) (omega arith))
          (held-half (behind (schedules_at i)) (omega arith))

      -- is read back where it is what the move makes of the node that stood there
      pub moved-stored : m.node.setup ≡ setup_of (config_in s) (i + 1) → moved_by (node_in s i) (core_of m.node) v ≡ m.node
          → stored_in (written_moved s i m v) i ≡ m
      moved-stored own e =
          let q = moved-held half (schedules_at i) room-both v (core_of (node_in s i)) ∙ moved-pair in
          read_back moved moved-only own
          (ap (λ (x : Schedules). x.held) q ∙ ap (λ (x : Node). x.schedule) e)
          (ap (λ (x : Schedules). x.determined) q ∙ ap (λ (x : Node). x.epoch.determined) e)

      pub full-apart : Apart s.bytes moved (node_bytes_at i) room_size
      full-apart = apart-then half-apart (apart-within (schedules_at i) both_size (omega arith) (omega arith) moved-only)
