-- What is read of the storage of a site after numbers were written to it.
-- Assumes nothing.
use mathlib.Core.Path.{◌≡◌, refl, sym, ap, ap₂, ◌∙◌}
use mathlib.Core.List.{List}
use Prim.Native.Nat.{ℕ, ◌+◌, ◌≤◌, ◌<◌}
use native.Mathlib.Omega.{arith}
use mathlib.Core.Bool.{Bool, true, false, cond}
use mathlib.Core.Logic.{◌≢◌}
use borrow.Author.Tests.{ltb-true, ltb-false, lt-ltb}
use lib.Dec.{ltb, eqb}
use lib.ListN.{get_or, set}
use Rattle.words.proofs.Tests.{hit}
use Rattle.masks.specs.Bytes.{masks_size}
use Rattle.allotment.specs.InPlace.{held_in}
use Rattle.allotment.proofs.Held.{held-alike}
use Rattle.node.specs.InPlace.{behind}
use Rattle.wire.specs.Phases.{phase_of}
use Rattle.site.specs.Members.{nobody, setup_of, down_member}
use Rattle.node.specs.declared.Config.{Config}
use Rattle.site.specs.Model.{Member}
use Rattle.machine.specs.Layout.{Store, row_size, room_size, node_words_at, node_bytes_at, at_known, at_counters, at_schedule, schedules_at}
use Rattle.machine.specs.Layout.{at_config}
use Rattle.machine.specs.Layout.{at_place, at_sent, at_phase, config_at, node_in, stored_in, config_in, member_in, site_in}
use Rattle.lists.specs.All.{tab}
use Rattle.lists.specs.Bytes.{window}
use Rattle.lists.proofs.Laws.{tab-ext}
use Rattle.lists.proofs.Places.{Apart}
use Rattle.windows.proofs.Demands.{tab-set}

-- what differs in a part differs in a larger one
pub apart-within : {l m : List ℕ} (at n : ℕ) {to k : ℕ} → to ≤ at → at + n ≤ to + k → Apart l m at n → Apart l m to k
apart-within at n g h p = record
    { long = p.long; below = λ x y. p.below x (omega (arith, g, y)); above = λ x y. p.above x (omega (arith, h, y)) }

-- the setup of a node
pub setup-there : (s : Store) (i : ℕ) → (node_in s i).setup ≡ setup_of (config_in s) (i + 1)
unfolding node_in
setup-there s i = refl

-- the figures, by the words alone
pub config-words : {v w : List ℕ} (i : ℕ) → i < 32 → Apart v w (node_words_at i) row_size → config_at w ≡ config_at v
config-words i h p =
    λ x. record {
      nodes = p.above at_config (omega arith) x;
      slots = p.above (at_config + 1) (omega arith) x;
      rounds = p.above (at_config + 2) (omega arith) x;
      min_heard = p.above (at_config + 3) (omega arith) x;
      split = p.above (at_config + 4) (omega arith) x;
    }

-- the storage of another node, of the figures, and of the rest
module _ {s t : Store} (i : ℕ) (p : Apart s.words t.words (node_words_at i) row_size)
    (q : Apart s.bytes t.bytes (node_bytes_at i) room_size)
  where
    module _ (k : ℕ) (d : k ≢ i) where
      row_same : (o : ℕ) → o < row_size → get_or t.words (node_words_at k + o) 0 ≡ get_or s.words (node_words_at k + o) 0
      row_same o j = go (ltb k i) refl
        where
          go : (b : Bool) → ltb k i ≡ b → get_or t.words (node_words_at k + o) 0 ≡ get_or s.words (node_words_at k + o) 0
          go true e = let z = ltb-true k i e in p.below (node_words_at k + o) (omega arith)
          go false e = let z = ltb-false k i e in p.above (node_words_at k + o) (omega (arith, d))

      room-same : (o : ℕ) → o < room_size → get_or t.bytes (node_bytes_at k + o) 0 ≡ get_or s.bytes (node_bytes_at k + o) 0
      room-same o j = go (ltb k i) refl
        where
          go : (b : Bool) → ltb k i ≡ b → get_or t.bytes (node_bytes_at k + o) 0 ≡ get_or s.bytes (node_bytes_at k + o) 0
          go true e = let z = ltb-true k i e in q.below (node_bytes_at k + o) (omega arith)
          go false e = let z = ltb-false k i e in q.above (node_bytes_at k + o) (omega (arith, d))

      list_same : (n o : ℕ) → o + n ≤ room_size → window n t.bytes (node_bytes_at k + o) ≡ window n s.bytes (node_bytes_at k + o)
      list_same n o j =
          tab-ext n _ _
          (λ x y.
          let z : node_bytes_at k + o + x ≡ node_bytes_at k + (o + x) = omega arith in
          ap (λ (v : ℕ). get_or t.bytes v 0) z ∙ room-same (o + x) (omega arith) ∙ ap (λ (v : ℕ). get_or s.bytes v 0) (sym z))

      held_same : (o : ℕ) → o + masks_size ≤ room_size → held_in t.bytes (node_bytes_at k + o) ≡ held_in s.bytes (node_bytes_at k + o)
      held_same o j =
          held-alike t.bytes s.bytes (node_bytes_at k + o) (node_bytes_at k + o)
          (λ x y.
          let z : node_bytes_at k + o + x ≡ node_bytes_at k + (o + x) = omega arith in
          ap (λ (v : ℕ). get_or t.bytes v 0) z ∙ room-same (o + x) (omega (arith, j, y)) ∙ ap (λ (v : ℕ). get_or s.bytes v 0) (sym z))

      next-same : held_in t.bytes (behind (schedules_at k)) ≡ held_in s.bytes (behind (schedules_at k))
      next-same =
          let z : behind (schedules_at k) ≡ node_bytes_at k + (at_schedule + masks_size) = omega arith in
          ap (held_in t.bytes) z ∙ held_same (at_schedule + masks_size) (omega arith) ∙ ap (held_in s.bytes) (sym z)

      first_byte : get_or t.bytes (node_bytes_at k) 0 ≡ get_or s.bytes (node_bytes_at k) 0
      first_byte =
          let z : node_bytes_at k ≡ node_bytes_at k + 0 = omega arith in
          ap (λ (v : ℕ). get_or t.bytes v 0) z ∙ room-same 0 (omega arith) ∙ ap (λ (v : ℕ). get_or s.bytes v 0) (sym z)

      first_word : get_or t.words (node_words_at k) 0 ≡ get_or s.words (node_words_at k) 0
      first_word =
          let z : node_words_at k ≡ node_words_at k + 0 = omega arith in
          ap (λ (v : ℕ). get_or t.words v 0) z ∙ row_same 0 (omega arith) ∙ ap (λ (v : ℕ). get_or s.words v 0) (sym z)

      pub stored_same : config_in t ≡ config_in s → stored_in t k ≡ stored_in s k
      unfolding node_in
      stored_same e =
          λ x. record {
            up = eqb (first_byte x) 1;
            node = record {
              setup = setup_of (e x) (k + 1);
              version = first_word x;
              schedule = held_same at_schedule (omega arith) x;
              demand = room-same 1 (omega arith) x;
              request = room-same 2 (omega arith) x;
              flags = row_same 1 (omega arith) x;
              round = record {
                merged = row_same 2 (omega arith) x;
                known = list_same 32 at_known (omega arith) x;
                lowest = row_same 3 (omega arith) x;
                highest = row_same 4 (omega arith) x;
                heard = row_same 5 (omega arith) x;
              };
              epoch = record {
                counters = list_same 32 at_counters (omega arith) x;
                interactions = row_same 6 (omega arith) x;
                place = row_same 7 (omega arith) x;
                updated = eqb (room-same 4 (omega arith) x) 1;
                determined = next-same x;
              };
              phase = phase_of (room-same 3 (omega arith) x);
            };
          }

    module _ (h : i < 32) where
      pub config-same : config_in t ≡ config_in s
      config-same = config-words i h p

      pub place_same : get_or t.words at_place 0 ≡ get_or s.words at_place 0
      place_same = p.above at_place (omega arith)

      pub phase-same : get_or t.bytes at_phase 0 ≡ get_or s.bytes at_phase 0
      phase-same = q.above at_phase (omega arith)

      pub sent-same : window 32 t.bytes at_sent ≡ window 32 s.bytes at_sent
      sent-same = tab-ext 32 _ _ (λ x y. q.above (at_sent + x) (omega arith))

      pub member-same : (k : ℕ) → k ≢ i → member_in t k ≡ member_in s k
      unfolding member_in
      member-same k d = ap₂ (λ (f : Config) (m : Member). cond (ltb k f.nodes) m (down_member f (k + 1))) config-same
          (stored_same k d config-same)

      -- the node at index i is another, and nothing else
      pub site-put : (m : Member) → i < (config_in s).nodes → stored_in t i ≡ m
          → site_in t ≡ record {
            config = (site_in s).config;
            negotiates = (site_in s).negotiates;
            place = (site_in s).place;
            sent = (site_in s).sent;
            members = set (site_in s).members i m;
          }
      unfolding site_in member_in
      site-put m g e =
          let n : member_in t i ≡ m = hit (ltb i (config_in t).nodes) (stored_in t i) (down_member (config_in t) (i + 1))
          (ap (λ (f : Config). ltb i f.nodes) config-same ∙ lt-ltb i (config_in s).nodes g) ∙ e in
          let l = sym (tab-set nobody 32 (member_in s) (member_in t) (tab 32 (member_in s)) i m refl h (sym n)
          (λ k _ d. sym (member-same k d))) in
          λ x. record { config = config-same x; negotiates = eqb (phase-same x) 1; place = place_same x; sent = sent-same x; members = l x }
