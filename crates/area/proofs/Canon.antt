-- One node, one form in bytes: decoding gives back what was encoded, and encoding what was decoded from a valid area.
-- Assumes nothing.
use mathlib.Core.Path.{◌≡◌, refl, sym, ap, ap₂, ◌∙◌, subst}
use mathlib.Core.Bool.{Bool, true, false, cond, ◌&&◌, and-false}
use mathlib.Core.List.{List, [], ◌∷◌, ◌++◌, append-nil}
use Prim.Native.Nat.{ℕ, ◌+◌, ◌≤◌, ◌<◌}
use native.Mathlib.Omega.{arith}
use borrow.Author.Tests.{eqb-true, eqb-false, leb-true, le-leb}
use lib.Dec.{eqb, ltb, leb}
use lib.ListN.{length, get_or, take, drop, length-append, drop_of_length-le}
use lib.Seq.{drop-drop, take_at, drop-append-add}
use mir.Val.{bool_byte}
use Rattle.lists.specs.All.{same}
use Rattle.lists.specs.Bytes.{word32, bytes32, flat, window}
use Rattle.words.proofs.Tests.{and_left, and_right, both}
use Rattle.lists.proofs.Bounded.{bounded_at}
use Rattle.lists.proofs.Laws.{same-eq, same_refl, word_bytes, length-flat, length-tab, window-span}
use Rattle.allotment.specs.Allotment.{owners_of}
use Rattle.allotment.specs.Model.{Schedule}
use Rattle.allotment.proofs.Schedules.{owners-made}
use Rattle.masks.specs.Slots.{owners_in, well_formed}
use Rattle.masks.proofs.Owners.{length-owners}
use Rattle.range.specs.Range.{schedule_ok, in_range}
use Rattle.range.proofs.Ranges.{ranges}
use Rattle.range.proofs.Parts.{by_parts}
use Rattle.node.specs.Core.{core_of, bare}
use Rattle.node.specs.Model.{Node}
use Rattle.range.proofs.Lengths.{Lengths, words}
use Rattle.wire.specs.Phases.{phase_byte, phase_of}
use Rattle.wire.proofs.Laws.{Bytes}
use Rattle.wire.proofs.Phases.{phase-back, byte-back, byte_low}
use Rattle.masks.specs.Bytes.{masks_size, masks_in}
use Rattle.masks.proofs.Parts.{byte-then, word-then, list-then}
use Rattle.allotment.specs.InPlace.{held_bytes, held_in}
use Rattle.area.specs.Area.{node_size, at_node, at_nodes, at_slots, at_rounds, at_min_heard, at_split, at_version, at_flags, at_merged, at_lowest}
use Rattle.area.specs.Area.{at_highest, at_heard, at_met, at_place, at_demand, at_request, at_phase, at_updated, at_schedule, at_known}
use Rattle.area.specs.Area.{at_counters, at_determined, words_of, encoded, decoded, valid}
use Rattle.area.specs.Steps.{area_fits}
use Rattle.area.proofs.Valid.{right-size}
use Rattle.allotment.proofs.Held.{length-held, held_back}
use Rattle.area.proofs.Held.{held-fit, held_then, held-tidy}

-- Encoding what was decoded

mark-of-byte : (u : ℕ) → u ≤ 1 → bool_byte (eqb u 1) ≡ u
mark-of-byte u h = go (eqb u 1) refl
  where
    go : (t : Bool) → eqb u 1 ≡ t → bool_byte t ≡ u
    go true e = sym (eqb-true u 1 e)
    go false e = omega (arith, eqb-false u 1 e)

mark-byte-low : (b : Bool) → bool_byte b ≤ 1
mark-byte-low true = omega arith
mark-byte-low false = omega arith

-- the bytes of an area, with bytes of its own for the phase and the mark
around : List ℕ → ℕ → ℕ → List ℕ
around a p u =
    flat (words_of (decoded a)) ++ ((get_or a at_demand 0 ∷ get_or a at_request 0 ∷ p ∷ u ∷ [])
    ++ (window 32 a at_known ++ (window 32 a at_counters ++ (held_bytes (held_in a at_schedule) ++ held_bytes (held_in a at_determined)))))

encoded-around : (a : List ℕ) → encoded (decoded a)
    ≡ around a (phase_byte (phase_of (get_or a at_phase 0))) (bool_byte (eqb (get_or a at_updated 0) 1))
unfolding encoded decoded around
encoded-around a = refl

around-is : (a : List ℕ) → length a ≡ node_size → Bytes a → well_formed (masks_in a at_schedule) ≡ true
    → well_formed (masks_in a at_determined) ≡ true
    → around a (get_or a at_phase 0) (get_or a at_updated 0) ≡ a
unfolding around flat decoded
around-is a h b y z =
    let w : (at to : ℕ) (t : List ℕ) → to ≤ node_size → at + 4 ≡ to → t ≡ drop to a → bytes32 (word32 a at) ++ t ≡ drop at a =
    λ at to t k e f. word-then a at to t b (omega arith) e f in
    w at_node at_nodes _ (omega arith) refl
    (w at_nodes at_slots _ (omega arith) refl
    (w at_slots at_rounds _ (omega arith) refl
    (w at_rounds at_min_heard _ (omega arith) refl
    (w at_min_heard at_split _ (omega arith) refl
    (w at_split at_version _ (omega arith) refl
    (w at_version at_flags _ (omega arith) refl
    (w at_flags at_merged _ (omega arith) refl
    (w at_merged at_lowest _ (omega arith) refl
    (w at_lowest at_highest _ (omega arith) refl
    (w at_highest at_heard _ (omega arith) refl
    (w at_heard at_met _ (omega arith) refl
    (w at_met at_place _ (omega arith) refl
    (w at_place at_demand _ (omega arith) refl
    (byte-then a at_demand at_request _ (omega arith) refl
    (byte-then a at_request at_phase _ (omega arith) refl
    (byte-then a at_phase at_updated _ (omega arith) refl
    (byte-then a at_updated at_known _ (omega arith) refl
    (list-then a 32 at_known at_counters _ (omega arith) refl
    (list-then a 32 at_counters at_schedule _ (omega arith) refl
    (held_then a at_schedule at_determined _ b (omega arith) refl y
    (sym (append-nil (held_bytes (held_in a at_determined)))
    ∙ held_then a at_determined node_size [] b (omega arith) refl z
    (sym (drop_of_length-le a {i = node_size} (omega arith))))))))))))))))))))))))

phase-at : (n : Node) → get_or (encoded n) at_phase 0 ≡ phase_byte n.phase
unfolding encoded flat
phase-at n = refl

mark-at : (n : Node) → get_or (encoded n) at_updated 0 ≡ bool_byte n.epoch.updated
unfolding encoded flat
mark-at n = refl

-- the lists of what was decoded have their lengths, whatever the bytes
pub lengths : (a : List ℕ) → Lengths (decoded a)
unfolding decoded held_in
lengths a =
    record {
      schedule = ap length (owners-made (owners_in (masks_in a at_schedule))) ∙ length-owners (masks_in a at_schedule);
      known = length-tab 32 _;
      counters = length-tab 32 _;
      determined = ap length (owners-made (owners_in (masks_in a at_determined))) ∙ length-owners (masks_in a at_determined);
    }

-- a list behind another
past : (p q : List ℕ) (k n m : ℕ) → length p ≡ k → k + n ≡ m → drop m (p ++ q) ≡ drop n q
past p q k n m e f = ap (λ (x : ℕ). drop x (p ++ q)) (sym f ∙ ap (λ (x : ℕ). x + n) (sym e)) ∙ drop-append-add p q n

-- the schedules of an encoded node stand at their places
pub schedule-at : (n : Node) → Lengths n → drop at_schedule (encoded n) ≡ held_bytes n.schedule ++ held_bytes n.epoch.determined
unfolding encoded flat
schedule-at n l =
    let s = held_bytes n.schedule in
    let r = n.round.known in
    let c = n.epoch.counters in
    let d = held_bytes n.epoch.determined in
    past r (c ++ (s ++ d)) 32 32 64 l.known refl ∙ past c (s ++ d) 32 0 32 l.counters refl

pub determined-at : (n : Node) → Lengths n → drop at_determined (encoded n) ≡ held_bytes n.epoch.determined ++ []
determined-at n l =
    let s = held_bytes n.schedule in
    let d = held_bytes n.epoch.determined in
    sym (drop-drop masks_size at_schedule (encoded n)) ∙ ap (drop masks_size) (schedule-at n l)
    ∙ past s d masks_size 0 masks_size (length-held n.schedule) refl ∙ sym (append-nil d)

-- two tests, each met where the other is
each_way : (a b : Bool) → (a ≡ true → b ≡ true) → (b ≡ true → a ≡ true) → a ≡ b
each_way true b f g = sym (f refl)
each_way false true f g = g refl
each_way false false f g = refl

-- only the bytes of the phase and of the mark have values that no node has, and masks that are not well formed are no schedule's
pub plain-is : (a : List ℕ) → length a ≡ node_size → Bytes a
    → ((leb (get_or a at_phase 0) 3 && leb (get_or a at_updated 0) 1)
    && (well_formed (masks_in a at_schedule) && well_formed (masks_in a at_determined)))
    ≡ same (encoded (decoded a)) a
plain-is a h b =
    each_way _ (same (encoded (decoded a)) a)
    (λ t.
    let x : (leb p 3 && leb u 1) ≡ true = and_left (leb p 3 && leb u 1) (y && z) t in
    let w : (y && z) ≡ true = and_right (leb p 3 && leb u 1) (y && z) t in
    let k : encoded (decoded a) ≡ a =
    encoded-around a ∙ ap₂ (around a) (byte-back p (leb-true p 3 (and_left (leb p 3) (leb u 1) x)))
    (mark-of-byte u (leb-true u 1 (and_right (leb p 3) (leb u 1) x)))
    ∙ around-is a h b (and_left y z w) (and_right y z w) in
    ap (λ (l : List ℕ). same l a) k ∙ same_refl a)
    (λ t.
    let e : encoded (decoded a) ≡ a = same-eq _ _ t in
    both
    (both
    (le-leb p 3 (subst (λ (x : ℕ). x ≤ 3) (sym (phase-at (decoded a)) ∙ ap (λ (l : List ℕ). get_or l at_phase 0) e)
    (byte_low (decoded a).phase)))
    (le-leb u 1 (subst (λ (x : ℕ). x ≤ 1) (sym (mark-at (decoded a)) ∙ ap (λ (l : List ℕ). get_or l at_updated 0) e)
    (mark-byte-low (decoded a).epoch.updated))))
    (both
    (held-tidy (decoded a).schedule a _ at_schedule (ap (drop at_schedule) (sym e) ∙ schedule-at (decoded a) (lengths a)))
    (held-tidy (decoded a).epoch.determined a [] at_determined (ap (drop at_determined) (sym e) ∙ determined-at (decoded a) (lengths a)))))
  where
    p : ℕ
    p = get_or a at_phase 0

    u : ℕ
    u = get_or a at_updated 0

    y : Bool
    y = well_formed (masks_in a at_schedule)

    z : Bool
    z = well_formed (masks_in a at_determined)

-- an area is valid where its two marks, the node but for the schedules and the masks are
pub fits-valid : (a : List ℕ) → length a ≡ node_size → Bytes a
    → ((leb (get_or a at_phase 0) 3 && leb (get_or a at_updated 0) 1) && area_fits a (core_of (decoded a))) ≡ valid a
unfolding decoded
fits-valid a h b =
    let n = decoded a in
    let k = cond (ltb 0 n.version) n.setup.config.slots 0 in
    let j = cond n.epoch.updated n.setup.config.slots 0 in
    ap (λ (t : Bool). (leb p 3 && leb u 1) && (in_range (bare (core_of n)) && t))
    (both (held-fit a at_schedule k n.setup.config.nodes (omega (arith, h)))
    (held-fit a at_determined j n.setup.config.nodes (omega (arith, h))))
    ∙ grouped (leb p 3 && leb u 1) (in_range (bare (core_of n))) (well_formed (masks_in a at_schedule))
    (schedule_ok (held_in a at_schedule) (ltb 0 n.version) n.setup) (well_formed (masks_in a at_determined))
    (schedule_ok (held_in a at_determined) n.epoch.updated n.setup)
    ∙ both (sym (by_parts n)) (plain-is a h b) ∙ right-size a h
  where
    p : ℕ
    p = get_or a at_phase 0

    u : ℕ
    u = get_or a at_updated 0

    swap : (a b : Bool) → (a && b) ≡ (b && a)
    swap true true = refl
    swap true false = refl
    swap false true = refl
    swap false false = refl

    grouped : (p r x o y q : Bool) → (p && (r && ((x && o) && (y && q)))) ≡ ((r && (o && q)) && (p && (x && y)))
    grouped false r x o y q = sym (and-false (r && (o && q)))
    grouped true false x o y q = refl
    grouped true true false o y q = sym (and-false (o && q))
    grouped true true true false y q = refl
    grouped true true true true y q = swap y q

-- an accepted area is what the library writes for its node
pub canonical : (a : List ℕ) → valid a ≡ true → encoded (decoded a) ≡ a
unfolding valid
canonical a h = same-eq _ _ (and_right (in_range (decoded a)) _ (and_right (eqb (length a) node_size) _ h))

-- Decoding what was encoded

pub length-encoded : (n : Node) → Lengths n → length (encoded n) ≡ node_size
unfolding encoded
length-encoded n l = simp (length-append, length-flat)
    (omega (arith, length-held n.schedule, l.known, l.counters, length-held n.epoch.determined))

mark-back : (b : Bool) → eqb (bool_byte b) 1 ≡ b
mark-back true = refl
mark-back false = refl

-- a list that stands at a place is read there
read_at : (n : ℕ) (a p q : List ℕ) (at : ℕ) → at + n ≤ length a → drop at a ≡ p ++ q → length p ≡ n → window n a at ≡ p
read_at n a p q at h e k = window-span n a at h ∙ ap (take n) e ∙ take_at p q n k

-- the owners of a schedule within the ranges are numbers of nodes
owners-small : (n : Node) (s : Schedule) (used : Bool) → in_range n ≡ true → schedule_ok s used n.setup ≡ true → (k : ℕ) → k < 80
    → get_or (owners_of s) k 0 ≤ 32
owners-small n s used h o k l =
    omega (
      arith,
      bounded_at (owners_of s) (cond used n.setup.config.slots 0) n.setup.config.nodes o k,
      (ranges n h).setting.bounds.nodes-to,
    )

-- every node within the ranges comes back from its bytes
pub round_trip : (n : Node) → Lengths n → in_range n ≡ true → decoded (encoded n) ≡ n
unfolding decoded encoded flat
round_trip n l h =
    let w = words n h in
    let s = held_bytes n.schedule in
    let r = n.round.known in
    let c = n.epoch.counters in
    let d = held_bytes n.epoch.determined in
    let z = length-encoded n l in
    let held = held_back n.schedule l.schedule (owners-small n n.schedule (ltb 0 n.version) h (ranges n h).schedule)
    (encoded n) _ at_schedule (schedule-at n l) in
    let next = held_back n.epoch.determined l.determined
    (owners-small n n.epoch.determined n.epoch.updated h (ranges n h).epoch.determined) (encoded n) [] at_determined
    (determined-at n l) in
    λ i. record {
      setup = record {
        node = word_bytes n.setup.node w.node i;
        config = record {
          nodes = word_bytes n.setup.config.nodes w.nodes i;
          slots = word_bytes n.setup.config.slots w.slots i;
          rounds =
              word_bytes n.setup.config.rounds w.rounds i;
          min_heard =
              word_bytes n.setup.config.min_heard w.min-heard i;
          split =
              word_bytes n.setup.config.split w.split i;
        };
      };
      version = word_bytes n.version w.version i;
      schedule = held i;
      demand = n.demand;
      request = n.request;
      flags = word_bytes n.flags w.flags i;
      round = record {
        merged = word_bytes n.round.merged w.merged i;
        known = read_at 32 (encoded n) r (c ++ (s ++ d)) at_known (omega arith) refl l.known i;
        lowest = word_bytes n.round.lowest w.lowest i;
        highest = word_bytes n.round.highest w.highest i;
        heard = word_bytes n.round.heard w.heard i;
      };
      epoch = record {
        counters = read_at 32 (encoded n) c (s ++ d) at_counters (omega arith)
            (past r (c ++ (s ++ d)) 32 0 32 l.known refl) l.counters i;
        interactions = word_bytes n.epoch.interactions w.interactions i;
        place = word_bytes n.epoch.place w.place i;
        updated = mark-back n.epoch.updated i;
        determined = next i;
      };
      phase = phase-back n.phase i;
    }

-- and its bytes are accepted: so an area is refused as 14 exactly where no node within the ranges has these bytes
pub accepted : (n : Node) → Lengths n → in_range n ≡ true → valid (encoded n) ≡ true
accepted n l h =
    let e = round_trip n l h in
    sym (right-size (encoded n) (length-encoded n l))
    ∙ both (ap in_range e ∙ h) (ap (λ (m : Node). same (encoded m) (encoded n)) e ∙ same_refl (encoded n))
