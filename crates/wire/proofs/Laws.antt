-- One layout, and one form for each meaning: what was written is read back, and what was read is written again byte by byte.
-- The parts of an area: a packet placed in its own part, and every other part as it was.
-- Assumes nothing.
use mathlib.Core.Path.{◌≡◌, refl, sym, ap, ap₂, ◌∙◌}
use mathlib.Core.Bool.{Bool, true, false, not, ◌&&◌}
use mathlib.Core.Logic.{◌≢◌}
use mathlib.Core.List.{List, ◌∷◌, ◌++◌, append_assoc}
use Prim.Native.Nat.{ℕ, suc, ◌+◌, ◌-◌, ◌*◌, ◌%◌, ◌^◌, ◌≤◌, ◌<◌}
use native.Mathlib.Omega.{arith}
use native.Mathlib.Nat.{mod-eq_of_lt, lt_of_lt_of_le}
use borrow.Author.Tests.{eq-eqb, eqb-true, leb-true, ltb-true, ltb-false, le-leb, lt-ltb, not-true}
use lib.Dec.{eqb, leb, ltb}
use lib.Pow.{pow_mono}
use lib.ListN.{length, get_or, take, drop, length-append, length-take, length-drop, take-append-drop}
use lib.Seq.{take_at, drop_at, take_all, drop-cons, drop-drop, drop-append-add, take-append-le, drop-append-le}
use Rattle.words.specs.Bits.{is_in}
use Rattle.lists.specs.Bytes.{word32, bytes32, window, span}
use Rattle.words.proofs.Tests.{hit, both, and_left, and_right}
use Rattle.lists.proofs.Laws.{word_bytes, bytes_word, window-span, length-written}
use Rattle.allotment.specs.Allotment.{owners_of, schedule_of}
use Rattle.allotment.proofs.Schedules.{owners-made, made_again}
use Rattle.membership.specs.requests.Requests.{entry_of, requests_within, none}
use Rattle.node.specs.Figures.{top_version}
use Rattle.node.specs.declared.Packet.{Packet}
use Rattle.node.specs.Model.{Versioned}
use Rattle.node.specs.declared.Setup.{Setup}
use Rattle.node.specs.Answers.{Done, WrongLength, BadContents}
use Rattle.wire.specs.Layout.{packet_size, schedule_size, packet_bytes, packet_in, schedule_bytes, schedule_in}
use Rattle.wire.specs.Reads.{read_answer, packet_ok, packet_answer, versioned_ok, schedule_answer, part_of, placed, has_part}

-- each element is a byte
abbrev pub Bytes : List ℕ → Type 0
Bytes l = (i : ℕ) → i < length l → get_or l i 0 < 256

-- one element and what is behind it
one_from : (l : List ℕ) (at n : ℕ) → at < length l → at + 1 ≡ n → drop at l ≡ get_or l at 0 ∷ drop n l
one_from l at n h e = let f : suc at ≡ n = omega arith in drop-cons l at 0 h ∙ ap (λ (k : ℕ). get_or l at 0 ∷ drop k l) f

-- four bytes and what is behind them
four-from : (l : List ℕ) (at : ℕ) → at + 4 ≤ length l
    → drop at l ≡ get_or l at 0 ∷ get_or l (at + 1) 0 ∷ get_or l (at + 2) 0 ∷ get_or l (at + 3) 0 ∷ drop (at + 4) l
four-from l at h =
    one_from l at (at + 1) (omega arith) (omega arith)
    ∙ ap (λ (t : List ℕ). get_or l at 0 ∷ t) (one_from l (at + 1) (at + 2) (omega arith) (omega arith))
    ∙ ap (λ (t : List ℕ). get_or l at 0 ∷ get_or l (at + 1) 0 ∷ t) (one_from l (at + 2) (at + 3) (omega arith) (omega arith))
    ∙ ap (λ (t : List ℕ). get_or l at 0 ∷ get_or l (at + 1) 0 ∷ get_or l (at + 2) 0 ∷ t)
    (one_from l (at + 3) (at + 4) (omega arith) (omega arith))

-- a number read at a place and written again, with what is behind it
word-again : (l : List ℕ) (at : ℕ) → Bytes l → at + 4 ≤ length l → bytes32 (word32 l at) ++ drop (at + 4) l ≡ drop at l
word-again l at b h =
    ap (λ (t : List ℕ). t ++ drop (at + 4) l)
    (bytes_word (get_or l at 0) (get_or l (at + 1) 0) (get_or l (at + 2) 0) (get_or l (at + 3) 0) (b at (omega arith)) (b (at + 1) (omega arith))
    (b (at + 2) (omega arith)) (b (at + 3) (omega arith)))
    ∙ sym (four-from l at h)

-- the rest of a list, read as a window
pub rest-again : (n : ℕ) (l : List ℕ) (at : ℕ) → at + n ≡ length l → window n l at ≡ drop at l
rest-again n l at h = window-span n l at (omega arith) ∙ take_all n (drop at l) (simp length-drop (omega arith))

-- a list behind k bytes, read as a window
window-behind : (n : ℕ) (p q : List ℕ) (k : ℕ) → length p ≡ k → length q ≡ n → window n (p ++ q) k ≡ q
window-behind n p q k e f =
    rest-again n (p ++ q) k (simp length-append (omega arith)) ∙ drop_at p q k e

-- Packets

-- a packet whose fields have room in the layout
pub record Fits (p : Packet) : Type 0 where
  pub sender : p.sender < 256
  pub lowest : p.lowest < 2 ^ 32
  pub highest : p.highest < 2 ^ 32
  pub flags : p.flags < 2 ^ 32
  pub requests : length p.requests ≡ 32

pub length-packet : (p : Packet) → length p.requests ≡ 32 → length (packet_bytes p) ≡ packet_size
unfolding packet_bytes
length-packet p h = omega arith

-- what was written is read back
pub packet-back : (p : Packet) → Fits p → packet_in (packet_bytes p) ≡ p
unfolding packet_bytes packet_in
packet-back p h =
    let front = (p.sender % 256) ∷ (bytes32 p.lowest ++ (bytes32 p.highest ++ bytes32 p.flags)) in
    let s : p.sender % 256 ≡ p.sender = mod-eq_of_lt h.sender in
    λ i. record {
      sender = s i;
      lowest = word_bytes p.lowest h.lowest i;
      highest = word_bytes p.highest h.highest i;
      flags = word_bytes p.flags h.flags i;
      requests = window-behind 32 front p.requests 13 refl h.requests i;
    }

-- what was read is written again: each byte string has one meaning, and each meaning one byte string
pub packet-forth : (l : List ℕ) → length l ≡ packet_size → Bytes l → packet_bytes (packet_in l) ≡ l
unfolding packet_bytes packet_in
packet-forth l h b =
    ap₂ (λ (x : ℕ) (t : List ℕ). x ∷ t) (mod-eq_of_lt (b 0 (omega arith)))
    (ap (λ (t : List ℕ). bytes32 (word32 l 1) ++ t)
    (ap (λ (t : List ℕ). bytes32 (word32 l 5) ++ t)
    (ap (λ (t : List ℕ). bytes32 (word32 l 9) ++ t) (rest-again 32 l 13 (omega arith)) ∙ word-again l 9 b (omega arith))
    ∙ word-again l 5 b (omega arith))
    ∙ word-again l 1 b (omega arith))
    ∙ sym (one_from l 0 1 (omega arith) refl)

-- Schedules

pub length-schedule : (v : Versioned) → length (owners_of v.schedule) ≡ 80 → length (schedule_bytes v) ≡ schedule_size
unfolding schedule_bytes
length-schedule v h = omega arith

pub schedule-back : (v : Versioned) → v.version < 2 ^ 32 → length (owners_of v.schedule) ≡ 80 → schedule_in (schedule_bytes v) ≡ v
unfolding schedule_bytes schedule_in
schedule-back v h k =
    let s = ap schedule_of (window-behind 80 (bytes32 v.version) (owners_of v.schedule) 4 refl k) ∙ made_again v.schedule in
    λ i. record { version = word_bytes v.version h i; schedule = s i }

pub schedule-forth : (l : List ℕ) → length l ≡ schedule_size → Bytes l → schedule_bytes (schedule_in l) ≡ l
unfolding schedule_bytes schedule_in
schedule-forth l h b =
    ap (λ (t : List ℕ). bytes32 (word32 l 0) ++ t) (owners-made (window 80 l 4) ∙ rest-again 80 l 4 (omega arith))
    ∙ word-again l 0 b (omega arith)

-- What is accepted

-- a packet that keeps the layout, taken apart
pub record Keeps (N : ℕ) (p : Packet) : Type 0 where
  pub sender : p.sender ≤ N
  pub versions : p.lowest ≤ p.highest
  pub top : p.highest ≤ top_version
  pub flags : p.flags < 2 ^ N
  pub flag : is_in p.flags p.sender ≡ true
  pub asked : requests_within p.requests p.flags ≡ true
  pub own : eqb (entry_of p.requests p.sender) none ≡ false

pub keeps : (N : ℕ) (p : Packet) → packet_ok N p ≡ true → Keeps N p
unfolding packet_ok
keeps N p h =
    let a = leb p.sender N in
    let b = leb p.lowest p.highest in
    let c = leb p.highest top_version in
    let d = ltb p.flags (2 ^ N) in
    let e = is_in p.flags p.sender in
    let f = requests_within p.requests p.flags in
    let g = not (eqb (entry_of p.requests p.sender) none) in
    let h1 : ((b && c) && ((d && e) && (f && g))) ≡ true = and_right a _ h in
    let h2 : (b && c) ≡ true = and_left (b && c) _ h1 in
    let h3 : ((d && e) && (f && g)) ≡ true = and_right (b && c) _ h1 in
    let h4 : (d && e) ≡ true = and_left (d && e) (f && g) h3 in
    let h5 : (f && g) ≡ true = and_right (d && e) (f && g) h3 in
    record {
      sender = leb-true _ _ (and_left a ((b && c) && ((d && e) && (f && g))) h);
      versions = leb-true _ _ (and_left b c h2);
      top = leb-true _ _ (and_right b c h2);
      flags = ltb-true _ _ (and_left d e h4);
      flag = and_right d e h4;
      asked = and_left f g h5;
      own = not-true _ (and_right f g h5);
    }

pub kept : (N : ℕ) (p : Packet) → Keeps N p → packet_ok N p ≡ true
unfolding packet_ok
kept N p k =
    both (le-leb _ _ k.sender)
    (both (both (le-leb _ _ k.versions) (le-leb _ _ k.top))
    (both (both (lt-ltb _ _ k.flags) k.flag)
    (both k.asked (ap not k.own))))

-- among at most 32 nodes it has room in the layout
pub keeps-fits : (N : ℕ) (p : Packet) → N ≤ 32 → Keeps N p → length p.requests ≡ 32 → Fits p
keeps-fits N p n k l =
    record {
      sender = omega (arith, k.sender);
      lowest = let h : p.lowest < 4294967296 = omega (arith, k.versions, k.top) in h;
      highest = let h : p.highest < 4294967296 = omega (arith, k.top) in h;
      flags = lt_of_lt_of_le k.flags (pow_mono n);
      requests = l;
    }

-- bytes are accepted exactly if their length and their contents are right
pub read-accepts : (sized good : Bool) → sized ≡ true → good ≡ true → read_answer sized good ≡ Done
read-accepts sized good h k = hit sized _ WrongLength h ∙ hit good Done BadContents k

pub read-accepted : (sized good : Bool) → read_answer sized good ≡ Done → (sized ≡ true) × (good ≡ true)
read-accepted true true h = (refl, refl)
read-accepted true false h = absurd (let z : ◌≡◌ {A = ℕ} 0 1 = cc in omega arith)
read-accepted false good h = absurd (let z : ◌≡◌ {A = ℕ} 0 1 = cc in omega arith)

-- what is written of a packet that keeps the layout is accepted, and is this packet
pub packet-accepted : (N : ℕ) (p : Packet) → N ≤ 32 → packet_ok N p ≡ true → length p.requests ≡ 32
    → packet_answer N (packet_bytes p) ≡ Done
unfolding packet_answer
packet-accepted N p n k l = read-accepts _ _ (eq-eqb _ _ (length-packet p l))
    (ap (packet_ok N) (packet-back p (keeps-fits N p n (keeps N p k) l)) ∙ k)

-- an accepted list of bytes is what is written of its meaning
pub packet-canonical : (N : ℕ) (l : List ℕ) → Bytes l → packet_answer N l ≡ Done → packet_bytes (packet_in l) ≡ l
unfolding packet_answer
packet-canonical N l b h = packet-forth l (eqb-true _ _ (read-accepted _ (packet_ok N (packet_in l)) h).0) b

-- so two accepted lists of bytes with the same meaning are the same
pub packet-one-form : (N : ℕ) (k l : List ℕ) → Bytes k → Bytes l → packet_answer N k ≡ Done → packet_answer N l ≡ Done
    → packet_in k ≡ packet_in l → k ≡ l
packet-one-form N k l a b g h e = sym (packet-canonical N k a g) ∙ ap packet_bytes e ∙ packet-canonical N l b h

pub schedule-canonical : (s : Setup) (l : List ℕ) → Bytes l → schedule_answer s l ≡ Done → schedule_bytes (schedule_in l) ≡ l
unfolding schedule_answer
schedule-canonical s l b h = schedule-forth l (eqb-true _ _ (read-accepted _ (versioned_ok s (schedule_in l)) h).0) b

pub schedule-one-form : (s : Setup) (k l : List ℕ) → Bytes k → Bytes l → schedule_answer s k ≡ Done → schedule_answer s l ≡ Done
    → schedule_in k ≡ schedule_in l → k ≡ l
schedule-one-form s k l a b g h e = sym (schedule-canonical s k a g) ∙ ap schedule_bytes e ∙ schedule-canonical s l b h

small-version : (s : Setup) (v : Versioned) → versioned_ok s v ≡ true → v.version < 2 ^ 32
unfolding versioned_ok
small-version s v k =
    let h : v.version ≤ top_version = leb-true _ _ (and_left (leb v.version top_version) _ k) in
    let z : v.version < 4294967296 = omega arith in
    z

pub schedule-accepted : (s : Setup) (v : Versioned) → versioned_ok s v ≡ true → length (owners_of v.schedule) ≡ 80
    → schedule_answer s (schedule_bytes v) ≡ Done
unfolding schedule_answer
schedule-accepted s v k l = read-accepts _ _ (eq-eqb _ _ (length-schedule v l))
    (ap (versioned_ok s) (schedule-back v (small-version s v k) l) ∙ k)

-- Parts of an area

-- n bytes that stand before a place, and n bytes that stand behind it
before : (l r : List ℕ) (at n to : ℕ) → at + n ≤ to → to ≤ length l → span (take to l ++ r) at n ≡ span l at n
before l r at n to h k = front r ∙ sym (front (drop to l)) ∙ ap (λ (t : List ℕ). span t at n) (take-append-drop to l)
  where
    front : (r : List ℕ) → span (take to l ++ r) at n ≡ span (take to l) at n
    front r =
        let m : length (take to l) ≡ to = simp length-take (omega arith) in
        ap (take n) (drop-append-le at (take to l) r (omega arith)) ∙ take-append-le n (drop at (take to l)) r
        (simp length-drop (omega arith))

behind : (p l : List ℕ) (at n to : ℕ) → length p ≡ to → to ≤ at → span (p ++ drop to l) at n ≡ span l at n
behind p l at n to e h =
    let f : length p + (at - to) ≡ at = omega arith in
    let g : to + (at - to) ≡ at = omega arith in
    ap (take n)
    (ap (λ (k : ℕ). drop k (p ++ drop to l)) (sym f) ∙ drop-append-add p (drop to l) (at - to) ∙ drop-drop (at - to) to l
    ∙ ap (λ (k : ℕ). drop k l) g)

module _ (area : List ℕ) (i : ℕ) (p : Packet) (long : length p.requests ≡ 32) (room : has_part area i ≡ true) where
  -- the part of an index after a packet was placed there is the packet's bytes
  pub same-part : part_of (placed area i p) i ≡ packet_bytes p
  same-part =
      let h : packet_size * i + packet_size ≤ length area = leb-true _ _ room in
      let b = packet_bytes p in
      let rest = drop (packet_size * i + length b) area in
      let m : length (take (packet_size * i) area) ≡ packet_size * i = simp length-take (omega arith) in
      ap (λ (t : List ℕ). span t (packet_size * i) packet_size) (append_assoc (take (packet_size * i) area) b rest)
      ∙ ap (take packet_size) (drop_at (take (packet_size * i) area) (b ++ rest) (packet_size * i) m)
      ∙ take_at b rest packet_size (length-packet p long)

  -- every other part is as it was
  pub other-part : (q : ℕ) → q ≢ i → part_of (placed area i p) q ≡ part_of area q
  other-part q n = go (ltb q i) refl
    where
      go : (t : Bool) → ltb q i ≡ t → part_of (placed area i p) q ≡ part_of area q
      go true e =
          let h : packet_size * i + packet_size ≤ length area = leb-true _ _ room in
          let k : q < i = ltb-true q i e in
          let b = packet_bytes p in
          let rest = drop (packet_size * i + length b) area in
          ap (λ (t : List ℕ). part_of t q) (append_assoc (take (packet_size * i) area) b rest)
          ∙ before area (b ++ rest) (packet_size * q) packet_size (packet_size * i) (omega arith) (omega arith)
      go false e =
          let h : packet_size * i + packet_size ≤ length area = leb-true _ _ room in
          let k : i ≤ q = ltb-false q i e in
          let b = packet_bytes p in
          let l : length b ≡ packet_size = length-packet p long in
          let m : i < q = omega (arith, n) in
          behind (take (packet_size * i) area ++ b) area (packet_size * q) packet_size (packet_size * i + length b)
          (simp (length-append, length-take) (omega arith)) (omega arith)

  pub length-placed : length (placed area i p) ≡ length area
  length-placed = length-written area (packet_bytes p) (packet_size * i)
      (let h : packet_size * i + packet_size ≤ length area = leb-true _ _ room in omega (arith, length-packet p long))
