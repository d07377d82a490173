-- The listing's lines, part by part.
-- Assumes nothing.
use mathlib.Core.Path.{◌≡◌, refl, sym, ap}
use mathlib.Core.Bool.{Bool, true, false, cond}
use mathlib.Core.List.{List, [], ◌∷◌, ◌++◌, append_assoc}
use Prim.Native.Nat.{ℕ, zero, suc, ◌+◌, ◌≤◌, ◌<◌}
use native.Mathlib.Omega.{arith}
use native.Mathlib.Nat.{le_of_suc-le-suc, not-suc-le-zero}
use native.Mathlib.Numerals.{add-one}
use lib.Dec.{leb, eqb}
use lib.ListN.{length, get_or, take, drop, replicate, length-append, drop_of_length-le}
use lib.Seq.{drop-cons}
use Rattle.lists.specs.Bytes.{Put, Tried}
use Rattle.lists.proofs.Chain.{Left, start, step, finish-by, leftover, length-put, written_none}
use Rattle.text.specs.Ascii.{ascii}
use Rattle.text.specs.Write.{decimal}
use Rattle.text.proofs.Decimal.{digits-at-most}
use Rattle.allotment.specs.Allotment.{owners_of}
use Rattle.node.specs.Answers.{number, is_done}
use Rattle.node.specs.Answers.{Answer}
use Rattle.site.specs.Members.{is_live, state_of}
use Rattle.site.specs.Model.{Member}
use Rattle.desk.specs.listing.Rows.{first_head, refusal_line, state_text, more_owners, owners_text, shown, row_text, report_line}
use Rattle.desk.specs.listing.Inner.{shown_row, shown_of, owners_live, field, state_field}
use Rattle.desk.specs.declared.Shown.{Shown}
use Rattle.desk.proofs.listing.Bound.{parts-short}

-- what was put at the front of a buffer ends within it
pub ends-within : {l d m : List ℕ} {n : ℕ} → length d ≤ length l → Put l 0 d n m → n ≤ length m
ends-within {l} {d} {m} {n} h p =
    let e : length m ≡ length l = length-put {at = 0} (omega arith) p in
    omega (arith, p.to)

-- nothing is always put
pub tried-none : (l : List ℕ) (at : ℕ) → Tried l at [] at l
tried-none l at = record { to = go (leb (at + 0) (length l)); is = same (leb (at + 0) (length l)) }
  where
    go : (t : Bool) → at ≡ cond t (at + 0) at
    go true = omega arith
    go false = refl

    same : (t : Bool) → l ≡ cond t ((take at l ++ []) ++ drop (at + 0) l) l
    same true = sym (written_none l at)
    same false = refl

-- a field in front of what follows it
in-front : (x : List ℕ) (r : List ℕ) → x ++ (32 ∷ r) ≡ (x ++ (32 ∷ [])) ++ r
in-front x r = sym (append_assoc x (32 ∷ []) r)

-- a number and the space behind it
pub field-length : (x : ℕ) → length (field x) ≡ length (decimal x) + 1
field-length x = length-append (decimal x) (32 ∷ [])

pub field_put : (x : ℕ) {l m n : List ℕ} {at i j : ℕ} → at + length (field x) ≤ length l → Tried l at (decimal x) i m
    → Tried m i (32 ∷ []) j n → Put l at (field x) j n
field_put x {l} {at = at} h t u = finish-by (32 ∷ []) (step (decimal x) (32 ∷ []) (start l at (field x) h) t) u

-- a report: none for an accepted line
pub report-none : (n : ℕ) (a : Answer) → is_done a ≡ true → refusal_line n a ≡ []
unfolding refusal_line
report-none n a e = rw e

pub report-some : (n : ℕ) (a : Answer) (x : ℕ) → is_done a ≡ false → x ≡ number a → report_line n x ≡ refusal_line n a
unfolding refusal_line
report-some n a x e f = rw (e, f)

pub report-length : (n x : ℕ) → length (report_line n x) ≡ length (decimal n) + length (decimal x) + 2
report-length n x = omega (arith, length-append (decimal n) (32 ∷ (decimal x ++ (10 ∷ []))), length-append (decimal x) (10 ∷ []))

pub report-long : (n x : ℕ) → length (report_line n x) ≤ 22
report-long n x = omega (arith, report-length n x, digits-at-most 10 n, digits-at-most 10 x)

pub report-put : (n x : ℕ) {l m1 m2 m3 : List ℕ} {at i1 i2 i3 : ℕ} → at + length (report_line n x) ≤ length l
    → Tried l at (field n) i1 m1 → Tried m1 i1 (decimal x) i2 m2 → Tried m2 i2 (10 ∷ []) i3 m3 → Put l at (report_line n x) i3 m3
report-put n x {l} {at = at} h t u v =
    finish-by (10 ∷ []) (step (decimal x) (10 ∷ [])
    (step (field n) (decimal x ++ (10 ∷ [])) (leftover (in-front (decimal n) (decimal x ++ (10 ∷ []))) (start l at (report_line n x) h))
    t) u) v

-- the head over the refused lines, and one of them: a refusal of a whole script
pub head-short : (k : ℕ) → length (first_head k) ≤ 19
head-short k = go (eqb k 1)
  where
    go : (t : Bool) → length (cond t (ascii "line refusal split\n") (ascii "line refusal\n")) ≤ 19
    go true = omega arith
    go false = omega arith

pub refusal-short : (k n : ℕ) (a : Answer) → length (first_head k ++ refusal_line n a) ≤ 50
unfolding refusal_line
refusal-short k n a = go (is_done a)
  where
    go : (t : Bool) → length (first_head k ++ cond t [] (report_line n (number a))) ≤ 50
    go true = omega (arith, length-append (first_head k) [], head-short k)
    go false = omega (arith, length-append (first_head k) (report_line n (number a)), head-short k, report-long n (number a))

pub refusal-put : (k n : ℕ) (a : Answer) {l m o : List ℕ} {i j : ℕ} → 50 ≤ length l → Tried l 0 (first_head k) i m
    → Tried m i (refusal_line n a) j o → Put l 0 (first_head k ++ refusal_line n a) j o
refusal-put k n a {l} h t u = finish-by (refusal_line n a)
    (step (first_head k) (refusal_line n a) (start l 0 (first_head k ++ refusal_line n a) (omega (arith, refusal-short k n a))) t) u

-- owners, from a place on
pub more-end : (s : List ℕ) (i : ℕ) → length s ≤ i → more_owners (drop i s) ≡ []
unfolding more_owners
more-end s i h = rw (drop_of_length-le s h)

more-front : (s : List ℕ) (i : ℕ) → i < length s → more_owners (drop i s) ≡ 44 ∷ (decimal (get_or s i 0) ++ more_owners (drop (i + 1) s))
unfolding more_owners
more-front s i h = rw (drop-cons s i 0 h, add-one)

pub owners-none : (s : List ℕ) → length s ≡ 0 → owners_text s ≡ []
unfolding owners_text
owners-none [] h = refl
owners-none (x ∷ s) h = absurd (omega arith)

-- the first owner
pub owners-left : {s : List ℕ} (x : ℕ) (more : List ℕ) {l m : List ℕ} {at i : ℕ} → s ≡ x ∷ more → at + length (owners_text s) ≤ length l
    → Tried l at (decimal x) i m → Left l at (owners_text s) m i (more_owners more)
unfolding owners_text
owners-left {s} x more {l} {at = at} e h t =
    step (decimal x) (more_owners more) (leftover (ap owners_text e) (start l at (owners_text s) h)) t

module _ (s : List ℕ) where
  -- one more owner
  pub owners-turn : {l b m n o : List ℕ} {at i j p : ℕ} (k : ℕ) → k < length s → Left l at b m i (more_owners (drop k s))
      → Tried m i (44 ∷ []) j n → Tried n j (decimal (get_or s k 0)) p o → Left l at b o p (more_owners (drop (k + 1) s))
  owners-turn k h q t u =
      step (decimal (get_or s k 0)) (more_owners (drop (k + 1) s))
      (step (44 ∷ []) (decimal (get_or s k 0) ++ more_owners (drop (k + 1) s)) (leftover (more-front s k h) q) t) u

-- a row's fields before its owners
pub row-left : (j : ℕ) (s : Shown) (o : List ℕ) {l m1 m2 m3 m4 m5 : List ℕ} {i1 i2 i3 i4 i5 : ℕ} → length o ≤ 80 → 1000 ≤ length l
    → Tried l 0 (field j) i1 m1 → Tried m1 i1 (state_field s.state) i2 m2 → Tried m2 i2 (field s.version) i3 m3
    → Tried m3 i3 (field s.flags) i4 m4 → Tried m4 i4 (field s.request) i5 m5
    → Left l 0 (shown_row j s o) m5 i5 (owners_text o ++ (10 ∷ []))
unfolding shown_row
row-left j s o {l} h g t1 t2 t3 t4 t5 =
    let t = owners_text o ++ (10 ∷ []) in
    let q0 = start l 0 (shown_row j s o) (omega (arith, h, g, parts-short j s.state s.version s.flags s.request o)) in
    let q1 = step (field j) _ (leftover (in-front (decimal j) _) q0) t1 in
    let q2 = step (state_field s.state) _ (leftover (in-front (state_text s.state) _) q1) t2 in
    let q3 = step (field s.version) _ (leftover (in-front (decimal s.version) _) q2) t3 in
    let q4 = step (field s.flags) _ (leftover (in-front (decimal s.flags) _) q3) t4 in
    step (field s.request) t (leftover (in-front (decimal s.request) t) q4) t5

pub row-long : (j : ℕ) (s : Shown) (o : List ℕ) → length o ≤ 80 → length (shown_row j s o) ≤ 1000
unfolding shown_row
row-long j s o h = omega (arith, h, parts-short j s.state s.version s.flags s.request o)

take-zeros : (k n : ℕ) → k ≤ n → take {A = ℕ} k (replicate n 0) ≡ replicate k 0
take-zeros zero n h = refl
take-zeros (suc k) zero h = absurd (not-suc-le-zero h)
take-zeros (suc k) (suc n) h = ap (λ (l : List ℕ). 0 ∷ l) (take-zeros k n (le_of_suc-le-suc h))

-- a row from what is shown of a member
pub row_is : (j : ℕ) (m : Member) (k : ℕ) → k ≤ 80 → shown_row j (shown_of m) (take k (owners_live m)) ≡ row_text j m k
unfolding shown_row row_text
row_is j m k h = ap (λ (o : List ℕ). whole o) (go (is_live m))
  where
    whole : List ℕ → List ℕ
    whole o = decimal j ++ (32 ∷ (state_text (state_of m)
        ++ (32 ∷ (decimal (shown m m.node.version)
        ++ (32 ∷ (decimal (shown m m.node.flags)
        ++ (32 ∷ (decimal (shown m m.node.request) ++ (32 ∷ (owners_text o ++ (10 ∷ [])))))))))))

    go : (t : Bool) → take k (cond t (owners_of m.node.schedule) (replicate 80 0))
        ≡ cond t (take k (owners_of m.node.schedule)) (replicate k 0)
    go true = refl
    go false = take-zeros k 80 h
