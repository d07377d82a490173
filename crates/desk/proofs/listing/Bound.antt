-- How long a report and a row can be.
-- Assumes nothing.
use mathlib.Core.Bool.{Bool, true, false, cond}
use mathlib.Core.List.{List, [], ◌∷◌, ◌++◌}
use Prim.Native.Nat.{ℕ, zero, suc, ◌+◌, ◌*◌, ◌≤◌, ◌<◌}
use native.Mathlib.Omega.{arith}
use lib.ListN.{length, take, replicate, length-append, length-take, length-replicate, get_or}
use Rattle.text.specs.Write.{decimal}
use Rattle.text.proofs.Decimal.{tens, digits-short, digits-at-most}
use Rattle.allotment.specs.Allotment.{owners_of}
use Rattle.node.specs.Answers.{number, is_done}
use Rattle.node.specs.Answers.{Answer}
use Rattle.node.proofs.Answers.{number_small}
use Rattle.site.specs.Members.{nobody, is_live, state_of}
use Rattle.site.specs.Model.{Member}
use Rattle.site.specs.declared.State.{State}
use Rattle.site.specs.declared.State.TheVariants.{Live, Waiting, Down}
use Rattle.desk.specs.listing.Rows.{report_line, refusal_line, row_line, state_text, more_owners, owners_text, shown, owners_shown, row_text}
use Rattle.desk.specs.listing.Rows.{rows_text}

-- nine bytes are enough for a report of a line number below 100,000
pub report-short : (n : ℕ) (a : Answer) → n < 100000 → length (refusal_line n a) ≤ 9
unfolding refusal_line tens
report-short n a h = go (is_done a)
  where
    go : (t : Bool) → length (cond t [] (report_line n (number a))) ≤ 9
    go true = omega arith
    go false =
        omega (
          arith,
          length-append (decimal n) (32 ∷ (decimal (number a) ++ (10 ∷ []))),
          length-append (decimal (number a)) (10 ∷ []),
          digits-short 4 10 n h,
          digits-short 1 10 (number a) (number_small a),
        )

more-short : (l : List ℕ) → length (more_owners l) ≤ 11 * length l
unfolding more_owners
more-short [] = omega arith
more-short (x ∷ l) = omega (arith, length-append (decimal x) (more_owners l), digits-at-most 10 x, more-short l)

pub owners-short : (l : List ℕ) → length (owners_text l) ≤ 11 * length l
unfolding owners_text
owners-short [] = omega arith
owners-short (x ∷ l) = omega (arith, length-append (decimal x) (more_owners l), digits-at-most 10 x, more-short l)

pub state-short : (s : State) → length (state_text s) ≤ 7
state-short Live = omega arith
state-short Waiting = omega arith
state-short Down = omega arith

-- a row's length by its parts
pub parts-short : (j : ℕ) (s : State) (v f r : ℕ) (o : List ℕ)
    → length (row_line j s v f r o) ≤ 53 + 11 * length o
parts-short j s v f r o =
    let t = owners_text o in
    let e1 = length-append t (10 ∷ []) in
    let e2 = length-append (decimal r) (32 ∷ (t ++ (10 ∷ []))) in
    let a = decimal r ++ (32 ∷ (t ++ (10 ∷ []))) in
    let e3 = length-append (decimal f) (32 ∷ a) in
    let b = decimal f ++ (32 ∷ a) in
    let e4 = length-append (decimal v) (32 ∷ b) in
    let d = decimal v ++ (32 ∷ b) in
    let e5 = length-append (state_text s) (32 ∷ d) in
    let e6 = length-append (decimal j) (32 ∷ (state_text s ++ (32 ∷ d))) in
    omega (arith, owners-short o, digits-at-most 10 r, digits-at-most 10 f, digits-at-most 10 v, state-short s, digits-at-most 10 j)

owners-count : (m : Member) (K : ℕ) → length (owners_shown m K) ≤ K
owners-count m K = go (is_live m)
  where
    go : (t : Bool) → length (cond t (take K (owners_of m.node.schedule)) (replicate K 0)) ≤ K
    go true = omega (arith, length-take K (owners_of m.node.schedule))
    go false = omega (arith, length-replicate {A = ℕ} K 0)

row-short : (j : ℕ) (m : Member) (K : ℕ) → length (row_text j m K) ≤ 53 + 11 * K
unfolding row_text
row-short j m K =
    omega (
      arith,
      parts-short j (state_of m) (shown m m.node.version) (shown m m.node.flags) (shown m m.node.request) (owners_shown m K),
      owners-count m K,
    )

-- 933 bytes are enough for each of the rows at a site of at most 80 slots
pub rows_short : (n i : ℕ) (ms : List Member) (K : ℕ) → K ≤ 80 → length (rows_text n i ms K) ≤ 933 * n
unfolding rows_text
rows_short zero i ms K h = omega arith
rows_short (suc n) i ms K h =
    omega (
      arith,
      length-append (row_text (i + 1) (get_or ms i nobody) K) (rows_text n (i + 1) ms K),
      row-short (i + 1) (get_or ms i nobody) K,
      rows_short n (i + 1) ms K h,
    )
