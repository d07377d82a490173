-- The rows of a site in storage, one behind another; with room for all of them they are the rows' text.
-- Assumes nothing.
use mathlib.Core.Path.{◌≡◌, refl, ap, ap₂, ◌∙◌}
use mathlib.Core.Bool.{Bool, true, false, cond}
use mathlib.Core.List.{List}
use Prim.Native.Nat.{ℕ, zero, suc, min, ◌+◌, ◌-◌, ◌≤◌, ◌<◌}
use native.Mathlib.Omega.{arith}
use lib.Dec.{leb}
use lib.ListN.{length, get_or}
use Rattle.lists.specs.Bytes.{written, Put, Tried}
use Rattle.lists.proofs.Chain.{Left, step, end}
use Rattle.site.specs.Members.{nobody}
use Rattle.machine.specs.Layout.{Store, words_size, bytes_size, site_in}
use Rattle.machine.specs.Loading.{member_read}
use Rattle.machine.proofs.Whole.{as_member}
use Rattle.desk.specs.listing.Rows.{row_text, rows_text, Page, page, with_line, with_rows}

-- a line that was tried
pub line-tried : {l b m : List ℕ} {at i : ℕ} → Tried l at b i m → page m i ≡ with_line (page l at) b
line-tried {l} {b} {m} {at} {i} t = ap₂ page t.is t.to ∙ go (leb (at + length b) (length l))
  where
    go : (x : Bool) → page (cond x (written l at b) l) (cond x (at + length b) at)
        ≡ cond x (page (written l at b) (at + length b)) (page l at)
    go true = refl
    go false = refl

tried-line : (l b : List ℕ) (at : ℕ) → Tried l at b (with_line (page l at) b).at (with_line (page l at) b).bytes
tried-line l b at = record { to = to (leb (at + length b) (length l)); is = is (leb (at + length b) (length l)) }
  where
    to : (x : Bool) → (cond x (page (written l at b) (at + length b)) (page l at)).at ≡ cond x (at + length b) at
    to true = refl
    to false = refl

    is : (x : Bool) → (cond x (page (written l at b) (at + length b)) (page l at)).bytes ≡ cond x (written l at b) l
    is true = refl
    is false = refl

-- all are left, none is, or one more
pub rows_start : (n : ℕ) (s : Store) (K : ℕ) (p : Page) → with_rows (n - 0) 0 s K p ≡ with_rows n 0 s K p
rows_start n s K p =
    let z : n - 0 ≡ n = omega arith in
    ap (λ (x : ℕ). with_rows x 0 s K p) z

pub rows_none : (left i : ℕ) (s : Store) (K : ℕ) (p : Page) → left ≡ 0 → with_rows left i s K p ≡ p
unfolding with_rows
rows_none zero i s K p h = refl
rows_none (suc left) i s K p h = absurd (omega arith)

pub rows_next : (n i : ℕ) (s : Store) (K : ℕ) (p : Page) {q : Page} → i < n → q
    ≡ with_line p (row_text (i + 1) (member_read s (i + 1)) (min K 80)) → with_rows (n - (i + 1)) (i + 1) s K q ≡ with_rows (n - i) i s K p
unfolding with_rows
rows_next n i s K p h f =
    let z : suc (n - (i + 1)) ≡ n - i = omega arith in
    ap (with_rows (n - (i + 1)) (i + 1) s K) f ∙ ap (λ (x : ℕ). with_rows x i s K p) z

-- with room for all of them
module _ (s : Store) (K : ℕ) (w : words_size ≤ length s.words) (b : bytes_size ≤ length s.bytes) (k : K ≤ 80) where
  row_is : (i : ℕ) → i < 32 → row_text (i + 1) (member_read s (i + 1)) (min K 80) ≡ row_text (i + 1) (get_or (site_in s).members i nobody) K
  row_is i h =
      let z : i + 1 - 1 ≡ i = omega arith in
      let y : min K 80 ≡ K = omega arith in
      ap₂ (row_text (i + 1)) (as_member s (i + 1) w b (omega arith) (omega (arith, h)) ∙ ap (λ (x : ℕ). get_or (site_in s).members x nobody) z)
      y

  pub rows-put : (n i : ℕ) → i + n ≤ 32 → {l t m o : List ℕ} {at j r : ℕ} → Left l at t m j (rows_text n i (site_in s).members K) → page o r
      ≡ with_rows n i s K (page m j) → Put l at t r o
  unfolding rows_text with_rows
  rows-put zero i h {l} {t} {m} {o} {at} {j} {r} q e =
      let p = end q in
      record { to = ap (λ (x : Page). x.at) e ∙ p.to; is = ap (λ (x : Page). x.bytes) e ∙ p.is }
  rows-put (suc n) i h {m = m} {j = j} q e =
      let x = row_text (i + 1) (get_or (site_in s).members i nobody) K in
      rows-put n (i + 1) (omega arith) (step x (rows_text n (i + 1) (site_in s).members K) q (tried-line m x j))
      (e ∙ ap (λ (y : List ℕ). with_rows n (i + 1) s K (with_line (page m j) y)) (row_is i (omega (arith, h))))
