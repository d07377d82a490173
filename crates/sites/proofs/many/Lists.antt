-- Laws of lists: a part read where another was written, sums, and where an entry stands.
-- Assumes nothing.
use mathlib.Core.Path.{◌≡◌, refl, sym, ap, ◌∙◌}
use mathlib.Core.Bool.{cond}
use mathlib.Core.Logic.{◌≢◌}
use mathlib.Core.List.{List, [], ◌∷◌, ◌++◌, map, append_assoc}
use Prim.Native.Nat.{ℕ, suc, ◌+◌, ◌-◌, ◌*◌, ◌≤◌, ◌<◌}
use native.Mathlib.Omega.{arith}
use lib.Dec.{eqb}
use lib.ListN.{length, get_or, set, take, drop, replicate, length-replicate, length-append, length-set, length-drop, take-append-drop}
use lib.Seq.{ext_get_or, get_or-take, get_or-drop, get_or-set_same, get_or-set_other, take_at, drop_at, drop-drop, length-take-le}
use Rattle.words.proofs.Tests.{same_or_not}
use Rattle.lists.specs.All.{tab}
use Rattle.lists.specs.Bytes.{span, written}
use Rattle.lists.proofs.Laws.{length-tab, get_d-tab, length-written, get_d-zeros}
use Rattle.allotment.specs.Allotment.{total}
use Rattle.text.specs.Read.{before}
use Rattle.lists.proofs.Places.{before-written, behind-written}
use Rattle.group.specs.Places.{place}

-- what stands before an entry
pub place_is : (x : ℕ) (t : List ℕ) → place x t ≡ before x t
unfolding place before
place_is x [] = refl
place_is x (y ∷ t) = ap (λ (n : ℕ). cond (eqb y x) 0 (suc n)) (place_is x t)

-- a part of n from a place on
module _ (l : List ℕ) (q n : ℕ) (h : q + n ≤ length l) where
  pub length-span : length (span l q n) ≡ n
  length-span = length-take-le n (drop q l) (omega (arith, length-drop q l))

  get_d-span : (i : ℕ) → i < n → get_or (span l q n) i 0 ≡ get_or l (q + i) 0
  get_d-span i k = get_or-take n (drop q l) i 0 k ∙ get_or-drop q l i 0

  -- written back where it was read
  pub span-again : written l q (span l q n) ≡ l
  span-again =
      let e : drop (q + length (span l q n)) l ≡ drop n (drop q l) = ap (λ (k : ℕ). drop (q + k) l) length-span ∙ sym (drop-drop n q l) in
      append_assoc (take q l) (span l q n) (drop (q + length (span l q n)) l)
      ∙ ap (λ (x : List ℕ). take q l ++ (span l q n ++ x)) e
      ∙ ap (λ (x : List ℕ). take q l ++ x) (take-append-drop n (drop q l))
      ∙ take-append-drop q l

module _ (l b : List ℕ) (at : ℕ) (h : at + length b ≤ length l) where
  -- what was written, read where it stands
  pub span_same : (n : ℕ) → length b ≡ n → span (written l at b) at n ≡ b
  span_same n e =
      let m : length (take at l) ≡ at = length-take-le at l (omega arith) in
      ap (λ (x : List ℕ). span x at n) (append_assoc (take at l) b (drop (at + length b) l))
      ∙ ap (take n) (drop_at (take at l) (b ++ drop (at + length b) l) at m)
      ∙ take_at b (drop (at + length b) l) n e

  same_by : (q n : ℕ) → q + n ≤ length l → ((i : ℕ) → i < n → get_or (written l at b) (q + i) 0 ≡ get_or l (q + i) 0)
      → span (written l at b) q n ≡ span l q n
  same_by q n k f =
      let g : q + n ≤ length (written l at b) = omega (arith, length-written l b at h) in
      ext_get_or 0 (span (written l at b) q n) (span l q n) (length-span (written l at b) q n g ∙ sym (length-span l q n k))
      (λ i j.
      let m : i < n = omega (arith, length-span (written l at b) q n g) in
      get_d-span (written l at b) q n g i m ∙ f i m ∙ sym (get_d-span l q n k i m))

  -- read before it, and behind it
  pub span-before : (q n : ℕ) → q + n ≤ at → span (written l at b) q n ≡ span l q n
  span-before q n k = same_by q n (omega arith) (λ i m. before-written l b at h (q + i) (omega arith))

  pub span-behind : (q n : ℕ) → at + length b ≤ q → q + n ≤ length l → span (written l at b) q n ≡ span l q n
  span-behind q n k g = same_by q n g (λ i m. behind-written l b at h (q + i) (omega arith))

-- one of a list by its rule is another
pub tab-set : {A : Type 0} (d : A) (n : ℕ) (f g : ℕ → A) (i : ℕ) (x : A) → i < n → g i ≡ x → ((k : ℕ) → k < n → k ≢ i → g k ≡ f k) → tab n g
    ≡ set (tab n f) i x
tab-set d n f g i x h e o =
    ext_get_or d (tab n g) (set (tab n f) i x) (length-tab n g ∙ sym (length-set (tab n f) i x ∙ length-tab n f))
    (λ k j.
    let l : k < n = omega (arith, length-tab n g) in
    get_d-tab d n g k l
    ∙ same_or_not k i
    (λ z. ap g z ∙ e ∙ sym (ap (λ (y : ℕ). get_or (set (tab n f) i x) y d) z ∙ get_or-set_same (tab n f) i x d (omega (arith, length-tab n f))))
    (λ z. o k l z ∙ sym (get_or-set_other (tab n f) i k x d z ∙ get_d-tab d n f k l)))

-- sums
total-snoc : (l : List ℕ) (x : ℕ) → total (l ++ (x ∷ [])) ≡ total l + x
unfolding total
total-snoc [] x = omega arith
total-snoc (y ∷ l) x = omega (arith, total-snoc l x)

map_snoc : {A : Type 0} (f : A → ℕ) (l : List A) (x : A) → map f (l ++ (x ∷ [])) ≡ map f l ++ (f x ∷ [])
map_snoc f [] x = refl
map_snoc f (y ∷ l) x = ap (λ (t : List ℕ). f y ∷ t) (map_snoc f l x)

pub sum-none : {A : Type 0} (f : A → ℕ) (g : ℕ → A) → 0 ≡ total (map f (tab 0 g))
unfolding total tab
sum-none f g = refl

pub sum_more : {A : Type 0} (f : A → ℕ) (g : ℕ → A) (n : ℕ) → total (map f (tab n g)) + f (g n) ≡ total (map f (tab (suc n) g))
unfolding tab
sum_more f g n = sym (ap total (map_snoc f (tab n g) (g n)) ∙ total-snoc (map f (tab n g)) (f (g n)))

pub few-sum : (l : List ℕ) → ((i : ℕ) → get_or l i 0 < 256) → total l ≤ 255 * length l
unfolding total
few-sum [] h = omega arith
few-sum (x ∷ l) h = omega (arith, h 0, few-sum l (λ i. h (suc i)))

-- a part that a slice was cut to
pub mid : (l : List ℕ) (a n : ℕ) → take (a + n - a) (drop a l) ≡ span l a n
mid l a n = let e : a + n - a ≡ n = omega arith in ap (λ (k : ℕ). take k (drop a l)) e

pub tab-zeros : (n : ℕ) → tab {A = ℕ} n (λ i. 0) ≡ replicate n 0
tab-zeros n = ext_get_or 0 (tab {A = ℕ} n (λ i. 0)) (replicate n 0) (length-tab {A = ℕ} n (λ i. 0) ∙ sym (length-replicate n 0))
    (λ i h. get_d-tab {A = ℕ} 0 n (λ i. 0) i (omega (arith, length-tab {A = ℕ} n (λ i. 0))) ∙ sym (get_d-zeros n i))

-- a part at the front that has come back
pub front-written : (t b : List ℕ) (n : ℕ) → length b ≡ n → b ++ drop n t ≡ written t 0 b
front-written t b n e = let z : n ≡ 0 + length b = omega (arith, e) in ap (λ (k : ℕ). b ++ drop k t) z

pub front_length : (t b : List ℕ) (n : ℕ) → length b ≡ n → n ≤ length t → length (b ++ drop n t) ≡ length t
front_length t b n e h = omega (arith, length-append b (drop n t), length-drop n t, e, h)
