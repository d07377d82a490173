-- Laws of lists of bytes.
-- Assumes nothing.
use mathlib.Core.Path.{◌≡◌, refl, sym, ap, ap₂, ◌∙◌}
use mathlib.Core.Bool.{Bool, true, false, ◌&&◌, and-false}
use mathlib.Core.List.{List, [], ◌∷◌, ◌++◌, append_assoc, append-nil}
use Prim.Native.Nat.{ℕ, zero, suc, min, ◌+◌, ◌-◌, ◌*◌, ◌/◌, ◌%◌, ◌≤◌, ◌<◌}
use native.Mathlib.Omega.{arith}
use native.Mathlib.Numerals.{add-one}
use mathlib.Core.Logic.{⊎_elim}
use native.Mathlib.Nat.{eq-or-lt_of_le, le_of_suc-le-suc, not-suc-le-zero, div-div-eq-div-mul, div-add-mod', mod-eq_of_lt}
use borrow.Author.Tests.{eq-eqb, eqb-true, ltb-true, ltb-false}
use lib.Dec.{eqb, ltb}
use lib.ListN.{length, get_or, set, replicate, take, drop, length-append, length-take, length-drop, drop_of_length-le, get_or-append}
use lib.Seq.{ext_get_or, get_or-take, get_or_at, drop-cons, set_at, take_at, take-suc, take_all, drop-append-add, drop-drop, get_or-drop}
use lib.Seq.{length-take-le}
use Rattle.words.proofs.Tests.{never, same_or_not, both, and_left, and_right}
use borrow.Rule.Slice.PartMut.{put_mid, Post-is}
use Rattle.lists.specs.All.{iter, all_below, tab, same}
use Rattle.lists.specs.Bytes.{bytes32, flat, window, span, written}

-- a loop that does a step a turn
module _ {A : Type 0} (f : ℕ → A → A) (x : A) where
  pub iter-none : x ≡ iter 0 f x
  unfolding iter
  iter-none = refl

  -- a turn: y is what was there, z what the body answers
  pub iter-more : (n : ℕ) (y z : A) → y ≡ iter n f x → z ≡ f n y → z ≡ iter (n + 1) f x
  unfolding iter
  iter-more n y z e h = rw add-one (h ∙ ap (f n) e)

  pub iter_end : (n m : ℕ) (y : A) → y ≡ iter n f x → n ≡ m → y ≡ iter m f x
  iter_end n m y e h = e ∙ ap (λ (k : ℕ). iter k f x) h

-- where the steps from k on change nothing, any number of them gives the same
pub iter-still : {A : Type 0} (f : ℕ → A → A) (x : A) (k m : ℕ) → k ≤ m → ((i : ℕ) → k ≤ i → f i (iter k f x) ≡ iter k f x)
    → iter m f x ≡ iter k f x
unfolding iter
iter-still f x k zero l h = let e : 0 ≡ k = omega arith in ap (λ (i : ℕ). iter i f x) e
iter-still f x k (suc m) l h =
    same_or_not k (suc m) (λ e. ap (λ (i : ℕ). iter i f x) (sym e))
    (λ e. ap (f m) (iter-still f x k m (omega (arith, e)) h) ∙ h m (omega (arith, e)))

-- what holds at first, and after each step if it held before, holds in the end
pub iter-inv : {A : Type 0} {n : ℕ} (P : ℕ → A → Type 0) (f : ℕ → A → A) (x : A) → P 0 x
    → ((i : ℕ) (y : A) → i < n → P i y → P (suc i) (f i y)) → P n (iter n f x)
unfolding iter
iter-inv {A} {n} P f x p h = go n (omega arith)
  where
    go : (k : ℕ) → k ≤ n → P k (iter k f x)
    go zero l = p
    go (suc k) l = h k (iter k f x) l (go k (omega arith))

-- tests of every element
module _ (p : ℕ → Bool) where
  pub all_none : true ≡ all_below 0 p
  unfolding all_below
  all_none = refl

  pub all_more : (n : ℕ) (t u : Bool) → t ≡ all_below n p → u ≡ p n → (t && u) ≡ all_below (n + 1) p
  unfolding all_below
  all_more n t u e f = rw add-one (ap₂ ◌&&◌ e f)

  pub all_end : (n m : ℕ) (t : Bool) → t ≡ all_below n p → n ≡ m → t ≡ all_below m p
  all_end n m t e h = e ∙ ap (λ (k : ℕ). all_below k p) h

-- lists by their rule: a loop that fills one, its start, a turn, and its end
module _ {A : Type 0} where
  pub length-tab : (n : ℕ) (f : ℕ → A) → length (tab n f) ≡ n
  unfolding tab
  length-tab zero f = refl
  length-tab (suc n) f = length-append (tab n f) (f n ∷ []) ∙ ap (λ (x : ℕ). x + 1) (length-tab n f) ∙ add-one n

  pub fill_none : (f : ℕ → A) (d : List A) → d ≡ tab 0 f ++ drop 0 d
  unfolding tab
  fill_none f d = refl

  pub fill_more : (n : ℕ) (f : ℕ → A) (d l : List A) (x : A) → n < length d → l ≡ tab n f ++ drop n d → x ≡ f n
      → set l n x ≡ tab (n + 1) f ++ drop (n + 1) d
  unfolding tab
  fill_more n f d l x h e k =
      ap₂ (λ (s : List A) (y : A). set s n y) e k
      ∙ rw (add-one, drop-cons d n x h) (set_at (tab n f) (get_or d n x) (drop (suc n) d) (f n) n (length-tab n f)
      ∙ sym (append_assoc (tab n f) (f n ∷ []) (drop (suc n) d)))

  pub fill_end : (n m : ℕ) (f : ℕ → A) (d l : List A) → l ≡ tab n f ++ drop n d → n ≡ m → length d ≤ m → l ≡ tab m f
  fill_end n m f d l e h k = e ∙ ap (λ (i : ℕ). tab i f ++ drop i d) h ∙ ap (λ (t : List A). tab m f ++ t) (drop_of_length-le d {i = m} k)
      ∙ append-nil (tab m f)

  pub get_d-tab : (d : A) (n : ℕ) (f : ℕ → A) (i : ℕ) → i < n → get_or (tab n f) i d ≡ f i
  unfolding tab
  get_d-tab d zero f i h = absurd (not-suc-le-zero h)
  get_d-tab d (suc n) f i h =
      ⊎_elim (λ e. get_or_at (tab n f) (f n) [] d i (length-tab n f ∙ sym e) ∙ ap f (sym e))
      (λ l. get_or-append (tab n f) (f n ∷ []) d i (omega (arith, length-tab n f)) ∙ get_d-tab d n f i l)
      (eq-or-lt_of_le (le_of_suc-le-suc h))

  -- two rules that agree below n
  pub tab-ext : (n : ℕ) (f g : ℕ → A) → ((i : ℕ) → i < n → f i ≡ g i) → tab n f ≡ tab n g
  unfolding tab
  tab-ext zero f g h = refl
  tab-ext (suc n) f g h = ap₂ (λ (l : List A) (x : A). l ++ (x ∷ [])) (tab-ext n f g (λ i l. h i (omega arith))) (h n (omega arith))

-- comparison
pub same-lengths : (s t : List ℕ) → (length s ≡ length t → ⊥) → same s t ≡ false
unfolding same
same-lengths [] [] h = absurd (h refl)
same-lengths [] (y ∷ t) h = refl
same-lengths (x ∷ s) [] h = refl
same-lengths (x ∷ s) (y ∷ t) h = ap (λ (b : Bool). eqb x y && b) (same-lengths s t (λ e. h (ap suc e))) ∙ and-false (eqb x y)

pub same_refl : (s : List ℕ) → same s s ≡ true
unfolding same
same_refl [] = refl
same_refl (x ∷ s) = ap₂ ◌&&◌ (eq-eqb x x refl) (same_refl s)

pub same-eq : (s t : List ℕ) → same s t ≡ true → s ≡ t
unfolding same
same-eq [] [] h = refl
same-eq [] (y ∷ t) h = never (sym h)
same-eq (x ∷ s) [] h = never (sym h)
same-eq (x ∷ s) (y ∷ t) h = ap₂ (λ (a : ℕ) (l : List ℕ). a ∷ l) (eqb-true x y (and_left _ _ h)) (same-eq s t (and_right (eqb x y) _ h))

-- bytes written
pub write-next : (pre b l : List ℕ) (at to : ℕ) → length pre ≡ at → at + length b ≡ to
    → written (pre ++ drop at l) at b ≡ (pre ++ b) ++ drop to l
write-next pre b l at to e f =
    ap₂ (λ (x y : List ℕ). (x ++ b) ++ y) (take_at pre (drop at l) at e)
    (ap (λ (k : ℕ). drop (k + length b) (pre ++ drop at l)) (sym e) ∙ drop-append-add pre (drop at l) (length b)
    ∙ drop-drop (length b) at l ∙ ap (λ (k : ℕ). drop k l) f)

pub length-written : (l b : List ℕ) (at : ℕ) → at + length b ≤ length l → length (written l at b) ≡ length l
length-written l b at h = simp (length-append, length-take, length-drop) (omega arith)

-- words
pub length-flat : (l : List ℕ) → length (flat l) ≡ 4 * length l
unfolding flat
length-flat [] = refl
length-flat (x ∷ l) = let h = length-flat l in omega arith

pub flat-snoc : (l : List ℕ) (x : ℕ) → flat (l ++ (x ∷ [])) ≡ flat l ++ bytes32 x
unfolding flat
flat-snoc [] x = refl
flat-snoc (y ∷ l) x = ap (λ (t : List ℕ). bytes32 y ++ t) (flat-snoc l x) ∙ sym (append_assoc (bytes32 y) (flat l) (bytes32 x))

pub flat-more : (w l : List ℕ) (i : ℕ) → i < length w
    → written (flat (take i w) ++ drop (4 * i) l) (4 * i) (bytes32 (get_or w i 0)) ≡ flat (take (i + 1) w) ++ drop (4 * (i + 1)) l
flat-more w l i h =
    let e : length (flat (take i w)) ≡ 4 * i = length-flat (take i w) ∙ ap (λ (x : ℕ). 4 * x) (length-take-le i w (omega arith)) in
    write-next (flat (take i w)) (bytes32 (get_or w i 0)) l (4 * i) (4 * (i + 1)) e (omega arith)
    ∙ ap (λ (x : List ℕ). x ++ drop (4 * (i + 1)) l) (sym (flat-snoc (take i w) (get_or w i 0)) ∙ ap flat (sym (take-suc w i 0 h))
    ∙ ap (λ (k : ℕ). flat (take k w)) (sym (add-one i)))

pub length-flat-part : (w l : List ℕ) (i : ℕ) → i ≤ length w → 4 * i ≤ length l → length (flat (take i w) ++ drop (4 * i) l) ≡ length l
length-flat-part w l i h k = simp (length-append, length-flat, length-drop, length-take-le i w h) (omega arith)

-- a word's bytes, read back
pub word_bytes : (x : ℕ) → x < 4294967296 → (x / 16777216 % 256) * 16777216 + (x / 65536 % 256) * 65536 + (x / 256 % 256) * 256 + x % 256
    ≡ x
word_bytes x h =
    let e1 : x / 65536 ≡ x / 256 / 256 = sym (div-div-eq-div-mul x 256 256) in
    let e2 : x / 16777216 ≡ x / 256 / 256 / 256 = sym (div-div-eq-div-mul x 65536 256) ∙ ap (λ (y : ℕ). y / 256) e1 in
    let c : x / 256 / 256 / 256 % 256 ≡ x / 256 / 256 / 256 = mod-eq_of_lt (omega arith) in
    rw (e1, e2, c) (omega (arith, div-add-mod' x 256, div-add-mod' (x / 256) 256, div-add-mod' (x / 256 / 256) 256))

pub bytes_word : (a b c d : ℕ) → a < 256 → b < 256 → c < 256 → d < 256
    → bytes32 (a * 16777216 + b * 65536 + c * 256 + d) ≡ a ∷ b ∷ c ∷ d ∷ []
bytes_word a b c d ha hb hc hd =
    let x = a * 16777216 + b * 65536 + c * 256 + d in
    let e1 : x / 16777216 % 256 ≡ a = omega arith in
    let e2 : x / 65536 % 256 ≡ b = omega arith in
    let e3 : x / 256 % 256 ≡ c = omega arith in
    let e4 : x % 256 ≡ d = omega arith in
    λ i. e1 i ∷ e2 i ∷ e3 i ∷ e4 i ∷ []

-- a part that has come back, from a to e
pub part-written : (l b : List ℕ) (a e : ℕ) → a ≤ e → length b ≡ e - a → put_mid a (e - a) l b ≡ written l a b
part-written l b a e h k =
    let f : e ≡ a + length b = omega arith in
    ap (λ (x : List ℕ). take a l ++ (b ++ x)) (Post-is a e l h ∙ ap (λ (x : ℕ). drop x l) f)
    ∙ sym (append_assoc (take a l) b (drop (a + length b) l))

-- a test, as it stands among others
pub is : (t : Bool) → t ≡ t
is t = refl

-- a chain of writes: s is pre, and from at on what l was
pub record So (l pre s : List ℕ) (at : ℕ) : Type 0 where
  pub long : length pre ≡ at
  pub is : s ≡ pre ++ drop at l

pub begin : (l : List ℕ) → So l [] l 0
begin l = record { long = refl; is = refl }

pub next : {l pre s : List ℕ} {at : ℕ} → So l pre s at → (b r : List ℕ) (to : ℕ) → r ≡ written s at b → at + length b ≡ to
    → So l (pre ++ b) r to
next {l} {pre} {s} {at} q b r to w f =
    record {
      long = length-append pre b ∙ ap (λ (x : ℕ). x + length b) q.long ∙ f;
      is = w ∙ ap (λ (x : List ℕ). written x at b) q.is ∙ write-next pre b l at to q.long f;
    }

pub whole : {l pre s : List ℕ} {n : ℕ} → So l pre s n → length l ≤ n → s ≡ pre
whole {l} {pre} {s} {n} q h = q.is ∙ ap (λ (x : List ℕ). pre ++ x) (drop_of_length-le l h) ∙ append-nil pre

-- a test of every element, at one; and from each
pub all-at : (n : ℕ) (p : ℕ → Bool) → all_below n p ≡ true → (i : ℕ) → i < n → p i ≡ true
unfolding all_below
all-at zero p h i l = absurd (not-suc-le-zero l)
all-at (suc n) p h i l =
    ⊎_elim (λ e. ap p e ∙ and_right (all_below n p) (p n) h) (λ k. all-at n p (and_left (all_below n p) (p n) h) i k)
    (eq-or-lt_of_le (le_of_suc-le-suc l))

pub all-make : (n : ℕ) (p : ℕ → Bool) → ((i : ℕ) → i < n → p i ≡ true) → all_below n p ≡ true
unfolding all_below
all-make zero p h = refl
all-make (suc n) p h = both (all-make n p (λ i l. h i (omega arith))) (h n (omega arith))

-- n numbers that are those from a place on
pub window-is : (n : ℕ) (s l : List ℕ) (at : ℕ) → length l ≡ n → ((i : ℕ) → i < n → get_or l i 0 ≡ get_or s (at + i) 0) → l ≡ window n s at
window-is n s l at e h =
    let d : length (window n s at) ≡ n = length-tab n (λ i. get_or s (at + i) 0) in
    ext_get_or 0 l (window n s at) (e ∙ sym d)
    (λ i k. let j : i < n = omega arith in h i j ∙ sym (get_d-tab 0 n (λ i. get_or s (at + i) 0) i j))

-- as the first n of what stands there
pub window-front : (n : ℕ) (s : List ℕ) (at : ℕ) → n ≤ length (drop at s) → take n (drop at s) ≡ window n s at
window-front n s at h =
    window-is n s (take n (drop at s)) at (length-take-le n (drop at s) h)
    (λ i k. get_or-take n (drop at s) i 0 k ∙ get_or-drop at s i 0)

-- bytes read at a place are the bytes that stand there
pub window-span : (n : ℕ) (l : List ℕ) (at : ℕ) → at + n ≤ length l → window n l at ≡ span l at n
window-span n l at h = sym (window-front n l at (simp length-drop (omega arith)))

-- comparison, element by element
pub same-all : (s t : List ℕ) → length s ≡ length t → all_below (length s) (λ i. eqb (get_or s i 0) (get_or t i 0)) ≡ same s t
same-all s t l = go (all_below (length s) p) (same s t) refl refl
  where
    p : ℕ → Bool
    p i = eqb (get_or s i 0) (get_or t i 0)

    go : (a b : Bool) → all_below (length s) p ≡ a → same s t ≡ b → all_below (length s) p ≡ same s t
    go true b e f =
        let q : s ≡ t = ext_get_or 0 s t l (λ i k. eqb-true (get_or s i 0) (get_or t i 0) (all-at (length s) p e i k)) in
        e ∙ sym (ap (same s) (sym q) ∙ same_refl s)
    go false true e f =
        let q : s ≡ t = same-eq s t f in
        all-make (length s) p (λ i k. eq-eqb (get_or s i 0) (get_or t i 0) (ap (λ (u : List ℕ). get_or u i 0) q)) ∙ sym f
    go false false e f = e ∙ sym f

-- a front that ends with the list
pub cut : (l : List ℕ) (m k : ℕ) → k ≡ min m (length l) → (take k l ≡ take m l) × (drop k l ≡ drop m l)
cut l m k e = go (ltb (length l) m) refl
  where
    go : (t : Bool) → ltb (length l) m ≡ t → (take k l ≡ take m l) × (drop k l ≡ drop m l)
    go true f =
        let h : length l < m = ltb-true (length l) m f in (
          take_all k l (omega arith) ∙ sym (take_all m l (omega arith)),
          drop_of_length-le l {i = k} (omega arith)
              ∙ sym (drop_of_length-le l {i = m} (omega arith)),
        )
    go false f =
        let h : m ≤ length l = ltb-false (length l) m f in
        let z : k ≡ m = omega arith in
        (ap (λ (x : ℕ). take x l) z, ap (λ (x : ℕ). drop x l) z)

pub tail-is : (l : List ℕ) (k : ℕ) → take (length l - k) (drop k l) ≡ drop k l
tail-is l k = take_all (length l - k) (drop k l) (simp length-drop (omega arith))

-- a list of zeros has 0 everywhere
pub get_d-zeros : (n i : ℕ) → ◌≡◌ {A = ℕ} (get_or (replicate n 0) i 0) 0
get_d-zeros zero i = refl
get_d-zeros (suc n) zero = refl
get_d-zeros (suc n) (suc i) = get_d-zeros n i
