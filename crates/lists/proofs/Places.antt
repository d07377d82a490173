-- Numbers written at a place: what is read there, and elsewhere.
-- Assumes nothing.
use mathlib.Core.Path.{◌≡◌, refl, sym, ap, ap₂, ◌∙◌}
use mathlib.Core.List.{List, ◌++◌, append_assoc}
use Prim.Native.Nat.{ℕ, ◌+◌, ◌-◌, ◌≤◌, ◌<◌}
use native.Mathlib.Omega.{arith}
use lib.ListN.{length, get_or, set, take, drop, length-append, get_or-append, length-set}
use lib.Seq.{ext_get_or, take_at, get_or-take, get_or-drop, get_or-append-add, drop-append-add, length-take-le, get_or-set_other}
use Rattle.lists.specs.Bytes.{window, written}
use Rattle.lists.proofs.Laws.{get_d-tab, length-tab, length-written}

-- a part of a list, as many numbers written over it
pub written_over : (p x y t : List ℕ) (at : ℕ) → length p ≡ at → length x ≡ length y → written (p ++ (x ++ t)) at y ≡ p ++ (y ++ t)
written_over p x y t at e f =
    let l = p ++ (x ++ t) in
    let z : length x ≡ length x + 0 = omega arith in
    let past : drop (length x) (x ++ t) ≡ t = ap (λ (k : ℕ). drop k (x ++ t)) z ∙ drop-append-add x t 0 in
    let behind : drop (at + length y) l ≡ t =
    ap (λ (k : ℕ). drop k l) (ap₂ ◌+◌ (sym e) (sym f)) ∙ drop-append-add p (x ++ t) (length x) ∙ past in
    ap₂ (λ (a b : List ℕ). (a ++ y) ++ b) (take_at p (x ++ t) at e) behind ∙ append_assoc p y t

-- a number before what was written, in it, and behind it
module _ (l b : List ℕ) (at : ℕ) (h : at + length b ≤ length l) where
  front : length (take at l ++ b) ≡ at + length b
  front = length-append (take at l) b ∙ ap (λ (x : ℕ). x + length b) (length-take-le at l (omega arith))

  pub before-written : (k : ℕ) → k < at → get_or (written l at b) k 0 ≡ get_or l k 0
  before-written k j =
      let m : length (take at l) ≡ at = length-take-le at l (omega arith) in
      get_or-append (take at l ++ b) (drop (at + length b) l) 0 k (omega (arith, front))
      ∙ get_or-append (take at l) b 0 k (omega arith)
      ∙ get_or-take at l k 0 j

  pub in-written : (k : ℕ) → k < length b → get_or (written l at b) (at + k) 0 ≡ get_or b k 0
  in-written k j =
      let m : length (take at l) ≡ at = length-take-le at l (omega arith) in
      get_or-append (take at l ++ b) (drop (at + length b) l) 0 (at + k) (omega (arith, front))
      ∙ ap (λ (x : ℕ). get_or (take at l ++ b) (x + k) 0) (sym m)
      ∙ get_or-append-add (take at l) b k 0

  pub behind-written : (k : ℕ) → at + length b ≤ k → get_or (written l at b) k 0 ≡ get_or l k 0
  behind-written k j =
      let n : ℕ = k - (at + length b) in
      let e : k ≡ length (take at l ++ b) + n = omega (arith, front) in
      let f : at + length b + n ≡ k = omega arith in
      ap (λ (x : ℕ). get_or (written l at b) x 0) e
      ∙ get_or-append-add (take at l ++ b) (drop (at + length b) l) n 0
      ∙ get_or-drop (at + length b) l n 0
      ∙ ap (λ (x : ℕ). get_or l x 0) f

  -- a list read where it was written
  pub window-in : (n k : ℕ) (p : List ℕ) → k + n ≤ length b → length p ≡ n → ((i : ℕ) → i < n → get_or b (k + i) 0 ≡ get_or p i 0)
      → window n (written l at b) (at + k) ≡ p
  window-in n k p j e f =
      ext_get_or 0 (window n (written l at b) (at + k)) p (length-tab n _ ∙ sym e)
      (λ i g.
      let m : i < n = omega (arith, length-tab n (λ (i : ℕ). get_or (written l at b) (at + k + i) 0)) in
      let z : at + k + i ≡ at + (k + i) = omega arith in
      get_d-tab 0 n (λ i. get_or (written l at b) (at + k + i) 0) i m
      ∙ ap (λ (x : ℕ). get_or (written l at b) x 0) z
      ∙ in-written (k + i) (omega arith)
      ∙ f i m)

-- a list that differs from another only from a place on, for n numbers
pub record Apart (l m : List ℕ) (at n : ℕ) : Type 0 where
  pub long : length m ≡ length l
  pub below : (k : ℕ) → k < at → get_or m k 0 ≡ get_or l k 0
  pub above : (k : ℕ) → at + n ≤ k → get_or m k 0 ≡ get_or l k 0

pub apart_none : (l : List ℕ) (at n : ℕ) → Apart l l at n
apart_none l at n = record { long = refl; below = λ k h. refl; above = λ k h. refl }

pub apart-written : (l b : List ℕ) (at to n : ℕ) → to ≤ at → at + length b ≤ to + n → at + length b ≤ length l
    → Apart l (written l at b) to n
apart-written l b at to n g h k =
    record {
      long = length-written l b at (omega arith);
      below = λ x y. before-written l b at (omega arith) x (omega arith);
      above = λ x y. behind-written l b at (omega arith) x (omega arith);
    }

pub apart-set : (l : List ℕ) (i x to n : ℕ) → to ≤ i → i < to + n → Apart l (set l i x) to n
apart-set l i x to n g h =
    record {
      long = length-set l i x;
      below = λ k y. get_or-set_other l i k x 0 (λ e. absurd (omega (arith, e)));
      above = λ k y. get_or-set_other l i k x 0 (λ e. absurd (omega (arith, e)));
    }

pub apart-then : {l m o : List ℕ} {at n : ℕ} → Apart l m at n → Apart m o at n → Apart l o at n
apart-then p q =
    record {
      long = q.long ∙ p.long;
      below = λ k h. q.below k h ∙ p.below k h;
      above = λ k h. q.above k h ∙ p.above k h;
    }
