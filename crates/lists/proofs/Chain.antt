-- Bytes written one behind another.
-- Assumes nothing.
use mathlib.Core.Path.{◌≡◌, refl, sym, ap, ap₂, ◌∙◌}
use mathlib.Core.Bool.{Bool, cond}
use mathlib.Core.List.{List, [], ◌∷◌, ◌++◌, append_assoc, append-nil}
use Prim.Native.Nat.{ℕ, ◌+◌, ◌≤◌, ◌<◌}
use native.Mathlib.Omega.{arith}
use borrow.Author.Tests.{le-leb, lt-leb}
use lib.ListN.{length, take, drop, set, length-append, take-append-drop}
use lib.Seq.{take_at, drop-drop, drop-append-add, length-take-le, sets-eq}
use Rattle.lists.specs.Bytes.{written, Put, Tried}
use Rattle.lists.proofs.Laws.{length-written}

-- behind b, c
pub written-more : (l b c : List ℕ) (at : ℕ) → at + length b ≤ length l → written (written l at b) (at + length b) c ≡ written l at (b ++ c)
written-more l b c at h =
    let k : length (take at l ++ b) ≡ at + length b = length-append (take at l) b
    ∙ ap (λ (x : ℕ). x + length b) (length-take-le at l (omega arith)) in
    let f : at + length b + length c ≡ at + length (b ++ c) = omega (arith, length-append b c) in
    let e : drop (at + length b + length c) (written l at b) ≡ drop (at + length (b ++ c)) l =
    ap (λ (x : ℕ). drop (x + length c) (written l at b)) (sym k)
    ∙ drop-append-add (take at l ++ b) (drop (at + length b) l) (length c)
    ∙ drop-drop (length c) (at + length b) l
    ∙ ap (λ (x : ℕ). drop x l) f in
    ap₂ (λ (x y : List ℕ). (x ++ c) ++ y) (take_at (take at l ++ b) (drop (at + length b) l) (at + length b) k) e
    ∙ ap (λ (x : List ℕ). x ++ drop (at + length (b ++ c)) l) (append_assoc (take at l) b c)

pub written_none : (l : List ℕ) (at : ℕ) → written l at [] ≡ l
written_none l at =
    let z : at + 0 ≡ at = omega arith in
    ap₂ (λ (x : List ℕ) (n : ℕ). x ++ drop n l) (append-nil (take at l)) z
    ∙ take-append-drop at l

-- with room, and without
pub put : {l b m : List ℕ} {at i : ℕ} → at + length b ≤ length l → Tried l at b i m → Put l at b i m
put {l} {b} {m} {at} {i} h t =
    record {
      to = t.to ∙ ap (λ (x : Bool). cond x (at + length b) at) (le-leb _ _ h);
      is = t.is ∙ ap (λ (x : Bool). cond x (written l at b) l) (le-leb _ _ h);
    }

pub tried : {l b m : List ℕ} {at i : ℕ} → at + length b ≤ length l → Put l at b i m → Tried l at b i m
tried {l} {b} {m} {at} {i} h p =
    record {
      to = p.to ∙ sym (ap (λ (x : Bool). cond x (at + length b) at) (le-leb _ _ h));
      is = p.is ∙ sym (ap (λ (x : Bool). cond x (written l at b) l) (le-leb _ _ h));
    }

pub not-tried : (l b : List ℕ) (at : ℕ) → length l < at + length b → Tried l at b at l
not-tried l b at h =
    record {
      to = sym (ap (λ (x : Bool). cond x (at + length b) at) (lt-leb _ _ h));
      is = sym (ap (λ (x : Bool). cond x (written l at b) l) (lt-leb _ _ h));
    }

pub none : (l : List ℕ) (at : ℕ) → Put l at [] at l
none l at = record { to = omega arith; is = sym (written_none l at) }

-- two parts, one behind the other
pub then : {l m n b c : List ℕ} {at i j : ℕ} → at + length b ≤ length l → Put l at b i m → Put m i c j n → Put l at (b ++ c) j n
then {l} {m} {n} {b} {c} {at} {i} {j} h p q =
    record {
      to = omega (arith, q.to, p.to, length-append b c);
      is = q.is ∙ ap₂ (λ (x : List ℕ) (y : ℕ). written x y c) p.is p.to ∙ written-more l b c at h;
    }

pub length-put : {l m b : List ℕ} {at i : ℕ} → at + length b ≤ length l → Put l at b i m → length m ≡ length l
length-put {l} {m} {b} {at} h p = ap length p.is ∙ length-written l b at h

pub one : (l : List ℕ) (at x : ℕ) → at + 1 ≤ length l → Put l at (x ∷ []) (at + 1) (set l at x)
one l at x h = record { to = refl; is = sets-eq (x ∷ []) l at h }

pub recast : {l m b c : List ℕ} {at i : ℕ} → b ≡ c → Put l at b i m → Put l at c i m
recast e p = rw e at p

-- b is to stand at a place of l; m is what is written so far, and c is left to write at i
pub record Left (l : List ℕ) (at : ℕ) (b m : List ℕ) (i : ℕ) (c : List ℕ) : Type 0 where
  pub long : length m ≡ length l
  pub room : i + length c ≤ length m
  pub sum : i + length c ≡ at + length b
  pub same : written m i c ≡ written l at b

pub start : (l : List ℕ) (at : ℕ) (b : List ℕ) → at + length b ≤ length l → Left l at b l at b
start l at b h = record { long = refl; room = h; sum = refl; same = refl }

module _ {l b m : List ℕ} {at i : ℕ} (c d : List ℕ) (q : Left l at b m i (c ++ d)) where
  pub room_for : i + length c ≤ length m
  room_for = omega (arith, q.room, length-append c d)

  pub next : {n : List ℕ} {j : ℕ} → Put m i c j n → Left l at b n j d
  next {n} {j} p =
      let e : length n ≡ length m = length-put room_for p in
      record {
        long = e ∙ q.long;
        room = omega (arith, q.room, p.to, length-append c d);
        sum = omega (arith, q.sum, p.to, length-append c d);
        same = ap₂ (λ (x : List ℕ) (y : ℕ). written x y d) p.is p.to ∙ written-more m c d i room_for ∙ q.same;
      }

  -- the same, of a part that is tried
  pub step : {n : List ℕ} {j : ℕ} → Tried m i c j n → Left l at b n j d
  step t = next (put room_for t)

-- the last part
pub finish : {l b m n : List ℕ} {at i j : ℕ} (c : List ℕ) → Left l at b m i c → Put m i c j n → Put l at b j n
finish c q p = record { to = p.to ∙ q.sum; is = p.is ∙ q.same }

pub finish-by : {l b m n : List ℕ} {at i j : ℕ} (c : List ℕ) → Left l at b m i c → Tried m i c j n → Put l at b j n
finish-by c q t = finish c q (put q.room t)

-- nothing is left
pub end : {l b m : List ℕ} {at i : ℕ} → Left l at b m i [] → Put l at b i m
end {m = m} {i = i} q = finish [] q (none m i)

pub leftover : {l b m : List ℕ} {at i : ℕ} {c d : List ℕ} → c ≡ d → Left l at b m i c → Left l at b m i d
leftover e q = rw e at q

-- what was put at the front
pub front-is : {l d m : List ℕ} {n : ℕ} → Put l 0 d n m → take n m ≡ d
front-is {l} {d} {m} {n} p =
    let e : length d ≡ n = omega (arith, p.to) in
    ap (take n) p.is ∙ take_at d (drop (0 + length d) l) n e

pub retry : {l m b c : List ℕ} {at i : ℕ} → b ≡ c → Tried l at b i m → Tried l at c i m
retry e p = rw e at p
