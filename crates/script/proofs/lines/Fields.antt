-- The numbers of a line, as they are read piece by piece.
-- Assumes nothing.
use mathlib.Core.Path.{◌≡◌, refl, sym, ap, subst, ◌∙◌}
use mathlib.Core.Bool.{Bool, true, false, cond}
use mathlib.Core.List.{List, [], ◌∷◌, ◌++◌}
use mathlib.Core.Logic.{◌⊎◌, inl, inr}
use Prim.Native.Nat.{ℕ, zero, suc, ◌+◌, ◌-◌, ◌≤◌, ◌<◌}
use native.Mathlib.Omega.{arith}
use borrow.Author.Tests.{eqb-true, eqb-false}
use lib.Dec.{eqb}
use lib.Seq.{take_all}
use lib.ListN.{length, take, drop, get_or, set, length-set}
use Rattle.std.specs.Bool.{MatchBool}
use Rattle.std.specs.List.{All, slice_split, onto_first, IsFirstMatchOrLen}
use Rattle.std.proofs.Common.{append_assoc, append-nil}
use Rattle.std.proofs.lemmas.Grind.{common_steps, take-set_at}
use Rattle.std.proofs.lemmas.List.Splits.{slice_split_none, slice_split_at}
use Rattle.std.specs.Prelude.{Option, None, Some}
use Rattle.text.specs.Read.{before, split, front, number_of}
use Rattle.text.proofs.Pieces.{before-le, split-last, split-cut, number-spaced, HasPiece, split-some}
use Rattle.script.specs.lines.Fields.{in_front, numbers_of}

-- the pieces that are left: none behind the last one
abbrev pub left : Bool → List ℕ → List (List ℕ)
left done rest = cond done [] (split 32 rest)

-- numbers that were read before others
abbrev pub after : List ℕ → Option (List ℕ) → Option (List ℕ)
after ns None = None
after ns (Some ms) = Some (ns ++ ms)

-- k of n numbers are read, and count are not: those of the pieces that are left. When all are read, no piece is left
pub record Read (n : ℕ) (s : List ℕ) (k : ℕ) (found : List ℕ) (count : ℕ) (done : Bool) (rest : List ℕ) : Type 0 where
  pub long : length found ≡ n
  pub so_many : k + count ≡ n
  pub last : count ≡ 0 → done ≡ true
  pub all : numbers_of n (split 32 s) ≡ after (take k found) (numbers_of count (left done rest))

-- the pieces are those that std's `split` gives
slices : (s : List ℕ) → split 32 s ≡ slice_split (λ b. eqb b 32) s
unfolding split front
slices [] = refl
slices (b ∷ s) = go (eqb b 32) (split 32 s) (split-some 32 s) (slices s)
  where
    go : (t : Bool) (ps : List (List ℕ)) → HasPiece ps → ps ≡ slice_split (λ x. eqb x 32) s
        → cond t ([] ∷ ps) (front b ps) ≡ cond t ([] ∷ slice_split (λ x. eqb x 32) s) (onto_first b (slice_split (λ x. eqb x 32) s))
    go true ps h e = ap (λ (x : List (List ℕ)). [] ∷ x) e
    go false [] h e = absurd h
    go false (p ∷ ps) h e = ap (onto_first b) e

-- the first piece, up to a space or the end
piece : (xs x rest : List ℕ) (done : Bool) → MatchBool done (xs ≡ x) ((y : ℕ) × (xs ≡ x ++ (y ∷ rest)))
    → IsFirstMatchOrLen (λ b. eqb b 32) xs (length x) → split 32 xs ≡ x ∷ left done rest
piece xs x rest true e h = ap (split 32) e ∙ slices x
    ∙ slice_split_none (λ b. eqb b 32) x (λ k d l. subst (λ (ys : List ℕ). eqb (get_or ys k d) 32 ≡ false) e (h.0 k d (omega arith) l))
piece xs x rest false e h =
    let free : All (λ z. eqb z 32 ≡ false) x = λ k d l. let a = h.0 k d (omega arith) l in let b = e.1 in grind (arith, common_steps) in
    let hit : eqb e.0 32 ≡ true = let b = e.1 in let a = h.1 (grind (arith, common_steps)) e.0 in grind (arith, common_steps) in
    ap (split 32) e.1 ∙ slices _ ∙ slice_split_at (λ b. eqb b 32) x e.0 rest free hit
    ∙ ap (λ (ps : List (List ℕ)). x ∷ ps) (sym (slices rest))

-- a piece too many
too-many : (ps : List (List ℕ)) → HasPiece ps → numbers_of 0 ps ≡ None
unfolding numbers_of
too-many [] h = absurd h
too-many (p ∷ ps) h = refl

in_front-none : (o : Option ℕ) → in_front o None ≡ None
in_front-none None = refl
in_front-none (Some v) = refl

-- a line has a piece always: no numbers are none of a line's
pub none-of : (n : ℕ) (s : List ℕ) → n ≡ 0 → numbers_of n (split 32 s) ≡ None
none-of n s z = ap (λ (m : ℕ). numbers_of m (split 32 s)) z ∙ too-many (split 32 s) (split-some 32 s)

-- the last number is all that is left: what a space stands in is no number
last_number : (s : List ℕ) → numbers_of 1 (split 32 s) ≡ in_front (number_of s) (numbers_of 0 [])
unfolding numbers_of
last_number s = go (eqb (before 32 s) (length s)) refl
  where
    go : (t : Bool) → eqb (before 32 s) (length s) ≡ t → numbers_of 1 (split 32 s) ≡ in_front (number_of s) (Some [])
    go true e = ap (numbers_of 1) (split-last 32 s (eqb-true _ _ e))
    go false e =
        let l : before 32 s < length s = omega (arith, before-le 32 s, eqb-false _ _ e) in
        let behind = drop (suc (before 32 s)) s in
        ap (numbers_of 1) (split-cut 32 s l)
        ∙ ap (in_front (number_of (take (before 32 s) s))) (too-many (split 32 behind) (split-some 32 behind)) ∙ in_front-none _
        ∙ sym (ap (λ (o : Option ℕ). in_front o (Some [])) (number-spaced s l))

-- a part of at most count: up to a space or the end, and the last one is all that is left
pub part : (count : ℕ) (xs x rest : List ℕ) (done : Bool) → 0 < count → (count ≡ 1 → done ≡ true)
    → MatchBool done (xs ≡ x) ((y : ℕ) × (xs ≡ x ++ (y ∷ rest))) → (1 < count → IsFirstMatchOrLen (λ b. eqb b 32) xs (length x))
    → numbers_of count (split 32 xs) ≡ in_front (number_of x) (numbers_of (count - 1) (left done rest))
unfolding numbers_of
part zero xs x rest done l f e h = absurd (omega arith)
part (suc zero) xs x rest true l f e h = last_number xs ∙ ap (λ (ys : List ℕ). in_front (number_of ys) (Some [])) e
part (suc zero) xs x rest false l f e h = absurd (let z = f refl in cc)
part (suc (suc m)) xs x rest done l f e h =
    let z : suc m ≡ suc (suc m) - 1 = omega arith in
    ap (numbers_of (suc (suc m))) (piece xs x rest done e (h (omega arith)))
    ∙ ap (λ (i : ℕ). in_front (number_of x) (numbers_of i (left done rest))) z

-- nothing is read yet
pub none_read : (n : ℕ) (s found : List ℕ) {count : ℕ} {done : Bool} {rest : List ℕ} → (n ≡ 0 → ⊥) → length found ≡ n → count ≡ n
    → done ≡ false → rest ≡ s → Read n s 0 found count done rest
none_read n s found {count} {done} {rest} l h m d e =
    record {
      long = h;
      so_many = omega arith;
      last = λ z. absurd (l (sym m ∙ z));
      all = whole (numbers_of n (split 32 s)) ∙ ap (λ (i : ℕ). after [] (numbers_of i (split 32 s))) (sym m)
          ∙ ap (λ (r : List ℕ). after [] (numbers_of count (split 32 r))) (sym e)
          ∙ ap (λ (t : Bool). after [] (numbers_of count (left t rest))) (sym d);
    }
  where
    whole : (x : Option (List ℕ)) → x ≡ after [] x
    whole None = refl
    whole (Some ms) = refl

module _ {n : ℕ} {s found rest : List ℕ} {k count : ℕ} {done : Bool} (r : Read n s k found count done rest) where
  -- no piece is left for a number
  pub read-short : k < n → (count ≡ 0) ⊎ (done ≡ true) → numbers_of n (split 32 s) ≡ None
  unfolding numbers_of
  read-short l (inl z) = absurd (omega (arith, r.so_many))
  read-short l (inr d) =
      let z : count ≡ suc (count - 1) = omega (arith, r.so_many) in
      r.all ∙ ap (λ (t : Bool). after (take k found) (numbers_of count (left t rest))) d
      ∙ ap (λ (m : ℕ). after (take k found) (numbers_of m [])) z

  -- one part more
  module _ (x more : List ℕ) (end : Bool) (d : done ≡ false)
      (p : numbers_of count (split 32 rest) ≡ in_front (number_of x) (numbers_of (count - 1) (left end more))) where
    one : numbers_of n (split 32 s) ≡ after (take k found) (in_front (number_of x) (numbers_of (count - 1) (left end more)))
    one = r.all ∙ ap (λ (t : Bool). after (take k found) (numbers_of count (left t rest))) d ∙ ap (after (take k found)) p

    -- that is no number
    pub read-bad : number_of x ≡ None → numbers_of n (split 32 s) ≡ None
    read-bad e = one ∙ ap (λ (o : Option ℕ). after (take k found) (in_front o (numbers_of (count - 1) (left end more)))) e

    -- that is a number
    pub read_more : {fewer : ℕ} (v : ℕ) → 0 < count → (count ≡ 1 → end ≡ true) → fewer ≡ count - 1 → number_of x ≡ Some v
        → Read n s (k + 1) (set found k v) fewer end more
    read_more {fewer} v l f m e = record {
      long = length-set found k v ∙ r.long;
      so_many = omega (arith, r.so_many);
      last = λ z. f (omega (arith, r.so_many));
      all = one ∙ ap (λ (o : Option ℕ). after (take k found) (in_front o (numbers_of (count - 1) (left end more)))) e
          ∙ moved (numbers_of (count - 1) (left end more))
          ∙ ap (λ (ns : List ℕ). after ns (numbers_of (count - 1) (left end more)))
          (sym (take-set_at found k (k + 1) v refl (omega (arith, r.long))))
          ∙ ap (λ (i : ℕ). after (take (k + 1) (set found k v)) (numbers_of i (left end more))) (sym m);
    }
      where
        moved : (o : Option (List ℕ)) → after (take k found) (in_front (Some v) o) ≡ after (take k found ++ v ∷ []) o
        moved None = refl
        moved (Some ms) = ap Some (sym (append_assoc (take k found) (v ∷ []) ms))

  -- all are read
  pub read_all : n ≤ k → numbers_of n (split 32 s) ≡ Some found
  unfolding numbers_of
  read_all l =
      let z : count ≡ 0 = omega (arith, r.so_many) in
      r.all ∙ ap (λ (t : Bool). after (take k found) (numbers_of count (left t rest))) (r.last z)
      ∙ ap (λ (m : ℕ). after (take k found) (numbers_of m [])) z
      ∙ ap Some (append-nil (take k found) ∙ take_all k found (omega (arith, r.long)))

-- as many numbers as fields
pub numbers_long : (n : ℕ) (ps : List (List ℕ)) (x : List ℕ) → numbers_of n ps ≡ Some x → length x ≡ n
unfolding numbers_of
numbers_long zero [] x h = let z : [] ≡ x = cc in ap length (sym z)
numbers_long zero (p ∷ ps) x h = absurd (let z : ◌≡◌ {A = ℕ} 0 1 = cc in omega arith)
numbers_long (suc n) [] x h = absurd (let z : ◌≡◌ {A = ℕ} 0 1 = cc in omega arith)
numbers_long (suc n) (p ∷ ps) x h = go (number_of p) (numbers_of n ps) (numbers_long n ps) h
  where
    go : (o : Option ℕ) (q : Option (List ℕ)) → ((y : List ℕ) → q ≡ Some y → length y ≡ n) → in_front o q ≡ Some x → length x ≡ suc n
    go (Some v) (Some ms) f e = let z : v ∷ ms ≡ x = cc in ap length (sym z) ∙ ap suc (f ms refl)
    go (Some v) None f e = absurd (let z : ◌≡◌ {A = ℕ} 0 1 = cc in omega arith)
    go None q f e = absurd (let z : ◌≡◌ {A = ℕ} 0 1 = cc in omega arith)
