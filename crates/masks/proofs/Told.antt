-- The owners by the masks of some nodes: those of all nodes, where no other node has a slot.
-- Assumes nothing.
use mathlib.Core.Path.{◌≡◌, refl, sym, ap, ◌∙◌, subst}
use mathlib.Core.Bool.{Bool, true}
use mathlib.Core.Logic.{⊎_elim}
use mathlib.Core.List.{List}
use Prim.Native.Nat.{ℕ, min, ◌+◌, ◌≤◌}
use native.Mathlib.Omega.{arith}
use lib.Dec.{eqb, ltb}
use lib.ListN.{length, get_or, take, length-take, get_or-eq_default}
use lib.Seq.{get_or-take}
use borrow.Author.Tests.{ltb-true, ltb-false}
use Rattle.words.specs.Bits.{word_of, how_many}
use Rattle.words.proofs.Tests.{by-test}
use Rattle.words.proofs.Laws.{word_of-ext, how_many-ext}
use Rattle.lists.specs.All.{tab, bounded}
use Rattle.lists.proofs.Bounded.{bounded_at}
use Rattle.lists.proofs.Laws.{length-tab, tab-ext}
use Rattle.masks.specs.Slots.{Masks}
use Rattle.masks.specs.Slots.{from_words, first, holds, owner_in, owners_in, owns, masks_of}
use Rattle.masks.specs.Air.{owners_to}
use Rattle.masks.proofs.First.{first-is, first-none, first-at, first-le}
use Rattle.masks.proofs.Owners.{owner_at}

pub length-told : (m : Masks) (n : ℕ) → length (owners_to m n) ≡ 80
unfolding owners_to
length-told m n = length-tab 80 (λ k. first (min n 32) (λ i. holds m i k))

-- all nodes
pub told-all : (m : Masks) → owners_to m 32 ≡ owners_in m
unfolding owners_to owners_in owner_in
told-all m = refl

-- the first of m numbers is that of the first n, if it is one of these
first-cut : (n m : ℕ) (p : ℕ → Bool) → n ≤ m → first m p ≤ n → first n p ≡ first m p
first-cut n m p l h =
    ⊎_elim (λ z. first-none n p (λ i k. z.fails i (omega (arith, k, l))) ∙ sym z.is)
    (λ a. first-at n p a.0 (let e = a.1.is in omega (arith, e, h)) a.1.passes a.1.before ∙ sym a.1.is)
    (first-is m p)

-- the nodes that have slots
pub told-within : (m : Masks) (k n : ℕ) → bounded (owners_in m) k n ≡ true → owners_to m n ≡ owners_in m
unfolding owners_to owners_in owner_in
told-within m k n b =
    tab-ext 80 (λ j. first (min n 32) (λ i. holds m i j)) (λ j. first 32 (λ i. holds m i j))
    (λ j h.
    let z : first 32 (λ i. holds m i j) ≤ n = subst (λ (x : ℕ). x ≤ n) (owner_at m j h) (bounded_at (owners_in m) k n b j) in
    let w : first 32 (λ i. holds m i j) ≤ 32 = omega (arith, first-le 32 (λ i. holds m i j)) in
    first-cut (min n 32) 32 (λ i. holds m i j) (omega arith) (omega (arith, z, w)))

-- there are no more than 32
pub told-min : (m : Masks) (n : ℕ) → owners_to m (min n 32) ≡ owners_to m n
unfolding owners_to
told-min m n = let e : min (min n 32) 32 ≡ min n 32 = omega arith in ap (λ (x : ℕ). tab 80 (λ k. first x (λ i. holds m i k))) e

-- The masks of owners are those of the first k, where the others are none.
pub masks-cut : (o : List ℕ) (k : ℕ) → ((j : ℕ) → k ≤ j → get_or o j 0 ≡ 0) → masks_of (take k o) ≡ masks_of o
unfolding masks_of
masks-cut o k none =
    let same : (i j : ℕ) → owns (take k o) i j ≡ owns o i j = λ i j. ap (λ (x : ℕ). eqb x (i + 1)) (entry j) in
    let p = tab-ext 32 (λ i. word_of 64 (owns (take k o) i)) (λ i. word_of 64 (owns o i))
    (λ i h. word_of-ext 64 (owns (take k o) i) (owns o i) (λ j l. same i j)) in
    let q = tab-ext 32 (λ i. word_of 16 (λ j. owns (take k o) i (64 + j))) (λ i. word_of 16 (λ j. owns o i (64 + j)))
    (λ i h. word_of-ext 16 (λ j. owns (take k o) i (64 + j)) (λ j. owns o i (64 + j)) (λ j l. same i (64 + j))) in
    let r = tab-ext 32 (λ i. how_many 80 (owns (take k o) i)) (λ i. how_many 80 (owns o i))
    (λ i h. how_many-ext 80 (owns (take k o) i) (owns o i) (λ j l. same i j)) in
    λ i. from_words (p i) (q i) (r i)
  where
    entry : (j : ℕ) → get_or (take k o) j 0 ≡ get_or o j 0
    entry j =
        by-test (λ (_ : ℕ). get_or (take k o) j 0 ≡ get_or o j 0) (ltb j k) 0 0 (λ t. get_or-take k o j 0 (ltb-true j k t))
        (λ t. let g = ltb-false j k t in get_or-eq_default (take k o) 0 {n = j} (omega (arith, length-take k o, g)) ∙ sym (none j g))
