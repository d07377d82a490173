-- What an owner keeps, by its mask: the lowest slots that it had, as many as its target.
-- Assumes nothing.
use mathlib.Core.Path.{◌≡◌, refl, sym, ap, ◌∙◌, subst}
use mathlib.Core.Bool.{Bool, true, false, ◌&&◌, and-false}
use mathlib.Core.List.{List}
use Prim.Native.Nat.{ℕ, suc, min, ◌+◌, ◌-◌, ◌≤◌, ◌<◌}
use native.Mathlib.Omega.{arith}
use lib.Dec.{eqb, ltb}
use lib.ListN.{length, get_or, set, length-set, replicate}
use lib.Seq.{get_or-set_same, get_or-set_other}
use borrow.Author.Tests.{eq-eqb, ne_eqb, eqb-true, lt-ltb, le-ltb, ltb-true, ltb-false}
use Rattle.words.specs.Bits.{digit, how_many}
use Rattle.words.proofs.Tests.{clash, by-test, same_or_not, both, and_left, and_right, is_false}
use Rattle.words.proofs.Counts.{how_many-suc}
use Rattle.lists.proofs.Laws.{iter-inv, get_d-zeros}
use Rattle.masks.specs.Slots.{owns}
use Rattle.allotment.specs.Allotment.{Draft}
use Rattle.allotment.specs.Allotment.{given, below_target, keep_one, blank, kept}
use Rattle.allotment.proofs.Laws.{lacks-at}
use Rattle.allotment.specs.Inner.{among}

-- one slot more in a count
count-on : (p : ℕ → Bool) (n : ℕ) → p n ≡ true → how_many (suc n) p ≡ how_many n p + 1
count-on p n e = omega (arith, how_many-suc p n, ap digit e)

count-off : (p : ℕ → Bool) (n : ℕ) → p n ≡ false → how_many (suc n) p ≡ how_many n p
count-off p n e = omega (arith, how_many-suc p n, ap digit e)

-- a number other than n is below n + 1 as it is below n
below_other : (k n : ℕ) → (k ≡ n → ⊥) → ltb k n ≡ ltb k (suc n)
below_other k n h =
    by-test (λ (_ : ℕ). ltb k n ≡ ltb k (suc n)) (ltb k n) 0 0
    (λ t. let l = ltb-true k n t in t ∙ sym (lt-ltb k (suc n) (omega (arith, l))))
    (λ t. let l = ltb-false k n t in t ∙ sym (le-ltb k (suc n) (omega (arith, l, h))))

module _ (target old : List ℕ) (K : ℕ) (w : length target ≡ 32) where
  -- whether the node at index i had the slot at index k, one of the K
  abbrev pub had : ℕ → ℕ → Bool
  had i k = ltb k K && owns old i k

  -- what a draft says after n slots: of each node the lowest, up to its target
  pub record Said (n : ℕ) (d : Draft) : Type 0 where
    pub long : length d.owners ≡ 80
    pub wide : length d.held ≡ 32
    pub held : (i : ℕ) → get_or d.held i 0 ≡ min (how_many n (had i)) (get_or target i 0)
    pub slots : (i k : ℕ) → k < 80 → eqb (get_or d.owners k 0) (i + 1) ≡ (ltb k n && among (had i) (get_or target i 0) k)

  said-blank : Said 0 blank
  unfolding how_many
  said-blank =
      record {
        long = refl;
        wide = refl;
        held = λ i. let z = get_d-zeros 32 i in omega (arith, z);
        slots = λ i k b. ne_eqb (get_or (replicate 80 0) k 0) (i + 1) (λ e. let z = get_d-zeros 80 k in omega (arith, e, z))
            ∙ sym (ap (λ (t : Bool). t && among (had i) (get_or target i 0) k) (le-ltb k 0 (omega arith)));
      }

  module _ (n : ℕ) (d : Draft) (l : n < 80) (s : Said n d) where
    abbrev o : ℕ
    o = get_or old n 0

    abbrev j : ℕ
    j = o - 1

    -- the slot stays with its owner
    module _ (a : ltb n K ≡ true) (b : ltb 0 o ≡ true) (f : below_target target d o ≡ true) where
      room : j < length d.held
      room = omega (arith, (lacks-at target d o f).0, s.wide, w)

      owner : o ≡ j + 1
      owner = let p = ltb-true 0 o b in omega (arith, p)

      hers : had j n ≡ true
      hers = both a (eq-eqb o (j + 1) owner)

      others : (i : ℕ) → (i ≡ j → ⊥) → had i n ≡ false
      others i h = ap (λ (t : Bool). ltb n K && t) (ne_eqb o (i + 1) (λ e. h (omega (arith, e)))) ∙ and-false (ltb n K)

      less : how_many n (had j) < get_or target j 0
      less = omega (arith, (lacks-at target d o f).1, s.held j)

      at_slot : (i : ℕ) → eqb o (i + 1) ≡ (ltb n (suc n) && among (had i) (get_or target i 0) n)
      at_slot i =
          same_or_not i j
          (λ e. subst (λ (x : ℕ). eqb o (x + 1) ≡ (ltb n (suc n) && among (had x) (get_or target x 0) n)) (sym e)
          (eq-eqb o (j + 1) owner
          ∙ sym (both (lt-ltb n (suc n) (omega arith)) (both hers (lt-ltb (how_many n (had j)) (get_or target j 0) less)))))
          (λ e. ne_eqb o (i + 1) (λ z. e (omega (arith, z))) ∙ sym
          (both (lt-ltb n (suc n) (omega arith)) (ap (λ (t : Bool). t && ltb (how_many n (had i)) (get_or target i 0)) (others i e))))

      said-kept : Said (suc n) (given d n o)
      said-kept =
          record {
            long = length-set d.owners n o ∙ s.long;
            wide = length-set d.held j (get_or d.held j 0 + 1) ∙ s.wide;
            held = λ i.
                same_or_not i j
                (λ e. subst (λ (x : ℕ). get_or (set d.held j (get_or d.held j 0 + 1)) x 0
                ≡ min (how_many (suc n) (had x)) (get_or target x 0)) (sym e)
                (omega (arith, get_or-set_same d.held j (get_or d.held j 0 + 1) 0 room, s.held j, count-on (had j) n hers, less)))
                (λ e. omega (
                  arith,
                  get_or-set_other d.held j i (get_or d.held j 0 + 1) 0 e,
                  s.held i,
                  count-off (had i) n
                      (others i e),
                ));
            slots = λ i k g.
                same_or_not k n
                (λ e. subst (λ (x : ℕ). eqb (get_or (set d.owners n o) x 0) (i + 1)
                ≡ (ltb x (suc n) && among (had i) (get_or target i 0) x)) (sym e)
                (ap (λ (x : ℕ). eqb x (i + 1)) (get_or-set_same d.owners n o 0 (omega (arith, l, s.long))) ∙ at_slot i))
                (λ e. ap (λ (x : ℕ). eqb x (i + 1)) (get_or-set_other d.owners n k o 0 e) ∙ s.slots i k g
                ∙ ap (λ (t : Bool). t && among (had i) (get_or target i 0) k) (below_other k n e));
          }

    -- it is free, behind the K, or released
    module _ (f : (ltb n K && ltb 0 o && below_target target d o) ≡ false) where
      full : (i : ℕ) → had i n ≡ true → get_or target i 0 ≤ how_many n (had i)
      full i h =
          let e : o ≡ i + 1 = eqb-true o (i + 1) (and_right (ltb n K) (owns old i n) h) in
          let x : j ≡ i = omega (arith, e) in
          by-test (λ (_ : ℕ). get_or target i 0 ≤ how_many n (had i)) (below_target target d o) 0 0
          (λ t. clash (ltb n K && ltb 0 o && below_target target d o)
          (both (both (and_left (ltb n K) (owns old i n) h) (lt-ltb 0 o (omega (arith, e)))) t) f)
          (λ t. let g : get_or target j 0 ≤ get_or d.held j 0 = ltb-false (get_or d.held j 0) (get_or target j 0) t in
          subst (λ (y : ℕ). get_or target y 0 ≤ how_many n (had y)) x (omega (arith, g, s.held j)))

      none : (i : ℕ) → among (had i) (get_or target i 0) n ≡ false
      none i =
          is_false (among (had i) (get_or target i 0) n)
          (λ t. let h = and_left (had i n) (ltb (how_many n (had i)) (get_or target i 0)) t in
          let g = ltb-true (how_many n (had i)) (get_or target i 0) (and_right (had i n) (ltb (how_many n (had i)) (get_or target i 0)) t) in
          absurd (omega (arith, full i h, g)))

      said-left : Said (suc n) d
      said-left =
          record {
            long = s.long;
            wide = s.wide;
            held = λ i.
                by-test (λ (_ : ℕ). get_or d.held i 0 ≡ min (how_many (suc n) (had i)) (get_or target i 0)) (had i n) 0 0
                (λ t. omega (arith, s.held i, count-on (had i) n t, full i t))
                (λ t. omega (arith, s.held i, count-off (had i) n t));
            slots = λ i k g.
                same_or_not k n
                (λ e. subst (λ (x : ℕ). eqb (get_or d.owners x 0) (i + 1) ≡ (ltb x (suc n) && among (had i) (get_or target i 0) x)) (sym e)
                (s.slots i n l ∙ ap (λ (t : Bool). t && among (had i) (get_or target i 0) n) (le-ltb n n (omega arith))
                ∙ sym (both (lt-ltb n (suc n) (omega arith)) (none i))))
                (λ e. s.slots i k g ∙ ap (λ (t : Bool). t && among (had i) (get_or target i 0) k) (below_other k n e));
          }

    said-turn : Said (suc n) (keep_one target old K n d)
    unfolding keep_one
    said-turn =
        by-test (λ (x : Draft). Said (suc n) x) (ltb n K && ltb 0 o && below_target target d o) (given d n o) d
        (λ t. let u = and_left (ltb n K && ltb 0 o) (below_target target d o) t in said-kept (and_left (ltb n K) (ltb 0 o) u)
        (and_right (ltb n K) (ltb 0 o) u) (and_right (ltb n K && ltb 0 o) (below_target target d o) t))
        (λ t. said-left t)

  said : Said 80 (kept target old K)
  unfolding kept
  said = iter-inv Said (keep_one target old K) blank said-blank (λ n d l s. said-turn n d l s)

  -- a node keeps the lowest slots that it had among the K, as many as its target
  pub kept-owns : (i k : ℕ) → k < 80 → owns (kept target old K).owners i k ≡ among (had i) (get_or target i 0) k
  kept-owns i k l = said.slots i k l ∙ ap (λ (t : Bool). t && among (had i) (get_or target i 0) k) (lt-ltb k 80 l)
