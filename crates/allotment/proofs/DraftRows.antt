-- The draft after some slots, by its rows; and what is allotted, as masks.
-- Assumes nothing.
use mathlib.Core.Path.{◌≡◌, refl, sym, ap, ap₂, ◌∙◌, subst}
use mathlib.Core.Bool.{Bool, true, false, not, ◌&&◌}
use mathlib.Core.List.{List}
use mathlib.Core.Logic.{◌≢◌, ⊎_elim}
use Prim.Native.Nat.{ℕ, zero, suc, min, ◌+◌, ◌-◌, ◌≤◌, ◌<◌}
use native.Mathlib.Nat.{add-zero}
use native.Mathlib.Omega.{arith}
use lib.Dec.{eqb, ltb}
use lib.Bits
use lib.ListN.{length, get_or, set}
use lib.Seq.{ext_get_or}
use borrow.Author.Tests.{eqb-true, ltb-true, ltb-false, not-false}
use Rattle.words.proofs.Tests.{skip, and_left, and_right, and-rest}
use Rattle.words.specs.Bits.{word_of, how_many}
use Rattle.lists.specs.All.{iter, tab}
use Rattle.lists.proofs.Laws.{iter-inv, iter-more, length-tab, get_d-tab}
use Rattle.masks.specs.Slots.{Masks}
use Rattle.masks.specs.Slots.{has_slot, from_words, owns, masks_of}
use Rattle.masks.proofs.Counts.{count-is}
use Rattle.allotment.specs.Allotment.{Draft}
use Rattle.allotment.specs.Allotment.{keep_one, blank, kept, chosen, holding, fill_one, filled, allotted, count}
use Rattle.allotment.proofs.Laws.{DraftOk, blank-sound, keep-step, fill_step}
use Rattle.allotment.proofs.Turns.{fill-rest, fill-turn, chosen_at}
use Rattle.allotment.specs.Inner.{low_bit, high_bit, FirstFrom}
use Rattle.allotment.proofs.GivenSlots.{lows-given, highs-given}

count-how_many : (j : ℕ) (l : List ℕ) → count j l ≡ how_many (length l) (λ k. eqb (get_or l k 0) j)
unfolding count
count-how_many j l = count-is j (count j) refl (λ x t. refl) l

module _ (target old : List ℕ) (K : ℕ) (w : length target ≡ 32) where
  -- the draft after the first n slots
  abbrev drafted : ℕ → Draft
  drafted n = iter n (fill_one target old K) (kept target old K)

  kept-sound : DraftOk target old K 80 0 (kept target old K)
  unfolding kept
  kept-sound = iter-inv {n = 80} (λ i. DraftOk target old K i 0) (keep_one target old K) blank (blank-sound target old K)
      (keep-step target old K w)

  draft-sound : (n : ℕ) → n ≤ 80 → DraftOk target old K 80 n (drafted n)
  draft-sound n l = iter-inv {n = n} (λ i. DraftOk target old K 80 i) (fill_one target old K) (kept target old K) kept-sound
      (λ i d g s. fill_step target old K w i d (omega (arith, g, l)) s)

  -- a slot that was free and is not yet filled is free
  still-free : (n : ℕ) → n < 80 → eqb (get_or old n 0) 0 ≡ true → get_or (drafted n).owners n 0 ≡ 0
  still-free n l e =
      let z : get_or old n 0 ≡ 0 = eqb-true (get_or old n 0) 0 e in
      ⊎_elim (λ x. x) (λ x. ⊎_elim (λ y. y.0 ∙ z) (λ y. absurd (omega (arith, y.2))) x) ((draft-sound n (omega (arith, l))).slot n)

-- how many slots each node has, of a sound draft
held_rows : (target old : List ℕ) (K a b : ℕ) (d : Draft) → DraftOk target old K a b d
    → d.held ≡ tab 32 (λ i. how_many 80 (owns d.owners i))
held_rows target old K a b d s =
    ext_get_or 0 d.held (tab 32 (λ i. how_many 80 (owns d.owners i)))
    (s.wide ∙ sym (length-tab 32 (λ i. how_many 80 (owns d.owners i))))
    (λ i l.
    let g : i < 32 = omega (arith, l, s.wide) in
    let e : suc i ≡ i + 1 = omega arith in
    sym (s.counted i) ∙ count-how_many (suc i) d.owners ∙ ap₂ (λ (n j : ℕ). how_many n (λ k. eqb (get_or d.owners k 0) j)) s.long e
    ∙ sym (get_d-tab 0 32 (λ i. how_many 80 (owns d.owners i)) i g))

-- rows make masks
rows-make : (target old : List ℕ) (K a b : ℕ) (d : Draft) (low high held : List ℕ) → DraftOk target old K a b d
    → low ≡ tab 32 (λ i. word_of 64 (owns d.owners i))
    → high ≡ tab 32 (λ i. word_of 16 (λ k. owns d.owners i (64 + k))) → held ≡ d.held → from_words low high held ≡ masks_of d.owners
unfolding masks_of
rows-make target old K a b d low high held s p q r = let t = r
    ∙ held_rows target old K a b d s in λ n. record { low = p n; high = q n; counts = t n }

-- the rows of a draft after n slots
pub record So (target old : List ℕ) (K n : ℕ) (low high held : List ℕ) : Type 0 where
  pub targets : length target ≡ 32
  pub lows : low ≡ tab 32 (λ i. word_of 64 (owns (iter n (fill_one target old K) (kept target old K)).owners i))
  pub highs : high ≡ tab 32 (λ i. word_of 16 (λ k. owns (iter n (fill_one target old K) (kept target old K)).owners i (64 + k)))
  pub helds : held ≡ (iter n (fill_one target old K) (kept target old K)).held

-- as the filling begins: the rows of what is kept
pub so-kept : (target old : List ℕ) (K : ℕ) (low high held : List ℕ) → length target ≡ 32
    → from_words low high held ≡ masks_of (kept target old K).owners → So target old K 0 low high held
unfolding iter masks_of
so-kept target old K low high held w e =
    let d = kept target old K in
    record {
      targets = w;
      lows = ap (λ (m : Masks). m.low) e;
      highs = ap (λ (m : Masks). m.high) e;
      helds = ap (λ (m : Masks). m.counts) e ∙ sym (held_rows target old K 80 0 d (kept-sound target old K w));
    }

-- a slot that was not free, or is none of the K, changes nothing
fill-still : (target old : List ℕ) (K k : ℕ) (d : Draft) → (ltb k K && eqb (get_or old k 0) 0) ≡ false → d ≡ fill_one target old K k d
unfolding fill_one
fill-still target old K k d e = sym (skip _ _ _ _ e refl)

module _ (target old : List ℕ) (K n : ℕ) (low high held : List ℕ) (s : So target old K n low high held) where
  abbrev d : Draft
  d = iter n (fill_one target old K) (kept target old K)

  -- the next draft
  so-next : (e : Draft) → e ≡ fill_one target old K n d → (l h g : List ℕ) → l ≡ tab 32 (λ i. word_of 64 (owns e.owners i))
      → h ≡ tab 32 (λ i. word_of 16 (λ k. owns e.owners i (64 + k))) → g ≡ e.held
      → So target old K (n + 1) l h g
  so-next e q l h g a b c =
      let m : e ≡ iter (n + 1) (fill_one target old K) (kept target old K) = iter-more (fill_one target old K)
      (kept target old K) n d e refl q in
      record {
        targets = s.targets;
        lows = a ∙ ap (λ (x : Draft). tab 32 (λ i. word_of 64 (owns x.owners i))) m;
        highs = b ∙ ap (λ (x : Draft). tab 32 (λ i. word_of 16 (λ k. owns x.owners i (64 + k)))) m;
        helds = c ∙ ap (λ (x : Draft). x.held) m;
      }

  so-still : (ltb n K && eqb (get_or old n 0) 0) ≡ false → So target old K (n + 1) low high held
  so-still f = so-next d (fill-still target old K n d f) low high held s.lows s.highs s.helds

  module _ (j : ℕ) (c : j ≡ chosen target (holding held)) where
    is-chosen : j ≡ chosen target (holding d.held)
    is-chosen = c ∙ ap (λ (x : List ℕ). chosen target (holding x)) s.helds

    -- none is below its target: nothing more is filled
    so-rest : n ≤ 80 → j ≡ 0 → from_words low high held ≡ masks_of (allotted target old K)
    so-rest l z =
        rows-make target old K 80 n d low high held (draft-sound target old K s.targets n l) s.lows s.highs s.helds
        ∙ ap (λ (x : Draft). masks_of x.owners) (fill-rest target old K d j is-chosen (kept target old K) n l refl z)

    module _ (i : ℕ) (at : j ≤ 32 → i ≡ j - 1) (h : j ≢ 0) where
      so-given : n < 80 → (ltb n K && eqb (get_or old n 0) 0) ≡ true → i < 32 → (m : ℕ) → m ≡ get_or held i 0 + 1 → (l u g : List ℕ)
          → l ≡ set low i (Bits.bit_or (get_or low i 0) (low_bit n)) → u ≡ set high i (Bits.bit_or (get_or high i 0) (high_bit n))
          → g ≡ set held i m → So target old K (n + 1) l u g
      so-given b f r m e l u g el eu eg =
          let o = d.owners in
          let k : n < K = ltb-true n K (and_left (ltb n K) (eqb (get_or old n 0) 0) f) in
          let v : eqb (get_or old n 0) 0 ≡ true = and_right (ltb n K) (eqb (get_or old n 0) 0) f in
          let z : get_or o n 0 ≡ 0 = still-free target old K s.targets n b v in
          let x : n < length o = omega (arith, b, (draft-sound target old K s.targets n (omega (arith, b))).long) in
          let y : j ≡ i + 1 = chosen_at target (holding d.held) j is-chosen i at h in
          so-next (record { owners = set o n j; held = set d.held i m })
          (fill-turn target old K d j is-chosen i at h n m k v (e ∙ ap (λ (t : List ℕ). get_or t i 0 + 1) s.helds)) l u g
          (el ∙ lows-given o n j i y x z low s.lows r) (eu ∙ highs-given o n j i y x z high s.highs r)
          (eg ∙ ap (λ (t : List ℕ). set t i m) s.helds)

-- all slots are filled
so-end : (target old : List ℕ) (K : ℕ) (low high held : List ℕ) → So target old K 80 low high held
    → from_words low high held ≡ masks_of (allotted target old K)
unfolding filled
so-end target old K low high held s =
    rows-make target old K 80 80 (iter 80 (fill_one target old K) (kept target old K)) low high held
    (draft-sound target old K s.targets 80 (omega arith)) s.lows s.highs s.helds

-- The filling goes from one free slot to the next: a and b are the words of the free slots.
module _ (target old : List ℕ) (K a b : ℕ) (frees : (x : ℕ) → x < 80 → (ltb x K && eqb (get_or old x 0) 0) ≡ has_slot a b x) where
  so-run : (n m : ℕ) (low high held : List ℕ) → n + m ≤ 80 → ((x : ℕ) → n ≤ x → x < n + m → has_slot a b x ≡ false)
      → So target old K n low high held → So target old K (n + m) low high held
  so-run n zero low high held l h s = subst (λ (x : ℕ). So target old K x low high held) (sym (add-zero n)) s
  so-run n (suc m) low high held l h s =
      let e : n + m + 1 ≡ n + suc m = omega arith in
      let r = so-run n m low high held (omega (arith, l)) (λ x p q. h x p (omega (arith, q))) s in
      subst (λ (x : ℕ). So target old K x low high held) e
      (so-still target old K (n + m) low high held r (frees (n + m) (omega (arith, l)) ∙ h (n + m) (omega arith) (omega arith)))

  -- on to the next free slot
  pub so-on : (n r : ℕ) (low high held : List ℕ) → n ≤ 80 → FirstFrom (has_slot a b) 80 n r → So target old K n low high held
      → So target old K (min r 80) low high held
  so-on n r low high held l f s =
      let g = f.behind in
      let e : n + (min r 80 - n) ≡ min r 80 = omega (arith, l, g) in
      subst (λ (x : ℕ). So target old K x low high held) e
      (so-run n (min r 80 - n) low high held (omega (arith, e)) (λ x p q. f.none x p (omega (arith, q, e)) (omega (arith, q, e))) s)

  -- a turn: the node of number j, which stands at index i, gets the slot
  module _ (slot : ℕ) (low high held : List ℕ) (s : So target old K (min slot 80) low high held) (j : ℕ)
      (c : slot < 80 → j ≡ chosen target (holding held)) where
    pub so-turn : (i : ℕ) → (j ≤ 32 → i ≡ j - 1) → j ≢ 0 → slot < 80 → has_slot a b slot ≡ true → i < 32 → (m : ℕ) → m ≡ get_or held i 0 + 1
        → (p q r : ℕ) → p ≡ low_bit slot → q ≡ high_bit slot
        → FirstFrom (has_slot a b) 80 (slot + 1) r
        → So target old K (min r 80) (set low i (Bits.bit_or (get_or low i 0) p)) (set high i (Bits.bit_or (get_or high i 0) q)) (set held i m)
    so-turn i at h l t k m e p q r ep eq f =
        let z : min slot 80 ≡ slot = omega (arith, l) in
        so-on (slot + 1) r _ _ _ (omega (arith, l)) f
        (so-given target old K slot low high held (subst (λ (x : ℕ). So target old K x low high held) z s) j (c l) i at h l
        (frees slot l ∙ t) k m e _ _ _
        (ap (λ (x : ℕ). set low i (Bits.bit_or (get_or low i 0) x)) ep) (ap (λ (x : ℕ). set high i (Bits.bit_or (get_or high i 0) x)) eq) refl)

    -- the end: no slot is left, or no node is below its target
    pub so-done : (ltb slot 80 && not (eqb j 0)) ≡ false → from_words low high held ≡ masks_of (allotted target old K)
    so-done e = go (ltb slot 80) refl
      where
        go : (t : Bool) → ltb slot 80 ≡ t → from_words low high held ≡ masks_of (allotted target old K)
        go true f = so-rest target old K (min slot 80) low high held s j (c (ltb-true slot 80 f)) (omega arith)
            (eqb-true j 0 (not-false _ (and-rest (ltb slot 80) (not (eqb j 0)) e f)))
        go false f =
            let l = ltb-false slot 80 f in
            let z : min slot 80 ≡ 80 = omega (arith, l) in
            so-end target old K low high held (subst (λ (x : ℕ). So target old K x low high held) z s)
