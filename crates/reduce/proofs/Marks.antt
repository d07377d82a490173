-- Marks that are cleared, how many there are, and what a scan of them comes to.
-- Assumes nothing.
use mathlib.Core.Path.{◌≡◌, refl, sym, ap, ap₂, ◌∙◌, subst}
use mathlib.Core.Bool.{Bool, true, false, not, cond, ◌&&◌, ◌||◌}
use mathlib.Core.List.{List, [], ◌∷◌, ◌++◌}
use Prim.Native.Nat.{ℕ, zero, suc, ◌+◌, ◌-◌, ◌≤◌, ◌<◌}
use native.Mathlib.Omega.{arith}
use borrow.Author.Tests.{leb-true, leb-false, le-ltb, ltb-true, ltb-false}
use lib.Dec.{leb, ltb}
use lib.ListN.{length, set, take, drop, replicate, length-append, length-replicate, get_or-append}
use lib.Seq.{length-take-le, get_or-set_same, get_or-set_other}
use Rattle.std.proofs.lemmas.List.{get_or-append_right, get_or-replicate, get_or-take, get_or-drop}
use Rattle.words.proofs.Tests.{never, same_or_not, and_left, and_right, and-rest}
use Rattle.text.specs.Read.{split}
use Rattle.machine.specs.timed.Calls.{TimedState}
use Rattle.reduce.specs.Reduced.{TextLine, lines_in, gives}
use Rattle.reduce.specs.Calls.{start_state}
use Rattle.reduce.specs.Inner.{Placed, placed_lines, in_front, keep, NextLine, kept, kept_but, gives_from, gives_but, opening_of}
use Rattle.reduce.specs.Inner.{given, cleared, marked_count, Lean, Scanned}
use Rattle.script.specs.declared.Opened.{Opened}
use Rattle.reduce.proofs.Lines.{all_lines}
use Rattle.reduce.proofs.Kept.{keep_same, or-false, or-true, except, except-same, except-other}

module _ (ms : List Bool) (lo hi : ℕ) where
  -- the marks of the range, and those outside
  pub cleared-in : (i : ℕ) → hi ≤ length ms → lo ≤ i → i < hi → kept (cleared ms lo hi) i ≡ false
  cleared-in i l h k =
      let t = take lo ms in
      let n : length t ≡ lo = length-take-le lo ms (omega arith) in
      let r = replicate (hi - lo) false in
      let m : length r ≡ hi - lo = length-replicate (hi - lo) false in
      get_or-append (t ++ r) (drop hi ms) false i (omega (arith, n, m, length-append t r))
      ∙ get_or-append_right t r lo i false n h
      ∙ get_or-replicate (hi - lo) (i - lo) false false (omega arith)

  pub cleared-out : (i : ℕ) → lo ≤ hi → hi ≤ length ms → (lo ≤ i → i < hi → ⊥) → kept (cleared ms lo hi) i ≡ kept ms i
  cleared-out i h k f = go (ltb i lo) refl
    where
      t : List Bool
      t = take lo ms

      r : List Bool
      r = replicate (hi - lo) false

      n : length t ≡ lo
      n = length-take-le lo ms (omega arith)

      m : length (t ++ r) ≡ hi
      m = omega (arith, n, h, length-append t r, length-replicate (hi - lo) false)

      go : (b : Bool) → ltb i lo ≡ b → kept (cleared ms lo hi) i ≡ kept ms i
      go true e =
          let l : i < lo = ltb-true i lo e in
          get_or-append (t ++ r) (drop hi ms) false i (omega (arith, l, m, h))
          ∙ get_or-append t r false i (omega (arith, l, n))
          ∙ get_or-take lo ms i false l
      go false e =
          let l : lo ≤ i = ltb-false i lo e in
          let j : hi ≤ i = behind (ltb i hi) refl l in
          let z : hi + (i - hi) ≡ i = omega arith in
          get_or-append_right (t ++ r) (drop hi ms) hi i false m j
          ∙ get_or-drop hi ms (i - hi) false
          ∙ ap (kept ms) z
        where
          behind : (c : Bool) → ltb i hi ≡ c → lo ≤ i → hi ≤ i
          behind true g l = absurd (f l (ltb-true i hi g))
          behind false g l = ltb-false i hi g

  -- what is kept with cleared marks is what is kept without the range
  cleared-kept : (i : ℕ) → lo ≤ hi → hi ≤ length ms → kept (cleared ms lo hi) i ≡ kept_but ms lo hi i
  cleared-kept i h k = go (leb lo i) (ltb i hi) refl refl
    where
      go : (t u : Bool) → leb lo i ≡ t → ltb i hi ≡ u → kept (cleared ms lo hi) i ≡ (not (t && u) && kept ms i)
      go true true a b = cleared-in i k (leb-true lo i a) (ltb-true i hi b)
      go true false a b = cleared-out i h k (λ x y. absurd (omega (arith, y, ltb-false i hi b)))
      go false u a b = cleared-out i h k (λ x y. absurd (omega (arith, x, leb-false lo i a)))

  pub cleared-gives : (a : ℕ) (s : List ℕ) (at : ℕ) (w : TimedState) → lo ≤ hi → hi ≤ length ms
      → gives_but a s ms lo hi at w ≡ gives_from a s (cleared ms lo hi) at w
  cleared-gives a s at w h k =
      ap (gives a w)
      (keep_same (kept_but ms lo hi) (kept (cleared ms lo hi)) (placed_lines at (split 10 (drop at s)))
      (λ i. sym (cleared-kept i h k)))

-- nothing is left out of no places
whole-gives : (a : ℕ) (s : List ℕ) (ms : List Bool) (at : ℕ) (w : TimedState) → gives_but a s ms 0 0 at w ≡ gives_from a s ms at w
whole-gives a s ms at w = ap (gives a w) (keep_same (kept_but ms 0 0) (kept ms) (placed_lines at (split 10 (drop at s))) same)
  where
    same : (i : ℕ) → kept_but ms 0 0 i ≡ kept ms i
    same i = ap (λ (t : Bool). not (leb 0 i && t) && kept ms i) (le-ltb i 0 (omega arith)) ∙ go (leb 0 i)
      where
        go : (t : Bool) → (not (t && false) && kept ms i) ≡ kept ms i
        go true = refl
        go false = refl

-- the first run of all kept lines
pub first-gives : (a : ℕ) (s : List ℕ) (ms : List Bool) (o : Opened) (at : ℕ) (w : TimedState) → at ≡ o.at → w ≡ start_state (opening_of o)
    → (t : Bool) → t ≡ gives_but a s ms 0 0 at w → t ≡ given a s ms o
first-gives a s ms o at w p k t e = e ∙ whole-gives a s ms at w ∙ ap₂ (λ (i : ℕ) (v : TimedState). gives_from a s ms i v) p k

-- what is kept without a single place
pub except-kept : (ms : List Bool) (q i : ℕ) → q < length ms → except (kept ms) q i ≡ kept (cleared ms q (q + 1)) i
except-kept ms q i l =
    same_or_not i q
    (λ e. ap (except (kept ms) q) e ∙ except-same (kept ms) q
    ∙ sym (ap (kept (cleared ms q (q + 1))) e ∙ cleared-in ms q (q + 1) q (omega (arith, l)) (omega arith) (omega arith)))
    (λ e. except-other (kept ms) q i e
    ∙ sym (cleared-out ms q (q + 1) i (omega arith) (omega (arith, l)) (λ a b. absurd (omega (arith, a, b, e)))))

-- fewer are marked
digit-le : (t u : Bool) → (t ≡ true → u ≡ true) → cond t 1 0 ≤ cond u 1 0
digit-le true true h = omega arith
digit-le true false h = never (sym (h refl))
digit-le false true h = omega arith
digit-le false false h = omega arith

marked-le : (n : ℕ) (ms ns : List Bool) → ((i : ℕ) → kept ns i ≡ true → kept ms i ≡ true) → marked_count n ns ≤ marked_count n ms
unfolding marked_count
marked-le zero ms ns h = omega arith
marked-le (suc n) ms ns h = omega (arith, marked-le n ms ns h, digit-le (kept ns n) (kept ms n) (h n))

marked-less : (n : ℕ) (ms ns : List Bool) (q : ℕ) → ((i : ℕ) → kept ns i ≡ true → kept ms i ≡ true) → q < n → kept ms q ≡ true
    → kept ns q ≡ false → marked_count n ns < marked_count n ms
unfolding marked_count
marked-less zero ms ns q h l a b = absurd (omega arith)
marked-less (suc n) ms ns q h l a b =
    same_or_not q n
    (λ e.
    let x : ◌≡◌ {A = ℕ} (cond (kept ms n) 1 0) 1 = ap (λ (i : ℕ). cond (kept ms i) 1 0) (sym e) ∙ ap (λ (t : Bool). cond t 1 0) a in
    let y : ◌≡◌ {A = ℕ} (cond (kept ns n) 1 0) 0 = ap (λ (i : ℕ). cond (kept ns i) 1 0) (sym e) ∙ ap (λ (t : Bool). cond t 1 0) b in
    omega (arith, marked-le n ms ns h, x, y))
    (λ e. omega (arith, marked-less n ms ns q h (omega (arith, e)) a b, digit-le (kept ns n) (kept ms n) (h n)))

-- a mark that is cleared
pub cleared-fewer : (n : ℕ) (ms : List Bool) (q : ℕ) → q < n → n ≤ length ms → kept ms q ≡ true
    → marked_count n (cleared ms q (q + 1)) < marked_count n ms
cleared-fewer n ms q l h a = marked-less n ms (cleared ms q (q + 1)) q still l a
    (cleared-in ms q (q + 1) q (omega (arith, l, h)) (omega arith) (omega arith))
  where
    still : (i : ℕ) → kept (cleared ms q (q + 1)) i ≡ true → kept ms i ≡ true
    still i k =
        same_or_not i q (λ e. ap (kept ms) e ∙ a)
        (λ e. sym (cleared-out ms q (q + 1) i (omega arith) (omega (arith, l, h)) (λ x y. absurd (omega (arith, x, y, e)))) ∙ k)

-- a scan up to a place
pub record ScanTo (a : ℕ) (s : List ℕ) (o : Opened) (before after : List Bool) (cut : Bool) (at : ℕ) : Type 0 where
  pub still : given a s after o ≡ true
  pub lean : cut ≡ false → Lean a s o after at
  pub most : marked_count (length s) after ≤ marked_count (length s) before
  pub fewer : cut ≡ true → marked_count (length s) after < marked_count (length s) before

module _ (a : ℕ) (s : List ℕ) (o : Opened) (before : List Bool) where
  pub scan-start : given a s before o ≡ true → ScanTo a s o before before false o.at
  scan-start g = record { still = g; lean = λ e q x y k. absurd (omega (arith, x, y)); most = omega arith; fewer = λ e. never (sym e) }

  -- one place more: its mark is cleared, or it is left as it is
  module _ (ms : List Bool) (cut : Bool) (at : ℕ) (l : at < length s) (n : length s ≤ length ms) (q : ScanTo a s o before ms cut at) where
    scan-cut : (kept ms at && given a s (cleared ms at (at + 1)) o) ≡ true → ScanTo a s o before (cleared ms at (at + 1)) true (at + 1)
    scan-cut h =
        let f = cleared-fewer (length s) ms at l n (and_left (kept ms at) (given a s (cleared ms at (at + 1)) o) h) in
        record {
          still = and_right (kept ms at) (given a s (cleared ms at (at + 1)) o) h;
          lean = λ e. never e;
          most = omega (arith, f, q.most);
          fewer = λ e. omega (arith, f, q.most);
        }

    scan-stay : (kept ms at && given a s (cleared ms at (at + 1)) o) ≡ false → ScanTo a s o before ms cut (at + 1)
    scan-stay h =
        record {
          still = q.still;
          lean = λ e i x y k.
              same_or_not i at
              (λ z.
              ap (λ (j : ℕ). given a s (cleared ms j (j + 1)) o) z
              ∙ and-rest (kept ms at) (given a s (cleared ms at (at + 1)) o) h (sym (ap (kept ms) z) ∙ k))
              (λ z. q.lean e i x (omega (arith, y, z)) k);
          most = q.most;
          fewer = q.fewer;
        }

    pub scan-next : (ns : List Bool) (t : Bool) → t ≡ (kept ms at && given a s (cleared ms at (at + 1)) o)
        → ns ≡ cond t (cleared ms at (at + 1)) ms → ScanTo a s o before ns (cut || t) (at + 1)
    scan-next ns true e k = subst (λ (m : List Bool). ScanTo a s o before m (cut || true) (at + 1)) (sym k)
        (rw or-true (scan-cut (sym e)))
    scan-next ns false e k = subst (λ (m : List Bool). ScanTo a s o before m (cut || false) (at + 1)) (sym k)
        (rw or-false (scan-stay (sym e)))

  -- up to the end
  pub scan-end : (ms : List Bool) (cut : Bool) (at : ℕ) → length s ≤ at → ScanTo a s o before ms cut at → Scanned a s o before ms cut
  scan-end ms cut at h q = record { still = q.still; lean = λ e i x y k. q.lean e i x (omega (arith, y, h)) k; fewer = q.fewer }

-- every line is marked
abbrev pub AllOne : List Bool → List Placed → Type 0
AllOne ms [] = Unit {0}
AllOne ms (x ∷ xs) = (kept ms x.at ≡ true) × AllOne ms xs

pub all-kept : (ms : List Bool) (xs : List Placed) → AllOne ms xs → keep (kept ms) xs ≡ keep (λ i. true) xs
unfolding keep
all-kept ms [] h = refl
all-kept ms (x ∷ xs) h = ap₂ (λ (t : Bool) (r : List TextLine). in_front t x.line r) h.0 (all-kept ms xs h.1)

-- the lines before a place are marked: all are, once those from it on are, and no mark before it changes
module _ (s : List ℕ) (from : ℕ) where
  abbrev lines_at : ℕ → List Placed
  lines_at at = placed_lines at (split 10 (drop at s))

  pub record MarkedTo (ms : List Bool) (at : ℕ) : Type 0 where
    pub then : (ns : List Bool) → ((i : ℕ) → i < at → kept ns i ≡ kept ms i) → AllOne ns (lines_at at) → AllOne ns (lines_at from)

  pub mark-start : (ms : List Bool) → MarkedTo ms from
  mark-start ms = record { then = λ ns f h. h }

  pub mark-end : (ms : List Bool) (at : ℕ) → lines_at at ≡ [] → MarkedTo ms at
      → keep (kept ms) (lines_at from) ≡ lines_in (split 10 (drop from s))
  mark-end ms at h q = all-kept ms (lines_at from) (q.then ms (λ i l. refl) (subst (AllOne ms) (sym h) tt))
      ∙ all_lines from (split 10 (drop from s))

  pub mark-next : (ms : List Bool) (at n : ℕ) → at < length ms → NextLine s at n → MarkedTo ms at → MarkedTo (set ms at true) n
  mark-next ms at n l h q =
      record {
        then = λ ns f k.
            q.then ns (λ i j. f i (omega (arith, j, h.onward)) ∙ get_or-set_other ms at i true false (λ z. omega (arith, j, z)))
            (subst (AllOne ns) (sym h.line) (f at h.onward ∙ get_or-set_same ms at true false l, k));
      }
