-- The bytes of a list from a place on, as they were read.
-- Assumes nothing.
use mathlib.Core.Path.{◌≡◌, refl, sym, ap, ap₂, ◌∙◌}
use mathlib.Core.List.{List, ◌∷◌, ◌++◌}
use Prim.Native.Nat.{ℕ, suc, ◌+◌, ◌≤◌, ◌<◌}
use native.Mathlib.Omega.{arith}
use lib.ListN.{length, get_or, drop, take-append-drop}
use lib.Seq.{drop-cons, drop-drop}
use Rattle.lists.specs.Bytes.{word32, bytes32, window}
use Rattle.lists.proofs.Laws.{bytes_word, window-span}

-- each element is a byte
abbrev pub Bytes : List ℕ → Type 0
Bytes l = (i : ℕ) → i < length l → get_or l i 0 < 256

-- a byte, a number, a list, and what is behind them

module _ (l : List ℕ) where
  pub byte-then : (at to : ℕ) (t : List ℕ) → at < length l → at + 1 ≡ to → t ≡ drop to l → get_or l at 0 ∷ t ≡ drop at l
  byte-then at to t h e f =
      let k : to ≡ suc at = omega arith in
      ap (λ (x : List ℕ). get_or l at 0 ∷ x) (f ∙ ap (λ (n : ℕ). drop n l) k) ∙ sym (drop-cons l at 0 h)

  pub word-then : (at to : ℕ) (t : List ℕ) → Bytes l → to ≤ length l → at + 4 ≡ to → t ≡ drop to l → bytes32 (word32 l at) ++ t ≡ drop at l
  word-then at to t b h e f =
      ap (λ (x : List ℕ). x ++ t)
      (bytes_word (get_or l at 0) (get_or l (at + 1) 0) (get_or l (at + 2) 0) (get_or l (at + 3) 0) (b at (omega arith))
      (b (at + 1) (omega arith)) (b (at + 2) (omega arith)) (b (at + 3) (omega arith)))
      ∙ byte-then at (at + 1) _ (omega arith) refl
      (byte-then (at + 1) (at + 2) _ (omega arith) (omega arith)
      (byte-then (at + 2) (at + 3) _ (omega arith) (omega arith)
      (byte-then (at + 3) to t (omega arith) (omega arith) f)))

  pub list-then : (n at to : ℕ) (t : List ℕ) → to ≤ length l → at + n ≡ to → t ≡ drop to l → window n l at ++ t ≡ drop at l
  list-then n at to t h e f =
      let k : n + at ≡ to = omega arith in
      ap₂ ◌++◌ (window-span n l at (omega arith)) (f ∙ sym (drop-drop n at l ∙ ap (λ (x : ℕ). drop x l) e)) ∙ take-append-drop n (drop at l)
