-- A loop over the nodes: words and bytes after one turn more, and after the last. The figures stay.
-- Assumes nothing.
use mathlib.Core.Path.{◌≡◌, refl, sym, ap, ◌∙◌}
use mathlib.Core.Bool.{Bool}
use mathlib.Core.List.{List}
use Prim.Native.Nat.{ℕ, ◌+◌, ◌≤◌, ◌<◌}
use native.Mathlib.Omega.{arith}
use lib.ListN.{length}
use Rattle.words.proofs.Tests.{by-test}
use Rattle.lists.specs.All.{iter}
use Rattle.lists.proofs.Laws.{iter-more, iter_end}
use Rattle.lists.proofs.Places.{apart-written}
use Rattle.node.specs.declared.Config.{Config}
use Rattle.node.specs.declared.Move.{Move}
use Rattle.node.specs.Model.{Node}
use Rattle.site.specs.Model.{Member}
use Rattle.machine.specs.Layout.{Store, store, words_size, row_size, node_words_at, node_words, config_at, stored_in}
use Rattle.machine.specs.Written.{written_moved, each}
use Rattle.machine.proofs.Laws.{config-words}

module _ (f : ℕ → Store → Store) (s : Store) where
  pub turn : {w b u v : List ℕ} {i : ℕ} → store w b ≡ iter i f s → u ≡ (f i (store w b)).words → v ≡ (f i (store w b)).bytes → store u v
      ≡ iter (i + 1) f s
  turn {w} {b} {u} {v} {i} e p q =
      let z : store u v ≡ f i (store w b) = λ x. record { words = p x; bytes = q x } in
      iter-more f _ _ _ _ e z

  pub turned : {w b : List ℕ} (i n : ℕ) → store w b ≡ iter i f s → i ≡ n → (w ≡ (iter n f s).words) × (b ≡ (iter n f s).bytes)
  turned {w} {b} i n e h =
      let z = iter_end f s i n (store w b) e h in
      (ap (λ (x : Store). x.words) z, ap (λ (x : Store). x.bytes) z)

length-row : (n : Node) → length (node_words n) ≡ row_size
unfolding node_words
length-row n = refl

-- a node's step leaves the figures
module _ (test : Member → Bool) (step : Member → Member) (change : Member → Move) (i : ℕ) (s : Store) where
  pub config-stays : i < 32 → words_size ≤ length s.words → config_at (each test step change i s).words ≡ config_at s.words
  unfolding each
  config-stays h w =
      let m = step (stored_in s i) in
      let l = length-row m.node in
      by-test (λ (x : Store). config_at x.words ≡ config_at s.words) (test (stored_in s i))
      (written_moved s i m (change (stored_in s i))) s
      (λ e. config-words i h
      (apart-written s.words (node_words m.node) (node_words_at i) (node_words_at i) row_size (omega arith) (omega (arith, l))
      (omega (arith, l, h, w))))
      (λ e. refl)

  -- so those that were read are those of the words after it
  pub config-kept : {f : Config} {u : List ℕ} → i < 32 → words_size ≤ length s.words → f ≡ config_at s.words
      → u ≡ (each test step change i s).words → f ≡ config_at u
  config-kept h w e p = e ∙ sym (ap config_at p ∙ config-stays h w)
