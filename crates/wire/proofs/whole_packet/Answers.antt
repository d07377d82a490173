use mathlib.Core.List.{List}
use mathlib.Core.Path.{◌≡◌, refl, sym, ap, ◌∙◌}
use Prim.Native.Nat.{ℕ}
use native.Mathlib.Omega.{arith}
use borrow.Author.Rules.{rules}
use lib.ListN.{length, take, drop}
use Rattle.lists.specs.Bytes.{word32, window}
use Rattle.lists.proofs.Laws.{window-span}
use Rattle.wire.specs.Layout.{packet_size, packet_in}
use Rattle.wire.proofs.whole_packet.Goals as goal

-- the bytes behind the flags
rest : {k : ℕ} {r : List ℕ} (l : List ℕ) → length l ≡ packet_size → r ≡ take k (drop 13 l) → k ≡ 32 → r ≡ window 32 l 13
rest l h f e = f ∙ ap (λ (x : ℕ). take x (drop 13 l)) e ∙ sym (window-span 32 l 13 (omega arith))

pub returns : goal.returns
unfolding packet_in
returns c =
    let l = c.args.s.now in
    let long : length l ≡ packet_size = search rules in
    let low : c.from_be_bytes.result ≡ word32 l 1 = search rules in
    let high : c.from_be_bytes-2.result ≡ word32 l 5 = search rules in
    let flags : c.from_be_bytes-3.result ≡ word32 l 9 = search rules in
    let requests = rest {k = 32} l long c.copy_from_slice.ensures.after refl in
    λ i. record {
      sender = c.from.ensures i;
      lowest = low i;
      highest = high i;
      flags = flags i;
      requests = requests i;
    }
