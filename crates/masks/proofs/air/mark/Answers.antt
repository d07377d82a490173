use mathlib.Core.Path.{◌≡◌, refl, sym, ap, ap₂, ◌∙◌}
use Prim.Native.Nat.{ℕ, ◌≤◌, ◌<◌, ◌-◌, ◌+◌, ◌*◌, ◌%◌, ◌^◌}
use native.Mathlib.Nat.{one-mul}
use lib.Bits
use lib.Dec.{lit<}
use lib.Pow.{shl_exact}
use lib.ListN.{length}
use borrow.Author.Tests.{lt-ltb, le-ltb}
use Rattle.words.proofs.Tests.{hit, skip}
use Rattle.lists.proofs.Chain.{put, retry}
use Rattle.masks.specs.Bytes.{word64, bytes64, word16, bytes16, at_high}
use native.Mathlib.Omega.{arith}
use Rattle.masks.proofs.air.mark.Goals as goal

-- a bit of a word of n bits
shifted : (k n : ℕ) → k < n → (1 * 2 ^ k) % 2 ^ n ≡ 2 ^ k
shifted k n h = shl_exact {a = 1} 1 k n (lit< tt) (omega arith) ∙ one-mul _

pub returns-then-k-lt64 : goal.returns-then-k-lt64
returns-then-k-lt64 c =
    let l = c.args.out.now in
    let p = c.args.at + 8 * c.args.i in
    let k = c.args.k in
    let h : k < 64 = c.if-k-lt64.true in
    let e = c.long_bytes-a.ensures
    ∙ ap bytes64 (ap₂ Bits.bit_or c.long_word.ensures (shifted k 64 h)) in
    let z : p + length (bytes64 (Bits.bit_or (word64 l p) (2 ^ k))) ≤ length l = omega (arith, c.requires.0, c.requires.1) in
    (put z (retry e c.put_bytes.ensures)).is ∙ sym (hit _ _ _ (lt-ltb k 64 h))

pub returns : goal.returns
returns c =
    let l = c.args.out.now in
    let p = c.args.at + at_high + 2 * c.args.i in
    let k = c.args.k in
    let h : 64 ≤ k = c.if-k-lt64.false in
    let e = c.short_bytes-b.ensures
    ∙ ap bytes16 (ap₂ Bits.bit_or c.short_word.ensures
    (shifted (k - 64) 16 (omega (arith, c.requires.2)))) in
    let z : p + length (bytes16 (Bits.bit_or (word16 l p) (2 ^ (k - 64)))) ≤ length l = omega (arith, c.requires.0, c.requires.1) in
    (put z (retry e c.put_bytes-2.ensures)).is ∙ sym (skip _ _ _ _ (le-ltb k 64 h) refl)
