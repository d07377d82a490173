use mathlib.Core.Path.{◌≡◌, sym, ap, ◌∙◌}
use mathlib.Core.Bool.{Bool, not, ◌&&◌}
use Prim.Native.Nat.{ℕ, ◌-◌, ◌+◌, ◌*◌, ◌%◌, ◌^◌}
use native.Mathlib.Nat.{one-mul}
use native.Mathlib.Omega.{arith}
use borrow.Author.Tests.{lt-ltb, le-ltb}
use lib.Bits
use lib.Dec.{ltb, lit<}
use lib.Pow.{shl_exact, pow_pos}
use Rattle.words.specs.Bits.{has_bit}
use Rattle.words.proofs.Laws.{word_of-none}
use Rattle.allotment.specs.Inner.{own_high}
use Rattle.allotment.proofs.OwnSlots.{own-bit, own-lt, cut_word, whole_word}
use Rattle.allotment.proofs.inplace.own_high.Goals as goal
use Rattle.allotment.proofs.inplace.own_high.Goals.{Then-k-lt80}

pub returns-then-k-lt64 : goal.returns-then-k-lt64
unfolding own_high
returns-then-k-lt64 c =
    let a = c.args in
    sym (word_of-none 16 (λ b. ltb (64 + b) a.k && (has_bit a.w b && not (has_bit a.taken b)))
    (λ b g. ap (λ (t : Bool). t && (has_bit a.w b && not (has_bit a.taken b)))
    (le-ltb (64 + b) a.k (omega (arith, c.if-k-lt64.true)))))

power : (c : Then-k-lt80) → (1 * 2 ^ (c.args.k - 64)) % 2 ^ 16 ≡ 2 ^ (c.args.k - 64)
power c = shl_exact {a = 1} 1 (c.args.k - 64) 16 (lit< tt) (omega (arith, c.if-k-lt80.true)) ∙ one-mul _

pub overflow_sub-result-then-k-lt80 : goal.overflow_sub-result-then-k-lt80
overflow_sub-result-then-k-lt80 c = omega (arith, power c, pow_pos (c.args.k - 64))

pub returns-then-k-lt80 : goal.returns-then-k-lt80
unfolding own_high
returns-then-k-lt80 c =
    let a = c.args in
    ap (λ (x : ℕ). Bits.bit_and (Bits.bit_xor a.w (Bits.bit_and a.w a.taken)) (x - 1)) (power c)
    ∙ cut_word 16 (Bits.bit_xor a.w (Bits.bit_and a.w a.taken)) (a.k - 64)
    (λ b. ltb (64 + b) a.k && (has_bit a.w b && not (has_bit a.taken b)))
    (own-lt 16 a.w a.taken (omega arith) (omega arith)) (omega (arith, c.if-k-lt80.true))
    (λ b l. own-bit a.w a.taken b
    ∙ sym (ap (λ (t : Bool). t && (has_bit a.w b && not (has_bit a.taken b))) (lt-ltb (64 + b) a.k (omega (arith, l)))))
    (λ b l g. ap (λ (t : Bool). t && (has_bit a.w b && not (has_bit a.taken b))) (le-ltb (64 + b) a.k (omega (arith, l))))

pub returns-else-k-lt80 : goal.returns-else-k-lt80
unfolding own_high
returns-else-k-lt80 c =
    let a = c.args in
    whole_word 16 (Bits.bit_xor a.w (Bits.bit_and a.w a.taken))
    (λ b. ltb (64 + b) a.k && (has_bit a.w b && not (has_bit a.taken b)))
    (own-lt 16 a.w a.taken (omega arith) (omega arith))
    (λ b g. own-bit a.w a.taken b
    ∙ sym (ap (λ (t : Bool). t && (has_bit a.w b && not (has_bit a.taken b)))
    (lt-ltb (64 + b) a.k (omega (arith, g, c.if-k-lt80.false)))))
