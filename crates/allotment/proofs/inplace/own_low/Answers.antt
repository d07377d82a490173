use mathlib.Core.Path.{◌≡◌, sym, ap, ◌∙◌}
use mathlib.Core.Bool.{Bool, not, ◌&&◌}
use Prim.Native.Nat.{ℕ, ◌-◌, ◌*◌, ◌%◌, ◌^◌}
use native.Mathlib.Nat.{one-mul}
use native.Mathlib.Omega.{arith}
use borrow.Author.Tests.{lt-ltb, le-ltb}
use lib.Bits
use lib.Dec.{ltb, lit<}
use lib.Pow.{shl_exact, pow_pos}
use Rattle.words.specs.Bits.{has_bit}
use Rattle.allotment.specs.Inner.{own_low}
use Rattle.allotment.proofs.OwnSlots.{own-bit, own-lt, cut_word, whole_word}
use Rattle.allotment.proofs.inplace.own_low.Goals as goal
use Rattle.allotment.proofs.inplace.own_low.Goals.{Then-k-lt64}

power : (c : Then-k-lt64) → (1 * 2 ^ c.args.k) % 2 ^ 64 ≡ 2 ^ c.args.k
power c = shl_exact {a = 1} 1 c.args.k 64 (lit< tt) (omega (arith, c.if-k-lt64.true)) ∙ one-mul _

pub overflow_sub-result : goal.overflow_sub-result
overflow_sub-result c = omega (arith, power c, pow_pos c.args.k)

pub returns-then-k-lt64 : goal.returns-then-k-lt64
unfolding own_low
returns-then-k-lt64 c =
    let a = c.args in
    let rest : ℕ → Bool = λ b. has_bit a.w b && not (has_bit a.taken b) in
    ap (λ (x : ℕ). Bits.bit_and (Bits.bit_xor a.w (Bits.bit_and a.w a.taken)) (x - 1)) (power c)
    ∙ cut_word 64 (Bits.bit_xor a.w (Bits.bit_and a.w a.taken)) a.k
    (λ b. ltb b a.k && (has_bit a.w b && not (has_bit a.taken b)))
    (own-lt 64 a.w a.taken (omega arith) (omega arith)) (omega (arith, c.if-k-lt64.true))
    (λ b l. own-bit a.w a.taken b ∙ sym (ap (λ (t : Bool). t && (has_bit a.w b && not (has_bit a.taken b))) (lt-ltb b a.k l)))
    (λ b l g. ap (λ (t : Bool). t && (has_bit a.w b && not (has_bit a.taken b))) (le-ltb b a.k l))

pub returns-else-k-lt64 : goal.returns-else-k-lt64
unfolding own_low
returns-else-k-lt64 c =
    let a = c.args in
    whole_word 64 (Bits.bit_xor a.w (Bits.bit_and a.w a.taken)) (λ b. ltb b a.k && (has_bit a.w b && not (has_bit a.taken b)))
    (own-lt 64 a.w a.taken (omega arith) (omega arith))
    (λ b g. own-bit a.w a.taken b
    ∙ sym (ap (λ (t : Bool). t && (has_bit a.w b && not (has_bit a.taken b))) (lt-ltb b a.k (omega (arith, g, c.if-k-lt64.false)))))
