use Rattle.words.proofs.Laws.{below-shift}
use borrow.Author.Tests.{lt-ltb}
use lib.Pow.{pow_mono}
use native.Mathlib.Nat.{lt_of_lt_of_le}
use mathlib.Core.Path.{sym}
use Prim.Native.Nat.{◌<◌, ◌^◌}
use native.Mathlib.Omega.{arith}
use Rattle.words.proofs.below.Goals as goal

-- src/lib.rt:45:1
pub returns-then-n-lt32 : goal.returns-then-n-lt32
returns-then-n-lt32 c = below-shift c.args.w c.args.n

-- src/lib.rt:45:1
pub returns-else-n-lt32 : goal.returns-else-n-lt32
returns-else-n-lt32 c = let h : c.args.w < 2 ^ 32 = omega arith in sym (lt-ltb _ _ (lt_of_lt_of_le h (pow_mono c.if-n-lt32.false)))
