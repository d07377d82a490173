use mathlib.Core.Path.{sym}
use native.Mathlib.Omega.{arith}
use Rattle.words.proofs.Laws.{has_bit-out}
use Rattle.words.proofs.contains.Goals as goal

pub returns-else-i-lt32 : goal.returns-else-i-lt32
returns-else-i-lt32 c = sym (has_bit-out c.args.w 32 c.args.i (omega arith) c.if-i-lt32.false)
