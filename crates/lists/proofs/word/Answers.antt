use Rattle.std.proofs.Common.{◌+◌, ℕ, get_or, arith, add-zero}
use Rattle.lists.proofs.Laws.{get_d-tab}
use Rattle.lists.proofs.word.Goals as goal

pub returns : goal.returns
returns c =
    let f : ℕ → ℕ = λ i. get_or c.args.s.now (c.args.at + i) 0 in
    let w = c.window-l.ensures in
    rw (w, get_d-tab 0 4 f 0 (omega arith), get_d-tab 0 4 f 1 (omega arith), get_d-tab 0 4 f 2 (omega arith), get_d-tab 0 4 f 3 (omega arith), add-zero)
    at c.from_be_bytes.ensures
