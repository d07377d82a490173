use Rattle.std.proofs.Common.{◌≡◌, ℕ, ◌+◌, ◌<◌, get_or, arith, add-zero}
use Rattle.lists.proofs.Laws.{get_d-tab}
use Rattle.masks.proofs.bytes.short_word.Goals as goal

pub returns : goal.returns
returns c =
    let s = c.args.s.now in
    let i = c.args.i in
    let f : ℕ → ℕ = λ k. get_or s (i + k) 0 in
    let at : (k : ℕ) → k < 2 → get_or c.part.result k 0 ≡ f k = λ k h. rw c.part.ensures (get_d-tab 0 2 f k h) in
    rw (at 0 (omega arith), at 1 (omega arith), add-zero) at c.from_be_bytes.ensures
