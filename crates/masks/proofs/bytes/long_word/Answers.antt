use Rattle.std.proofs.Common.{◌≡◌, ℕ, ◌+◌, ◌<◌, get_or, arith, add-zero}
use Rattle.lists.proofs.Laws.{get_d-tab}
use Rattle.masks.proofs.bytes.long_word.Goals as goal

pub returns : goal.returns
returns c =
    let s = c.args.s.now in
    let i = c.args.i in
    let f : ℕ → ℕ = λ k. get_or s (i + k) 0 in
    let at : (k : ℕ) → k < 8 → get_or c.part.result k 0 ≡ f k = λ k h. rw c.part.ensures (get_d-tab 0 8 f k h) in
    let r = rw (at 0 (omega arith), at 1 (omega arith), at 2 (omega arith), at 3 (omega arith), at 4 (omega arith), at 5 (omega arith), at 6 (omega arith), at 7 (omega arith), add-zero)
    at c.from_be_bytes.ensures in
    let e5 : i + 4 + 1 ≡ i + 5 = omega arith in
    let e6 : i + 4 + 2 ≡ i + 6 = omega arith in
    let e7 : i + 4 + 3 ≡ i + 7 = omega arith in
    rw (e5, e6, e7) (omega (arith, r))
