use mathlib.Core.List.{List, ◌++◌}
use mathlib.Core.Path.{◌≡◌, refl, ap, ap₂, ◌∙◌}
use Prim.Native.Nat.{ℕ, ◌≤◌, ◌<◌, ◌+◌, ◌*◌}
use native.Mathlib.Omega.{arith}
use lib.ListN.{length, get_or, take, drop}
use lib.Seq.{take-length}
use borrow.Author.Rules.{rules}
use Rattle.lists.specs.Bytes.{bytes32, flat, written, Tried}
use Rattle.lists.proofs.Laws.{flat-more, length-flat-part, length-flat}
use Rattle.lists.proofs.Chain.{put}
use Rattle.area.specs.Area.{node_size}
use Rattle.area.proofs.put_words.Goals as goal

-- a turn: the four bytes of one number more
put-word-more : {s r b : List ℕ} {j : ℕ} (w l : List ℕ) (i : ℕ) → s ≡ flat (take i w) ++ drop (4 * i) l → b ≡ bytes32 (get_or w i 0)
    → Tried s (4 * i) b j r
    → 4 * i + 4 ≤ length s → i < length w → r ≡ flat (take (i + 1) w) ++ drop (4 * (i + 1)) l
put-word-more {s} {r} {b} {j} w l i e f t room h =
    let k : length b ≡ 4 = ap length f in
    (put (omega arith) t).is ∙ ap₂ (λ (x y : List ℕ). written x (4 * i) y) e f ∙ flat-more w l i h

pub loop-i-init : goal.loop-i-init
unfolding flat
loop-i-init c = refl

pub loop-i-preserved : goal.loop-i-preserved
loop-i-preserved c =
    let w = c.args.w in
    let l = c.args.area.now in
    let h : length w ≡ 14 = search rules in
    let m : length l ≡ node_size = search rules in
    let k : length c.loop-i.area ≡ node_size = ap length c.loop-i.invariant ∙ length-flat-part w l c.loop-i.i (omega arith) (omega arith) ∙ m in
    put-word-more w l c.loop-i.i c.loop-i.invariant c.word_bytes.ensures c.put_bytes.ensures (omega arith) (omega arith)

pub returns : goal.returns
returns c =
    let w = c.args.w in
    let l = c.args.area.now in
    let h : length w ≡ 14 = search rules in
    let e : c.loop-i.i ≡ length w = omega arith in
    let k : 4 * length w ≡ 0 + length (flat w) = omega (arith, length-flat w) in
    c.loop-i.invariant ∙ ap (λ (x : ℕ). flat (take x w) ++ drop (4 * x) l) e
    ∙ ap₂ (λ (x : List ℕ) (y : ℕ). flat x ++ drop y l) (take-length w) k
