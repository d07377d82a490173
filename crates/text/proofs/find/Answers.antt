use Rattle.std.proofs.Common.{◌≡◌, ℕ, length, ◌≤◌, ◌+◌, sym, ap, ◌∙◌, Option, arith}
use Rattle.std.specs.Option.{unwrap_or}
use Rattle.text.specs.Read.{before}
use Rattle.text.proofs.Pieces.{found-before, before-le}
use Rattle.text.proofs.Blocks.{before-parts}
use Rattle.text.proofs.find.Goals as goal

pub returns-then-n-front : goal.returns-then-n-front
returns-then-n-front c =
    let s = c.args.s.now in
    let m = c.min.result in
    let f = c.split_at.result.0.now in
    let l : m ≤ length s = omega (arith, c.min.ensures) in
    let p : c.unwrap_or-n.result ≡ before c.args.c f =
    c.unwrap_or-n.ensures ∙ ap (λ (o : Option ℕ). unwrap_or o (length f)) c.place.ensures ∙ found-before c.args.c f in
    let q = p ∙ ap (before c.args.c) c.split_at.ensures.front in
    let e = (before-parts c.args.c m s l).0 (omega (arith, q, c.split_at.ensures.front_len, c.if-n-front.true)) in
    record { value = q ∙ sym e; within = omega (arith, c.split_at.ensures.front_len, c.if-n-front.true, l) }

pub returns : goal.returns
returns c =
    let s = c.args.s.now in
    let m = c.min.result in
    let f = c.split_at.result.0.now in
    let l : m ≤ length s = omega (arith, c.min.ensures) in
    let p : c.unwrap_or-n.result ≡ before c.args.c f =
    c.unwrap_or-n.ensures ∙ ap (λ (o : Option ℕ). unwrap_or o (length f)) c.place.ensures ∙ found-before c.args.c f in
    let q = p ∙ ap (before c.args.c) c.split_at.ensures.front in
    let t = before-le c.args.c f in
    let e = (before-parts c.args.c m s l).1 (omega (arith, q, c.split_at.ensures.front_len, c.if-n-front.false)) in
    let b = c.far.ensures.value ∙ ap (before c.args.c) c.split_at.ensures.back in
    let n : c.unwrap_or-n.result ≡ m = omega (arith, p, t, c.split_at.ensures.front_len, c.if-n-front.false) in
    let v : c.unwrap_or-n.result + c.far.result ≡ before c.args.c s = omega (arith, n, e, b) in
    record { value = v; within = omega (arith, v, before-le c.args.c s) }
