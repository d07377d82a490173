use Rattle.std.proofs.Common.{◌≡◌, ℕ, length, ◌-◌, drop, sym, ap, ap₂, ◌∙◌, List, arith}
use lib.ListN.{length-drop}
use lib.Dec.{eqb}
use Rattle.std.specs.List.{position}
use Rattle.std.specs.Option.{unwrap_or}
use Rattle.text.specs.Read.{before}
use Rattle.text.proofs.Pieces.{found-before, before-le, behind-is}
use Rattle.text.proofs.far.Goals as goal

pub returns : goal.returns
returns c =
    let s = c.args.s.now in
    let n = c.passed-n.result in
    let d : List ℕ = drop n s in
    let l : length d ≡ length s - n = length-drop n s in
    let e : c.unwrap_or.result ≡ before c.args.c d =
    c.unwrap_or.ensures ∙ ap₂ unwrap_or (c.place.ensures ∙ ap (position (λ b. eqb b c.args.c)) (behind-is n s)) (sym l)
    ∙ found-before c.args.c d in
    record {
      value = omega (arith, e, c.passed-n.ensures.value);
      within = omega (arith, e, l, c.passed-n.ensures.within, before-le c.args.c d);
    }
