use mathlib.Core.Path.{sym, ◌∙◌}
use native.Mathlib.Omega.{arith}
use Rattle.words.proofs.Tests.{both}
use Rattle.masks.proofs.Parts.{Bytes}
use Rattle.masks.proofs.Moves.{rest-is, low-fails, high-fails}
use Rattle.masks.proofs.inplace.rest_blank.Goals as goal

pub returns-then-not-is_run_blank : goal.returns-then-not-is_run_blank
returns-then-not-is_run_blank c =
    let s = c.args.s.now in
    let b : Bytes s = λ i g. omega (arith, c.type_inv.s i) in
    let e = sym c.is_run_blank.ensures ∙ c.if-not-is_run_blank.true in
    low-fails s b c.args.from c.args.top c.requires.0 c.requires.1 e

pub returns-then-not-is_run_blank-2 : goal.returns-then-not-is_run_blank-2
returns-then-not-is_run_blank-2 c =
    let s = c.args.s.now in
    let b : Bytes s = λ i g. omega (arith, c.type_inv.s i) in
    let f = sym c.is_run_blank-2.ensures ∙ c.if-not-is_run_blank-2.true in
    high-fails s b c.args.from c.args.top c.requires.0 c.requires.1 f

pub returns : goal.returns
returns c =
    let s = c.args.s.now in
    let b : Bytes s = λ i g. omega (arith, c.type_inv.s i) in
    let e = sym c.is_run_blank.ensures ∙ c.if-not-is_run_blank.false in
    let f = sym c.is_run_blank-2.ensures ∙ c.if-not-is_run_blank-2.false in
    sym (both e (both f (sym c.is_run_blank-3.ensures)))
    ∙ rest-is s b c.args.from c.args.top c.requires.0 c.requires.1
