-- A node's line, part by part; the nodes' lines, one by one.
-- Assumes nothing.
use mathlib.Core.Path.{◌≡◌, refl, sym, ap, ◌∙◌}
use mathlib.Core.List.{List, [], ◌∷◌, ◌++◌, append_assoc}
use Prim.Native.Nat.{ℕ, zero, suc, ◌+◌, ◌-◌, ◌≤◌, ◌<◌}
use native.Mathlib.Omega.{arith}
use lib.ListN.{length, length-append, get_or, get_or-eq_default}
use Rattle.lists.specs.Bytes.{Put, Tried}
use Rattle.lists.proofs.Chain.{start, step, finish-by, leftover}
use Rattle.text.specs.Write.{decimal}
use Rattle.text.proofs.Decimal.{digits-at-most}
use Rattle.node.specs.declared.Ground.{Ground}
use Rattle.node.specs.declared.Rule.{Rule}
use Rattle.node.specs.declared.Rule.TheVariants.{RequestMissing, NoMajority, OwnLower, Repeating, AtTop, NotDue, NewSent}
use Rattle.std.specs.Prelude.{Option, Some, None}
use Rattle.desk.specs.reasons.Reasons.{rule_text, reason_line, reason, reason_of}
use Rattle.desk.specs.reasons.Inner.{rule_field}

-- a rule's word has at most ten letters
rule-short : (r : Rule) → length (rule_text r) ≤ 10
rule-short RequestMissing = omega arith
rule-short NoMajority = omega arith
rule-short OwnLower = omega arith
rule-short Repeating = omega arith
rule-short AtTop = omega arith
rule-short NotDue = omega arith
rule-short NewSent = omega arith

-- a line's length by its parts
pub line-parts : (n j : ℕ) (g : Ground)
    → length (reason_line n j g) ≤ length (decimal n) + length (decimal j) + length (decimal g.missing) + 14
line-parts n j g =
    let a = decimal g.missing ++ (10 ∷ []) in
    let b = rule_text g.rule ++ (32 ∷ a) in
    let c = decimal j ++ (32 ∷ b) in
    omega (
      arith,
      length-append (decimal g.missing) (10 ∷ []),
      length-append (rule_text g.rule) (32 ∷ a),
      length-append (decimal j) (32 ∷ b),
      length-append (decimal n) (32 ∷ c),
      rule-short g.rule,
    )

pub line-long : (n j : ℕ) (g : Ground) → length (reason_line n j g) ≤ 44
line-long n j g = omega (arith, line-parts n j g, digits-at-most 10 n, digits-at-most 10 j, digits-at-most 10 g.missing)

pub line-put : (n j : ℕ) (g : Ground) {l m1 m2 m3 m4 m5 m6 m7 : List ℕ} {i1 i2 i3 i4 i5 i6 i7 : ℕ} → 44 ≤ length l
    → Tried l 0 (decimal n) i1 m1 → Tried m1 i1 (32 ∷ []) i2 m2 → Tried m2 i2 (decimal j) i3 m3 → Tried m3 i3 (32 ∷ []) i4 m4
    → Tried m4 i4 (rule_field g.rule) i5 m5 → Tried m5 i5 (decimal g.missing) i6 m6 → Tried m6 i6 (10 ∷ []) i7 m7
    → Put l 0 (reason_line n j g) i7 m7
line-put n j g {l} h t1 t2 t3 t4 t5 t6 t7 =
    let a = decimal g.missing ++ (10 ∷ []) in
    let b = rule_text g.rule ++ (32 ∷ a) in
    let c = decimal j ++ (32 ∷ b) in
    let q1 = step (decimal n) (32 ∷ c) (start l 0 (reason_line n j g) (omega (arith, line-long n j g))) t1 in
    let q2 = step (32 ∷ []) c q1 t2 in
    let q3 = step (decimal j) (32 ∷ b) q2 t3 in
    let q4 = step (32 ∷ []) b q3 t4 in
    let q5 = step (rule_field g.rule) a (leftover (sym (append_assoc (rule_text g.rule) (32 ∷ []) a)) q4) t5 in
    finish-by (10 ∷ []) (step (decimal g.missing) (10 ∷ []) q5 t6) t7

-- a node that reports, and one that doesn't
pub reason-some : (n j : ℕ) {t : Option Ground} (g : Ground) → t ≡ Some g → reason_line n j g ≡ reason n j t
unfolding reason
reason-some n j g e = sym (ap (reason n j) e)

pub reason-none : (n j : ℕ) {t : Option Ground} → t ≡ None → reason n j t ≡ []
unfolding reason
reason-none n j e = ap (reason n j) e

-- the line of a node: none of 0, and none from 33 up where there are 32 reports
pub reason-zero : (j n : ℕ) (ts : List (Option Ground)) → j ≡ 0 → reason_of j n ts ≡ []
unfolding reason_of
reason-zero zero n ts h = refl
reason-zero (suc i) n ts h = absurd (omega arith)

pub reason-at : (j n : ℕ) (ts : List (Option Ground)) → 0 < j → reason n j (get_or ts (j - 1) None) ≡ reason_of j n ts
unfolding reason_of
reason-at zero n ts h = absurd (omega arith)
reason-at (suc i) n ts h =
    let z : suc i - 1 ≡ i = omega arith in
    ap (λ (k : ℕ). reason n (suc i) (get_or ts k None)) z

pub reason-out : (j n : ℕ) (ts : List (Option Ground)) → length ts < j → reason_of j n ts ≡ []
reason-out j n ts h =
    sym (reason-at j n ts (omega arith)) ∙ ap (reason n j) (get_or-eq_default ts None (omega arith))
    ∙ reason-none n j refl
