-- How long the reasons of a node can be: a close is a line of ten bytes, and the node prints at most 39.
-- Assumes nothing.
use mathlib.Core.Path.{◌≡◌, refl, ap, ◌∙◌}
use mathlib.Core.Bool.{Bool, true, false, cond}
use mathlib.Core.List.{List, []}
use Prim.Native.Nat.{ℕ, zero, suc, ◌*◌, ◌≤◌, ◌<◌}
use native.Mathlib.Omega.{arith}
use borrow.Author.Tests.{ltb-true, ltb-false}
use lib.Dec.{ltb}
use lib.ListN.{length, get_or, replicate, get_or-replicate, length-replicate}
use Rattle.words.proofs.Tests.{and_left}
use Rattle.lists.proofs.Laws.{get_d-tab, length-tab}
use Rattle.text.proofs.Decimal.{tens, digits-short, digits-at-most}
use Rattle.node.specs.Answers.{is_done}
use Rattle.site.specs.Members.{nobody}
use Rattle.site.specs.Events.{is_close}
use Rattle.site.specs.Answers.{answer_of}
use Rattle.site.specs.Model.{Site}
use Rattle.site.specs.declared.Event.{Event}
use Rattle.site.specs.Model.{Member}
use Rattle.node.specs.declared.Ground.{Ground}
use Rattle.machine.specs.reports.Reports.{member_report, report_of, is_reported}
use Rattle.script.specs.events.Events.{event_of}
use Rattle.std.specs.Prelude.{Option, None, Some}
use Rattle.desk.specs.reasons.Reasons.{reason_line, reason, reason_of, line_report}
use Rattle.desk.proofs.reasons.Laws.{line-parts, reason-none, reason-zero, reason-out}
use Rattle.desk.proofs.reasons.Closes.{closes, close-long}

-- a line
reason-short : (n j : ℕ) (t : Option Ground) → n < 100000 → length (reason n j t) ≤ 39
unfolding reason tens
reason-short n j (Some g) h = omega (arith, line-parts n j g, digits-short 4 10 n h, digits-at-most 10 j, digits-at-most 10 g.missing)
reason-short n j None h = omega arith

reason_of-short : (j n : ℕ) (ts : List (Option Ground)) → n < 100000 → length (reason_of j n ts) ≤ 39
unfolding reason_of
reason_of-short zero n ts h = omega arith
reason_of-short (suc i) n ts h = reason-short n (suc i) (get_or ts i None) h

-- no line where no node reports
pub silent : (j n : ℕ) (ts : List (Option Ground)) → ((i : ℕ) → i < 32 → get_or ts i None ≡ None) → length ts ≡ 32
    → reason_of j n ts ≡ []
unfolding reason_of
silent zero n ts m l = reason-zero zero n ts refl
silent (suc i) n ts m l = go (ltb i 32) refl
  where
    go : (b : Bool) → ltb i 32 ≡ b → reason_of (suc i) n ts ≡ []
    go true e = reason-none n (suc i) (m i (ltb-true i 32 e))
    go false e = reason-out (suc i) n ts (let h = ltb-false i 32 e in omega (arith, l, h))

-- the report of all members, node by node
pub at-report : (b : Bool) (ms : List Member) (j : ℕ) → j < 32 → get_or (report_of b ms).nodes j None
    ≡ member_report b (get_or ms j nobody)
unfolding report_of
at-report b ms j l = get_d-tab None 32 (λ i. member_report b (get_or ms i nobody)) j l

pub long-report : (b : Bool) (ms : List Member) → length (report_of b ms).nodes ≡ 32
unfolding report_of
long-report b ms = length-tab 32 (λ i. member_report b (get_or ms i nobody))

untold-silent : (m : Member) → member_report false m ≡ None
unfolding member_report
untold-silent m = refl

-- a line of a script
pub line-short : (j : ℕ) (s : Site) (area : List ℕ) (n : ℕ) (l : List ℕ) → n < 100000
    → length (reason_of j n (line_report s area (event_of l)).nodes) ≤ 4 * suc (length l)
line-short j s area n l k = go (event_of l) refl
  where
    at-close : (e : Event) → event_of l ≡ Some e → (b : Bool) → is_reported s area e ≡ b
        → length (reason_of j n (report_of b s.members).nodes) ≤ 4 * suc (length l)
    at-close e q true r =
        let c : closes (event_of l) ≡ true = ap closes q ∙ and_left (is_close e) (is_done (answer_of s area e)) r in
        omega (arith, close-long l c, reason_of-short j n (report_of true s.members).nodes k)
    at-close e q false r =
        let z = silent j n (report_of false s.members).nodes
        (λ i m. at-report false s.members i m ∙ untold-silent (get_or s.members i nobody))
        (long-report false s.members) in
        omega (arith, ap length z)

    go : (p : Option Event) → event_of l ≡ p → length (reason_of j n (line_report s area p).nodes) ≤ 4 * suc (length l)
    go None q =
        let z = silent j n (replicate 32 None)
        (λ i m. get_or-replicate {A = Option Ground} 32 i None None m)
        (length-replicate {A = Option Ground} 32 None) in
        omega (arith, ap length z)
    go (Some e) q = at-close e q (is_reported s area e) refl
