-- The ends of lines in a listing, up to the second head, and the lines that are refused.
-- Assumes nothing.
use mathlib.Core.Path.{◌≡◌, refl, sym, ap, ◌∙◌}
use mathlib.Core.Bool.{Bool, true, false, cond}
use mathlib.Core.List.{List, [], ◌∷◌, ◌++◌, append_assoc}
use Prim.Native.Nat.{ℕ, zero, suc, ◌+◌, ◌-◌, ◌/◌, ◌%◌, ◌<◌}
use native.Mathlib.Omega.{arith}
use borrow.Author.Tests.{ne_eqb, ltb-true}
use lib.Dec.{eqb, ltb}
use lib.ListN.{take}
use Rattle.lists.specs.All.{all_below}
use Rattle.text.specs.Ascii.{ascii}
use Rattle.text.specs.Read.{before, split}
use Rattle.text.specs.Write.{digits_of, decimal}
use Rattle.node.specs.Answers.{number, is_done}
use Rattle.node.specs.Answers.{Answer}
use Rattle.node.specs.Answers.{NoRoom, BadWindows}
use Rattle.windows.specs.Windows.{list_ok}
use Rattle.machine.specs.timed.Calls.{TimedState}
use Rattle.script.specs.events.Events.{event_of}
use Rattle.script.specs.load.Opening.{Reading, Opening, opening, got}
use Rattle.desk.specs.listing.Rows.{first_head, report_line, refusal_line, rows_text}
use Rattle.desk.specs.listings.Output.{second_head, line_answer, line_after, last_report, refused_lines, loaded_state, finished, ran_text, unfit}
use Rattle.desk.specs.listings.Output.{split_shown, body, output_of}
use Rattle.why.specs.Refused.{one, byte_count, refused_in}
use Rattle.why.specs.Lines.{refusal, last_refusal, refusals, LinesCounted}

plus_none : (n : ℕ) → n ≡ 0 + n
plus_none n = omega arith

less_one : (n : ℕ) → (1 + n) - 1 ≡ n
less_one n = omega arith

-- the ends of lines before the first byte 110
abbrev ends : List ℕ → ℕ
ends s = byte_count 10 (take (before 110 s) s)

ends-cons : (b : ℕ) (s : List ℕ) → (b ≡ 110 → ⊥) → ends (b ∷ s) ≡ one 10 b + ends s
unfolding before byte_count
ends-cons b s h = rw (ne_eqb b 110 h)

-- a byte that ends no line, and is not 110
ends-skip : (b : ℕ) (s : List ℕ) → (b ≡ 110 → ⊥) → (b ≡ 10 → ⊥) → ends (b ∷ s) ≡ ends s
ends-skip b s h k = ends-cons b s h ∙ ap (λ (t : Bool). cond t 1 0 + ends s) (ne_eqb b 10 k) ∙ sym (plus_none (ends s))

ends-digit : (x : ℕ) (s : List ℕ) → x < 10 → ends ((48 + x) ∷ s) ≡ ends s
ends-digit x s h = ends-skip (48 + x) s (λ e. omega (arith, e)) (λ e. omega (arith, e))

ends-digits : (k x : ℕ) (s : List ℕ) → ends (digits_of k x ++ s) ≡ ends s
unfolding digits_of
ends-digits zero x s = refl
ends-digits (suc k) x s = go (ltb x 10) refl (ends-digits k (x / 10) ((48 + x % 10) ∷ s))
  where
    go : (t : Bool) → ltb x 10 ≡ t → ends (digits_of k (x / 10) ++ ((48 + x % 10) ∷ s)) ≡ ends ((48 + x % 10) ∷ s)
        → ends (cond t ((48 + x) ∷ []) (digits_of k (x / 10) ++ ((48 + x % 10) ∷ [])) ++ s) ≡ ends s
    go true e h = ends-digit x s (ltb-true x 10 e)
    go false e h =
        ap ends (append_assoc (digits_of k (x / 10)) ((48 + x % 10) ∷ []) s)
        ∙ h
        ∙ ends-digit (x % 10) s (omega arith)

ends-line : (n x : ℕ) (s : List ℕ) → ends (report_line n x ++ s) ≡ 1 + ends s
ends-line n x s =
    ap ends (append_assoc (decimal n) (32 ∷ (decimal x ++ (10 ∷ []))) s)
    ∙ ends-digits 10 n (32 ∷ ((decimal x ++ (10 ∷ [])) ++ s))
    ∙ ends-skip 32 ((decimal x ++ (10 ∷ [])) ++ s) (λ e. omega (arith, e)) (λ e. omega (arith, e))
    ∙ ap ends (append_assoc (decimal x) (10 ∷ []) s)
    ∙ ends-digits 10 x (10 ∷ s)
    ∙ ends-cons 10 s (λ e. omega (arith, e))

ends-report : (n : ℕ) (a : Answer) (s : List ℕ) → ends (refusal_line n a ++ s) ≡ refusal a + ends s
unfolding refusal_line
ends-report n a s = go (is_done a)
  where
    go : (t : Bool) → ends (cond t [] (report_line n (number a)) ++ s) ≡ cond t 0 1 + ends s
    go true = plus_none (ends s)
    go false = ends-line n (number a) s

ends_last : (n : ℕ) (l s : List ℕ) → ends (last_report n l ++ s) ≡ last_refusal l + ends s
ends_last n [] s = plus_none (ends s)
ends_last n (b ∷ l) s = ends-report n _ s

ends-reports : (w : TimedState) (n : ℕ) (ls : List (List ℕ)) (s : List ℕ) → ends (refused_lines [] w n ls ++ s) ≡ refusals w ls + ends s
unfolding refused_lines refusals
ends-reports w n [] s = plus_none (ends s)
ends-reports w n (l ∷ []) s = ends_last n l s
ends-reports w n (l ∷ m ∷ ls) s =
    let a : Answer = line_answer [] w (event_of l) in
    let v : TimedState = line_after [] w (event_of l) in
    let h : ends (refused_lines [] v (n + 1) (m ∷ ls) ++ s) ≡ refusals v (m ∷ ls) + ends s = ends-reports v (n + 1) (m ∷ ls) s in
    ap ends (append_assoc (refusal_line n a) (refused_lines [] v (n + 1) (m ∷ ls)) s)
    ∙ ends-report n a (refused_lines [] v (n + 1) (m ∷ ls) ++ s)
    ∙ omega (arith, h)

-- under the second head nothing is counted
ends-second : (s : List ℕ) → ends (second_head ++ s) ≡ 0
unfolding before byte_count
ends-second s = refl

-- the first head's own end is not counted
head_plain : (s : List ℕ) → refused_in (ascii "line refusal\n" ++ s) ≡ ends s
unfolding refused_in before byte_count
head_plain s = less_one (ends s)

head-split : (s : List ℕ) → refused_in (ascii "line refusal split\n" ++ s) ≡ ends s
unfolding refused_in before byte_count
head-split s = less_one (ends s)

under-head : (k : ℕ) (s : List ℕ) → refused_in (first_head k ++ s) ≡ ends s
under-head k s = go (eqb k 1)
  where
    go : (t : Bool) → refused_in (cond t (ascii "line refusal split\n") (ascii "line refusal\n") ++ s) ≡ ends s
    go true = head-split s
    go false = head_plain s

-- a day of 1 without windows keeps the rules
day-fits : (N : ℕ) → list_ok N 1 [] ≡ true
unfolding list_ok all_below
day-fits N = refl

-- what is counted under the first head
ends-body : (o : Opening) (area : List ℕ) (ls : List (List ℕ)) → ends (body 1 [] area (got o ls)) ≡ refusals (loaded_state 1 [] o area) ls
ends-body o area ls =
    let w : TimedState = loaded_state 1 [] o area in
    let rest : List ℕ = rows_text o.config.nodes 0 (finished 1 [] o area ls).timed.site.members o.config.slots in
    let h : ends (refused_lines [] w (5 + o.config.nodes) ls ++ (second_head ++ rest)) ≡ refusals w ls + ends (second_head ++ rest) =
    ends-reports w (5 + o.config.nodes) ls (second_head ++ rest) in
    let z : ends (second_head ++ rest) ≡ 0 = ends-second rest in
    ap (λ (t : Bool). ends (cond t (ran_text 1 [] o area ls) (refusal_line 0 BadWindows))) (day-fits o.config.nodes) ∙ omega (arith, h, z)

-- a script that is read: what stands under its first head
read_out : (script area : List ℕ) (r : Reading Opening) → unfit script area ≡ false → opening (split 10 script) ≡ r
    → refused_in (output_of 1 [] script area) ≡ ends (body 1 [] area r)
unfolding output_of
read_out script area r u e =
    under-head (split_shown script area) (cond (unfit script area) (refusal_line 0 NoRoom) (body 1 [] area (opening (split 10 script))))
    ∙ ap (λ (t : Bool). ends (cond t (refusal_line 0 NoRoom) (body 1 [] area (opening (split 10 script))))) u
    ∙ ap (λ (q : Reading Opening). ends (body 1 [] area q)) e

pub lines-counted : LinesCounted
lines-counted = record { run = λ script area o ls u e. read_out script area (got o ls) u e ∙ ends-body o area ls }
