-- No report where a close is not accepted, and which storage accepts one.
-- Assumes nothing.
use mathlib.Core.Path.{◌≡◌, refl, sym, ap, ◌∙◌}
use mathlib.Core.Bool.{Bool, true, false, cond, ◌&&◌}
use mathlib.Core.List.{List}
use Prim.Native.Nat.{ℕ, ◌+◌, ◌≤◌, ◌<◌}
use native.Mathlib.Omega.{arith}
use borrow.Author.Tests.{lt-leb, le-leb}
use lib.Dec.{leb}
use lib.ListN.{length}
use Rattle.std.specs.Prelude.{None}
use Rattle.words.proofs.Tests.{never, and_right, hit, skip, both}
use Rattle.lists.specs.Bytes.{written, Tried}
use Rattle.lists.proofs.Laws.{length-tab}
use Rattle.node.specs.Answers.{Answer, NoRoom, is_done}
use Rattle.site.specs.Answers.{answer_of}
use Rattle.site.specs.Events.{is_close}
use Rattle.site.specs.declared.Event.{Event}
use Rattle.machine.specs.Layout.{Store, too_short, site_in}
use Rattle.machine.specs.steps.After.{storage_answer}
use Rattle.machine.specs.Loading.{member_read}
use Rattle.machine.specs.reports.Reports.{member_report, report_of, closes_with, reported_in, node_report_in, reports_size}
use Rattle.machine.specs.reports.Reports.{report_bytes}
use Rattle.machine.specs.reports.Reports.{put_report}
use Rattle.machine.specs.declared.Report.{Report}

-- an event that is no close, and one that is
pub no-close : (e : Event) (a : Answer) → is_close e ≡ false → false ≡ closes_with e a
no-close e a h = sym (ap (λ (t : Bool). t && is_done a) h)

pub a-close : (e : Event) (a : Answer) → is_close e ≡ true → is_done a ≡ closes_with e a
a-close e a h = sym (ap (λ (t : Bool). t && is_done a) h)

-- nobody reports
pub none_told : (s : Store) (l : List ℕ) (e : Event) (j : ℕ) → reported_in s l e ≡ false → None ≡ node_report_in s l e j
unfolding node_report_in member_report
none_told s l e j h = sym (ap (λ (t : Bool). member_report t (member_read s j)) h)

-- node j reports
pub all_told : (s : Store) (l : List ℕ) (e : Event) (j : ℕ) → reported_in s l e ≡ true → member_report true (member_read s j)
    ≡ node_report_in s l e j
unfolding node_report_in
all_told s l e j h = sym (ap (λ (t : Bool). member_report t (member_read s j)) h)

-- storage that is too short accepts nothing
pub accepts-long : (s : Store) (l : List ℕ) (e : Event) → reported_in s l e ≡ true → too_short s ≡ false
unfolding storage_answer
accepts-long s l e h = go (too_short s) refl (and_right (is_close e) (is_done (storage_answer s l e)) h)
  where
    go : (t : Bool) → too_short s ≡ t → is_done (cond t NoRoom (answer_of (site_in s) l e)) ≡ true → too_short s ≡ false
    go true k d = never (sym d)
    go false k d = k

-- the output of an event: one with no room, one of an event that is no accepted close, and one that gets the report
module _ (s : Store) (l : List ℕ) (e : Event) (out : List ℕ) where
  pub no_place : length out < reports_size → out ≡ put_report s l e out
  unfolding put_report
  no_place h = sym (skip _ _ _ _ (ap (λ (t : Bool). t && reported_in s l e) (lt-leb _ _ h)) refl)

  and-false : (t : Bool) → (t && false) ≡ false
  and-false true = refl
  and-false false = refl

  pub no-close-put : reported_in s l e ≡ false → out ≡ put_report s l e out
  unfolding put_report
  no-close-put h = sym (skip _ _ _ _
      (ap (λ (t : Bool). leb reports_size (length out) && t) h ∙ and-false (leb reports_size (length out))) refl)

  pub put-there : {r : Report} {b x : List ℕ} {n : ℕ} → reports_size ≤ length out → reported_in s l e ≡ true → r
      ≡ report_of true (site_in s).members → b ≡ report_bytes r → Tried out 0 b n x
      → x ≡ put_report s l e out
  unfolding put_report report_bytes
  put-there {r} {b} h k q f t =
      let g : b ≡ report_bytes (report_of true (site_in s).members) = f ∙ ap report_bytes q in
      let m : length b ≡ reports_size = ap length f ∙ length-tab reports_size _ in
      let z : 0 + length b ≡ reports_size = omega (arith, m) in
      t.is
      ∙ hit _ _ _ (ap (λ (n : ℕ). leb n (length out)) z ∙ le-leb _ _ h)
      ∙ ap (written out 0) g
      ∙ sym (hit _ _ _ (both {b = true} {d = true} (le-leb _ _ h) k))
