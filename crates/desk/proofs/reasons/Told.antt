-- What node j of a site in storage reports of a line is what stands for it among the reports of all.
-- Assumes nothing.
use mathlib.Core.Path.{◌≡◌, refl, sym, ap, ◌∙◌}
use mathlib.Core.Bool.{Bool, true, false, not, ◌&&◌}
use mathlib.Core.List.{List}
use Prim.Native.Nat.{ℕ, zero, suc, ◌-◌, ◌≤◌, ◌<◌}
use native.Mathlib.Omega.{arith}
use borrow.Author.Tests.{ltb-true, ltb-false, lt-leb}
use lib.Dec.{ltb, leb}
use lib.ListN.{length, get_or, replicate, get_or-replicate, length-replicate}
use Rattle.words.proofs.Tests.{hit, skip}
use Rattle.node.specs.Answers.{is_done}
use Rattle.node.specs.Answers.{Answer}
use Rattle.site.specs.Members.{nobody, outside, down_member}
use Rattle.site.specs.Events.{is_close}
use Rattle.site.specs.declared.Event.{Event}
use Rattle.node.specs.declared.Config.{Config}
use Rattle.site.specs.Model.{Member}
use Rattle.machine.specs.Layout.{Store, words_size, bytes_size, config_in, site_in}
use Rattle.machine.specs.Loading.{member_read}
use Rattle.machine.proofs.Whole.{enough, as_member}
use Rattle.machine.proofs.steps.Whole.{as-site}
use Rattle.machine.specs.reports.Reports.{no_report, member_report, report_of, is_reported, reported_in, node_report_in}
use Rattle.std.specs.Prelude.{Option, Some, None}
use Rattle.node.specs.declared.Ground.{Ground}
use Rattle.desk.specs.reasons.Reasons.{reason, reason_of, line_report}
use Rattle.desk.proofs.reasons.Laws.{reason-none, reason-out}
use Rattle.desk.proofs.reasons.Bound.{silent, at-report, long-report}

-- a member that is down reports nothing
down-told : (b : Bool) (f : Config) (j : ℕ) → member_report b (down_member f j) ≡ None
unfolding member_report
down-told true f j = refl
down-told false f j = refl

module _ (s : Store) (w : words_size ≤ length s.words) (b : bytes_size ≤ length s.bytes) where
  -- so does a number of none of the nodes
  out-told : (t : Bool) (j : ℕ) → outside (config_in s) j ≡ true → member_report t (member_read s j) ≡ None
  unfolding member_read
  out-told t j o = ap (member_report t) (skip _ _ _ _ (enough s w b) (hit _ _ _ o)) ∙ down-told t (config_in s) j

  above-out : (j : ℕ) → 32 < j → outside (config_in s) j ≡ true
  above-out j h = go (leb 1 j) (leb j (config_in s).nodes) (leb j 32) (lt-leb j 32 h)
    where
      go : (x y z : Bool) → z ≡ false → not (x && (y && z)) ≡ true
      go true true z e = ap not e
      go true false z e = refl
      go false y z e = refl

  -- the line of node j
  member-line : (t : Bool) (j n : ℕ) → reason n j (member_report t (member_read s j)) ≡ reason_of j n (report_of t (site_in s).members).nodes
  unfolding reason_of
  member-line t zero n = ap (reason n 0) (out-told t 0 refl) ∙ reason-none n 0 refl
  member-line t (suc i) n = go (ltb i 32) refl
    where
      go : (x : Bool) → ltb i 32 ≡ x → reason n (suc i) (member_report t (member_read s (suc i)))
          ≡ reason_of (suc i) n (report_of t (site_in s).members).nodes
      go true e =
          let h : i < 32 = ltb-true i 32 e in
          let z : suc i - 1 ≡ i = omega arith in
          ap (λ (m : Member). reason n (suc i) (member_report t m)) (as_member s (suc i) w b (omega arith) (omega arith))
          ∙ ap (λ (k : ℕ). reason n (suc i) (member_report t (get_or (site_in s).members k nobody))) z
          ∙ ap (reason n (suc i)) (sym (at-report t (site_in s).members i h))
      go false e =
          let h : 32 ≤ i = ltb-false i 32 e in
          ap (reason n (suc i)) (out-told t (suc i) (above-out (suc i) (omega arith)))
          ∙ reason-none n (suc i) refl
          ∙ sym (reason-out (suc i) n (report_of t (site_in s).members).nodes (omega (arith, long-report t (site_in s).members)))

  -- so it is of an event, and of a line that is none
  pub event-report : (l : List ℕ) (j n : ℕ) (e : Event) → reason n j (node_report_in s l e j)
      ≡ reason_of j n (line_report (site_in s) l (Some e)).nodes
  unfolding node_report_in
  event-report l j n e =
      let q : reported_in s l e ≡ is_reported (site_in s) l e = ap (λ (a : Answer). is_close e && is_done a) (as-site s l e w b).0 in
      member-line (reported_in s l e) j n ∙ ap (λ (t : Bool). reason_of j n (report_of t (site_in s).members).nodes) q

pub none_told : (j n : ℕ) → reason n j None ≡ reason_of j n no_report.nodes
none_told j n =
    reason-none n j refl
    ∙ sym (silent j n (replicate 32 None)
    (λ i m. get_or-replicate {A = Option Ground} 32 i None None m)
    (length-replicate {A = Option Ground} 32 None))
