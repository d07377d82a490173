-- What `why` prints of a script does not depend on the windows.
-- Assumes nothing.
use mathlib.Core.Path.{◌≡◌, refl, sym, ap, ap₂, ◌∙◌}
use mathlib.Core.Bool.{Bool, true, false, not, cond}
use mathlib.Core.List.{List, [], ◌∷◌, ◌++◌}
use Prim.Native.Nat.{ℕ, ◌+◌}
use Rattle.words.proofs.Tests.{hit, or-back}
use Rattle.text.specs.Read.{split}
use Rattle.node.specs.Answers.{Done, NoRoom}
use Rattle.site.specs.Events.{is_end}
use Rattle.site.specs.Load.{load_answer}
use Rattle.site.specs.Run.{RunState, after, run}
use Rattle.node.specs.declared.Config.{Config}
use Rattle.site.specs.declared.Table.{Table}
use Rattle.site.specs.declared.Event.{Event}
use Rattle.machine.specs.declared.Report.{Report}
use Rattle.windows.specs.Windows.{list_ok}
use Rattle.windows.specs.declared.Window.{Window}
use Rattle.machine.specs.timed.Timed.{given_table}
use Rattle.machine.specs.timed.Calls.{TimedState}
use Rattle.histories.specs.Reached.{begin}
use Rattle.agreement.proofs.daily.Theorem.{plain_of}
use Rattle.agreement.proofs.daily.Loads.{given-loads}
use Rattle.script.specs.events.Events.{event_of}
use Rattle.std.specs.Prelude.{Option}
use Rattle.std.specs.Prelude.{None, Some as good}
use Rattle.script.specs.load.Opening.{Reading, got, Opening, opening}
use Rattle.script.proofs.load.Outcome.{opening-loads}
use Rattle.desk.specs.reasons.Reasons.{reason_of, line_report}
use Rattle.desk.specs.listings.Output as desk
use Rattle.desk.specs.listings.Why.{reason_lines, refusal_part, head_part, why_body, why_of}
use Rattle.wants.specs.Wants.{without_wants, report_at}
use Rattle.wants.specs.Script.{SameReasons}
use Rattle.wants.proofs.Scenes.{Scene, scene_after, report_in}
use Rattle.wants.proofs.Sites.{report-of, report-is}
use Rattle.wants.proofs.Lists.{by-want, At, scene_at, answer_at, follow}
use Rattle.wants.proofs.Windows.{good-here, call, Beside, loads}

-- the report of any event, a want's too, is that of the scene
report-at : (f : Config) (t : Table) (d : load_answer f t ≡ Done) (area : List ℕ) (w : RunState) (a : At f t area w) (e : Event)
    → report_at w.site w.area e ≡ report_in (scene_at a) e
report-at f t d area w a e =
    by-want (λ (x : Event). report_at w.site w.area x ≡ report_in (scene_at a) x) (λ j x. report-of false w.site.members)
    (λ x n. report-is w.site w.area a.air x (answer_at f t d area w a x n)) e

-- a plain run after a line
abbrev plain_after : RunState → (Option Event) → RunState
plain_after v None = v
plain_after v (good x) = after v x

module _ (f : Config) (t u : Table) (d : load_answer f t ≡ Done) (e : load_answer f u ≡ Done) (area : List ℕ) (D : ℕ) (ws : List Window)
    (ok : list_ok f.nodes D ws ≡ true) (v : RunState) (w : TimedState) (b : Beside f t u e area D v w) where
  same_line : (p : (Option Event)) → line_report v.site v.area p ≡ line_report w.timed.site w.area p
  same_line None = refl
  same_line (good x) =
      report-at f t d area v b.at x ∙ ap (λ (c : Scene). report_in c x) b.scene
      ∙ sym (report-at f u e area (plain_of w) b.stands.at x)

  next-line : (p : (Option Event)) → Beside f t u e area D (plain_after v p) (desk.line_after ws w p)
  unfolding run
  next-line None = b
  next-line (good x) =
      let m = (follow f t d area v b.at (x ∷ [])).moved in
      let k = desk.call_of ws x in
      let c = call f u e area D w b.stands k (good-here f u e area D w b.stands k (or-back (not (is_end x)) _ ok)) in
      record {
        at = m.there;
        stands = c.stands;
        scene = m.scene ∙ ap (λ (y : Scene). scene_after y (without_wants (x ∷ []))) b.scene ∙ sym c.scene;
      }

-- two runs with windows beside one plain run
module _ (f : Config) (t : Table) (d : load_answer f t ≡ Done) (area : List ℕ) (D E : ℕ) (ws vs : List Window)
    (ok : list_ok f.nodes D ws ≡ true) (fine : list_ok f.nodes E vs ≡ true) where
  same-told : (j : ℕ) (v : RunState) (w x : TimedState) → Beside f t (given_table ws t) (given-loads f t D ws ok d) area D v w
      → Beside f t (given_table vs t) (given-loads f t E vs fine d) area E v x
      → (n : ℕ) (ls : List (List ℕ)) → reason_lines j ws w n ls ≡ reason_lines j vs x n ls
  unfolding reason_lines
  same-told j v w x b c n [] = refl
  same-told j v w x b c n (l ∷ []) = refl
  same-told j v w x b c n (l ∷ m ∷ ls) =
      let p = event_of l in
      let g = given-loads f t D ws ok d in
      let h = given-loads f t E vs fine d in
      ap₂ (λ (y z : List ℕ). y ++ z)
      (ap (λ (r : Report). reason_of j n r.nodes)
      (sym (same_line f t (given_table ws t) d g area D ws ok v w b p) ∙ same_line f t (given_table vs t) d h area E vs fine v x c p))
      (same-told j (plain_after v p) (desk.line_after ws w p) (desk.line_after vs x p)
      (next-line f t (given_table ws t) d g area D ws ok v w b p) (next-line f t (given_table vs t) d h area E vs fine v x c p) (n + 1)
      (m ∷ ls))

reasons : (D E : ℕ) (ws vs : List Window) (script area : List ℕ) (o : Opening) (ls : List (List ℕ))
    → opening (split 10 script) ≡ got o ls → desk.day_fits D ws o ≡ true → desk.day_fits E vs o ≡ true
    → (j : ℕ) → why_of j D ws script area ≡ why_of j E vs script area
unfolding why_of
reasons D E ws vs script area o ls opens ok fine j =
    let f = o.config in
    let t = o.table in
    let d = opening-loads (split 10 script) o ls opens in
    let k = desk.split_shown script area in
    let q : why_body j D ws k area (got o ls) ≡ why_body j E vs k area (got o ls) =
    hit _ _ _ ok
    ∙ ap (λ (l : List ℕ). head_part j ++ l)
    (same-told f t d area D E ws vs ok fine j (begin f t area) (desk.loaded_state D ws o area) (desk.loaded_state E vs o area)
    (loads f t D ws d ok area) (loads f t E vs d fine area) (5 + f.nodes) ls)
    ∙ sym (hit _ _ _ fine) in
    ap (cond (desk.unfit script area) (refusal_part j 0 0 NoRoom))
    (ap (why_body j D ws k area) opens ∙ q ∙ sym (ap (why_body j E vs k area) opens))

pub same-reasons : SameReasons
same-reasons = record { reasons = reasons }
