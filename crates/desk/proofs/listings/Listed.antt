-- From the output of a script to its list of events (specification, 10 Lists of events): what is printed is that of one list, run from a
-- site whose loading was accepted.
-- Assumes nothing.
use mathlib.Core.Path.{◌≡◌, refl, sym, ap, ap₂, ◌∙◌}
use mathlib.Core.Bool.{true, false}
use mathlib.Core.List.{List, [], ◌∷◌, ◌++◌, append_assoc}
use Prim.Native.Nat.{ℕ, ◌+◌}
use native.Mathlib.Omega.{arith}
use lib.ListN.{length}
use Rattle.text.specs.Read.{split}
use Rattle.text.proofs.Pieces.{HasPiece}
use Rattle.node.specs.Answers.{Done}
use Rattle.node.specs.Answers.{is_done}
use Rattle.words.proofs.Tests.{hit}
use Rattle.machine.specs.timed.Timed.{timed_load_answer}
use Rattle.machine.proofs.timed.Laws.{load-accepts}
use Rattle.windows.specs.declared.Window.{Window}
use Rattle.machine.specs.timed.Calls.{TimedState, run_calls}
use Rattle.script.specs.events.Events.{event_of}
use Rattle.node.specs.declared.Config.{Config}
use Rattle.script.specs.load.Opening.{Reading, got, Opening, opening}
use Rattle.script.proofs.load.Outcome.{opening-fine, opening-loads}
use Rattle.desk.specs.listing.Rows.{first_head, refusal_line, rows_text}
use Rattle.desk.specs.listings.Output.{second_head, events_in, run_by, line_answer, line_after, refused_lines, loaded_state, day_fits, body}
use Rattle.desk.specs.listings.Output.{body_area, unfit, output_of, final_area}
use Rattle.desk.proofs.listings.Laws.{run-line, reports-cut, events-cut}

-- the state after the lines, one by one
unfoldable pub lines_after : List Window → TimedState → List (List ℕ) → TimedState
lines_after ws w [] = w
lines_after ws w (l ∷ []) = w
lines_after ws w (l ∷ m ∷ ls) = lines_after ws (line_after ws w (event_of l)) (m ∷ ls)

-- it is that of the run of the lines' events
pub lines-run : (ws : List Window) (w : TimedState) (ls : List (List ℕ)) → lines_after ws w ls ≡ run_by ws w (events_in ls)
unfolding lines_after events_in run_calls
lines-run ws w [] = refl
lines-run ws w (l ∷ []) = refl
lines-run ws w (l ∷ m ∷ ls) = lines-run ws (line_after ws w (event_of l)) (m ∷ ls) ∙ sym (run-line ws w (event_of l) (events_in (m ∷ ls)))

some-append : (a : List (List ℕ)) (m : List ℕ) (ls : List (List ℕ)) → HasPiece (a ++ (m ∷ ls))
some-append [] m ls = tt
some-append (l ∷ a) m ls = tt

-- a line m behind the ended lines a is answered in the state that the run of the events of a has reached; so are the lines behind it
pub answered-there : (ws : List Window) (w : TimedState) (n : ℕ) (a : List (List ℕ)) (m : List ℕ) (ls : List (List ℕ))
    → refused_lines ws w n (a ++ (m ∷ ls)) ≡ refused_lines ws w n (a ++ ([] ∷ []))
    ++ refused_lines ws (run_by ws w (events_in (a ++ (m ∷ [])))) (n + length a) (m ∷ ls)
unfolding refused_lines events_in run_calls
answered-there ws w n [] m ls =
    let z : n ≡ n + 0 = omega arith in
    ap (λ (k : ℕ). refused_lines ws w k (m ∷ ls)) z
answered-there ws w n (l ∷ a) m ls =
    let v = line_after ws w (event_of l) in
    let x = refusal_line n (line_answer ws w (event_of l)) in
    let z : n + 1 + length a ≡ n + length (l ∷ a) = omega arith in
    let r : run_by ws v (events_in (a ++ (m ∷ []))) ≡ run_by ws w (events_in (l ∷ (a ++ (m ∷ [])))) =
    sym (run-line ws w (event_of l) (events_in (a ++ (m ∷ [])))) ∙ ap (run_by ws w) (sym (events-cut l (a ++ (m ∷ [])) (some-append a m [])))
    in
    reports-cut ws w n l (a ++ (m ∷ ls)) (some-append a m ls)
    ∙ ap (λ (y : List ℕ). x ++ y) (answered-there ws v (n + 1) a m ls)
    ∙ sym (append_assoc x (refused_lines ws v (n + 1) (a ++ ([] ∷ [])))
    (refused_lines ws (run_by ws v (events_in (a ++ (m ∷ [])))) (n + 1 + length a) (m ∷ ls)))
    ∙ ap (λ (y : List ℕ). y ++ refused_lines ws (run_by ws v (events_in (a ++ (m ∷ [])))) (n + 1 + length a) (m ∷ ls))
    (sym (reports-cut ws w n l (a ++ ([] ∷ [])) (some-append a [] [])))
    ∙ ap₂ (λ (u : TimedState) (k : ℕ). refused_lines ws w n (l ∷ (a ++ ([] ∷ []))) ++ refused_lines ws u k (m ∷ ls)) r z

-- a script that is run: its settings, table and windows load without a refusal, and what is printed and left is that of the run of its
-- events
pub record ListedSo (D : ℕ) (ws : List Window) (script area : List ℕ) (o : Opening) (ls : List (List ℕ)) : Type 0 where
  pub loads : timed_load_answer o.config o.table D ws ≡ Done
  pub printed : output_of D ws script area
      ≡ first_head o.config.split ++ (refused_lines ws (loaded_state D ws o area) (5 + o.config.nodes) ls
      ++ (second_head ++ rows_text o.config.nodes 0 (run_by ws (loaded_state D ws o area) (events_in ls)).timed.site.members
      o.config.slots))
  pub left : final_area D ws script area ≡ (run_by ws (loaded_state D ws o area) (events_in ls)).area

pub told : (D : ℕ) (ws : List Window) (script area : List ℕ) (o : Opening) (ls : List (List ℕ)) → unfit script area ≡ false
    → opening (split 10 script) ≡ got o ls → day_fits D ws o ≡ true → ListedSo D ws script area o ls
unfolding output_of final_area
told D ws script area o ls h e k =
    record {
      loads = load-accepts o.config o.table D ws (ap is_done (opening-loads (split 10 script) o ls e)) k;
      printed = rw h (ap₂ (λ (f : Config) (r : Reading Opening). first_head f.split ++ body D ws area r)
          (opening-fine (split 10 script) o ls e).read e ∙ ap (λ (x : List ℕ). first_head o.config.split ++ x) (hit _ _ _ k));
      left = rw h (ap (body_area D ws area) e ∙ hit _ _ _ k);
    }
