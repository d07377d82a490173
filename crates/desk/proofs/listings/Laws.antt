-- The event lines, one by one.
-- Assumes nothing.
use mathlib.Core.Path.{◌≡◌, refl, sym, ap, ap₂, ◌∙◌}
use mathlib.Core.Bool.{true}
use mathlib.Core.List.{List, [], ◌∷◌, ◌++◌}
use Prim.Native.Nat.{ℕ, ◌+◌, ◌-◌, ◌≤◌}
use lib.ListN.{length, take, drop}
use Rattle.text.specs.Read.{split}
use Rattle.text.proofs.Pieces.{HasPiece, split-some}
use Rattle.node.specs.Answers.{OutOfRange}
use Rattle.windows.specs.Windows.{list_ok}
use Rattle.windows.specs.declared.Window.{Window}
use Rattle.node.specs.declared.Config.{Config}
use Rattle.machine.specs.timed.Calls.{TimedState, run_calls}
use Rattle.machine.specs.declared.Day.{Day}
use Rattle.machine.specs.Layout.{Store, words_size, bytes_size, site_in}
use Rattle.machine.proofs.timed.Laws.{figures-kept, length-kept}
use Rattle.node.specs.declared.Ground.{Ground}
use Rattle.node.specs.Answers.{Answer}
use Rattle.site.specs.declared.Event.{Event}
use Rattle.site.specs.Model.{Site}
use Rattle.script.specs.events.Events.{event_of}
use Rattle.std.specs.Prelude.{Option, None, Some}
use Rattle.script.specs.lines.Lines.{line_at}
use Rattle.script.specs.declared.Line.TheVariants.{Nothing, Open}
use Rattle.script.proofs.lines.Lines.{Whole, none_is, open_is}
use Rattle.desk.specs.listing.Rows.{refusal_line}
use Rattle.desk.specs.listings.Output.{event_in, events_in, run_by, line_answer, line_after, refused_lines}
use Rattle.desk.specs.reasons.Reasons.{reason_of, line_report}
use Rattle.desk.proofs.reasons.Laws.{reason-none}
use Rattle.desk.proofs.reasons.Told.{event-report, none_told}
use Rattle.desk.specs.listings.Why.{reason_lines}
use Rattle.desk.specs.listings.Inner.{run_state_in, line_node_report, line_text, lines_text}
use Rattle.desk.specs.declared.View.{View}
use Rattle.desk.specs.declared.View.TheVariants.{Refusals, Reasons}

-- whether a list keeps the rules is the same after a line
line-list : (ws : List Window) (w : TimedState) (p : Option Event)
    → list_ok (line_after ws w p).timed.site.config.nodes (line_after ws w p).timed.day.length ws
    ≡ list_ok w.timed.site.config.nodes w.timed.day.length ws
line-list ws w None = refl
line-list ws w (Some e) =
    ap₂ (λ (f : Config) (n : ℕ). list_ok f.nodes n ws) (figures-kept w.timed w.area ws e) (length-kept w.timed w.area ws e)

-- a line's event in front of others
pub run-line : (ws : List Window) (w : TimedState) (p : Option Event) (es : List Event) → run_by ws w (event_in p ++ es)
    ≡ run_by ws (line_after ws w p) es
unfolding run_calls
run-line ws w None es = refl
run-line ws w (Some e) es = refl

-- nothing stands at a place
module _ (s : List ℕ) (at : ℕ) (h : line_at s at ≡ Nothing) where
  pub lines_none : (v : View) (ws : List Window) (w : TimedState) (n : ℕ) → lines_text v ws w n (split 10 (drop at s)) ≡ []
  unfolding refused_lines reason_lines
  lines_none Refusals ws w n = ap (refused_lines ws w n) (none_is s at h)
  lines_none (Reasons j) ws w n = ap (reason_lines j ws w n) (none_is s at h)

  pub run_none : (ws : List Window) (w : TimedState) → run_by ws w (events_in (split 10 (drop at s))) ≡ w
  unfolding events_in run_calls
  run_none ws w = ap (λ (ls : List (List ℕ)). run_by ws w (events_in ls)) (none_is s at h)

-- a line without byte 10
module _ (s : List ℕ) (at : ℕ) (h : line_at s at ≡ Open) where
  pub lines-open : (v : View) (ws : List Window) (w : TimedState) (n : ℕ) → lines_text v ws w n (split 10 (drop at s))
      ≡ line_text v n OutOfRange None
  unfolding refused_lines reason_lines
  lines-open Refusals ws w n = ap (refused_lines ws w n) (open_is s at h).piece
  lines-open (Reasons j) ws w n = ap (reason_lines j ws w n) (open_is s at h).piece ∙ sym (reason-none n j refl)

  pub run-open : (ws : List Window) (w : TimedState) → run_by ws w (events_in (split 10 (drop at s))) ≡ w
  unfolding events_in run_calls
  run-open ws w = ap (λ (ls : List (List ℕ)). run_by ws w (events_in ls)) (open_is s at h).piece

-- a line with it
pub reports-cut : (ws : List Window) (w : TimedState) (n : ℕ) (l : List ℕ) (ps : List (List ℕ)) → HasPiece ps → refused_lines ws w n (l ∷ ps)
    ≡ refusal_line n (line_answer ws w (event_of l)) ++ refused_lines ws (line_after ws w (event_of l)) (n + 1) ps
unfolding refused_lines
reports-cut ws w n l [] h = absurd h
reports-cut ws w n l (p ∷ ps) h = refl

pub events-cut : (l : List ℕ) (ps : List (List ℕ)) → HasPiece ps → events_in (l ∷ ps) ≡ event_in (event_of l) ++ events_in ps
unfolding events_in
events-cut l [] h = absurd h
events-cut l (p ∷ ps) h = refl

told-cut : (j : ℕ) (ws : List Window) (w : TimedState) (n : ℕ) (l : List ℕ) (ps : List (List ℕ)) → HasPiece ps
    → reason_lines j ws w n (l ∷ ps) ≡ reason_of j n (line_report w.timed.site w.area (event_of l)).nodes
    ++ reason_lines j ws (line_after ws w (event_of l)) (n + 1) ps
unfolding reason_lines
told-cut j ws w n l [] h = absurd h
told-cut j ws w n l (p ∷ ps) h = refl

-- what is printed of a line of a state
abbrev world_text : View → ℕ → List Window → TimedState → Option Event → List ℕ
world_text Refusals n ws w p = refusal_line n (line_answer ws w p)
world_text (Reasons j) n ws w p = reason_of j n (line_report w.timed.site w.area p).nodes

lines_cut : (v : View) (ws : List Window) (w : TimedState) (n : ℕ) (l : List ℕ) (ps : List (List ℕ)) → HasPiece ps
    → lines_text v ws w n (l ∷ ps) ≡ world_text v n ws w (event_of l) ++ lines_text v ws (line_after ws w (event_of l)) (n + 1) ps
lines_cut Refusals ws w n l ps h = reports-cut ws w n l ps h
lines_cut (Reasons j) ws w n l ps h = told-cut j ws w n l ps h

-- of a site in storage it is what is read of the storage
stored-text : (v : View) (n : ℕ) (ws : List Window) (s : Store) (d : Day) (a : List ℕ) → (words_size ≤ length s.words)
    × (bytes_size ≤ length s.bytes)
    → (p : Option Event) → line_text v n (line_answer ws (run_state_in s d a) p) (line_node_report v s a p) ≡ world_text v n ws (run_state_in s d a) p
stored-text Refusals n ws s d a long p = refl
stored-text (Reasons j) n ws s d a long None = none_told j n
stored-text (Reasons j) n ws s d a long (Some e) = event-report s long.0 long.1 a j n e

module _ (s : List ℕ) (at e : ℕ) (h : Whole s at e) (ws : List Window) (p : Option Event) (g : p ≡ event_of (take (e - at) (drop at s))) where
  abbrev rest : List (List ℕ)
  rest = split 10 (drop (e + 1) s)

  lines-line : (v : View) (w : TimedState) (n : ℕ) → lines_text v ws w n (split 10 (drop at s)) ≡ world_text v n ws w p
      ++ lines_text v ws (line_after ws w p) (n + 1) rest
  lines-line v w n =
      ap (lines_text v ws w n) h.piece
      ∙ lines_cut v ws w n (take (e - at) (drop at s)) rest (split-some 10 (drop (e + 1) s))
      ∙ ap (λ (q : Option Event). world_text v n ws w q ++ lines_text v ws (line_after ws w q) (n + 1) rest) (sym g)

  run-lines : (w : TimedState) → run_by ws w (events_in (split 10 (drop at s))) ≡ run_by ws (line_after ws w p) (events_in rest)
  run-lines w =
      ap (λ (ls : List (List ℕ)). run_by ws w (events_in ls)) h.piece
      ∙ ap (run_by ws w) (events-cut (take (e - at) (drop at s)) rest (split-some 10 (drop (e + 1) s)))
      ∙ ap (λ (q : Option Event). run_by ws w (event_in q ++ events_in rest)) (sym g)
      ∙ run-line ws w p (events_in rest)

  -- what a step answered and told of a site in storage, and the day, the site and the area that it left
  module _ (v : View) (st : Store) (d : Day) (b : List ℕ) {y : Answer} {t : Option Ground} {n : Day} {x : Site} {a : List ℕ}
      (k : y ≡ line_answer ws (run_state_in st d b) p) (i : t ≡ line_node_report v st b p)
      (u : n ≡ (line_after ws (run_state_in st d b) p).timed.day)
      (j : x ≡ (line_after ws (run_state_in st d b) p).timed.site) (m : a ≡ (line_after ws (run_state_in st d b) p).area) where
    abbrev reached : TimedState
    reached = record { timed = record { site = x; day = n }; area = a }

    state-is : line_after ws (run_state_in st d b) p ≡ reached
    state-is = λ i. record { timed = record { site = sym j i; day = sym u i }; area = sym m i }

    -- the list keeps the rules as before
    pub next-list : list_ok (site_in st).config.nodes d.length ws ≡ true → list_ok x.config.nodes n.length ws ≡ true
    next-list y = ap (λ (z : TimedState). list_ok z.timed.site.config.nodes z.timed.day.length ws) (sym state-is)
        ∙ line-list ws (run_state_in st d b) p ∙ y

    pub next-lines : (words_size ≤ length st.words) × (bytes_size ≤ length st.bytes) → (n : ℕ)
        → lines_text v ws (run_state_in st d b) n (split 10 (drop at s)) ≡ line_text v n y t ++ lines_text v ws reached (n + 1) rest
    next-lines long n =
        lines-line v (run_state_in st d b) n
        ∙ ap₂ (λ (y : List ℕ) (z : TimedState). y ++ lines_text v ws z (n + 1) rest)
        (sym (stored-text v n ws st d b long p) ∙ sym (ap₂ (line_text v n) k i)) state-is

    pub next-run : run_by ws (run_state_in st d b) (events_in (split 10 (drop at s))) ≡ run_by ws reached (events_in rest)
    next-run = run-lines (run_state_in st d b) ∙ ap (λ (y : TimedState). run_by ws y (events_in rest)) state-is
