-- A listing tells exactly the numbers that are given; what is written gives its number again.
-- Assumes nothing.
use mathlib.Core.Path.{◌≡◌, refl, sym, ap, ap₂, ◌∙◌}
use mathlib.Core.Bool.{Bool, true, false, cond, ◌||◌}
use mathlib.Core.List.{List, [], ◌∷◌, ◌++◌, append-nil}
use mathlib.Core.Logic.{◌⊎◌, inl, inr}
use Prim.Native.Nat.{ℕ, ◌<◌, ◌+◌, ◌≤◌}
use native.Mathlib.Omega.{arith}
use borrow.Author.Tests.{le-ltb, ltb-false}
use lib.Dec.{ltb}
use Rattle.std.specs.Prelude.{Result, Err}
use Rattle.node.specs.declared.Refusal.{Refusal}
use lib.ListN.{length, take, replicate, length-take, length-replicate}
use Rattle.words.proofs.Tests.{hit, skip, or-neither}
use Rattle.text.specs.Read.{split}
use Rattle.node.specs.Answers.{Done, OutOfRange, NoRoom, NotGiven}
use Rattle.site.specs.Answers.{area_size}
use Rattle.machine.specs.timed.Calls.{TimedState}
use Rattle.script.specs.events.Events.{event_of}
use Rattle.script.specs.load.Opening.{Reading, refused, got, Opening, opening}
use Rattle.desk.specs.listing.Rows.{first_head, refusal_line, rows_text}
use Rattle.desk.specs.listings.Output.{second_head, top_script, line_answer, line_after, refused_lines, finished, ran_text, body, output_of}
use Rattle.desk.specs.listings.Output as desk
use Rattle.reduce.specs.Reduced.{lines_in, is_refusal, gives}
use Rattle.reduce.specs.Calls.{start_state, gives_in, Keeps, unfit_script, reply_to, reply_of, length_of, Answers}
use Rattle.reduce.specs.Again.{event_lines, without_event, Answered, listing_lines, tells, TellsRefusals, GivesAgain}
use Rattle.reduce.proofs.Kept.{or-false}
use Rattle.reduce.proofs.Start.{no-windows}
use Rattle.reduce.proofs.ReadAgain.{gives-again, lean-again}
use Rattle.reduce.proofs.HeadAgain.{refused-again}

-- the event lines with their answers, the first of which has the number n
abbrev last_answered : ℕ → List ℕ → List Answered
last_answered n [] = []
last_answered n (b ∷ l) = record { line = n; answer = OutOfRange } ∷ []

unfoldable answered : TimedState → ℕ → List (List ℕ) → List Answered
answered w n [] = []
answered w n (l ∷ []) = last_answered n l
answered w n (l ∷ m ∷ ls) = record { line = n; answer = line_answer [] w (event_of l) }
    ∷ answered (line_after [] w (event_of l)) (n + 1) (m ∷ ls)

-- what is told of them are the reports
told-reports : (w : TimedState) (n : ℕ) (ls : List (List ℕ)) → listing_lines (answered w n ls) ≡ refused_lines [] w n ls
unfolding listing_lines answered refused_lines
told-reports w n [] = refl
told-reports w n ([] ∷ []) = refl
told-reports w n ((b ∷ l) ∷ []) = append-nil (refusal_line n OutOfRange)
told-reports w n (l ∷ m ∷ ls) =
    ap (λ (r : List ℕ). refusal_line n (line_answer [] w (event_of l)) ++ r) (told-reports (line_after [] w (event_of l)) (n + 1) (m ∷ ls))

-- and they tell what is given
tells-given : (a : ℕ) (w : TimedState) (n : ℕ) (ls : List (List ℕ)) → gives a w (lines_in ls) ≡ tells a (answered w n ls)
unfolding gives lines_in tells answered
tells-given a w n [] = refl
tells-given a w n ([] ∷ []) = refl
tells-given a w n ((b ∷ l) ∷ []) = refl
tells-given a w n (l ∷ m ∷ ls) =
    ap (λ (t : Bool). is_refusal a (line_answer [] w (event_of l)) || t) (tells-given a (line_after [] w (event_of l)) (n + 1) (m ∷ ls))

-- what stands under the first head
abbrev zeros : List ℕ
zeros = replicate area_size 0

record Body (r : Reading Opening) : Type 0 where
  lines : List Answered
  rest : List ℕ
  rows : List ℕ
  is : body 1 [] zeros r ≡ listing_lines lines ++ rest
  behind : (rest ≡ []) ⊎ (rest ≡ second_head ++ rows)
  given : (a : ℕ) → gives_in a r ≡ tells a lines

body-told : (r : Reading Opening) → Body r
unfolding listing_lines tells
body-told (refused n x) =
    record {
      lines = record { line = n; answer = Err x } ∷ [];
      rest = [];
      rows = [];
      is = sym (append-nil (refusal_line n (Err x) ++ []) ∙ append-nil (refusal_line n (Err x)));
      behind = inl refl;
      given = λ a. sym (or-false (is_refusal a (Err x)));
    }
body-told (got o ls) =
    let k = 5 + o.config.nodes in
    let t = rows_text o.config.nodes 0 (finished 1 [] o zeros ls).timed.site.members o.config.slots in
    record {
      lines = answered (start_state o) k ls;
      rest = second_head ++ t;
      rows = t;
      is = hit _ (ran_text 1 [] o zeros ls) _ (no-windows o.config.nodes)
          ∙ ap (λ (x : List ℕ). x ++ (second_head ++ t)) (sym (told-reports (start_state o) k ls));
      behind = inr refl;
      given = λ a. tells-given a (start_state o) k ls;
    }

-- a whole listing
pub listing-tells : (s : List ℕ) → length s ≤ top_script → TellsRefusals s
unfolding output_of
listing-tells s l =
    let b = body-told (opening (split 10 s)) in
    let z : desk.unfit s zeros ≡ false =
    ap₂ ◌||◌ (le-ltb (length zeros) area_size (omega (arith, length-replicate {A = ℕ} area_size 0))) (le-ltb top_script (length s) l) in
    record {
      lines = b.lines;
      rest = b.rest;
      listing = ap₂ (λ (k : ℕ) (x : List ℕ). first_head k ++ x) (skip _ 0 _ _ z refl) (skip _ (refusal_line 0 NoRoom) _ _ z b.is);
      rows = b.rows;
      behind = b.behind;
      given = b.given;
    }

-- what is kept of a script gives the number again
gives-too : (a : ℕ) (s text : List ℕ) (r : Reading Opening) → opening (split 10 s) ≡ r → gives_in a r ≡ true → Keeps a s text r
    → gives_in a (opening (split 10 text)) ≡ true
gives-too a s text (refused n x) e g k = ap (λ (t : List ℕ). gives_in a (opening (split 10 t))) k ∙ ap (gives_in a) (refused-again s n x e)
    ∙ g
gives-too a s text (got o ls) e g k = gives-again a s o ls e text k

lean-too : (a : ℕ) (s text : List ℕ) (r : Reading Opening) → opening (split 10 s) ≡ r → Keeps a s text r → (i : ℕ)
    → i < length (event_lines (opening (split 10 text)))
    → gives_in a (opening (split 10 (without_event i text (opening (split 10 text))))) ≡ false
lean-too a s text (refused n x) e k i h =
    let q : event_lines (opening (split 10 text)) ≡ [] = ap (λ (t : List ℕ). event_lines (opening (split 10 t))) k
    ∙ ap event_lines (refused-again s n x e) in
    absurd (omega (arith, h, ap length q))
lean-too a s text (got o ls) e k i h = lean-again a s o ls e text k i h

-- an answer that is done: the script fits, and gives the number
done-is : (t u : Bool) → cond t NoRoom (cond u Done NotGiven) ≡ Done → (t ≡ false) × (u ≡ true)
done-is true u h = absurd (let z : ◌≡◌ {A = ℕ} 0 1 = cc in omega arith)
done-is false true h = (refl, refl)
done-is false false h = absurd (let z : ◌≡◌ {A = ℕ} 0 1 = cc in omega arith)

-- what was written
pub again : (a : ℕ) (s out : List ℕ) (r : Result ℕ Refusal) (after : List ℕ) → Answers a s out r after → reply_of r ≡ Done
    → GivesAgain a (take (length_of r) after)
unfolding reply_to
again a s out r after q d =
    let f = done-is (unfit_script s out) (gives_in a (opening (split 10 s))) (sym q.reply ∙ d) in
    let l : length s ≤ top_script = ltb-false top_script (length s)
    (or-neither (ltb top_script (length s)) (ltb (length out) (length s)) f.0).0 in
    record {
      given = gives-too a s (take (length_of r) after) (opening (split 10 s)) refl f.1 (q.script d);
      lean = lean-too a s (take (length_of r) after) (opening (split 10 s)) refl (q.script d);
      listing = listing-tells (take (length_of r) after) (omega (arith, l, q.within, length-take (length_of r) after));
    }
