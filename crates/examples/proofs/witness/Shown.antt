-- What boxes determined, read off the site beside them: so a history of boxes is computed without their bytes.
-- Assumes nothing.
use mathlib.Core.Path.{◌≡◌, refl, sym, ap, ap₂, ◌∙◌}
use mathlib.Core.Bool.{Bool, true, false, cond, ◌&&◌}
use mathlib.Core.List.{List, [], ◌∷◌, ◌++◌, map, append-nil, append_assoc}
use Prim.Native.Nat.{ℕ, zero, suc, ◌+◌, ◌≤◌}
use native.Mathlib.Omega.{arith}
use lib.ListN.{take}
use Rattle.words.proofs.Tests.{read-choice}
use Rattle.node.specs.Answers.{is_done}
use Rattle.node.specs.Close.{determines}
use Rattle.node.specs.Model.{Node}
use Rattle.node.specs.Answers.{Answer}
use Rattle.area.specs.Area.{decoded}
use Rattle.area.proofs.Canon.{round_trip}
use Rattle.site.specs.Members.{member_at, is_live}
use Rattle.site.specs.Answers.{answer_of}
use Rattle.site.specs.Run.{RunState, after}
use Rattle.node.specs.declared.Config.{Config}
use Rattle.site.specs.Model.{Site}
use Rattle.site.specs.declared.Event.{Event}
use Rattle.site.specs.declared.Event.TheVariants.{Send, Hear, Close, Take, End, Want, Crash, Restart}
use Rattle.histories.specs.Past.{Past, past_after}
use Rattle.histories.proofs.Members.{live-up}
use Rattle.boxes.specs.fleet.Fleet.{Box, Fleet, Act, live, fleet_after}
use Rattle.boxes.specs.fleet.Past.{BoxDetermination, BoxPast, box_determination, box_determined_by, boxes_determined, box_noted, box_past_after}
use Rattle.boxes.specs.fleet.Past.{box_trace}
use Rattle.boxes.specs.fleet.Claim.{events}
use Rattle.boxes.proofs.fleet.Together.{at, fit}
use Rattle.boxes.proofs.fleet.Reach.{Reached, answered-alike, reach}
use Rattle.boxes.proofs.fleet.Results.{live-as}
use Rattle.examples.specs.witness.Case.{shown_determination}

-- what the node of number j determines, if it is live and determines
abbrev shown_of : ℕ → Node → List ℕ
shown_of j n = j ∷ (n.version + 1) ∷ n.round.merged ∷ take 3 n.round.known

unfoldable pub members_shown : ℕ → Site → List (List ℕ)
members_shown zero s = []
members_shown (suc n) s = members_shown n s ++ cond (is_live (member_at s (suc n)) && determines (member_at s (suc n)).node)
    (shown_of (suc n) (member_at s (suc n)).node ∷ []) []

-- at an accepted event, and through a list of them
abbrev pub new_shown : Site → Event → List (List ℕ)
new_shown s (Send j) = []
new_shown s (Hear j p) = []
new_shown s Close = members_shown s.config.nodes s
new_shown s (Take j i) = []
new_shown s End = []
new_shown s (Want j d) = []
new_shown s (Crash j) = []
new_shown s (Restart j flags) = []

unfoldable pub site_shown : RunState → List Event → List (List ℕ)
site_shown w [] = []
site_shown w (e ∷ es) = cond (is_done (answer_of w.site w.area e)) (new_shown w.site e) [] ++ site_shown (after w e) es

shown-cat : (k l : List BoxDetermination) → map shown_determination (k ++ l) ≡ map shown_determination k ++ map shown_determination l
shown-cat [] l = refl
shown-cat (d ∷ k) l = ap (λ (x : List (List ℕ)). shown_determination d ∷ x) (shown-cat k l)

module _ {f : Config} {past : Past} {w : RunState} {x : Fleet} (r : Reached f past w x) where
  -- one box, and the first n
  one-shown : (y : BoxPast) (j : ℕ) → 1 ≤ j
      → map shown_determination (box_determined_by y j (r.together.boxes j)) ≡ cond
      (is_live (member_at w.site j) && determines (member_at w.site j).node) (shown_of j (member_at w.site j).node ∷ []) []
  one-shown y j l = go (live b) refl
    where
      b : Box
      b = r.together.boxes j

      n : Node
      n = (member_at w.site j).node

      same : live b ≡ is_live (member_at w.site j)
      same = live-as r.kept r.together.beside j l

      go : (t : Bool) → live b ≡ t → map shown_determination (box_determined_by y j b)
          ≡ cond (is_live (member_at w.site j) && determines n) (shown_of j n ∷ []) []
      go true e =
          let u = live-up (member_at w.site j) (sym same ∙ e) in
          let S = r.kept.sound in
          let k : decoded b.area ≡ n = ap decoded ((at S r.together.beside j l).area u)
          ∙ round_trip n ((fit S r.together.beside j).long u) ((fit S r.together.beside j).range u) in
          ap₂ (λ (t : Bool) (m : Node). map shown_determination (cond (t && determines m) (box_determination y j m ∷ []) [])) same k
          ∙ read-choice (map shown_determination) (is_live (member_at w.site j) && determines n) (box_determination y j n ∷ []) []
      go false e =
          ap (λ (t : Bool). map shown_determination
          (cond (t && determines (decoded b.area)) (box_determination y j (decoded b.area) ∷ []) [])) e
          ∙ sym (ap (λ (t : Bool). cond (t && determines n) (shown_of j n ∷ []) []) (sym same ∙ e))

  boxes-shown : (y : BoxPast) (n : ℕ) → map shown_determination (boxes_determined n y r.together.boxes) ≡ members_shown n w.site
  unfolding boxes_determined members_shown
  boxes-shown y zero = refl
  boxes-shown y (suc n) = shown-cat (boxes_determined n y r.together.boxes) _
      ∙ ap₂ ◌++◌ (boxes-shown y n) (one-shown y (suc n) (omega arith))

  -- an accepted event
  noted-shown : (y : BoxPast) (e : Event) (z : Fleet) → map shown_determination (box_noted y x e z).log ≡ map shown_determination y.log
      ++ new_shown w.site e
  noted-shown y (Send j) z = sym (append-nil _)
  noted-shown y (Hear j p) z = sym (append-nil _)
  noted-shown y Close z =
      shown-cat y.log _
      ∙ ap (λ (l : List (List ℕ)). map shown_determination y.log ++ l) (ap (λ (a : Fleet). map shown_determination
      (boxes_determined a.config.nodes y a.boxes)) r.together.is ∙ boxes-shown y w.site.config.nodes)
  noted-shown y (Take j i) z = sym (append-nil _)
  noted-shown y End z = sym (append-nil _)
  noted-shown y (Want j d) z = sym (append-nil _)
  noted-shown y (Crash j) z = sym (append-nil _)
  noted-shown y (Restart j flags) z = sym (append-nil _)

  after-shown : (y : BoxPast) (a : Act) → map shown_determination (box_past_after y x a).log ≡ map shown_determination y.log
      ++ cond (is_done (answer_of w.site w.area a.event)) (new_shown w.site a.event) []
  unfolding box_past_after
  after-shown y a =
      ap (λ (q : Answer). map shown_determination (cond (is_done q) (box_noted y x a.event (fleet_after x a)) y).log)
      (answered-alike r a.event)
      ∙ go (is_done (answer_of w.site w.area a.event))
    where
      go : (t : Bool) → map shown_determination (cond t (box_noted y x a.event (fleet_after x a)) y).log ≡ map shown_determination y.log
          ++ cond t (new_shown w.site a.event) []
      go true = noted-shown y a.event (fleet_after x a)
      go false = sym (append-nil _)

-- a list of events
pub trace-shown : {f : Config} {past : Past} (w : RunState) (x : Fleet) (y : BoxPast) (acts : List Act) → Reached f past w x
    → map shown_determination (box_trace y x acts).log ≡ map shown_determination y.log ++ site_shown w (events acts)
unfolding box_trace site_shown
trace-shown w x y [] r = sym (append-nil _)
trace-shown {f = f} {past = past} w x y (a ∷ acts) r =
    trace-shown {f = f} {past = past_after past w a.event} (after w a.event) (fleet_after x a) (box_past_after y x a) acts (reach r a)
    ∙ ap (λ (l : List (List ℕ)). l ++ site_shown (after w a.event) (events acts)) (after-shown r y a)
    ∙ append_assoc (map shown_determination y.log) _ (site_shown (after w a.event) (events acts))
