-- A list of events from a site just loaded, by its scene: the wants of the list may be left out.
-- Assumes nothing.
use mathlib.Core.Path.{◌≡◌, refl, sym, ap, ap₂, ◌∙◌}
use mathlib.Core.Bool.{Bool, true, false, not, cond}
use mathlib.Core.List.{List, [], ◌∷◌, ◌++◌}
use Prim.Native.Nat.{ℕ}
use Rattle.words.proofs.Tests.{read_same}
use Rattle.node.specs.Answers.{is_done}
use Rattle.node.specs.Answers.{Answer}
use Rattle.node.specs.Answers.{Done}
use Rattle.node.specs.declared.Packet.{Packet}
use Rattle.node.proofs.Answers.{done-is}
use Rattle.site.specs.Answers.{answer_of}
use Rattle.site.specs.Events.{is_close}
use Rattle.site.specs.Load.{load_answer, loaded_site}
use Rattle.site.specs.Steps.{next_site, next_area, site_after, area_after}
use Rattle.site.specs.Run.{RunState, after, run}
use Rattle.node.specs.declared.Config.{Config}
use Rattle.site.specs.declared.Table.{Table}
use Rattle.site.specs.Model.{Site}
use Rattle.site.specs.declared.Event.{Event}
use Rattle.site.specs.declared.Event.TheVariants.{Send, Hear, Close, Take, End, Want, Crash, Restart}
use Rattle.machine.specs.declared.Report.{Report}
use Rattle.histories.specs.Reached.{begin}
use Rattle.histories.specs.Hearing.{plain_hear}
use Rattle.histories.proofs.Sound.{Sound, load-sound}
use Rattle.histories.proofs.Once.{heard}
use Rattle.agreement.proofs.daily.Wants.{run-append}
use Rattle.wants.specs.Wants.{is_want, prepended_if, without_wants, close_reports, answers}
use Rattle.wants.proofs.Scenes.{Scene, scene_of, next_by, answer_by, after_by, scene_after, reports_in, answers_in}
use Rattle.wants.proofs.Sites.{answer-is, report-is, next}

-- an event is a want, or it is none
pub by-want : (P : Event → Type 0) → ((j d : ℕ) → P (Want j d)) → ((e : Event) → is_want e ≡ false → P e) → (e : Event) → P e
by-want P p q (Send j) = q (Send j) refl
by-want P p q (Hear j x) = q (Hear j x) refl
by-want P p q Close = q Close refl
by-want P p q (Take j i) = q (Take j i) refl
by-want P p q End = q End refl
by-want P p q (Want j d) = p j d
by-want P p q (Crash j) = q (Crash j) refl
by-want P p q (Restart j flags) = q (Restart j flags) refl

pub kept-front : (e : Event) (es : List Event) → is_want e ≡ false → without_wants (e ∷ es) ≡ e ∷ without_wants es
unfolding without_wants
kept-front e es n = ap (λ (b : Bool). prepended_if (not b) e (without_wants es)) n

-- a site and its area that a list of events leads to, with the packets of the phase
pub record At (f : Config) (t : Table) (area : List ℕ) (w : RunState) : Type 0 where
  pub before : List Event
  pub is : run (begin f t area) before ≡ w
  pub air : List Packet
  pub sound : Sound w.site w.area air

abbrev pub scene_at : {f : Config} {t : Table} {area : List ℕ} {w : RunState} → At f t area w → Scene
scene_at {w = w} a = scene_of w.site w.area a.air

-- one that is led to, at a scene
pub record Moved (f : Config) (t : Table) (area : List ℕ) (w : RunState) (c : Scene) : Type 0 where
  pub there : At f t area w
  pub scene : scene_at there ≡ c

module _ (f : Config) (t : Table) (d : load_answer f t ≡ Done) (area : List ℕ) where
  pub start : Moved f t area (begin f t area) (scene_of (loaded_site f t) area [])
  unfolding run
  start = record { there = record { before = []; is = refl; air = []; sound = load-sound f t area d }; scene = refl }

  -- a hearing is answered by its packet's sender alone
  plainly : (w : RunState) → At f t area w → (j p : ℕ) → answer_of w.site w.area (Hear j p) ≡ plain_hear w j p
  plainly w a j p =
      ap (λ (v : RunState). answer_of v.site v.area (Hear j p)) (sym a.is) ∙ heard.hears f t d area a.before j p
      ∙ ap (λ (v : RunState). plain_hear v j p) a.is

  pub answer_at : (w : RunState) (a : At f t area w) (e : Event) → is_want e ≡ false → answer_of w.site w.area e
      ≡ answer_by (scene_at a) e
  answer_at w a e n = answer-is w.site w.area a.air a.sound e n (plainly w a)

  -- accepted or not
  stepped : (w : RunState) (a : At f t area w) (e : Event)
      → Moved f t area (after w e) (cond (is_done (answer_of w.site w.area e)) (next_by (scene_at a) e) (scene_at a))
  unfolding run site_after area_after
  stepped w a e =
      let x = go (is_done (answer_of w.site w.area e)) refl in
      record {
        there = record {
          before = a.before ++ (e ∷ []);
          is = run-append (begin f t area) a.before (e ∷ []) ∙ ap (λ (v : RunState). after v e) a.is;
          air = x.0;
          sound = x.1;
        };
        scene = x.2;
      }
    where
      -- the site, and the area, by whether the event is accepted
      then : Bool → Site
      then b = cond b (next_site w.site w.area e) w.site

      left : Bool → List ℕ
      left b = cond b (next_area w.site w.area e) w.area

      go : (b : Bool) → is_done (answer_of w.site w.area e) ≡ b
          → (air : List Packet) × Sound (then b) (left b) air × (scene_of (then b) (left b) air ≡ cond b (next_by (scene_at a) e) (scene_at a))
      go true q = let n = next w.site w.area a.air e a.sound (done-is _ q) in (n.then, n.sound, n.scene)
      go false q = (a.air, a.sound, refl)

  -- an event that is no want
  pub moves : (w : RunState) (a : At f t area w) (e : Event) → is_want e ≡ false → Moved f t area (after w e) (after_by (scene_at a) e)
  moves w a e n =
      let x = stepped w a e in
      record {
        there = x.there;
        scene = x.scene ∙ ap (λ (y : Answer). cond (is_done y) (next_by (scene_at a) e) (scene_at a)) (answer_at w a e n);
      }

  -- a want
  pub stays : (w : RunState) (a : At f t area w) (j x : ℕ) → Moved f t area (after w (Want j x)) (scene_at a)
  stays w a j x =
      let y = stepped w a (Want j x) in
      record {
        there = y.there;
        scene =
            y.scene
            ∙ read_same (λ (c : Scene). c) (is_done (answer_of w.site w.area (Want j x))) (scene_at a) (scene_at a)
            (scene_at a) refl refl;
      }

  -- reports and answers of a list are those of its scene without the wants, and so is where it leads
  pub record Follows (w : RunState) (es : List Event) (c : Scene) (gs : List Event) : Type 0 where
    pub told : close_reports w es ≡ reports_in c gs
    pub answered : answers w es ≡ answers_in c gs
    pub moved : Moved f t area (run w es) (scene_after c gs)

  -- one event more at the front
  module _ (w : RunState) (a : At f t area w) (es : List Event)
      (rest : (x : Event) (b : At f t area (after w x)) → Follows (after w x) es (scene_at b) (without_wants es)) where
    wanted : (j x : ℕ) → Follows w (Want j x ∷ es) (scene_at a) (without_wants (Want j x ∷ es))
    unfolding run without_wants close_reports answers
    wanted j x =
        let m = stays w a j x in
        let r = rest (Want j x) m.there in
        record {
          told = r.told ∙ ap (λ (c : Scene). reports_in c (without_wants es)) m.scene;
          answered = r.answered ∙ ap (λ (c : Scene). answers_in c (without_wants es)) m.scene;
          moved =
              record { there = r.moved.there; scene = r.moved.scene ∙ ap (λ (c : Scene). scene_after c (without_wants es)) m.scene };
        }

    other : (x : Event) → is_want x ≡ false → Follows w (x ∷ es) (scene_at a) (without_wants (x ∷ es))
    unfolding run close_reports answers reports_in answers_in scene_after
    other x n =
        let m = moves w a x n in
        let r = rest x m.there in
        let q = answer_at w a x n in
        let k : x ∷ without_wants es ≡ without_wants (x ∷ es) = sym (kept-front x es n) in
        record {
          told =
              ap₂ (λ (y : Report) (l : List Report). prepended_if (is_close x) y l) (report-is w.site w.area a.air x q)
              (r.told ∙ ap (λ (c : Scene). reports_in c (without_wants es)) m.scene)
              ∙ ap (reports_in (scene_at a)) k;
          answered =
              ap₂ (λ (y : Answer) (l : List Answer). prepended_if (not (is_want x)) y l) q
              (r.answered ∙ ap (λ (c : Scene). answers_in c (without_wants es)) m.scene)
              ∙ ap (answers_in (scene_at a)) k;
          moved = record {
            there = r.moved.there;
            scene = r.moved.scene ∙ ap (λ (c : Scene). scene_after c (without_wants es)) m.scene ∙ ap (scene_after (scene_at a)) k;
          };
        }

  pub follow : (w : RunState) (a : At f t area w) (es : List Event) → Follows w es (scene_at a) (without_wants es)
  unfolding run without_wants close_reports answers reports_in answers_in scene_after
  follow w a [] = record { told = refl; answered = refl; moved = record { there = a; scene = refl } }
  follow w a (e ∷ es) =
      by-want (λ (x : Event). Follows w (x ∷ es) (scene_at a) (without_wants (x ∷ es))) (wanted w a es (λ x b. follow (after w x) b es))
      (other w a es (λ x b. follow (after w x) b es)) e
