-- An event of one box reads and changes no box but its own, and reads of another only where it takes.
-- Assumes nothing.
use mathlib.Core.Path.{◌≡◌, refl, sym, ap, ap₂, ◌∙◌, subst}
use mathlib.Core.Bool.{Bool, true, false, not, cond, ◌&&◌}
use mathlib.Core.Logic.{◌≢◌}
use mathlib.Core.List.{List, [], ◌∷◌, ◌++◌}
use Prim.Native.Nat.{ℕ, ◌-◌}
use borrow.Author.Tests.{eq-eqb, ne_eqb}
use lib.Dec.{eqb, leb}
use lib.ListN.{get_or}
use Rattle.words.proofs.Tests.{and_left, and_right, never, read_same}
use Rattle.node.specs.Answers.{is_done}
use Rattle.node.specs.Answers.{Answer}
use Rattle.node.specs.Answers.{NoSuchNode, WrongPhase, NotLive, TooManyPackets}
use Rattle.wire.specs.Layout.{packet_size}
use Rattle.host.specs.Calls.{out_send, sending_of, after_hear, after_take, after_want, after_restart}
use Rattle.site.specs.Counts.{top_sent, sent_of, one_more}
use Rattle.site.specs.Members.{setup_of, outside}
use Rattle.node.specs.declared.Config.{Config}
use Rattle.site.specs.declared.Event.{Event}
use Rattle.site.specs.declared.Event.TheVariants.{Send, Hear, Close, Take, End, Want, Crash, Restart}
use Rattle.boxes.specs.fleet.Fleet.{Box, Fleet, Act, zeros, live, fleet_send, fleet_hear, fleet_take, fleet_want, fleet_crash, fleet_restart}
use Rattle.boxes.specs.fleet.Fleet.{fleet_answer, box_holding, change, next_fleet, fleet_after, fleet_run, fleet_answers}
use Rattle.apart.specs.Apart.{acting_box}

-- two fields alike but for the boxes outside P
pub record Like (P : ℕ → Bool) (x y : Fleet) : Type 0 where
  pub config : x.config ≡ y.config
  pub negotiates : x.negotiates ≡ y.negotiates
  pub place : x.place ≡ y.place
  pub air : x.air ≡ y.air
  pub sent : x.sent ≡ y.sent
  pub boxes : (k : ℕ) → P k ≡ true → x.boxes k ≡ y.boxes k

-- an event of boxes of P alone
abbrev pub within : (ℕ → Bool) → Event → Bool
within P (Send j) = P j
within P (Hear j p) = P j
within P Close = false
within P (Take j i) = P j && P i
within P End = false
within P (Want j d) = P j
within P (Crash j) = P j
within P (Restart j flags) = P j

module _ {P : ℕ → Bool} {x y : Fleet} (l : Like P x y) where
  pub same_answer : (e : Event) → within P e ≡ true → fleet_answer x e ≡ fleet_answer y e
  unfolding fleet_send fleet_hear fleet_take fleet_want fleet_crash fleet_restart
  same_answer (Send j) p = rw (l.config, l.negotiates, l.sent, l.boxes j p) refl
  same_answer (Hear j q) p = rw (l.config, l.negotiates, l.air, l.boxes j p) refl
  same_answer Close p = never (sym p)
  same_answer (Take j i) p = rw (l.config, l.negotiates, l.boxes j (and_left (P j) (P i) p), l.boxes i (and_right (P j) (P i) p)) refl
  same_answer End p = never (sym p)
  same_answer (Want j d) p = rw (l.config, l.boxes j p) refl
  same_answer (Crash j) p = rw (l.config, l.boxes j p) refl
  same_answer (Restart j flags) p = rw (l.config, l.place, l.boxes j p) refl

  -- a changed box
  put : (j : ℕ) (b c : Box) → b ≡ c → (k : ℕ) → P k ≡ true → (change x j b).boxes k ≡ (change y j c).boxes k
  put j b c e k p = ap₂ (cond (eqb k j)) e (l.boxes k p)

  putting : (j : ℕ) (b c : Box) → b ≡ c → Like P (change x j b) (change y j c)
  putting j b c e = record {
    config = l.config;
    negotiates = l.negotiates;
    place = l.place;
    air = l.air;
    sent = l.sent;
    boxes = put j b c e;
  }

  next_like : (e : Event) (left : List ℕ) → within P e ≡ true → Like P (next_fleet x e left) (next_fleet y e left)
  next_like (Send j) left p =
      record {
        config = l.config;
        negotiates = l.negotiates;
        place = l.place;
        air = ap₂ (λ (a : List (List ℕ)) (b : Box). a ++ (out_send b.area (zeros packet_size) ∷ [])) l.air (l.boxes j p);
        sent = ap (λ (c : List ℕ). one_more c j) l.sent;
        boxes = l.boxes;
      }
  next_like (Hear j q) left p = putting j _ _ (ap₂ (λ (b : Box) (a : List (List ℕ)). box_holding b
      (after_hear b.area (get_or a (q - 1) []))) (l.boxes j p) l.air)
  next_like Close left p = never (sym p)
  next_like (Take j i) left p =
      putting j _ _ (ap₂ (λ (b c : Box). box_holding b (after_take b.area c.out)) (l.boxes j (and_left (P j) (P i) p))
      (l.boxes i (and_right (P j) (P i) p)))
  next_like End left p = never (sym p)
  next_like (Want j d) left p = putting j _ _ (ap (λ (b : Box). box_holding b (after_want b.area d)) (l.boxes j p))
  next_like (Crash j) left p = putting j _ _ refl
  next_like (Restart j flags) left p = putting j _ _ (restarted x.config y.config x.place y.place (x.boxes j) (y.boxes j)
      l.config l.place (l.boxes j p))
    where
      restarted : (f g : Config) (u v : ℕ) (b c : Box) → f ≡ g → u ≡ v → b ≡ c
          → ◌≡◌ {A = Box} (record {
            up = true;
            area = after_restart b.area (setup_of f j) flags u;
            out = b.out;
          }) (record { up = true; area = after_restart c.area (setup_of g j) flags v; out = c.out })
      restarted f g u v b c d e h = λ i. record { up = true; area = after_restart (h i).area (setup_of (d i) j) flags (e i); out = (h i).out }

  -- refused or not
  pub after-like : (a : Act) → within P a.event ≡ true → Like P (fleet_after x a) (fleet_after y a)
  unfolding fleet_after
  after-like a p =
      subst (λ (r : Answer). Like P (cond (is_done (fleet_answer x a.event)) (next_fleet x a.event a.left) x)
      (cond (is_done r) (next_fleet y a.event a.left) y)) (same_answer a.event p)
      (go (is_done (fleet_answer x a.event)))
    where
      go : (t : Bool) → Like P (cond t (next_fleet x a.event a.left) x) (cond t (next_fleet y a.event a.left) y)
      go true = next_like a.event a.left p
      go false = l

-- A list of events

pub data Within (P : ℕ → Bool) : List Act → Type 0 where
  none : Within P []
  then : {a : Act} {acts : List Act} → within P a.event ≡ true → Within P acts → Within P (a ∷ acts)

pub within-snoc : {P : ℕ → Bool} (acts : List Act) (a : Act) → Within P acts → within P a.event ≡ true → Within P (acts ++ (a ∷ []))
within-snoc [] a none p = then p none
within-snoc (b ∷ acts) a (then q w) p = then q (within-snoc acts a w p)

pub run-like : {P : ℕ → Bool} (acts : List Act) (x y : Fleet) → Within P acts → Like P x y → Like P (fleet_run x acts) (fleet_run y acts)
unfolding fleet_run
run-like [] x y none l = l
run-like (a ∷ acts) x y (then p w) l = run-like acts (fleet_after x a) (fleet_after y a) w (after-like l a p)

pub answers-like : {P : ℕ → Bool} (acts : List Act) (x y : Fleet) → Within P acts → Like P x y → fleet_answers x acts ≡ fleet_answers y acts
unfolding fleet_answers
answers-like [] x y none l = refl
answers-like (a ∷ acts) x y (then p w) l = ap₂ (λ (r : Answer) (rest : List Answer). r ∷ rest) (same_answer l a.event p)
    (answers-like acts (fleet_after x a) (fleet_after y a) w (after-like l a p))

pub answers-append : (acts rest : List Act) (x : Fleet) → fleet_answers x (acts ++ rest) ≡ fleet_answers x acts
    ++ fleet_answers (fleet_run x acts) rest
unfolding fleet_answers fleet_run
answers-append [] rest x = refl
answers-append (a ∷ acts) rest x = ap (λ (l : List Answer). fleet_answer x a.event ∷ l) (answers-append acts rest (fleet_after x a))

pub answers-snoc : (acts : List Act) (a : Act) (x : Fleet) → fleet_answers x (acts ++ (a ∷ [])) ≡ fleet_answers x acts
    ++ (fleet_answer (fleet_run x acts) a.event ∷ [])
unfolding fleet_answers fleet_run
answers-snoc acts a x = answers-append acts (a ∷ []) x

pub run-append : (acts rest : List Act) (x : Fleet) → fleet_run x (acts ++ rest) ≡ fleet_run (fleet_run x acts) rest
unfolding fleet_run
run-append [] rest x = refl
run-append (a ∷ acts) rest x = run-append acts rest (fleet_after x a)

pub run-snoc : (acts : List Act) (a : Act) (x : Fleet) → fleet_run x (acts ++ (a ∷ [])) ≡ fleet_after (fleet_run x acts) a
unfolding fleet_run
run-snoc acts a x = run-append acts (a ∷ []) x

-- What an event leaves as it was: the figures, the phase and the place; and a box that it is not of

-- not box j
abbrev pub but : ℕ → ℕ → Bool
but j k = not (eqb k j)

pub record Kept (x y : Fleet) : Type 0 where
  pub config : x.config ≡ y.config
  pub negotiates : x.negotiates ≡ y.negotiates
  pub place : x.place ≡ y.place

kept_next : (P : ℕ → Bool) (x : Fleet) (e : Event) (left : List ℕ) → within P e ≡ true → Kept x (next_fleet x e left)
kept_next P x (Send j) left p = record { config = refl; negotiates = refl; place = refl }
kept_next P x (Hear j q) left p = record { config = refl; negotiates = refl; place = refl }
kept_next P x Close left p = never (sym p)
kept_next P x (Take j i) left p = record { config = refl; negotiates = refl; place = refl }
kept_next P x End left p = never (sym p)
kept_next P x (Want j d) left p = record { config = refl; negotiates = refl; place = refl }
kept_next P x (Crash j) left p = record { config = refl; negotiates = refl; place = refl }
kept_next P x (Restart j flags) left p = record { config = refl; negotiates = refl; place = refl }

pub kept-after : (P : ℕ → Bool) (x : Fleet) (a : Act) → within P a.event ≡ true → Kept x (fleet_after x a)
unfolding fleet_after
kept-after P x a p = go (is_done (fleet_answer x a.event))
  where
    go : (t : Bool) → Kept x (cond t (next_fleet x a.event a.left) x)
    go true = kept_next P x a.event a.left p
    go false = record { config = refl; negotiates = refl; place = refl }

kept_more : {x y z : Fleet} → Kept x y → Kept y z → Kept x z
kept_more k l = record { config = k.config ∙ l.config; negotiates = k.negotiates ∙ l.negotiates; place = k.place ∙ l.place }

pub kept_run : {P : ℕ → Bool} (acts : List Act) (x : Fleet) → Within P acts → Kept x (fleet_run x acts)
unfolding fleet_run
kept_run [] x none = record { config = refl; negotiates = refl; place = refl }
kept_run {P} (a ∷ acts) x (then p w) = kept_more (kept-after P x a p) (kept_run acts (fleet_after x a) w)

-- another box's number
pub but-is : (j k : ℕ) → but k j ≡ true → k ≢ j
but-is j k p e = never {A = ⊥} (sym p ∙ ap not (eq-eqb j k (sym e)))

pub is-but : (j k : ℕ) → k ≢ j → but k j ≡ true
is-but j k h = ap not (ne_eqb j k (λ e. h (sym e)))

put-else : (x : Fleet) (j k : ℕ) (b : Box) → but k j ≡ true → (change x j b).boxes k ≡ x.boxes k
put-else x j k b p = ap (λ (t : Bool). cond t b (x.boxes k)) (ne_eqb k j (but-is j k p))

-- an event of one box, whichever
abbrev pub anyone : ℕ → Bool
anyone k = true

pub within-anyone : (P : ℕ → Bool) (e : Event) → within P e ≡ true → within anyone e ≡ true
within-anyone P (Send j) p = refl
within-anyone P (Hear j q) p = refl
within-anyone P Close p = p
within-anyone P (Take j i) p = refl
within-anyone P End p = p
within-anyone P (Want j d) p = refl
within-anyone P (Crash j) p = refl
within-anyone P (Restart j flags) p = refl

pub within-actor : (P : ℕ → Bool) (e : Event) → within P e ≡ true → P (acting_box e) ≡ true
within-actor P (Send j) p = p
within-actor P (Hear j q) p = p
within-actor P Close p = never (sym p)
within-actor P (Take j i) p = and_left (P j) (P i) p
within-actor P End p = never (sym p)
within-actor P (Want j d) p = p
within-actor P (Crash j) p = p
within-actor P (Restart j flags) p = p

else-next : (x : Fleet) (k : ℕ) (e : Event) (left : List ℕ) → within anyone e ≡ true → but k (acting_box e) ≡ true
    → (next_fleet x e left).boxes k ≡ x.boxes k
else-next x k (Send j) left w p = refl
else-next x k (Hear j q) left w p = put-else x j k _ p
else-next x k Close left w p = never (sym w)
else-next x k (Take j i) left w p = put-else x j k _ p
else-next x k End left w p = never (sym w)
else-next x k (Want j d) left w p = put-else x j k _ p
else-next x k (Crash j) left w p = put-else x j k _ p
else-next x k (Restart j flags) left w p = put-else x j k _ p

-- an event leaves every box that it is not of
pub else-after : (x : Fleet) (k : ℕ) (a : Act) → within anyone a.event ≡ true → but k (acting_box a.event) ≡ true
    → (fleet_after x a).boxes k ≡ x.boxes k
unfolding fleet_after
else-after x k a w p = read_same (λ (z : Fleet). z.boxes k) (is_done (fleet_answer x a.event)) _ x _
    (else-next x k a.event a.left w p) refl

pub else-run : (k : ℕ) (acts : List Act) (x : Fleet) → Within (but k) acts → (fleet_run x acts).boxes k ≡ x.boxes k
unfolding fleet_run
else-run k [] x none = refl
else-run k (a ∷ acts) x (then p w) = else-run k acts (fleet_after x a) w
    ∙ else-after x k a (within-anyone (but k) a.event p) (within-actor (but k) a.event p)

-- In distribution no packet is sent

quiet-send : (n t : Bool) (a : Answer) → n ≡ false → is_done (cond t NoSuchNode (cond (not n) WrongPhase a)) ≡ false
quiet-send n true a e = refl
quiet-send n false a e = ap (λ (b : Bool). is_done (cond (not b) WrongPhase a)) e

silent : (x : Fleet) (j : ℕ) → x.negotiates ≡ false → is_done (fleet_send x j) ≡ false
unfolding fleet_send
silent x j e =
    quiet-send x.negotiates (outside x.config j)
    (cond (not (live (x.boxes j))) NotLive (cond (leb top_sent (sent_of x.sent j)) TooManyPackets
    (sending_of (x.boxes j).area (zeros packet_size)))) e

pub record Quiet (x y : Fleet) : Type 0 where
  pub air : x.air ≡ y.air
  pub sent : x.sent ≡ y.sent

pub quiet : (x : Fleet) (a : Act) → within anyone a.event ≡ true → x.negotiates ≡ false → Quiet x (fleet_after x a)
unfolding fleet_after
quiet x a w n = go a.event w (is_done (fleet_answer x a.event)) refl
  where
    go : (e : Event) → within anyone e ≡ true → (t : Bool) → is_done (fleet_answer x e) ≡ t → Quiet x (cond t (next_fleet x e a.left) x)
    go e w false d = record { air = refl; sent = refl }
    go (Send j) w true d = never (sym d ∙ silent x j n)
    go (Hear j q) w true d = record { air = refl; sent = refl }
    go Close w true d = never (sym w)
    go (Take j i) w true d = record { air = refl; sent = refl }
    go End w true d = never (sym w)
    go (Want j v) w true d = record { air = refl; sent = refl }
    go (Crash j) w true d = record { air = refl; sent = refl }
    go (Restart j flags) w true d = record { air = refl; sent = refl }
