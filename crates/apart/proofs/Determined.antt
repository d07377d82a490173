-- What boxes apart determined, read off the field after the sorted events.
-- Assumes nothing.
use mathlib.Core.Path.{◌≡◌, refl, sym, ap, ap₂, ◌∙◌, subst}
use mathlib.Core.Bool.{Bool, true, false, not, cond, ◌&&◌}
use mathlib.Core.Logic.{◌≢◌}
use mathlib.Core.List.Memᴰ
use mathlib.Core.List.{List, [], ◌∷◌, ◌++◌, Memᴰ}
use Prim.Native.Nat.{ℕ, zero, suc, ◌+◌, ◌*◌, ◌%◌, ◌≤◌, ◌<◌}
use native.Mathlib.Omega.{arith}
use native.Mathlib.Decide.{dec_lt}
use borrow.Author.Tests.{eqb-true, eq-eqb, ne_eqb, le-leb, leb-true, not-false}
use lib.Dec.{eqb, leb}
use Rattle.words.specs.Bits.{size, is_in}
use Rattle.words.proofs.Tests.{never, clash, same_or_not, both, and_left, and_right, read_same}
use Rattle.membership.specs.requests.Requests.{entry_of}
use Rattle.node.specs.Answers.{is_done}
use Rattle.node.specs.Figures.{flags_ok, is_last}
use Rattle.node.specs.Close.{determines, new_schedule}
use Rattle.node.specs.Model.{Node}
use Rattle.node.specs.Answers.{Answer}
use Rattle.node.specs.Answers.{Done, OutOfRange, NoSuchNode, NotLive}
use Rattle.area.specs.Area.{decoded}
use Rattle.site.specs.Members.{setup_of, outside}
use Rattle.node.specs.declared.Config.{Config}
use Rattle.site.specs.declared.Table.{Table}
use Rattle.site.specs.declared.Event.{Event}
use Rattle.site.specs.declared.Event.TheVariants.{Send, Hear, Close, Take, End, Want, Crash, Restart}
use Rattle.boxes.specs.fleet.Fleet.{Box, Fleet, Act, reading, box_phase, live, change, crashed, fleet_crash, fleet_restart, fleet_answer}
use Rattle.boxes.specs.fleet.Fleet.{next_fleet}
use Rattle.boxes.specs.fleet.Fleet.{fleet_after, fleet_run, begun_fleet}
use Rattle.boxes.specs.fleet.Past.{BoxDetermination, BoxPast, box_determination, box_determined_by, boxes_determined, at_close, box_past_at_end}
use Rattle.boxes.specs.fleet.Past.{box_noted}
use Rattle.boxes.specs.fleet.Past.{box_past_after, box_trace, no_box_past}
use Rattle.boxes.specs.fleet.Claim.{Begins, BoxHeld, BoxJustified, SameBoxDetermination}
use Rattle.boxes.proofs.fleet.Theorem.{fleet-holds}
use Rattle.apart.specs.Apart.{Apart, box_now, negotiation, last_phase, tick_box, between, sorted}
use Rattle.apart.specs.Determined.{place_of_phase, epoch_of, start_of, node_in_phase, Determines, determined}
use Rattle.apart.proofs.Local.{Like, within, Within, none, then, within-snoc, but, is-but, kept_run, anyone}
use Rattle.apart.proofs.Sync.{Kind, kind, talk, rest, last, closes, rests, ends, tick-box, sync, start, sync-is, sync-phase, longer}
use Rattle.apart.proofs.Sync.{longer-there, longer-else, sync-there, sync-later}
use Rattle.apart.proofs.Keeps.{Inv}
use Rattle.apart.proofs.Near.{tick-up}

-- The past of a list of events

trace-append : (acts more : List Act) (y : BoxPast) (x : Fleet)
    → box_trace y x (acts ++ more) ≡ box_trace (box_trace y x acts) (fleet_run x acts) more
unfolding box_trace fleet_run
trace-append [] more y x = refl
trace-append (a ∷ acts) more y x = trace-append acts more (box_past_after y x a) (fleet_after x a)

-- events of one box note nothing
noted-none : (P : ℕ → Bool) (y : BoxPast) (x z : Fleet) (e : Event) → within P e ≡ true → box_noted y x e z ≡ y
noted-none P y x z (Send j) p = refl
noted-none P y x z (Hear j q) p = refl
noted-none P y x z Close p = never (sym p)
noted-none P y x z (Take j i) p = refl
noted-none P y x z End p = never (sym p)
noted-none P y x z (Want j d) p = refl
noted-none P y x z (Crash j) p = refl
noted-none P y x z (Restart j flags) p = refl

after_none : (P : ℕ → Bool) (y : BoxPast) (x : Fleet) (a : Act) → within P a.event ≡ true → box_past_after y x a ≡ y
unfolding box_past_after
after_none P y x a p = read_same (λ (z : BoxPast). z) (is_done (fleet_answer x a.event)) (box_noted y x a.event (fleet_after x a)) y y
    (noted-none P y x (fleet_after x a) a.event p) refl

trace-none : {P : ℕ → Bool} (acts : List Act) (y : BoxPast) (x : Fleet) → Within P acts → box_trace y x acts ≡ y
unfolding box_trace
trace-none [] y x none = refl
trace-none {P} (a ∷ acts) y x (then p w) = trace-none acts (box_past_after y x a) (fleet_after x a) w ∙ after_none P y x a p

-- between two phases
module _ (s : ℕ) (y : BoxPast) (x : Fleet) where
  trace-closes : negotiation s ≡ true → x.negotiates ≡ true → box_trace y x (between s) ≡ at_close y x
  unfolding between box_trace box_past_after
  trace-closes e n = rw (e, n) refl

  trace-rests : negotiation s ≡ false → last_phase s ≡ false → box_trace y x (between s) ≡ y
  unfolding between box_trace
  trace-rests e f = rw (e, f) refl

  trace-ends : negotiation s ≡ false → last_phase s ≡ true → x.negotiates ≡ false
      → box_trace y x (between s) ≡ box_past_at_end y x (fleet_run x (between s))
  unfolding between box_trace box_past_after fleet_run
  trace-ends e f n = rw (e, f, n) refl

-- a box that determines is noted
noted-box : (n : ℕ) (y : BoxPast) (boxes : ℕ → Box) (j : ℕ) → 1 ≤ j → j ≤ n → live (boxes j) ≡ true
    → determines (decoded (boxes j).area) ≡ true
    → Memᴰ (box_determination y j (decoded (boxes j).area)) (boxes_determined n y boxes)
unfolding boxes_determined
noted-box zero y boxes j l m v t = absurd (omega arith)
noted-box (suc n) y boxes j l m v t = same_or_not j (suc n)
    (λ e. Memᴰ.append_right (boxes_determined n y boxes)
    (subst (λ (i : ℕ). Memᴰ (box_determination y j (decoded (boxes j).area)) (box_determined_by y i (boxes i))) e
    (subst (λ (b : Bool). Memᴰ (box_determination y j (decoded (boxes j).area))
    (cond b (box_determination y j (decoded (boxes j).area) ∷ []) [])) (sym (both v t)) (Memᴰ.head refl))))
    (λ e. Memᴰ.append_left (box_determined_by y (suc n) (boxes (suc n))) (noted-box n y boxes j l (omega (arith, e, m)) v t))

negotiation-not-last : (s : ℕ) → negotiation s ≡ true → last_phase s ≡ false
negotiation-not-last s e = let h : s % 3 ≡ 0 = eqb-true (s % 3) 0 e in ne_eqb (s % 3) 2 (λ g. omega (arith, h, g))

-- The field after the sorted events: its figures, its place, and its past

module _ (x : Fleet) (n : x.negotiates ≡ true) (log : ℕ → List Act) (w : (s : ℕ) → Within anyone (log s)) (z : x.place ≡ 0) where
  abbrev f : Config
  f = x.config

  abbrev X : ℕ → Fleet
  X s = sync log x s

  said : (s : ℕ) → (X s).negotiates ≡ negotiation s
  said = sync-phase log x n w

  pub config-is : (s : ℕ) → (X s).config ≡ f
  config-is zero = ap (λ (y : Fleet). y.config) (sync-is log x zero) ∙ sym (kept_run (log zero) x (w zero)).config
  config-is (suc s) = ap (λ (y : Fleet). y.config) (sync-is log x (suc s))
      ∙ sym (kept_run (log (suc s)) (start log x (suc s)) (w (suc s))).config ∙ go (kind s) ∙ config-is s
    where
      go : Kind s → (fleet_run (X s) (between s)).config ≡ (X s).config
      go (talk e g) = ap (λ (y : Fleet). y.config) (closes s (X s) e (said s ∙ e))
      go (rest e f g) = ap (λ (y : Fleet). y.config) (rests s (X s) e f)
      go (last e f g) = ap (λ (y : Fleet). y.config) (ends s (X s) e f (said s ∙ e))

  pub place_is : (s : ℕ) → (X s).place ≡ place_of_phase f s
  unfolding place_of_phase
  place_is zero = ap (λ (y : Fleet). y.place) (sync-is log x zero) ∙ sym (kept_run (log zero) x (w zero)).place ∙ z
  place_is (suc s) = ap (λ (y : Fleet). y.place) (sync-is log x (suc s))
      ∙ sym (kept_run (log (suc s)) (start log x (suc s)) (w (suc s))).place ∙ go (place_is s) (kind s)
    where
      p : ℕ
      p = place_of_phase f s

      on : (t : Bool) → last_phase s ≡ t → cond t (cond (is_last f p) 0 (p + 1)) p
          ≡ cond (last_phase s) (cond (is_last f p) 0 (p + 1)) p
      on t e = ap (λ (b : Bool). cond b (cond (is_last f p) 0 (p + 1)) p) (sym e)

      go : (X s).place ≡ p → Kind s → (fleet_run (X s) (between s)).place ≡ cond (last_phase s) (cond (is_last f p) 0 (p + 1)) p
      go b (talk e g) = ap (λ (y : Fleet). y.place) (closes s (X s) e (said s ∙ e)) ∙ b ∙ on false (negotiation-not-last s e)
      go b (rest e h g) = ap (λ (y : Fleet). y.place) (rests s (X s) e h) ∙ b ∙ on false h
      go b (last e h g) =
          ap (λ (y : Fleet). y.place) (ends s (X s) e h (said s ∙ e))
          ∙ ap₂ (λ (k : Config) (q : ℕ). cond (is_last k q) 0 (q + 1)) (config-is s) (b) ∙ on true h

  abbrev pub past : ℕ → BoxPast
  past s = box_trace (no_box_past x) x (sorted log s)

  past_first : past zero ≡ no_box_past x
  unfolding sorted
  past_first = trace-none (log zero) (no_box_past x) x (w zero)

  past_next : (s : ℕ) → past (suc s) ≡ box_trace (past s) (X s) (between s)
  unfolding sorted
  past_next s =
      trace-append (sorted log s ++ between s) (log (suc s)) (no_box_past x) x
      ∙ trace-none (log (suc s)) (box_trace (no_box_past x) x (sorted log s ++ between s)) (fleet_run x (sorted log s ++ between s)) (w (suc s))
      ∙ trace-append (sorted log s) (between s) (no_box_past x) x

  -- the boxes at a round's start
  pub past-start : (s : ℕ) → negotiation s ≡ true → (past s).start ≡ (start log x s).boxes
  past-start zero t = ap (λ (y : BoxPast). y.start) past_first
  past-start (suc s) t = go (kind s)
    where
      go : Kind s → (past (suc s)).start ≡ (start log x (suc s)).boxes
      go (talk e g) = never (sym t ∙ g)
      go (rest e h g) = never (sym t ∙ g)
      go (last e h g) = ap (λ (y : BoxPast). y.start) (past_next s ∙ trace-ends s (past s) (X s) e h (said s ∙ e))

  pub past-epoch : (s : ℕ) → (past s).epoch ≡ epoch_of f s
  unfolding epoch_of
  past-epoch zero = ap (λ (y : BoxPast). y.epoch) past_first
  past-epoch (suc s) = ap (λ (y : BoxPast). y.epoch) (past_next s) ∙ go (past-epoch s) (kind s)
    where
      p : ℕ
      p = place_of_phase f s

      q : ℕ
      q = epoch_of f s

      on : (t : Bool) → last_phase s ≡ t → cond t (cond (is_last f p) (suc q) q) q
          ≡ cond (last_phase s) (cond (is_last f p) (suc q) q) q
      on t e = ap (λ (b : Bool). cond b (cond (is_last f p) (suc q) q) q) (sym e)

      ended : (k : Config) (l m : ℕ) → k ≡ f → l ≡ p → m ≡ q → cond (is_last k l) (suc m) m
          ≡ cond (is_last f p) (suc q) q
      ended k l m a b c = λ i. cond (is_last (a i) (b i)) (suc (c i)) (c i)

      go : (past s).epoch ≡ q → Kind s → (box_trace (past s) (X s) (between s)).epoch
          ≡ cond (last_phase s) (cond (is_last f p) (suc q) q) q
      go b (talk e g) = ap (λ (y : BoxPast). y.epoch) (trace-closes s (past s) (X s) e (said s ∙ e)) ∙ b
          ∙ on false (negotiation-not-last s e)
      go b (rest e h g) = ap (λ (y : BoxPast). y.epoch) (trace-rests s (past s) (X s) e h) ∙ b ∙ on false h
      go b (last e h g) =
          ap (λ (y : BoxPast). y.epoch) (trace-ends s (past s) (X s) e h (said s ∙ e))
          ∙ ended (X s).config (X s).place (past s).epoch (config-is s) (place_is s) (b) ∙ on true h

  -- what is determined stays noted
  past-grows : (s : ℕ) (d : BoxDetermination) → Memᴰ d (past s).log → Memᴰ d (past (suc s)).log
  past-grows s d m = subst (λ (y : BoxPast). Memᴰ d y.log) (sym (past_next s)) (go (kind s))
    where
      go : Kind s → Memᴰ d (box_trace (past s) (X s) (between s)).log
      go (talk e g) = subst (λ (y : BoxPast). Memᴰ d y.log) (sym (trace-closes s (past s) (X s) e (said s ∙ e)))
          (Memᴰ.append_left (boxes_determined (X s).config.nodes (past s) (X s).boxes) m)
      go (rest e h g) = subst (λ (y : BoxPast). Memᴰ d y.log) (sym (trace-rests s (past s) (X s) e h)) m
      go (last e h g) = subst (λ (y : BoxPast). Memᴰ d y.log) (sym (trace-ends s (past s) (X s) e h (said s ∙ e))) m

  pub past-later : (s r : ℕ) (d : BoxDetermination) → s ≤ r → Memᴰ d (past s).log → Memᴰ d (past r).log
  past-later s zero d l m = let e : s ≡ 0 = omega arith in subst (λ (k : ℕ). Memᴰ d (past k).log) e m
  past-later s (suc r) d l m = same_or_not s (suc r) (λ e. subst (λ (k : ℕ). Memᴰ d (past k).log) e m)
      (λ e. past-grows r d (past-later s r d (omega (arith, e, l)) m))

  -- a box that determines in phase s
  pub logged : (s j : ℕ) → negotiation s ≡ true → 1 ≤ j → j ≤ f.nodes → live ((X s).boxes j) ≡ true
      → determines (decoded ((X s).boxes j).area) ≡ true
      → Memᴰ (box_determination (past s) j (decoded ((X s).boxes j).area)) (past (suc s)).log
  logged s j t l m v d =
      subst (λ (y : BoxPast). Memᴰ (box_determination (past s) j (decoded ((X s).boxes j).area)) y.log)
      (sym (past_next s ∙ trace-closes s (past s) (X s) t (said s ∙ t)))
      (Memᴰ.append_right (past s).log
      (noted-box (X s).config.nodes (past s) (X s).boxes j l (subst (λ (k : Config). j ≤ k.nodes) (sym (config-is s)) m) v d))

-- Boxes outside 1 to N are down

abbrev Numbered : Fleet → Type 0
Numbered x = (k : ℕ) → outside x.config k ≡ true → (x.boxes k).up ≡ false

put-down : (x : Fleet) (j k : ℕ) (b : Box) → (k ≡ j → b.up ≡ false) → (x.boxes k).up ≡ false → ((change x j b).boxes k).up ≡ false
put-down x j k b f h = go (eqb k j) refl
  where
    go : (t : Bool) → eqb k j ≡ t → (cond t b (x.boxes k)).up ≡ false
    go true e = f (eqb-true k j e)
    go false e = h

restart-out : (x : Fleet) (j flags : ℕ) → outside x.config j ≡ true → is_done (fleet_restart x j flags) ≡ false
unfolding fleet_restart
restart-out x j flags o = go (flags_ok (setup_of x.config j) flags) (outside x.config j) o _
  where
    go : (g o : Bool) → o ≡ true → (a : Answer) → is_done (cond g (cond o NoSuchNode a) OutOfRange) ≡ false
    go false o e a = refl
    go true o e a = ap (λ (t : Bool). is_done (cond t NoSuchNode a)) e

numbered_next : (x : Fleet) (e : Event) (left : List ℕ) → Numbered x → is_done (fleet_answer x e) ≡ true → Numbered (next_fleet x e left)
numbered_next x (Send j) left h d k o = h k o
numbered_next x (Hear j p) left h d k o = put-down x j k _ (λ e. ap (λ (i : ℕ). (x.boxes i).up) (sym e) ∙ h k o) (h k o)
numbered_next x Close left h d k o = read_same (λ (c : Box). c.up) (live (x.boxes k)) _ (x.boxes k) false (h k o) (h k o)
numbered_next x (Take j i) left h d k o = put-down x j k _ (λ e. ap (λ (i : ℕ). (x.boxes i).up) (sym e) ∙ h k o) (h k o)
numbered_next x End left h d k o = read_same (λ (c : Box). c.up) (x.boxes k).up _ (x.boxes k) false (h k o) (h k o)
numbered_next x (Want j v) left h d k o = put-down x j k _ (λ e. ap (λ (i : ℕ). (x.boxes i).up) (sym e) ∙ h k o) (h k o)
numbered_next x (Crash j) left h d k o = put-down x j k _ (λ e. refl) (h k o)
numbered_next x (Restart j flags) left h d k o = put-down x j k _
    (λ e. never (sym d ∙ restart-out x j flags (ap (outside x.config) (sym e) ∙ o))) (h k o)

numbered-after : (x : Fleet) (a : Act) → Numbered x → Numbered (fleet_after x a)
unfolding fleet_after
numbered-after x a h = go (is_done (fleet_answer x a.event)) refl
  where
    go : (t : Bool) → is_done (fleet_answer x a.event) ≡ t → Numbered (cond t (next_fleet x a.event a.left) x)
    go true d = numbered_next x a.event a.left h d
    go false d = h

numbered-run : (acts : List Act) (x : Fleet) → Numbered x → Numbered (fleet_run x acts)
unfolding fleet_run
numbered-run [] x h = h
numbered-run (a ∷ acts) x h = numbered-run acts (fleet_after x a) (numbered-after x a h)

numbered-begun : (f : Config) (t : Table) (left : ℕ → List ℕ) → Numbered (begun_fleet f t left)
unfolding begun_fleet
numbered-begun f t left k o = ap not o

-- behind a crash, refused or not, a box is down
crash-no : (o u : Bool) → is_done (cond o NoSuchNode (cond u Done NotLive)) ≡ false → (o ≡ true → u ≡ false) → u ≡ false
crash-no true u d h = h refl
crash-no false true d h = never d
crash-no false false d h = refl

abbrev crash : ℕ → Act
crash k = record { event = Crash k; left = [] }

crash-down : (x : Fleet) (k : ℕ) → Numbered x → ((fleet_after x (crash k)).boxes k).up ≡ false
unfolding fleet_after fleet_crash
crash-down x k h = go (is_done (fleet_crash x k)) refl
  where
    go : (t : Bool) → is_done (fleet_crash x k) ≡ t → ((cond t (next_fleet x (Crash k) []) x).boxes k).up ≡ false
    go true d = ap (λ (t : Bool). (cond t (crashed []) (x.boxes k)).up) (eq-eqb k k refl)
    go false d = crash-no (outside x.config k) (x.boxes k).up d (h k)

down-live : (b : Box) → b.up ≡ false → live b ≡ false
unfolding live
down-live b e = ap (λ (t : Bool). t && not (eqb (box_phase (reading b)) 3)) e

-- What boxes apart determined

module _ (f : Config) (t : Table) (left : ℕ → List ℕ) (b : Begins f t left) where
  abbrev x : Fleet
  x = begun_fleet f t left

  begun-talks : x.negotiates ≡ true
  unfolding begun_fleet
  begun-talks = refl

  pub begun-place : x.place ≡ 0
  unfolding begun_fleet
  begun-place = refl

  pub begun-config : x.config ≡ f
  unfolding begun_fleet
  begun-config = refl

  module _ (u : f.split ≡ 0) where
    -- of the field after sorted events
    module _ (log : ℕ → List Act) (w : (s : ℕ) → Within anyone (log s)) (s j : ℕ) (g : negotiation s ≡ true) (l : 1 ≤ j) (m : j ≤ f.nodes)
      where
        abbrev Y : Fleet
        Y = sync log x s

        there : live (Y.boxes j) ≡ true → determines (decoded (Y.boxes j).area) ≡ true
            → Memᴰ (box_determination (past x begun-talks log w begun-place s) j (decoded (Y.boxes j).area))
            (past x begun-talks log w begun-place (suc s)).log
        there v d = logged x begun-talks log w begun-place s j g l (subst (λ (k : Config). j ≤ k.nodes) (sym begun-config) m) v d

        rests-on : live (Y.boxes j) ≡ true → determines (decoded (Y.boxes j).area) ≡ true
            → BoxJustified f.nodes (box_determination (past x begun-talks log w begun-place s) j (decoded (Y.boxes j).area))
        rests-on v d = ((fleet-holds.demand3 f t left b (sorted log (suc s))).justified u).justified _ (there v d)

    module _ (A : Apart) (v : Inv x A) where
      abbrev log : ℕ → List Act
      log = A.log

      abbrev was : ℕ → BoxPast
      was = past x begun-talks log v.some begun-place

      is-there : (s j : ℕ) → s ≤ A.clock j → (A.phases s).boxes j ≡ (sync log x s).boxes j
      is-there s j c = (v.each s).boxes j (le-leb s (A.clock j) c)

      node-is : (s j : ℕ) → s ≤ A.clock j → node_in_phase A s j ≡ decoded ((sync log x s).boxes j).area
      node-is s j c = ap (λ (z : Box). decoded z.area) (is-there s j c)

      start_is : (s k : ℕ) → s ≤ A.clock k → start_of f t left A s k ≡ (start log x s).boxes k
      start_is zero k c = refl
      start_is (suc s) k c = ap (tick_box s) (is-there s k (omega arith))
          ∙ sym (tick-box s (sync log x s) k (sync-phase log x begun-talks v.some s))

      -- a box that has not come to the round could as well have crashed before it, and so is none of those whose requests were counted
      not-come : (s j k : ℕ) → Determines f A (suc s) j → is_in (node_in_phase A (suc s) j).round.merged k ≡ true → A.clock k < suc s → ⊥
      not-come s j k D i l = never {A = ⊥} (sym lives ∙ down)
        where
          longer-log : ℕ → List Act
          longer-log = longer log x s (crash k)

          some : (r : ℕ) → Within anyone (longer-log r)
          some r = same_or_not r s
              (λ e. subst (Within anyone) (sym (ap longer-log e ∙ longer-there log x s (crash k)))
              (within-snoc (log s) (crash k) (v.some s) refl))
              (λ e. subst (Within anyone) (sym (longer-else log x s (crash k) r e)) (v.some r))

          same : Like (but k) (sync log x (suc s)) (sync longer-log x (suc s))
          same = sync-later log x s (crash k) begun-talks v.some refl (λ r m. v.off r k (omega (arith, l, m))) (suc s) (omega arith)

          others : k ≢ j
          others e = let c = D.negotiates.came in let g : A.clock k ≡ A.clock j = ap A.clock e in omega (arith, l, c, g)

          own : (A.phases (suc s)).boxes j ≡ (sync longer-log x (suc s)).boxes j
          own = is-there (suc s) j D.negotiates.came ∙ same.boxes j (is-but j k others)

          held : BoxJustified f.nodes (box_determination (past x begun-talks longer-log some begun-place (suc s)) j
              (decoded ((sync longer-log x (suc s)).boxes j).area))
          held = rests-on longer-log some (suc s) j D.negotiates.phase D.negotiates.number D.number
              (sym (ap live own) ∙ D.negotiates.lives) (sym (ap (λ (z : Box). determines (decoded z.area)) own) ∙ D.determines)

          began : (past x begun-talks longer-log some begun-place (suc s)).start k ≡ tick_box s ((fleet_after (sync log x s) (crash k)).boxes k)
          began =
              ap (λ (z : ℕ → Box). z k) (past-start x begun-talks longer-log some begun-place (suc s) D.negotiates.phase)
              ∙ tick-box s (sync longer-log x s) k (sync-phase longer-log x begun-talks some s)
              ∙ ap (λ (z : Fleet). tick_box s (z.boxes k)) (sync-there log x s (crash k))

          lives : live (tick_box s ((fleet_after (sync log x s) (crash k)).boxes k)) ≡ true
          lives = sym (ap live began) ∙ (held.held k (sym (ap (λ (z : Box). is_in (decoded z.area).round.merged k) own) ∙ i)).live

          down : live (tick_box s ((fleet_after (sync log x s) (crash k)).boxes k)) ≡ false
          down = down-live _ (tick-up s ((fleet_after (sync log x s) (crash k)).boxes k)
              ∙ crash-down (sync log x s) k (numbered-run (sorted log s) x (numbered-begun f t left)))

      pub have-come : (s j k : ℕ) → Determines f A s j → is_in (node_in_phase A s j).round.merged k ≡ true → s ≤ A.clock k
      have-come zero j k D i = omega arith
      have-come (suc s) j k D i = go (dec_lt (A.clock k) (suc s))
        where
          go : Dec (A.clock k < suc s) → suc s ≤ A.clock k
          go (yes l) = absurd (not-come s j k D i l)
          go (no l) = omega arith

      noted : (s j : ℕ) → Determines f A s j → Memᴰ (box_determination (was s) j (decoded ((sync log x s).boxes j).area))
          (was (suc s)).log
      noted s j D = there log v.some s j D.negotiates.phase D.negotiates.number D.number
          (sym (ap live (is-there s j D.negotiates.came)) ∙ D.negotiates.lives)
          (sym (ap determines (node-is s j D.negotiates.came)) ∙ D.determines)

      pub all-justified : (s j : ℕ) → Determines f A s j → BoxJustified f.nodes (determined f t left A s j)
      all-justified s j D =
          let e = node-is s j D.negotiates.came in
          let g = ((fleet-holds.demand3 f t left b (sorted log (suc s))).justified u).justified _ (noted s j D) in
          record {
            most = subst (λ (n : Node). f.nodes < 2 * size n.round.merged) (sym e) g.most;
            held = λ k i.
                subst (λ (z : Box). BoxHeld z (entry_of (node_in_phase A s j).round.known k) ((node_in_phase A s j).version + 1))
                (ap (λ (z : ℕ → Box). z k) (past-start x begun-talks log v.some begun-place s D.negotiates.phase)
                ∙ sym (start_is s k (have-come s j k D i)))
                (subst (λ (n : Node). BoxHeld ((was s).start k) (entry_of n.round.known k) (n.version + 1)) (sym e)
                (g.held k (sym (ap (λ (n : Node). is_in n.round.merged k) e) ∙ i)));
          }

      pub all-unique : (s i r j : ℕ) → Determines f A s i → Determines f A r j → epoch_of f s ≡ epoch_of f r
          → SameBoxDetermination (determined f t left A s i) (determined f t left A r j)
      all-unique s i r j D E h =
          let d = node-is s i D.negotiates.came in
          let e = node-is r j E.negotiates.came in
          let q = ((fleet-holds.demand3 f t left b (sorted log (suc (s + r)))).justified u).unique _ _
          (past-later x begun-talks log v.some begun-place (suc s) (suc (s + r)) _ (omega arith) (noted s i D))
          (past-later x begun-talks log v.some begun-place (suc r) (suc (s + r)) _ (omega arith) (noted r j E))
          (epoch-is s ∙ h ∙ sym (epoch-is r)) in
          record {
            version = ap (λ (n : Node). n.version + 1) d ∙ q.version ∙ sym (ap (λ (n : Node). n.version + 1) e);
            schedule = ap new_schedule d ∙ q.schedule ∙ sym (ap new_schedule e);
            nodes = ap (λ (n : Node). n.round.merged) d ∙ q.nodes ∙ sym (ap (λ (n : Node). n.round.merged) e);
            requests = λ k m. ap (λ (n : Node). entry_of n.round.known k) d
                ∙ q.requests k (sym (ap (λ (n : Node). is_in n.round.merged k) d) ∙ m)
                ∙ sym (ap (λ (n : Node). entry_of n.round.known k) e);
          }
        where
          epoch-is : (s : ℕ) → (was s).epoch ≡ epoch_of f s
          epoch-is s = past-epoch x begun-talks log v.some begun-place s ∙ ap (λ (g : Config). epoch_of g s) begun-config

-- a box that is up has a number of the site
module _ (f : Config) (t : Table) (left : ℕ → List ℕ) (A : Apart) (v : Inv (begun_fleet f t left) A) where
  pub config-now : (s : ℕ) → (A.phases s).config ≡ f
  unfolding begun_fleet
  config-now s = (v.each s).config ∙ config-is (begun_fleet f t left) v.begun A.log v.some refl s

  pub up-known : (k : ℕ) → (box_now A k).up ≡ true → outside f k ≡ false
  unfolding begun_fleet
  up-known k u = go (outside f k) refl
    where
      c : ℕ
      c = A.clock k

      down : outside f k ≡ true → (box_now A k).up ≡ false
      down o =
          ap (λ (b : Box). b.up) ((v.each c).boxes k (le-leb c c (omega arith)))
          ∙ numbered-run (sorted A.log c) (begun_fleet f t left) (numbered-begun f t left) k
          (ap (λ (g : Config). outside g k) (config-is (begun_fleet f t left) v.begun A.log v.some refl c) ∙ o)

      go : (o : Bool) → outside f k ≡ o → outside f k ≡ false
      go true e = clash _ u (down e)
      go false e = e

  pub up-inside : (k : ℕ) → (box_now A k).up ≡ true → (1 ≤ k) × (k ≤ f.nodes)
  up-inside k u =
      let p : (leb 1 k && (leb k f.nodes && leb k 32)) ≡ true = not-false _ (up-known k u) in (
        leb-true 1 k (and_left (leb 1 k) _ p),
        leb-true k f.nodes
            (and_left (leb k f.nodes) (leb k 32) (and_right (leb 1 k) (leb k f.nodes && leb k 32) p)),
      )
