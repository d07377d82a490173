-- A want right before the end of a box that is up.
-- Assumes nothing.
use mathlib.Core.Path.{◌≡◌, refl, sym, ap, ap₂, ◌∙◌}
use mathlib.Core.Bool.{Bool, true, false, cond}
use mathlib.Core.List.{List, [], ◌∷◌}
use Prim.Native.Nat.{ℕ, suc, ◌%◌}
use native.Mathlib.Omega.{arith}
use borrow.Author.Tests.{eq-eqb, ne_eqb, eqb-true}
use lib.Dec.{eqb, ltb}
use Rattle.words.proofs.Tests.{never}
use Rattle.allotment.specs.Allotment.{top_request}
use Rattle.node.specs.Answers.{is_done}
use Rattle.node.specs.Steps.{wanted_node}
use Rattle.node.specs.Answers.{Done, OutOfRange, NoSuchNode, NotANode, NotLive}
use Rattle.area.specs.Area.{encoded, decoded, valid}
use Rattle.host.specs.Calls.{wanting_of, after_want, after_end}
use Rattle.site.specs.Members.{outside}
use Rattle.site.specs.declared.Event.TheVariants.{Want}
use Rattle.boxes.specs.fleet.Fleet.{Box, Fleet, Act, box_holding, change, fleet_want, fleet_after, close_box, end_box}
use Rattle.apart.specs.Apart.{tick, act, Apart, negotiation, last_phase, box_now, tick_box, acted, ticked, apart_run}
use Rattle.apart.proofs.Near.{acted-clock}

not-negotiation : (s : ℕ) → last_phase s ≡ true → negotiation s ≡ false
not-negotiation s e = let h : s % 3 ≡ 2 = eqb-true (s % 3) 2 e in ne_eqb (s % 3) 0 (λ g. omega (arith, h, g))

end_of : (s : ℕ) (b : Box) → last_phase s ≡ true → b.up ≡ true → tick_box s b ≡ box_holding b (after_end b.area)
end_of s b e u = ap₂ (λ (p q : Bool). cond p (close_box b) (cond q (end_box b) b)) (not-negotiation s e) e
    ∙ ap (λ (t : Bool). cond t (box_holding b (after_end b.area)) b) u

-- a want of a box that is up: refused or not, the area is what the call leaves
want-box : (x : Fleet) (j d : ℕ) → (x.boxes j).up ≡ true → outside x.config j ≡ false
    → (fleet_after x (record { event = Want j d; left = [] })).boxes j ≡ box_holding (x.boxes j) (after_want (x.boxes j).area d)
unfolding fleet_after fleet_want after_want wanting_of
want-box x j d u o = go (outside x.config j) (x.boxes j).up (ltb top_request d) (valid b.area) o u
  where
    b : Box
    b = x.boxes j

    put : (e : Box) → cond (eqb j j) e b ≡ e
    put e = ap (λ (t : Bool). cond t e b) (eq-eqb j j refl)

    left : Bool → Bool → List ℕ
    left p q = cond (is_done (cond p OutOfRange (cond q Done NotANode))) (encoded (wanted_node (decoded b.area) d)) b.area

    go : (r s p q : Bool) → r ≡ false → s ≡ true
        → (cond (is_done (cond p OutOfRange (cond r NoSuchNode (cond s (cond p OutOfRange (cond q Done NotANode)) NotLive))))
        (change x j (box_holding b (left p q))) x).boxes j ≡ box_holding b (left p q)
    go true s p q e f = never e
    go false false p q e f = never (sym f)
    go false true true q e f = refl
    go false true false true e f = put _
    go false true false false e f = refl

module _ (A : Apart) (j : ℕ) (u : (box_now A j).up ≡ true) (o : outside (A.phases (A.clock j)).config j ≡ false)
    (l : last_phase (A.clock j) ≡ true) (d : ℕ) where
  abbrev c : ℕ
  c = A.clock j

  abbrev wanting : Act
  wanting = record { event = Want j d; left = [] }

  wanted : box_now (acted A wanting) j ≡ box_holding (box_now A j) (after_want (box_now A j).area d)
  unfolding acted
  wanted = ap (λ (t : Bool). (cond t (fleet_after (A.phases c) wanting) (A.phases c)).boxes j) (eq-eqb c c refl)
      ∙ want-box (A.phases c) j d u o

  ended : (B : Apart) → B.clock j ≡ c → (box_now B j).up ≡ true → (box_now (ticked B j) j).area ≡ after_end (box_now B j).area
  unfolding ticked
  ended B e w =
      let n = suc (B.clock j) in
      ap (λ (s : ℕ). (((ticked B j).phases s).boxes j).area) (ap (λ (t : Bool). cond t n (B.clock j)) (eq-eqb j j refl))
      ∙ ap (λ (t : Bool). ((cond t (change (B.phases n) j (tick_box (B.clock j) (box_now B j))) (B.phases n)).boxes j).area)
      (eq-eqb n n refl)
      ∙ ap (λ (t : Bool). (cond t (tick_box (B.clock j) (box_now B j)) ((B.phases n).boxes j)).area) (eq-eqb j j refl)
      ∙ ap (λ (b : Box). b.area) (end_of (B.clock j) (box_now B j) (ap last_phase e ∙ l) w)

  pub want-and-end : (box_now (apart_run A (act wanting ∷ tick j ∷ [])) j).area ≡ after_end (after_want (box_now A j).area d)
  unfolding apart_run
  want-and-end = ended (acted A wanting) (acted-clock A wanting j) (ap (λ (b : Box). b.up) wanted ∙ u)
      ∙ ap (λ (b : Box). after_end b.area) wanted
