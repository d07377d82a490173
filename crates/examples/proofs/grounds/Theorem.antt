-- The ground of a close is tied to Algorithm 1's branches: the statement of specs/Rules.antt, proved for every node.
-- Assumes nothing.
use mathlib.Core.Path.{◌≡◌, refl, sym, ap, ◌∙◌, subst}
use mathlib.Core.List.{List}
use mathlib.Core.Bool.{Bool, true, false, not, cond, ◌&&◌, ◌||◌}
use Prim.Native.Nat.{ℕ, ◌-◌, ◌^◌, ◌<◌}
use native.Mathlib.Omega.{arith}
use lib.Dec.{eqb, ltb}
use borrow.Author.Tests.{eq-eqb, lt-ltb, ltb-true, not-true}
use Rattle.words.specs.Bits.{has_bit}
use Rattle.words.proofs.Tests.{clash, is_false, and_left, and_right, or-front}
use Rattle.membership.specs.requests.Requests.{requesters, lacks, lowest_missing}
use Rattle.membership.proofs.requests.Firsts.{first-within, first-has, first-least}
use Rattle.membership.proofs.requests.Missing.{asks, has_one, all-if, none-if}
use Rattle.node.specs.Figures.{top_version, splits, enough, successor, sending}
use Rattle.node.specs.Close.{complete, level, verdict, determining, repeating, due, repeats, determined_by, closed_node}
use Rattle.node.specs.Distribution.{sent_by}
use Rattle.node.specs.Grounds.{rule_of, missing_of}
use Rattle.node.specs.Model.{Node}
use Rattle.node.specs.declared.Verdict.{Verdict}
use Rattle.node.specs.declared.Rule.{Rule}
use Rattle.node.specs.declared.Rule.TheVariants.{RequestMissing, NoMajority, OwnLower, Repeating, AtTop, NotDue, NewSent}
use Rattle.node.proofs.Laws.{closes-so}
use Rattle.node.proofs.Made as made
use Rattle.node.proofs.Verdicts.{incomplete-repeats, level-repeats, repeats-tests, judged, complete-so, verdict-so, rule-so}
use Rattle.examples.specs.grounds.Rules.{informed, decides, branch, is_silent, Exact, Sending, Missing, GroundsRight}
use Rattle.examples.proofs.grounds.Outcomes.{ruled, holds, met, alone}

-- the verdict, by the tests behind it
verdict-is : (n : Node) → verdict n ≡ judged (informed n && enough n.setup.config n.round.merged) (level n)
    (ltb n.version top_version)
    (eqb n.version n.round.highest)
verdict-is n = verdict-so n ∙ ap (λ (c : Bool). judged c (level n) (ltb n.version top_version) (eqb n.version n.round.highest))
    (complete-so n)

-- a branch by its tests
by_tests : (n : Node) (r : Rule) → branch r n ≡ holds r (due n) n.epoch.updated (informed n)
    (enough n.setup.config n.round.merged)
    (level n) (ltb n.version top_version) (eqb n.version n.round.highest)
by_tests n RequestMissing = refl
by_tests n NoMajority = refl
by_tests n OwnLower = ap (λ (c : Bool). decides n && (c && (not (level n) && not (eqb n.version n.round.highest)))) (complete-so n)
by_tests n Repeating = ap (λ (v : Verdict). decides n && repeating v) (verdict-is n)
by_tests n AtTop = ap (λ (c : Bool). decides n && (c && (level n && not (ltb n.version top_version)))) (complete-so n)
by_tests n NotDue = ap (λ (v : Verdict). not (due n) && (determining v || n.epoch.updated)) (verdict-is n)
by_tests n NewSent = refl

exact : (n : Node) → Exact n
exact n =
    record {
      given = ap (λ (r : Rule). branch r n) (rule-so n) ∙ by_tests n
          (ruled (due n) n.epoch.updated (informed n) (enough n.setup.config n.round.merged) (level n)
          (ltb n.version top_version)
          (eqb n.version n.round.highest)) ∙ met (due n) n.epoch.updated (informed n)
          (enough n.setup.config n.round.merged)
          (level n) (ltb n.version top_version) (eqb n.version n.round.highest);
      only = λ r h. rule-so n ∙ alone (due n) n.epoch.updated (informed n) (enough n.setup.config n.round.merged) (level n)
          (ltb n.version top_version) (eqb n.version n.round.highest) r (sym (by_tests n r) ∙ h);
    }

module _ (n : Node) where
  -- the conditions of a rule that is given
  under : (r : Rule) → rule_of n ≡ r → branch r n ≡ true
  under r e = subst (λ (x : Rule). branch x n ≡ true) e (exact n).given

  -- where this round's tests decide, no new schedule is sent
  undecided : decides n ≡ true → due n ≡ false
  undecided h = not-true _ (and_left (not (due n)) (not n.epoch.updated) h)

  sends-so : sending (closed_node n).phase ≡ (due n || repeats n)
  sends-so = ap sending (closes-so n).phase

  sends-old : due n ≡ false → sending (closed_node n).phase ≡ repeats n
  sends-old f = sends-so ∙ ap (λ (t : Bool). t || repeats n) f

  -- a node that isn't complete doesn't repeat
  missing-silent : informed n ≡ false → repeats n ≡ false
  missing-silent h = incomplete-repeats n (complete-so n ∙ ap (λ (t : Bool). t && enough n.setup.config n.round.merged) h)

  few-silent : informed n ≡ true → enough n.setup.config n.round.merged ≡ false → repeats n ≡ false
  few-silent g h = incomplete-repeats n (complete-so n ∙ ap (λ (t : Bool). t && enough n.setup.config n.round.merged) g ∙ h)

  -- where any set of nodes is enough, the rule for no majority is not given
  never-few : splits n.setup.config ≡ true → rule_of n ≡ NoMajority → ⊥
  never-few h e =
      let g = and_right (informed n) _ (and_right (decides n) _ (under NoMajority e)) in
      clash (enough n.setup.config n.round.merged) (or-front (splits n.setup.config) _ h) (not-true _ g)

  quiet : (r : Rule) → is_silent r ≡ true → branch r n ≡ true → (due n ≡ false) × (repeats n ≡ false)
  quiet RequestMissing s h = (undecided (and_left (decides n) _ h), missing-silent (not-true _ (and_right (decides n) _ h)))
  quiet NoMajority s h =
      let g = and_right (decides n) _ h in
      (undecided (and_left (decides n) _ h), few-silent (and_left (informed n) _ g) (not-true _ (and_right (informed n) _ g)))
  quiet OwnLower s h =
      let g = and_right (not (level n)) _ (and_right (complete n) _ (and_right (decides n) _ h)) in (
        undecided (and_left (decides n) _ h),
        is_false (repeats n) (λ y. clash (eqb n.version n.round.highest) (eq-eqb _ _ (repeats-tests n y).2) (not-true _ g)),
      )
  quiet Repeating s h = clash true refl (sym s)
  quiet AtTop s h =
      (undecided (and_left (decides n) _ h), level-repeats n (and_left (level n) _ (and_right (complete n) _ (and_right (decides n) _ h))))
  quiet NotDue s h = clash true refl (sym s)
  quiet NewSent s h = clash true refl (sym s)

  sent-so : (t : Bool) → due n ≡ t → sent_by (closed_node n) ≡ record {
    version = cond t (successor n.version) n.version;
    schedule = cond t (determined_by n) n.schedule;
  }
  sent-so t e = made.sends-so (closed_node n) ∙ (λ i. record {
    version = ((closes-so n).version ∙ ap (λ (b : Bool). cond b (successor n.version) n.version) e) i;
    schedule = ((closes-so n).schedule ∙ ap (λ (b : Bool). cond b (determined_by n) n.schedule) e) i;
  })

  sending-so : Sending n
  sending-so =
      record {
        new = λ e. (sends-so ∙ or-front (due n) (repeats n) (under NewSent e), sent-so true (under NewSent e));
        old = (under NewSent, λ d. (exact n).only NewSent d);
        again = λ e.
            let h = under Repeating e in
            let f = undecided (and_left (decides n) _ h) in
            (sends-old f ∙ and_right (decides n) _ h, sent-so false f ∙ sym (made.sends-so n));
        silent = λ s. let q = quiet (rule_of n) s (exact n).given in sends-old q.0 ∙ q.1;
        waits = λ e. sends-old (not-true _ (and_left (not (due n)) _ (under NotDue e)));
      }

module _ (n : Node) where
  abbrev w : ℕ
  w = n.round.merged

  abbrev l : List ℕ
  l = n.round.known

  abbrev b : ℕ
  b = requesters l

  abbrev p : ℕ → Bool
  p = lacks w l

  missing-so : w < 2 ^ 32 → Missing n
  unfolding lowest_missing
  missing-so s =
      record {
        none = (all-if w l s, none-if w l);
        lacking = λ h.
            let m = missing_of n in
            let y : p (m - 1) ≡ true = first-has p 32 0 h in
            let k : m - 1 < 32 = omega (arith, first-within p 32 0) in
            let z = lt-ltb 0 m h in (
              ap (λ (t : Bool). t && has_bit w (m - 1)) z ∙ and_left (has_bit w (m - 1)) _ y,
              ap (λ (t : Bool). t && has_bit b (m - 1)) z ∙ asks w l (m - 1) k true (and_right (has_bit w (m - 1)) _ y),
            );
        least = λ j h i.
            let q = and_left (ltb 0 j) _ i in
            let g = ltb-true 0 j q in
            let f : p (j - 1) ≡ false = first-least p 32 0 (j - 1) (omega arith) (omega (arith, g, h)) in
            ap (λ (t : Bool). t && has_bit b (j - 1)) q ∙ has_one w l (j - 1) (omega (arith, h, first-within p 32 0)) f
            (and_right (ltb 0 j) _ i);
        small = first-within p 32 0;
      }

pub grounds-right : GroundsRight
grounds-right = record { exact = exact; sending = sending-so; missing = missing-so; split = never-few }
