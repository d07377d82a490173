-- Where recovery asks whether the site may split: its live nodes are enough, and where it may not, those with one version hold one
-- schedule. No other module of this crate asks for it.
-- Assumes nothing.
use mathlib.Core.Path.{◌≡◌, refl, sym, ap, ◌∙◌, subst}
use mathlib.Core.Bool.{true, false}
use mathlib.Core.Logic.{◌⊎◌, inl, inr}
use mathlib.Core.List.{List}
use Prim.Native.Nat.{ℕ, zero, suc, ◌-◌, ◌*◌, ◌^◌, ◌≤◌, ◌<◌}
use native.Mathlib.Omega.{arith}
use borrow.Author.Tests.{eq-eqb}
use lib.Bits.{bit_or, or_lt}
use lib.Pow.{pow-lt}
use Rattle.words.specs.Bits.{size, is_inside}
use Rattle.words.proofs.Laws.{has_bit-power}
use Rattle.allotment.specs.Allotment.{free}
use Rattle.membership.specs.requests.Requests.{requesters}
use Rattle.membership.specs.counters.Counters.{with_self}
use Rattle.membership.proofs.counters.Laws.{with-self}
use Rattle.node.specs.Close.{complete}
use Rattle.node.specs.End.{interacted_with, expires}
use Rattle.node.specs.declared.Setup.{Setup}
use Rattle.node.specs.Model.{Node}
use Rattle.node.specs.Answers.{Done}
use Rattle.node.proofs.Majority.{enough-if, complete-if, counts-self, kept_if}
use Rattle.range.proofs.Laws.{zero-free}
use Rattle.site.specs.Members.{setup_of, member_at, is_live}
use Rattle.site.specs.Load.{load_answer}
use Rattle.node.specs.declared.Config.{Config}
use Rattle.site.specs.declared.Table.{Table}
use Rattle.site.specs.declared.Event.{Event}
use Rattle.histories.specs.Reached.{reached}
use Rattle.histories.proofs.Tests.{either}
use Rattle.histories.proofs.Sets.{In, in-or-l, in-or-r, in-lt, size-le}
use Rattle.histories.proofs.Members.{member, live-up}
use Rattle.histories.proofs.Always.{always}
use Rattle.agreement.proofs.Theorem.{holds}
use Rattle.recovery.specs.Calm.{live_in}
use Rattle.recovery.proofs.Member.{Enough}

module _ (f : Config) (L : ℕ) (small : f.nodes ≤ 32) (fits : L < 2 ^ f.nodes) (suffices : (f.split ≡ 1) ⊎ (f.nodes < 2 * size L)) where
  decides : (i : ℕ) (n : Node) → In L i → n.setup ≡ setup_of f (suc i) → n.round.merged ≡ L
      → is_inside n.round.merged (requesters n.round.known) ≡ true → complete n ≡ true
  decides i n h u m x =
      let N : n.setup.config.nodes ≡ f.nodes = ap (λ (s : Setup). s.config.nodes) u in
      complete-if n x (enough-if n.setup.config n.round.merged (omega (arith, in-lt f.nodes L i fits h)) (omega (arith, small))
      (either suffices (λ e. inl (ap (λ (s : Setup). s.config.split) u ∙ e))
      (λ k. inr (subst (λ (w : ℕ). n.setup.config.nodes < 2 * size w) (sym m) (omega (arith, k))))))

  lasts : (i : ℕ) (n : Node) → In L i → n.setup ≡ setup_of f (suc i) → n.epoch.interactions < 2 ^ f.nodes
      → ((k : ℕ) → In L k → In n.epoch.interactions k ⊎ (k ≡ i)) → expires n ≡ false
  lasts i n h u w interactions =
      kept_if n (enough-if n.setup.config (interacted_with n) (omega (arith, N, in-N i h)) (omega (arith, N, small))
      (either suffices (λ e. inl (ap (λ (s : Setup). s.config.split) u ∙ e))
      (λ k. inr (subst (λ (x : ℕ). n.setup.config.nodes < 2 * size x) (sym (counts-self n ∙ whole)) (omega (arith, N, counted, k))))))
    where
      N : n.setup.config.nodes ≡ f.nodes
      N = ap (λ (s : Setup). s.config.nodes) u

      in-N : (k : ℕ) → In L k → k < f.nodes
      in-N k m = in-lt f.nodes L k fits m

      X : ℕ
      X = bit_or n.epoch.interactions (2 ^ i)

      whole : with_self n.epoch.interactions n.setup.node ≡ X
      whole = ap (λ (s : Setup). with_self n.epoch.interactions s.node) u
          ∙ with-self n.epoch.interactions i (omega (arith, in-N i h, small))

      below-N : X < 2 ^ f.nodes
      below-N = or_lt f.nodes n.epoch.interactions (2 ^ i) w (pow-lt (in-N i h))

      counted : size L ≤ size X
      counted = size-le f.nodes L X fits below-N (λ k m. either (interactions k m) (in-or-l n.epoch.interactions (2 ^ i))
          (λ e. in-or-r n.epoch.interactions (2 ^ i) (record {
            is = has_bit-power i k (omega (arith, in-N i h, small)) (omega (arith, in-N k m, small)) ∙ eq-eqb k i e;
          })))

  -- the live nodes are enough
  pub enough : Enough f L
  enough = record { decides = decides; lasts = lasts }

-- one version is one schedule where the site may not split: all free at version 0, and above it by demand 3
pub one-schedule : (f : Config) (t : Table) → load_answer f t ≡ Done → f.split ≡ 0 → (area : List ℕ) (es : List Event) (v : ℕ)
    → (reached f t area es).site.negotiates ≡ true
    → ((i : ℕ) → live_in (reached f t area es).site i ≡ true → (member (reached f t area es).site i).node.version ≡ v)
    → (i j : ℕ) → live_in (reached f t area es).site i ≡ true → live_in (reached f t area es).site j ≡ true
    → (member (reached f t area es).site i).node.schedule ≡ (member (reached f t area es).site j).node.schedule
one-schedule f t d whole area es v talks ver i j li lj = go v refl
  where
    all-free : v ≡ 0 → (i : ℕ) → live_in (reached f t area es).site i ≡ true → (member (reached f t area es).site i).node.schedule ≡ free
    all-free z i l = let st = ((always f t d area es).sound.each i).up (live-up (member (reached f t area es).site i) l) in zero-free
        (member (reached f t area es).site i).node st.range st.long (ver i l ∙ z)

    at : (k : ℕ) → k ≡ suc k - 1
    at k = omega arith

    pos : 0 < v → (member (reached f t area es).site i).node.schedule ≡ (member (reached f t area es).site j).node.schedule
    pos p =
        let s = (reached f t area es).site in
        let x : suc i - 1 ≡ i = omega arith in
        let y : suc j - 1 ≡ j = omega arith in
        let a : is_live (member_at s (suc i)) ≡ true = subst (λ (k : ℕ). is_live (member s k) ≡ true) (at i) li in
        let b : is_live (member_at s (suc j)) ≡ true = subst (λ (k : ℕ). is_live (member s k) ≡ true) (at j) lj in
        let va : (member_at s (suc i)).node.version ≡ v = subst (λ (k : ℕ). (member s k).node.version ≡ v) (at i) (ver i li) in
        let vb : (member_at s (suc j)).node.version ≡ v = subst (λ (k : ℕ). (member s k).node.version ≡ v) (at j) (ver j lj) in
        let e = ((holds.demand3 f t d whole area es).agreement talks (suc i) (suc j) a b (omega (arith, va)) (omega (arith, vb))).same
        (va ∙ sym vb) in
        subst (λ (k : ℕ). (member s k).node.schedule ≡ (member s j).node.schedule) x
        (subst (λ (k : ℕ). (member_at s (suc i)).node.schedule ≡ (member s k).node.schedule) y e)

    go : (x : ℕ) → v ≡ x → (member (reached f t area es).site i).node.schedule ≡ (member (reached f t area es).site j).node.schedule
    go zero e = all-free e i li ∙ sym (all-free e j lj)
    go (suc x) e = pos (omega arith)
