-- The paper's Theorem 1, over every list of events.
-- Assumes nothing.
use mathlib.Core.Path.{◌≡◌, refl}
use mathlib.Core.Bool.{true}
use mathlib.Core.List.{List}
use mathlib.Core.Logic.{inl, inr}
use Prim.Native.Nat.{ℕ, ◌-◌}
use Rattle.words.specs.Bits.{is_in}
use Rattle.words.proofs.Tests.{is_false}
use Rattle.node.specs.Model.{Node}
use Rattle.node.specs.Answers.{Done}
use Rattle.node.proofs.Majority.{complete-informed}
use Rattle.site.specs.Members.{member_at}
use Rattle.site.specs.Load.{load_answer}
use Rattle.node.specs.declared.Config.{Config}
use Rattle.site.specs.declared.Table.{Table}
use Rattle.site.specs.declared.Event.{Event}
use Rattle.site.specs.declared.Event.TheVariants.{Close}
use Rattle.site.proofs.Accepted.{answered, close-accepted}
use Rattle.histories.specs.Reached.{reached, past_of}
use Rattle.histories.proofs.Tests.{either}
use Rattle.histories.proofs.Sets.{In, in-number}
use Rattle.histories.proofs.Views.{view_of, filled}
use Rattle.histories.proofs.Members.{member}
use Rattle.histories.proofs.Starts.{start_of, Flagged}
use Rattle.histories.proofs.Always.{always}
use Rattle.consensus.specs.Consensus.{SameRequests, NoneInCommon, Consistent, Consensus}
use Rattle.consensus.proofs.Parted.{Alike, parted}

-- views by their indices, said of nodes by their numbers
same_asked : (m n : Node) → Alike (view_of m) (view_of n) → SameRequests m n
same_asked m n a = record { nodes = a.nodes; requests = λ j h. a.asks (j - 1) (in-number m.round.merged j h) }

none-shared : (m n : Node) → ((k : ℕ) → In m.round.merged k → In n.round.merged k → ⊥) → NoneInCommon m n
none-shared m n d = record {
  apart = λ j h. is_false (is_in n.round.merged j) (λ e. d (j - 1) (in-number m.round.merged j h)
      (in-number n.round.merged j e));
}

consistent : (f : Config) (t : Table) → load_answer f t ≡ Done → (area : List ℕ) (es : List Event)
    → (reached f t area es).site.negotiates ≡ true → Consistent (reached f t area es).site
consistent f t d area es n i j li lj fi fj =
    let s = (reached f t area es).site in
    let h = always f t d area es in
    let M : ℕ → ℕ = λ k. (member (past_of f t area es).start k).node.flags in
    let F : Flagged M (past_of f t area es).start = record { at = λ k _. refl } in
    let b = start_of M (past_of f t area es).start in
    let N = s.config.nodes in
    let x = (member_at s i).node in
    let y = (member_at s j).node in
    let A = ((h.sight.each (i - 1)).sees n li).good M F in
    let B = ((h.sight.each (j - 1)).sees n lj).good M F in
    either (parted N b (view_of x) (view_of y) A (filled x N b A fi) B (filled y N b B fj)) (λ a. inl (same_asked x y a))
    (λ e. inr (none-shared x y e))

pub consensus : Consensus
consensus =
    record {
      consistent = consistent;
      completes = λ f t d area es a i j li lj ci cj.
          let w = reached f t area es in
          consistent f t d area es (close-accepted w.site (answered w.site w.area Close a).1) i j li lj
          (complete-informed (member_at w.site i).node ci) (complete-informed (member_at w.site j).node cj);
    }
