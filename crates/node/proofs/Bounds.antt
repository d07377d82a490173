-- What the figures and the flags of a setup keep to; where a start and a demand are refused.
-- Assumes nothing.
use mathlib.Core.Path.{◌≡◌, refl, ap}
use mathlib.Core.Bool.{Bool, true, false, not, cond, ◌&&◌, ◌||◌}
use Prim.Native.Nat.{ℕ, ◌^◌, ◌≤◌, ◌<◌}
use borrow.Author.Tests.{le-leb, leb-true, ltb-true, lt-leb, ltb-false}
use lib.Dec.{ltb, leb}
use Rattle.words.specs.Bits.{is_in}
use Rattle.words.proofs.Tests.{hit, skip, implied, and_left, and_right, both}
use Rattle.allotment.specs.Allotment.{top_request}
use Rattle.node.specs.Figures.{config_ok, is_node, flags_ok}
use Rattle.node.specs.Begin.{start_answer}
use Rattle.node.specs.Steps.{want_answer}
use Rattle.node.specs.Answers.{is_done}
use Rattle.node.specs.declared.Config.{Config}
use Rattle.node.specs.declared.Setup.{Setup}
use Rattle.node.specs.Answers.{Done, OutOfRange, NoSuchNode}
use Rattle.node.proofs.Answers.{test-met}

-- good figures
pub record Bounds (f : Config) : Type 0 where
  pub nodes-from : 1 ≤ f.nodes
  pub nodes-to : f.nodes ≤ 32
  pub slots-from : 1 ≤ f.slots
  pub slots-to : f.slots ≤ 80
  pub rounds-from : 1 ≤ f.rounds
  pub rounds-to : f.rounds ≤ 32
  pub heard-from : 1 ≤ f.min_heard
  pub heard-to : f.min_heard ≤ f.rounds
  pub split-to : f.split ≤ 1

pub bounds : (f : Config) → config_ok f ≡ true → Bounds f
unfolding config_ok
bounds f h =
    let n = leb 1 f.nodes && leb f.nodes 32 in
    let sl = leb 1 f.slots && leb f.slots 80 in
    let r = leb 1 f.rounds && leb f.rounds 32 in
    let o = leb 1 f.min_heard && leb f.min_heard f.rounds in
    let p = leb f.split 1 in
    let x : n ≡ true = and_left n (sl && (r && (o && p))) h in
    let yzw : (sl && (r && (o && p))) ≡ true = and_right n (sl && (r && (o && p))) h in
    let y : sl ≡ true = and_left sl (r && (o && p)) yzw in
    let zw : (r && (o && p)) ≡ true = and_right sl (r && (o && p)) yzw in
    let z : r ≡ true = and_left r (o && p) zw in
    let wp : (o && p) ≡ true = and_right r (o && p) zw in
    let w : o ≡ true = and_left o p wp in
    record {
      nodes-from = leb-true _ _ (and_left (leb 1 f.nodes) (leb f.nodes 32) x);
      nodes-to = leb-true _ _ (and_right (leb 1 f.nodes) (leb f.nodes 32) x);
      slots-from = leb-true _ _ (and_left (leb 1 f.slots) (leb f.slots 80) y);
      slots-to = leb-true _ _ (and_right (leb 1 f.slots) (leb f.slots 80) y);
      rounds-from = leb-true _ _ (and_left (leb 1 f.rounds) (leb f.rounds 32) z);
      rounds-to = leb-true _ _ (and_right (leb 1 f.rounds) (leb f.rounds 32) z);
      heard-from = leb-true _ _ (and_left (leb 1 f.min_heard) (leb f.min_heard f.rounds) w);
      heard-to = leb-true _ _ (and_right (leb 1 f.min_heard) (leb f.min_heard f.rounds) w);
      split-to = leb-true _ _ (and_right o p wp);
    }

pub in_bounds : (f : Config) → Bounds f → config_ok f ≡ true
unfolding config_ok
in_bounds f t =
    both (both (le-leb _ _ t.nodes-from) (le-leb _ _ t.nodes-to))
    (both (both (le-leb _ _ t.slots-from) (le-leb _ _ t.slots-to))
    (both (both (le-leb _ _ t.rounds-from) (le-leb _ _ t.rounds-to))
    (both (both (le-leb _ _ t.heard-from) (le-leb _ _ t.heard-to)) (le-leb _ _ t.split-to))))

-- good flags of a node
pub flags-below : (s : Setup) (flags : ℕ) → flags_ok s flags ≡ true → flags < 2 ^ s.config.nodes
unfolding flags_ok
flags-below s flags g = ltb-true _ _ (and_left (ltb flags (2 ^ s.config.nodes)) (not (is_node s) || is_in flags s.node) g)

pub flags-own : (s : Setup) (flags : ℕ) → flags_ok s flags ≡ true → is_node s ≡ true → is_in flags s.node ≡ true
unfolding flags_ok
flags-own s flags g i = implied (is_node s) (is_in flags s.node)
    (and_right (ltb flags (2 ^ s.config.nodes)) (not (is_node s) || is_in flags s.node) g) i

-- a number that is no node's begins nowhere
last-test : (a b : Bool) → b ≡ false → is_done (cond a (cond b Done NoSuchNode) OutOfRange) ≡ false
last-test true b e = ap (λ (t : Bool). is_done (cond t Done NoSuchNode)) e
last-test false b e = refl

pub start_outside : (s : Setup) (v flags demand : ℕ) → is_node s ≡ false → is_done (start_answer s v flags demand) ≡ false
unfolding start_answer
start_outside s v flags demand e = last-test (config_ok s.config && (leb v 1 && (leb demand top_request && flags_ok s flags))) (is_node s) e

-- a demand is refused above the greatest one
pub want-so : (d : ℕ) → want_answer d ≡ cond (ltb top_request d) OutOfRange Done
unfolding want_answer
want-so d = go (ltb top_request d) refl
  where
    go : (t : Bool) → ltb top_request d ≡ t → cond (leb d top_request) Done OutOfRange ≡ cond t OutOfRange Done
    go true e = skip (leb d top_request) Done OutOfRange _ (lt-leb d top_request (ltb-true top_request d e)) refl
    go false e = hit (leb d top_request) Done OutOfRange (le-leb d top_request (ltb-false top_request d e))

pub want-tests : (d : ℕ) → want_answer d ≡ Done → d ≤ top_request
unfolding want_answer
want-tests d h = leb-true _ _ (test-met (leb d top_request) Done OutOfRange refl h).0
