-- A step on the area of a node writes what the library writes for the next node.
-- Assumes nothing.
use mathlib.Core.Path.{◌≡◌, refl, sym, ap, ap₂, ◌∙◌}
use mathlib.Core.Bool.{Bool, true, cond}
use mathlib.Core.List.{List, [], ◌++◌}
use Prim.Native.Nat.{ℕ, ◌+◌}
use native.Mathlib.Omega.{arith}
use borrow.Author.Tests.{eq-eqb}
use lib.Dec.{eqb}
use lib.ListN.{length, take, length-append}
use lib.Seq.{length-take-le}
use Rattle.words.proofs.Tests.{hit}
use Rattle.lists.specs.Bytes.{written}
use Rattle.lists.proofs.Places.{written_over}
use Rattle.masks.specs.Slots.{masks_of}
use Rattle.masks.specs.Bytes.{masks_bytes}
use Rattle.allotment.specs.Allotment.{free, owners_of}
use Rattle.allotment.specs.Model.{Schedule}
use Rattle.allotment.specs.InPlace.{held_bytes, held_in}
use Rattle.allotment.proofs.Held.{length-held}
use Rattle.node.specs.Core.{core_of, node_of, bare, pair, schedules_by, moved_by, take_move_by}
use Rattle.node.specs.InPlace.{moved_in}
use Rattle.node.specs.Model.{Node}
use Rattle.node.specs.declared.Core.{Core}
use Rattle.node.specs.Model.{Versioned}
use Rattle.node.specs.declared.Move.{Move}
use Rattle.node.specs.declared.Move.TheVariants.{Free}
use Rattle.node.proofs.Cores.{holding}
use Rattle.node.proofs.Laid.{both_bytes, free-laid, moved-laid, take-laid}
use Rattle.range.proofs.Lengths.{Lengths}
use Rattle.area.specs.Area.{node_size, at_schedule, at_determined, front_of, encoded, decoded, valid}
use Rattle.area.specs.Steps.{area_stepped, area_holding}
use Rattle.area.proofs.Valid.{size_of}
use Rattle.area.proofs.Writes.{length_front, front-then}
use Rattle.area.proofs.Canon.{canonical, lengths}

-- a node's bytes from its parts
parted : (p : List ℕ) (c : Core) (s u : Schedule) (n : Node) → length p ≡ at_schedule → node_of c (pair s u) ≡ n → Lengths n
    → written (p ++ (held_bytes s ++ held_bytes u)) 0 (front_of (bare c)) ≡ encoded n
unfolding front_of
parted p c s u n e k l =
    let m = node_of c (pair s u) in
    let f : length p ≡ length (front_of m) = e ∙ sym (ap (λ (x : Node). length (front_of x)) k ∙ length_front n l) in
    written_over [] p (front_of m) (held_bytes s ++ held_bytes u) 0 refl f
    ∙ sym (front-then m) ∙ ap encoded k

-- the test of the length, met
sized : (a l : List ℕ) → length a ≡ node_size → cond (eqb (length a) node_size) l a ≡ l
sized a l h = hit (eqb (length a) node_size) l a (eq-eqb (length a) node_size h)

-- a beginning: whatever the area held, both schedules are free then
pub begun : (a : List ℕ) (c : Core) (n : Node) → length a ≡ node_size → bare c ≡ n → Lengths n → area_stepped c Free c a ≡ encoded n
begun a c n h k l =
    sized a _ h ∙ ap (λ (t : List ℕ). written t 0 (front_of (bare c))) (free-laid a at_schedule h c)
    ∙ parted (take at_schedule a) c free free n (length-take-le at_schedule a (omega (arith, h))) k l

-- the bytes of a schedule, by owners that have its masks
held-masks : (u : Schedule) (o : List ℕ) → masks_of o ≡ masks_of (owners_of u) → masks_bytes (masks_of o) ≡ held_bytes u
unfolding held_bytes
held-masks u o e = ap masks_bytes e

-- the area of a node
module _ (a : List ℕ) (v : valid a ≡ true) where
  p : List ℕ
  p = front_of (decoded a)

  s : Schedule
  s = held_in a at_schedule

  d : Schedule
  d = held_in a at_determined

  laid : a ≡ p ++ (held_bytes s ++ held_bytes d)
  unfolding p s d decoded
  laid = sym (canonical a v) ∙ front-then (decoded a)

  long : length p ≡ at_schedule
  unfolding p
  long = length_front (decoded a) (lengths a)

  -- after a step the area is what the library writes for the next node
  pub stepped : (c : Core) (m : Move) (n : Node) → moved_by (decoded a) c m ≡ n → Lengths n → area_stepped c m (core_of (decoded a)) a
      ≡ encoded n
  unfolding s d decoded
  stepped c m n k l =
      let b = core_of (decoded a) in
      let w : moved_in m b a at_schedule ≡ p ++ both_bytes (schedules_by m b s d) =
      ap (λ (x : List ℕ). moved_in m b x at_schedule) laid
      ∙ moved-laid p s d at_schedule long m b (sym (ap (λ (x : List ℕ). held_in x at_schedule) laid)) in
      sized a _ (size_of a v) ∙ ap (λ (x : List ℕ). written x 0 (front_of (bare c))) w ∙ parted p c _ _ n long k l

  -- the same of a take, which holds the sender's schedule first, by owners that have its masks
  pub took : (c b : Core) (t : Bool) (q : Versioned) (o : List ℕ) (n : Node) → masks_of o ≡ masks_of (owners_of q.schedule)
      → moved_by (holding (decoded a) q) c (take_move_by t) ≡ n → Lengths n → area_stepped c (take_move_by t) b (area_holding o a) ≡ encoded n
  unfolding s d decoded
  took c b t q o n e k l =
      let u = q.schedule in
      let w : area_holding o a ≡ p ++ both_bytes (pair u d) =
      sized a _ (size_of a v) ∙ ap (written a at_schedule) (held-masks u o e) ∙ ap (λ (x : List ℕ). written x at_schedule (held_bytes u)) laid
      ∙ written_over p (held_bytes s) (held_bytes u) (held_bytes d) at_schedule long (length-held s ∙ sym (length-held u)) in
      let z : length (area_holding o a) ≡ node_size =
      ap length w ∙ length-append p (both_bytes (pair u d))
      ∙ ap₂ ◌+◌ long (length-append (held_bytes u) (held_bytes d) ∙ ap₂ ◌+◌ (length-held u) (length-held d)) in
      sized (area_holding o a) _ z ∙ ap (λ (x : List ℕ). written (moved_in (take_move_by t) b x at_schedule) 0 (front_of (bare c))) w
      ∙ ap (λ (x : List ℕ). written x 0 (front_of (bare c))) (take-laid p u d at_schedule long t b (core_of (holding (decoded a) q)))
      ∙ parted p c _ _ n long k l
