-- A node's two schedules moved where they stand: what is held then is what the step makes of them, whatever the bytes are, and no other
-- byte changes.
-- Assumes nothing.
use mathlib.Core.Path.{◌≡◌, refl, sym, ap, ◌∙◌}
use mathlib.Core.Bool.{Bool, true, false}
use mathlib.Core.List.{List}
use Prim.Native.Nat.{ℕ, ◌+◌, ◌≤◌, ◌<◌}
use native.Mathlib.Omega.{arith}
use borrow.Author.Tests.{le-leb, lt-leb}
use lib.ListN.{length, get_or, drop, length-drop}
use lib.Seq.{get_or-take, get_or-drop, length-take-le}
use lib.Dec.{leb}
use Rattle.words.proofs.Tests.{hit, skip, never, by-test}
use Rattle.lists.specs.Bytes.{span, written}
use Rattle.lists.proofs.Laws.{length-written}
use Rattle.lists.proofs.Places.{before-written, in-written, Apart, apart_none, apart-written, apart-then}
use Rattle.masks.specs.Bytes.{masks_size, no_slots, cleared}
use Rattle.allotment.specs.Allotment.{free}
use Rattle.allotment.specs.InPlace.{held_bytes, held_in}
use Rattle.allotment.specs.Model.{Schedule}
use Rattle.allotment.proofs.Held.{length-held, free-held, next-held, held-alike}
use Rattle.node.specs.Core.{pair, dealt_schedule, schedules_by, bare, end_move_by, core_round_ended, core_waited, core_ended}
use Rattle.node.specs.Figures.{is_last, is_waiting}
use Rattle.node.specs.End.{expires}
use Rattle.node.specs.InPlace.{both_size, behind, moved_there, moved_in, keeps, dropped_in}
use Rattle.node.specs.declared.Core.{Core}
use Rattle.node.specs.declared.CoreStep.{CoreStep}
use Rattle.node.specs.Model.{Schedules}
use Rattle.node.specs.declared.Move.{Move}
use Rattle.node.specs.declared.Move.TheVariants.{Keep, Determine, Raise, DetermineAndRaise, Drop, Free}

-- without room for masks nothing is cleared
uncleared : (l : List ℕ) (at : ℕ) → length l < at + masks_size → cleared l at ≡ l
uncleared l at h = skip _ _ _ _ (lt-leb (at + masks_size) (length l) h) refl

-- the two schedules at a place
abbrev pub held_pair : List ℕ → ℕ → Schedules
held_pair l at = pair (held_in l at) (held_in l (behind at))

-- a move that leaves both schedules changes nothing, with room or without
pub keep-moved : (m : Move) (c : Core) (l : List ℕ) (at : ℕ) → keeps m ≡ true → moved_in m c l at ≡ l
unfolding moved_in
keep-moved Keep c l at e = by-test (λ (x : List ℕ). x ≡ l) (leb (at + both_size) (length l)) l l (λ f. refl) (λ f. refl)
keep-moved Determine c l at e = never (sym e)
keep-moved Raise c l at e = never (sym e)
keep-moved DetermineAndRaise c l at e = never (sym e)
keep-moved Drop c l at e = never (sym e)
keep-moved Free c l at e = never (sym e)

-- no core is looked at to free the slots
pub free-any : (c d : Core) (l : List ℕ) (at : ℕ) → moved_in Free c l at ≡ moved_in Free d l at
unfolding moved_in
free-any c d l at = refl

-- nothing is dropped behind the bytes' end
pub dropped-none : (m : Move) (l : List ℕ) (at : ℕ) → length l < at → dropped_in m l at ≡ l
unfolding dropped_in
dropped-none Keep l at h = refl
dropped-none Determine l at h = refl
dropped-none Raise l at h = refl
dropped-none DetermineAndRaise l at h = refl
dropped-none Drop l at h = uncleared l (behind at) (omega (arith, h))
dropped-none Free l at h =
    ap (λ (x : List ℕ). cleared x (behind at)) (uncleared l at (omega (arith, h))) ∙ uncleared l (behind at) (omega (arith, h))

-- with room for both, what is dropped is moved there; and an end deals and raises none
module _ (c : Core) (l : List ℕ) (at : ℕ) (h : at + both_size ≤ length l) where
  pub drop-there : dropped_in Drop l at ≡ moved_there Drop c l at
  unfolding dropped_in
  drop-there = hit _ _ _ (le-leb (behind at + masks_size) (length l) (omega (arith, h)))

  pub free-there : dropped_in Free l at ≡ moved_there Free c l at
  unfolding dropped_in
  free-there =
      let e = hit (leb (at + masks_size) (length l)) (written l at no_slots) l
      (le-leb (at + masks_size) (length l) (omega (arith, h))) in
      let k = length-written l no_slots at (omega (arith, h)) in
      ap (λ (x : List ℕ). cleared x (behind at)) e
      ∙ hit _ _ _ (le-leb (behind at + masks_size) (length (written l at no_slots)) (omega (arith, h, k)))

  end-drops : (last expired : Bool) → moved_in (end_move_by last expired) c l at ≡ dropped_in (end_move_by last expired) l at
  unfolding moved_in dropped_in
  end-drops true true = hit _ _ _ (le-leb (at + both_size) (length l) h) ∙ sym free-there
  end-drops true false = hit _ _ _ (le-leb (at + both_size) (length l) h) ∙ sym drop-there
  end-drops false expired = by-test (λ (x : List ℕ). x ≡ l) (leb (at + both_size) (length l)) l l (λ f. refl) (λ f. refl)

  pub ended-drops : (d : Core) → moved_in (core_ended d).change c l at ≡ dropped_in (core_ended d).change l at
  unfolding core_round_ended core_waited
  ended-drops d = by-test (λ (o : CoreStep). moved_in o.change c l at ≡ dropped_in o.change l at) (is_waiting d.phase)
      (core_waited d) (core_round_ended d) (λ e. end-drops (is_last d.setup.config d.place) true)
      (λ e. end-drops (is_last d.setup.config d.place) (expires (bare d)))

-- as many bytes as masks have, written at either place
module _ (l b : List ℕ) (at : ℕ) (h : at + both_size ≤ length l) (e : length b ≡ masks_size) where
  first-room : at + length b ≤ length l
  first-room = omega (arith, h, e)

  second-room : behind at + length b ≤ length l
  second-room = omega (arith, h, e)

  first-apart : Apart l (written l at b) at both_size
  first-apart = apart-written l b at at both_size (omega arith) (omega (arith, e)) first-room

  second-apart : Apart l (written l (behind at) b) at both_size
  second-apart = apart-written l b (behind at) at both_size (omega arith) (omega (arith, e)) second-room

  -- the first schedule stays
  second-leaves : held_in (written l (behind at) b) at ≡ held_in l at
  second-leaves = held-alike (written l (behind at) b) l at at
      (λ k g. before-written l b (behind at) second-room (at + k) (omega (arith, g)))

-- masks copied from a place to another
long-span : (l : List ℕ) (from : ℕ) → from + masks_size ≤ length l → length (span l from masks_size) ≡ masks_size
long-span l from h = length-take-le masks_size (drop from l) (omega (arith, length-drop from l, h))

pub copied-held : (l : List ℕ) (from to : ℕ) → from + masks_size ≤ length l → to + masks_size ≤ length l
    → held_in (written l to (span l from masks_size)) to ≡ held_in l from
copied-held l from to h r =
    let b = span l from masks_size in
    let e = long-span l from h in
    held-alike (written l to b) l to from
    (λ k g. in-written l b to (omega (arith, e, r)) k (omega (arith, e, g)) ∙ get_or-take masks_size (drop from l) k 0 g
    ∙ get_or-drop from l k 0)

module _ (l : List ℕ) (at : ℕ) (h : at + both_size ≤ length l) where
  -- the determined schedule's bytes
  abbrev next : List ℕ
  next = span l (behind at) masks_size

  length-next : length next ≡ masks_size
  length-next = long-span l (behind at) (omega (arith, h))

  long : (b : List ℕ) → length b ≡ masks_size → at + both_size ≤ length (written l at b)
  long b e = omega (arith, h, length-written l b at (first-room l b at h e))

  -- the second cleared, behind a first one that was written
  cleared-behind : (b : List ℕ) → length b ≡ masks_size → (s : Schedule) → held_in (written l at b) at ≡ s
      → held_pair (written (written l at b) (behind at) no_slots) at ≡ pair s free
  cleared-behind b e s f =
      let m = written l at b in
      let x = second-leaves m no_slots at (long b e) refl ∙ f in
      let y = free-held m (behind at) (omega (arith, long b e)) in
      λ i. pair (x i) (y i)

  apart-behind : (b : List ℕ) → length b ≡ masks_size → Apart l (written (written l at b) (behind at) no_slots) at both_size
  apart-behind b e = apart-then (first-apart l b at h e) (second-apart (written l at b) no_slots at (long b e) refl)

  there-held : (m : Move) (c : Core) → held_pair (moved_there m c l at) at ≡ schedules_by m c (held_in l at) (held_in l (behind at))
  there-held Keep c = refl
  there-held Determine c =
      let n = dealt_schedule c (held_in l at) in
      let x = second-leaves l (held_bytes n) at h (length-held n) in
      let y = next-held (held_in l at) c.round.merged c.round.known c.setup.config.nodes c.setup.config.slots l (behind at)
      (omega (arith, h)) in
      λ i. pair (x i) (y i)
  there-held Raise c = cleared-behind next length-next (held_in l (behind at))
      (copied-held l (behind at) at (omega (arith, h)) (omega (arith, h)))
  there-held DetermineAndRaise c =
      let n = dealt_schedule c (held_in l at) in
      cleared-behind (held_bytes n) (length-held n) n
      (next-held (held_in l at) c.round.merged c.round.known c.setup.config.nodes c.setup.config.slots l at
      (omega (arith, h)))
  there-held Drop c =
      let x = second-leaves l no_slots at h refl in
      let y = free-held l (behind at) (omega (arith, h)) in
      λ i. pair (x i) (y i)
  there-held Free c = cleared-behind no_slots refl free (free-held l at (omega (arith, h)))

  there-apart : (m : Move) (c : Core) → Apart l (moved_there m c l at) at both_size
  there-apart Keep c = apart_none l at both_size
  there-apart Determine c = let n = dealt_schedule c (held_in l at) in second-apart l (held_bytes n) at h (length-held n)
  there-apart Raise c = apart-behind next length-next
  there-apart DetermineAndRaise c = let n = dealt_schedule c (held_in l at) in apart-behind (held_bytes n) (length-held n)
  there-apart Drop c = second-apart l no_slots at h refl
  there-apart Free c = apart-behind no_slots refl

  pub as_moved : (m : Move) (c : Core) → moved_in m c l at ≡ moved_there m c l at
  unfolding moved_in
  as_moved m c = hit _ _ _ (le-leb (at + both_size) (length l) h)

  pub moved-held : (m : Move) (c : Core) → held_pair (moved_in m c l at) at ≡ schedules_by m c (held_in l at) (held_in l (behind at))
  moved-held m c = ap (λ (x : List ℕ). held_pair x at) (as_moved m c) ∙ there-held m c

  pub moved_apart : (m : Move) (c : Core) → Apart l (moved_in m c l at) at both_size
  moved_apart m c =
      let e = as_moved m c in
      let p = there-apart m c in
      record {
        long = ap length e ∙ p.long;
        below = λ k g. ap (λ (x : List ℕ). get_or x k 0) e ∙ p.below k g;
        above = λ k g. ap (λ (x : List ℕ). get_or x k 0) e ∙ p.above k g;
      }
