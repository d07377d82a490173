-- A node's two schedules that lie one behind the other at the end of bytes: after a move the schedules that it makes lie there.
-- Assumes nothing.
use mathlib.Core.Path.{◌≡◌, refl, sym, ap, ap₂, ◌∙◌}
use mathlib.Core.Bool.{Bool, true, false}
use mathlib.Core.List.{List, [], ◌++◌, append-nil, append_assoc}
use Prim.Native.Nat.{ℕ, ◌+◌, ◌≤◌}
use native.Mathlib.Omega.{arith}
use lib.ListN.{length, take, drop, length-append, take-append-drop, length-drop}
use lib.Seq.{take_all, drop_at, length-take-le}
use Rattle.lists.specs.Bytes.{span, written}
use Rattle.lists.proofs.Places.{written_over}
use Rattle.masks.specs.Bytes.{masks_size, no_slots}
use Rattle.allotment.specs.Allotment.{free}
use Rattle.allotment.specs.InPlace.{held_bytes, held_in}
use Rattle.allotment.specs.Model.{Schedule}
use Rattle.allotment.proofs.Held.{length-held, free_bytes}
use Rattle.node.specs.Core.{pair, dealt_schedule, schedules_by, take_move_by}
use Rattle.node.specs.InPlace.{both_size, behind, moved_there, moved_in}
use Rattle.node.specs.declared.Core.{Core}
use Rattle.node.specs.Model.{Schedules}
use Rattle.node.specs.declared.Move.{Move}
use Rattle.node.specs.declared.Move.TheVariants.{Keep, Determine, Raise, DetermineAndRaise, Drop, Free}
use Rattle.node.proofs.Moved.{as_moved}

-- the bytes of both
abbrev pub both_bytes : Schedules → List ℕ
both_bytes s = held_bytes s.held ++ held_bytes s.determined

-- bytes in three parts, the last two as long as masks
module _ (p x y : List ℕ) (at : ℕ) (e : length p ≡ at) (f : length x ≡ masks_size) (g : length y ≡ masks_size) where
  room : at + both_size ≤ length (p ++ (x ++ y))
  room = omega (arith, length-append p (x ++ y), length-append x y, e, f, g)

  first-over : (b : List ℕ) → length b ≡ masks_size → written (p ++ (x ++ y)) at b ≡ p ++ (b ++ y)
  first-over b k = written_over p x b y at e (f ∙ sym k)

  second-place : length (p ++ x) ≡ behind at
  second-place = length-append p x ∙ ap₂ ◌+◌ e f

  second-over : (b : List ℕ) → length b ≡ masks_size → written (p ++ (x ++ y)) (behind at) b ≡ p ++ (x ++ b)
  second-over b k =
      ap (λ (l : List ℕ). written l (behind at) b) (sym (append_assoc p x y) ∙ ap (λ (l : List ℕ). (p ++ x) ++ l) (sym (append-nil y)))
      ∙ written_over (p ++ x) y b [] (behind at) second-place (g ∙ sym k)
      ∙ append_assoc p x (b ++ []) ∙ ap (λ (l : List ℕ). p ++ (x ++ l)) (append-nil b)

  second-read : span (p ++ (x ++ y)) (behind at) masks_size ≡ y
  second-read =
      ap (λ (l : List ℕ). take masks_size (drop (behind at) l)) (sym (append_assoc p x y))
      ∙ ap (take masks_size) (drop_at (p ++ x) y (behind at) second-place) ∙ take_all masks_size y (omega (arith, g))

  -- the second cleared, alone and after the first was written
  cleared : written (p ++ (x ++ y)) (behind at) no_slots ≡ p ++ (x ++ held_bytes free)
  cleared = ap (written (p ++ (x ++ y)) (behind at)) (sym free_bytes) ∙ second-over (held_bytes free) (length-held free)

module _ (p x y : List ℕ) (at : ℕ) (e : length p ≡ at) (f : length x ≡ masks_size) (g : length y ≡ masks_size) where
  cleared-behind : (b : List ℕ) → length b ≡ masks_size
      → written (written (p ++ (x ++ y)) at b) (behind at) no_slots ≡ p ++ (b ++ held_bytes free)
  cleared-behind b k = ap (λ (l : List ℕ). written l (behind at) no_slots) (first-over p x y at e f g b k) ∙ cleared p b y at e k g

  freed : written (written (p ++ (x ++ y)) at no_slots) (behind at) no_slots ≡ p ++ both_bytes (pair free free)
  freed =
      ap (λ (b : List ℕ). written (written (p ++ (x ++ y)) at b) (behind at) no_slots) (sym free_bytes)
      ∙ cleared-behind (held_bytes free) (length-held free)

-- all slots freed, whatever the bytes were
pub free-laid : (l : List ℕ) (at : ℕ) → length l ≡ at + both_size → (c : Core)
    → moved_in Free c l at ≡ take at l ++ both_bytes (pair free free)
free-laid l at h c =
    let b = drop at l in
    let m : length b ≡ both_size = length-drop at l ∙ omega (arith, h) in
    let e : length (take at l) ≡ at = length-take-le at l (omega (arith, h)) in
    let f : length (take masks_size b) ≡ masks_size = length-take-le masks_size b (omega (arith, m)) in
    let g : length (drop masks_size b) ≡ masks_size = length-drop masks_size b ∙ omega (arith, m) in
    let w : l ≡ take at l ++ (take masks_size b ++ drop masks_size b) =
    sym (take-append-drop at l) ∙ ap (λ (t : List ℕ). take at l ++ t) (sym (take-append-drop masks_size b)) in
    as_moved l at (omega (arith, h)) Free c ∙ ap (λ (t : List ℕ). written (written t at no_slots) (behind at) no_slots) w
    ∙ freed (take at l) (take masks_size b) (drop masks_size b) at e f g

module _ (p : List ℕ) (s d : Schedule) (at : ℕ) (e : length p ≡ at) where
  abbrev laid : List ℕ
  laid = p ++ both_bytes (pair s d)

  x : length (held_bytes s) ≡ masks_size
  x = length-held s

  y : length (held_bytes d) ≡ masks_size
  y = length-held d

  dropped : written laid (behind at) no_slots ≡ p ++ both_bytes (pair s free)
  dropped = cleared p (held_bytes s) (held_bytes d) at e x y

  there : (m : Move) (c : Core) → held_in laid at ≡ s → moved_there m c laid at ≡ p ++ both_bytes (schedules_by m c s d)
  there Keep c h = refl
  there Determine c h =
      ap (λ (u : Schedule). written laid (behind at) (held_bytes (dealt_schedule c u))) h
      ∙ second-over p (held_bytes s) (held_bytes d) at e x y (held_bytes (dealt_schedule c s)) (length-held (dealt_schedule c s))
  there Raise c h =
      ap (λ (b : List ℕ). written (written laid at b) (behind at) no_slots) (second-read p (held_bytes s) (held_bytes d) at e x y)
      ∙ cleared-behind p (held_bytes s) (held_bytes d) at e x y (held_bytes d) y
  there DetermineAndRaise c h =
      ap (λ (u : Schedule). written (written laid at (held_bytes (dealt_schedule c u))) (behind at) no_slots) h
      ∙ cleared-behind p (held_bytes s) (held_bytes d) at e x y (held_bytes (dealt_schedule c s)) (length-held (dealt_schedule c s))
  there Drop c h = dropped
  there Free c h = freed p (held_bytes s) (held_bytes d) at e x y

  -- a move of schedules that are read as they were written
  pub moved-laid : (m : Move) (c : Core) → held_in laid at ≡ s → moved_in m c laid at ≡ p ++ both_bytes (schedules_by m c s d)
  moved-laid m c h = as_moved laid at (room p (held_bytes s) (held_bytes d) at e x y) m c ∙ there m c h

  -- that of a take reads none, and looks at no core
  pub take-laid : (t : Bool) (b c : Core) → moved_in (take_move_by t) b laid at ≡ p ++ both_bytes (schedules_by (take_move_by t) c s d)
  take-laid t b c = as_moved laid at (room p (held_bytes s) (held_bytes d) at e x y) (take_move_by t) b ∙ go t
    where
      go : (t : Bool) → moved_there (take_move_by t) b laid at ≡ p ++ both_bytes (schedules_by (take_move_by t) c s d)
      go true = refl
      go false = dropped
