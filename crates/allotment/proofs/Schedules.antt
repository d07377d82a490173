-- Laws of a schedule as the list of its owners: by these the other crates look at schedules and make them.
-- Assumes nothing.
use mathlib.Core.Path.{◌≡◌, refl, sym, ap, ◌∙◌}
use mathlib.Core.List.{List}
use Prim.Native.Nat.{ℕ}
use lib.ListN.{length, get_or, replicate}
use lib.Seq.{ext_get_or}
use Rattle.lists.proofs.Laws.{get_d-zeros}
use Rattle.allotment.specs.Model.{Schedule}
use Rattle.allotment.specs.Allotment.{owners_of, owner_of, schedule_of, free}

-- a schedule made of a list has the list's owners
pub owners-made : (l : List ℕ) → owners_of (schedule_of l) ≡ l
unfolding owners_of schedule_of
owners-made l = refl

-- and one made of a schedule's owners is that schedule
pub made_again : (s : Schedule) → schedule_of (owners_of s) ≡ s
unfolding owners_of schedule_of
made_again s = refl

-- two schedules with the same owners are equal
pub same-owners : (s u : Schedule) → owners_of s ≡ owners_of u → s ≡ u
same-owners s u e = sym (made_again s) ∙ ap schedule_of e ∙ made_again u

-- the owner of a slot, in the list of owners
pub owner_at : (s : Schedule) (k : ℕ) → owner_of s k ≡ get_or (owners_of s) k 0
unfolding owner_of
owner_at s k = refl

-- all slots free
pub owners-free : owners_of free ≡ replicate 80 0
owners-free = owners-made (replicate 80 0)

pub length-free : length (owners_of free) ≡ 80
length-free = ap length owners-free

pub owner-free : (k : ℕ) → owner_of free k ≡ 0
owner-free k = owner_at free k ∙ ap (λ (l : List ℕ). get_or l k 0) owners-free ∙ get_d-zeros 80 k

pub free-is : (s : Schedule) → length (owners_of s) ≡ 80 → ((k : ℕ) → owner_of s k ≡ 0) → s ≡ free
free-is s l h =
    same-owners s free (ext_get_or 0 (owners_of s) (replicate 80 0) l (λ k m. sym (owner_at s k) ∙ h k ∙ sym (get_d-zeros 80 k))
    ∙ sym owners-free)
