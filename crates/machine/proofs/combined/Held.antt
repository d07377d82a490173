-- The slots that a node of a site in storage holds are those by which the site's tally counts it.
-- Assumes nothing.
use mathlib.Core.Path.{◌≡◌, refl, sym, ap, ◌∙◌}
use mathlib.Core.Bool.{Bool, true, false, cond}
use Prim.Native.Nat.{ℕ, ◌+◌, ◌-◌, ◌≤◌, ◌<◌}
use native.Mathlib.Omega.{arith}
use borrow.Author.Tests.{ne_eqb}
use lib.Dec.{eqb}
use lib.ListN.{length, get_or}
use Rattle.words.specs.Bits.{how_many}
use Rattle.lists.proofs.Laws.{get_d-tab}
use Rattle.masks.proofs.Turns.{how_many-zero}
use Rattle.allotment.specs.Allotment.{owner_of, no_schedule, free}
use Rattle.allotment.specs.Model.{Schedule}
use Rattle.allotment.proofs.Schedules.{owner-free}
use Rattle.site.specs.Members.{nobody, is_live}
use Rattle.site.specs.Model.{Member}
use Rattle.machine.specs.Layout.{Store, site_in, words_size, bytes_size}
use Rattle.machine.specs.Loading.{member_read, slots_read}
use Rattle.machine.proofs.Whole.{as_member}
use Rattle.tally.specs.Claims.{held_by}
use Rattle.tally.specs.Ends.{own_schedule, schedules_of}

-- the slots of node j by the schedule of a member
abbrev given : Schedule → ℕ → ℕ
given s j = how_many 80 (λ k. eqb (owner_of s k) j)

-- none where it isn't live
own : (m : Member) (i : ℕ) → cond (is_live m) (given m.node.schedule (i + 1)) 0 ≡ given (own_schedule m) (i + 1)
own m i = go (is_live m)
  where
    go : (t : Bool) → cond t (given m.node.schedule (i + 1)) 0 ≡ given (cond t m.node.schedule free) (i + 1)
    go true = refl
    go false = sym (how_many-zero 80 (λ k. eqb (owner_of free k) (i + 1))
        (λ k l. ap (λ (x : ℕ). eqb x (i + 1)) (owner-free k) ∙ ne_eqb 0 (i + 1) (λ e. omega (arith, e))))

pub slots_read_lem : (s : Store) (i : ℕ) → words_size ≤ length s.words → bytes_size ≤ length s.bytes → i < 32 → slots_read s (i + 1)
    ≡ held_by (schedules_of (site_in s)) i
unfolding slots_read schedules_of
slots_read_lem s i w b l =
    let z : i + 1 - 1 ≡ i = omega arith in
    let m = as_member s (i + 1) w b (omega arith) (omega (arith, l)) ∙ ap (λ (k : ℕ). get_or (site_in s).members k nobody) z in
    own (member_read s (i + 1)) i
    ∙ ap (λ (x : Member). given (own_schedule x) (i + 1)) m
    ∙ sym (ap (λ (x : Schedule). given x (i + 1)) (get_d-tab no_schedule 32 (λ j. own_schedule (get_or (site_in s).members j nobody)) i l))
