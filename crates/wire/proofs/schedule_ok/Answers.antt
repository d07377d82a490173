use mathlib.Core.Bool.{Bool, cond, ◌&&◌}
use mathlib.Core.List.{List}
use mathlib.Core.Path.{◌≡◌, refl, sym, ap, ap₂, ◌∙◌}
use Prim.Native.Nat.{ℕ}
use native.Mathlib.Omega.{arith}
use borrow.Author.Rules.{rules}
use lib.Dec.{leb, ltb}
use lib.ListN.{length, take, drop}
use Rattle.words.proofs.Tests.{both}
use Rattle.lists.specs.All.{bounded}
use Rattle.lists.specs.Bytes.{word32, window}
use Rattle.lists.proofs.Laws.{window-span}
use Rattle.allotment.specs.Allotment.{owners_of, schedule_of}
use Rattle.allotment.proofs.Schedules.{owners-made}
use Rattle.node.specs.Figures.{top_version}
use Rattle.node.specs.declared.Setup.{Setup}
use Rattle.wire.specs.Layout.{schedule_size, schedule_in}
use Rattle.wire.specs.Reads.{versioned_ok}
use Rattle.wire.proofs.schedule_ok.Goals as goal

-- the owners are the bytes behind the version
keeps : {v k n : ℕ} {t : Bool} (s : Setup) (l : List ℕ) → length l ≡ schedule_size → v ≡ word32 l 0
    → k ≡ cond (ltb 0 v) s.config.slots 0 → t ≡ bounded (take n (drop 4 l)) k s.config.nodes → n ≡ 80
    → (leb v top_version && t) ≡ versioned_ok s (schedule_in l)
unfolding versioned_ok schedule_in
keeps {n = n} s l h e f g m =
    let o : take n (drop 4 l) ≡ owners_of (schedule_of (window 80 l 4)) =
    ap (λ (x : ℕ). take x (drop 4 l)) m ∙ sym (window-span 80 l 4 (omega arith)) ∙ sym (owners-made (window 80 l 4)) in
    both (ap (λ (x : ℕ). leb x top_version) e)
    (g ∙ ap₂ (λ (x : List ℕ) (y : ℕ). bounded x y s.config.nodes) o (f ∙ ap (λ (x : ℕ). cond (ltb 0 x) s.config.slots 0) e))

pub returns : goal.returns
returns c =
    let long : length c.args.bytes.now ≡ schedule_size = search rules in
    keeps {n = 80} c.args.s c.args.bytes.now long c.word-version.ensures c.used_slots-slots.ensures
    c.all_fit-owners.ensures refl
