-- Boxes that were begun, beside the site that is loaded from the same table.
-- Assumes nothing.
use mathlib.Core.Path.{◌≡◌, refl, sym, ap, ap₂, ◌∙◌, subst}
use mathlib.Core.Bool.{Bool, true, false, not, ◌&&◌, ◌||◌}
use mathlib.Core.List.{List, []}
use Prim.Native.Nat.{ℕ, suc, ◌+◌, ◌-◌, ◌≤◌, ◌<◌}
use native.Mathlib.Omega.{arith}
use native.Mathlib.Decide.{dec_lt}
use native.Mathlib.Nat.{not-suc-le-zero}
use borrow.Author.Tests.{le-leb, lt-leb, leb-false, ltb-true, ltb-false}
use lib.Dec.{ltb, leb}
use lib.ListN.{length, get_or, get_or-eq_default}
use Rattle.words.proofs.Tests.{hit, both, or-front, or-back, by-test, read_same}
use Rattle.lists.specs.Bytes.{window}
use Rattle.lists.specs.All.{tab}
use Rattle.lists.proofs.Laws.{length-tab, get_d-tab, all-make}
use Rattle.node.specs.Answers.{is_done}
use Rattle.node.specs.Begin.{starting, start_answer}
use Rattle.node.specs.Answers.{Done, OutOfRange}
use Rattle.node.proofs.Answers.{both-done}
use Rattle.node.proofs.Tested.{start-asks}
use Rattle.range.proofs.Lengths.{long-start}
use Rattle.wire.specs.Layout.{schedule_size}
use Rattle.area.specs.Area.{node_size, encoded}
use Rattle.host.specs.Calls.{is_sized, beginning, after_begin}
use Rattle.area.proofs.Canon.{length-encoded}
use Rattle.site.specs.Members.{nobody, setup_of, outside}
use Rattle.node.specs.Figures.{config_ok}
use Rattle.site.specs.Load.{row_ok, no_row, table_ok, loaded_member, loaded_site, load_answer}
use Rattle.site.specs.Answers.{area_size}
use Rattle.site.proofs.Counts.{packets-none}
use Rattle.node.specs.declared.Config.{Config}
use Rattle.site.specs.declared.Table.{Table}
use Rattle.site.specs.Model.{Member}
use Rattle.boxes.specs.fleet.Fleet.{Box, row_of, begun_box, begun_fleet}
use Rattle.boxes.specs.fleet.Claim.{Begins}
use Rattle.boxes.proofs.fleet.Boxes.{Match, begin-box, down-box}
use Rattle.boxes.proofs.fleet.Together.{Together}

-- a number up to N, and one above
numbered : (f : Config) (i : ℕ) → i < f.nodes → i < 32 → outside f (suc i) ≡ false
numbered f i a b = ap not (both (le-leb 1 (suc i) (omega arith))
    (both (le-leb (suc i) f.nodes (omega arith)) (le-leb (suc i) 32 (omega arith))))

above : (f : Config) (i : ℕ) → f.nodes ≤ i → outside f (suc i) ≡ true
above f i a = ap not (both (le-leb 1 (suc i) (omega arith)) (ap (λ (t : Bool). t && leb (suc i) 32)
    (lt-leb (suc i) f.nodes (omega arith))))

far : (f : Config) (i : ℕ) → 32 ≤ i → outside f (suc i) ≡ true
far f i a = ap not (both (le-leb 1 (suc i) (omega arith)) (last (leb (suc i) f.nodes) (leb (suc i) 32)
    (lt-leb (suc i) 32 (omega arith))))
  where
    last : (a b : Bool) → b ≡ false → (a && b) ≡ false
    last true b e = e
    last false b e = refl

-- begin leaves an area of its length, refused or not
begun-size : (f : Config) (t : Table) (left : List ℕ) (j : ℕ) → length (begun_box f t left j).area ≡ node_size
unfolding after_begin
begun-size f t left j =
    let r = row_of t j in
    let a = window node_size left 0 in
    read_same length (is_done (beginning a (setup_of f j) r.version r.flags r.want))
    (encoded (starting (setup_of f j) r.version r.flags r.want)) a node_size
    (length-encoded _ (long-start (setup_of f j) r.version r.flags r.want)) (length-tab node_size _)

module _ (f : Config) (t : Table) (left : ℕ → List ℕ) (b : Begins f t left) where
  -- what the call asks of the numbers
  started : (i : ℕ) → i < f.nodes → i < 32 → start_answer (setup_of f (suc i)) (row_of t (suc i)).version (row_of t (suc i)).flags
      (row_of t (suc i)).want ≡ Done
  unfolding beginning
  started i l k = (both-done _ (is_sized (window node_size (left (suc i)) 0)) (b.each (suc i) (numbered f i l k))).0

  config-good : config_ok f ≡ true
  config-good =
      let r = row_of t 1 in
      let h = b.some in
      (start-asks (setup_of f 1) r.version r.flags r.want (started 0 (omega arith) (omega arith))).config

  -- so the table is accepted
  pub loads : load_answer f t ≡ Done
  unfolding load_answer table_ok row_ok
  loads =
      hit (config_ok f && table_ok f t) Done OutOfRange
      (both config-good (all-make 32 (λ i. leb f.nodes i || row_ok f i (get_or t.rows i no_row))
      (λ i l. go i l (leb f.nodes i) refl)))
    where
      starts : ℕ → ℕ → Bool
      starts j k = let r = get_or t.rows k no_row in is_done (start_answer (setup_of f j) r.version r.flags r.want)

      go : (i : ℕ) → i < 32 → (v : Bool) → leb f.nodes i ≡ v → (leb f.nodes i || starts (i + 1) i) ≡ true
      go i l true e = or-front (leb f.nodes i) _ e
      go i l false e =
          let x : suc i ≡ i + 1 = omega arith in
          let y : suc i - 1 ≡ i = omega arith in
          or-back (leb f.nodes i) _ (ap₂ starts (sym x) (sym y) ∙ ap is_done (started i (leb-false f.nodes i e) l))

  -- a begun box beside its loaded member
  one : (i : ℕ) → i < 32 → Match (loaded_member f t i) (begun_box f t (left (suc i)) (suc i))
  unfolding loaded_member
  one i k =
      by-test (λ (m : Member). Match m box) (ltb i f.nodes) _ _
      (λ e.
      let o = numbered f i (ltb-true i f.nodes e) k in
      let x : suc i ≡ i + 1 = omega arith in
      let y : suc i - 1 ≡ i = omega arith in
      let r = row_of t (suc i) in
      let M = begin-box (window node_size memory 0) (window schedule_size memory node_size) (setup_of f (suc i)) r.version r.flags
      r.want (length-tab schedule_size _) (b.each (suc i) o) in
      subst (λ (u : Bool). Match (begins (i + 1) i) (box_of u)) (sym (ap not o))
      (subst (λ (m : Member). Match m (box_of true)) (ap₂ begins x y) M))
      (λ e. down-box refl (ap not (above f i (ltb-false i f.nodes e))) (begun-size f t memory (suc i)) (length-tab schedule_size _))
    where
      memory : List ℕ
      memory = left (suc i)

      box : Box
      box = begun_box f t memory (suc i)

      box_of : Bool → Box
      box_of u = record { up = u; area = box.area; out = box.out }

      begins : ℕ → ℕ → Member
      begins j k = let r = get_or t.rows k no_row in record { up = true; node = starting (setup_of f j) r.version r.flags r.want }

  -- the field beside the site, whatever the packet area holds
  pub begun-together : (area : List ℕ) → area_size ≤ length area → Together (loaded_site f t) area (begun_fleet f t left)
  unfolding loaded_site begun_fleet
  begun-together area h =
      record {
        air = [];
        boxes = λ j. begun_box f t (left j) j;
        is = refl;
        beside = record {
          members = length-tab 32 (loaded_member f t);
          lent = h;
          count = sym packets-none;
          parts = λ p k. absurd (not-suc-le-zero k);
          each = λ i. go i (dec_lt i 32);
        };
      }
    where
      go : (i : ℕ) → Dec (i < 32) → Match (get_or (tab 32 (loaded_member f t)) i nobody) (begun_box f t (left (suc i)) (suc i))
      go i (yes l) = rw (get_d-tab nobody 32 (loaded_member f t) i l) (one i l)
      go i (no l) =
          rw (get_or-eq_default (tab 32 (loaded_member f t)) nobody {n = i} (omega (arith, length-tab 32 (loaded_member f t))))
          (down-box refl (ap not (far f i (omega arith))) (begun-size f t (left (suc i)) (suc i)) (length-tab schedule_size _))
