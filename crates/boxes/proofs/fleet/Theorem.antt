-- Demand 3 on the bytes of the boxes, proved: over every list of events from boxes just begun.
-- Assumes nothing.
use mathlib.Core.Path.{◌≡◌, sym, ap, subst}
use mathlib.Core.List.{List}
use Prim.Native.Nat.{ℕ, ◌≤◌}
use native.Mathlib.Omega.{arith}
use lib.ListN.{length, length-replicate}
use Rattle.site.specs.Members.{member_at}
use Rattle.site.specs.Answers.{area_size}
use Rattle.site.specs.Run.{run}
use Rattle.node.specs.declared.Config.{Config}
use Rattle.site.specs.declared.Table.{Table}
use Rattle.histories.specs.Reached.{begin}
use Rattle.agreement.specs.Demand.{Demand3}
use Rattle.agreement.proofs.Theorem.{holds}
use Rattle.boxes.specs.fleet.Fleet.{Fleet, Act, zeros, begun_fleet}
use Rattle.boxes.specs.fleet.Past.{no_box_past}
use Rattle.boxes.specs.fleet.Claim.{Begins, Agreeing, Working, Plain, Shows, Replayed, events, FleetHolds}
use Rattle.boxes.proofs.fleet.Begins.{loads}
use Rattle.boxes.proofs.fleet.Reach.{begun, reaches, same-answers}
use Rattle.boxes.proofs.fleet.Results.{agreeing, working, plain, shows}
use Rattle.boxes.proofs.fleet.Past.{begun-parallel, parallels, justified}

-- an area for the site that stands beside the boxes
lent : area_size ≤ length (zeros area_size)
lent = let e = length-replicate {A = ℕ} area_size 0 in omega arith

-- the replay of the same events, with any packet area that is long enough
replayed : (f : Config) (t : Table) (left : ℕ → List ℕ) (b : Begins f t left) (acts : List Act) (area : List ℕ) → area_size ≤ length area
    → Replayed f t left area acts
replayed f t left b acts area l =
    let w = begin f t area in
    let x = begun_fleet f t left in
    let r0 = begun f t left b area l in
    let r = reaches w x acts r0 in
    let s = (run w (events acts)).site in
    record {
      answers = same-answers w x acts r0;
      phase = ap (λ (y : Fleet). y.negotiates) r.together.is;
      shows = λ j n. subst (λ (y : Fleet). Shows (member_at s j) (y.boxes j)) (sym r.together.is)
          (shows r.kept r.together.beside j n);
      demand3 = λ u. holds.demand3 f t (loads f t left b) u area (events acts);
    }

-- the theorem
pub fleet-holds : FleetHolds
fleet-holds =
    record {
      demand3 = λ f t left b acts.
          let w = begin f t (zeros area_size) in
          let x = begun_fleet f t left in
          let r0 = begun f t left b (zeros area_size) lent in
          let r = reaches w x acts r0 in
          let d : f.split ≡ 0 → Demand3 f t (zeros area_size) (events acts) = λ u. holds.demand3 f t (loads f t left b) u (zeros area_size)
          (events acts) in
          record {
            agreeing = λ u. subst Agreeing (sym r.together.is) (agreeing r.kept r.together.beside (d u).agreement);
            justified = λ u. justified f.nodes (parallels w x (no_box_past x) acts r0 (begun-parallel r0)) (d u).justified (d u).unique;
            working = subst Working (sym r.together.is) (working r.kept r.together.beside);
            plain = subst Plain (sym r.together.is) (plain r.kept r.together.beside);
            replayed = replayed f t left b acts;
          };
    }
