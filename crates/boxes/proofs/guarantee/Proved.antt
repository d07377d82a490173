-- Demand 3 holds of the list of events of every script that is not refused before its events.
-- Assumes nothing.
use mathlib.Core.Path.{◌≡◌, ap, ◌∙◌}
use mathlib.Core.List.{List, [], ◌++◌}
use Prim.Native.Nat.{ℕ, ◌+◌}
use Rattle.desk.specs.listing.Rows.{first_head, rows_text}
use Rattle.script.proofs.load.Outcome.{opening-loads}
use Rattle.site.specs.Model.{Site}
use Rattle.text.specs.Read.{split}
use Rattle.desk.proofs.listings.Listed.{ListedSo, told}
use Rattle.agreement.proofs.Theorem.{holds}
use Rattle.consensus.proofs.Theorem.{consensus}
use Rattle.agreement.proofs.daily.Theorem.{daily}
use Rattle.agreement.proofs.daily.Without.{none-ok, without}
use Rattle.desk.specs.listings.Output.{second_head, events_in, calls_of, refused_lines, loaded_state}
use Rattle.boxes.specs.guarantee.Guarantee.{Guaranteed, Plainly, Guarantee}

pub guarantee : Guarantee
guarantee =
    record {
      keeps = λ D ws script area o ls h e k.
          let t = told D ws script area o ls h e k in
          record {
            printed = t.printed;
            demand3 = λ u. daily.demand3 o.config o.table D ws t.loads u area (calls_of ws (events_in ls));
          };
      plainly = λ script area o ls h e.
          let t = told 1 [] script area o ls h e (none-ok o.config.nodes) in
          let l = opening-loads (split 10 script) o ls e in
          record {
            printed = t.printed ∙ ap (λ (s : Site). first_head o.config.split
                ++ (refused_lines [] (loaded_state 1 [] o area) (5 + o.config.nodes) ls
                ++ (second_head ++ rows_text o.config.nodes 0 s.members o.config.slots)))
                (without o.config o.table l area (events_in ls));
            demand3 = λ u. holds.demand3 o.config o.table l u area (events_in ls);
            completes = consensus.completes o.config o.table l area;
          };
    }
