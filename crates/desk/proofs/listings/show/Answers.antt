use Rattle.desk.proofs.listings.Parts.{ends-within, no_room, with-room}
use native.Mathlib.Omega.{arith}
use Rattle.desk.proofs.listings.show.Goals as goal

pub returns-then-out-room_of : goal.returns-then-out-room_of
returns-then-out-room_of c =
    let a = c.args in
    let q = no_room a.v a.day a.w.now a.script.now a.area.now a.out.now
    (omega (arith, c.if-out-room_of.true, c.room_of.ensures)) in record {
      value = q.0;
      out_after = q.1;
      area_after = q.2;
      within = tt;
    }

pub print-requires : goal.print-requires
print-requires c = omega (arith, c.if-out-room_of.false, c.room_of.ensures)

pub returns : goal.returns
returns c =
    let a = c.args in
    let h = c.if-out-room_of.false in
    let z = c.room_of.ensures in
    let p = c.print.ensures in
    let q = with-room a.v a.day a.w.now a.script.now a.area.now a.out.now (omega (arith, h, z)) p.put
    p.area_after in record {
      value = q.0;
      out_after = q.1;
      area_after = q.2;
      within = (ends-within (omega (arith, h, z, p.within)) p.put, p.within);
    }
