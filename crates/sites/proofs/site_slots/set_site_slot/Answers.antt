-- Three words are written, one behind another.
use mathlib.Core.Path.{◌≡◌, ◌∙◌}
use Prim.Native.Nat.{◌+◌, ◌*◌}
use native.Mathlib.Omega.{arith}
use lib.ListN.{length, set, length-set}
use Rattle.sites.proofs.site_slots.set_site_slot.Goals as goal

pub bounds-table-i-2 : goal.bounds-table-i-2
bounds-table-i-2 c = let l : length (set c.args.table.now (256 + 3 * c.args.i) 1) ≡ length c.args.table.now =
    length-set c.args.table.now (256 + 3 * c.args.i) 1 in omega (arith, l, c.requires.0, c.requires.1)

pub bounds-table-i-3 : goal.bounds-table-i-3
bounds-table-i-3 c =
    let t = c.args.table.now in
    let i = c.args.i in
    let l : length (set (set t (256 + 3 * i) 1) (256 + 3 * i + 1) c.args.day.length) ≡ length t =
    length-set (set t (256 + 3 * i) 1) (256 + 3 * i + 1) c.args.day.length ∙ length-set t (256 + 3 * i) 1 in
    omega (arith, l, c.requires.0, c.requires.1)

pub shape_of-table : goal.shape_of-table
shape_of-table c =
    let t = c.args.table.now in
    let i = c.args.i in
    length-set (set (set t (256 + 3 * i) 1) (256 + 3 * i + 1) c.args.day.length) (256 + 3 * i + 2) c.args.day.epoch
    ∙ length-set (set t (256 + 3 * i) 1) (256 + 3 * i + 1) c.args.day.length ∙ length-set t (256 + 3 * i) 1
