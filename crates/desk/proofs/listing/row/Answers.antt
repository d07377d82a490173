use mathlib.Core.List.{[], ◌∷◌}
use Rattle.lists.proofs.Chain.{room_for, next, finish-by}
use Rattle.desk.specs.listing.Rows.{owners_text}
use Rattle.desk.proofs.listing.Laws.{row-left}
use Rattle.desk.proofs.listing.row.Goals as goal

pub put_owners-f-requires : goal.put_owners-f-requires
put_owners-f-requires c =
    let q = row-left _ c.args.s c.args.owners.now c.requires.0 c.requires.1
    c.put_field-a.ensures
    c.put_state-b.ensures c.put_field-c.ensures c.put_field-d.ensures c.put_field-e.ensures in
    room_for (owners_text c.args.owners.now) (10 ∷ []) q

-- The five fields put in front leave the owners and byte 10 to be written (`row-left`); these end the row.
pub returns : goal.returns
returns c =
    let q = row-left _ c.args.s c.args.owners.now c.requires.0 c.requires.1
    c.put_field-a.ensures
    c.put_state-b.ensures c.put_field-c.ensures c.put_field-d.ensures c.put_field-e.ensures
    in
    finish-by (10 ∷ []) (next _ (10 ∷ []) q c.put_owners-f.ensures) c.put_byte.ensures
