-- The row is made in a buffer of its own, which is long enough for any, and then tried at its place: all of it or nothing.
use mathlib.Core.List.{List}
use mathlib.Core.Path.{◌≡◌, sym, ◌∙◌}
use Prim.Native.Nat.{ℕ, min, ◌≤◌}
use native.Mathlib.Omega.{arith}
use lib.ListN.{length, take, length-take}
use lib.Seq.{length-take-le}
use borrow.Author.Rules.{rules}
use Rattle.lists.proofs.Chain.{front-is, retry}
use Rattle.machine.specs.Layout.{store}
use Rattle.machine.specs.Loading.{member_read}
use Rattle.desk.specs.listing.Rows.{row_text}
use Rattle.desk.specs.listing.Inner.{shown_row}
use Rattle.desk.proofs.listing.Laws.{ends-within, row-long, row_is}
use Rattle.desk.proofs.listing.put_row.Goals as goal

-- at most 80 owners are shown
few : (n k : ℕ) (o : List ℕ) → n ≡ min k 80 → length (take n o) ≤ 80
few n k o e = omega (arith, e, length-take n o)

pub slice_bounds-row-end-2 : goal.slice_bounds-row-end-2
slice_bounds-row-end-2 c =
    let h : c.slots-top.result ≤ length c.show_owners.new.owners = search rules in
    sym (length-take-le _ _ h)

pub row-n-requires : goal.row-n-requires
row-n-requires c =
    let o = c.show_owners.new.owners in
    (few _ _ o c.slots-top.ensures, search rules)

pub slice_bounds-b-end : goal.slice_bounds-b-end
slice_bounds-b-end c =
    ends-within (row-long _ _ _ (few _ _ c.show_owners.new.owners
    c.slots-top.ensures)) c.row-n.ensures

pub slice_bounds-put_bytes-end : goal.slice_bounds-put_bytes-end
slice_bounds-put_bytes-end c =
    sym (length-take-le _ _ (ends-within (row-long _ _ _ (few _ _ c.show_owners.new.owners
    c.slots-top.ensures)) c.row-n.ensures))

-- The row written apart is the text of what the member shows, which is the member's row (`row_is`).
pub returns : goal.returns
returns c =
    let a = c.args in
    let m = member_read (store a.words.now a.bytes.now) a.j in
    let e : shown_row a.j c.shown_of-s.result (take c.slots-top.result c.show_owners.new.owners)
    ≡ row_text a.j m (min a.k 80) =
    (λ i. shown_row a.j (c.shown_of-s.ensures i) (take (c.slots-top.ensures i) (c.show_owners.ensures i)))
    ∙ row_is a.j m (min a.k 80) (omega arith) in
    retry (front-is c.row-n.ensures ∙ e) c.put_bytes.ensures
