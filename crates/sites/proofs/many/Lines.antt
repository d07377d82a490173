-- Rows lent as words, and events made of three numbers: from the inner calls to what the definitions say.
-- Assumes nothing.
use mathlib.Core.Path.{◌≡◌, refl, sym, ap, ◌∙◌, subst}
use mathlib.Core.Bool.{true, false, cond}
use mathlib.Core.List.{List}
use Prim.Native.Nat.{ℕ}
use Rattle.words.proofs.Tests.{hit, skip}
use Rattle.node.specs.Answers.{Answer, Done, OutOfRange, NoSuchNode, NoRoom, is_done}
use Rattle.node.specs.declared.Config.{Config}
use Rattle.site.specs.declared.Event.{Event}
use Rattle.windows.specs.declared.Window.{Window}
use Rattle.tally.specs.Counting.{first_tally}
use Rattle.tally.specs.declared.Tally.{Tally}
use Rattle.std.specs.Prelude.{Option}
use Rattle.std.specs.Prelude.{None, Some}
use Rattle.sites.specs.one.Calls.{table_from}
use Rattle.group.specs.Group.{is_number}
use Rattle.sites.specs.many.Memory.{Memory, memory, Lent, group_too_short, group_in}
use Rattle.sites.specs.many.Calls.{row_count_fits, rows_answer, after_rows, group_rows, tally_loaded, group_line_answer}
use Rattle.sites.specs.many.Calls.{after_line, tally_after_line}
use Rattle.sites.specs.many.Calls.{area_after_line, report_after_line, group_after_line}
use Rattle.sites.proofs.many.Groups.{EventIs, LoadIs}

module _ (m : Memory) (a : ℕ) (f : Config) (rows : List ℕ) (D : ℕ) (ws : List Window) where
  abbrev pub RowsIs : Answer → List ℕ → List ℕ → List ℕ → Type 0
  RowsIs r w b l =
      (r ≡ rows_answer m a f rows D ws)
      × ((w ≡ (after_rows m a f rows D ws).words)
      × ((b ≡ (after_rows m a f rows D ws).bytes)
      × ((l ≡ (after_rows m a f rows D ws).table) × ((area : List ℕ) → group_in (memory w b l) area ≡ group_rows m area a f rows D ws))))

  pub rows-load : row_count_fits f rows ≡ true → {r : Answer} {w b l : List ℕ} → LoadIs m a f (table_from rows) D ws r w b l → RowsIs r w b l
  unfolding rows_answer after_rows group_rows
  rows-load h z =
      let q = sym (hit _ _ m h) in (
        z.0 ∙ sym (hit _ _ _ h),
        (
          z.1.0 ∙ ap (λ (x : Memory). x.words) q,
          (
            z.1.1.0 ∙ ap (λ (x : Memory). x.bytes) q,
            (z.1.1.1.0 ∙ ap (λ (x : Memory). x.table) q, λ area. z.1.1.1.1 area ∙ sym (hit _ _ _ h)),
          ),
        ),
      )

  rows-kept : row_count_fits f rows ≡ false → (x : Answer) → cond (is_number a) (cond (group_too_short m) NoRoom OutOfRange) NoSuchNode ≡ x
      → RowsIs x m.words m.bytes m.table
  unfolding rows_answer after_rows group_rows
  rows-kept h x e =
      let q : m ≡ after_rows m a f rows D ws = sym (skip _ _ _ _ h refl) in (
        sym (skip _ _ _ _ h e),
        (
          ap (λ (x : Memory). x.words) q,
          (ap (λ (x : Memory). x.bytes) q, (ap (λ (x : Memory). x.table) q, λ area. sym (skip _ _ _ _ h refl))),
        ),
      )

  pub rows-number : {r : Answer} → row_count_fits f rows ≡ false → is_number a ≡ false → r ≡ NoSuchNode
      → RowsIs r m.words m.bytes m.table
  rows-number h n k = let z = rows-kept h NoSuchNode (skip _ _ _ _ n refl) in (k ∙ z.0, z.1)

  pub rows-room : {r : Answer} → row_count_fits f rows ≡ false → is_number a ≡ true → group_too_short m ≡ true → r ≡ NoRoom
      → RowsIs r m.words m.bytes m.table
  rows-room h n k q = let z = rows-kept h NoRoom (hit _ _ _ n ∙ hit _ _ _ k) in (q ∙ z.0, z.1)

  pub rows_none : {r : Answer} → row_count_fits f rows ≡ false → is_number a ≡ true → group_too_short m ≡ false → r ≡ OutOfRange
      → RowsIs r m.words m.bytes m.table
  rows_none h n k q = let z = rows-kept h OutOfRange (hit _ _ _ n ∙ skip _ _ _ _ k refl) in (q ∙ z.0, z.1)

  -- the tally of the number is set anew where the load is accepted
  pub rows-first : (t : Tally) {v : Tally} → Done ≡ rows_answer m a f rows D ws → v ≡ first_tally → v ≡ tally_loaded m a f rows D ws t
  unfolding tally_loaded
  rows-first t e h = h ∙ sym (hit _ _ _ (ap is_done (sym e)))

  pub rows-stay : (t : Tally) {r : Answer} → r ≡ rows_answer m a f rows D ws → is_done r ≡ false → t ≡ tally_loaded m a f rows D ws t
  unfolding tally_loaded
  rows-stay t e h = sym (skip _ _ _ _ (ap is_done (sym e) ∙ h) refl)

-- an event made of three numbers
abbrev pub LineIs : Memory → List ℕ → ℕ → Lent → Option Event → Answer → Tally → List ℕ → List ℕ → List ℕ → List ℕ → List ℕ → Type 0
LineIs m area a v p r q w b t y o =
    (r ≡ group_line_answer m area a v p)
    × ((w ≡ (after_line m area a v p).words)
    × ((b ≡ (after_line m area a v p).bytes)
    × ((t ≡ (after_line m area a v p).table)
    × ((y ≡ area_after_line m area a v p)
    × ((o ≡ report_after_line m area a v p)
    × ((group_in (memory w b t) y ≡ group_after_line m area a v p) × (q ≡ tally_after_line m area a v p)))))))

pub no_line : (m : Memory) (area : List ℕ) (a : ℕ) (v : Lent) (p : Option Event) → None ≡ p → {r : Answer} → r ≡ group_line_answer m area a v None
    → LineIs m area a v p r v.tally m.words m.bytes m.table area v.out
no_line m area a v p e {r} k =
    subst (λ (p : Option Event). LineIs m area a v p r v.tally m.words m.bytes m.table area v.out) e
    (k, (refl, (refl, (refl, (refl, (refl, (refl, refl)))))))

pub good-line : (m : Memory) (area : List ℕ) (a : ℕ) (v : Lent) (p : Option Event) (e : Event) → Some e ≡ p → {r : Answer} {q : Tally}
    {w b t y o : List ℕ} → EventIs m area a v e r q w b t y o → LineIs m area a v p r q w b t y o
good-line m area a v p e h {r} {q} {w} {b} {t} {y} {o} z = subst (λ (p : Option Event). LineIs m area a v p r q w b t y o) h z
