-- A table with the demands of the first epoch is accepted where the table is.
-- Assumes nothing.
use mathlib.Core.Path.{◌≡◌, refl, ap, ◌∙◌}
use mathlib.Core.Bool.{Bool, true, false, cond, ◌||◌}
use mathlib.Core.List.{List}
use Prim.Native.Nat.{ℕ, ◌+◌, ◌≤◌, ◌<◌}
use native.Mathlib.Omega.{arith}
use lib.Dec.{leb}
use lib.ListN.{get_or}
use Rattle.words.proofs.Tests.{hit, both, and_left, and_right, or-front, or-back, or-rest}
use Rattle.lists.specs.All.{tab}
use Rattle.lists.proofs.Laws.{all-at, all-make, get_d-tab}
use Rattle.allotment.specs.Allotment.{top_request}
use Rattle.node.specs.Answers.{is_done}
use Rattle.node.specs.Begin.{start_answer}
use Rattle.node.specs.Answers.{Done, OutOfRange, BadWindows}
use Rattle.node.specs.declared.Setup.{Setup}
use Rattle.node.proofs.Answers.{test-met, both-done, done-is}
use Rattle.node.proofs.Tested.{start-asks, start-done}
use Rattle.node.specs.Figures.{config_ok}
use Rattle.site.specs.Load.{no_row, row_ok, table_ok, load_answer}
use Rattle.node.specs.declared.Config.{Config}
use Rattle.site.specs.declared.Row.{Row}
use Rattle.site.specs.declared.Table.{Table}
use Rattle.windows.specs.Windows.{list_ok}
use Rattle.windows.specs.declared.Window.{Window}
use Rattle.windows.proofs.Laws.{due-small}
use Rattle.machine.specs.timed.Timed.{given_row, given_table, timed_load_answer}

-- a node that starts with one demand starts with any other within its range
start-any : (s : Setup) (v flags d x : ℕ) → start_answer s v flags d ≡ Done → x ≤ top_request → start_answer s v flags x ≡ Done
start-any s v flags d x h l = let a = start-asks s v flags d h in start-done s v flags x
    (record { config = a.config; version = a.version; demand = l; flags = a.flags; node = a.node })

-- a row with another demand is as good
row_any : (f : Config) (D : ℕ) (ws : List Window) (i : ℕ) (r : Row) → list_ok f.nodes D ws ≡ true → row_ok f i r ≡ true
    → row_ok f i (given_row ws (i + 1) r) ≡ true
unfolding row_ok
row_any f D ws i r ok h =
    let d = done-is _ h in
    ap is_done (start-any _ r.version r.flags r.want _ d
    (due-small f.nodes D ws ok (i + 1) 0 r.want top_request (omega arith)
    (start-asks _ r.version r.flags r.want d).demand))

pub given-loads : (f : Config) (t : Table) (D : ℕ) (ws : List Window) → list_ok f.nodes D ws ≡ true → load_answer f t ≡ Done
    → load_answer f (given_table ws t) ≡ Done
unfolding load_answer table_ok given_table
given-loads f t D ws ok h =
    let p = (test-met _ _ OutOfRange refl h).0 in
    hit _ _ _ (both {b = true} {d = true} (and_left (config_ok f) _ p)
    (all-make 32 _ (λ i l. each i l (all-at 32 _ (and_right (config_ok f) _ p) i l))))
  where
    given : ℕ → Row
    given i = given_row ws (i + 1) (get_or t.rows i no_row)

    each : (i : ℕ) → i < 32 → (leb f.nodes i || row_ok f i (get_or t.rows i no_row)) ≡ true
        → (leb f.nodes i || row_ok f i (get_or (tab 32 given) i no_row)) ≡ true
    each i l q = go (leb f.nodes i) refl
      where
        go : (b : Bool) → leb f.nodes i ≡ b → (leb f.nodes i || row_ok f i (get_or (tab 32 given) i no_row)) ≡ true
        go true e = or-front _ _ e
        go false e = or-back (leb f.nodes i) _
            (ap (row_ok f i) (get_d-tab no_row 32 given i l) ∙ row_any f D ws i (get_or t.rows i no_row) ok (or-rest (leb f.nodes i) _ q e))

-- an accepted load with windows: table and list are both good
pub timed-accepted : (f : Config) (t : Table) (D : ℕ) (ws : List Window) → timed_load_answer f t D ws ≡ Done
    → (load_answer f t ≡ Done) × (list_ok f.nodes D ws ≡ true)
unfolding timed_load_answer
timed-accepted f t D ws h = let p = both-done (load_answer f t) (cond (list_ok f.nodes D ws) Done BadWindows) h in
    (p.0, (test-met (list_ok f.nodes D ws) Done BadWindows refl p.1).0)
