-- The state in which the events begin.
-- Assumes nothing.
use mathlib.Core.Path.{◌≡◌, refl, sym, ap, ◌∙◌}
use mathlib.Core.Bool.{true}
use mathlib.Core.List.{List, []}
use Prim.Native.Nat.{ℕ}
use native.Mathlib.Omega.{arith}
use lib.ListN.{replicate, length-replicate}
use Rattle.std.specs.Prelude.{Result, Ok}
use Rattle.words.proofs.Tests.{hit}
use Rattle.lists.specs.All.{all_below}
use Rattle.node.specs.Answers.{Answer, Done, answered}
use Rattle.site.specs.Load.{load_answer}
use Rattle.windows.specs.Windows.{list_ok}
use Rattle.machine.specs.Layout.{Store, store, site_in}
use Rattle.machine.specs.timed.Timed.{first_epoch, loaded_timed}
use Rattle.machine.specs.timed.Stored.{timed_in, stored_load_answer, stored_load, timed_loaded_site}
use Rattle.machine.specs.declared.Day.{Day}
use Rattle.machine.proofs.timed.Stored.{Long, as_load, as-begun}
use Rattle.script.specs.declared.Opened.{Opened}

-- a day of one epoch and no windows keep the rules
pub no-windows : (n : ℕ) → list_ok n 1 [] ≡ true
unfolding list_ok all_below
no-windows n = refl

-- the storage before the load
abbrev pub zeros : Store
zeros = store (replicate 262 0) (replicate 24769 0)

zeros-long : Long zeros
zeros-long = (omega (arith, length-replicate {A = ℕ} 262 0), omega (arith, length-replicate {A = ℕ} 24769 0))

-- a load of settings and table that were read, with that day
module _ (o : Opened) (h : load_answer o.config o.table ≡ Done) where
  loads : stored_load_answer zeros o.config o.table 1 [] ≡ Done
  loads = as_load zeros o.config o.table 1 [] zeros-long h ∙ hit _ _ _ (no-windows o.config.nodes)

  pub day-is : stored_load zeros o.config o.table 1 [] ≡ Ok (first_epoch 1)
  day-is = ap (λ (x : Answer). answered x (first_epoch 1)) loads

  pub begins : (u : Store) (d : Day) → d ≡ first_epoch 1 → site_in u ≡ timed_loaded_site zeros o.config o.table 1 []
      → timed_in u d ≡ loaded_timed o.config o.table 1 []
  begins u d e k = as-begun zeros u o.config o.table 1 [] d loads e k
