-- The demands of an epoch as they are written: one byte of each node that is up and has windows.
-- Assumes nothing.
use mathlib.Core.Path.{◌≡◌, refl, sym, ap, ◌∙◌}
use mathlib.Core.Bool.{Bool, true, false, not, cond, ◌&&◌}
use mathlib.Core.List.{List}
use Prim.Native.Nat.{ℕ, ◌+◌, ◌-◌, ◌≤◌, ◌<◌}
use native.Mathlib.Omega.{arith}
use borrow.Author.Tests.{lt-ltb, le-ltb, le-leb, leb-true, leb-false}
use lib.Dec.{ltb, leb}
use lib.ListN.{length, get_or, set}
use lib.Seq.{set-get_or}
use Rattle.words.proofs.Tests.{hit, skip, both, read_same, read-choice}
use Rattle.lists.specs.All.{iter}
use Rattle.lists.proofs.Laws.{iter-inv}
use Rattle.allotment.specs.Allotment.{top_request}
use Rattle.node.specs.Answers.{Answer, Done, OutOfRange, NoSuchNode, NotLive, NoRoom, is_done}
use Rattle.node.specs.declared.Config.{Config}
use Rattle.site.specs.Answers.{area_size, site_want, answer_of}
use Rattle.site.specs.Members.{member_at, outside}
use Rattle.site.specs.Model.{Member}
use Rattle.site.specs.declared.Event.TheVariants.{Want}
use Rattle.site.specs.declared.Row.{Row}
use Rattle.windows.specs.Windows.{list_ok, has_windows, due_at}
use Rattle.windows.specs.declared.Window.{Window}
use Rattle.windows.proofs.Laws.{due-given, due-kept, due-range}
use Rattle.machine.specs.Layout.{Store, store, too_short, node_bytes_at, up_in, node_in, stored_in, config_in, site_in}
use Rattle.machine.specs.Written.{demanded}
use Rattle.machine.specs.Loading.{member_read}
use Rattle.machine.specs.steps.After.{wanted_store, storage_answer, store_after}
use Rattle.machine.specs.timed.Timed.{given_row}
use Rattle.machine.specs.timed.Stored.{given_at}
use Rattle.machine.specs.timed.Inner.{no_demand, row_given, demand_given}
use Rattle.machine.proofs.Seats.{config-are, member_is}
use Rattle.machine.proofs.Whole.{enough, stored-read}
use Rattle.machine.proofs.timed.Stored.{Long}

-- a want is accepted where the demand is within its range and the node is up
done-up : (u : Bool) → is_done (cond u Done NotLive) ≡ u
done-up true = refl
done-up false = refl

in-range : (d : ℕ) (u : Bool) → is_done (cond (ltb top_request d) OutOfRange (cond u Done NotLive)) ≡ (leb d top_request && u)
in-range d u = go (leb d top_request) refl
  where
    go : (t : Bool) → leb d top_request ≡ t → is_done (cond (ltb top_request d) OutOfRange (cond u Done NotLive)) ≡ (t && u)
    go true h = ap is_done (skip _ _ _ _ (le-ltb top_request d (leb-true d top_request h)) refl) ∙ done-up u
    go false h = ap is_done (hit _ _ _ (lt-ltb top_request d (leb-false d top_request h)))

module _ (ws : List Window) (e : ℕ) (l : List ℕ) where
  -- too little storage or area: nothing is written
  refused : (s : Store) (i : ℕ) → ((a : Answer) → cond (too_short s) NoRoom (cond (ltb (length l) area_size) NoRoom a) ≡ NoRoom)
      → given_at ws e l i s ≡ s
  unfolding given_at store_after storage_answer answer_of
  refused s i h = skip _ _ _ _ (ap is_done (h _)) refl

  none : (s : Store) (n : ℕ) → ((a : Answer) → cond (too_short s) NoRoom (cond (ltb (length l) area_size) NoRoom a) ≡ NoRoom)
      → iter n (given_at ws e l) s ≡ s
  none s n h = iter-inv {n = n} (λ k t. t ≡ s) (given_at ws e l) s refl (λ k t _ q. ap (given_at ws e l k) q ∙ refused s k h)

  pub none-short : (s : Store) (n : ℕ) → too_short s ≡ true → iter n (given_at ws e l) s ≡ s
  none-short s n h = none s n (λ a. hit _ _ _ h)

  pub none-area : (s : Store) (n : ℕ) → length l < area_size → iter n (given_at ws e l) s ≡ s
  none-area s n h = none s n (λ a. read_same (λ (x : Answer). x) (too_short s) NoRoom _ NoRoom refl (hit _ _ _ (lt-ltb _ _ h)))

  -- the node at an index, one of the N
  module _ (w b : List ℕ) (i : ℕ) (long : Long (store w b)) (room : area_size ≤ length l) (h : i < 32) (f : i < (config_in (store w b)).nodes)
    where
      abbrev s : Store
      s = store w b

      index : i + 1 - 1 ≡ i
      index = omega arith

      own : outside (config_in s) (i + 1) ≡ false
      own =
          ap not (both {b = true} {d = true} (le-leb 1 (i + 1) (omega arith))
          (both {b = true} {d = true} (le-leb (i + 1) (config_in s).nodes (omega (arith, f))) (le-leb (i + 1) 32 (omega (arith, h)))))

      accepted : (d : ℕ) → is_done (storage_answer s l (Want (i + 1) d)) ≡ (leb d top_request && up_in b i)
      unfolding storage_answer answer_of site_want
      accepted d =
          let m = member_is s (i + 1) own ∙ ap (stored_in s) index in
          ap is_done
          (skip _ _ _ _ (enough s long.0 long.1)
          (skip _ _ _ _ (le-ltb (length l) area_size room)
          (ap (λ (t : Bool). cond (ltb top_request d) OutOfRange (cond t NoSuchNode (cond (member_at (site_in s) (i + 1)).up Done NotLive)))
          (ap (λ (g : Config). outside g (i + 1)) (config-are s) ∙ own)
          ∙ ap (λ (x : Member). cond (ltb top_request d) OutOfRange (cond x.up Done NotLive)) m)))
          ∙ in-range d (up_in b i)

      after : (d : ℕ) → store_after s l (Want (i + 1) d) ≡ store w (demand_given b i d)
      unfolding store_after wanted_store
      after d =
          ap (λ (t : Bool). cond t (demanded s (i + 1 - 1) d) s) (accepted d)
          ∙ ap (λ (k : ℕ). cond (leb d top_request && up_in b i) (demanded s k d) s) index
          ∙ sym (read-choice (store w) (leb d top_request && up_in b i) (set b (node_bytes_at i + 1) d) b)

      -- its own demand, written over itself
      kept : demand_given b i (member_read s (i + 1)).node.demand ≡ b
      unfolding node_in
      kept =
          ap (λ (m : Member). demand_given b i m.node.demand) (stored-read s (i + 1) long.0 long.1 own ∙ ap (stored_in s) index)
          ∙ read_same (λ (x : List ℕ). x) (leb (get_or b (node_bytes_at i + 1) 0) top_request && up_in b i) _ b b
          (set-get_or b (node_bytes_at i + 1) 0) refl

      pub one_byte : {d : ℕ} {x : List ℕ} → x ≡ demand_given b i d → d ≡ due_at ws (i + 1) e no_demand → store w x ≡ given_at ws e l i s
      unfolding given_at
      one_byte {d} {x} p q = ap (store w) p ∙ ap (λ (y : ℕ). store w (demand_given b i y)) q ∙ sym (go (has_windows ws (i + 1)) refl)
        where
          go : (t : Bool) → has_windows ws (i + 1) ≡ t → given_at ws e l i s ≡ store w (demand_given b i (due_at ws (i + 1) e no_demand))
          go true k = after _ ∙ ap (λ (y : ℕ). store w (demand_given b i y))
              (due-given ws (i + 1) e _ k ∙ sym (due-given ws (i + 1) e no_demand k))
          go false k = after _ ∙ ap (λ (y : ℕ). store w (demand_given b i y)) (due-kept ws (i + 1) e _ k) ∙ ap (store w) kept
              ∙ sym (ap (λ (y : ℕ). store w (demand_given b i y)) (due-kept ws (i + 1) e no_demand k))

-- a row at the load
pub row_is : (N D : ℕ) (ws : List Window) → list_ok N D ws ≡ true → (j : ℕ) (r : Row) {d : ℕ} → d ≡ due_at ws j 0 no_demand
    → row_given r d ≡ given_row ws j r
row_is N D ws ok j r {d} q = ap (row_given r) q ∙ go (has_windows ws j) refl
  where
    go : (t : Bool) → has_windows ws j ≡ t → row_given r (due_at ws j 0 no_demand) ≡ given_row ws j r
    go true k =
        let g = due-given ws j 0 no_demand k in
        let h = due-range N D ws ok j 0 in
        let v = ap (λ (x : ℕ). cond (leb x top_request) x r.want) g ∙ hit _ _ _ (le-leb _ top_request h)
        ∙ sym (due-given ws j 0 r.want k) in
        λ i. record { version = r.version; flags = r.flags; want = v i }
    go false k =
        let v = ap (λ (x : ℕ). cond (leb x top_request) x r.want) (due-kept ws j 0 no_demand k) ∙ sym (due-kept ws j 0 r.want k) in
        λ i. record { version = r.version; flags = r.flags; want = v i }
