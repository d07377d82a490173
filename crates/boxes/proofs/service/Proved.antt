-- A demand, and then the end: as a site's end with windows. A beginning with the demand of epoch 0: as a site's load with windows.
-- Assumes nothing.
use mathlib.Core.Path.{◌≡◌, refl, sym, ap, ◌∙◌, subst}
use mathlib.Core.Bool.{Bool, true, false, not, cond, ◌&&◌}
use mathlib.Core.List.{List, [], ◌∷◌}
use Prim.Native.Nat.{ℕ, ◌+◌, ◌-◌, ◌≤◌, ◌<◌}
use native.Mathlib.Omega.{arith}
use borrow.Author.Tests.{le-ltb, lt-ltb, le-leb, leb-true, not-false}
use lib.Dec.{ltb, leb}
use lib.ListN.{get_or}
use Rattle.words.proofs.Tests.{never, hit, skip, both, and_left, and_right, read_same}
use Rattle.lists.specs.All.{tab}
use Rattle.lists.proofs.Laws.{get_d-tab}
use Rattle.allotment.specs.Allotment.{top_request}
use Rattle.node.specs.Answers.{is_done}
use Rattle.node.specs.Begin.{starting, start_answer}
use Rattle.node.specs.Steps.{wanted_node}
use Rattle.node.specs.Answers.{Done, OutOfRange, NoSuchNode, BadWindows}
use Rattle.node.specs.Model.{Node}
use Rattle.node.proofs.Answers.{test-passed, test-met, both-done}
use Rattle.node.proofs.Tested.{start-asks, start-done}
use Rattle.area.specs.Area.{encoded, decoded, valid}
use Rattle.host.specs.Calls.{after_want, after_end}
use Rattle.host.specs.Owners.{wants, ends, node_after_call, area_after_all, node_after_all}
use Rattle.host.proofs.Owners.{by-owners}
use Rattle.site.specs.Members.{nobody, setup_of, member_at, outside}
use Rattle.site.specs.Load.{no_row, load_answer, loaded_member, loaded_site}
use Rattle.node.specs.declared.Config.{Config}
use Rattle.site.specs.declared.Row.{Row}
use Rattle.site.specs.declared.Table.{Table}
use Rattle.site.specs.Model.{Member}
use Rattle.site.specs.Model.{Site}
use Rattle.site.proofs.Accepted.{Loads, load-accepted}
use Rattle.node.proofs.Bounds.{bounds}
use Rattle.windows.specs.Windows.{day_ok, list_ok, has_windows, due_at}
use Rattle.windows.specs.declared.Window.{Window}
use Rattle.windows.proofs.Laws.{due-given, due-kept, due-range, due-small}
use Rattle.machine.specs.timed.Timed.{given_row, given_table, timed_load_answer, loaded_timed}
use Rattle.machine.proofs.timed.Laws.{wanted-same, loaded-site}
use Rattle.host.specs.lookup.Lookup.{nodes_ok, demand_answer, demand_after}
use Rattle.boxes.specs.service.Service.{row_of, first_demand, Service}

-- an accepted lookup has a list that keeps the rules, and gives what is due
accepted-list : (N j D e : ℕ) (ws : List Window) → demand_answer N j D ws e ≡ Done → list_ok N D ws ≡ true
unfolding demand_answer
accepted-list N j D e ws h =
    let a = (test-passed (not (nodes_ok N)) OutOfRange _ refl h).1 in
    let b = (test-passed (not (leb 1 j && leb j N)) NoSuchNode _ refl a).1 in
    unnot (list_ok N D ws) (test-passed (not (list_ok N D ws)) BadWindows _ refl b).0
  where
    unnot : (t : Bool) → not t ≡ false → t ≡ true
    unnot true k = refl
    unnot false k = never k

accepted-demand : (N j D e d : ℕ) (ws : List Window) → demand_answer N j D ws e ≡ Done → demand_after N j D ws e d ≡ due_at ws j e d
unfolding demand_after
accepted-demand N j D e d ws h = hit _ _ d (ap is_done h)

-- a want of what is due: it is within its range, or the demand that the node has
want-due : (N j D e : ℕ) (ws : List Window) → list_ok N D ws ≡ true → (n : Node)
    → node_after_call n (wants (due_at ws j e n.demand)) ≡ wanted_node n (due_at ws j e n.demand)
want-due N j D e ws ok n = go (has_windows ws j) refl
  where
    d : ℕ
    d = due_at ws j e n.demand

    go : (t : Bool) → has_windows ws j ≡ t → cond (is_done (cond (ltb top_request d) OutOfRange Done)) (wanted_node n d) n ≡ wanted_node n d
    go true p = hit _ _ n (ap (λ (b : Bool). is_done (cond b OutOfRange Done))
        (le-ltb top_request d (omega (arith, due-given ws j e n.demand p, due-range N D ws ok j e))))
    go false p =
        let q : wanted_node n d ≡ n = ap (wanted_node n) (due-kept ws j e n.demand p) ∙ wanted-same n in
        ap (λ (m : Node). cond (is_done (cond (ltb top_request d) OutOfRange Done)) m n) q
        ∙ read_same (λ (m : Node). m) (is_done (cond (ltb top_request d) OutOfRange Done)) n n n refl refl
        ∙ sym q

-- the two calls on an area
two-calls : (a : List ℕ) (d : ℕ) → valid a ≡ true → after_end (after_want a d)
    ≡ encoded (node_after_call (node_after_call (decoded a) (wants d)) ends)
unfolding area_after_all node_after_all
two-calls a d v = by-owners.held a v (wants d ∷ ends ∷ [])

-- A beginning

module _ (f : Config) (t : Table) (D : ℕ) (ws : List Window) (ok : timed_load_answer f t D ws ≡ Done) (j : ℕ) (o : outside f j ≡ false) where
  abbrev r : Row
  r = row_of t j

  in_reach : (leb 1 j && (leb j f.nodes && leb j 32)) ≡ true
  in_reach = not-false _ o

  from : 1 ≤ j
  from = leb-true 1 j (and_left (leb 1 j) _ in_reach)

  to : leb j f.nodes ≡ true
  to = and_left (leb j f.nodes) (leb j 32) (and_right (leb 1 j) _ in_reach)

  abbrev i : ℕ
  i = j - 1

  here : i + 1 ≡ j
  here = let l = from in omega (arith, l)

  inside : i < f.nodes
  inside = let l = from in let m = leb-true j f.nodes to in omega (arith, l, m)

  plain : (load_answer f t ≡ Done) × (list_ok f.nodes D ws ≡ true)
  unfolding timed_load_answer
  plain =
      let p = both-done (load_answer f t) (cond (list_ok f.nodes D ws) Done BadWindows) ok in
      (p.0, (test-met (list_ok f.nodes D ws) Done BadWindows refl p.1).0)

  loads : Loads f t
  loads = load-accepted f t plain.0

  small : f.nodes ≤ 32
  small = (bounds f loads.config).nodes-to

  -- the lookup
  looked-up : demand_answer f.nodes j D ws 0 ≡ Done
  unfolding demand_answer list_ok
  looked-up =
      let n : nodes_ok f.nodes ≡ true = both (le-leb 1 f.nodes (let l = inside in omega (arith, l))) (le-leb f.nodes 32 small) in
      let k : (leb 1 j && leb j f.nodes) ≡ true = both (le-leb 1 j from) to in
      let d : ltb 0 D ≡ true = lt-ltb 0 D (let l = leb-true 1 D (and_left (leb 1 D) _ (and_left (day_ok D) _ plain.1)) in omega
      (arith, l)) in
      skip _ _ _ _ (ap not n) (skip _ _ _ _ (ap not k) (skip _ _ _ _ (ap not plain.1) (hit _ _ _ d)))

  demand-is : first_demand f t D ws j ≡ due_at ws j 0 r.want
  demand-is = accepted-demand f.nodes j D 0 r.want ws looked-up

  -- the row is good with that demand
  starts : start_answer (setup_of f j) r.version r.flags (first_demand f t D ws j) ≡ Done
  starts =
      let e : start_answer (setup_of f j) r.version r.flags r.want
      ≡ Done = subst (λ (k : ℕ). start_answer (setup_of f k) r.version r.flags r.want ≡ Done) here (loads.row i inside) in
      let q = start-asks (setup_of f j) r.version r.flags r.want e in
      let l : first_demand f t D ws j ≤ top_request = subst (λ (x : ℕ). x ≤ top_request) (sym demand-is)
      (due-small f.nodes D ws plain.1 j 0 r.want top_request (omega arith) q.demand) in
      start-done (setup_of f j) r.version r.flags (first_demand f t D ws j) (record {
        config = q.config;
        version = q.version;
        demand = l;
        flags = q.flags;
        node = q.node;
      })

  -- the member of the site
  member_is : (member_at (loaded_timed f t D ws).site j).node ≡ starting (setup_of f j) r.version r.flags (first_demand f t D ws j)
  unfolding loaded_site loaded_member given_table
  member_is =
      let g = tab 32 (λ (k : ℕ). given_row ws (k + 1) (get_or t.rows k no_row)) in
      let below : i < 32 = let l = inside in let m = small in omega (arith, l, m) in
      let row_is : get_or g i no_row ≡ given_row ws j r = get_d-tab no_row 32 (λ k. given_row ws (k + 1) (get_or t.rows k no_row)) i below
      ∙ ap (λ (k : ℕ). given_row ws k r) here in
      ap (λ (s : Site). (member_at s j).node) (loaded-site f t D ws ok)
      ∙ ap (λ (m : Member). m.node) (get_d-tab nobody 32 (loaded_member f (given_table ws t)) i below)
      ∙ ap (λ (m : Member). m.node) (hit (ltb i f.nodes) _ _ (lt-ltb i f.nodes inside))
      ∙ (λ z. starting (setup_of f (here z)) (row_is z).version (row_is z).flags (row_is z).want)
      ∙ ap (starting (setup_of f j) r.version r.flags) (sym demand-is)

pub service : Service
service =
    record {
      same = λ N j D e ws h a v.
          let n = decoded a in
          ap (λ (d : ℕ). after_end (after_want a d)) (accepted-demand N j D e n.demand ws h)
          ∙ two-calls a (due_at ws j e n.demand) v
          ∙ ap (λ (m : Node). encoded (node_after_call m ends)) (want-due N j D e ws (accepted-list N j D e ws h) n);
      begins = λ f t D ws ok j o a l.
          let b = by-owners.begun a l (setup_of f j) (row_of t j).version (row_of t j).flags (first_demand f t D ws j)
          (starts f t D ws ok j o) in
          (looked-up f t D ws ok j o, b.0, b.1 ∙ ap encoded (sym (member_is f t D ws ok j o)));
    }
