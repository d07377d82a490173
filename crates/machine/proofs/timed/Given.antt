-- The demands of an epoch, given to the nodes one after another as wants.
-- Assumes nothing.
use mathlib.Core.Path.{◌≡◌, refl, sym, ap, ◌∙◌}
use mathlib.Core.Bool.{Bool, true, false, not, cond}
use mathlib.Core.Logic.{◌≢◌}
use mathlib.Core.List.{List}
use Prim.Native.Nat.{ℕ, suc, ◌+◌, ◌-◌, ◌≤◌, ◌<◌}
use native.Mathlib.Omega.{arith}
use borrow.Author.Tests.{lt-ltb, le-ltb, le-leb, ltb-true, ltb-false}
use lib.Dec.{ltb}
use lib.ListN.{length, get_or, set}
use lib.Seq.{ext_get_or, set-get_or}
use Rattle.words.proofs.Tests.{hit, skip, same_or_not, both, read_same, by-test}
use Rattle.lists.specs.All.{tab}
use Rattle.lists.proofs.Laws.{length-tab, get_d-tab, tab-ext}
use Rattle.allotment.specs.Allotment.{top_request}
use Rattle.node.specs.Answers.{Done, NotLive, is_done}
use Rattle.site.specs.Members.{nobody, with_node, member_at, outside}
use Rattle.site.specs.Answers.{area_size, site_want, answer_of}
use Rattle.site.specs.Steps.{wanted_member, wanted_site, site_after, area_after}
use Rattle.site.specs.Model.{Member}
use Rattle.site.specs.Model.{Site}
use Rattle.site.specs.declared.Event.TheVariants.{Want}
use Rattle.windows.specs.Windows.{list_ok, has_windows, demand_at, due_at}
use Rattle.windows.specs.declared.Window.{Window}
use Rattle.windows.proofs.Laws.{due-given, due-kept, due-range, of-site}
use Rattle.windows.proofs.Demands.{tab-set}
use Rattle.machine.specs.timed.Timed.{given_member, given_site}
use Rattle.machine.proofs.timed.Laws.{wanted-same, given-same}

-- for a number other than n, to be below n + 1 is to be below n
ltb_next : (i n : ℕ) → i ≢ n → ltb i n ≡ ltb i (suc n)
ltb_next i n e = go (ltb i n) refl
  where
    go : (t : Bool) → ltb i n ≡ t → ltb i n ≡ ltb i (suc n)
    go true h = h ∙ sym (lt-ltb i (suc n) (omega (arith, ltb-true i n h)))
    go false h = h ∙ sym (le-ltb i (suc n) (omega (arith, ltb-false i n h, e)))

-- no want writes into the area
pub want-area : (s : Site) (area : List ℕ) (j d : ℕ) → area_after s area (Want j d) ≡ area
unfolding area_after
want-area s area j d = read_same (λ (x : List ℕ). x) (is_done (answer_of s area (Want j d))) area area area refl refl

module _ (ws : List Window) (e : ℕ) (s : Site) where
  -- the member at an index, before and after its demand is given
  abbrev pub was : ℕ → Member
  was i = get_or s.members i nobody

  abbrev pub given : ℕ → Member
  given i = given_member ws e (i + 1) (was i)

  -- the site once the first n nodes have their demands
  abbrev pub up_to : ℕ → ℕ → Member
  up_to n i = cond (ltb i n) (given i) (was i)

  abbrev pub part_site : ℕ → Site
  part_site n = record { config = s.config; negotiates = s.negotiates; place = s.place; sent = s.sent; members = tab 32 (up_to n) }

  -- from n to n + 1 only the member at n changes
  others : (n i : ℕ) → i ≢ n → up_to n i ≡ up_to (suc n) i
  others n i h = ap (λ (t : Bool). cond t (given i) (was i)) (ltb_next i n h)

  -- the member at n, before its want
  here : (n : ℕ) → up_to n n ≡ was n
  here n = skip (ltb n n) (given n) (was n) (was n) (le-ltb n n (omega arith)) refl

  there : (n : ℕ) → up_to (suc n) n ≡ given n
  there n = hit (ltb n (suc n)) (given n) (was n) (lt-ltb n (suc n) (omega arith))

  pub at-index : (n : ℕ) → n < 32 → member_at (part_site n) (n + 1) ≡ was n
  at-index n l = let q : (n + 1) - 1 ≡ n = omega arith in ap (λ (i : ℕ). get_or (tab 32 (up_to n)) i nobody) q
      ∙ get_d-tab nobody 32 (up_to n) n l ∙ here n

  -- the members after a want of the node at n
  want-members : (n : ℕ) → n < 32 → (was n).up ≡ true → has_windows ws (n + 1) ≡ true
      → set (tab 32 (up_to n)) ((n + 1) - 1) (wanted_member (member_at (part_site n) (n + 1)) (demand_at ws (n + 1) e)) ≡ tab 32 (up_to (suc n))
  want-members n l u h =
      let q : (n + 1) - 1 ≡ n = omega arith in
      let y : wanted_member (member_at (part_site n) (n + 1)) (demand_at ws (n + 1) e) ≡ up_to (suc n) n =
      ap (λ (m : Member). wanted_member m (demand_at ws (n + 1) e)) (at-index n l)
      ∙ ap (wanted_member (was n)) (sym (due-given ws (n + 1) e (was n).node.demand h))
      ∙ sym (hit (was n).up (wanted_member (was n) (due_at ws (n + 1) e (was n).node.demand)) (was n) u)
      ∙ sym (there n) in
      ap (λ (i : ℕ). set (tab 32 (up_to n)) i (wanted_member (member_at (part_site n) (n + 1)) (demand_at ws (n + 1) e))) q
      ∙ tab-set nobody 32 (up_to n) (up_to (suc n)) (tab 32 (up_to n)) n _ refl l y (λ i _. others n i)

  -- a node that is down, or without windows, stays as it was
  stay-members : (n : ℕ) → n < 32 → given n ≡ was n → tab 32 (up_to n) ≡ tab 32 (up_to (suc n))
  stay-members n l h = tab-ext 32 (up_to n) (up_to (suc n))
      (λ i m. same_or_not i n (λ q. ap (up_to n) q ∙ here n ∙ sym h ∙ sym (there n) ∙ ap (up_to (suc n)) (sym q)) (others n i))

  -- a want of the demand that the node has changes nothing
  own-site : (area : List ℕ) (n d : ℕ) → n < 32 → d ≡ (was n).node.demand → site_after (part_site n) area (Want (n + 1) d) ≡ part_site n
  unfolding site_after wanted_site
  own-site area n d l h =
      read_same (λ (x : Site). x) (is_done (answer_of (part_site n) area (Want (n + 1) d))) (wanted_site (part_site n) (n + 1) d) (part_site n)
      (part_site n)
      (λ i. record { config = s.config; negotiates = s.negotiates; place = s.place; sent = s.sent; members = same i }) refl
    where
      m : wanted_member (member_at (part_site n) (n + 1)) d ≡ member_at (part_site n) (n + 1)
      m = ap (λ (x : ℕ). wanted_member (member_at (part_site n) (n + 1)) x) (h ∙ ap (λ (x : Member). x.node.demand) (sym (at-index n l)))
          ∙ ap (with_node (member_at (part_site n) (n + 1))) (wanted-same (member_at (part_site n) (n + 1)).node)

      same : set (tab 32 (up_to n)) ((n + 1) - 1) (wanted_member (member_at (part_site n) (n + 1)) d) ≡ tab 32 (up_to n)
      same = ap (set (tab 32 (up_to n)) ((n + 1) - 1)) m ∙ set-get_or (tab 32 (up_to n)) ((n + 1) - 1) nobody

  -- a site by its members
  part-is : (n : ℕ) (l : List Member) → l ≡ tab 32 (up_to (suc n))
      → ◌≡◌ {A = Site} (record { config = s.config; negotiates = s.negotiates; place = s.place; sent = s.sent; members = l })
      (part_site (suc n))
  part-is n l h = λ i. record { config = s.config; negotiates = s.negotiates; place = s.place; sent = s.sent; members = h i }

  -- once all that get another demand have it, the site has the epoch's demands
  pub finish : (n : ℕ) → ((i : ℕ) → n ≤ i → i < 32 → given i ≡ was i) → part_site n ≡ given_site ws e s
  unfolding given_site
  finish n h = λ i. record { config = s.config; negotiates = s.negotiates; place = s.place; sent = s.sent; members = same i }
    where
      at : (i : ℕ) → i < 32 → up_to n i ≡ given i
      at i l = by-test (λ (m : Member). m ≡ given i) (ltb i n) (given i) (was i) (λ t. refl) (λ t. sym (h i (ltb-false i n t) l))

      same : tab 32 (up_to n) ≡ tab 32 given
      same = tab-ext 32 (up_to n) given at

  -- the start is the site itself
  pub start : length s.members ≡ 32 → part_site 0 ≡ s
  start long = λ i. record { config = s.config; negotiates = s.negotiates; place = s.place; sent = s.sent; members = same i }
    where
      same : tab 32 (up_to 0) ≡ s.members
      same = ext_get_or nobody (tab 32 (up_to 0)) s.members (length-tab 32 (up_to 0) ∙ sym long)
          (λ i m. get_d-tab nobody 32 (up_to 0) i (omega (arith, m, length-tab 32 (up_to 0)))
          ∙ skip (ltb i 0) (given i) (was i) (was i) (le-ltb i 0 (omega arith)) refl)

  -- a node that is down, or without windows, stays as it was
  pub stay-site : (n : ℕ) → n < 32 → given n ≡ was n → part_site n ≡ part_site (suc n)
  stay-site n l h = part-is n _ (stay-members n l h)

  module _ (D : ℕ) (area : List ℕ) (room : area_size ≤ length area) (ok : list_ok s.config.nodes D ws ≡ true) where
    -- a want of a node that has windows is refused only where the node is down
    want-answer : (n : ℕ) → n < 32 → has_windows ws (n + 1) ≡ true → answer_of (part_site n) area (Want (n + 1) (demand_at ws (n + 1) e))
        ≡ cond (was n).up Done NotLive
    unfolding answer_of site_want
    want-answer n l h =
        let b = of-site s.config.nodes D ws ok (n + 1) h in
        let o : outside s.config (n + 1) ≡ false =
        ap not (both {b = true} {d = true} (le-leb 1 (n + 1) b.0)
        (both {b = true} {d = true} (le-leb (n + 1) s.config.nodes b.1) (le-leb (n + 1) 32 (omega (arith, l))))) in
        skip _ _ _ _ (le-ltb (length area) area_size room)
        (skip _ _ _ _ (le-ltb top_request (demand_at ws (n + 1) e) (due-range s.config.nodes D ws ok (n + 1) e))
        (skip _ _ _ _ o (ap (λ (m : Member). cond m.up Done NotLive) (at-index n l))))

    pub want-site : (n : ℕ) → n < 32 → has_windows ws (n + 1) ≡ true → site_after (part_site n) area (Want (n + 1) (demand_at ws (n + 1) e))
        ≡ part_site (suc n)
    unfolding site_after wanted_site
    want-site n l h = go (was n).up refl
      where
        done : is_done (answer_of (part_site n) area (Want (n + 1) (demand_at ws (n + 1) e))) ≡ is_done (cond (was n).up Done NotLive)
        done = ap is_done (want-answer n l h)

        go : (t : Bool) → (was n).up ≡ t → site_after (part_site n) area (Want (n + 1) (demand_at ws (n + 1) e)) ≡ part_site (suc n)
        go true u = hit _ _ _ (done ∙ ap (λ (b : Bool). is_done (cond b Done NotLive)) u) ∙ part-is n _ (want-members n l u h)
        go false u =
            skip _ _ _ _ (done ∙ ap (λ (b : Bool). is_done (cond b Done NotLive)) u)
            (part-is n _ (stay-members n l (skip (was n).up (wanted_member (was n) (due_at ws (n + 1) e (was n).node.demand)) (was n)
            (was n) u refl)))

    -- with the demand that is due, for every node: one without windows keeps its own
    pub due-site : (n d : ℕ) → n < 32 → d ≡ due_at ws (n + 1) e (was n).node.demand → site_after (part_site n) area (Want (n + 1) d)
        ≡ part_site (suc n)
    due-site n d l h = go (has_windows ws (n + 1)) refl
      where
        go : (t : Bool) → has_windows ws (n + 1) ≡ t → site_after (part_site n) area (Want (n + 1) d) ≡ part_site (suc n)
        go true k = ap (λ (x : ℕ). site_after (part_site n) area (Want (n + 1) x)) (h ∙ due-given ws (n + 1) e (was n).node.demand k)
            ∙ want-site n l k
        go false k = own-site area n d l (h ∙ due-kept ws (n + 1) e (was n).node.demand k)
            ∙ stay-site n l (given-same ws e (n + 1) (was n) k)
