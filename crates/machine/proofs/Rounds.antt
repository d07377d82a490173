-- A close and an end act on the N nodes, one after another.
-- Assumes nothing.
use mathlib.Core.Path.{◌≡◌, refl, sym, ap, ◌∙◌}
use mathlib.Core.Bool.{Bool, true, false, cond}
use mathlib.Core.List.{List, [], ◌∷◌, ◌++◌, map}
use Prim.Native.Nat.{ℕ, suc, ◌+◌, ◌≤◌, ◌<◌}
use native.Mathlib.Omega.{arith}
use borrow.Author.Tests.{ltb-true}
use lib.Dec.{ltb, eqb}
use lib.ListN.{length, get_or, set, length-map, get_or-map, get_or-append}
use lib.Seq.{ext_get_or, get_or-set_same, get_or-set_other}
use Rattle.words.proofs.Tests.{hit, skip, by-test, same_or_not, and_left, and_right, and-rest}
use Rattle.lists.specs.All.{iter, tab}
use Rattle.lists.specs.Bytes.{window}
use Rattle.lists.proofs.Laws.{iter-inv, length-tab, get_d-tab}
use Rattle.node.specs.Answers.{is_done}
use Rattle.node.specs.Steps.{close_outcome, end_outcome}
use Rattle.node.specs.Close.{close_answer, closed_node}
use Rattle.node.specs.End.{end_answer, ended_node}
use Rattle.node.specs.Core.{core_of, moved_by}
use Rattle.node.specs.declared.Move.{Move}
use Rattle.node.specs.Model.{Node}
use Rattle.node.proofs.Cores.{close-moved, end_moved}
use Rattle.node.proofs.Laws.{closes-so, end-setup}
use Rattle.range.proofs.Lengths.{Lengths, long-close, long-end}
use Rattle.site.specs.Counts.{none_sent}
use Rattle.site.specs.Members.{nobody, is_live, with_node, down_member}
use Rattle.site.specs.Steps.{close_member, closed_site, end_member, ended_site, place_after}
use Rattle.node.specs.declared.Config.{Config}
use Rattle.site.specs.Model.{Member}
use Rattle.machine.specs.Layout.{Store, store, words_size, bytes_size, row_size, room_size, at_config, at_place, at_sent, at_phase, stored_in}
use Rattle.machine.specs.Layout.{config_in, member_in, site_in}
use Rattle.machine.specs.Written.{written_moved, closes, close_change, ends, end_change, nodes_in, phased, each, closed_store, ended_store}
use Rattle.lists.proofs.Places.{in-written, window-in, Apart, apart_none, apart-set, apart-written}
use Rattle.machine.proofs.Laws.{setup-there, stored_same, config-same, place_same}
use Rattle.machine.proofs.Moves.{close-done, close-refused, end-done, end_refused}
use Rattle.machine.proofs.Back.{moved-stored, words-apart, full-apart}
use Rattle.machine.proofs.Tail.{long-stored, tail-members}

-- a list by its rule, mapped
map-tab : (n : ℕ) (f g : ℕ → Member) (h : Member → Member) → ((k : ℕ) → k < n → g k ≡ h (f k)) → tab n g ≡ map h (tab n f)
map-tab n f g h e =
    ext_get_or (h nobody) (tab n g) (map h (tab n f)) (length-tab n g ∙ sym (length-map (tab n f) h ∙ length-tab n f))
    (λ k j.
    let l : k < n = omega (arith, length-tab n g) in
    get_d-tab (h nobody) n g k l ∙ e k l ∙ sym (get_or-map h (tab n f) k nobody ∙ ap h (get_d-tab nobody n f k l)))

-- a step of the members that pass a test
module _
    (test : Member → Bool) (step : Member → Member) (change : Member → Move) (stays : (m : Member) → test m ≡ false → step m ≡ m)
    (long : (m : Member) → Lengths m.node → Lengths (step m).node)
    (moves : (m : Member) → test m ≡ true → moved_by m.node (core_of (step m).node) (change m) ≡ (step m).node)
    (keeps : (m : Member) → (step m).node.setup ≡ m.node.setup) where
  -- the first n members have made it
  record Reached (s : Store) (n : ℕ) (t : Store) : Type 0 where
    words : length t.words ≡ length s.words
    bytes : length t.bytes ≡ length s.bytes
    done : (k : ℕ) → k < n → stored_in t k ≡ step (stored_in s k)
    rest : (k : ℕ) → n ≤ k → stored_in t k ≡ stored_in s k
    config : config_in t ≡ config_in s
    place : get_or t.words at_place 0 ≡ get_or s.words at_place 0

  module _ (s : Store) (w : words_size ≤ length s.words) (b : bytes_size ≤ length s.bytes) where
    start : Reached s 0 s
    start = record { words = refl; bytes = refl; done = λ k h. absurd (omega (arith, h)); rest = λ k h. refl; config = refl; place = refl }

    module _ (n : ℕ) (t : Store) (h : n < 32) (q : Reached s n t) where
      one : Member
      one = step (stored_in t n)

      fits-words : words_size ≤ length t.words
      fits-words = omega (arith, q.words)

      fits-bytes : bytes_size ≤ length t.bytes
      fits-bytes = omega (arith, q.bytes)

      long-one : Lengths one.node
      unfolding one
      long-one = long (stored_in t n) (long-stored t n)

      now-one : one ≡ step (stored_in s n)
      unfolding one
      now-one = ap step (q.rest n (omega arith))

      v : Move
      v = change (stored_in t n)

      passes : test (stored_in t n) ≡ true → Reached s (suc n) (written_moved t n one v)
      unfolding one v
      passes f =
          let p = words-apart one long-one t n h fits-words fits-bytes in
          let r = full-apart one long-one t n h fits-words fits-bytes v in
          let own = keeps (stored_in t n) ∙ setup-there t n in
          let same = config-same {s = t} {t = written_moved t n one v} n p r h in
          record {
            words = p.long ∙ q.words;
            bytes = r.long ∙ q.bytes;
            done = λ k j. same_or_not k n
                (λ e. ap (stored_in (written_moved t n one v)) e
                ∙ moved-stored one long-one t n h fits-words fits-bytes v own (moves (stored_in t n) f) ∙ now-one
                ∙ sym (ap (λ (x : ℕ). step (stored_in s x)) e))
                (λ e. stored_same {s = t} {t = written_moved t n one v} n p r k e same ∙ q.done k (omega (arith, e)));
            rest = λ k j. stored_same {s = t} {t = written_moved t n one v} n p r k (λ e. absurd (omega (arith, e))) same
                ∙ q.rest k (omega arith);
            config = same ∙ q.config;
            place = place_same {s = t} {t = written_moved t n one v} n p r h ∙ q.place;
          }

      fails : test (stored_in t n) ≡ false → Reached s (suc n) t
      fails f =
          record {
            words = q.words;
            bytes = q.bytes;
            done = λ k j. same_or_not k n
                (λ e. ap (stored_in t) e ∙ sym (stays (stored_in t n) f) ∙ now ∙ sym (ap (λ (x : ℕ). step (stored_in s x)) e))
                (λ e. q.done k (omega (arith, e)));
            rest = λ k j. q.rest k (omega arith);
            config = q.config;
            place = q.place;
          }
        where
          now : step (stored_in t n) ≡ step (stored_in s n)
          now = ap step (q.rest n (omega arith))

      more : Reached s (suc n) (each test step change n t)
      unfolding each one v
      more = by-test (Reached s (suc n)) (test (stored_in t n)) (written_moved t n one v) t passes fails

    abbrev pub final : Store
    final = iter (nodes_in s) (each test step change) s

    all : Reached s (nodes_in s) final
    all = iter-inv {n = nodes_in s} (Reached s) (each test step change) s start (λ i t h q. more i t (omega arith) q)

    -- the members are those of the site, each with its step; a node that is down makes none
    module _ (down : (f : Config) (j : ℕ) → test (down_member f j) ≡ false) where
      stepped-one : (k : ℕ) → k < 32 → member_in final k ≡ step (member_in s k)
      unfolding member_in
      stepped-one k h = go (ltb k (config_in s).nodes) refl
        where
          same : member_in final k ≡ cond (ltb k (config_in s).nodes) (stored_in final k) (down_member (config_in s) (k + 1))
          same = ap (λ (f : Config). cond (ltb k f.nodes) (stored_in final k) (down_member f (k + 1))) all.config

          go : (x : Bool) → ltb k (config_in s).nodes ≡ x → member_in final k ≡ step (member_in s k)
          go true e =
              let l = ltb-true k (config_in s).nodes e in
              same ∙ hit _ _ _ e ∙ all.done k (omega arith)
              ∙ ap step (sym (hit (ltb k (config_in s).nodes) (stored_in s k) (down_member (config_in s) (k + 1)) e))
          go false e =
              same ∙ skip _ _ _ _ e refl ∙ sym (stays (down_member (config_in s) (k + 1)) (down (config_in s) (k + 1)))
              ∙ ap step (sym (skip (ltb k (config_in s).nodes) (stored_in s k) (down_member (config_in s) (k + 1))
              (down_member (config_in s) (k + 1)) e refl))

      stepped-all : tab 32 (member_in final) ≡ map step (tab 32 (member_in s))
      stepped-all = map-tab 32 (member_in s) (member_in final) step stepped-one

      -- another phase
      module _ (u : List ℕ) (x : ℕ) (p : Apart final.words u at_config row_size) (f : config_in (store u final.bytes) ≡ config_in final)
        where
          abbrev pub after : Store
          after = store u (phased final.bytes x)

          pub after-members : tab 32 (member_in after) ≡ map step (tab 32 (member_in s))
          after-members =
              tail-members final after p
              (apart-written final.bytes (none_sent ++ (x ∷ [])) at_sent at_sent room_size (omega arith) (omega arith)
              (omega (arith, all.bytes))) f
              ∙ stepped-all

          pub after-phase : get_or after.bytes at_phase 0 ≡ x
          after-phase = in-written final.bytes (none_sent ++ (x ∷ [])) at_sent (omega (arith, all.bytes)) 32 (omega arith)

          pub after-sent : window 32 after.bytes at_sent ≡ none_sent
          after-sent =
              window-in final.bytes (none_sent ++ (x ∷ [])) at_sent (omega (arith, all.bytes)) 32 0 none_sent (omega arith) refl
              (λ i h. let z : 0 + i ≡ i = omega arith in ap (λ (k : ℕ). get_or (none_sent ++ (x ∷ [])) k 0) z
              ∙ get_or-append none_sent (x ∷ []) 0 i h)

-- a close
close-stays : (m : Member) → closes m ≡ false → close_member m ≡ m
close-stays m h = go (is_live m) refl
  where
    go : (t : Bool) → is_live m ≡ t → close_member m ≡ m
    go true e = close-refused m e (and-rest (is_live m) (is_done (close_answer m.node)) h e)
    go false e = skip _ _ _ _ e refl

close-long : (m : Member) → Lengths m.node → Lengths (close_member m).node
close-long m l =
    by-test (λ (x : Member). Lengths x.node) (is_live m) (with_node m (close_outcome m.node)) m
    (λ e. by-test Lengths (is_done (close_answer m.node)) (closed_node m.node) m.node (λ d. long-close m.node l) (λ d. l))
    (λ e. l)

close-moves : (m : Member) → closes m ≡ true → moved_by m.node (core_of (close_member m).node) (close_change m) ≡ (close_member m).node
close-moves m h =
    let done = close-done m (and_left (is_live m) (is_done (close_answer m.node)) h)
    (and_right (is_live m) (is_done (close_answer m.node)) h) in
    let e = ap (λ (x : Member). x.node) done in
    ap (λ (n : Node). moved_by m.node (core_of n) (close_change m)) (e ∙ sym (close-moved m.node)) ∙ close-moved m.node ∙ sym e

close-keeps : (m : Member) → (close_member m).node.setup ≡ m.node.setup
close-keeps m =
    by-test (λ (x : Member). x.node.setup ≡ m.node.setup) (is_live m) (with_node m (close_outcome m.node)) m
    (λ e. by-test (λ (n : Node). n.setup ≡ m.node.setup) (is_done (close_answer m.node)) (closed_node m.node) m.node
    (λ d. (closes-so m.node).setup) (λ d. refl))
    (λ e. refl)

-- an end
end_stays : (m : Member) → ends m ≡ false → end_member m ≡ m
end_stays m h = go m.up refl
  where
    go : (t : Bool) → m.up ≡ t → end_member m ≡ m
    go true e = end_refused m e (and-rest m.up (is_done (end_answer m.node)) h e)
    go false e = skip _ _ _ _ e refl

end-long : (m : Member) → Lengths m.node → Lengths (end_member m).node
end-long m l =
    by-test (λ (x : Member). Lengths x.node) m.up (with_node m (end_outcome m.node)) m
    (λ e. by-test Lengths (is_done (end_answer m.node)) (ended_node m.node) m.node (λ d. long-end m.node l) (λ d. l))
    (λ e. l)

end-moves : (m : Member) → ends m ≡ true → moved_by m.node (core_of (end_member m).node) (end_change m) ≡ (end_member m).node
end-moves m h =
    let done = end-done m (and_left m.up (is_done (end_answer m.node)) h) (and_right m.up (is_done (end_answer m.node)) h) in
    let e = ap (λ (x : Member). x.node) done in
    ap (λ (n : Node). moved_by m.node (core_of n) (end_change m)) (e ∙ sym (end_moved m.node)) ∙ end_moved m.node ∙ sym e

end-keeps : (m : Member) → (end_member m).node.setup ≡ m.node.setup
end-keeps m =
    by-test (λ (x : Member). x.node.setup ≡ m.node.setup) m.up (with_node m (end_outcome m.node)) m
    (λ e. by-test (λ (n : Node). n.setup ≡ m.node.setup) (is_done (end_answer m.node)) (ended_node m.node) m.node
    (λ d. end-setup m.node) (λ d. refl))
    (λ e. refl)

module _ (s : Store) (w : words_size ≤ length s.words) (b : bytes_size ≤ length s.bytes) where
  pub closed-site : site_in (closed_store s) ≡ closed_site (site_in s)
  unfolding site_in closed_site closed_store
  closed-site =
      let t = final closes close_member close_change close-stays close-long close-moves close-keeps s w b in
      let q = all closes close_member close_change close-stays close-long close-moves close-keeps s w b in
      let p = apart_none t.words at_config row_size in
      let d : (f : Config) (j : ℕ) → closes (down_member f j) ≡ false = λ f j. refl in
      let members = after-members closes close_member close_change close-stays close-long close-moves close-keeps s w b d t.words 0 p refl
      in
      let phase = ap (λ (x : ℕ). eqb x 1)
      (after-phase closes close_member close_change close-stays close-long close-moves close-keeps s w b d t.words 0 p refl) in
      let sent = after-sent closes close_member close_change close-stays close-long close-moves close-keeps s w b d t.words 0 p refl in
      λ x. record { config = q.config x; negotiates = phase x; place = q.place x; sent = sent x; members = members x }

  pub ended-site : site_in (ended_store s) ≡ ended_site (site_in s)
  unfolding site_in ended_site ended_store
  ended-site =
      let t = final ends end_member end_change end_stays end-long end-moves end-keeps s w b in
      let q = all ends end_member end_change end_stays end-long end-moves end-keeps s w b in
      let v = place_after (site_in s) in
      let u = set t.words at_place v in
      let p = apart-set t.words at_place v at_config row_size (omega arith) (omega arith) in
      let d : (f : Config) (j : ℕ) → ends (down_member f j) ≡ false = λ f j. refl in
      let f : config_in (store u t.bytes) ≡ config_in t = λ x. record {
        nodes = get_or-set_other t.words at_place at_config v 0 (λ e. absurd (omega (arith, e))) x;
        slots = get_or-set_other t.words at_place (at_config + 1) v 0 (λ e. absurd (omega (arith, e))) x;
        rounds = get_or-set_other t.words at_place (at_config + 2) v 0 (λ e. absurd (omega (arith, e))) x;
        min_heard = get_or-set_other t.words at_place (at_config + 3) v 0 (λ e. absurd (omega (arith, e))) x;
        split = get_or-set_other t.words at_place (at_config + 4) v 0 (λ e. absurd (omega (arith, e))) x;
      } in
      let config = f ∙ q.config in
      let place = get_or-set_same t.words at_place v 0 (omega (arith, q.words)) in
      let members = after-members ends end_member end_change end_stays end-long end-moves end-keeps s w b d u 1 p f in
      let phase = ap (λ (x : ℕ). eqb x 1) (after-phase ends end_member end_change end_stays end-long end-moves end-keeps s w b d u 1 p f) in
      let sent = after-sent ends end_member end_change end_stays end-long end-moves end-keeps s w b d u 1 p f in
      λ x. record { config = config x; negotiates = phase x; place = place x; sent = sent x; members = members x }
