-- A site loaded into storage is the site's own loading.
-- Assumes nothing.
use mathlib.Core.Path.{◌≡◌, refl, sym, ap, ◌∙◌}
use mathlib.Core.Bool.{Bool, true, false, cond}
use mathlib.Core.List.{List, [], ◌∷◌, ◌++◌}
use Prim.Native.Nat.{ℕ, min, suc, ◌+◌, ◌≤◌, ◌<◌}
use native.Mathlib.Omega.{arith}
use borrow.Author.Tests.{ltb-true}
use lib.Dec.{ltb, eqb}
use lib.ListN.{length, get_or, get_or-append}
use Rattle.words.proofs.Tests.{hit, skip, by-test, same_or_not}
use Rattle.lists.specs.Bytes.{window, written}
use Rattle.lists.proofs.Laws.{iter-inv, tab-ext, length-written}
use Rattle.allotment.specs.Allotment.{free}
use Rattle.node.specs.Begin.{starting}
use Rattle.node.specs.Core.{core_of, bare}
use Rattle.node.specs.Answers.{Answer, Done, NoRoom}
use Rattle.node.specs.declared.Move.TheVariants.{Free}
use Rattle.node.proofs.Bare.{begun-bare, waiting-bare}
use Rattle.node.proofs.Made.{given, restarted}
use Rattle.range.proofs.Lengths.{Lengths, long-start, long-restart}
use Rattle.site.specs.Counts.{none_sent}
use Rattle.site.specs.Members.{setup_of, down_member}
use Rattle.site.specs.Load.{no_row, loaded_member, loaded_site}
use Rattle.node.specs.declared.Config.{Config}
use Rattle.site.specs.declared.Row.{Row}
use Rattle.site.specs.declared.Table.{Table}
use Rattle.site.specs.Model.{Member}
use Rattle.machine.specs.Layout.{Store, store, words_size, bytes_size, too_short, at_config, at_place, at_sent, at_phase, stored_in, config_in}
use Rattle.machine.specs.Layout.{member_in, site_in}
use Rattle.machine.specs.Written.{written_free}
use Rattle.machine.specs.Loading.{figured, loaded_at, filled_store, loading_answer, loaded_store, site_loaded}
use Rattle.lists.proofs.Places.{in-written, window-in}
use Rattle.machine.proofs.Laws.{stored_same, config-same, place_same, phase-same, sent-same}
use Rattle.machine.proofs.Back.{moved-stored, words-apart, full-apart}

module _ (f : Config) (t : Table) where
  long-loaded : (i : ℕ) → Lengths (loaded_member f t i).node
  unfolding loaded_member
  long-loaded i =
      by-test (λ (m : Member). Lengths m.node) (ltb i f.nodes)
      (record {
        up = true;
        node = starting (setup_of f (i + 1)) (get_or t.rows i no_row).version (get_or t.rows i no_row).flags
            (get_or t.rows i no_row).want;
      })
      (down_member f (i + 1))
      (λ e. long-start (setup_of f (i + 1)) (get_or t.rows i no_row).version (get_or t.rows i no_row).flags (get_or t.rows i no_row).want)
      (λ e. long-restart (setup_of f (i + 1)) 0 0 0)

  -- with the site's figures
  set-loaded : (i : ℕ) → (loaded_member f t i).node.setup ≡ setup_of f (i + 1)
  unfolding loaded_member
  set-loaded i =
      let row : Row = get_or t.rows i no_row in
      by-test (λ (m : Member). m.node.setup ≡ setup_of f (i + 1)) (ltb i f.nodes)
      (record { up = true; node = starting (setup_of f (i + 1)) row.version row.flags row.want })
      (down_member f (i + 1))
      (λ e. (given (setup_of f (i + 1)) row.version free row.want row.want row.flags).setup)
      (λ e. (restarted (setup_of f (i + 1)) 0 0 0).setup)

  -- with all slots free
  free-loaded : (i : ℕ) → bare (core_of (loaded_member f t i).node) ≡ (loaded_member f t i).node
  unfolding loaded_member
  free-loaded i =
      let row : Row = get_or t.rows i no_row in
      by-test (λ (m : Member). bare (core_of m.node) ≡ m.node) (ltb i f.nodes)
      (record { up = true; node = starting (setup_of f (i + 1)) row.version row.flags row.want })
      (down_member f (i + 1))
      (λ e. begun-bare (setup_of f (i + 1)) row.version row.want row.want row.flags)
      (λ e. waiting-bare (setup_of f (i + 1)) 0 0 0)

  module _ (s : Store) (w : words_size ≤ length s.words) (b : bytes_size ≤ length s.bytes) where
    -- the first n members are loaded
    record Loaded (n : ℕ) (u : Store) : Type 0 where
      words : length u.words ≡ length s.words
      bytes : length u.bytes ≡ length s.bytes
      done : (k : ℕ) → k < n → stored_in u k ≡ loaded_member f t k
      config : config_in u ≡ f
      place : get_or u.words at_place 0 ≡ 0
      phase : get_or u.bytes at_phase 0 ≡ 1
      sent : window 32 u.bytes at_sent ≡ none_sent

    start : Loaded 0 (figured s f)
    start =
        let l = f.nodes ∷ f.slots ∷ f.rounds ∷ f.min_heard ∷ f.split ∷ 0 ∷ [] in
        let v = none_sent ++ (1 ∷ []) in
        let q : (k : ℕ) → k < 6 → get_or (written s.words at_config l) (at_config + k) 0 ≡ get_or l k 0 =
        λ k h. in-written s.words l at_config (omega arith) k h in
        let p : at_sent + length v ≤ length s.bytes = omega arith in
        record {
          words = length-written s.words l at_config (omega arith);
          bytes = length-written s.bytes v at_sent p;
          done = λ k h. absurd (omega (arith, h));
          config = λ x. record {
            nodes = q 0 (omega arith) x;
            slots = q 1 (omega arith) x;
            rounds = q 2 (omega arith) x;
            min_heard = q 3 (omega arith) x;
            split = q 4 (omega arith) x;
          };
          place = q 5 (omega arith);
          phase = in-written s.bytes v at_sent p 32 (omega arith);
          sent = window-in s.bytes v at_sent p 32 0 none_sent (omega arith) refl
              (λ i h. let z : 0 + i ≡ i = omega arith in ap (λ (k : ℕ). get_or v k 0) z ∙ get_or-append none_sent (1 ∷ []) 0 i h);
        }

    more : (n : ℕ) (u : Store) → n < 32 → Loaded n u → Loaded (suc n) (loaded_at f t n u)
    unfolding loaded_at
    more n u h q =
        let m = loaded_member f t n in
        let x : words_size ≤ length u.words = omega (arith, q.words) in
        let y : bytes_size ≤ length u.bytes = omega (arith, q.bytes) in
        let p = words-apart m (long-loaded n) u n h x y in
        let r = full-apart m (long-loaded n) u n h x y Free in
        let own = set-loaded n ∙ sym (ap (λ (g : Config). setup_of g (n + 1)) q.config) in
        let same = config-same {s = u} {t = written_free u n m} n p r h in
        record {
          words = p.long ∙ q.words;
          bytes = r.long ∙ q.bytes;
          done = λ k j. same_or_not k n
              (λ e. ap (stored_in (written_free u n m)) e ∙ moved-stored m (long-loaded n) u n h x y Free own (free-loaded n)
              ∙ sym (ap (loaded_member f t) e))
              (λ e. stored_same {s = u} {t = written_free u n m} n p r k e same ∙ q.done k (omega (arith, e)));
          config = same ∙ q.config;
          place = place_same {s = u} {t = written_free u n m} n p r h ∙ q.place;
          phase = phase-same {s = u} {t = written_free u n m} n p r h ∙ q.phase;
          sent = sent-same {s = u} {t = written_free u n m} n p r h ∙ q.sent;
        }

    all : Loaded (min f.nodes 32) (filled_store s f t)
    unfolding filled_store
    all = iter-inv {n = min f.nodes 32} Loaded (loaded_at f t) (figured s f) start (λ i u h q. more i u (omega arith) q)

    from-nodes : (k : ℕ) → ltb k f.nodes ≡ false → down_member f (k + 1) ≡ loaded_member f t k
    unfolding loaded_member
    from-nodes k e = sym (skip _ _ _ _ e refl)

    one : (k : ℕ) → k < 32 → member_in (filled_store s f t) k ≡ loaded_member f t k
    unfolding member_in
    one k h = go (ltb k f.nodes) refl
      where
        same : member_in (filled_store s f t) k ≡ cond (ltb k f.nodes) (stored_in (filled_store s f t) k) (down_member f (k + 1))
        same = ap (λ (x : Config). cond (ltb k x.nodes) (stored_in (filled_store s f t) k) (down_member x (k + 1))) all.config

        go : (x : Bool) → ltb k f.nodes ≡ x → member_in (filled_store s f t) k ≡ loaded_member f t k
        go true e =
            let l = ltb-true k f.nodes e in
            same ∙ hit _ _ _ e ∙ all.done k (omega arith)
        go false e = same ∙ skip _ _ _ _ e (from-nodes k e)

    pub filled-site : site_in (filled_store s f t) ≡ loaded_site f t
    unfolding site_in loaded_site
    filled-site =
        let q = all in
        let phase = ap (λ (x : ℕ). eqb x 1) q.phase in
        let members = tab-ext 32 (member_in (filled_store s f t)) (loaded_member f t) one in
        λ x. record { config = q.config x; negotiates = phase x; place = q.place x; sent = q.sent x; members = members x }

-- answer, words and bytes, each as its definition has it
module _ (s : Store) (f : Config) (t : Table) where
  abbrev pub Settled : Answer → List ℕ → List ℕ → Type 0
  Settled a w b = (a ≡ loading_answer s)
      × ((w ≡ (loaded_store s f t).words) × ((b ≡ (loaded_store s f t).bytes) × (site_in (store w b) ≡ site_loaded s f t)))

  pub refused : too_short s ≡ true → Settled NoRoom s.words s.bytes
  unfolding loading_answer loaded_store site_loaded
  refused h =
      let e : s ≡ loaded_store s f t = sym (hit _ _ _ h) in
      (sym (hit _ _ _ h), (ap (λ (x : Store). x.words) e, (ap (λ (x : Store). x.bytes) e, sym (hit _ _ _ h))))

  pub done : {w b : List ℕ} → too_short s ≡ false → words_size ≤ length s.words → bytes_size ≤ length s.bytes → w
      ≡ (filled_store s f t).words → b ≡ (filled_store s f t).bytes → Settled Done w b
  unfolding loading_answer loaded_store site_loaded
  done {w} {b} h x y p q =
      let e : filled_store s f t ≡ loaded_store s f t = sym (skip _ _ _ _ h refl) in
      let v : store w b ≡ filled_store s f t = λ i. record { words = p i; bytes = q i } in (
        sym (skip _ _ _ _ h refl),
        (
          p ∙ ap (λ (z : Store). z.words) e,
          (q ∙ ap (λ (z : Store). z.bytes) e, ap site_in v ∙ filled-site f t s x y ∙ sym (skip _ _ _ _ h refl)),
        ),
      )
