-- A site in storage with its day: the demands of an epoch given in storage, and from the answers and writes of a load and of an event to
-- what the definitions say.
-- Assumes nothing.
use mathlib.Core.Path.{◌≡◌, refl, sym, ap, ap₂, ◌∙◌, subst}
use mathlib.Core.Bool.{Bool, true, false, cond, ◌&&◌}
use mathlib.Core.List.{List}
use Prim.Native.Nat.{ℕ, suc, ◌+◌, ◌≤◌, ◌<◌}
use native.Mathlib.Omega.{arith}
use borrow.Author.Tests.{le-ltb, eqb-true, ltb-true, ltb-false}
use lib.Dec.{eqb, ltb}
use lib.ListN.{length, get_or}
use Rattle.words.proofs.Tests.{never, hit, skip, read_same, by-test}
use Rattle.lists.specs.All.{iter}
use Rattle.lists.proofs.Laws.{length-tab, get_d-tab, iter-inv}
use Rattle.std.specs.Prelude.{Result, Ok, Err}
use Rattle.node.specs.Answers.{Answer, Done, NoRoom, BadWindows, is_done, answered}
use Rattle.node.specs.declared.Refusal.{Refusal}
use Rattle.node.specs.declared.Refusal.TheVariants as refusal
use Rattle.site.specs.Members.{nobody, member_at}
use Rattle.site.specs.Load.{load_answer, loaded_site}
use Rattle.site.specs.Answers.{area_size}
use Rattle.site.specs.Events.{is_end}
use Rattle.site.specs.Steps.{site_after, area_after}
use Rattle.node.specs.declared.Config.{Config}
use Rattle.site.specs.declared.Table.{Table}
use Rattle.site.specs.Model.{Member}
use Rattle.site.specs.Model.{Site}
use Rattle.site.specs.declared.Event.{Event}
use Rattle.site.specs.declared.Event.TheVariants.{End, Want}
use Rattle.windows.specs.Windows.{list_ok, due_at}
use Rattle.windows.specs.declared.Window.{Window}
use Rattle.machine.specs.Layout.{Store, store, words_size, bytes_size, too_short, config_in, member_in, site_in}
use Rattle.machine.specs.Written.{nodes_in}
use Rattle.machine.specs.steps.After.{next_store, storage_answer, store_after, site_with, area_with}
use Rattle.machine.specs.Loading.{member_read, loading_answer, loaded_store, site_loaded}
use Rattle.machine.proofs.steps.Whole.{as-site}
use Rattle.machine.proofs.Whole.{as-loaded, as_member, enough, long-enough}
use Rattle.machine.proofs.steps.Follows.{follows, want-long}
use Rattle.machine.specs.timed.Timed.{Timed, first_epoch, epoch_after, given_site, given_table, timed_load_answer, loaded_timed, in_last_round}
use Rattle.machine.specs.timed.Timed.{timed_answer, given_before, next_timed, timed_after}
use Rattle.machine.specs.timed.Stored.{timed_in, stored_load_answer, stored_load, timed_loaded_store, timed_loaded_site, given_at, given_store}
use Rattle.machine.specs.timed.Stored.{stored_answer, stored_day, begun_store, timed_store, timed_site}
use Rattle.machine.specs.declared.Day.{Day}
use Rattle.machine.proofs.timed.Laws.{given-none, loaded-site, end-area, end-room, end-phase, end-windows, refused-after, done-after}
use Rattle.machine.proofs.timed.Laws.{plain-answer, plain-after, end_is}
use Rattle.machine.proofs.timed.Given.{was, given, part_site, at-index, finish, start, due-site}

-- storage that is long enough
abbrev pub Long : Store → Type 0
Long s = (words_size ≤ length s.words) × (bytes_size ≤ length s.bytes)

-- an end writes nothing into the area
pub end_with : (s : Store) (l : List ℕ) → area_with s l End ≡ l
unfolding area_with
end_with s l = read_same (λ (x : List ℕ). x) (too_short s) l (area_after (site_in s) l End) l refl (sym (end-area (site_in s) l))

-- the members of a site in storage
members-long : (s : Store) → length (site_in s).members ≡ 32
unfolding site_in
members-long s = length-tab 32 (member_in s)

-- from N up all are down
down-from : (s : Store) (i : ℕ) → (config_in s).nodes ≤ i → i < 32 → (get_or (site_in s).members i nobody).up ≡ false
unfolding site_in member_in
down-from s i h l = ap (λ (m : Member). m.up) (get_d-tab nobody 32 (member_in s) i l ∙ skip _ _ _ _ (le-ltb i (config_in s).nodes h) refl)

module _ (ws : List Window) (e D : ℕ) (l : List ℕ) (room : area_size ≤ length l) (s : Store) (long : Long s)
    (ok : list_ok (site_in s).config.nodes D ws ≡ true) where
  -- one more node
  one-given : (n : ℕ) (t : Store) → n < 32 → Long t → site_in t ≡ part_site ws e (site_in s) n → site_in (given_at ws e l n t)
      ≡ part_site ws e (site_in s) (suc n)
  unfolding given_at
  one-given n t h k q =
      let m : member_read t (n + 1) ≡ was ws e (site_in s) n = as_member t (n + 1) k.0 k.1 (omega arith) (omega (arith, h))
      ∙ ap (λ (x : Site). member_at x (n + 1)) q ∙ at-index ws e (site_in s) n h in
      let d = due_at ws (n + 1) e (member_read t (n + 1)).node.demand in
      follows t l (Want (n + 1) d)
      ∙ (as-site t l (Want (n + 1) d) k.0 k.1).1.0
      ∙ ap (λ (x : Site). site_after x l (Want (n + 1) d)) q
      ∙ due-site ws e (site_in s) D l room ok n d h (ap (λ (x : Member). due_at ws (n + 1) e x.node.demand) m)

  abbrev nodes : ℕ
  nodes = nodes_in s

  all-given : (site_in (iter nodes (given_at ws e l) s) ≡ part_site ws e (site_in s) nodes) × Long (iter nodes (given_at ws e l) s)
  unfolding given_at
  all-given =
      iter-inv {n = nodes} (λ n t. (site_in t ≡ part_site ws e (site_in s) n) × Long t) (given_at ws e l) s
      (sym (start ws e (site_in s) (members-long s)), long)
      (λ n t h q. (one-given n t (omega (arith, h)) q.1 q.0, want-long t l (n + 1) _ q.1.0 q.1.1))

  down-same : (i : ℕ) → nodes ≤ i → i < 32 → given ws e (site_in s) i ≡ was ws e (site_in s) i
  down-same i h k = skip (was ws e (site_in s) i).up _ (was ws e (site_in s) i) _ (down-from s i (omega (arith, h, k)) k) refl

  -- the demands given in storage are those given to its site
  pub given-store : site_in (given_store ws e l s) ≡ given_site ws e (site_in s)
  unfolding given_store
  given-store = go (eqb (length ws) 0) refl
    where
      go : (t : Bool) → eqb (length ws) 0 ≡ t → site_in (cond t s (iter nodes (given_at ws e l) s)) ≡ given_site ws e (site_in s)
      go true h = sym (given-none ws e (site_in s) (eqb-true (length ws) 0 h) (members-long s))
      go false h = all-given.0 ∙ finish ws e (site_in s) nodes down-same

  pub given-long : Long (given_store ws e l s)
  unfolding given_store
  given-long = by-test Long (eqb (length ws) 0) s (iter nodes (given_at ws e l) s) (λ _. long) (λ _. all-given.1)

-- a load: answer, words and bytes, each as its definition has it
module _ (s : Store) (f : Config) (t : Table) (D : ℕ) (ws : List Window) where
  abbrev pub LoadIs : Result Day Refusal → List ℕ → List ℕ → Type 0
  LoadIs r w b =
      (r ≡ stored_load s f t D ws)
      × ((w ≡ (timed_loaded_store s f t D ws).words)
      × ((b ≡ (timed_loaded_store s f t D ws).bytes) × (site_in (store w b) ≡ timed_loaded_site s f t D ws)))

  refused-load : (x : Refusal) → stored_load_answer s f t D ws ≡ Err x → LoadIs (Err x) s.words s.bytes
  unfolding timed_loaded_store timed_loaded_site
  refused-load x h =
      let g : is_done (stored_load_answer s f t D ws) ≡ false = ap is_done h in
      let q : s ≡ timed_loaded_store s f t D ws = sym (skip _ _ _ _ g refl) in (
        sym (ap (λ (a : Answer). answered a (first_epoch D)) h),
        (ap (λ (x : Store). x.words) q, (ap (λ (x : Store). x.bytes) q, sym (skip _ _ _ _ g refl))),
      )

  pub short-load : too_short s ≡ true → LoadIs (Err refusal.NoRoom) s.words s.bytes
  unfolding stored_load_answer
  short-load h = refused-load refusal.NoRoom (hit _ _ _ h)

  pub refused-by : (x : Refusal) → too_short s ≡ false → timed_load_answer f t D ws ≡ Err x → LoadIs (Err x) s.words s.bytes
  unfolding stored_load_answer
  refused-by x h k = refused-load x (skip _ _ _ _ h k)

  -- storage that is long enough is loaded
  pub loads : {a : Answer} → too_short s ≡ false → a ≡ loading_answer s → is_done a ≡ true
  unfolding loading_answer
  loads h z = ap is_done (z ∙ skip _ _ _ _ h refl)

  pub done-load : {u : Table} {w b : List ℕ} → Long s → timed_load_answer f t D ws ≡ Done → u ≡ given_table ws t
      → w ≡ (loaded_store s f u).words → b ≡ (loaded_store s f u).bytes → site_in (store w b) ≡ site_loaded s f u
      → LoadIs (Ok (first_epoch D)) w b
  unfolding stored_load_answer timed_loaded_store timed_loaded_site
  done-load {u} {w} {b} l h k p q r =
      let e = enough s l.0 l.1 in
      let g : stored_load_answer s f t D ws ≡ Done = skip _ _ _ _ e h in
      let x : loaded_store s f u ≡ timed_loaded_store s f t D ws = ap (loaded_store s f) k ∙ sym (hit _ _ _ (ap is_done g)) in (
        sym (ap (λ (a : Answer). answered a (first_epoch D)) g),
        (
          p ∙ ap (λ (y : Store). y.words) x,
          (
            q ∙ ap (λ (y : Store). y.bytes) x,
            r ∙ as-loaded s f u l.0 l.1 ∙ ap (loaded_site f) k ∙ sym (loaded-site f t D ws h)
                ∙ sym (hit _ _ _ (ap is_done g)),
          ),
        ),
      )

-- an event: answer, day, words, bytes and area, each as its definition has it
module _ (s : Store) (d : Day) (l : List ℕ) (ws : List Window) where
  abbrev pub TurnIs : Event → Answer → Day → List ℕ → List ℕ → List ℕ → Type 0
  TurnIs e a n w b x =
      ((a ≡ stored_answer s d l ws e) × (n ≡ stored_day s d l ws e))
      × ((w ≡ (timed_store s d l ws e).words)
      × ((b ≡ (timed_store s d l ws e).bytes) × ((site_in (store w b) ≡ timed_site s d l ws e) × (x ≡ area_with s l e))))

  abbrev t : Timed
  t = timed_in s d

  -- what is no end is the event of the storage
  module _ (e : Event) (h : is_end e ≡ false) where
    plain-stored : timed_store s d l ws e ≡ store_after s l e
    unfolding timed_store stored_answer store_after storage_answer
    plain-stored =
        ap₂ (λ (a : Answer) (x : Store). cond (is_done (cond (too_short s) NoRoom a)) (store_after x l e) s) (plain-answer t l ws e h)
        (skip (is_end e && in_last_round (site_in s)) (given_store ws (epoch_after d) l s) s s (ap (λ (b : Bool). b && in_last_round (site_in s)) h)
        refl)
        ∙ go (is_done (storage_answer s l e)) refl
      where
        go : (b : Bool) → is_done (storage_answer s l e) ≡ b → cond b (store_after s l e) s ≡ store_after s l e
        go true k = refl
        go false k = sym (skip _ (next_store s l e) s s k refl)

    pub plain_turn : {a : Answer} {w b x : List ℕ} → a ≡ storage_answer s l e → w ≡ (store_after s l e).words → b ≡ (store_after s l e).bytes
        → site_in (store w b) ≡ site_with s l e → x ≡ area_with s l e
        → TurnIs e a d w b x
    unfolding stored_answer stored_day timed_site storage_answer site_with
    plain_turn {a} f p q r m =
        let v : a ≡ stored_answer s d l ws e = f ∙ ap (cond (too_short s) NoRoom) (sym (plain-answer t l ws e h)) in
        let n : d ≡ stored_day s d l ws e =
        sym (read_same (λ (x : Day). x) (too_short s) d (timed_after t l ws e).day d refl
        (ap (λ (x : Timed). x.day) (plain-after t l ws e h))) in (
          (v, n),
          (
            p ∙ ap (λ (x : Store). x.words) (sym plain-stored),
            (
              q ∙ ap (λ (x : Store). x.bytes) (sym plain-stored),
              (r ∙ ap (cond (too_short s) (site_in s)) (sym (ap (λ (x : Timed). x.site) (plain-after t l ws e h))), m),
            ),
          ),
        )

  -- an accepted end
  module _ (long : Long s) (room : area_size ≤ length l) (phase : (site_in s).negotiates ≡ false)
      (ok : list_ok (site_in s).config.nodes d.length ws ≡ true) where
    begun-site : site_in (begun_store s d l ws End) ≡ given_before t ws End
    begun-site = go (in_last_round (site_in s))
      where
        go : (b : Bool) → site_in (cond b (given_store ws (epoch_after d) l s) s) ≡ cond b (given_site ws (epoch_after d) (site_in s)) (site_in s)
        go true = given-store ws (epoch_after d) d.length l room s long ok
        go false = refl

    begun-long : Long (begun_store s d l ws End)
    begun-long = by-test Long (in_last_round (site_in s)) (given_store ws (epoch_after d) l s) s
        (λ _. given-long ws (epoch_after d) d.length l room s long ok) (λ _. long)

    end-site : site_in (store_after (begun_store s d l ws End) l End) ≡ (next_timed t l ws End).site
    unfolding next_timed
    end-site =
        let g = begun_store s d l ws End in
        follows g l End ∙ (as-site g l End begun-long.0 begun-long.1).1.0 ∙ ap (λ (x : Site). site_after x l End) begun-site

  -- the storage after an event stands for the site after it
  pub timed-site : (e : Event) → site_in (timed_store s d l ws e) ≡ timed_site s d l ws e
  unfolding stored_answer timed_store timed_site
  timed-site e = go (too_short s) refl
    where
      -- nothing refuses the end
      ended : too_short s ≡ false → is_done (timed_answer t l ws End) ≡ true
          → site_in (store_after (begun_store s d l ws End) l End) ≡ (next_timed t l ws End).site
      ended k c = room (ltb (length l) area_size) refl
        where
          list : (b : Bool) → area_size ≤ length l → (site_in s).negotiates ≡ false
              → list_ok (site_in s).config.nodes d.length ws ≡ b
              → site_in (store_after (begun_store s d l ws End) l End) ≡ (next_timed t l ws End).site
          list true r p f = end-site (long-enough s k) r p f
          list false r p f = never (sym (sym (ap is_done (end-windows t l ws r p f)) ∙ c))

          phase : (b : Bool) → area_size ≤ length l → (site_in s).negotiates ≡ b
              → site_in (store_after (begun_store s d l ws End) l End) ≡ (next_timed t l ws End).site
          phase true r p = never (sym (sym (ap is_done (end-phase t l ws r p)) ∙ c))
          phase false r p = list (list_ok (site_in s).config.nodes d.length ws) r p refl

          room : (b : Bool) → ltb (length l) area_size ≡ b
              → site_in (store_after (begun_store s d l ws End) l End) ≡ (next_timed t l ws End).site
          room true f = never (sym (sym (ap is_done (end-room t l ws (ltb-true _ _ f))) ∙ c))
          room false f = phase (site_in s).negotiates (ltb-false _ _ f) refl

      accepted : (b : Bool) → too_short s ≡ false → is_end e ≡ b → is_done (timed_answer t l ws e) ≡ true
          → site_in (store_after (begun_store s d l ws e) l e) ≡ (next_timed t l ws e).site
      accepted true k f c =
          let q : End ≡ e = sym (end_is e f) in
          subst (λ (x : Event). is_done (timed_answer t l ws x) ≡ true
          → site_in (store_after (begun_store s d l ws x) l x) ≡ (next_timed t l ws x).site) q (ended k) c
      accepted false k f c =
          let m = long-enough s k in
          ap (λ (x : Store). site_in (store_after x l e)) (skip (is_end e && in_last_round (site_in s)) _ s s
          (ap (λ (b : Bool). b && in_last_round (site_in s)) f) refl)
          ∙ follows s l e ∙ (as-site s l e m.0 m.1).1.0
          ∙ ap (λ (x : Timed). x.site) (sym (plain-after t l ws e f) ∙ done-after t l ws e c)

      told : (b : Bool) → too_short s ≡ false → is_done (timed_answer t l ws e) ≡ b → site_in (timed_store s d l ws e)
          ≡ (timed_after t l ws e).site
      told true k c =
          ap site_in (hit _ _ _ (ap is_done (skip (too_short s) NoRoom (timed_answer t l ws e) _ k refl) ∙ c))
          ∙ accepted (is_end e) k refl c ∙ sym (ap (λ (x : Timed). x.site) (done-after t l ws e c))
      told false k c =
          ap site_in (skip _ _ _ _ (ap is_done (skip (too_short s) NoRoom (timed_answer t l ws e) _ k refl) ∙ c) refl)
          ∙ sym (ap (λ (x : Timed). x.site) (refused-after t l ws e c))

      go : (b : Bool) → too_short s ≡ b → site_in (timed_store s d l ws e) ≡ timed_site s d l ws e
      go true k = ap site_in (skip _ _ _ _ (ap is_done (hit (too_short s) NoRoom (timed_answer t l ws e) k)) refl) ∙ sym (hit _ _ _ k)
      go false k = told (is_done (timed_answer t l ws e)) k refl ∙ sym (skip _ _ _ _ k refl)

-- of storage that is long enough, all is as the site with its day has it
pub as-timed : (s : Store) (d : Day) (l : List ℕ) (ws : List Window) (e : Event) → Long s
    → ((stored_answer s d l ws e ≡ timed_answer (timed_in s d) l ws e) × (stored_day s d l ws e ≡ (timed_after (timed_in s d) l ws e).day))
    × ((timed_site s d l ws e ≡ (timed_after (timed_in s d) l ws e).site) × (area_with s l e ≡ area_after (site_in s) l e))
unfolding stored_answer stored_day timed_site
as-timed s d l ws e h =
    let k = enough s h.0 h.1 in
    let a : stored_answer s d l ws e ≡ timed_answer (timed_in s d) l ws e = skip _ _ _ _ k refl in
    let n : stored_day s d l ws e ≡ (timed_after (timed_in s d) l ws e).day = skip _ _ _ _ k refl in
    ((a, n), (skip _ _ _ _ k refl, (as-site s l e h.0 h.1).1.1))

-- a plain load that is accepted is refused with windows only as 16
pub as_load : (s : Store) (f : Config) (t : Table) (D : ℕ) (ws : List Window) → Long s → load_answer f t ≡ Done → stored_load_answer s f t D ws
    ≡ cond (list_ok f.nodes D ws) Done BadWindows
unfolding stored_load_answer timed_load_answer
as_load s f t D ws h k = skip _ _ _ _ (enough s h.0 h.1) (hit _ _ _ (ap is_done k))

-- the site with its day after an accepted load
pub as-begun : (s u : Store) (f : Config) (t : Table) (D : ℕ) (ws : List Window) (d : Day) → stored_load_answer s f t D ws ≡ Done → d
    ≡ first_epoch D → site_in u ≡ timed_loaded_site s f t D ws → timed_in u d ≡ loaded_timed f t D ws
unfolding timed_loaded_site loaded_timed
as-begun s u f t D ws d h e k =
    let q : site_in u ≡ (loaded_timed f t D ws).site = k ∙ hit _ _ _ (ap is_done h) in
    λ i. record { site = q i; day = e i }
