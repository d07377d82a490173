-- A node's bytes, part by part; what each call answers and leaves.
-- Assumes nothing.
use mathlib.Core.Path.{◌≡◌, refl, sym, ap, ap₂, ◌∙◌, subst}
use mathlib.Core.Bool.{Bool, true, false, not, cond, ◌&&◌, ◌||◌}
use mathlib.Core.List.{List, [], ◌∷◌, ◌++◌}
use mathlib.Core.Logic.{◌≢◌}
use Prim.Native.Nat.{ℕ, ◌*◌, ◌≤◌}
use native.Mathlib.Omega.{arith}
use borrow.Author.Tests.{ltb-false, eq-eqb, ne_eqb}
use lib.Dec.{ltb}
use lib.ListN.{length, replicate}
use mir.Val.{bool_byte}
use Rattle.words.proofs.Tests.{hit, skip, or-neither}
use Rattle.lists.specs.Bytes.{bytes32, written, Put, Tried}
use Rattle.lists.proofs.Chain.{start, step, finish-by}
use Rattle.allotment.specs.Allotment.{owners_of}
use Rattle.node.specs.Answers.{is_done}
use Rattle.node.specs.Figures.{is_waiting}
use Rattle.node.specs.Answers.{Answer}
use Rattle.node.specs.Answers.{Done, OutOfRange, NoSuchNode, NoRoom}
use Rattle.node.specs.Model.{Node}
use Rattle.site.specs.Members.{outside, node_index}
use Rattle.site.specs.declared.SiteHeader.{SiteHeader}
use Rattle.site.specs.declared.Event.{Event}
use Rattle.node.specs.declared.Config.{Config}
use Rattle.site.specs.Model.{Member}
use Rattle.site.specs.declared.Table.{Table}
use Rattle.site.proofs.Laws.{node-index-in}
use Rattle.machine.specs.Acts.{no_node_at}
use Rattle.machine.specs.Layout.{Store, store, bytes_size, too_short, up_in, phase_in, config_in, site_in}
use Rattle.machine.proofs.Seats.{config-are}
use Rattle.machine.proofs.Whole.{enough, long-enough, as-header, at_place, live-read, stored-read}
use Rattle.node.proofs.Answers.{done-is, answered-err, answered-ok}
use Rattle.machine.specs.Loading.{header_read, member_read}
use Rattle.windows.specs.declared.Window.{Window}
use Rattle.machine.specs.timed.Timed.{first_epoch}
use Rattle.machine.specs.timed.Stored.{stored_load_answer, stored_load, timed_loaded_store, timed_loaded_site}
use Rattle.machine.specs.declared.Day.{Day}
use Rattle.machine.proofs.timed.Stored.{as-begun}
use Rattle.node.specs.declared.Refusal.{Refusal}
use Rattle.std.specs.Prelude.{Result, Ok, Err}
use Rattle.tally.specs.Counting.{first_tally}
use Rattle.tally.specs.declared.Tally.{Tally}
use Rattle.machine.specs.combined.Kept.{Kept}
use Rattle.machine.specs.combined.Stored.{lent_too_short, step_answer, step_accepted, step_store, step_kept}
use Rattle.machine.proofs.combined.Laws.{StepIs, kept-refused, store-refused}
use Rattle.std.specs.Prelude.{Option}
use Rattle.std.specs.Prelude.{None, Some}
use Rattle.sites.specs.one.Memory.{memory_size, memory_too_short, day_in, day_put, with_day, timed_of, kept_of}
use Rattle.sites.specs.one.Calls.{table_from, loading_of, after_load, timed_after_load, tally_after_load, site_event_answer}
use Rattle.sites.specs.one.Calls.{after_event, kept_after_event, report_after_event, live_bytes, rest_bytes, node_bytes}
use Rattle.sites.specs.one.Calls.{shown_size, showing, out_node}
use Rattle.sites.proofs.one.Days.{timed-day, kept-day, same-day}

-- a live node's bytes, one part after another
pub live-put : (n : Node) {l m1 m2 m3 m4 m5 : List ℕ} {i1 i2 i3 i4 i5 : ℕ} → 90 ≤ length l → length (owners_of n.schedule) ≡ 80
    → Tried l 0 (2 ∷ []) i1 m1 → Tried m1 i1 (bytes32 n.version) i2 m2 → Tried m2 i2 (bytes32 n.flags) i3 m3
    → Tried m3 i3 (n.request ∷ []) i4 m4
    → Tried m4 i4 (owners_of n.schedule) i5 m5 → Put l 0 (live_bytes n) i5 m5
unfolding live_bytes
live-put n {l} h k t1 t2 t3 t4 t5 =
    let o = owners_of n.schedule in
    let a = n.request ∷ o in
    let b = bytes32 n.flags ++ a in
    let c = bytes32 n.version ++ b in
    let q1 = step (2 ∷ []) c (start l 0 (2 ∷ c) (omega (arith, k))) t1 in
    let q2 = step (bytes32 n.version) b q1 t2 in
    let q3 = step (bytes32 n.flags) a q2 t3 in
    finish-by o (step (n.request ∷ []) o q3 t4) t5

pub rest_put : (up : Bool) {l m1 m2 : List ℕ} {i1 i2 : ℕ} → 90 ≤ length l → Tried l 0 (bool_byte up ∷ []) i1 m1
    → Tried m1 i1 (replicate 89 0) i2 m2 → Put l 0 (bool_byte up ∷ replicate 89 0) i2 m2
rest_put up {l} h t1 t2 = finish-by (replicate 89 0) (step (bool_byte up ∷ []) (replicate 89 0)
    (start l 0 (bool_byte up ∷ replicate 89 0) (omega arith)) t1) t2

-- the bytes of one of the N nodes, by whether it is live and up
module _ (s : Store) (j : ℕ) (h : no_node_at s j ≡ false) where
  pub live-bytes : {t : Bool} → t ≡ (up_in s.bytes (node_index j) && not (is_waiting (phase_in s.bytes (node_index j)))) → t ≡ true
      → node_bytes (member_read s j) ≡ live_bytes (member_read s j).node
  live-bytes e f = let q = at_place s j h in hit _ _ _ (live-read s j q.0 q.1.0 q.1.1 ∙ sym e ∙ f)

  pub rest-bytes : {t u : Bool} → t ≡ (up_in s.bytes (node_index j) && not (is_waiting (phase_in s.bytes (node_index j)))) → t ≡ false → u
      ≡ up_in s.bytes (node_index j) → node_bytes (member_read s j) ≡ bool_byte u ∷ replicate 89 0
  unfolding rest_bytes
  rest-bytes e f g =
      let q = at_place s j h in
      let up : (member_read s j).up ≡ up_in s.bytes (node_index j) = ap (λ (m : Member). m.up)
      (stored-read s j q.0 q.1.0 q.1.1) ∙ ap (up_in s.bytes) (sym (node-index-in (config_in s) j q.1.1)) in
      skip _ _ _ _ (live-read s j q.0 q.1.0 q.1.1 ∙ sym e ∙ f) (ap (λ (x : Bool). bool_byte x ∷ replicate 89 0) (up ∙ sym g))

-- a node that is shown, and a refusal
module _ (s : Store) (j : ℕ) (out : List ℕ) where
  abbrev pub Shows : Answer → List ℕ → Type 0
  Shows r m = (r ≡ showing s j out) × (m ≡ out_node s j out)

  answers : (a : Answer) {m : List ℕ} → a ≡ showing s j out → m
      ≡ cond (is_done a) (written out 0 (node_bytes (member_read s j))) out → Shows a m
  unfolding out_node
  answers a e f = (e, f ∙ ap (λ (x : Answer). cond (is_done x) (written out 0 (node_bytes (member_read s j))) out) e)

  abbrev few : Bool
  few = too_short s || ltb (length out) shown_size

  pub no_room : few ≡ true → Shows NoRoom out
  unfolding showing
  no_room h = answers NoRoom (sym (hit _ _ _ h)) refl

  module _ (h : few ≡ false) where
    pub no_node : outside (config_in s) j ≡ true → Shows NoSuchNode out
    unfolding showing
    no_node o = answers NoSuchNode (sym (skip _ _ _ _ h (hit _ _ _ o))) refl

    pub shows : {m : List ℕ} → outside (config_in s) j ≡ false → m ≡ written out 0 (node_bytes (member_read s j)) → Shows Done m
    unfolding showing
    shows o e = answers Done (sym (skip _ _ _ _ h (skip _ _ _ _ o refl))) e

-- whether a number is outside, as the header that is read has it
pub outside-is : (s : Store) (j : ℕ) → too_short s ≡ false → {k : SiteHeader} {b : Bool} → k ≡ header_read s → b ≡ outside k.config j
    → outside (config_in s) j ≡ b
outside-is s j h e f =
    let w = long-enough s h in
    let g = ap (λ (x : SiteHeader). x.config) (e ∙ as-header s w.0 w.1) ∙ config-are s in
    sym (f ∙ ap (λ (x : Config). outside x j) g)

either : {X : Type 0} (b : Bool) (x : X) → cond b x x ≡ x
either true x = refl
either false x = refl

-- an event in memory
module _ (s : Store) (l : List ℕ) (ws : List Window) (t : Tally) (out : List ℕ) where
  abbrev day : Day
  day = day_in s.words

  abbrev pub EventIs : Option Event → Answer → Tally → List ℕ → List ℕ → List ℕ → List ℕ → Type 0
  EventIs p r v w b x o =
      (r ≡ site_event_answer s l ws t out p)
      × ((w ≡ (after_event s l ws t out p).words)
      × ((b ≡ (after_event s l ws t out p).bytes)
      × ((o ≡ report_after_event s l ws t out p) × (kept_of (store w b) x v ≡ kept_after_event s l ws t out p))))

  -- too few words or bytes
  pub lacking : (p : Option Event) → memory_too_short s ≡ true → EventIs p NoRoom t s.words s.bytes l out
  unfolding site_event_answer after_event kept_after_event report_after_event
  lacking p h =
      let a : site_event_answer s l ws t out p ≡ NoRoom = hit _ _ _ h in
      let k : kept_after_event s l ws t out p ≡ kept_of s l t = hit _ _ _ h in
      let q : after_event s l ws t out p ≡ s = skip _ _ _ _ (ap is_done a) refl in
      (sym a, (ap (λ (x : Store). x.words) (sym q), (ap (λ (x : Store). x.bytes) (sym q), (sym (hit _ _ _ h), sym k))))

  -- three numbers that make no event
  pub no-event : {p : Option Event} {r : Answer} → None ≡ p → memory_too_short s ≡ false → r ≡ cond (lent_too_short s l out) NoRoom OutOfRange
      → EventIs p r t s.words s.bytes l out
  unfolding site_event_answer after_event kept_after_event report_after_event
  no-event {p} {r} q h e = subst (λ (x : Option Event). EventIs x r t s.words s.bytes l out) q (
    e ∙ sym (skip _ _ _ _ h refl),
    (
      ap (λ (x : Store). x.words) z,
      (ap (λ (x : Store). x.bytes) z, (sym (either (memory_too_short s) out), sym (either (memory_too_short s) (kept_of s l t)))),
    ),
  )
    where
      z : s ≡ after_event s l ws t out None
      z = sym (either (is_done (site_event_answer s l ws t out None)) s)

  module _ (h : memory_too_short s ≡ false) (e : Event) where
    answer-is : site_event_answer s l ws t out (Some e) ≡ step_answer s day l ws t out e
    unfolding site_event_answer
    answer-is = skip _ _ _ _ h refl

    kept-is : kept_after_event s l ws t out (Some e) ≡ step_kept s day l ws t out e
    unfolding kept_after_event
    kept-is = skip _ _ _ _ h refl

    -- the words with the day behind them
    store_is : with_day (step_store s day l ws t out e) (step_kept s day l ws t out e).timed.day ≡ after_event s l ws t out (Some e)
    unfolding after_event
    store_is = go (step_accepted s day l ws t out e) refl
      where
        go : (b : Bool) → step_accepted s day l ws t out e ≡ b
            → with_day (step_store s day l ws t out e) (step_kept s day l ws t out e).timed.day ≡ after_event s l ws t out (Some e)
        go true c = sym (hit _ _ _ (ap is_done answer-is ∙ c))
        go false c =
            ap₂ (λ (x : Store) (k : Kept). with_day x k.timed.day) (store-refused s day l ws t out e c)
            (kept-refused s day l ws t out e c)
            ∙ same-day s
            ∙ sym (skip _ _ _ _ (ap is_done answer-is ∙ c) refl)

    -- a step of the machine, and the day that it gives
    pub in_memory : {d n : Day} {r : Answer} {v : Tally} {w b x o y : List ℕ} → d ≡ day → StepIs s d l ws t out e r n v w b x o
        → memory_size ≤ length w → y ≡ day_put w n → EventIs (Some e) r v y b x o
    unfolding report_after_event
    in_memory {d} {n} {r} {v} {w} {b} {x} {o} {y} g z long f =
        let p : StepIs s day l ws t out e r n v w b x o = subst (λ (m : Day). StepIs s m l ws t out e r n v w b x o) g z in
        let words : day_put w n ≡ (with_day (step_store s day l ws t out e) (step_kept s day l ws t out e).timed.day).words =
        ap₂ (λ (z : List ℕ) (m : Day). day_put z m) p.1.0 (ap (λ (k : Kept). k.timed.day) p.1.1.1.1) in (
          p.0 ∙ sym answer-is,
          (
            f ∙ words ∙ ap (λ (z : Store). z.words) store_is,
            (
              p.1.1.0 ∙ ap (λ (z : Store). z.bytes) store_is,
              (
                p.1.1.1.0 ∙ sym (skip _ _ _ _ h refl),
                ap (λ (z : List ℕ). kept_of (store z b) x v) f ∙ kept-day (store w b) n long x v ∙ p.1.1.1.1 ∙ sym kept-is,
              ),
            ),
          ),
        )

-- an event that is one
pub an-event : (s : Store) (l : List ℕ) (ws : List Window) (t : Tally) (out : List ℕ) (e : Event) {p : Option Event} {r : Answer} {v : Tally}
    {w b x o : List ℕ} → Some e ≡ p → EventIs s l ws t out (Some e) r v w b x o → EventIs s l ws t out p r v w b x o
an-event s l ws t out e {p} {r} {v} {w} {b} {x} {o} q h = subst (λ (y : Option Event). EventIs s l ws t out y r v w b x o) q h

-- a load
module _ (s : Store) (f : Config) (rows : List ℕ) (D : ℕ) (ws : List Window) where
  abbrev pub LoadsIs : Answer → List ℕ → List ℕ → Type 0
  LoadsIs a w b = (a ≡ loading_of s f rows D ws)
      × ((w ≡ (after_load s f rows D ws).words)
      × ((b ≡ (after_load s f rows D ws).bytes) × (timed_of (store w b) ≡ timed_after_load s f rows D ws)))

  pub no-load : {a : Answer} → a ≡ loading_of s f rows D ws → is_done a ≡ false → LoadsIs a s.words s.bytes
  unfolding after_load timed_after_load
  no-load e h =
      let g = ap is_done (sym e) ∙ h in
      let q : after_load s f rows D ws ≡ s = skip _ _ _ _ g refl in
      (e, (ap (λ (x : Store). x.words) (sym q), (ap (λ (x : Store). x.bytes) (sym q), sym (skip _ _ _ _ g refl))))

  -- the tally is set anew where the load is accepted
  pub tally-first : (t : Tally) {v : Tally} → Done ≡ loading_of s f rows D ws → v ≡ first_tally → v ≡ tally_after_load s f rows D ws t
  unfolding tally_after_load
  tally-first t e h = h ∙ sym (hit _ _ _ (ap is_done (sym e)))

  pub tally-stays : (t : Tally) {a : Answer} → a ≡ loading_of s f rows D ws → is_done a ≡ false → t ≡ tally_after_load s f rows D ws t
  unfolding tally_after_load
  tally-stays t e h = sym (skip _ _ _ _ (ap is_done (sym e) ∙ h) refl)

-- memory that is long enough
pub long-words : (s : Store) → memory_too_short s ≡ false → memory_size ≤ length s.words
long-words s h = ltb-false _ _ (or-neither (ltb (length s.words) memory_size) (ltb (length s.bytes) bytes_size) h).0

pub not_short : (s : Store) → memory_too_short s ≡ false → too_short s ≡ false
not_short s h = enough s (omega (arith, long-words s h))
    (ltb-false _ _ (or-neither (ltb (length s.words) memory_size) (ltb (length s.bytes) bytes_size) h).1)

module _ (s : Store) (f : Config) (rows : List ℕ) (D : ℕ) (ws : List Window) where
  pub lacks-load : memory_too_short s ≡ true → LoadsIs s f rows D ws NoRoom s.words s.bytes
  unfolding loading_of
  lacks-load h = no-load s f rows D ws (sym (hit _ _ _ h)) refl

  module _ (h : memory_too_short s ≡ false) where
    -- rows that are not three words for each node
    pub bad-rows : length rows ≢ 3 * f.nodes → LoadsIs s f rows D ws OutOfRange s.words s.bytes
    unfolding loading_of
    bad-rows g = no-load s f rows D ws (sym (skip _ _ _ _ h (skip _ _ _ _ (ne_eqb _ _ g) refl))) refl

    module _ (g : length rows ≡ 3 * f.nodes) where
      loading-is : loading_of s f rows D ws ≡ stored_load_answer s f (table_from rows) D ws
      unfolding loading_of stored_load_answer
      loading-is = skip _ _ _ _ h (hit _ _ _ (eq-eqb _ _ g)) ∙ sym (skip _ _ _ _ (not_short s h) refl)

      -- what module timed of crate machine says of the load
      abbrev pub Loaded : Table → Result Day Refusal → List ℕ → List ℕ → Type 0
      Loaded t r w b = (r ≡ stored_load s f t D ws)
          × ((w ≡ (timed_loaded_store s f t D ws).words)
          × ((b ≡ (timed_loaded_store s f t D ws).bytes) × (site_in (store w b) ≡ timed_loaded_site s f t D ws)))

      pub load-refused : {t : Table} {r : Refusal} {w b : List ℕ} → t ≡ table_from rows → Loaded t (Err r) w b
          → LoadsIs s f rows D ws (Err r) w b
      unfolding timed_loaded_store
      load-refused {t} {r} {w} {b} q o =
          let p = subst (λ (x : Table). Loaded x (Err r) w b) q o in
          let a : Err r ≡ stored_load_answer s f (table_from rows) D ws = sym (answered-err _ _ (sym p.0)) in
          let z : s ≡ timed_loaded_store s f (table_from rows) D ws = sym (skip _ _ _ _ (ap is_done (sym a)) refl) in
          subst (λ (x : Store). LoadsIs s f rows D ws (Err r) x.words x.bytes)
          (z ∙ sym (λ i. record { words = p.1.0 i; bytes = p.1.1.0 i })) (no-load s f rows D ws (a ∙ sym loading-is) refl)

      pub load-done : {t : Table} {d : Day} {w b y : List ℕ} → t ≡ table_from rows → Loaded t (Ok d) w b
          → memory_size ≤ length w → y ≡ day_put w d → LoadsIs s f rows D ws Done y b
      unfolding after_load timed_after_load
      load-done {t} {d} {w} {b} {y} q o long e =
          let p = subst (λ (x : Table). Loaded x (Ok d) w b) q o in
          let k = answered-ok _ _ (sym p.0) in
          let g : stored_load_answer s f (table_from rows) D ws ≡ Done = done-is _ k.0 in
          let a : Done ≡ loading_of s f rows D ws = sym g ∙ sym loading-is in
          let n : d ≡ first_epoch D = k.1 in
          let done : is_done (loading_of s f rows D ws) ≡ true = ap is_done (sym a) in
          let u : with_day (timed_loaded_store s f (table_from rows) D ws) (first_epoch D) ≡ after_load s f rows D ws = sym (hit _ _ _ done) in
          let words : day_put w d ≡ day_put (timed_loaded_store s f (table_from rows) D ws).words (first_epoch D) =
          ap₂ (λ (z : List ℕ) (m : Day). day_put z m) p.1.0 n in (
            a,
            (
              e ∙ words ∙ ap (λ (x : Store). x.words) u,
              (
                p.1.1.0 ∙ ap (λ (x : Store). x.bytes) u,
                ap (λ (z : List ℕ). timed_of (store z b)) e
                    ∙ timed-day (store w b) d long
                    ∙ as-begun s (store w b) f (table_from rows) D ws d g n p.1.1.1
                    ∙ sym (hit _ _ _ done),
              ),
            ),
          )
