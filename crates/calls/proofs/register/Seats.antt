-- One number in the memory of a group: the site that stands there, and its answers beside those of the site alone.
-- Assumes nothing.
use mathlib.Core.Path.{◌≡◌, refl, sym, ap, ◌∙◌, subst}
use mathlib.Core.Bool.{Bool, true, false, not, cond, ◌&&◌, ◌||◌}
use mathlib.Core.List.{List}
use Prim.Native.Nat.{ℕ, ◌-◌, ◌*◌, ◌≤◌, ◌<◌}
use native.Mathlib.Omega.{arith}
use borrow.Author.Tests.{le-ltb, leb-true, not-false}
use lib.Dec.{ltb, leb}
use lib.ListN.{length}
use Rattle.words.proofs.Tests.{never, hit, skip, at_test, and_left, and_right, read_same}
use Rattle.lists.specs.All.{tab}
use Rattle.lists.specs.Bytes.{written}
use Rattle.lists.proofs.Laws.{get_d-tab}
use Rattle.node.specs.Answers.{is_done}
use Rattle.node.specs.Answers.{Answer}
use Rattle.node.specs.Answers.{Done, OutOfRange, NoSuchNode, NotANode, NoRoom, BadWindows, Crowded}
use Rattle.site.specs.Counts.{packets}
use Rattle.site.specs.Members.{member_at, outside}
use Rattle.site.specs.Answers.{area_size}
use Rattle.site.specs.Events.{is_end}
use Rattle.site.specs.declared.Event.{Event}
use Rattle.node.specs.declared.Config.{Config}
use Rattle.site.specs.Model.{Member}
use Rattle.machine.specs.Layout.{Store, words_size, bytes_size, too_short, config_in, site_in}
use Rattle.machine.proofs.Whole.{enough, as_member}
use Rattle.windows.specs.Windows.{list_ok}
use Rattle.windows.specs.declared.Window.{Window}
use Rattle.machine.specs.timed.Timed.{Timed, timed_answer, timed_after, timed_load_answer}
use Rattle.machine.specs.timed.Calls.{TimedState}
use Rattle.machine.specs.timed.Stored.{timed_in}
use Rattle.machine.specs.declared.Day.{Day}
use Rattle.tally.specs.Counting.{tally_ok}
use Rattle.tally.specs.Ends.{tallied_answer, tally_at}
use Rattle.tally.specs.declared.Tally.{Tally}
use Rattle.machine.specs.combined.Kept.{Kept, first_refusal, kept_answer}
use Rattle.machine.specs.combined.Stored.{report_too_short, kept_in, step_answer, step_accepted}
use Rattle.machine.specs.combined.Stored as machine
use Rattle.machine.proofs.combined.Laws.{accepts}
use Rattle.std.specs.Prelude.{Option}
use Rattle.std.specs.Prelude.{None, Some}
use Rattle.sites.specs.one.Calls.{table_from, node_bytes, shown_size, showing, out_node}
use Rattle.calls.proofs.ledger.Along.{step_kept_lem}
use Rattle.group.specs.Group.{SiteSlot, Empty, Taken, Group, vacant, is_number, site_slot_of}
use Rattle.group.specs.Calls.{is_crowded}
use Rattle.group.proofs.Ground.{Ground, Mirror, number_is}
use Rattle.group.proofs.Looks.{Alike, answer-alike, timed-after}
use Rattle.group.proofs.Moves.{alike}
use Rattle.group.proofs.Theorem.{empty-site-slot}
use Rattle.sites.specs.many.Memory.{Memory, Lent, group_too_short, store_at, is_taken, day_at, site_slot_in, is_loaded, loaded_answer, places_in}
use Rattle.sites.specs.many.Memory.{group_in}
use Rattle.sites.specs.many.Calls.{event_call, own_area_in, site_step_answer, group_event_answer, group_tally_after, group_load_answer, row_count_fits}
use Rattle.sites.specs.many.Calls.{rows_answer, group_line_answer}
use Rattle.sites.specs.many.Calls.{group_node_answer, node_out}
use Rattle.sites.proofs.many.Lists.{length-span}
use Rattle.sites.proofs.many.Groups.{loaded-number, loaded-lengths}

-- What stands at a number

abbrev is_here : SiteSlot → Bool
is_here Empty = false
is_here (Taken t) = true

abbrev timed_or : Timed → SiteSlot → Timed
timed_or x Empty = x
timed_or x (Taken t) = t

-- the site with its day in the words and bytes of a number
abbrev pub timed_of : Memory → ℕ → Timed
timed_of m a = timed_in (store_at m (a - 1)) (day_at m.table (a - 1))

-- a number at which a site stands is loaded, and the site is that of its words and bytes
pub record Here (m : Memory) (a : ℕ) (t : Timed) : Type 0 where
  pub loaded : is_loaded m a ≡ true
  pub timed : t ≡ timed_of m a

module _ (m : Memory) (area : List ℕ) (a : ℕ) (t : Timed) (h : site_slot_of (group_in m area) a ≡ Taken t) where
  is-number : is_number a ≡ true
  is-number = go (is_number a) refl
    where
      go : (b : Bool) → is_number a ≡ b → is_number a ≡ true
      go true q = q
      go false q = never (sym (ap is_here (sym (skip (is_number a) _ Empty Empty q refl) ∙ h)))

  low : a - 1 < 8
  low = let n = number_is a is-number in omega (arith, n.from, n.to)

  site-slot-read : group_too_short m ≡ false → site_slot_of (group_in m area) a ≡ site_slot_in m (a - 1)
  unfolding group_in
  site-slot-read q =
      ap (λ (g : Group). site_slot_of g a) (skip (group_too_short m) (vacant area)
      (record { site_slots = tab 8 (site_slot_in m); places = places_in m.table; area = area }) _ q refl)
      ∙ hit _ _ Empty is-number ∙ get_d-tab Empty 8 (site_slot_in m) (a - 1) low

  pub here : Here m a t
  unfolding is_loaded site_slot_in group_in
  here = go (group_too_short m) refl (is_taken m.table (a - 1)) refl
    where
      go : (x : Bool) → group_too_short m ≡ x → (y : Bool) → is_taken m.table (a - 1) ≡ y → Here m a t
      go true p y q =
          never (sym (sym (ap is_here
          (ap (λ (g : Group). site_slot_of g a) (hit (group_too_short m) (vacant area) _ p) ∙ empty-site-slot area a))
          ∙ ap is_here h))
      go false p true q =
          record {
            loaded = λ i. is-number i && (not (p i) && q i);
            timed = ap (timed_or t) (sym h ∙ site-slot-read p ∙ hit _ (Taken (timed_of m a)) Empty q);
          }
      go false p false q = never (sym (sym (ap is_here (site-slot-read p ∙ skip _ (Taken (timed_of m a)) Empty _ q refl)) ∙ ap is_here h))

-- The answers of the site alone

-- to an event, but for 17
abbrev pub plain_event : TimedState → Lent → Event → Answer
plain_event w v e =
    cond (report_too_short v.out) NoRoom (kept_answer (record { timed = w.timed; area = w.area; tally = v.tally }) v.windows e)

abbrev pub plain_line : TimedState → Lent → (Option Event) → Answer
plain_line w v None = cond (report_too_short v.out) NoRoom OutOfRange
plain_line w v (Some e) = plain_event w v e

-- to a load
abbrev pub plain_rows : Config → List ℕ → ℕ → List Window → Answer
plain_rows f rows D ws = cond (row_count_fits f rows) (timed_load_answer f (table_from rows) D ws) OutOfRange

-- whether an event is one for which 17 is answered where nothing else is refused
abbrev pub short : Group → ℕ → Lent → (Option Event) → Bool
short g a v None = false
short g a v (Some e) = is_crowded g (event_call a v.windows e)

module _ (m : Memory) (area : List ℕ) (a : ℕ) (x : List ℕ) (G : Ground (group_in m area))
    (M : Mirror (group_in m area) a (record { timed = timed_of m a; area = x })) where
  abbrev s : Store
  s = store_at m (a - 1)

  abbrev d : Day
  d = day_at m.table (a - 1)

  abbrev w : TimedState
  w = record { timed = timed_of m a; area = x }

  abbrev own : List ℕ
  own = own_area_in m area a

  loaded : is_loaded m a ≡ true
  loaded = (here m area a (timed_of m a) M.site_slot).loaded

  loaded-done : loaded_answer m a ≡ Done
  unfolding loaded_answer
  loaded-done = hit _ _ _ loaded

  -- memory is long enough
  enough-few : group_too_short m ≡ false
  unfolding is_loaded
  enough-few = not-true-is (group_too_short m) (and_left (not (group_too_short m)) (is_taken m.table (a - 1))
      (and_right (is_number a) (not (group_too_short m) && is_taken m.table (a - 1)) loaded))
    where
      not-true-is : (b : Bool) → not b ≡ true → b ≡ false
      not-true-is true k = sym k
      not-true-is false k = refl

  words_long : words_size ≤ length s.words
  words_long =
      let n = number_is a (loaded-number m a loaded) in
      let e = length-span m.words (words_size * (a - 1)) words_size (omega (arith, n.from, n.to, (loaded-lengths m a loaded).words)) in
      omega (arith, e)

  bytes-long : bytes_size ≤ length s.bytes
  bytes-long =
      let n = number_is a (loaded-number m a loaded) in
      let e = length-span m.bytes (bytes_size * (a - 1)) bytes_size (omega (arith, n.from, n.to, (loaded-lengths m a loaded).bytes)) in
      omega (arith, e)

  long : too_short s ≡ false
  long = enough s words_long bytes-long

  like : Alike own x (packets (timed_of m a).site.sent)
  like = alike (group_in m area) G a w M

  area-is : (group_in m area).area ≡ area
  unfolding group_in
  area-is = read_same (λ (g : Group). g.area) (group_too_short m) (vacant area)
      (record { site_slots = tab 8 (site_slot_in m); places = places_in m.table; area = area }) area refl refl

  room : ltb (length area) area_size ≡ false
  room = le-ltb (length area) area_size (subst (λ (l : List ℕ). area_size ≤ length l) area-is G.room)

  few : (out : List ℕ) → machine.lent_too_short s own out ≡ report_too_short out
  few out = λ i. long i || (le-ltb (length own) area_size like.left i || report_too_short out)

  kept_same_lem : (ws : List Window) (u : Tally) (e : Event)
      → kept_answer (kept_in s d own u) ws e ≡ kept_answer (record { timed = timed_of m a; area = x; tally = u }) ws e
  unfolding kept_answer tallied_answer
  kept_same_lem ws u e =
      ap (λ (z : Answer). first_refusal (cond (is_end e && is_done z) (cond (tally_ok u) Done NotANode) z)
      (cond (list_ok (timed_of m a).site.config.nodes d.length ws) Done BadWindows)) (answer-alike (timed_of m a).site own x like e)

  own_same : (v : Lent) (e : Event) → site_step_answer m area a v e ≡ plain_event w v e
  unfolding site_step_answer step_answer
  own_same v e =
      skip _ NoRoom _ _ room
      ((λ i. cond (few v.out i) NoRoom (kept_same v e i)))
    where
      kept_same : (v : Lent) (e : Event) → kept_answer (kept_in s d own v.tally) v.windows e ≡ kept_answer
          (record { timed = timed_of m a; area = x; tally = v.tally }) v.windows e
      kept_same v e = kept_same_lem v.windows v.tally e

  pub event-same : (v : Lent) (e : Event)
      → group_event_answer m area a v e
      ≡ first_refusal (plain_event w v e) (cond (is_crowded (group_in m area) (event_call a v.windows e)) Crowded Done)
  unfolding group_event_answer
  event-same v e =
      ap (λ (z : Answer). first_refusal z (first_refusal (site_step_answer m area a v e)
      (cond (is_crowded (group_in m area) (event_call a v.windows e)) Crowded Done))) loaded-done
      ∙ ap (λ (z : Answer). first_refusal z (cond (is_crowded (group_in m area) (event_call a v.windows e)) Crowded Done)) (own_same v e)

  -- an event made of three numbers
  pub line_same : (v : Lent) (p : (Option Event)) → group_line_answer m area a v p ≡ first_refusal (plain_line w v p)
      (cond (short (group_in m area) a v p) Crowded Done)
  line_same v None =
      ap (λ (z : Answer). first_refusal z (cond (ltb (length area) area_size || report_too_short v.out) NoRoom OutOfRange)) loaded-done
      ∙ ap (λ (b : Bool). cond (b || report_too_short v.out) NoRoom OutOfRange) room
      ∙ go (report_too_short v.out)
    where
      go : (b : Bool) → cond b NoRoom OutOfRange ≡ first_refusal (cond b NoRoom OutOfRange) Done
      go true = refl
      go false = refl
  line_same v (Some e) = event-same v e

  -- a load
  pub rows_same : (f : Config) (rows : List ℕ) (D : ℕ) (ws : List Window) → rows_answer m a f rows D ws ≡ plain_rows f rows D ws
  unfolding rows_answer group_load_answer
  rows_same f rows D ws =
      (λ i. cond (row_count_fits f rows)
      (cond (loaded-number m a loaded i) (cond (enough-few i) NoRoom (timed_load_answer f (table_from rows) D ws)) NoSuchNode)
      (cond (loaded-number m a loaded i) (cond (enough-few i) NoRoom OutOfRange) NoSuchNode))

  -- an accepted event
  module _ (v : Lent) (e : Event) (h : is_done (plain_event w v e) ≡ true) where
    pub event-done : is_done (timed_answer (timed_of m a) x v.windows e) ≡ true
    event-done = accepts (record { timed = timed_of m a; area = x; tally = v.tally }) v.windows e (go (report_too_short v.out) refl)
      where
        k : Answer
        k = kept_answer (record { timed = timed_of m a; area = x; tally = v.tally }) v.windows e

        go : (b : Bool) → report_too_short v.out ≡ b → is_done k ≡ true
        go true q = never (sym (sym (ap is_done (hit (report_too_short v.out) NoRoom k q)) ∙ h))
        go false q = sym (ap is_done (skip (report_too_short v.out) NoRoom k k q refl)) ∙ h

    step-done : step_accepted s d own v.windows v.tally v.out e ≡ true
    unfolding site_step_answer
    step-done = sym (ap is_done (skip (ltb (length area) area_size) NoRoom _ _ room refl)) ∙ ap is_done (own_same v e) ∙ h

    pub event-tally : is_done (group_event_answer m area a v e) ≡ true
        → group_tally_after m area a v e ≡ cond (is_end e) (tally_at (timed_after (timed_of m a) x v.windows e).site v.tally) v.tally
    unfolding group_tally_after
    event-tally q =
        hit _ _ _ q ∙ ap (λ (k : Kept). k.tally) (step_kept_lem s d own v.windows v.tally v.out e step-done)
        ∙ ap (λ (t : Timed). cond (is_end e) (tally_at t.site v.tally) v.tally) (timed-after (timed_of m a) own x v.windows like e)

  -- what a listing shows of a node
  pub listed : (j : ℕ) (out : List ℕ)
      → group_node_answer m a j out ≡ cond (ltb (length out) shown_size) NoRoom (cond (outside (timed_of m a).site.config j) NoSuchNode Done)
  unfolding group_node_answer showing site_in
  listed j out =
      ap (λ (z : Answer). first_refusal z (showing s j out)) loaded-done
      ∙ ap (λ (b : Bool). cond (b || ltb (length out) shown_size) NoRoom (cond (outside (config_in s) j) NoSuchNode Done)) long

  shows : (j : ℕ) (out : List ℕ) → showing s j out ≡ cond (ltb (length out) shown_size) NoRoom
      (cond (outside (timed_of m a).site.config j) NoSuchNode Done)
  unfolding showing site_in
  shows j out = ap (λ (b : Bool). cond (b || ltb (length out) shown_size) NoRoom (cond (outside (config_in s) j) NoSuchNode Done)) long

  pub shown : (j : ℕ) (out : List ℕ)
      → node_out m a j out
      ≡ cond (is_done (cond (ltb (length out) shown_size) NoRoom (cond (outside (timed_of m a).site.config j) NoSuchNode Done)))
      (written out 0 (node_bytes (member_at (timed_of m a).site j))) out
  unfolding node_out out_node
  shown j out =
      hit _ _ out (ap is_done loaded-done)
      ∙ at_test (is_done (showing s j out)) _ _ out (λ q. ap (λ (k : Member). written out 0 (node_bytes k))
      (as_member s j words_long bytes-long (from q) (to q)))
      ∙ ap (λ (z : Answer). cond (is_done z) (written out 0 (node_bytes (member_at (timed_of m a).site j))) out) (shows j out)
    where
      inside : is_done (showing s j out) ≡ true → outside (timed_of m a).site.config j ≡ false
      inside q = go (ltb (length out) shown_size) (outside (timed_of m a).site.config j) refl (sym (ap is_done (shows j out)) ∙ q)
        where
          go : (b c : Bool) → outside (timed_of m a).site.config j ≡ c → is_done (cond b NoRoom (cond c NoSuchNode Done)) ≡ true
              → outside (timed_of m a).site.config j ≡ false
          go true c k z = never (sym z)
          go false true k z = never (sym z)
          go false false k z = k

      bounds : is_done (showing s j out) ≡ true → (leb 1 j && (leb j (timed_of m a).site.config.nodes && leb j 32)) ≡ true
      bounds q = not-false _ (inside q)

      from : is_done (showing s j out) ≡ true → 1 ≤ j
      from q = leb-true _ _ (and_left (leb 1 j) _ (bounds q))

      to : is_done (showing s j out) ≡ true → j ≤ 32
      to q = leb-true _ _ (and_right (leb j (timed_of m a).site.config.nodes) (leb j 32) (and_right (leb 1 j) _ (bounds q)))
