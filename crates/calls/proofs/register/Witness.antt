-- The premises can be met, in any memory that is long enough: a group that has begun, a load of a number that is accepted, and behind it an
-- event that is accepted and leaves memory as it was. Before and behind are calls whose three numbers make no event; two runs may differ in
-- what was called before the load.
-- Assumes nothing.
use mathlib.Core.Path.{◌≡◌, refl, sym, ap, ◌∙◌, subst}
use mathlib.Core.Bool.{Bool, true, false, cond, ◌&&◌, ◌||◌}
use mathlib.Core.List.{List, [], ◌∷◌, ◌++◌}
use Prim.Native.Nat.{ℕ, min, ◌+◌, ◌-◌, ◌*◌, ◌≤◌, ◌<◌}
use native.Mathlib.Omega.{arith}
use borrow.Author.Tests.{le-ltb}
use lib.Dec.{eqb, ltb}
use lib.ListN.{length, get_or, set, replicate, length-replicate}
use lib.Seq.{set-get_or}
use Rattle.words.proofs.Tests.{by-test, hit, skip, read_same}
use Rattle.lists.specs.Bytes.{written}
use Rattle.lists.proofs.Laws.{iter-inv, length-written}
use Rattle.node.specs.Answers.{is_done, number}
use Rattle.node.specs.Core.{core_of}
use Rattle.node.specs.Answers.{Answer}
use Rattle.node.specs.Answers.{Done, NoRoom, OutOfRange}
use Rattle.node.specs.declared.Move.TheVariants.{Free}
use Rattle.node.proofs.Moved.{moved_apart}
use Rattle.range.proofs.Lengths.{Lengths, long-start, long-restart}
use Rattle.site.specs.Counts.{none_sent, packets}
use Rattle.site.specs.Answers.{area_size, answer_of}
use Rattle.site.specs.Load.{no_row, loaded_member}
use Rattle.site.specs.Members.{setup_of, down_member}
use Rattle.site.specs.Steps.{wanted_site, site_after}
use Rattle.node.specs.declared.Config.{Config}
use Rattle.site.specs.Model.{Member, Site}
use Rattle.site.specs.declared.Event.TheVariants.{Want}
use Rattle.site.specs.declared.Table.{Table}
use Rattle.machine.specs.Layout.{Store, words_size, bytes_size, at_config, node_words_at, node_bytes_at, schedules_at, at_sent, node_in, site_in}
use Rattle.machine.specs.Layout.{node_words, stored_front}
use Rattle.machine.specs.Loading.{figured, loaded_at, filled_store, loaded_store}
use Rattle.machine.proofs.Back.{length-row, length_front}
use Rattle.machine.proofs.Loads.{filled-site}
use Rattle.machine.proofs.Whole.{enough}
use Rattle.windows.specs.declared.Window.{Window}
use Rattle.machine.specs.timed.Timed.{Timed, given_table, timed_load_answer, timed_answer, next_timed, timed_after}
use Rattle.machine.specs.timed.Calls.{TimedState, run_calls}
use Rattle.machine.specs.timed.Stored.{stored_load_answer, timed_loaded_store, timed_loaded_site}
use Rattle.machine.proofs.timed.Laws.{loaded-site}
use Rattle.tally.specs.Counting.{first_tally}
use Rattle.tally.specs.declared.Tally.{Tally}
use Rattle.machine.specs.combined.Kept.{first_refusal}
use Rattle.machine.proofs.combined.Laws.{first-refuses}
use Rattle.agreement.specs.daily.Daily.{begin_by}
use Rattle.std.specs.Prelude.{None}
use Rattle.sites.specs.one.Calls.{table_from}
use Rattle.calls.specs.ledger.Lists.{Did, CalledAll, left_by, steps_by}
use Rattle.group.specs.Group.{SiteSlot, Empty, Taken, Group, is_number, site_slot_of, own_area}
use Rattle.group.specs.Calls.{GroupCall, is_crowded, group_accepts}
use Rattle.group.specs.Steps.{next_by, next_group, after_group}
use Rattle.group.proofs.Ground.{Mirror, number_is}
use Rattle.group.proofs.Stories.{Fine}
use Rattle.sites.specs.many.Memory.{Memory, memory, Lent, lent, table_size, group_too_short, store_at, loaded_answer}
use Rattle.sites.specs.many.Calls.{group_load_answer, row_count_fits, rows_answer, group_rows, tally_loaded, group_line_answer}
use Rattle.sites.specs.many.Calls.{event_call, group_event_answer, group_after}
use Rattle.sites.specs.many.Inner.{loaded_by, Sized}
use Rattle.sites.proofs.many.Lists.{length-span}
use Rattle.sites.proofs.many.Memories.{lengths}
use Rattle.sites.proofs.many.Memories as memories
use Rattle.sites.proofs.many.Groups.{any-load}
use Rattle.calls.specs.register.Register.{Lending, GroupMade, EventMade, LoadMade, LoadCalled, Called, Calls, loads_again, Run, Loaded}
use Rattle.calls.specs.register.Register.{stands_for, timed_at, accepted, SameCalls}
use Rattle.calls.proofs.register.Seats.{plain_event, event-same, event-tally}
use Rattle.calls.proofs.register.Numbers.{mirror}
use Rattle.calls.proofs.register.Theorem.{went, alone}
use Rattle.node.proofs.Answers.{zero-is}

-- A loaded site is written in its own words and bytes

member-long : (f : Config) (t : Table) (i : ℕ) → Lengths (loaded_member f t i).node
unfolding loaded_member
member-long f t i =
    let r = get_or t.rows i no_row in
    by-test (λ (m : Member). Lengths m.node) (ltb i f.nodes) _ (down_member f (i + 1))
    (λ e. long-start (setup_of f (i + 1)) r.version r.flags r.want) (λ e. long-restart (setup_of f (i + 1)) 0 0 0)

sized-filled : (s : Store) (f : Config) (t : Table) → Sized s → Sized (filled_store s f t)
unfolding filled_store loaded_at
sized-filled s f t z = iter-inv {n = min f.nodes 32} (λ i u. Sized u) (loaded_at f t) (figured s f) start one
  where
    start : Sized (figured s f)
    start =
        let l = f.nodes ∷ f.slots ∷ f.rounds ∷ f.min_heard ∷ f.split ∷ 0 ∷ [] in
        let e : length (none_sent ++ (1 ∷ [])) ≡ 33 = refl in (
          length-written s.words l at_config (omega (arith, z.0)) ∙ z.0,
          length-written s.bytes (none_sent ++ (1 ∷ [])) at_sent (omega (arith, e, z.1)) ∙ z.1,
        )

    one : (i : ℕ) (u : Store) → i < min f.nodes 32 → Sized u → Sized (loaded_at f t i u)
    one i u k y =
        let m = loaded_member f t i in
        let a = length-row m (member-long f t i) in
        let b = length_front m (member-long f t i) in
        let l = written u.bytes (node_bytes_at i) (stored_front m) in
        let c : length l ≡ length u.bytes = length-written u.bytes (stored_front m) (node_bytes_at i) (omega (arith, b, y.1, k)) in (
          length-written u.words (node_words m.node) (node_words_at i) (omega (arith, a, y.0, k)) ∙ y.0,
          (moved_apart l (schedules_at i) (omega (arith, c, y.1, k)) Free (core_of (node_in u i))).long ∙ c ∙ y.1,
        )

-- An accepted load
module _ (m : Memory) (area : List ℕ) (a : ℕ) (f : Config) (rows : List ℕ) (D : ℕ) (ws : List Window) (t : Tally)
    (h : group_too_short m ≡ false)
    (n : is_number a ≡ true) (fit : row_count_fits f rows ≡ true) (ok : timed_load_answer f (table_from rows) D ws ≡ Done) where
  abbrev s : Store
  s = store_at m (a - 1)

  abbrev T : Table
  T = table_from rows

  own-sized : Sized s
  own-sized =
      let k = number_is a n in
      let l = lengths m h in (
        length-span m.words (words_size * (a - 1)) words_size (omega (arith, k.from, k.to, l.words)),
        length-span m.bytes (bytes_size * (a - 1)) bytes_size (omega (arith, k.from, k.to, l.bytes)),
      )

  full_is : timed_loaded_store s f T D ws ≡ filled_store s f (given_table ws T)
  unfolding timed_loaded_store loaded_store stored_load_answer
  full_is =
      let q = enough s (omega (arith, own-sized.0)) (omega (arith, own-sized.1)) in
      hit _ _ s (ap is_done (skip _ NoRoom _ _ q ok)) ∙ skip _ s _ _ q refl

  stands : site_in (timed_loaded_store s f T D ws) ≡ timed_loaded_site s f T D ws
  unfolding timed_loaded_site stored_load_answer
  stands =
      let q = enough s (omega (arith, own-sized.0)) (omega (arith, own-sized.1)) in
      ap site_in full_is ∙ filled-site f (given_table ws T) s (omega (arith, own-sized.0)) (omega (arith, own-sized.1))
      ∙ sym (loaded-site f T D ws ok) ∙ sym (hit _ _ (site_in s) (ap is_done (skip _ NoRoom _ _ q ok)))

  abbrev after : Memory
  after = loaded_by m (a - 1) a f T D ws

  abbrev left : Lending
  left = record { memory = memory after.words after.bytes after.table; area = area }

  answer : rows_answer m a f rows D ws ≡ Done
  unfolding rows_answer group_load_answer
  answer = hit _ _ _ fit ∙ hit _ _ _ n ∙ skip _ NoRoom _ _ h ok

  pub load-made : LoadCalled (record { memory = m; area = area }) a f rows D ws t 0 first_tally left
  unfolding group_rows tally_loaded
  load-made =
      record {
        answer = sym (ap number answer);
        group = (any-load m a f T D ws n h refl refl refl refl (subst Sized (sym full_is) (sized-filled s f (given_table ws T) own-sized))
            stands
            ).1.1.1.1 area ∙ sym (hit _ _ _ fit);
        tally = sym (hit _ _ t (ap is_done answer));
      }

-- A call whose numbers make no event, of any number: it is refused
abbrev said : ℕ → Lending → ℕ
said b m = number (group_line_answer m.memory m.area b (lent [] first_tally []) None)

abbrev nothing : ℕ → Lending → Did GroupMade Lending
nothing b m = record { call = EventMade b 99 0 0 (lent [] first_tally []); answer = said b m; tally = first_tally; left = m }

nothing-called : (b : ℕ) (m : Lending) → Called m (nothing b m)
nothing-called b m = record { answer = refl; group = refl; tally = refl }

nothing-refused : (b : ℕ) (m : Lending) → eqb (said b m) 0 ≡ false
nothing-refused b m =
    zero-is (group_line_answer m.memory m.area b (lent [] first_tally []) None)
    ∙ first-refuses (loaded_answer m.memory b) _ (go (ltb (length m.area) area_size))
  where
    go : (x : Bool) → is_done (cond (x || false) NoRoom OutOfRange) ≡ false
    go true = refl
    go false = refl

-- Two runs of which the theorem speaks: they differ in what was called before the load, and behind it one call is accepted
pub record TwoRuns (c : GroupCall) : Type 0 where
  pub first : Run
  pub second : Run
  pub first-loaded : Loaded first
  pub second-loaded : Loaded second
  pub same : SameCalls first second
  pub more-before : (length first.before ≡ 0) × (length second.before ≡ 1)
  pub event : accepted first.behind ≡ c ∷ []

-- Runs: any calls that leave memory as it was before the load of number 1, and any behind it that don't load the number again
module _ (m : Memory) (area : List ℕ) (f : Config) (rows : List ℕ) (D : ℕ) (ws : List Window) (h : memories.Lengths m)
    (room : area_size ≤ length area) (fit : row_count_fits f rows ≡ true) (ok : timed_load_answer f (table_from rows) D ws ≡ Done) where
  abbrev start : Lending
  start = record { memory = memory m.words m.bytes (written m.table 0 (replicate table_size 0)); area = area }

  long : group_too_short start.memory ≡ false
  long =
      let e = length-replicate {A = ℕ} table_size 0 in
      let k = length-written m.table (replicate table_size 0) 0 (omega (arith, e, h.table)) in
      λ i. le-ltb (length m.words) (8 * words_size) h.words i
      || (le-ltb (length m.bytes) (8 * bytes_size) h.bytes i || le-ltb (length (written m.table 0 (replicate table_size 0)))
      table_size (omega (arith, k, h.table)) i)

  abbrev loaded_lending : Lending
  loaded_lending = left start.memory area 1 f rows D ws first_tally long refl fit ok

  abbrev run : Calls → Calls → Run
  run before behind =
      record {
        number = 1;
        config = f;
        rows = rows;
        day = D;
        windows = ws;
        tally = first_tally;
        start = start;
        before = before;
        load = record { call = LoadMade 1 f rows D ws first_tally; answer = 0; tally = first_tally; left = loaded_lending };
        behind = behind;
      }

  loaded : (before behind : Calls) → CalledAll Called start before → left_by start before ≡ start → CalledAll Called loaded_lending behind
      → loads_again 1 behind ≡ false → Loaded (run before behind)
  loaded before behind r e q n =
      record {
        begun = memories.begun m h area;
        room = room;
        before = r;
        load = subst (λ (l : Lending). LoadCalled l 1 f rows D ws first_tally 0 first_tally loaded_lending) (sym e)
            (load-made start.memory area 1 f rows D ws first_tally long refl fit ok);
        answer = refl;
        behind = q;
        last = n;
      }

  -- the load alone
  load-alone : Loaded (run [] [])
  unfolding CalledAll left_by loads_again
  load-alone = loaded [] [] tt refl tt refl

  abbrev begun : TimedState
  begun = begin_by f (table_from rows) D ws area

  -- A want of the demand that the node has: it is accepted, and memory stays as it was
  module _ (j d : ℕ) (given : plain_event begun (lent ws first_tally []) (Want j d) ≡ Done)
      (same : wanted_site begun.timed.site j d ≡ begun.timed.site) where
    abbrev g : Group
    g = stands_for loaded_lending

    abbrev v : Lent
    v = lent ws first_tally []

    abbrev call : GroupCall
    call = event_call 1 ws (Want j d)

    site-is : timed_at 1 loaded_lending ≡ begun.timed
    unfolding left_by steps_by run_calls
    site-is = alone (run [] []) load-alone area room

    fine : Fine area g
    unfolding left_by
    fine = (went (run [] []) load-alone area room).fine

    mirrors : Mirror g 1 (record { timed = timed_at 1 loaded_lending; area = area })
    unfolding left_by steps_by run_calls
    mirrors = mirror area room 1 f rows D ws loaded_lending [] fine (went (run [] []) load-alone area room).backed

    given-here : plain_event (record { timed = timed_at 1 loaded_lending; area = area }) v (Want j d) ≡ Done
    given-here = ap (λ (t : Timed). plain_event (record { timed = t; area = area }) v (Want j d)) site-is ∙ given

    want-done : group_event_answer loaded_lending.memory area 1 v (Want j d) ≡ Done
    unfolding is_crowded
    want-done = event-same loaded_lending.memory area 1 area fine.ground mirrors v (Want j d)
        ∙ ap (λ (x : Answer). first_refusal x Done) given-here

    -- the site, and with it the group
    site-stays : (own : List ℕ) → timed_after begun.timed own ws (Want j d) ≡ begun.timed
    unfolding timed_after next_timed site_after
    site-stays own =
        read_same (λ (t : Timed). t) (is_done (timed_answer begun.timed own ws (Want j d))) _ begun.timed begun.timed
        (λ i. record {
          site = read_same (λ (s : Site). s) (is_done (answer_of begun.timed.site own (Want j d))) _ _ begun.timed.site same refl i;
          day = begun.timed.day;
        })
        refl

    slot_is : site_slot_of g 1 ≡ Taken begun.timed
    slot_is = mirrors.site_slot ∙ ap Taken site-is

    group-stays : after_group g call ≡ g
    unfolding after_group next_group
    group-stays =
        read_same (λ (x : Group). x) (group_accepts g call) (next_group g call) g g
        (ap (λ (s : SiteSlot). next_by g 1 s (record { event = Want j d; windows = ws })) slot_is
        ∙ (λ i. record {
          site_slots = (ap (λ (t : Timed). set g.site_slots 0 (Taken t)) (site-stays (own_area g 1 (packets begun.timed.site.sent)))
              ∙ ap (set g.site_slots 0) (sym slot_is) ∙ set-get_or g.site_slots 0 Empty) i;
          places = g.places;
          area = g.area;
        }))
        refl

    abbrev want : Did GroupMade Lending
    want = record { call = EventMade 1 6 j d v; answer = 0; tally = first_tally; left = loaded_lending }

    want-called : Called loaded_lending want
    unfolding group_after
    want-called =
        record {
          answer = sym (ap number want-done);
          group = sym (hit _ _ _ (ap is_done want-done) ∙ group-stays);
          tally = sym (event-tally loaded_lending.memory area 1 area fine.ground mirrors v (Want j d) (ap is_done given-here)
              (ap is_done want-done));
        }

    -- behind the load: the want, and a refused call of number 1 and of number 2
    abbrev behind : Calls
    behind = want ∷ nothing 1 loaded_lending ∷ nothing 2 loaded_lending ∷ []

    loaded-so : (before : Calls) → CalledAll Called start before → left_by start before ≡ start → Loaded (run before behind)
    unfolding CalledAll loads_again
    loaded-so before r e =
        loaded before behind r e (want-called, (nothing-called 1 loaded_lending, (nothing-called 2 loaded_lending, tt)))
        (λ i. (nothing-refused 1 loaded_lending i && false) || ((nothing-refused 2 loaded_lending i && false) || false))

    -- nothing before the load, or one refused call of number 2
    pub runs : TwoRuns call
    unfolding CalledAll left_by accepted
    runs =
        record {
          first = run [] behind;
          second = run (nothing 2 start ∷ []) behind;
          first-loaded = loaded-so [] tt refl;
          second-loaded = loaded-so (nothing 2 start ∷ []) (nothing-called 2 start, tt) refl;
          same = record { number = refl; config = refl; rows = refl; day = refl; windows = refl; own = refl };
          more-before = (refl, refl);
          event = λ i.
              call ∷ (cond (nothing-refused 1 loaded_lending i) [] [] ++ (cond (nothing-refused 2 loaded_lending i) [] [] ++ []));
        }
