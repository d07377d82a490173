-- The premises can be met: there is memory after every accepted load, and every list of calls can be made there, refused or accepted.
-- Assumes nothing.
use mathlib.Core.Path.{◌≡◌, refl, sym, ap, ◌∙◌, subst}
use mathlib.Core.Bool.{Bool, true, false, cond, ◌&&◌, ◌||◌}
use mathlib.Core.Logic.{⊎_elim}
use mathlib.Core.List.{List, [], ◌∷◌, ◌++◌, map}
use Prim.Native.Nat.{ℕ, min, ◌+◌, ◌-◌, ◌*◌, ◌≤◌, ◌<◌}
use native.Mathlib.Omega.{arith}
use borrow.Author.Tests.{ltb-false, le-ltb, leb-true, not-false}
use lib.Dec.{eqb, ltb, leb}
use lib.ListN.{length, get_or, set, replicate, length-set, length-replicate, length-append, length-take, length-drop}
use Rattle.words.proofs.Tests.{never, met?, by-test, hit, skip, read_same, and_right, or-neither}
use Rattle.lists.specs.All.{iter}
use Rattle.lists.specs.Bytes.{span, written}
use Rattle.lists.proofs.Laws.{iter-inv}
use Rattle.masks.specs.Bytes.{masks_size, can_copy}
use Rattle.node.specs.Answers.{is_done, number}
use Rattle.node.specs.Core.{core_of}
use Rattle.node.specs.Answers.{Answer}
use Rattle.node.specs.Answers.{Done, OutOfRange, BadWindows, NoRoom}
use Rattle.node.specs.declared.Move.{Move}
use Rattle.node.specs.declared.Move.TheVariants.{Free}
use Rattle.node.proofs.Answers.{done-is}
use Rattle.node.proofs.Moved.{moved_apart}
use Rattle.site.specs.Counts.{none_sent}
use Rattle.site.specs.Answers.{area_size}
use Rattle.site.specs.Answers as site
use Rattle.site.specs.Load.{loaded_member}
use Rattle.site.specs.Members.{outside}
use Rattle.site.specs.Steps.{close_member, end_member, place_after, site_after}
use Rattle.site.specs.declared.Event.{Event}
use Rattle.site.specs.declared.Event.TheVariants.{Send, Hear, Close, Take, End, Want, Crash, Restart}
use Rattle.node.specs.declared.Config.{Config}
use Rattle.site.specs.Model.{Member}
use Rattle.site.specs.Model.{Site}
use Rattle.site.specs.declared.Table.{Table}
use Rattle.site.proofs.Accepted.{answered, take-accepted, crash-accepted, restart-accepted}
use Rattle.windows.specs.Windows.{list_ok, due_at}
use Rattle.windows.specs.declared.Window.{Window}
use Rattle.machine.specs.Layout.{Store, store, at_config, words_size, bytes_size, too_short, node_words_at, node_bytes_at, schedules_at, at_place}
use Rattle.machine.specs.Layout.{at_sent}
use Rattle.machine.specs.Layout.{node_in, stored_in, site_in}
use Rattle.machine.specs.Layout.{node_words, stored_front}
use Rattle.machine.specs.Loading.{figured, loaded_at, filled_store, member_read}
use Rattle.machine.specs.Written.{written_front, written_moved, handed_on, taken_at, each, closes, close_change, ends, end_change, nodes_in}
use Rattle.machine.specs.Written.{closed_store, ended_store}
use Rattle.machine.proofs.Loads.{filled-site}
use Rattle.machine.proofs.Whole.{enough}
use Rattle.machine.specs.steps.After.{sent_store, heard_store, taken_store, wanted_store, crashed_store, restarted_store, next_store}
use Rattle.machine.specs.steps.After.{storage_answer}
use Rattle.machine.specs.steps.After.{store_after, site_with}
use Rattle.machine.proofs.steps.Follows.{follows}
use Rattle.machine.specs.timed.Timed.{Timed, first_epoch, epoch_after, given_site, given_table, timed_load_answer, loaded_timed}
use Rattle.machine.specs.timed.Timed.{begins_epoch, given_before, next_timed}
use Rattle.machine.specs.timed.Stored.{timed_in, given_at, given_store, stored_answer, begun_store, timed_store}
use Rattle.machine.specs.declared.Day.{Day}
use Rattle.machine.proofs.timed.Laws.{loaded-site, done-after}
use Rattle.machine.proofs.timed.Stored.{Long, given-store}
use Rattle.tally.specs.Ends.{tallied_answer}
use Rattle.tally.specs.declared.Tally.{Tally}
use Rattle.machine.specs.combined.Kept.{Kept, first_refusal, kept_answer}
use Rattle.machine.specs.combined.Stored.{lent_too_short, report_too_short, step_answer, step_accepted, step_store, step_kept}
use Rattle.machine.proofs.combined.Laws.{first-refuses, step-accepts, kept-refused}
use Rattle.std.specs.Prelude.{Option}
use Rattle.std.specs.Prelude.{None, Some}
use Rattle.sites.specs.one.Memory.{at_day, at_epoch, memory_size, memory_too_short, day_in, with_day, timed_of, kept_of}
use Rattle.sites.specs.one.Calls.{table_from, loading_of, timed_after_load, site_event_answer, kept_after_event, after_event}
use Rattle.sites.proofs.one.Days.{timed-day}
use Rattle.calls.specs.ledger.Lists.{Did, CalledAll}
use Rattle.calls.specs.ledger.Ledger.{SiteMemory, store_of, Made, parsed, Called, Begun}
use Rattle.calls.proofs.ledger.Along.{step_kept_lem}

-- What is written makes no words and no bytes fewer

grows : (l b : List ℕ) (at : ℕ) → length l ≤ length (written l at b)
grows l b at = simp (length-append, length-take, length-drop) (omega arith)

pub record Grown (s t : Store) : Type 0 where
  pub words : length s.words ≤ length t.words
  pub bytes : length s.bytes ≤ length t.bytes

same : (s : Store) → Grown s s
same s = record { words = omega arith; bytes = omega arith }

then : {s t u : Store} → Grown s t → Grown t u → Grown s u
then g h = record { words = omega (arith, g.words, h.words); bytes = omega (arith, g.bytes, h.bytes) }

long-then : {s t : Store} → Grown s t → Long s → Long t
long-then g h = (omega (arith, g.words, h.0), omega (arith, g.bytes, h.1))

front : (s : Store) (i : ℕ) (m : Member) → Grown s (written_front s i m)
front s i m = record {
  words = grows s.words (node_words m.node) (node_words_at i);
  bytes = grows s.bytes (stored_front m) (node_bytes_at i);
}

put : (s : Store) → Long s → (i : ℕ) → i < 32 → (m : Member) (v : Move) → Grown s (written_moved s i m v)
put s L i k m v =
    let l = written s.bytes (node_bytes_at i) (stored_front m) in
    let a : length s.bytes ≤ length l = grows s.bytes (stored_front m) (node_bytes_at i) in
    let b = (moved_apart l (schedules_at i) (omega (arith, a, k, L.1)) v (core_of (node_in s i))).long in
    record { words = grows s.words (node_words m.node) (node_words_at i); bytes = omega (arith, a, b) }

one_each : (test : Member → Bool) (step : Member → Member) (change : Member → Move) (i : ℕ) (s : Store) → i < 32 → Long s
    → Grown s (each test step change i s)
unfolding each
one_each test step change i s k L =
    by-test (Grown s) (test (stored_in s i)) (written_moved s i (step (stored_in s i)) (change (stored_in s i))) s
    (λ e. put s L i k (step (stored_in s i)) (change (stored_in s i))) (λ e. same s)

all-each : (n : ℕ) (f : ℕ → Store → Store) → ((i : ℕ) (t : Store) → i < n → Long t → Grown t (f i t)) → (s : Store) → Long s
    → Grown s (iter n f s)
all-each n f h s L = iter-inv {n = n} (λ i t. Grown s t) f s (same s) (λ i t k g. then g (h i t k (long-then g L)))

handed : (s : Store) (i h : ℕ) → Grown s (handed_on s i h)
handed s i h =
    record {
      words = omega arith;
      bytes = by-test (λ (x : List ℕ). length s.bytes ≤ length x) (can_copy s.bytes (schedules_at h) (schedules_at i))
          (written s.bytes (schedules_at i) (span s.bytes (schedules_at h) masks_size)) s.bytes
          (λ e. grows s.bytes (span s.bytes (schedules_at h) masks_size) (schedules_at i)) (λ e. omega arith);
    }

-- a number of one of the N nodes
inside : (f : Config) (j : ℕ) → outside f j ≡ false → j - 1 < 32
inside f j h =
    let b : (leb 1 j && (leb j f.nodes && leb j 32)) ≡ true = not-false _ h in
    let k : j ≤ 32 = leb-true _ _ (and_right (leb j f.nodes) (leb j 32) (and_right (leb 1 j) _ b)) in
    omega (arith, k)

next : (s : Store) (l : List ℕ) → Long s → (e : Event) → site.event_answer (site_in s) l e ≡ Done → Grown s (next_store s l e)
unfolding sent_store heard_store taken_store wanted_store crashed_store restarted_store closed_store ended_store taken_at
next s l L (Send j) h =
    record {
      words = omega arith;
      bytes = omega (arith, length-set s.bytes (at_sent + (j - 1)) (get_or s.bytes (at_sent + (j - 1)) 0 + 1));
    }
next s l L (Hear j p) h = front s (j - 1) _
next s l L Close h =
    let t = iter (nodes_in s) (each closes close_member close_change) s in
    let g : Grown s t =
    all-each (nodes_in s) (each closes close_member close_change) (λ i u k M. one_each closes close_member close_change i u (omega (arith, k)) M)
    s L in
    record { words = g.words; bytes = omega (arith, g.bytes, grows t.bytes (none_sent ++ (0 ∷ [])) at_sent) }
next s l L (Take j i) h =
    let g = handed s (j - 1) (i - 1) in
    then g (put (handed_on s (j - 1) (i - 1)) (long-then g L) (j - 1) (inside (site_in s).config j (take-accepted (site_in s) j i h).taker)
    _ _)
next s l L End h =
    let t = iter (nodes_in s) (each ends end_member end_change) s in
    let g : Grown s t =
    all-each (nodes_in s) (each ends end_member end_change) (λ i u k M. one_each ends end_member end_change i u (omega (arith, k)) M) s L in
    record {
      words = omega (arith, g.words, length-set t.words at_place (place_after (site_in s)));
      bytes = omega (arith, g.bytes, grows t.bytes (none_sent ++ (1 ∷ [])) at_sent);
    }
next s l L (Want j d) h = record { words = omega arith; bytes = omega (arith, length-set s.bytes (node_bytes_at (j - 1) + 1) d) }
next s l L (Crash j) h = put s L (j - 1) (inside (site_in s).config j (crash-accepted (site_in s) j h).node) _ Free
next s l L (Restart j flags) h = put s L (j - 1) (inside (site_in s).config j (restart-accepted (site_in s) j flags h).node) _ Free

after : (s : Store) (l : List ℕ) (e : Event) → Long s → Grown s (store_after s l e)
unfolding store_after storage_answer
after s l e L =
    by-test (Grown s) (is_done (storage_answer s l e)) (next_store s l e) s
    (λ h. next s l L e (answered (site_in s) l e (done-is _ (ap is_done (sym (skip (too_short s) NoRoom _ _ (enough s L.0 L.1) refl))
    ∙ h))).1) (λ h. same s)

given : (ws : List Window) (e : ℕ) (l : List ℕ) (s : Store) → Long s → Grown s (given_store ws e l s)
unfolding given_store given_at
given ws e l s L =
    by-test (Grown s) (eqb (length ws) 0) s (iter (nodes_in s) (given_at ws e l) s) (λ h. same s)
    (λ h. all-each (nodes_in s) (given_at ws e l) (λ i t k M. after t l
    (Want (i + 1) (due_at ws (i + 1) e (member_read t (i + 1)).node.demand)) M) s L)

begun : (s : Store) (d : Day) (l : List ℕ) (ws : List Window) (e : Event) → Long s → Grown s (begun_store s d l ws e)
begun s d l ws e L =
    by-test (Grown s) (begins_epoch (timed_in s d) e) (given_store ws (epoch_after d) l s) s (λ h. given ws (epoch_after d) l s L) (λ h. same s)

-- One accepted event: what is written stands for the site behind it
module _ (s : Store) (d : Day) (l : List ℕ) (ws : List Window) (t : Tally) (out : List ℕ) (e : Event)
    (h : step_accepted s d l ws t out e ≡ true) where
  -- what an accepted event says
  record Fits : Type 0 where
    words : words_size ≤ length s.words
    bytes : bytes_size ≤ length s.bytes
    room : area_size ≤ length l
    listed : list_ok (site_in s).config.nodes d.length ws ≡ true

  fits : Fits
  unfolding step_answer kept_answer
  fits = go (lent_too_short s l out) refl (list_ok (site_in s).config.nodes d.length ws) refl
    where
      k : Answer
      k = tallied_answer (site_in s) l t e

      go : (x : Bool) → lent_too_short s l out ≡ x → (y : Bool) → list_ok (site_in s).config.nodes d.length ws ≡ y → Fits
      go true p y q = never (sym (sym (ap is_done (hit (lent_too_short s l out) NoRoom _ p)) ∙ h))
      go false p true q =
          let a = or-neither (too_short s) (ltb (length l) area_size || report_too_short out) p in
          let b = or-neither (ltb (length s.words) words_size) (ltb (length s.bytes) bytes_size) a.0 in
          record {
            words = ltb-false _ _ b.0;
            bytes = ltb-false _ _ b.1;
            room = ltb-false _ _ (or-neither (ltb (length l) area_size) (report_too_short out) a.1).0;
            listed = q;
          }
      go false p false q =
          never (sym (sym (ap is_done
          (skip (lent_too_short s l out) NoRoom _ _ p refl ∙ ap (λ (b : Bool). first_refusal k (cond b Done BadWindows)) q))
          ∙ h) ∙ first-refuses k BadWindows refl)

  abbrev g : Store
  g = begun_store s d l ws e

  begun-site : site_in g ≡ given_before (timed_in s d) ws e
  begun-site = go (begins_epoch (timed_in s d) e)
    where
      go : (b : Bool) → site_in (cond b (given_store ws (epoch_after d) l s) s) ≡ cond b (given_site ws (epoch_after d) (site_in s)) (site_in s)
      go true = given-store ws (epoch_after d) d.length l fits.room s (fits.words, fits.bytes) fits.listed
      go false = refl

  written_is : step_store s d l ws t out e ≡ store_after g l e
  unfolding step_store timed_store stored_answer
  written_is =
      hit _ _ s h ∙ hit _ _ s (ap is_done (skip (too_short s) NoRoom _ _ (enough s fits.words fits.bytes) refl)
      ∙ step-accepts s d l ws t out e h)

  long : Long s
  long = (fits.words, fits.bytes)

  pub step-grown : Grown s (step_store s d l ws t out e)
  step-grown = let x = begun s d l ws e long in subst (Grown s) (sym written_is) (then x (after g l e (long-then x long)))

  pub step-site : site_in (step_store s d l ws t out e) ≡ (step_kept s d l ws t out e).timed.site
  unfolding site_with next_timed
  step-site =
      let x = begun s d l ws e long in
      ap site_in written_is
      ∙ follows g l e
      ∙ skip (too_short g) _ _ _ (enough g (omega (arith, x.words, fits.words)) (omega (arith, x.bytes, fits.bytes))) refl
      ∙ ap (λ (y : Site). site_after y l e) begun-site
      ∙ ap (λ (y : Timed). y.site) (sym (done-after (timed_in s d) l ws e (step-accepts s d l ws t out e h)))
      ∙ ap (λ (y : Kept). y.timed.site) (sym (step_kept_lem s d l ws t out e h))

-- Every call can be made

-- long enough for a site
pub record Enough (m : SiteMemory) : Type 0 where
  pub words : memory_size ≤ length m.words
  pub bytes : bytes_size ≤ length m.bytes

-- a call with what it leaves
pub record Makes (m : SiteMemory) (c : Made) : Type 0 where
  pub did : Did Made SiteMemory
  pub call : did.call ≡ c
  pub called : Called m did
  pub enough : Enough did.left

module _ (m : SiteMemory) (c : Made) (E : Enough m) where
  abbrev s : Store
  s = store_of m

  abbrev d : Day
  d = day_in m.words

  abbrev ws : List Window
  ws = c.windows

  abbrev t : Tally
  t = c.tally

  not-lacking : memory_too_short s ≡ false
  not-lacking = λ i. le-ltb _ _ E.words i || le-ltb _ _ E.bytes i

  record Left (p : (Option Event)) : Type 0 where
    timed : timed_of (after_event s m.area ws t c.reports p) ≡ (kept_after_event s m.area ws t c.reports p).timed
    grown : Grown s (after_event s m.area ws t c.reports p)

  left : (p : (Option Event)) → Left p
  unfolding after_event kept_after_event site_event_answer
  left None =
      record {
        timed = ap timed_of (read_same (λ (x : Store). x) (is_done (site_event_answer s m.area ws t c.reports None)) s s s refl refl)
            ∙ ap (λ (x : Kept). x.timed) (sym (read_same (λ (x : Kept). x) (memory_too_short s) _ _ (kept_of s m.area t) refl refl));
        grown = by-test (Grown s) (is_done (site_event_answer s m.area ws t c.reports None)) s s (λ _. same s) (λ _. same s);
      }
  left (Some e) =
      ⊎_elim
      (λ h.
      let g = step-grown s d m.area ws t c.reports e (sym (ap is_done a) ∙ h) in
      let x = step_store s d m.area ws t c.reports e in
      let k = step_kept s d m.area ws t c.reports e in
      let q : after_event s m.area ws t c.reports (Some e) ≡ with_day x k.timed.day = hit _ _ s h in
      record {
        timed = ap timed_of q ∙ timed-day x k.timed.day (omega (arith, g.words, E.words))
            ∙ (λ i. record { site = step-site s d m.area ws t c.reports e (sym (ap is_done a) ∙ h) i; day = k.timed.day })
            ∙ ap (λ (y : Kept). y.timed) (sym kept);
        grown = subst (Grown s) (sym q) (then g (record {
          words = omega (
            arith,
            length-set x.words at_day k.timed.day.length,
            length-set
                (set x.words at_day k.timed.day.length) at_epoch k.timed.day.epoch,
          );
          bytes = omega arith;
        }));
      })
      (λ h.
      let q : after_event s m.area ws t c.reports (Some e) ≡ s = skip _ _ s s h refl in
      record {
        timed = ap timed_of q ∙ ap (λ (y : Kept). y.timed) (sym
            (kept ∙ kept-refused s d m.area ws t c.reports e (sym (ap is_done a) ∙ h)));
        grown = subst (Grown s) (sym q) (same s);
      })
      (met? (is_done (site_event_answer s m.area ws t c.reports (Some e))))
    where
      a : site_event_answer s m.area ws t c.reports (Some e) ≡ step_answer s d m.area ws t c.reports e
      a = skip (memory_too_short s) NoRoom _ _ not-lacking refl

      kept : kept_after_event s m.area ws t c.reports (Some e) ≡ step_kept s d m.area ws t c.reports e
      kept = skip (memory_too_short s) (kept_of s m.area t) _ _ not-lacking refl

  pub makes : Makes m c
  makes =
      let S = after_event s m.area ws t c.reports (parsed c) in
      let K = kept_after_event s m.area ws t c.reports (parsed c) in
      let L = left (parsed c) in
      record {
        did = record {
          call = c;
          answer = number (site_event_answer s m.area ws t c.reports (parsed c));
          tally = K.tally;
          left = record { words = S.words; bytes = S.bytes; area = K.area };
        };
        call = refl;
        called = record { answer = refl; kept = λ i. record { timed = L.timed i; area = K.area; tally = K.tally } };
        enough = record { words = omega (arith, L.grown.words, E.words); bytes = omega (arith, L.grown.bytes, E.bytes) };
      }

-- a list of them
pub record MakesAll (m : SiteMemory) (cs : List Made) : Type 0 where
  pub dids : List (Did Made SiteMemory)
  pub calls : map (λ (d : Did Made SiteMemory). d.call) dids ≡ cs
  pub called : CalledAll Called m dids

pub makes-all : (m : SiteMemory) → Enough m → (cs : List Made) → MakesAll m cs
unfolding CalledAll
makes-all m E [] = record { dids = []; calls = refl; called = tt }
makes-all m E (c ∷ cs) =
    let x = makes m c E in
    let y = makes-all x.did.left x.enough cs in
    record { dids = x.did ∷ y.dids; calls = λ i. x.call i ∷ y.calls i; called = (x.called, y.called) }

-- There is memory after every accepted load, from memory of zeros

filled : (s : Store) (f : Config) (t : Table) → Long s → Grown s (filled_store s f t)
unfolding filled_store loaded_at
filled s f t L =
    let l = f.nodes ∷ f.slots ∷ f.rounds ∷ f.min_heard ∷ f.split ∷ 0 ∷ [] in
    let g : Grown s (figured s f) = record { words = grows s.words l at_config; bytes = grows s.bytes (none_sent ++ (1 ∷ [])) at_sent }
    in
    then g (all-each (min f.nodes 32) (loaded_at f t) (λ i u k M. put u M i (omega (arith, k)) (loaded_member f t i) Free) (figured s f)
    (long-then g L))

pub record Loads (f : Config) (rows : List ℕ) (D : ℕ) (ws : List Window) (area : List ℕ) : Type 0 where
  pub memory : SiteMemory
  pub begun : Begun f rows D ws memory
  pub enough : Enough memory

module _ (f : Config) (rows : List ℕ) (D : ℕ) (ws : List Window) (area : List ℕ) (fit : eqb (length rows) (3 * f.nodes) ≡ true)
    (ok : timed_load_answer f (table_from rows) D ws ≡ Done) where
  abbrev zeros : Store
  zeros = store (replicate memory_size 0) (replicate bytes_size 0)

  abbrev full : Store
  full = filled_store zeros f (given_table ws (table_from rows))

  words_long : memory_size ≤ length zeros.words
  words_long = omega (arith, length-replicate {A = ℕ} memory_size 0)

  bytes-long : bytes_size ≤ length zeros.bytes
  bytes-long = omega (arith, length-replicate {A = ℕ} bytes_size 0)

  answer : loading_of zeros f rows D ws ≡ Done
  unfolding loading_of
  answer = skip (memory_too_short zeros) NoRoom _ _ (λ i. le-ltb _ _ words_long i || le-ltb _ _ bytes-long i) (hit _ _ OutOfRange fit ∙ ok)

  pub memory-loaded : Loads f rows D ws area
  unfolding timed_after_load loaded_timed
  memory-loaded =
      let g = filled zeros f (given_table ws (table_from rows)) (omega (arith, words_long), bytes-long) in
      let d = first_epoch D in
      let m = with_day full d in
      let q : site_in full ≡ (loaded_timed f (table_from rows) D ws).site =
      filled-site f (given_table ws (table_from rows)) zeros (omega (arith, words_long)) bytes-long
      ∙ sym (loaded-site f (table_from rows) D ws ok) in
      record {
        memory = record { words = m.words; bytes = m.bytes; area = area };
        begun = record {
          before = zeros;
          answer = ap number answer;
          site = timed-day full d (omega (arith, g.words, words_long)) ∙ (λ i. record { site = q i; day = d })
              ∙ sym (hit (is_done (loading_of zeros f rows D ws)) (loaded_timed f (table_from rows) D ws) (timed_of zeros) (ap is_done answer));
        };
        enough = record {
          words = omega (
            arith,
            g.words,
            words_long,
            length-set full.words at_day d.length,
            length-set
                (set full.words at_day d.length) at_epoch d.epoch,
          );
          bytes = omega (arith, g.bytes, bytes-long);
        };
      }

-- so for every load that is accepted and every list of calls behind it the premises of the theorem are met
pub record Met (f : Config) (rows : List ℕ) (D : ℕ) (ws : List Window) (area : List ℕ) (cs : List Made) : Type 0 where
  pub memory : SiteMemory
  pub begun : Begun f rows D ws memory
  pub made : MakesAll memory cs

pub met : (f : Config) (rows : List ℕ) (D : ℕ) (ws : List Window) (area : List ℕ) (cs : List Made)
    → eqb (length rows) (3 * f.nodes) ≡ true
    → timed_load_answer f (table_from rows) D ws ≡ Done → Met f rows D ws area cs
met f rows D ws area cs fit ok =
    let l = memory-loaded f rows D ws area fit ok in
    record { memory = l.memory; begun = l.begun; made = makes-all l.memory l.enough cs }
