-- The parts of what is printed, one behind another.
-- Assumes nothing.
use mathlib.Core.Path.{◌≡◌, refl, sym, ap, ap₂, ◌∙◌}
use mathlib.Core.Bool.{Bool, true, false, cond, ◌||◌}
use mathlib.Core.List.{List, [], ◌++◌, append-nil}
use Prim.Native.Nat.{ℕ, zero, suc, ◌+◌, ◌≤◌, ◌<◌}
use native.Mathlib.Omega.{arith}
use borrow.Author.Tests.{lt-ltb, le-ltb, le-leb, lt-leb, eqb-true}
use lib.Dec.{ltb}
use lib.ListN.{length, drop, length-drop, replicate, length-replicate}
use Rattle.lists.specs.Bytes.{Put, Tried}
use Rattle.lists.proofs.Chain.{Left, none, start, step, next, finish, room_for, leftover, recast, length-put}
use Rattle.text.specs.Read.{split}
use Rattle.node.specs.Answers.{Answer, Done, NoRoom, BadWindows, answered}
use Rattle.site.specs.Answers.{area_size}
use Rattle.site.specs.Load.{load_answer, loaded_site}
use Rattle.node.specs.declared.Config.{Config}
use Rattle.site.specs.Model.{Member}
use Rattle.site.specs.Model.{Site}
use Rattle.windows.specs.Windows.{list_ok}
use Rattle.windows.specs.declared.Window.{Window}
use Rattle.machine.specs.Layout.{Store, store, site_in}
use Rattle.machine.specs.timed.Timed.{Timed, loaded_timed}
use Rattle.machine.specs.timed.Calls.{TimedState}
use Rattle.machine.specs.timed.Stored.{timed_in, stored_load, stored_load_answer, timed_loaded_site}
use Rattle.machine.specs.declared.Day.{Day}
use Rattle.node.specs.declared.Refusal.{Refusal}
use Rattle.node.specs.declared.Refusal.TheVariants as refusal
use Rattle.std.specs.Prelude.{Result, Ok, Err}
use Rattle.machine.proofs.timed.Stored.{Long, as_load, as-begun}
use Rattle.words.proofs.Tests.{never, hit, skip}
use Rattle.script.specs.load.Opening.{Reading, refused, got, Opening, opening, config_read, read_back}
use Rattle.script.specs.declared.Opened.{Opened}
use Rattle.script.specs.declared.RefusedHead.{RefusedHead}
use Rattle.machine.specs.timed.Timed.{first_epoch}
use Rattle.script.proofs.load.Outcome.{WellFormed, opening-fine, opening-loads}
use Rattle.desk.specs.listing.Rows.{first_head, refusal_line}
use Rattle.desk.proofs.listing.Laws.{refusal-put, tried-none}
use Rattle.desk.proofs.reasons.Closes.{split-sized}
use Rattle.desk.specs.listings.Output.{top_script, events_in, run_by, day_fits, left_area, body, body_area, unfit, output_of, final_area}
use Rattle.desk.specs.listings.Output as desk
use Rattle.desk.specs.listings.Why.{reasons_head, head_part, why_body, why_of}
use Rattle.desk.specs.listings.Calls.{text_of, room_of, output_fits, run_answer, run_result_of, out_after, area_after_run}
use Rattle.desk.specs.listings.Calls.{length_after}
use Rattle.desk.specs.listings.Inner.{lines_text, Runs, opening_of, lines_of, has_head, refusal_text, head_text, rest_text, ran_text}
use Rattle.desk.specs.listings.Inner.{open_text, Fits}
use Rattle.desk.specs.declared.View.{View}
use Rattle.desk.specs.declared.View.TheVariants.{Refusals, Reasons}
use Rattle.desk.proofs.listings.Bound.{refused-short, room-some, open-short}

-- a refusal of a whole script, and the head of one that is run: only a view with a head has them
pub refused_none : (v : View) (k n : ℕ) (x : Answer) (l : List ℕ) → has_head v ≡ false → Put l 0 (refusal_text v k n x) 0 l
refused_none Refusals k n x l h = never h
refused_none (Reasons zero) k n x l h = never h
refused_none (Reasons (suc i)) k n x l h = none l 0

pub refused-put : (v : View) (k n : ℕ) (x : Answer) {l m o : List ℕ} {i r : ℕ} → has_head v ≡ true → 50 ≤ length l
    → Tried l 0 (first_head k) i m → Tried m i (refusal_line n x) r o
    → Put l 0 (refusal_text v k n x) r o
refused-put Refusals k n x h b t u = refusal-put k n x b t u
refused-put (Reasons zero) k n x h b t u = refusal-put k n x b t u
refused-put (Reasons (suc i)) k n x h b t u = let z = eqb-true (suc i) 0 h in absurd (omega (arith, z))

pub head-none : (j : ℕ) (l : List ℕ) → (j ≡ 0 → ⊥) → Tried l 0 (head_part j) 0 l
head-none zero l h = absurd (h refl)
head-none (suc i) l h = tried-none l 0

pub head-put : (j : ℕ) {l m : List ℕ} {i : ℕ} → j ≡ 0 → Tried l 0 reasons_head i m → Tried l 0 (head_part j) i m
head-put zero z t = t
head-put (suc i) z t = absurd (omega arith)

-- the storage before a load: zeros, long enough
abbrev pub zeros : Store
zeros = store (replicate 262 0) (replicate 24769 0)

pub zeros-long : Long zeros
zeros-long = (omega (arith, length-replicate {A = ℕ} 262 0), omega (arith, length-replicate {A = ℕ} 24769 0))

-- what a load of settings and table that were read answers tells whether the list keeps the rules
module _ (D : ℕ) (ws : List Window) (o : Opened) (loads : load_answer o.config o.table ≡ Done) {r : Result Day Refusal}
    (e : r ≡ stored_load zeros o.config o.table D ws) where
  answer-is : stored_load_answer zeros o.config o.table D ws ≡ cond (day_fits D ws (opening_of o)) Done BadWindows
  answer-is = as_load zeros o.config o.table D ws zeros-long loads

  result-is : (t : Bool) → day_fits D ws (opening_of o) ≡ t → r ≡ answered (cond t Done BadWindows) (first_epoch D)
  result-is t h = e ∙ ap (λ (a : Answer). answered a (first_epoch D)) answer-is
      ∙ ap (λ (b : Bool). answered (cond b Done BadWindows) (first_epoch D)) h

  pub not-loaded : {x : Refusal} → r ≡ Err x → (day_fits D ws (opening_of o) ≡ false) × (x ≡ refusal.BadWindows)
  not-loaded {x} k = go (day_fits D ws (opening_of o)) refl
    where
      go : (t : Bool) → day_fits D ws (opening_of o) ≡ t → (day_fits D ws (opening_of o) ≡ false) × (x ≡ refusal.BadWindows)
      go true h = let q = result-is true h in absurd (let z : ◌≡◌ {A = ℕ} 0 1 = cc in omega arith)
      go false h = let q = result-is false h in (h, cc)

  -- an accepted one has the list keep the rules, and its storage is the site that the events begin with
  pub loaded : {d : Day} → r ≡ Ok d → (u : Store) → site_in u ≡ timed_loaded_site zeros o.config o.table D ws
      → (day_fits D ws (opening_of o) ≡ true) × (timed_in u d ≡ loaded_timed o.config o.table D ws)
  loaded {d} k u q = go (day_fits D ws (opening_of o)) refl
    where
      go : (t : Bool) → day_fits D ws (opening_of o) ≡ t → (day_fits D ws (opening_of o) ≡ true)
          × (timed_in u d ≡ loaded_timed o.config o.table D ws)
      go true h =
          let p = result-is true h in
          let g : d ≡ first_epoch D = cc in
          (h, as-begun zeros u o.config o.table D ws d (answer-is ∙ hit _ _ _ h) g q)
      go false h = let p = result-is false h in absurd (let z : ◌≡◌ {A = ℕ} 0 1 = cc in omega arith)

-- the loaded site keeps the rules of its list
pub begun-list : (D : ℕ) (ws : List Window) (o : Opened) (u : Store) (d : Day) → day_fits D ws (opening_of o) ≡ true
    → timed_in u d ≡ loaded_timed o.config o.table D ws → list_ok (site_in u).config.nodes d.length ws ≡ true
unfolding loaded_timed loaded_site
begun-list D ws o u d h q = ap (λ (t : Timed). list_ok t.site.config.nodes t.day.length ws) q ∙ h

-- a script that opens, with a list that is refused
module _ (v : View) (D : ℕ) (ws : List Window) (s : List ℕ) (o : Opened) (a : List ℕ) (bad : day_fits D ws (opening_of o) ≡ false) where
  pub bad-put : {out m : List ℕ} {r : ℕ} (x : Answer) → x ≡ BadWindows → Put out 0 (refusal_text v o.config.split 0 x) r m
      → Put out 0 (open_text v D ws (opening_of o) a (lines_of s o)) r m
  bad-put x e p = recast (ap (refusal_text v o.config.split 0) e ∙ sym (skip _ _ _ _ bad refl)) p

  pub bad-area : a ≡ left_area D ws (opening_of o) a (lines_of s o)
  bad-area = sym (skip _ _ _ _ bad refl)

-- a site and its day, with the area
abbrev state : Timed → List ℕ → TimedState
state t a = record { timed = t; area = a }

-- a script that is run, and the site that it begins with
module _ (v : View) (D : ℕ) (ws : List Window) (s : List ℕ) (o : Opened) (a : List ℕ) (b : Timed)
    (fine : day_fits D ws (opening_of o) ≡ true)
    (e : b ≡ loaded_timed o.config o.table D ws) where
  abbrev text : Timed → List ℕ
  text x = lines_text v ws (state x a) (5 + o.config.nodes) (lines_of s o)

  abbrev rest : List Member → List ℕ
  rest ms = rest_text v o.config.nodes o.config.slots ms

  abbrev last : Timed → List Member
  last x = (run_by ws (state x a) (events_in (lines_of s o))).timed.site.members

  open_is : open_text v D ws (opening_of o) a (lines_of s o) ≡ head_text v o.config.split ++ (text b ++ rest (last b))
  open_is = hit _ _ _ fine ∙ ap (λ (x : Timed). head_text v o.config.split ++ (text x ++ rest (last x))) (sym e)

  module _ {out m : List ℕ} {i : ℕ} (f : Fits v D ws s o a out) (t : Tried out 0 (head_text v o.config.split) i m) where
    lines_left : Left out 0 (open_text v D ws (opening_of o) a (lines_of s o)) m i (text b ++ rest (last b))
    lines_left =
        step (head_text v o.config.split) (text b ++ rest (last b))
        (leftover open_is (start out 0 (open_text v D ws (opening_of o) a (lines_of s o)) (omega (arith, f.room)))) t

    -- room for the event lines
    pub run_room : i + length (text b) ≤ length m
    run_room = room_for (text b) (rest (last b)) lines_left

    module _ {r : ℕ} {kept : Store} {k c : List ℕ} (q : Runs v ws (state b a) (5 + o.config.nodes) (lines_of s o) m i r kept k c) where
      -- the rest is left behind them
      rest-left : Left out 0 (open_text v D ws (opening_of o) a (lines_of s o)) k r (rest (site_in kept).members)
      rest-left = leftover (ap (λ (x : Site). rest x.members) (sym q.site)) (next (text b) (rest (last b)) lines_left q.put)

      pub rest-room : r + length (rest (site_in kept).members) ≤ length k
      rest-room = rest-left.room

      pub rest_put : {n : List ℕ} {j : ℕ} → Put k r (rest (site_in kept).members) j n
          → Put out 0 (open_text v D ws (opening_of o) a (lines_of s o)) j n
      rest_put p = finish (rest (site_in kept).members) rest-left p

      -- the area is that of the run
      pub area-is : c ≡ left_area D ws (opening_of o) a (lines_of s o)
      area-is = q.area ∙ ap (λ (x : Timed). (run_by ws (state x a) (events_in (lines_of s o))).area) e ∙ sym (hit _ _ _ fine)

-- what a whole output is: too short an area, too long a script, a refusal, and a script that opens
unfit-text : (v : View) (D : ℕ) (ws : List Window) (s a : List ℕ) → unfit s a ≡ true → text_of v D ws s a ≡ refusal_text v 0 0 NoRoom
unfolding output_of why_of
unfit-text Refusals D ws s a h = rw h
unfit-text (Reasons j) D ws s a h = rw h

-- the text of a script that is read, by what the lines before its events come to
abbrev read_text : View → ℕ → List Window → ℕ → List ℕ → Reading Opening → List ℕ
read_text Refusals D ws k a r = first_head k ++ body D ws a r
read_text (Reasons j) D ws k a r = why_body j D ws k a r

fit-text : (v : View) (D : ℕ) (ws : List Window) (s a : List ℕ) → unfit s a ≡ false → text_of v D ws s a
    ≡ read_text v D ws (config_read (split 10 s)).split a (opening (split 10 s))
unfolding output_of why_of
fit-text Refusals D ws s a h = rw h
fit-text (Reasons j) D ws s a h = rw h

refused-text : (v : View) (D : ℕ) (ws : List Window) (k : ℕ) (a : List ℕ) (n : ℕ) (x : Refusal) → read_text v D ws k a (refused n x)
    ≡ refusal_text v k n (Err x)
refused-text Refusals D ws k a n x = refl
refused-text (Reasons j) D ws k a n x = refl

opened-text : (v : View) (D : ℕ) (ws : List Window) (a : List ℕ) (o : Opening) (ls : List (List ℕ))
    → read_text v D ws o.config.split a (got o ls) ≡ open_text v D ws o a ls
opened-text Refusals D ws a o ls = go (day_fits D ws o)
  where
    go : (t : Bool) → first_head o.config.split ++ cond t (desk.ran_text D ws o a ls) (refusal_line 0 BadWindows)
        ≡ cond t (ran_text Refusals D ws o a ls) (refusal_text Refusals o.config.split 0 BadWindows)
    go true = refl
    go false = refl
opened-text (Reasons j) D ws a o ls = go (day_fits D ws o)
  where
    lines : List ℕ
    lines = lines_text (Reasons j) ws (desk.loaded_state D ws o a) (5 + o.config.nodes) ls

    go : (t : Bool) → cond t (head_part j ++ lines) (refusal_text (Reasons j) o.config.split 0 BadWindows)
        ≡ cond t (head_part j ++ (lines ++ [])) (refusal_text (Reasons j) o.config.split 0 BadWindows)
    go true = ap (λ (x : List ℕ). head_part j ++ x) (sym (append-nil lines))
    go false = refl

module _ (v : View) (D : ℕ) (ws : List Window) (s a : List ℕ) where
  unfit-is : unfit s a ≡ true → (text_of v D ws s a ≡ refusal_text v 0 0 NoRoom) × (final_area D ws s a ≡ a)
  unfolding final_area
  unfit-is h = (unfit-text v D ws s a h, rw h)

  fit_is : unfit s a ≡ false → final_area D ws s a ≡ body_area D ws a (opening (split 10 s))
  unfolding final_area
  fit_is h = rw h

  pub short-area : length a < area_size → (text_of v D ws s a ≡ refusal_text v 0 0 NoRoom) × (final_area D ws s a ≡ a)
  short-area h = unfit-is (ap (λ (t : Bool). t || ltb top_script (length s)) (lt-ltb (length a) area_size h))

  pub long-script : area_size ≤ length a → top_script < length s → (text_of v D ws s a ≡ refusal_text v 0 0 NoRoom) × (final_area D ws s a ≡ a)
  long-script h k = unfit-is (rw (le-ltb (length a) area_size h, lt-ltb top_script (length s) k))

  -- a whole output that is a refusal
  pub refusal_is : {out m : List ℕ} {r : ℕ} (k n : ℕ) (x : Answer) → text_of v D ws s a ≡ refusal_text v k n x
      → Put out 0 (refusal_text v k n x) r m
      → Put out 0 (text_of v D ws s a) r m × (r ≤ room_of v (length s))
  refusal_is k n x e p = (recast (sym e) p, omega (arith, p.to, refused-short v k n x, room-some v (length s)))

  module _ (h : area_size ≤ length a) (k : length s ≤ top_script) where
    fits-is : unfit s a ≡ false
    fits-is = rw (le-ltb (length a) area_size h, le-ltb top_script (length s) k)

    whole : {f : Config} (r : Reading Opening) → f ≡ config_read (split 10 s) → opening (split 10 s) ≡ r
        → text_of v D ws s a ≡ read_text v D ws f.split a r
    whole r read g =
        fit-text v D ws s a fits-is ∙ ap₂ (λ (f : Config) (y : Reading Opening). read_text v D ws f.split a y) (sym read) g

    pub refused-is : (e : RefusedHead) → read_back s (Err e) ≡ opening (split 10 s) → e.config ≡ config_read (split 10 s)
        → (text_of v D ws s a ≡ refusal_text v e.config.split e.line (Err e.refusal)) × (final_area D ws s a ≡ a)
    refused-is e g read = (
      whole _ read (sym g) ∙ refused-text v D ws e.config.split a e.line e.refusal,
      fit_is fits-is ∙ ap (body_area D ws a) (sym g),
    )

    module _ (o : Opened) (e : read_back s (Ok o) ≡ opening (split 10 s)) (read : o.config ≡ config_read (split 10 s)) (f : o.at ≤ length s) where
      opens-is : text_of v D ws s a ≡ open_text v D ws (opening_of o) a (lines_of s o)
      opens-is = whole _ read (sym e) ∙ opened-text v D ws a (opening_of o) (lines_of s o)

      fine : WellFormed (split 10 s) (opening_of o) (lines_of s o)
      fine = opening-fine (split 10 s) (opening_of o) (lines_of s o) (sym e)

      opens-short : length (open_text v D ws (opening_of o) a (lines_of s o)) ≤ room_of v (length s)
      opens-short = open-short D ws s a (opening_of o) (lines_of s o) fine k
          (omega (arith, split-sized 10 (drop o.at s), length-drop o.at s)) v

      -- a script that opens fits
      pub opens-fits : {out : List ℕ} → room_of v (length s) ≤ length out → Fits v D ws s o a out
      opens-fits r =
          record {
            nodes = fine.limits.nodes;
            slots = fine.limits.slots;
            loads = opening-loads (split 10 s) (opening_of o) (lines_of s o) (sym e);
            from = f;
            short = k;
            some = omega (arith, room-some v (length s));
            room = omega (arith, opens-short);
          }

      pub opens-put : {out m : List ℕ} {r : ℕ} → Put out 0 (open_text v D ws (opening_of o) a (lines_of s o)) r m
          → Put out 0 (text_of v D ws s a) r m × (r ≤ room_of v (length s))
      opens-put p = (recast (sym opens-is) p, omega (arith, p.to, opens-short))

      -- the area of the run is the last one
      pub opens-area : {c : List ℕ} → c ≡ left_area D ws (opening_of o) a (lines_of s o) → c ≡ final_area D ws s a
      opens-area m = m ∙ sym (fit_is fits-is ∙ ap (body_area D ws a) (sym e))

-- what the calls answer and leave: without room, and with it
module _ (v : View) (D : ℕ) (ws : List Window) (s a out : List ℕ) where
  pub no_room : length out < room_of v (length s)
      → (Err refusal.NoRoom ≡ run_result_of v D ws s a out) × (out ≡ out_after v D ws s a out)
      × (a ≡ area_after_run v D ws s a out)
  unfolding run_answer out_after area_after_run
  no_room h =
      let e : output_fits v s out ≡ false = lt-leb (room_of v (length s)) (length out) h in
      (rw e, rw e, rw e)

  pub with-room : {m b : List ℕ} {n : ℕ} → room_of v (length s) ≤ length out → Put out 0 (text_of v D ws s a) n m → b ≡ final_area D ws s a
      → (Ok n ≡ run_result_of v D ws s a out) × (m ≡ out_after v D ws s a out)
      × (b ≡ area_after_run v D ws s a out)
  unfolding run_answer out_after area_after_run
  with-room {m} {b} {n} h p f =
      let e : output_fits v s out ≡ true = le-leb (room_of v (length s)) (length out) h in
      let l : n ≡ length (text_of v D ws s a) = omega (arith, p.to) in
      (rw (e, l), rw e p.is, rw e f)

  -- an answer of the run, and the length that the call for C writes
  pub run-done : {r : Result ℕ Refusal} {n : ℕ} (m : ℕ) → r ≡ run_result_of v D ws s a out → r ≡ Ok n
      → (Done ≡ run_answer v s out) × (n ≡ length_after v D ws s a out m)
  unfolding run_answer length_after
  run-done {r} {n} m e h = go (output_fits v s out) e
    where
      go : (t : Bool) → r ≡ answered (cond t Done NoRoom) (length (text_of v D ws s a))
          → (Done ≡ cond t Done NoRoom) × (n ≡ cond t (length (text_of v D ws s a)) m)
      go true l = (refl, cc)
      go false l = absurd (let z : ◌≡◌ {A = ℕ} 0 1 = cc in omega arith)

  pub run-refused : {r : Result ℕ Refusal} {x : Refusal} (m : ℕ) → r ≡ run_result_of v D ws s a out → r ≡ Err x
      → (Err x ≡ run_answer v s out) × (m ≡ length_after v D ws s a out m)
  unfolding run_answer length_after
  run-refused {r} {x} m e h = go (output_fits v s out) e
    where
      go : (t : Bool) → r ≡ answered (cond t Done NoRoom) (length (text_of v D ws s a))
          → (Err x ≡ cond t Done NoRoom) × (m ≡ cond t (length (text_of v D ws s a)) m)
      go true l = absurd (let z : ◌≡◌ {A = ℕ} 0 1 = cc in omega arith)
      go false l = (cc, refl)

-- what is printed ends within the output
pub ends-within : {out m b : List ℕ} {n : ℕ} → n ≤ length out → Put out 0 b n m → n ≤ length m
ends-within {out} {m} {b} {n} h p =
    let e : length m ≡ length out = length-put {at = 0} (omega (arith, p.to)) p in
    omega (arith, h)
