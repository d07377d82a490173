-- Lists of C calls on the memory of a group: the statement of specs/register/Register.antt, proved.
-- Assumes nothing.
use mathlib.Core.Path.{◌≡◌, refl, sym, ap, ◌∙◌, subst}
use mathlib.Core.Bool.{Bool, true, false, cond, ◌&&◌, ◌||◌}
use mathlib.Core.List.{List, [], ◌∷◌, ◌++◌, append_assoc}
use Prim.Native.Nat.{ℕ, ◌≤◌}
use lib.Dec.{eqb, ltb}
use lib.ListN.{length}
use Rattle.words.proofs.Tests.{never, hit, or-neither}
use Rattle.lists.specs.Bytes.{written}
use Rattle.node.specs.Answers.{is_done}
use Rattle.node.specs.Answers.{Answer}
use Rattle.node.specs.Answers.{Done, NoRoom, OutOfRange, NoSuchNode}
use Rattle.site.specs.Answers.{area_size}
use Rattle.site.specs.Load.{loaded_site}
use Rattle.site.specs.Members.{member_at, outside}
use Rattle.site.specs.declared.Event.{Event}
use Rattle.node.specs.declared.Config.{Config}
use Rattle.site.specs.Model.{Site}
use Rattle.site.specs.declared.Table.{Table}
use Rattle.histories.specs.Past.{Past, no_past}
use Rattle.windows.specs.declared.Window.{Window}
use Rattle.machine.specs.timed.Timed.{Timed, given_table, timed_load_answer, loaded_timed}
use Rattle.machine.specs.timed.Calls.{Call, TimedState, run_calls}
use Rattle.machine.proofs.timed.Laws.{loaded-site}
use Rattle.agreement.specs.daily.Daily.{begin_by, final_by, events_of_all, trace_calls}
use Rattle.tally.specs.Counting.{first_tally}
use Rattle.tally.specs.declared.Tally.{Tally}
use Rattle.agreement.proofs.accounts.Slots.{Sums, sums-loaded}
use Rattle.recovery.specs.Calm.{live_in, live_set, Ready, Calm, whole, Risen}
use Rattle.calls.specs.lifted.Lifted.{Claim, Everywhere, Agreed, SendsAbove, Heirs, FirstHeirs, Informed}
use Rattle.calls.specs.lifted.Lifted.{Completes, Rises, Remains, Settles}
use Rattle.calls.specs.lifted.Lifted as claims
use Rattle.calls.proofs.lifted.Theorem.{lifted}
use Rattle.sites.specs.one.Calls.{table_from, node_bytes, shown_size}
use Rattle.sites.specs.one.Memory as lent
use Rattle.calls.specs.ledger.Lists.{CalledAll, left_by, SiteStep, steps_by, calls_in, past_by, Threaded, ClaimsOnce, Accounted}
use Rattle.calls.specs.ledger.Ledger as site
use Rattle.calls.proofs.ledger.Along.{Along, along-past, accounted}
use Rattle.calls.proofs.ledger.Theorem.{ledger, claims-once}
use Rattle.group.specs.Group.{Taken, Group, vacant, is_number, site_slot_of}
use Rattle.group.specs.Calls.{GroupCall, LoadSite, plain_answer}
use Rattle.group.specs.Steps.{after_group, run_group}
use Rattle.group.specs.Fit.{Fit}
use Rattle.group.specs.Alone.{loaded_group, loaded_story}
use Rattle.group.proofs.Stories.{Backed, Fine, after-fine}
use Rattle.group.proofs.Theorem.{vacant-fine, run-fine, begins, several}
use Rattle.sites.specs.many.Memory.{Memory, group_too_short}
use Rattle.sites.specs.many.Calls.{group_load_answer, row_count_fits, rows_answer, tally_loaded, group_node_answer, node_out}
use Rattle.calls.specs.register.Register.{Lending, stands_for, timed_at, site_at, LoadMade, Called, Calls, accepted}
use Rattle.calls.specs.register.Register.{step_for, steps_of, is_load}
use Rattle.calls.specs.register.Register.{loads_again}
use Rattle.calls.specs.register.Register.{Run, left_in, Loaded, site_of_run, steps_in, past_in, alone_in, run_state_in}
use Rattle.calls.specs.register.Register.{InGroup, further, own_made}
use Rattle.calls.specs.register.Register.{answers_of}
use Rattle.calls.specs.register.Register.{SameCalls, Alike, Register}
use Rattle.calls.proofs.register.Calls.{one, stands, final}
use Rattle.calls.proofs.register.Seats.{here, listed, shown}
use Rattle.calls.proofs.register.Numbers.{calls-of, one_site, lone_calls, mirror, Goes, goes}
use Rattle.node.proofs.Answers.{zero-is}

-- a load that is accepted
module _ (m : Memory) (a : ℕ) (f : Config) (rows : List ℕ) (D : ℕ) (ws : List Window) (h : is_done (rows_answer m a f rows D ws) ≡ true)
  where
    load-plain : is_done (cond (is_number a) (timed_load_answer f (table_from rows) D ws) NoSuchNode) ≡ true
    unfolding rows_answer group_load_answer
    load-plain = go (row_count_fits f rows) (is_number a) (group_too_short m) h
      where
        z : Answer
        z = timed_load_answer f (table_from rows) D ws

        go : (x y w : Bool)
            → is_done (cond x (cond y (cond w NoRoom z) NoSuchNode) (cond y (cond w NoRoom OutOfRange) NoSuchNode)) ≡ true
            → is_done (cond y z NoSuchNode) ≡ true
        go true true true q = never (sym q)
        go true true false q = q
        go true false w q = q
        go false true true q = never (sym q)
        go false true false q = never (sym q)
        go false false w q = q

-- Lists in two parts
module _ (a : ℕ) where
  called-front : (m : Lending) (xs ys : Calls) → CalledAll Called m (xs ++ ys) → CalledAll Called m xs
  unfolding CalledAll
  called-front m [] ys r = tt
  called-front m (x ∷ xs) ys r = (r.0, called-front x.left xs ys r.1)

  steps-append : (m : Lending) (xs ys : Calls) → steps_of a m (xs ++ ys) ≡ steps_of a m xs ++ steps_of a (left_by m xs) ys
  unfolding left_by steps_by
  steps-append m [] ys = refl
  steps-append m (x ∷ xs) ys =
      let ss = cond (eqb x.answer 0) (step_for a m x) [] in
      ap (λ (l : List SiteStep). ss ++ l) (steps-append x.left xs ys)
      ∙ sym (append_assoc ss (steps_of a x.left xs) (steps_of a (left_by x.left xs) ys))

  again-front : (xs ys : Calls) → loads_again a (xs ++ ys) ≡ false → loads_again a xs ≡ false
  unfolding loads_again
  again-front [] ys h = refl
  again-front (x ∷ xs) ys h =
      let p = or-neither (eqb x.answer 0 && is_load a x.call) (loads_again a (xs ++ ys)) h in
      λ i. p.0 i || again-front xs ys p.1 i

-- A number since its load, beside the site alone with an area of its own
module _ (r : Run) (L : Loaded r) (own : List ℕ) (long : area_size ≤ length own) where
  abbrev a : ℕ
  a = r.number

  abbrev f : Config
  f = r.config

  abbrev t : Table
  t = table_from r.rows

  abbrev D : ℕ
  D = r.day

  abbrev ws : List Window
  ws = r.windows

  abbrev cs : List Call
  cs = calls_in (steps_in r)

  abbrev w : TimedState
  w = begin_by f t D ws own

  abbrev area : List ℕ
  area = r.start.area

  abbrev before : List GroupCall
  before = accepted r.before

  load-done : is_done (rows_answer (left_by r.start r.before).memory a f r.rows D ws) ≡ true
  load-done = sym (ap (λ (n : ℕ). eqb n 0) L.load.answer ∙ zero-is (rows_answer (left_by r.start r.before).memory a f r.rows D ws))
      ∙ ap (λ (n : ℕ). eqb n 0) L.answer

  loaded-is : stands_for r.load.left ≡ loaded_group area before (LoadSite a f t D ws)
  unfolding run_group
  loaded-is =
      one (left_by r.start r.before) (LoadMade a f r.rows D ws r.tally) r.load.answer r.load.tally r.load.left
      L.load
      ∙ ap (λ (n : ℕ). run_group (stands_for (left_by r.start r.before)) (cond (eqb n 0) (LoadSite a f t D ws ∷ []) [])) L.answer
      ∙ ap (λ (g : Group). after_group g (LoadSite a f t D ws)) (final r.start r.before L.begun L.before)

  fine : Fine own (stands_for r.load.left)
  fine =
      subst (Fine own) (sym loaded-is)
      (after-fine own long (run_group (vacant area) before) (run-fine own long (vacant area) (vacant-fine own area L.room) before)
      (LoadSite a f t D ws))

  backed : Backed own (stands_for r.load.left) a (loaded_story f t D ws)
  unfolding plain_answer
  backed =
      subst (λ (g : Group). Backed own g a (loaded_story f t D ws)) (sym loaded-is)
      (begins own long area L.room before a f t D ws (load-plain (left_by r.start r.before).memory a f r.rows D ws load-done))

  pub went : Goes own long a f r.rows D ws r.load.left r.behind []
  went = goes own long a f r.rows D ws r.load.left r.behind [] fine backed L.behind L.last

  loads : timed_load_answer f t D ws ≡ Done
  loads = backed.loads

  site_slot : site_slot_of (stands_for (left_in r)) a ≡ Taken (alone_in r own).timed
  site_slot = went.backed.mirror.site_slot

  pub alone : timed_at a (left_in r) ≡ (alone_in r own).timed
  alone = sym (here (left_in r).memory (left_in r).area a (alone_in r own).timed site_slot).timed

  site_slot_taken : site_slot_of (stands_for (left_in r)) a ≡ Taken (timed_at a (left_in r))
  site_slot_taken = site_slot ∙ ap Taken (sym alone)

  -- as it was loaded
  begun : site_at a r.load.left ≡ (loaded_timed f t D ws).site
  unfolding run_calls
  begun = sym (ap (λ (x : Timed). x.site) (here r.load.left.memory r.load.left.area a _ backed.mirror.site_slot).timed)

  along : Along w (steps_in r)
  unfolding run_calls
  along = went.along

  past : past_in r ≡ claims.past_by f t D ws own cs
  past = along-past (no_past (site_at a r.load.left)) w (steps_in r) along ∙ ap (λ (s : Site). trace_calls (no_past s) w cs) begun

  in_group : (P : Claim) → Everywhere P → P f (run_state_in r own) (past_in r)
  in_group P A =
      subst (P f (run_state_in r own)) (sym past)
      (subst (λ (x : Timed). P f (record { site = x.site; area = (alone_in r own).area }) (claims.past_by f t D ws own cs)) (sym alone)
      (A.calls f t D ws loads own cs))

  summed : Threaded r.load.tally (steps_in r) → Accounted (site_at a r.load.left) (steps_in r)
  unfolding tally_loaded
  summed c =
      let e : site_at a r.load.left ≡ loaded_site f (given_table ws t) = begun ∙ loaded-site f t D ws loads in
      let u : r.load.tally ≡ first_tally = L.load.tally ∙ hit _ _ _ load-done in
      accounted (site_at a r.load.left) (subst (λ (s : Site). Sums (s ∷ []) first_tally) (sym e) (sums-loaded f (given_table ws t))) w
      (steps_in r) along
      (subst (λ (x : Tally). Threaded x (steps_in r)) u c)

  -- its answers and its accepted calls by what was called
  answers : answers_of a r.behind ≡ one_site w (own_made a r.behind)
  unfolding run_calls
  answers = went.answers

  calls : cs ≡ lone_calls w (own_made a r.behind)
  unfolding run_calls
  calls = went.calls

  -- what hydra_group_node tells, by the site
  told : (j : ℕ) (out : List ℕ)
      → group_node_answer (left_in r).memory a j out
      ≡ cond (ltb (length out) shown_size) NoRoom (cond (outside (timed_at a (left_in r)).site.config j) NoSuchNode Done)
  told = listed (left_in r).memory (left_in r).area a _ went.fine.ground
      (mirror own long a f r.rows D ws (left_in r) cs went.fine went.backed)

  bytes : (j : ℕ) (out : List ℕ)
      → node_out (left_in r).memory a j out
      ≡ cond (is_done (cond (ltb (length out) shown_size) NoRoom (cond (outside (timed_at a (left_in r)).site.config j) NoSuchNode Done)))
      (written out 0 (node_bytes (member_at (timed_at a (left_in r)).site j))) out
  bytes = shown (left_in r).memory (left_in r).area a _ went.fine.ground
      (mirror own long a f r.rows D ws (left_in r) cs went.fine went.backed)

-- two runs
apart : (r s : Run) → Loaded r → Loaded s → SameCalls r s → Alike r s
apart r s L K S =
    record {
      answers = answers r L o h ∙ (λ i. one_site (w i) (S.own i)) ∙ sym (answers s K o h);
      site = site;
      told = λ j out.
          told r L o h j out
          ∙ ap (λ (x : Timed). cond (ltb (length out) shown_size) NoRoom (cond (outside x.site.config j) NoSuchNode Done)) site
          ∙ sym (told s K o h j out);
      listed = λ j out.
          bytes r L o h j out
          ∙ ap (λ (x : Timed). cond (is_done (cond (ltb (length out) shown_size) NoRoom
          (cond (outside x.site.config j) NoSuchNode Done)))
          (written out 0 (node_bytes (member_at x.site j))) out) site
          ∙ sym (bytes s K o h j out);
    }
  where
    o : List ℕ
    o = r.start.area

    h : area_size ≤ length r.start.area
    h = L.room

    w : ◌≡◌ {A = TimedState} (begin_by r.config (table_from r.rows) r.day r.windows r.start.area)
        (begin_by s.config (table_from s.rows) s.day s.windows r.start.area)
    w = λ i. begin_by (S.config i) (table_from (S.rows i)) (S.day i) (S.windows i) r.start.area

    site : timed_at r.number (left_in r) ≡ timed_at s.number (left_in s)
    site =
        alone r L o h
        ∙ (λ i. (run_calls (w i) ((calls r L o h ∙ (λ j. lone_calls (w j) (S.own j)) ∙ sym (calls s K o h)) i)).timed)
        ∙ sym (alone s K o h)

-- a part of a run
front : (r : Run) (es : Calls) → Loaded (further r es) → Loaded r
front r es L =
    record {
      begun = L.begun;
      room = L.room;
      before = L.before;
      load = L.load;
      answer = L.answer;
      behind = called-front r.number r.load.left r.behind es L.behind;
      last = again-front r.number r.behind es L.last;
    }

-- the calls of an epoch
module _ (r : Run) (es : Calls) (L : Loaded (further r es)) (own : List ℕ) (long : area_size ≤ length own) (body : List Event) (v i j : ℕ)
  where
    abbrev K : Loaded r
    K = front r es L

    abbrev next : List Call
    next = calls_in (steps_of r.number (left_in r) es)

    abbrev now : List Call
    now = calls_in (steps_in r)

    abbrev Epoch : Timed → Past → Type 0
    Epoch x y =
        Ready y x.site v → Calm (live_set x.site) (record { site = x.site; area = (alone_in r own).area }) body
        → live_in x.site i ≡ true → live_in x.site j ≡ true
        → Risen x.site (final_by r.config (table_from r.rows) r.day r.windows own (now ++ next)) v i j

    epoch : events_of_all (alone_in r own) next ≡ whole body → Epoch (timed_at r.number (left_in r)) (past_in r)
    epoch e =
        subst (Epoch (timed_at r.number (left_in r))) (sym (past r K own long))
        (subst (λ (x : Timed). Epoch x (claims.past_by r.config (table_from r.rows) r.day r.windows own now))
        (sym (alone r K own long))
        (λ R C li lj. lifted.calm-calls r.config (table_from r.rows) r.day r.windows (loads r K own long) own now next body v e
        R
        C i j li lj))

    ends : site_of_run (further r es) ≡ final_by r.config (table_from r.rows) r.day r.windows own (now ++ next)
    ends =
        ap (λ (x : Timed). x.site) (alone (further r es) L own long)
        ∙ ap (λ (l : List Call). (run_calls (begin_by r.config (table_from r.rows) r.day r.windows own) l).timed.site)
        (ap calls_in (steps-append r.number r.load.left r.behind es) ∙ calls-of (steps_in r) (steps_of r.number (left_in r) es))

everywhere : (P : Claim) → Everywhere P → InGroup P
everywhere P A = record { holds = λ r L own long. in_group r L own long P A }

pub register : Register
register =
    record {
      stands = stands;
      final = final;
      fits = λ m ds h k r. subst Fit (sym (final m ds h r)) (several.fit m.area k (accepted ds));
      site_slot_taken = λ r L. site_slot_taken r L r.start.area L.room;
      alone = alone;
      beside = λ r L m ds room b q e.
          alone r L m.area room
          ∙ ap (λ (l : List Call). (run_calls (begin_by r.config (table_from r.rows) r.day r.windows m.area) l).timed) e
          ∙ ap (λ (x : TimedState). x.timed) (sym (ledger.final r.config r.rows r.day r.windows m ds b q));
      apart = apart;
      demand3 = everywhere Agreed lifted.demand3;
      sends-above = everywhere SendsAbove lifted.sends-above;
      heirs = everywhere Heirs lifted.heirs;
      first-heirs = everywhere FirstHeirs lifted.first-heirs;
      informed = everywhere Informed lifted.informed;
      completes = everywhere Completes lifted.completes;
      rises = everywhere Rises lifted.rises;
      remains = everywhere Remains lifted.remains;
      settles = everywhere Settles lifted.settles;
      calm = λ r es L own long body v e R C i j li lj.
          subst (λ (s : Site). Risen (site_of_run r) s v i j) (sym (ends r es L own long body v i j))
          (epoch r es L own long body v i j e R C li lj);
      claims = everywhere ClaimsOnce claims-once;
      accounts = λ r L c. summed r L r.start.area L.room c;
    }
