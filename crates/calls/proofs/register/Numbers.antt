-- A number's calls since its load, one after another: its site goes as the site alone does, and is answered as that is.
-- Assumes nothing.
use mathlib.Core.Path.{◌≡◌, refl, sym, ap, ◌∙◌, subst}
use mathlib.Core.Bool.{Bool, true, false, cond, ◌&&◌}
use mathlib.Core.Logic.{◌≢◌}
use mathlib.Core.List.{List, [], ◌∷◌, ◌++◌, append-nil, append_assoc}
use Prim.Native.Nat.{ℕ, ◌≤◌}
use borrow.Author.Tests.{eq-eqb, ne_eqb, eqb-true}
use lib.Dec.{eqb}
use lib.ListN.{length}
use Rattle.words.proofs.Tests.{never, clash, hit, skip, or-neither, same_or_not}
use Rattle.node.specs.Answers.{is_done, number}
use Rattle.node.specs.Answers.{Answer}
use Rattle.node.specs.Answers.{Done, Crowded}
use Rattle.node.proofs.Answers.{done-is, zero-is}
use Rattle.site.specs.Answers.{area_size}
use Rattle.site.specs.Events.{is_end}
use Rattle.site.specs.declared.Event.{Event}
use Rattle.node.specs.declared.Config.{Config}
use Rattle.windows.specs.declared.Window.{Window}
use Rattle.machine.specs.timed.Timed.{Timed, timed_answer}
use Rattle.machine.specs.timed.Calls.{Call, TimedState, after_call, run_calls}
use Rattle.agreement.specs.daily.Daily.{begin_by}
use Rattle.tally.specs.Ends.{tally_at}
use Rattle.tally.specs.declared.Tally.{Tally}
use Rattle.calls.proofs.lifted.Theorem.{calls-append}
use Rattle.machine.specs.combined.Kept.{first_refusal}
use Rattle.script.specs.events.Events.{event_at}
use Rattle.std.specs.Prelude.{Option}
use Rattle.std.specs.Prelude.{None, Some}
use Rattle.sites.specs.one.Calls.{table_from}
use Rattle.calls.specs.ledger.Lists.{Did, CalledAll, left_by, SiteStep, step_of, steps_by, calls_in}
use Rattle.calls.proofs.ledger.Along.{Along, along-append}
use Rattle.group.specs.Group.{Group}
use Rattle.group.specs.Calls.{GroupCall, LoadSite, SiteCall, is_crowded}
use Rattle.group.specs.Calls as group
use Rattle.group.specs.Steps.{after_group, run_group}
use Rattle.group.specs.Alone.{Story, story_after}
use Rattle.group.proofs.Ground.{Mirror}
use Rattle.group.proofs.Stories.{Backed, Fine, aside, tells, after-fine}
use Rattle.sites.specs.many.Memory.{Lent}
use Rattle.sites.specs.many.Calls.{event_call, rows_answer, group_line_answer, group_event_answer, group_tally_after, tally_after_line}
use Rattle.calls.specs.register.Register.{Lending, stands_for, timed_at, site_at, GroupMade, LoadMade, EventMade}
use Rattle.calls.specs.register.Register.{made_number, CallOf, Called}
use Rattle.calls.specs.register.Register.{Calls}
use Rattle.calls.specs.register.Register.{line_call, step_made, step_for, steps_of, is_load, loads_again, OwnCall, own_made, answers_of}
use Rattle.calls.proofs.register.Calls.{one}
use Rattle.calls.proofs.register.Seats.{here, plain_event, plain_line, plain_rows, short, line_same, event-same, rows_same, event-done}
use Rattle.calls.proofs.register.Seats.{event-tally}

-- The calls of a number, alone: the number of each answer, and the calls of the site that are accepted

abbrev plain_made : TimedState → GroupMade → Answer
plain_made w (LoadMade b f rows D ws t) = plain_rows f rows D ws
plain_made w (EventMade b event node with v) = plain_line w v (event_at event node with)

abbrev pub lone_number : TimedState → OwnCall → ℕ
lone_number w o = cond o.crowded (number Crowded) (number (plain_made w o.call))

abbrev parsed_call : List Window → (Option Event) → List Call
parsed_call ws None = []
parsed_call ws (Some e) = record { event = e; windows = ws } ∷ []

abbrev made_call : GroupMade → List Call
made_call (LoadMade b f rows D ws t) = []
made_call (EventMade b event node with v) = parsed_call v.windows (event_at event node with)

abbrev calls_by : ℕ → GroupMade → List Call
calls_by n c = cond (eqb n 0) (made_call c) []

abbrev lone_next : TimedState → OwnCall → TimedState
lone_next w o = run_calls w (calls_by (lone_number w o) o.call)

unfoldable pub one_site : TimedState → List OwnCall → List ℕ
one_site w [] = []
one_site w (o ∷ os) = lone_number w o ∷ one_site (lone_next w o) os

unfoldable pub lone_calls : TimedState → List OwnCall → List Call
lone_calls w [] = []
lone_calls w (o ∷ os) = calls_by (lone_number w o) o.call ++ lone_calls (lone_next w o) os

pub calls-of : (xs ys : List SiteStep) → calls_in (xs ++ ys) ≡ calls_in xs ++ calls_in ys
calls-of [] ys = refl
calls-of (x ∷ xs) ys = ap (λ (l : List Call). x.call ∷ l) (calls-of xs ys)

-- 17, or what the site alone answers
told : (n : ℕ) (z : Answer) → n ≡ number z → n ≡ cond (eqb n (number Crowded)) (number Crowded) (number z)
told n z h = go (eqb n (number Crowded)) refl
  where
    go : (b : Bool) → eqb n (number Crowded) ≡ b → n ≡ cond b (number Crowded) (number z)
    go true q = eqb-true n (number Crowded) q
    go false q = h

told-short : (n : ℕ) (z : Answer) (c : Bool) → n ≡ number (first_refusal z (cond c Crowded Done))
    → n ≡ cond (eqb n (number Crowded)) (number Crowded) (number z)
told-short n z c h = go (eqb n (number Crowded)) refl (is_done z) refl c refl
  where
    go : (b : Bool) → eqb n (number Crowded) ≡ b → (x : Bool) → is_done z ≡ x → (y : Bool) → c ≡ y → n ≡ cond b (number Crowded) (number z)
    go true q x p y r = eqb-true n (number Crowded) q
    go false q true p true r =
        let e : n ≡ number Crowded = h ∙ ap number (hit (is_done z) (cond c Crowded Done) z p ∙ hit c Crowded Done r) in
        clash (eqb n (number Crowded)) (eq-eqb n (number Crowded) e) q
    go false q true p false r = h ∙ ap number (hit (is_done z) (cond c Crowded Done) z p ∙ skip c Crowded Done Done r refl
        ∙ sym (done-is z p))
    go false q false p y r = h ∙ ap number (skip (is_done z) (cond c Crowded Done) z z p refl)

-- what an accepted answer says
both-done : (z : Answer) (c : Bool) → is_done (first_refusal z (cond c Crowded Done)) ≡ true → (is_done z ≡ true) × (c ≡ false)
both-done z c h = go (is_done z) refl c refl
  where
    go : (x : Bool) → is_done z ≡ x → (y : Bool) → c ≡ y → (is_done z ≡ true) × (c ≡ false)
    go true p true r = never (sym (sym (ap is_done (hit (is_done z) (cond c Crowded Done) z p ∙ hit c Crowded Done r)) ∙ h))
    go true p false r = (p, r)
    go false p y r = never (sym (sym (ap is_done (skip (is_done z) (cond c Crowded Done) z z p refl) ∙ p) ∙ h))

module _ (own : List ℕ) (long : area_size ≤ length own) (a : ℕ) (f : Config) (rows : List ℕ) (D : ℕ) (ws : List Window) where
  abbrev st : List Call → Story
  st cs = record { config = f; table = table_from rows; day = D; windows = ws; calls = cs }

  abbrev at : List Call → TimedState
  at cs = run_calls (begin_by f (table_from rows) D ws own) cs

  -- the group and the number's site behind a call that makes the steps xs
  record Moved (h : Group) (cs : List Call) (xs : List SiteStep) : Type 0 where
    fine : Fine own h
    backed : Backed own h a (st (cs ++ calls_in xs))
    along : Along (at cs) xs

  still : (g h : Group) (cs : List Call) → Fine own g → Backed own g a (st cs) → h ≡ g → Moved h cs []
  unfolding Along
  still g h cs F B e =
      record {
        fine = subst (Fine own) (sym e) F;
        backed = subst (λ (x : List Call). Backed own h a (st x)) (sym (append-nil cs))
            (subst (λ (x : Group). Backed own x a (st cs)) (sym e) B);
        along = tt;
      }

  other : (g h : Group) (cs : List Call) (c : GroupCall) → Fine own g → Backed own g a (st cs) → a ≢ group.call_number c → h ≡ after_group g c
      → Moved h cs []
  other g h cs c F B z e = still (after_group g c) h cs (after-fine own long g F c) (aside own long g F c a (st cs) z B) e

  -- the site in memory, with the area of the site alone
  module _ (m : Lending) (cs : List Call) (F : Fine own (stands_for m)) (B : Backed own (stands_for m) a (st cs)) where
    abbrev x : List ℕ
    x = (at cs).area

    abbrev w : TimedState
    w = record { timed = timed_at a m; area = x }

    state-is : w ≡ at cs
    state-is = λ i. record { timed = sym (here m.memory m.area a (at cs).timed B.mirror.site_slot).timed i; area = x }

    pub mirror : Mirror (stands_for m) a w
    mirror = subst (Mirror (stands_for m) a) (sym state-is) B.mirror

    -- an accepted event of the number
    module _ (v : Lent) (e : Event) (h : is_done (group_event_answer m.memory m.area a v e) ≡ true) where
      abbrev call : Call
      call = record { event = e; windows = v.windows }

      done : (is_done (plain_event w v e) ≡ true) × (is_crowded (stands_for m) (event_call a v.windows e) ≡ false)
      done = both-done (plain_event w v e) _ (sym (ap is_done (event-same m.memory m.area a x F.ground mirror v e)) ∙ h)

      next : Backed own (after_group (stands_for m) (SiteCall a call)) a (st (cs ++ (call ∷ [])))
      next = subst (λ (b : Bool). Backed own (after_group (stands_for m) (SiteCall a call)) a
          (story_after (st cs) b (SiteCall a call))) done.1
          (tells own long (stands_for m) F (SiteCall a call) (st cs) B)

      more : at (cs ++ (call ∷ [])) ≡ after_call (at cs) call
      unfolding run_calls
      more = calls-append (begin_by f (table_from rows) D ws own) cs (call ∷ [])

      event : (u : Tally) (l : Lending) → stands_for l ≡ after_group (stands_for m) (SiteCall a call)
          → u ≡ group_tally_after m.memory m.area a v e
          → Moved (stands_for l) cs (step_of (Some e) v.windows (site_at a m) (site_at a l) v.tally u)
      unfolding Along
      event u l q k =
          let B' : Backed own (stands_for l) a (st (cs ++ (call ∷ []))) = subst (λ (y : Group). Backed own y a (st (cs ++ (call ∷ []))))
          (sym q) next in
          let r : (after_call (at cs) call).timed ≡ timed_at a l = ap (λ (y : TimedState). y.timed) (sym more)
          ∙ (here l.memory l.area a _ B'.mirror.site_slot).timed in
          record {
            fine = subst (Fine own) (sym q) (after-fine own long (stands_for m) F (SiteCall a call));
            backed = B';
            along = (
              record {
                before = ap (λ (y : TimedState). y.timed.site) state-is;
                behind = ap (λ (y : Timed). y.site) (sym r);
                done = subst (λ (y : TimedState). is_done (timed_answer y.timed y.area v.windows e) ≡ true) state-is
                    (event-done m.memory m.area a x F.ground mirror v e done.0);
                tally = k ∙ event-tally m.memory m.area a x F.ground mirror v e done.0 h
                    ∙ ap (λ (y : TimedState). cond (is_end e) (tally_at (after_call y call).timed.site v.tally) v.tally) state-is
                    ∙ ap (λ (y : Timed). cond (is_end e) (tally_at y.site v.tally) v.tally) r;
              },
              tt,
            );
          }

    -- an event of any number
    line : (b : ℕ) (v : Lent) (p : (Option Event)) (n : ℕ) (u : Tally) (l : Lending) → n ≡ number (group_line_answer m.memory m.area b v p)
        → stands_for l ≡ run_group (stands_for m) (cond (eqb n 0) (line_call b v.windows p) [])
        → u ≡ tally_after_line m.memory m.area b v p
        → Moved (stands_for l) cs (cond (eqb n 0) (cond (eqb b a) (step_of p v.windows (site_at a m) (site_at a l) v.tally u) []) [])
    unfolding run_group
    line b v p n u l h q k = go (eqb n 0) refl p h q k
      where
        steps : (Option Event) → List SiteStep
        steps p = cond (eqb b a) (step_of p v.windows (site_at a m) (site_at a l) v.tally u) []

        go : (z : Bool) → eqb n 0 ≡ z → (p : (Option Event)) → n ≡ number (group_line_answer m.memory m.area b v p)
            → stands_for l ≡ run_group (stands_for m) (cond (eqb n 0) (line_call b v.windows p) [])
            → u ≡ tally_after_line m.memory m.area b v p
            → Moved (stands_for l) cs (cond z (cond (eqb b a) (step_of p v.windows (site_at a m) (site_at a l) v.tally u) []) [])
        go false z p h q k = still (stands_for m) (stands_for l) cs F B
            (q ∙ ap (λ (y : Bool). run_group (stands_for m) (cond y (line_call b v.windows p) [])) z)
        go true z None h q k = none (eqb b a)
          where
            none : (y : Bool) → Moved (stands_for l) cs (cond y [] [])
            none true = still (stands_for m) (stands_for l) cs F B (q ∙ ap (λ (y : Bool). run_group (stands_for m) (cond y [] [])) z)
            none false = still (stands_for m) (stands_for l) cs F B (q ∙ ap (λ (y : Bool). run_group (stands_for m) (cond y [] [])) z)
        go true z (Some e) h q k =
            same_or_not b a
            (λ y. subst (Moved (stands_for l) cs) (sym (hit (eqb b a) (step_of (Some e) v.windows (site_at a m) (site_at a l) v.tally u)
            [] (eq-eqb b a y)))
            (subst Own-event (sym y) (λ h q k. event v e (sym (ap (λ (j : ℕ). eqb j 0) h ∙ zero-is _) ∙ z) u l q k) h after k))
            (λ y. subst (Moved (stands_for l) cs) (sym (skip (eqb b a) (step_of (Some e) v.windows (site_at a m) (site_at a l) v.tally u)
            [] [] (ne_eqb b a y) refl))
            (other (stands_for m) (stands_for l) cs (event_call b v.windows e) F B (λ i. y (sym i)) after))
          where
            after : stands_for l ≡ after_group (stands_for m) (event_call b v.windows e)
            after = q ∙ ap (λ (y : Bool). run_group (stands_for m) (cond y (event_call b v.windows e ∷ []) [])) z

            Own-event : ℕ → Type 0
            Own-event j =
                n ≡ number (group_event_answer m.memory m.area j v e) → stands_for l
                ≡ after_group (stands_for m) (event_call j v.windows e)
                → u ≡ group_tally_after m.memory m.area j v e
                → Moved (stands_for l) cs (step_of (Some e) v.windows (site_at a m) (site_at a l) v.tally u)

    -- any call
    any : (c : GroupMade) (n : ℕ) (u : Tally) (l : Lending) → CallOf m c n u l → (eqb n 0 && is_load a c) ≡ false
        → Moved (stands_for l) cs (cond (eqb n 0) (step_made a m c u l) [])
    unfolding run_group
    any (LoadMade b f' rows' D' ws' t) n u l r h = go (eqb n 0) refl
      where
        c : GroupCall
        c = LoadSite b f' (table_from rows') D' ws'

        q : stands_for l ≡ run_group (stands_for m) (cond (eqb n 0) (LoadSite b f' (table_from rows') D' ws' ∷ []) [])
        q = one m (LoadMade b f' rows' D' ws' t) n u l r

        go : (z : Bool) → eqb n 0 ≡ z → Moved (stands_for l) cs (cond z [] [])
        go false z = still (stands_for m) (stands_for l) cs F B
            (q ∙ ap (λ (y : Bool). run_group (stands_for m) (cond y (LoadSite b f' (table_from rows') D' ws' ∷ []) [])) z)
        go true z =
            other (stands_for m) (stands_for l) cs (LoadSite b f' (table_from rows') D' ws') F B
            (λ y. clash (eqb b a) (eq-eqb b a (sym y)) (ap (λ (k : Bool). k && eqb b a) (sym z) ∙ h))
            (q ∙ ap (λ (y : Bool). run_group (stands_for m) (cond y (LoadSite b f' (table_from rows') D' ws' ∷ []) [])) z)
    any (EventMade b event node with v) n u l r h =
        line b v (event_at event node with) n u l r.answer (one m (EventMade b event node with v) n u l r) r.tally

    -- its answer, where it is of the number
    own-answer : (c : GroupMade) (n : ℕ) (u : Tally) (l : Lending) → CallOf m c n u l → made_number c ≡ a
        → n ≡ lone_number (at cs) (record { call = c; crowded = eqb n (number Crowded) })
    own-answer (LoadMade b f' rows' D' ws' t) n u l r e =
        told n (plain_rows f' rows' D' ws')
        (r.answer ∙ ap number (ap (λ (j : ℕ). rows_answer m.memory j f' rows' D' ws') e
        ∙ rows_same m.memory m.area a x F.ground mirror f' rows' D' ws'))
    own-answer (EventMade b event node with v) n u l r e =
        told-short n (plain_line w v p) (short (stands_for m) a v p)
        (r.answer ∙ ap number (ap (λ (j : ℕ). group_line_answer m.memory m.area j v p) e
        ∙ line_same m.memory m.area a x F.ground mirror v p))
        ∙ ap (λ (y : TimedState). cond (eqb n (number Crowded)) (number Crowded) (number (plain_line y v p))) state-is
      where
        p : (Option Event)
        p = event_at event node with

  -- the calls of the steps
  own-calls : (m : Lending) (c : GroupMade) (n : ℕ) (u : Tally) (l : Lending) → made_number c ≡ a
      → calls_in (cond (eqb n 0) (step_made a m c u l) []) ≡ calls_by n c
  own-calls m (LoadMade b f' rows' D' ws' t) n u l e = go (eqb n 0)
    where
      go : (z : Bool) → calls_in (cond z [] []) ≡ cond z [] []
      go true = refl
      go false = refl
  own-calls m (EventMade b event node with v) n u l e =
      ap (λ (z : Bool). calls_in (cond (eqb n 0) (cond z (step_of p v.windows (site_at a m) (site_at a l) v.tally u) []) []))
      (eq-eqb b a e) ∙ go (eqb n 0) p
    where
      p : (Option Event)
      p = event_at event node with

      go : (z : Bool) (p : (Option Event)) → calls_in (cond z (step_of p v.windows (site_at a m) (site_at a l) v.tally u) []) ≡ cond z
          (parsed_call v.windows p) []
      go true None = refl
      go true (Some e) = refl
      go false None = refl
      go false (Some e) = refl

  other-steps : (m : Lending) (c : GroupMade) (n : ℕ) (u : Tally) (l : Lending) → made_number c ≢ a
      → cond (eqb n 0) (step_made a m c u l) [] ≡ []
  other-steps m (LoadMade b f' rows' D' ws' t) n u l e = go (eqb n 0)
    where
      go : (z : Bool) → ◌≡◌ {A = List SiteStep} (cond z [] []) []
      go true = refl
      go false = refl
  other-steps m (EventMade b event node with v) n u l e =
      ap (λ (z : Bool). cond (eqb n 0) (cond z (step_of (event_at event node with) v.windows (site_at a m) (site_at a l) v.tally u) [])
      []) (ne_eqb b a e) ∙ go (eqb n 0)
    where
      go : (z : Bool) → ◌≡◌ {A = List SiteStep} (cond z [] []) []
      go true = refl
      go false = refl

  -- a list of calls
  pub record Goes (m : Lending) (es : Calls) (cs : List Call) : Type 0 where
    pub fine : Fine own (stands_for (left_by m es))
    pub backed : Backed own (stands_for (left_by m es)) a (st (cs ++ calls_in (steps_of a m es)))
    pub along : Along (at cs) (steps_of a m es)
    pub answers : answers_of a es ≡ one_site (at cs) (own_made a es)
    pub calls : calls_in (steps_of a m es) ≡ lone_calls (at cs) (own_made a es)

  -- one call, and the others behind it
  module _ (m : Lending) (d : Did GroupMade Lending) (es : Calls) (cs : List Call) (F : Fine own (stands_for m))
      (B : Backed own (stands_for m) a (st cs))
      (r : Called m d) (q : (eqb d.answer 0 && is_load a d.call) ≡ false) where
    abbrev o : OwnCall
    o = record { call = d.call; crowded = eqb d.answer (number Crowded) }

    abbrev xs : List SiteStep
    xs = cond (eqb d.answer 0) (step_for a m d) []

    abbrev ss : List SiteStep
    ss = steps_of a d.left es

    moved : Moved (stands_for d.left) cs xs
    moved = any m cs F B d.call d.answer d.tally d.left r q

    next-is : at (cs ++ calls_in xs) ≡ run_calls (at cs) (calls_in xs)
    next-is = calls-append (begin_by f (table_from rows) D ws own) cs (calls_in xs)

    module _ (e : made_number d.call ≡ a) where
      mine : eqb (made_number d.call) a ≡ true
      mine = eq-eqb (made_number d.call) a e

      its-answer : d.answer ≡ lone_number (at cs) o
      its-answer = own-answer m cs F B d.call d.answer d.tally d.left r e

      its-calls : calls_in xs ≡ calls_by (lone_number (at cs) o) d.call
      its-calls = own-calls m d.call d.answer d.tally d.left e ∙ ap (λ (n : ℕ). calls_by n d.call) its-answer

      next-own : at (cs ++ calls_in xs) ≡ lone_next (at cs) o
      next-own = next-is ∙ ap (run_calls (at cs)) its-calls

    module _ (e : made_number d.call ≢ a) where
      not-mine : eqb (made_number d.call) a ≡ false
      not-mine = ne_eqb (made_number d.call) a e

      no_steps : xs ≡ []
      no_steps = other-steps m d.call d.answer d.tally d.left e

      next-other : at (cs ++ calls_in xs) ≡ at cs
      next-other = ap (λ (l : List SiteStep). at (cs ++ calls_in l)) no_steps ∙ ap at (append-nil cs)

    go_on : Goes d.left es (cs ++ calls_in xs) → Goes m (d ∷ es) cs
    unfolding left_by steps_by answers_of own_made one_site lone_calls
    go_on N =
        record {
          fine = N.fine;
          backed = subst (λ (x : List Call). Backed own (stands_for (left_by d.left es)) a (st x))
              (append_assoc cs (calls_in xs) (calls_in ss) ∙ ap (λ (y : List Call). cs ++ y) (sym (calls-of xs ss))) N.backed;
          along = along-append (at cs) xs ss moved.along (subst (λ (y : TimedState). Along y ss) next-is N.along);
          answers = same_or_not (made_number d.call) a
              (λ e.
              ap (λ (l : List ℕ). l ++ answers_of a es) (hit _ (d.answer ∷ []) [] (mine e))
              ∙ (λ i. its-answer e i ∷ (N.answers ∙ ap (λ (y : TimedState). one_site y (own_made a es)) (next-own e)) i)
              ∙ ap (λ (l : List OwnCall). one_site (at cs) (l ++ own_made a es)) (sym (hit _ (o ∷ []) [] (mine e))))
              (λ e.
              ap (λ (l : List ℕ). l ++ answers_of a es) (skip _ (d.answer ∷ []) [] [] (not-mine e) refl)
              ∙ N.answers ∙ ap (λ (y : TimedState). one_site y (own_made a es)) (next-other e)
              ∙ ap (λ (l : List OwnCall). one_site (at cs) (l ++ own_made a es)) (sym (skip _ (o ∷ []) [] [] (not-mine e) refl)));
          calls = calls-of xs ss ∙ same_or_not (made_number d.call) a
              (λ e.
              (λ i. its-calls e i ++ (N.calls ∙ ap (λ (y : TimedState). lone_calls y (own_made a es)) (next-own e)) i)
              ∙ ap (λ (l : List OwnCall). lone_calls (at cs) (l ++ own_made a es)) (sym (hit _ (o ∷ []) [] (mine e))))
              (λ e.
              ap (λ (l : List SiteStep). calls_in l ++ calls_in ss) (no_steps e)
              ∙ N.calls ∙ ap (λ (y : TimedState). lone_calls y (own_made a es)) (next-other e)
              ∙ ap (λ (l : List OwnCall). lone_calls (at cs) (l ++ own_made a es)) (sym (skip _ (o ∷ []) [] [] (not-mine e) refl)));
        }

  pub goes : (m : Lending) (es : Calls) (cs : List Call) → Fine own (stands_for m) → Backed own (stands_for m) a (st cs)
      → CalledAll Called m es
      → loads_again a es ≡ false → Goes m es cs
  unfolding CalledAll left_by steps_by loads_again Along answers_of own_made one_site lone_calls
  goes m [] cs F B r q =
      record {
        fine = F;
        backed = subst (λ (x : List Call). Backed own (stands_for m) a (st x)) (sym (append-nil cs)) B;
        along = tt;
        answers = refl;
        calls = refl;
      }
  goes m (d ∷ es) cs F B r q =
      let p = or-neither (eqb d.answer 0 && is_load a d.call) (loads_again a es) q in
      let M = moved m d es cs F B r.0 p.0 in
      go_on m d es cs F B r.0 p.0
      (goes d.left es (cs ++ calls_in (cond (eqb d.answer 0) (step_for a m d) [])) M.fine M.backed r.1 p.1)
