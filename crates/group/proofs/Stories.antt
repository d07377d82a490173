-- Each call, accepted or not, keeps what holds of a group, and goes on with the story of its own site alone.
-- Assumes nothing.
use mathlib.Core.Path.{◌≡◌, refl, sym, ap, ◌∙◌, subst}
use mathlib.Core.Bool.{Bool, true, false, not, cond, ◌&&◌}
use mathlib.Core.Logic.{◌≢◌, ◌⊎◌, inl, inr, ⊎_elim}
use mathlib.Core.List.{List, [], ◌∷◌, ◌++◌}
use Prim.Native.Nat.{ℕ, ◌≤◌}
use native.Mathlib.Omega.{arith}
use lib.ListN.{length}
use Rattle.words.proofs.Tests.{clash, met?, hit, skip, and_left, same_or_not}
use Rattle.node.specs.Answers.{is_done, number}
use Rattle.node.specs.Answers.{Done}
use Rattle.site.specs.Counts.{packets}
use Rattle.site.specs.Answers.{area_size}
use Rattle.site.specs.Load.{loaded_site}
use Rattle.node.specs.declared.Config.{Config}
use Rattle.site.specs.declared.Table.{Table}
use Rattle.site.proofs.Counts.{packets-none}
use Rattle.windows.specs.declared.Window.{Window}
use Rattle.machine.specs.timed.Timed.{timed_load_answer, loaded_timed, timed_answer}
use Rattle.machine.specs.timed.Calls.{Call, TimedState, after_call, run_calls}
use Rattle.machine.proofs.timed.Laws.{refused-after}
use Rattle.agreement.specs.daily.Daily.{begin_by}
use Rattle.group.specs.Places.{entry}
use Rattle.group.specs.Group.{SiteSlot, Empty, Taken, Group, is_number, site_slot_of}
use Rattle.group.specs.Calls.{GroupCall, LoadSite, SiteCall, call_number, plain_answer, is_crowded, group_accepts}
use Rattle.group.specs.Steps.{next_by, next_group, after_group}
use Rattle.group.specs.Alone.{Story, loaded_story, story_after, run_state_of}
use Rattle.group.proofs.Places.{freed-from}
use Rattle.group.proofs.Lawful.{Lawful, lawful}
use Rattle.group.proofs.Ground.{Ground, Mirror, number_is, site-is, site-slot-same, site-slot-other}
use Rattle.group.proofs.Changes.{frees, frees-ground, frees-other}
use Rattle.group.proofs.Sites.{area-refused}
use Rattle.group.proofs.Admits.{load-admits, empty-answer, call-number}
use Rattle.group.proofs.Moves.{Stepped, same_answer, moves}

-- a call more at the end of a list
run_more : (w : TimedState) (cs : List Call) (c : Call) → run_calls w (cs ++ (c ∷ [])) ≡ after_call (run_calls w cs) c
unfolding run_calls
run_more w [] c = refl
run_more w (d ∷ cs) c = run_more (after_call w d) cs c

-- a story of a load that was accepted, and the site of number a mirrors where it leads
pub record Backed (own : List ℕ) (g : Group) (a : ℕ) (st : Story) : Type 0 where
  pub loads : timed_load_answer st.config st.table st.day st.windows ≡ Done
  pub mirror : Mirror g a (run_state_of own st)

pub record HasStory (own : List ℕ) (g : Group) (a : ℕ) : Type 0 where
  pub told : Story
  pub backed : Backed own g a told

-- what holds after every call
pub record Fine (own : List ℕ) (g : Group) : Type 0 where
  pub ground : Ground g
  pub each : (a : ℕ) → is_number a ≡ true → (site_slot_of g a ≡ Empty) ⊎ HasStory own g a

refused : (g : Group) (c : GroupCall) → group_accepts g c ≡ false → g ≡ after_group g c
unfolding after_group
refused g c h = sym (skip _ _ _ _ h refl)

-- a call of a site
call-stepped : (g : Group) (G : Ground g) (b : ℕ) (w : TimedState) (M : Mirror g b w) (L : Lawful w.timed.site) (c : Call)
    → group_accepts g (SiteCall b c) ≡ true → Stepped g (after_group g (SiteCall b c)) b (after_call w c)
unfolding after_group next_group
call-stepped g G b w M L c h = subst (λ (x : Group). Stepped g x b (after_call w c))
    (sym (hit _ _ g h ∙ ap (λ (s : SiteSlot). next_by g b s c) M.site_slot)) (moves g G b w M c.windows L c.event h)

-- a load
module _ (own : List ℕ) (long : area_size ≤ length own) (g : Group) (G : Ground g) (a : ℕ) (f : Config) (t : Table) (D : ℕ)
    (ws : List Window) where
  none-loaded : packets (loaded_timed f t D ws).site.sent ≡ 0
  unfolding loaded_timed loaded_site
  none-loaded = packets-none

  mirrors-loaded : (n : is_number a ≡ true) → Mirror (frees g G a n (Taken (loaded_timed f t D ws))) a (begin_by f t D ws own)
  mirrors-loaded n =
      record {
        number = n;
        site_slot = site-slot-same g.site_slots a (Taken (loaded_timed f t D ws)) n G.site_slots;
        room = long;
        low = λ p l. absurd (omega (arith, none-loaded));
        parts = λ p l. absurd (omega (arith, none-loaded));
        fresh = λ i p l k e. (freed-from a g.places i (entry a p) (let z = number_is a n in omega (arith, z.from)) e).0 (site-is a p k);
      }

  pub load-stepped : is_number a ≡ true → group_accepts g (LoadSite a f t D ws) ≡ true
      → Stepped g (after_group g (LoadSite a f t D ws)) a (run_state_of own (loaded_story f t D ws))
  unfolding after_group next_group run_calls
  load-stepped n h =
      subst (λ (x : Group). Stepped g x a (begin_by f t D ws own)) (sym (hit _ _ g h))
      (record {
        ground = frees-ground g G a n (Taken (loaded_timed f t D ws)) none-loaded;
        others = frees-other g G a n (Taken (loaded_timed f t D ws));
        itself = mirrors-loaded n;
      })

-- the site slot of another number
next-aside : (g : Group) (c : GroupCall) (a : ℕ) → a ≢ call_number c → is_number (call_number c) ≡ true
    → site_slot_of (next_group g c) a ≡ site_slot_of g a
unfolding next_group
next-aside g (LoadSite b f t D ws) a h n = site-slot-other g.site_slots b (Taken (loaded_timed f t D ws)) n a h
next-aside g (SiteCall b c) a h n = go (site_slot_of g b)
  where
    go : (s : SiteSlot) → site_slot_of (next_by g b s c) a ≡ site_slot_of g a
    go Empty = refl
    go (Taken t) = site-slot-other g.site_slots b _ n a h

accepted-number : (g : Group) (c : GroupCall) → group_accepts g c ≡ true → is_number (call_number c) ≡ true
accepted-number g (LoadSite b f t D ws) h = (load-admits g b f t D ws (and_left _ (not (is_crowded g (LoadSite b f t D ws))) h)).0
accepted-number g (SiteCall b c) h = call-number g b c (and_left _ (not (is_crowded g (SiteCall b c))) h)

site-slot-aside : (g : Group) (c : GroupCall) (a : ℕ) → a ≢ call_number c → site_slot_of (after_group g c) a ≡ site_slot_of g a
unfolding after_group
site-slot-aside g c a h =
    ⊎_elim (λ e. ap (λ (x : Group). site_slot_of x a) (hit _ _ g e) ∙ next-aside g c a h (accepted-number g c e))
    (λ e. ap (λ (x : Group). site_slot_of x a) (skip _ _ g g e refl)) (met? (group_accepts g c))

-- a call that the site alone refuses leaves it and its area as they were
stays-as : (w : TimedState) (c : Call) → is_done (timed_answer w.timed w.area c.windows c.event) ≡ false → w ≡ after_call w c
stays-as w c h =
    let s = sym (refused-after w.timed w.area c.windows c.event h) in
    let r = sym (area-refused w.timed w.area c.windows c.event h) in
    λ i. record { timed = s i; area = r i }

-- the story with one call more leads one call further
more-state : (own : List ℕ) (st : Story) (c : Call) → after_call (run_state_of own st) c
    ≡ run_calls (begin_by st.config st.table st.day st.windows own) (st.calls ++ (c ∷ []))
more-state own st c = sym (run_more (begin_by st.config st.table st.day st.windows own) st.calls c)

module _ (own : List ℕ) (long : area_size ≤ length own) (g : Group) (F : Fine own g) where
  lawful-so : {a : ℕ} {st : Story} → Backed own g a st → Lawful (run_state_of own st).timed.site
  lawful-so {a} {st} B = lawful st.config st.table st.day st.windows B.loads own st.calls

  -- an accepted call of any kind
  record Goes (c : GroupCall) : Type 0 where
    ground : Ground (after_group g c)
    others : (a : ℕ) (v : TimedState) → a ≢ call_number c → Mirror g a v → Mirror (after_group g c) a v

  goes-call : (b : ℕ) (c : Call) → group_accepts g (SiteCall b c) ≡ true → Goes (SiteCall b c)
  goes-call b c h =
      let d : is_done (plain_answer g (SiteCall b c)) ≡ true = and_left _ (not (is_crowded g (SiteCall b c))) h in
      ⊎_elim
      (λ e. clash (is_done (plain_answer g (SiteCall b c))) d (ap is_done (empty-answer g b c e)))
      (λ s. let x = call-stepped g F.ground b (run_state_of own s.told) s.backed.mirror (lawful-so s.backed) c h
      in record { ground = x.ground; others = x.others })
      (F.each b (call-number g b c d))

  goes_load : (b : ℕ) (f : Config) (t : Table) (D : ℕ) (ws : List Window) → group_accepts g (LoadSite b f t D ws) ≡ true
      → Goes (LoadSite b f t D ws)
  goes_load b f t D ws h =
      let x = load-stepped own long g F.ground b f t D ws
      (load-admits g b f t D ws (and_left _ (not (is_crowded g (LoadSite b f t D ws))) h)).0 h in
      record { ground = x.ground; others = x.others }

  goes : (c : GroupCall) → Goes c
  goes c = ⊎_elim (λ h. yes c h) (λ h. let e = refused g c h
      in record { ground = subst Ground e F.ground; others = λ a v z M. subst (λ (x : Group). Mirror x a v) e M })
      (met? (group_accepts g c))
    where
      yes : (c : GroupCall) → group_accepts g c ≡ true → Goes c
      yes (LoadSite b f t D ws) h = goes_load b f t D ws h
      yes (SiteCall b c) h = goes-call b c h

  -- the calls of other numbers
  pub aside : (c : GroupCall) (a : ℕ) (st : Story) → a ≢ call_number c → Backed own g a st → Backed own (after_group g c) a st
  aside c a st h B = record { loads = B.loads; mirror = (goes c).others a (run_state_of own st) h B.mirror }

  -- its own calls: a load
  tells-load : (a : ℕ) (f : Config) (t : Table) (D : ℕ) (ws : List Window) (st : Story) → Backed own g a st
      → Backed own (after_group g (LoadSite a f t D ws)) a (story_after st false (LoadSite a f t D ws))
  unfolding plain_answer is_crowded
  tells-load a f t D ws st B = go (is_done (timed_load_answer f t D ws)) refl
    where
      n : is_number a ≡ true
      n = B.mirror.number

      same : plain_answer g (LoadSite a f t D ws) ≡ timed_load_answer f t D ws
      same = hit _ _ _ n

      go : (b : Bool) → is_done (timed_load_answer f t D ws) ≡ b
          → Backed own (after_group g (LoadSite a f t D ws)) a (cond b (loaded_story f t D ws) st)
      go true h =
          let d : group_accepts g (LoadSite a f t D ws) ≡ true = ap (λ (b : Bool). b && true) (ap is_done same ∙ h) in
          record {
            loads = (load-admits g a f t D ws (ap is_done same ∙ h)).1;
            mirror = (load-stepped own long g F.ground a f t D ws n d).itself;
          }
      go false h =
          let e = refused g (LoadSite a f t D ws) (ap (λ (b : Bool). b && true) (ap is_done same ∙ h)) in
          subst (λ (x : Group). Backed own x a st) e B

  -- an event
  tells-call : (a : ℕ) (c : Call) (st : Story) → Backed own g a st
      → Backed own (after_group g (SiteCall a c)) a (story_after st (is_crowded g (SiteCall a c)) (SiteCall a c))
  tells-call a c st B = go (is_crowded g (SiteCall a c)) refl (is_done (plain_answer g (SiteCall a c))) refl
    where
      more : Story
      more = record { config = st.config; table = st.table; day = st.day; windows = st.windows; calls = st.calls ++ (c ∷ []) }

      tests : (k d : Bool) → is_crowded g (SiteCall a c) ≡ k → is_done (plain_answer g (SiteCall a c)) ≡ d → group_accepts g (SiteCall a c)
          ≡ (d && not k)
      tests k d p q = λ i. q i && not (p i)

      go : (k : Bool) → is_crowded g (SiteCall a c) ≡ k → (d : Bool) → is_done (plain_answer g (SiteCall a c)) ≡ d
          → Backed own (after_group g (SiteCall a c)) a (cond k st more)
      go true p true q = subst (λ (x : Group). Backed own x a st) (refused g (SiteCall a c) (tests true true p q)) B
      go true p false q = subst (λ (x : Group). Backed own x a st) (refused g (SiteCall a c) (tests true false p q)) B
      go false p true q =
          record {
            loads = B.loads;
            mirror = subst (Mirror (after_group g (SiteCall a c)) a) (more-state own st c)
                (call-stepped g F.ground a (run_state_of own st) B.mirror (lawful-so B) c (tests false true p q)).itself;
          }
      go false p false q =
          let e = refused g (SiteCall a c) (tests false false p q) in
          let s = stays-as (run_state_of own st) c (ap is_done (sym (same_answer g F.ground a (run_state_of own st) B.mirror c)) ∙ q) in
          record {
            loads = B.loads;
            mirror = subst (λ (x : Group). Mirror x a (run_state_of own more)) e
                (subst (Mirror g a) (s ∙ more-state own st c) B.mirror);
          }

  pub tells : (c : GroupCall) (st : Story) → Backed own g (call_number c) st
      → Backed own (after_group g c) (call_number c) (story_after st (is_crowded g c) c)
  unfolding is_crowded
  tells (LoadSite a f t D ws) st B = tells-load a f t D ws st B
  tells (SiteCall a c) st B = tells-call a c st B

  -- a site slot that was empty
  filled-site-slot : (c : GroupCall) → is_number (call_number c) ≡ true → site_slot_of g (call_number c) ≡ Empty
      → (site_slot_of (after_group g c) (call_number c) ≡ Empty) ⊎ HasStory own (after_group g c) (call_number c)
  filled-site-slot c n e = ⊎_elim (λ h. yes c n e h) (λ h. inl (ap (λ (x : Group). site_slot_of x (call_number c)) (sym (refused g c h)) ∙ e))
      (met? (group_accepts g c))
    where
      yes : (c : GroupCall) → is_number (call_number c) ≡ true → site_slot_of g (call_number c) ≡ Empty → group_accepts g c ≡ true
          → (site_slot_of (after_group g c) (call_number c) ≡ Empty) ⊎ HasStory own (after_group g c) (call_number c)
      yes (LoadSite a f t D ws) n e h =
          let d = load-admits g a f t D ws (and_left _ (not (is_crowded g (LoadSite a f t D ws))) h) in
          inr (record {
            told = loaded_story f t D ws;
            backed = record { loads = d.1; mirror = (load-stepped own long g F.ground a f t D ws n h).itself };
          })
      yes (SiteCall a c) n e h = clash (is_done (plain_answer g (SiteCall a c))) (and_left _ (not (is_crowded g (SiteCall a c))) h)
          (ap is_done (empty-answer g a c e))

  pub after-fine : (c : GroupCall) → Fine own (after_group g c)
  after-fine c =
      record {
        ground = (goes c).ground;
        each = λ a n. same_or_not a (call_number c)
            (λ e. let m : is_number (call_number c) ≡ true = subst (λ (x : ℕ). is_number x ≡ true) e n in
            subst (λ (x : ℕ). (site_slot_of (after_group g c) x ≡ Empty) ⊎ HasStory own (after_group g c) x) (sym e)
            (⊎_elim (λ z. filled-site-slot c m z)
            (λ s. inr (record { told = story_after s.told (is_crowded g c) c; backed = tells c s.told s.backed }))
            (F.each (call_number c) m)))
            (λ e. ⊎_elim (λ z. inl (site-slot-aside g c a e ∙ z))
            (λ s. inr (record { told = s.told; backed = aside c a s.told e s.backed })) (F.each a n));
      }
