-- The statement of specs/Alone.antt, proved: from an empty group on, over every list of calls.
-- Assumes nothing.
use mathlib.Core.Path.{◌≡◌, refl, sym, ap, ◌∙◌, subst}
use mathlib.Core.Bool.{Bool, true, not, cond, ◌&&◌}
use mathlib.Core.Logic.{◌≢◌, inl, ⊎_elim}
use mathlib.Core.List.{List, [], ◌∷◌, ◌++◌}
use Prim.Native.Nat.{ℕ, zero, suc, ◌+◌, ◌-◌, ◌≤◌}
use native.Mathlib.Omega.{arith}
use borrow.Author.Tests.{eq-eqb, ne_eqb}
use Rattle.node.proofs.Answers.{zero-done}
use lib.Dec.{eqb}
use lib.ListN.{length, get_or, replicate, length-replicate}
use Rattle.words.proofs.Tests.{hit, skip, read_same, same_or_not}
use Rattle.allotment.specs.Allotment.{total}
use Rattle.node.specs.Answers.{is_done, number}
use Rattle.node.specs.Answers.{Answer}
use Rattle.site.specs.Answers.{area_size}
use Rattle.node.specs.declared.Config.{Config}
use Rattle.site.specs.declared.Table.{Table}
use Rattle.windows.specs.declared.Window.{Window}
use Rattle.machine.specs.timed.Timed.{timed_load_answer, timed_answer}
use Rattle.agreement.proofs.daily.Theorem.{daily}
use Rattle.group.specs.Places.{top_places, entry, site_of}
use Rattle.group.specs.Group.{SiteSlot, Empty, Taken, Group, vacant, is_number, site_slot_of, packets_in, common}
use Rattle.group.specs.Calls.{GroupCall, LoadSite, SiteCall, call_number, plain_answer, is_crowded, crowded, answer_to}
use Rattle.group.specs.Steps.{after_group, run_group}
use Rattle.group.specs.Fit.{Fit}
use Rattle.group.specs.Alone.{Own, own_calls, own_answers, Story, loaded_story, story_after, story, run_state_of, loaded_group, Several}
use Rattle.group.specs.Alone.{listing_of}
use Rattle.group.proofs.Places.{place_found, often-none, zero_of}
use Rattle.group.proofs.Ground.{Ground, Mirror, number_is}
use Rattle.group.proofs.Admits.{sixteen, load-admits, finds, writes}
use Rattle.group.proofs.Moves.{same_answer}
use Rattle.group.proofs.Stories.{Backed, Fine, load-stepped, aside, tells, after-fine}

-- An empty group

all-empty : (n i : ℕ) → get_or (replicate n Empty) i Empty ≡ Empty
all-empty zero i = refl
all-empty (suc n) zero = refl
all-empty (suc n) (suc i) = all-empty n i

pub empty-site-slot : (area : List ℕ) (a : ℕ) → site_slot_of (vacant area) a ≡ Empty
empty-site-slot area a = read_same (λ (s : SiteSlot). s) (is_number a) (get_or (replicate 8 Empty) (a - 1) Empty) Empty Empty
    (all-empty 8 (a - 1)) refl

pub vacant-fine : (own area : List ℕ) → area_size ≤ length area → Fine own (vacant area)
unfolding total
vacant-fine own area room =
    record {
      ground = record {
        site_slots = refl;
        places = length-replicate {A = ℕ} top_places 0;
        room = room;
        own = λ a n. often-none (λ x. eqb (site_of x) a) top_places (zero_of a (number_is a n).from)
            ∙ ap packets_in (sym (empty-site-slot area a));
        all = often-none (λ x. not (eqb x 0)) top_places refl;
        shared = omega arith;
      };
      each = λ a n. inl (empty-site-slot area a);
    }

-- Lists of calls

module _ (own : List ℕ) (long : area_size ≤ length own) where
  pub run-fine : (g : Group) → Fine own g → (cs : List GroupCall) → Fine own (run_group g cs)
  unfolding run_group
  run-fine g F [] = F
  run-fine g F (c ∷ cs) = run-fine (after_group g c) (after-fine own long g F c) cs

  -- what the site alone answers to a call of its story, or 17
  lone_answer : Story → GroupCall → Answer
  lone_answer st (LoadSite a f t D ws) = timed_load_answer f t D ws
  lone_answer st (SiteCall a c) = timed_answer (run_state_of own st).timed (run_state_of own st).area c.windows c.event

  lone_number : Story → Own → ℕ
  lone_number st o = cond o.crowded crowded (number (lone_answer st o.call))

  one_site : Story → List Own → List ℕ
  one_site st [] = []
  one_site st (o ∷ os) = lone_number st o ∷ one_site (story_after st o.crowded o.call) os

  answers-as : (g : Group) → Ground g → (c : GroupCall) (st : Story) → Mirror g (call_number c) (run_state_of own st) → plain_answer g c
      ≡ lone_answer st c
  unfolding plain_answer lone_answer
  answers-as g G (LoadSite a f t D ws) st M = hit _ _ _ M.number
  answers-as g G (SiteCall a c) st M = same_answer g G a (run_state_of own st) M c

  answer-as : (g : Group) → Ground g → (c : GroupCall) (st : Story) → Mirror g (call_number c) (run_state_of own st) → answer_to g c
      ≡ lone_number st (record { call = c; crowded = is_crowded g c })
  unfolding answer_to lone_number
  answer-as g G c st M = ap (λ (r : Answer). cond (is_crowded g c) crowded (number r)) (answers-as g G c st M)

  -- the site and its answers go by its story
  record Follows (a : ℕ) (g : Group) (st : Story) (cs : List GroupCall) : Type 0 where
    backed : Backed own (run_group g cs) a (story st (own_calls a g cs))
    answers : own_answers a g cs ≡ one_site st (own_calls a g cs)

  module _ (a : ℕ) (g : Group) (F : Fine own g) (st : Story) (B : Backed own g a st) (c : GroupCall) (cs : List GroupCall) where
    abbrev next : Group
    next = after_group g c

    abbrev o : Own
    o = record { call = c; crowded = is_crowded g c }

    abbrev rest : List Own
    rest = own_calls a next cs

    -- a call of its own
    backed-own : call_number c ≡ a → Backed own next a (story_after st (is_crowded g c) c)
    backed-own e = subst (λ (x : ℕ). Backed own next x (story_after st (is_crowded g c) c)) e
        (tells own long g F c st (subst (λ (x : ℕ). Backed own g x st) (sym e) B))

    own_first : call_number c ≡ a → Follows a next (story_after st (is_crowded g c) c) cs → Follows a g st (c ∷ cs)
    unfolding run_group own_calls own_answers story one_site
    own_first e r =
        let t = eq-eqb (call_number c) a e in
        let q : own_calls a g (c ∷ cs) ≡ o ∷ rest = ap (λ (l : List Own). l ++ rest) (hit _ _ _ t) in
        let n : answer_to g c ≡ lone_number st o =
        answer-as g F.ground c st (subst (λ (x : ℕ). Mirror g x (run_state_of own st)) (sym e) B.mirror) in
        record {
          backed = subst (λ (l : List Own). Backed own (run_group next cs) a (story st l)) (sym q) r.backed;
          answers = ap (λ (l : List ℕ). l ++ own_answers a next cs) (hit _ _ _ t) ∙ (λ i. n i ∷ r.answers i) ∙ ap (one_site st) (sym q);
        }

    -- a call of another number
    other-first : call_number c ≢ a → Follows a next st cs → Follows a g st (c ∷ cs)
    unfolding run_group own_calls own_answers
    other-first e r =
        let t = ne_eqb (call_number c) a e in
        let q : own_calls a g (c ∷ cs) ≡ rest = ap (λ (l : List Own). l ++ rest) (skip (eqb (call_number c) a) (o ∷ []) [] [] t refl) in
        record {
          backed = subst (λ (l : List Own). Backed own (run_group next cs) a (story st l)) (sym q) r.backed;
          answers = ap (λ (l : List ℕ). l ++ own_answers a next cs)
              (skip (eqb (call_number c) a) (answer_to g c ∷ []) [] [] t refl) ∙ r.answers
              ∙ ap (one_site st) (sym q);
        }

  follows : (a : ℕ) (g : Group) → Fine own g → (st : Story) → Backed own g a st → (cs : List GroupCall) → Follows a g st cs
  unfolding run_group own_calls own_answers story one_site
  follows a g F st B [] = record { backed = B; answers = refl }
  follows a g F st B (c ∷ cs) =
      same_or_not (call_number c) a
      (λ e. own_first a g F st B c cs e
      (follows a (after_group g c) (after-fine own long g F c) (story_after st (is_crowded g c) c) (backed-own a g F st B c cs e) cs))
      (λ e. other-first a g F st B c cs e
      (follows a (after_group g c) (after-fine own long g F c) st (aside own long g F c a st (λ z. e (sym z)) B) cs))

  -- from an accepted load on
  module _ (area : List ℕ) (room : area_size ≤ length area) (before : List GroupCall) (a : ℕ) (f : Config) (t : Table) (D : ℕ)
      (ws : List Window)
      (h : is_done (plain_answer (run_group (vacant area) before) (LoadSite a f t D ws)) ≡ true) where
    first : Fine own (run_group (vacant area) before)
    first = run-fine (vacant area) (vacant-fine own area room) before

    pub begins : Backed own (loaded_group area before (LoadSite a f t D ws)) a (loaded_story f t D ws)
    unfolding is_crowded
    begins =
        let d = load-admits (run_group (vacant area) before) a f t D ws h in
        record {
          loads = d.1;
          mirror = (load-stepped own long (run_group (vacant area) before) first.ground a f t D ws d.0
              (ap (λ (b : Bool). b && true) h)).itself;
        }

    from-load : (cs : List GroupCall) → Follows a (loaded_group area before (LoadSite a f t D ws)) (loaded_story f t D ws) cs
    from-load cs = follows a (loaded_group area before (LoadSite a f t D ws))
        (after-fine own long (run_group (vacant area) before) first (LoadSite a f t D ws)) (loaded_story f t D ws) begins cs

-- an accepted load
load-done : (g : Group) (a : ℕ) (f : Config) (t : Table) (D : ℕ) (ws : List Window) → answer_to g (LoadSite a f t D ws) ≡ 0
    → is_done (plain_answer g (LoadSite a f t D ws)) ≡ true
unfolding answer_to is_crowded
load-done g a f t D ws h = ap is_done (zero-done (plain_answer g (LoadSite a f t D ws)) h)

-- the same load is accepted in any group
load_again : (g k : Group) (a : ℕ) (f : Config) (t : Table) (D : ℕ) (ws : List Window) → is_done (plain_answer g (LoadSite a f t D ws)) ≡ true
    → is_done (plain_answer k (LoadSite a f t D ws)) ≡ true
unfolding plain_answer
load_again g k a f t D ws h = h

fit_of : (own : List ℕ) (g : Group) → Fine own g → Fit g
unfolding common
fit_of own g F =
    record {
      site_slots = F.ground.site_slots;
      places = F.ground.places;
      lies = λ a p n l. ⊎_elim
          (λ e. let z : packets_in (site_slot_of g a) ≡ 0 = ap packets_in e in absurd (omega arith))
          (λ s. let M = s.backed.mirror in let z = ap packets_in M.site_slot in let k = M.low p (omega arith)
          in place_found (entry a (p + 1)) g.places (omega (arith, F.ground.places)))
          (F.each a n);
      own = F.ground.own;
      all = F.ground.all;
      shared = F.ground.shared;
      room = λ a j ws h. finds g a j ws h F.ground;
      written = λ a j ws t e h. writes g a j ws h F.ground t e;
    }

pub several : Several
several =
    record {
      sixteen = sixteen;
      fit = λ area room cs. fit_of area _ (run-fine area room (vacant area) (vacant-fine area area room) cs);
      alone = λ area own room long before cs a f t D ws h.
          let r = (from-load own long area room before a f t D ws (load-done _ a f t D ws h) cs).backed in
          record { loads = r.loads; site = r.mirror.site_slot; demand3 = λ u. daily.demand3 _ _ _ _ r.loads u own _ };
      apart = λ x y rx ry xs ys cs ds a f t D ws h e.
          let d = load-done (run_group (vacant x) xs) a f t D ws h in
          let r = from-load x rx x rx xs a f t D ws d cs in
          let s = from-load x rx y ry ys a f t D ws (load_again (run_group (vacant x) xs) (run_group (vacant y) ys) a f t D ws d) ds in
          let q = r.backed.mirror.site_slot ∙ ap (λ (os : List Own). Taken (run_state_of x (story (loaded_story f t D ws) os)).timed) e
          ∙ sym s.backed.mirror.site_slot in
          (r.answers ∙ ap (one_site x rx (loaded_story f t D ws)) e ∙ sym s.answers, q, ap listing_of q);
    }
