-- Sends and closes don't look at the area: site slots and places are enough to tell their answers and what they leave.
-- Assumes nothing.
use mathlib.Core.Path.{◌≡◌, refl, sym, ap, ◌∙◌}
use mathlib.Core.Bool.{Bool, true, false, not, cond, ◌&&◌}
use mathlib.Core.List.{List, [], ◌∷◌, map}
use Prim.Native.Nat.{ℕ, ◌-◌, ◌≤◌}
use native.Mathlib.Omega.{arith}
use borrow.Author.Tests.{le-ltb, eqb-true}
use lib.Dec.{eqb, leb}
use lib.ListN.{length, get_or, set}
use Rattle.words.proofs.Tests.{hit, skip, and_left, and_right}
use Rattle.allotment.specs.Allotment.{total}
use Rattle.node.specs.Answers.{is_done, number}
use Rattle.node.specs.Answers.{Answer}
use Rattle.node.specs.Answers.{NoSuchNode}
use Rattle.site.specs.Answers.{area_size, site_send, site_close, event_answer, answer_of}
use Rattle.site.specs.Steps.{sent_site, closed_site, next_site, site_after}
use Rattle.site.specs.Events.{is_end}
use Rattle.site.specs.Model.{Site}
use Rattle.site.specs.declared.Event.{Event}
use Rattle.site.specs.declared.Event.TheVariants.{Send, Close}
use Rattle.machine.specs.timed.Timed.{Timed, timed_after}
use Rattle.node.proofs.Answers.{zero-done}
use Rattle.machine.proofs.timed.Laws.{plain-answer, plain-after}
use Rattle.group.specs.Group.{SiteSlot, Empty, Taken, Group, is_number, site_slot_of, packets_in, own_share, common_share, beyond, common}
use Rattle.group.specs.Group.{own_area}
use Rattle.group.specs.Calls.{GroupCall, SiteCall, is_send, site_slot_answer, plain_answer, is_short, is_crowded, crowded, answer_to}
use Rattle.group.specs.Calls.{group_accepts}
use Rattle.group.specs.Steps.{next_places, next_by, next_group, after_group, run_group}
use Rattle.group.proofs.Parts.{own-long}
use Rattle.group.proofs.Admits.{empty-answer}
use Rattle.group.proofs.Stories.{Fine, after-fine}

-- a send of node j, or a close
pub data Act : Type 0 where
  sends : ℕ → Act
  closes : Act

abbrev pub event_of : Act → Event
event_of (sends j) = Send j
event_of closes = Close

abbrev pub call_of : ℕ → Act → GroupCall
call_of a x = SiteCall a (record { event = event_of x; windows = [] })

-- what the site answers, and what it is then
abbrev pub answer_by : Site → Act → Answer
answer_by s (sends j) = site_send s j
answer_by s closes = site_close s

abbrev pub site_by : Site → Act → Site
site_by s (sends j) = sent_site s j
site_by s closes = closed_site s

no_end : (x : Act) → is_end (event_of x) ≡ false
no_end (sends j) = refl
no_end closes = refl

-- a group without its area
pub record Sheet : Type 0 where
  pub site_slots : List SiteSlot
  pub places : List ℕ

abbrev pub sheet_of : Group → Sheet
sheet_of g = record { site_slots = g.site_slots; places = g.places }

abbrev pub number_by : Sheet → SiteSlot → Act → ℕ
number_by s Empty x = 3
number_by s (Taken t) x = cond (is_send (event_of x)
    && (is_done (answer_by t.site x)
    && (leb own_share (packets_in (Taken t)) && leb common_share (total (map beyond s.site_slots))))) crowded
    (number (answer_by t.site x))

abbrev pub next_on : Sheet → ℕ → SiteSlot → Act → Sheet
next_on s a Empty x = s
next_on s a (Taken t) x =
    record {
      site_slots = set s.site_slots (a - 1) (Taken (record { site = site_by t.site x; day = t.day }));
      places = next_places s.places a (packets_in (Taken t)) (event_of x);
    }

module _ (g : Group) (room : area_size ≤ length g.area) (a : ℕ) (x : Act) where
  module _ (t : Timed) (h : site_slot_of g a ≡ Taken t) where
    abbrev own : List ℕ
    own = own_area g a (packets_in (Taken t))

    site-answer : answer_of t.site own (event_of x) ≡ answer_by t.site x
    unfolding answer_of
    site-answer = skip _ _ _ _ (le-ltb (length own) area_size (own-long g a (packets_in (Taken t)))) (go x)
      where
        go : (x : Act) → event_answer t.site own (event_of x) ≡ answer_by t.site x
        go (sends j) = refl
        go closes = refl

    plain_by : plain_answer g (call_of a x) ≡ answer_by t.site x
    unfolding plain_answer
    plain_by = ap (λ (s : SiteSlot). site_slot_answer g a s (record { event = event_of x; windows = [] })) h
        ∙ skip _ _ _ _ (le-ltb (length g.area) area_size room) (plain-answer t own [] (event_of x) (no_end x) ∙ site-answer)

    crowded-by : is_crowded g (call_of a x)
        ≡ (is_send (event_of x) && (is_done (answer_by t.site x)
        && (leb own_share (packets_in (Taken t)) && leb common_share (total (map beyond g.site_slots)))))
    unfolding is_crowded common
    crowded-by = λ i. is_send (event_of x)
        && (is_done (plain_by i) && (leb own_share (packets_in (h i)) && leb common_share (total (map beyond g.site_slots))))

    answer-by : answer_to g (call_of a x) ≡ number_by (sheet_of g) (Taken t) x
    unfolding answer_to
    answer-by = λ i. cond (crowded-by i) crowded (number (plain_by i))

    -- a call that is answered with 0
    module _ (z : number_by (sheet_of g) (Taken t) x ≡ 0) where
      tests : (b : Bool) (n : ℕ) → cond b crowded n ≡ 0 → (b ≡ false) × (n ≡ 0)
      tests true n e = absurd (omega (arith, e))
      tests false n e = (refl, e)

      passed : (is_send (event_of x) && (is_done (answer_by t.site x)
          && (leb own_share (packets_in (Taken t)) && leb common_share (total (map beyond g.site_slots)))) ≡ false)
          × (number (answer_by t.site x) ≡ 0)
      passed = tests _ _ z

      accepts : group_accepts g (call_of a x) ≡ true
      accepts =
          let p = passed in
          let d : is_done (plain_answer g (call_of a x)) ≡ true = ap is_done (plain_by ∙ zero-done (answer_by t.site x) p.1) in
          let c : is_crowded g (call_of a x) ≡ false = crowded-by ∙ p.0 in
          λ i. d i && not (c i)

      site-by : timed_after t own [] (event_of x) ≡ record { site = site_by t.site x; day = t.day }
      unfolding site_after
      site-by =
          let d : is_done (answer_of t.site own (event_of x)) ≡ true = ap is_done (site-answer ∙ zero-done (answer_by t.site x) passed.1) in
          let s : site_after t.site own (event_of x) ≡ site_by t.site x = hit _ _ t.site d ∙ go x in
          plain-after t own [] (event_of x) (no_end x) ∙ (λ i. record { site = s i; day = t.day })
        where
          go : (x : Act) → next_site t.site own (event_of x) ≡ site_by t.site x
          go (sends j) = refl
          go closes = refl

      sheet-by : sheet_of (after_group g (call_of a x)) ≡ next_on (sheet_of g) a (Taken t) x
      unfolding after_group next_group
      sheet-by =
          ap sheet_of (hit _ _ g accepts ∙ ap (λ (s : SiteSlot). next_by g a s (record { event = event_of x; windows = [] })) h)
          ∙ (λ i. record {
            site_slots = set g.site_slots (a - 1) (Taken (site-by i));
            places = next_places g.places a (packets_in (Taken t)) (event_of x);
          })

-- the site slot of a number
abbrev pub site_slot_in : Sheet → ℕ → SiteSlot
site_slot_in s a = cond (is_number a) (get_or s.site_slots (a - 1) Empty) Empty

nobody : (g : Group) (a : ℕ) (x : Act) → site_slot_of g a ≡ Empty → answer_to g (call_of a x) ≡ 3
unfolding answer_to is_crowded
nobody g a (sends j) h =
    let e : plain_answer g (call_of a (sends j)) ≡ NoSuchNode = empty-answer g a _ h in
    skip _ _ _ _ (ap (λ (r : Answer). is_done r && is_short g a) e) (ap number e)
nobody g a closes h = ap number (empty-answer g a _ h)

-- by sheet alone: the number that a call is answered with, and the sheet then
pub answers_by : (g : Group) → area_size ≤ length g.area → (a : ℕ) (x : Act) → answer_to g (call_of a x)
    ≡ number_by (sheet_of g) (site_slot_in (sheet_of g) a) x
answers_by g room a x = go (site_slot_of g a) refl
  where
    go : (s : SiteSlot) → site_slot_of g a ≡ s → answer_to g (call_of a x) ≡ number_by (sheet_of g) (site_slot_of g a) x
    go Empty h = nobody g a x h ∙ ap (λ (s : SiteSlot). number_by (sheet_of g) s x) (sym h)
    go (Taken t) h = answer-by g room a x t h ∙ ap (λ (s : SiteSlot). number_by (sheet_of g) s x) (sym h)

next-by : (g : Group) → area_size ≤ length g.area → (a : ℕ) (x : Act) → number_by (sheet_of g) (site_slot_in (sheet_of g) a) x ≡ 0
    → sheet_of (after_group g (call_of a x)) ≡ next_on (sheet_of g) a (site_slot_in (sheet_of g) a) x
next-by g room a x z = go (site_slot_of g a) refl
  where
    go : (s : SiteSlot) → site_slot_of g a ≡ s → sheet_of (after_group g (call_of a x)) ≡ next_on (sheet_of g) a (site_slot_of g a) x
    go Empty h = let e : ◌≡◌ {A = ℕ} 3 0 = ap (λ (s : SiteSlot). number_by (sheet_of g) s x) (sym h) ∙ z in absurd (omega (arith, e))
    go (Taken t) h = sheet-by g room a x t h (ap (λ (s : SiteSlot). number_by (sheet_of g) s x) (sym h) ∙ z)
        ∙ ap (λ (s : SiteSlot). next_on (sheet_of g) a s x) (sym h)

-- a list of acts, each of a number
pub record At : Type 0 where
  pub number : ℕ
  pub act : Act

unfoldable pub step_on : Sheet → At → Sheet
step_on s x = next_on s x.number (site_slot_in s x.number) x.act

unfoldable pub run_on : Sheet → List At → Sheet
run_on s [] = s
run_on s (x ∷ xs) = run_on (step_on s x) xs

-- each is answered with 0
unfoldable pub all_done : Sheet → List At → Bool
all_done s [] = true
all_done s (x ∷ xs) = eqb (number_by s (site_slot_in s x.number) x.act) 0 && all_done (step_on s x) xs

abbrev pub call_at : At → GroupCall
call_at x = call_of x.number x.act

pub runs_by : (own : List ℕ) → area_size ≤ length own → (g : Group) → Fine own g → (s : Sheet) → sheet_of g ≡ s → (xs : List At)
    → all_done s xs ≡ true → sheet_of (run_group g (map call_at xs)) ≡ run_on s xs
unfolding run_group run_on all_done step_on
runs_by own long g F s e [] h = e
runs_by own long g F s e (x ∷ xs) h =
    let z : number_by (sheet_of g) (site_slot_in (sheet_of g) x.number) x.act ≡ 0 =
    ap (λ (y : Sheet). number_by y (site_slot_in y x.number) x.act) e
    ∙ eqb-true _ _ (and_left (eqb (number_by s (site_slot_in s x.number) x.act) 0) _ h) in
    runs_by own long (after_group g (call_at x)) (after-fine own long g F (call_at x)) (step_on s x)
    (next-by g F.ground.room x.number x.act z ∙ ap (λ (y : Sheet). next_on y x.number (site_slot_in y x.number) x.act) e)
    xs (and_right (eqb (number_by s (site_slot_in s x.number) x.act) 0) _ h)
