-- Each call on the memory of a group is one step of the group that memory stands for, or none.
-- Assumes nothing.
use mathlib.Core.Path.{◌≡◌, refl, sym, ap, ◌∙◌}
use mathlib.Core.Bool.{Bool, true, false, cond, ◌&&◌}
use mathlib.Core.List.{List, [], ◌∷◌, ◌++◌}
use Prim.Native.Nat.{ℕ}
use lib.Dec.{eqb}
use Rattle.words.proofs.Tests.{hit, skip}
use Rattle.node.specs.Answers.{is_done}
use Rattle.node.specs.Answers.{Answer}
use Rattle.node.specs.Answers.{NoSuchNode, NoRoom, OutOfRange}
use Rattle.node.specs.declared.Config.{Config}
use Rattle.windows.specs.declared.Window.{Window}
use Rattle.machine.specs.timed.Timed.{timed_load_answer}
use Rattle.tally.specs.declared.Tally.{Tally}
use Rattle.script.specs.events.Events.{event_at}
use Rattle.site.specs.declared.Event.{Event}
use Rattle.std.specs.Prelude.{Option}
use Rattle.std.specs.Prelude.{None, Some}
use Rattle.sites.specs.one.Calls.{table_from}
use Rattle.calls.specs.ledger.Lists.{CalledAll, left_by}
use Rattle.group.specs.Group.{Group, vacant, is_number}
use Rattle.group.specs.Calls.{GroupCall, LoadSite, is_crowded, plain_answer}
use Rattle.group.specs.Steps.{next_group, after_group, run_group}
use Rattle.sites.specs.many.Memory.{Memory, Lent, group_too_short, group_in}
use Rattle.sites.specs.many.Calls.{group_load_answer, group_loaded, row_count_fits, rows_answer, group_rows, event_call, group_after}
use Rattle.sites.specs.many.Calls.{group_line_answer}
use Rattle.sites.specs.many.Calls.{group_after_line}
use Rattle.calls.specs.register.Register.{Lending, stands_for, GroupMade, LoadMade, EventMade, CallOf, Called}
use Rattle.calls.specs.register.Register.{Calls, line_call, group_call}
use Rattle.calls.specs.register.Register.{accepted}
use Rattle.node.proofs.Answers.{zero-is}

run-append : (g : Group) (cs ds : List GroupCall) → run_group g (cs ++ ds) ≡ run_group (run_group g cs) ds
unfolding run_group
run-append g [] ds = refl
run-append g (c ∷ cs) ds = run-append (after_group g c) cs ds

-- one call, where it is accepted
run-one : (g : Group) (c : GroupCall) (b : Bool) → cond b (after_group g c) g ≡ run_group g (cond b (c ∷ []) [])
unfolding run_group
run-one g c true = refl
run-one g c false = refl

-- an event
one_line : (m : Memory) (area : List ℕ) (a : ℕ) (v : Lent) (p : (Option Event))
    → group_after_line m area a v p ≡ run_group (group_in m area) (cond (is_done (group_line_answer m area a v p)) (line_call a v.windows p) [])
unfolding run_group group_after
one_line m area a v None = go (is_done (group_line_answer m area a v None))
  where
    go : (b : Bool) → group_in m area ≡ run_group (group_in m area) (cond b [] [])
    go true = refl
    go false = refl
one_line m area a v (Some e) = run-one (group_in m area) (event_call a v.windows e) (is_done (group_line_answer m area a v (Some e)))

-- a load
module _ (m : Memory) (area : List ℕ) (a : ℕ) (f : Config) (rows : List ℕ) (D : ℕ) (ws : List Window) where
  abbrev g : Group
  g = group_in m area

  abbrev c : GroupCall
  c = LoadSite a f (table_from rows) D ws

  abbrev plain : Answer
  plain = cond (is_number a) (timed_load_answer f (table_from rows) D ws) NoSuchNode

  -- the group's answer decides
  after-load : after_group g c ≡ cond (is_done plain) (after_group g c) g
  unfolding after_group plain_answer is_crowded
  after-load = go (is_done plain) refl
    where
      go : (b : Bool) → is_done plain ≡ b → after_group g c ≡ cond b (after_group g c) g
      go true h = refl
      go false h = skip (is_done plain && true) (next_group g c) g g (ap (λ (b : Bool). b && true) h) refl

  -- of memory that is long enough it is the call's
  answer-load : group_too_short m ≡ false → group_load_answer m a f (table_from rows) D ws ≡ plain
  unfolding group_load_answer
  answer-load h = ap (λ (x : Answer). cond (is_number a) x NoSuchNode) (skip _ _ _ _ h refl)

  no-load : group_too_short m ≡ true → is_done (group_load_answer m a f (table_from rows) D ws) ≡ false
  unfolding group_load_answer
  no-load h = ap (λ (x : Answer). is_done (cond (is_number a) x NoSuchNode)) (hit _ _ _ h) ∙ go (is_number a)
    where
      go : (b : Bool) → is_done (cond b NoRoom NoSuchNode) ≡ false
      go true = refl
      go false = refl

  loads : group_loaded m area a f (table_from rows) D ws ≡ cond (is_done (group_load_answer m a f (table_from rows) D ws)) (after_group g c) g
  unfolding group_loaded
  loads = go (group_too_short m) refl
    where
      go : (b : Bool) → group_too_short m ≡ b → cond b g (after_group g c)
          ≡ cond (is_done (group_load_answer m a f (table_from rows) D ws)) (after_group g c) g
      go true h = sym (skip _ _ _ _ (no-load h) refl)
      go false h = after-load ∙ ap (λ (x : Answer). cond (is_done x) (after_group g c) g) (sym (answer-load h))

  no_rows : is_done (cond (is_number a) (cond (group_too_short m) NoRoom OutOfRange) NoSuchNode) ≡ false
  no_rows = go (is_number a) (group_too_short m)
    where
      go : (b c : Bool) → is_done (cond b (cond c NoRoom OutOfRange) NoSuchNode) ≡ false
      go true true = refl
      go true false = refl
      go false c = refl

  one-load : group_rows m area a f rows D ws ≡ run_group g (cond (is_done (rows_answer m a f rows D ws)) (c ∷ []) [])
  unfolding group_rows rows_answer
  one-load = go (row_count_fits f rows) refl ∙ run-one g c (is_done (rows_answer m a f rows D ws))
    where
      go : (b : Bool) → row_count_fits f rows ≡ b → group_rows m area a f rows D ws
          ≡ cond (is_done (rows_answer m a f rows D ws)) (after_group g c) g
      go true h = hit _ _ _ h ∙ loads ∙ ap (λ (x : Answer). cond (is_done x) (after_group g c) g) (sym (hit _ _ _ h))
      go false h = skip (row_count_fits f rows) _ g g h refl
          ∙ sym (skip _ _ _ _ (ap is_done (skip (row_count_fits f rows) _ _ _ h refl) ∙ no_rows) refl)

pub one : (m : Lending) (c : GroupMade) (n : ℕ) (u : Tally) (l : Lending) → CallOf m c n u l
    → stands_for l ≡ run_group (stands_for m) (cond (eqb n 0) (group_call c) [])
one m (LoadMade a f rows D ws t) n u l r =
    r.group
    ∙ one-load m.memory m.area a f rows D ws
    ∙ ap (λ (y : Bool). run_group (stands_for m) (cond y (LoadSite a f (table_from rows) D ws ∷ []) [])) (sym (zero-is (rows_answer m.memory a f rows D ws)))
    ∙ ap (λ (k : ℕ). run_group (stands_for m) (cond (eqb k 0) (LoadSite a f (table_from rows) D ws ∷ []) [])) (sym r.answer)
one m (EventMade a event node with v) n u l r =
    r.group
    ∙ one_line m.memory m.area a v (event_at event node with)
    ∙ ap (λ (y : Bool). run_group (stands_for m) (cond y (line_call a v.windows (event_at event node with)) []))
    (sym (zero-is (group_line_answer m.memory m.area a v (event_at event node with))))
    ∙ ap (λ (k : ℕ). run_group (stands_for m) (cond (eqb k 0) (line_call a v.windows (event_at event node with)) [])) (sym r.answer)

pub stands : (m : Lending) (ds : Calls) → CalledAll Called m ds → stands_for (left_by m ds) ≡ run_group (stands_for m) (accepted ds)
unfolding run_group accepted CalledAll left_by
stands m [] r = refl
stands m (d ∷ ds) r =
    stands d.left ds r.1
    ∙ ap (λ (x : Group). run_group x (accepted ds)) (one m d.call d.answer d.tally d.left r.0)
    ∙ sym (run-append (stands_for m) (cond (eqb d.answer 0) (group_call d.call) []) (accepted ds))

pub final : (m : Lending) (ds : Calls) → stands_for m ≡ vacant m.area → CalledAll Called m ds
    → stands_for (left_by m ds) ≡ run_group (vacant m.area) (accepted ds)
final m ds h r = stands m ds r ∙ ap (λ (x : Group). run_group x (accepted ds)) h
