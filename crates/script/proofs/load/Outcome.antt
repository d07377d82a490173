-- What the lines before the events come to: a refusal has a small line number, and settings and table that are read load without a refusal,
-- with the figures that were read.
-- Assumes nothing.
use mathlib.Core.Path.{◌≡◌, refl, sym, ap, ◌∙◌, subst}
use mathlib.Core.Bool.{Bool, true, false, cond, ◌&&◌, ◌||◌}
use mathlib.Core.List.{List, [], ◌∷◌}
use mathlib.Core.Logic.{⊎_elim}
use Prim.Native.Nat.{ℕ, zero, suc, ◌+◌, ◌≤◌, ◌<◌}
use native.Mathlib.Omega.{arith}
use native.Mathlib.Nat.{eq-or-lt_of_le}
use borrow.Author.Tests.{leb-false}
use lib.Dec.{eqb, leb}
use lib.ListN.{length, get_or, set, length-set}
use lib.Seq.{get_or-set_same, get_or-set_other}
use Rattle.lists.specs.All.{same}
use Rattle.words.proofs.Tests.{and_right}
use Rattle.lists.proofs.Laws.{all-make}
use Rattle.allotment.specs.Allotment.{top_request}
use Rattle.text.specs.Read.{split, front}
use Rattle.script.specs.lines.Lines.{on_line}
use Rattle.script.specs.lines.Fields.{numbers_of}
use Rattle.std.specs.Prelude.{Option, Some, None, Result, Ok, Err, IfOk, MatchResult}
use Rattle.node.specs.Answers.{Done}
use Rattle.node.specs.declared.Refusal.{Refusal}
use Rattle.node.specs.declared.Refusal.TheVariants.{BadNames, OutOfRange}
use Rattle.node.specs.Figures.{config_ok}
use Rattle.site.specs.Load.{row_ok, no_row, table_ok, load_answer}
use Rattle.node.specs.declared.Config.{Config}
use Rattle.site.specs.declared.Row.{Row}
use Rattle.site.specs.declared.Table.{Table}
use Rattle.script.specs.load.Opening.{settings_names, table_names, event_names, Reading, refused, got, names_line, config_of_five}
use Rattle.script.specs.load.Opening.{settings_line}
use Rattle.script.specs.load.Opening.{row_in, row_good, row_stored, empty_table, table_lines, Opening, then, opening, config_of, config_read}
use Rattle.script.specs.load.Opening.{script_head_of}
use Rattle.script.specs.declared.Opened.{Opened}
use Rattle.script.specs.declared.RefusedHead.{RefusedHead}
use Rattle.script.proofs.load.Laws.{Limits, limits, from_events, from_rows, from_table, from_settings}

-- how many lines the pieces are
unfoldable pub lines : List (List ℕ) → ℕ
lines [] = 0
lines ([] ∷ []) = 0
lines ((b ∷ l) ∷ []) = 1
lines (l ∷ m ∷ ls) = suc (lines (m ∷ ls))

lines-front : (b : ℕ) (ps : List (List ℕ)) → lines (front b ps) ≤ suc (lines ps)
unfolding lines front
lines-front b [] = omega arith
lines-front b ([] ∷ []) = omega arith
lines-front b ((x ∷ p) ∷ []) = omega arith
lines-front b ([] ∷ q ∷ r) = omega arith
lines-front b ((x ∷ p) ∷ q ∷ r) = omega arith

lines_more : (ps : List (List ℕ)) → lines ([] ∷ ps) ≤ suc (lines ps)
unfolding lines
lines_more [] = omega arith
lines_more (p ∷ ps) = omega arith

pub lines-behind : (l m : List ℕ) (ls : List (List ℕ)) → lines (l ∷ m ∷ ls) ≡ suc (lines (m ∷ ls))
unfolding lines
lines-behind [] m ls = refl
lines-behind (b ∷ l) m ls = refl

-- no more lines than bytes
pub lines_split : (c : ℕ) (s : List ℕ) → lines (split c s) ≤ length s
unfolding lines split
lines_split c [] = omega arith
lines_split c (b ∷ s) = go (eqb b c) (lines_split c s) (lines-front b (split c s)) (lines_more (split c s))
  where
    go : (t : Bool) → lines (split c s) ≤ length s → lines (front b (split c s)) ≤ suc (lines (split c s))
        → lines ([] ∷ split c s) ≤ suc (lines (split c s))
        → lines (cond t ([] ∷ split c s) (front b (split c s))) ≤ suc (length s)
    go true h k m = omega arith
    go false h k m = omega arith

-- a refusal stands in one of the first 36 lines; a value and the lines behind it have a property
abbrev pub Ends : {A : Type 0} → (A → List (List ℕ) → Type 0) → Reading A → Type 0
Ends Q (refused n a) = n ≤ 36
Ends Q (got x ls) = Q x ls

ends-then : {A B : Type 0} (Q : A → List (List ℕ) → Type 0) (R : B → List (List ℕ) → Type 0) (r : Reading A)
    (k : A → List (List ℕ) → Reading B)
    → Ends Q r → ((x : A) (ls : List (List ℕ)) → Q x ls → Ends R (k x ls)) → Ends R (then r k)
ends-then Q R (refused n a) k h g = h
ends-then Q R (got x ls) k h g = g x ls h

-- what was read is the value with its lines
ends-told : {A : Type 0} (Q : A → List (List ℕ) → Type 0) (r : Reading A) → Ends Q r → Ends (λ x ls. Q x ls × (r ≡ got x ls)) r
ends-told Q (refused n a) h = h
ends-told Q (got x ls) h = (h, refl)

-- a line: a refusal, or what an ended line comes to
ends-line : {A : Type 0} (Q : A → List (List ℕ) → Type 0) (n : ℕ) (a b : Refusal) (c : List ℕ → List (List ℕ) → Reading A)
    (ps : List (List ℕ)) → n ≤ 36
    → ((l : List ℕ) (ls : List (List ℕ)) → lines ls ≤ lines ps → Ends Q (c l ls)) → Ends Q (on_line (refused n a) (refused n b) c ps)
unfolding on_line
ends-line Q n a b c [] h g = h
ends-line Q n a b c ([] ∷ []) h g = h
ends-line Q n a b c ((x ∷ l) ∷ []) h g = h
ends-line Q n a b c ([] ∷ m ∷ ls) h g = g [] (m ∷ ls) (omega (arith, lines-behind [] m ls))
ends-line Q n a b c ((x ∷ l) ∷ m ∷ ls) h g = g (x ∷ l) (m ∷ ls) (omega (arith, lines-behind (x ∷ l) m ls))

-- a line of names
names-end : {A : Type 0} (Q : A → List (List ℕ) → Type 0) (n : ℕ) (names : List ℕ) (x : A) (ps : List (List ℕ)) → n ≤ 36
    → ((ls : List (List ℕ)) → lines ls ≤ lines ps → Q x ls) → Ends Q (names_line n names x ps)
unfolding names_line
names-end Q n names x ps h g = ends-line Q n BadNames BadNames _ ps h (λ l ls k. go (same l names) ls k)
  where
    go : (t : Bool) (ls : List (List ℕ)) → lines ls ≤ lines ps → Ends Q (cond t (got x ls) (refused n BadNames))
    go true ls k = g ls k
    go false ls k = h

-- the settings
settings-end : (Q : Config → List (List ℕ) → Type 0) (n : ℕ) (ps : List (List ℕ)) → n ≤ 36
    → ((f : Config) (ls : List (List ℕ)) → config_ok f ≡ true → lines ls ≤ lines ps → Q f ls) → Ends Q (settings_line n ps)
unfolding settings_line
settings-end Q n ps h g = ends-line Q n BadNames OutOfRange _ ps h
    (λ l ls k. go (config_of_five (numbers_of 5 (split 32 l))) (config_ok (config_of_five (numbers_of 5 (split 32 l)))) refl ls k)
  where
    go : (f : Config) (t : Bool) → config_ok f ≡ t → (ls : List (List ℕ)) → lines ls ≤ lines ps
        → Ends Q (cond t (got f ls) (refused n OutOfRange))
    go f true e ls k = g f ls e k
    go f false e ls k = h

-- the first i rows of a table are good
pub record GoodRows (f : Config) (i : ℕ) (t : Table) : Type 0 where
  pub long : length t.rows ≡ 32
  pub good : (j : ℕ) → j < i → row_ok f j (get_or t.rows j no_row) ≡ true

good_none : (f : Config) → GoodRows f 0 empty_table
good_none f = record { long = refl; good = λ j l. absurd (omega arith) }

good_more : (f : Config) (i : ℕ) (t : Table) (r : Row) → i < 32 → row_ok f i r ≡ true → GoodRows f i t → GoodRows f (i + 1) (row_stored t i r)
good_more f i t r h e q =
    record {
      long = length-set t.rows i r ∙ q.long;
      good = λ j l. let k : j ≤ i = omega arith in ⊎_elim (λ z. here j z) (λ z. there j z) (eq-or-lt_of_le k);
    }
  where
    here : (j : ℕ) → j ≡ i → row_ok f j (get_or (set t.rows i r) j no_row) ≡ true
    here j z =
        let k : i < length t.rows = omega (arith, q.long) in
        rw (z, get_or-set_same t.rows i r no_row k) e

    there : (j : ℕ) → j < i → row_ok f j (get_or (set t.rows i r) j no_row) ≡ true
    there j z = rw (get_or-set_other t.rows i j r no_row (λ x. omega arith)) (q.good j z)

good-row : (f : Config) (i : ℕ) (x : Option (List ℕ)) → row_good f i x ≡ true → row_ok f i (row_in x) ≡ true
good-row f i (Some (j ∷ v ∷ m ∷ d ∷ [])) h =
    let r = row_in (Some (j ∷ v ∷ m ∷ d ∷ [])) in
    and_right (leb d top_request) (row_ok f i r) (and_right (eqb j (i + 1)) (leb d top_request && row_ok f i r) h)
good-row f i _ h = absurd (let z : ◌≡◌ {A = ℕ} 0 1 = cc in omega arith)

-- the rows
table-end : (Q : Table → List (List ℕ) → Type 0) (f : Config) (left i n : ℕ) (t : Table) (ps : List (List ℕ)) → n + left ≤ 36
    → i + left ≤ 32 → GoodRows f i t
    → ((u : Table) (ls : List (List ℕ)) → GoodRows f (i + left) u → lines ls ≤ lines ps → Q u ls) → Ends Q (table_lines f left i n t ps)
unfolding table_lines
table-end Q f zero i n t ps h k q g =
    let z : i ≡ i + 0 = omega arith in
    g t ps (rw z at q) (omega arith)
table-end Q f (suc left) i n t ps h k q g =
    ends-line Q n BadNames OutOfRange _ ps (omega arith)
    (λ l ls o.
    go (numbers_of 4 (split 32 l)) ls (row_good f i (numbers_of 4 (split 32 l))) refl
    (λ p.
    table-end Q f left (i + 1) (n + 1) (row_stored t i (row_in (numbers_of 4 (split 32 l)))) ls (omega arith) (omega arith) p
    (λ u rs a b.
    let z : i + 1 + left ≡ i + suc left = omega arith in
    g u rs (rw z at a) (omega arith))))
  where
    more : Option (List ℕ) → List (List ℕ) → Reading Table
    more x ls = table_lines f left (i + 1) (n + 1) (row_stored t i (row_in x)) ls

    go : (x : Option (List ℕ)) (ls : List (List ℕ)) (b : Bool) → row_good f i x ≡ b
        → (GoodRows f (i + 1) (row_stored t i (row_in x)) → Ends Q (more x ls))
        → Ends Q (cond b (more x ls) (refused n OutOfRange))
    go x ls true e r = r (good_more f i t (row_in x) (omega arith) (good-row f i x e) q)
    go x ls false e r = omega arith

-- a table whose first N rows are good loads
good-loads : (f : Config) (t : Table) → config_ok f ≡ true → GoodRows f f.nodes t → load_answer f t ≡ Done
unfolding load_answer table_ok
good-loads f t e q = rw (e, all-make 32 (λ i. leb f.nodes i || row_ok f i (get_or t.rows i no_row)) (λ i l. go i (leb f.nodes i) refl))
  where
    go : (i : ℕ) (b : Bool) → leb f.nodes i ≡ b → (b || row_ok f i (get_or t.rows i no_row)) ≡ true
    go i true h = refl
    go i false h = q.good i (leb-false f.nodes i h)

-- settings and table that are read are good, they load, their figures are those read, and no line is added
pub record WellFormed (ps : List (List ℕ)) (o : Opening) (ls : List (List ℕ)) : Type 0 where
  pub limits : Limits o.config
  pub loads : load_answer o.config o.table ≡ Done
  pub read : config_read ps ≡ o.config
  pub lines : lines ls ≤ lines ps

-- what the lines before the events come to
pub opening-ends : (ps : List (List ℕ)) → Ends (WellFormed ps) (opening ps)
unfolding opening config_read
opening-ends ps =
    let names = names_line 1 settings_names tt ps in
    ends-then (λ (u : Unit {0}) ls. (lines ls ≤ lines ps) × (names ≡ got u ls)) (WellFormed ps) names from_settings
    (ends-told (λ (u : Unit {0}) ls. lines ls ≤ lines ps) names (names-end (λ (u : Unit {0}) ls. lines ls ≤ lines ps) 1 settings_names tt ps
    (omega arith) (λ ls l. l)))
    (λ u a la.
    ends-then (λ (f : Config) ls. ((config_ok f ≡ true) × (lines ls ≤ lines ps)) × (settings_line 2 a ≡ got f ls)) (WellFormed ps)
    (settings_line 2 a) from_table
    (ends-told (λ (f : Config) ls. (config_ok f ≡ true) × (lines ls ≤ lines ps)) (settings_line 2 a)
    (settings-end (λ (f : Config) ls. (config_ok f ≡ true) × (lines ls ≤ lines ps)) 2 a (omega arith)
    (λ f ls e l. (e, omega (arith, la.0)))))
    (λ f b eb.
    ends-then (λ (v : Unit {0}) ls. lines ls ≤ lines ps) (WellFormed ps) (names_line 3 table_names tt b) (from_rows f)
    (names-end (λ (v : Unit {0}) ls. lines ls ≤ lines ps) 3 table_names tt b (omega arith) (λ ls l. omega (arith, eb.0.1)))
    (λ v d ld.
    let s : Limits f = limits f eb.0.0 in
    let read = ap (λ (r : Reading (Unit {0})). config_of (then r (λ (v : Unit {0}) c. settings_line 2 c))) la.1 ∙ ap config_of eb.1 in
    ends-then (λ (t : Table) ls. GoodRows f f.nodes t × (lines ls ≤ lines ps)) (WellFormed ps)
    (table_lines f f.nodes 0 4 empty_table d) (from_events f)
    (table-end (λ (t : Table) ls. GoodRows f f.nodes t × (lines ls ≤ lines ps)) f f.nodes 0 4 empty_table d (omega (arith, s.nodes))
    (omega (arith, s.nodes)) (good_none f)
    (λ t ls q l.
    let z : 0 + f.nodes ≡ f.nodes = omega arith in
    (rw z at q, omega arith)))
    (λ t g tg.
    names-end (WellFormed ps) (4 + f.nodes) event_names (record { config = f; table = t }) g (omega (arith, s.nodes))
    (λ ls l. record { limits = s; loads = good-loads f t eb.0.0 tg.0; read = read; lines = omega (arith, tg.1) })))))

pub opening-fine : (ps : List (List ℕ)) (o : Opening) (ls : List (List ℕ)) → opening ps ≡ got o ls → WellFormed ps o ls
opening-fine ps o ls e = subst (λ (r : Reading Opening). Ends (WellFormed ps) r) e (opening-ends ps)

-- settings and table that are read load without a refusal
pub opening-loads : (ps : List (List ℕ)) (o : Opening) (ls : List (List ℕ)) → opening ps ≡ got o ls
    → load_answer o.config o.table ≡ Done
opening-loads ps o ls e = (opening-fine ps o ls e).loads

-- the figures that are told of a script are those read, whether it opens or not
pub opened-config : (s : List ℕ) {r : Result Opened RefusedHead} → r ≡ script_head_of s (config_read (split 10 s)) (opening (split 10 s))
    → MatchResult r (λ o. o.config ≡ config_read (split 10 s)) (λ e. e.config ≡ config_read (split 10 s))
opened-config s {r} h = subst (λ (x : Result Opened RefusedHead). Told x) (sym h) (go (opening (split 10 s)) refl)
  where
    Told : Result Opened RefusedHead → Type 0
    Told x = MatchResult x (λ o. o.config ≡ config_read (split 10 s)) (λ e. e.config ≡ config_read (split 10 s))

    go : (x : Reading Opening) → opening (split 10 s) ≡ x → Told (script_head_of s (config_read (split 10 s)) x)
    go (refused n a) e = refl
    go (got o ls) e = sym (opening-fine (split 10 s) o ls e).read
