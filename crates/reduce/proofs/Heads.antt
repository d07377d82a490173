-- What the lines before the events are read from: so many lines, whatever stands behind them.
-- Assumes nothing.
use mathlib.Core.Path.{◌≡◌, refl, sym, ap, ◌∙◌}
use mathlib.Core.Bool.{Bool, true, false, cond}
use mathlib.Core.List.{List, [], ◌∷◌, ◌++◌, append_assoc}
use Prim.Native.Nat.{ℕ, zero, suc, ◌+◌}
use lib.ListN.{length}
use Rattle.lists.specs.All.{same}
use Rattle.text.specs.Read.{split}
use Rattle.text.proofs.Pieces.{HasPiece}
use Rattle.script.specs.lines.Fields.{numbers_of}
use Rattle.node.specs.declared.Refusal.{Refusal}
use Rattle.node.specs.declared.Refusal.TheVariants.{BadNames, OutOfRange}
use Rattle.node.specs.Figures.{config_ok}
use Rattle.node.specs.declared.Config.{Config}
use Rattle.site.specs.declared.Table.{Table}
use Rattle.script.specs.lines.Lines.{on_line}
use Rattle.script.specs.load.Opening.{settings_names, table_names, event_names, Reading, refused, got, names_line, config_of_five}
use Rattle.script.specs.load.Opening.{settings_line, row_in}
use Rattle.script.specs.load.Opening.{row_good, row_stored, empty_table, table_lines, then, opening}
use Rattle.script.proofs.lines.Lines.{on-cut}

-- what holds of a value that was read and the lines behind it
abbrev pub Got : {A : Type 0} → (A → List (List ℕ) → Type 0) → Reading A → Type 0
Got Q (refused n a) = Unit {0}
Got Q (got x ls) = Q x ls

pub got-map : {A : Type 0} (Q R : A → List (List ℕ) → Type 0) (r : Reading A) → Got Q r → ((x : A) (ls : List (List ℕ)) → Q x ls → R x ls)
    → Got R r
got-map Q R (refused n a) h f = tt
got-map Q R (got x ls) h f = f x ls h

pub some-append : (a ms : List (List ℕ)) → HasPiece ms → HasPiece (a ++ ms)
some-append [] ms h = h
some-append (l ∷ a) ms h = tt

-- a reading has read k lines, and reads the same of them whatever stands behind
pub record Headed {A : Type 0} (f : List (List ℕ) → Reading A) (k : ℕ) (ps : List (List ℕ)) (x : A) (ls : List (List ℕ)) : Type 0 where
  pub head : List (List ℕ)
  pub is : ps ≡ head ++ ls
  pub long : length head ≡ k
  pub same : (ms : List (List ℕ)) → HasPiece ms → f (head ++ ms) ≡ got x ms
  pub more : HasPiece ls

abbrev pub Heads : {A : Type 0} → (List (List ℕ) → Reading A) → ℕ → Type 0
Heads f k = (ps : List (List ℕ)) → HasPiece ps → Got (Headed f k ps) (f ps)

got-heads : {A : Type 0} (x : A) → Heads (λ q. got x q) 0
got-heads x ps s = record { head = []; is = refl; long = refl; same = λ ms h. refl; more = s }

-- a line that is tested, and the reading behind it
module _ {A : Type 0} (m : ℕ) (a b d : Refusal) (t : List ℕ → Bool) (g : List ℕ → List (List ℕ) → Reading A) where
  abbrev pub tested : List ℕ → List (List ℕ) → Reading A
  tested l ls = cond (t l) (g l ls) (refused m d)

  abbrev pub on_tested : List (List ℕ) → Reading A
  on_tested q = on_line (refused m a) (refused m b) tested q

  heads-behind : (k : ℕ) (h : (l : List ℕ) → Heads (g l) k) (l p : List ℕ) (ls : List (List ℕ))
      → Got (Headed on_tested (suc k) (l ∷ p ∷ ls)) (tested l (p ∷ ls))
  heads-behind k h l p ls = go (t l) refl
    where
      go : (u : Bool) → t l ≡ u → Got (Headed on_tested (suc k) (l ∷ p ∷ ls)) (cond u (g l (p ∷ ls)) (refused m d))
      go false e = tt
      go true e =
          got-map (Headed (g l) k (p ∷ ls)) (Headed on_tested (suc k) (l ∷ p ∷ ls)) (g l (p ∷ ls)) (h l (p ∷ ls) tt)
          (λ x ms q.
          record {
            head = l ∷ q.head;
            is = ap (λ (r : List (List ℕ)). l ∷ r) q.is;
            long = ap suc q.long;
            same = λ ns s.
                on-cut (refused m a) (refused m b) tested l (q.head ++ ns) (some-append q.head ns s)
                ∙ ap (λ (v : Bool). cond v (g l (q.head ++ ns)) (refused m d)) e
                ∙ q.same ns s;
            more = q.more;
          })

  line-heads : (k : ℕ) → ((l : List ℕ) → Heads (g l) k) → Heads on_tested (suc k)
  unfolding on_line
  line-heads k h [] s = tt
  line-heads k h ([] ∷ []) s = tt
  line-heads k h ((x ∷ l) ∷ []) s = tt
  line-heads k h ([] ∷ p ∷ ls) s = heads-behind k h [] p ls
  line-heads k h ((x ∷ l) ∷ p ∷ ls) s = heads-behind k h (x ∷ l) p ls

pub names-head : {A : Type 0} (n : ℕ) (names : List ℕ) (x : A) → Heads (names_line n names x) 1
unfolding names_line
names-head n names x = line-heads n BadNames BadNames BadNames (λ l. same l names) (λ l ls. got x ls) 0 (λ l. got-heads x)

pub settings-head : (n : ℕ) → Heads (settings_line n) 1
unfolding settings_line
settings-head n =
    line-heads n BadNames OutOfRange OutOfRange (λ l. config_ok (config_of_five (numbers_of 5 (split 32 l))))
    (λ l ls. got (config_of_five (numbers_of 5 (split 32 l))) ls) 0
    (λ l. got-heads (config_of_five (numbers_of 5 (split 32 l))))

pub table-head : (f : Config) (left i n : ℕ) (t : Table) → Heads (table_lines f left i n t) left
unfolding table_lines
table-head f zero i n t = got-heads t
table-head f (suc left) i n t =
    line-heads n BadNames OutOfRange OutOfRange (λ l. row_good f i (numbers_of 4 (split 32 l)))
    (λ l ls. table_lines f left (i + 1) (n + 1) (row_stored t i (row_in (numbers_of 4 (split 32 l)))) ls) left
    (λ l. table-head f left (i + 1) (n + 1) (row_stored t i (row_in (numbers_of 4 (split 32 l)))))

-- a reading has read some lines
pub record Read {A : Type 0} (f : List (List ℕ) → Reading A) (ps : List (List ℕ)) (x : A) (ls : List (List ℕ)) : Type 0 where
  pub head : List (List ℕ)
  pub is : ps ≡ head ++ ls
  pub same : (ms : List (List ℕ)) → HasPiece ms → f (head ++ ms) ≡ got x ms
  pub more : HasPiece ls

abbrev pub Reads : {A : Type 0} → (List (List ℕ) → Reading A) → Type 0
Reads f = (ps : List (List ℕ)) → HasPiece ps → Got (Read f ps) (f ps)

heads-read : {A : Type 0} (f : List (List ℕ) → Reading A) (k : ℕ) → Heads f k → Reads f
heads-read f k h ps s = got-map (Headed f k ps) (Read f ps) (f ps) (h ps s)
    (λ x ls q. record { head = q.head; is = q.is; same = q.same; more = q.more })

-- one reading after another
then-reads : {A B : Type 0} (f : List (List ℕ) → Reading A) (k : A → List (List ℕ) → Reading B) → Reads f → ((x : A) → Reads (k x))
    → Reads (λ q. then (f q) k)
then-reads {A} {B} f k h g ps s = go (f ps) (h ps s)
  where
    go : (r : Reading A) → Got (Read f ps) r → Got (Read (λ q. then (f q) k) ps) (then r k)
    go (refused n a) p = tt
    go (got x ls) p =
        got-map (Read (k x) ls) (Read (λ q. then (f q) k) ps) (k x ls) (g x ls p.more)
        (λ y ms q.
        record {
          head = p.head ++ q.head;
          is = p.is ∙ ap (λ (r : List (List ℕ)). p.head ++ r) q.is ∙ sym (append_assoc p.head q.head ms);
          same = λ ns t.
              ap (λ (r : List (List ℕ)). then (f r) k) (append_assoc p.head q.head ns)
              ∙ ap (λ (r : Reading A). then r k) (p.same (q.head ++ ns) (some-append q.head ns t))
              ∙ q.same ns t;
          more = q.more;
        })

-- the lines before the events
pub opening-read : Reads opening
unfolding opening
opening-read =
    then-reads (names_line 1 settings_names tt)
    (λ (u : Unit {0}) a.
    then (settings_line 2 a) (λ f b.
    then (names_line 3 table_names tt b) (λ (v : Unit {0}) c.
    then (table_lines f f.nodes 0 4 empty_table c) (λ t d.
    names_line (4 + f.nodes) event_names (record { config = f; table = t }) d))))
    (heads-read (names_line 1 settings_names tt) 1 (names-head 1 settings_names tt))
    (λ u.
    then-reads (settings_line 2)
    (λ f b.
    then (names_line 3 table_names tt b) (λ (v : Unit {0}) c.
    then (table_lines f f.nodes 0 4 empty_table c) (λ t d.
    names_line (4 + f.nodes) event_names (record { config = f; table = t }) d)))
    (heads-read (settings_line 2) 1 (settings-head 2))
    (λ f.
    then-reads (names_line 3 table_names tt)
    (λ (v : Unit {0}) c.
    then (table_lines f f.nodes 0 4 empty_table c) (λ t d.
    names_line (4 + f.nodes) event_names (record { config = f; table = t }) d))
    (heads-read (names_line 3 table_names tt) 1 (names-head 3 table_names tt))
    (λ v.
    then-reads (table_lines f f.nodes 0 4 empty_table)
    (λ t d. names_line (4 + f.nodes) event_names (record { config = f; table = t }) d)
    (heads-read (table_lines f f.nodes 0 4 empty_table) f.nodes (table-head f f.nodes 0 4 empty_table))
    (λ t. heads-read (names_line (4 + f.nodes) event_names (record { config = f; table = t })) 1
    (names-head (4 + f.nodes) event_names (record { config = f; table = t }))))))
