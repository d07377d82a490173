-- A script cut behind a refused line before its events is refused there again.
-- Assumes nothing.
use mathlib.Core.Path.{◌≡◌, refl, ap, ◌∙◌, subst}
use mathlib.Core.Bool.{Bool, true, false, cond}
use mathlib.Core.List.{List, [], ◌∷◌, ◌++◌, append-nil}
use Prim.Native.Nat.{ℕ, zero, suc, ◌+◌, ◌-◌, ◌≤◌}
use native.Mathlib.Omega.{arith}
use lib.ListN.{length, take}
use Rattle.lists.specs.All.{same}
use Rattle.text.specs.Read.{split}
use Rattle.text.proofs.Pieces.{HasPiece, split-some}
use Rattle.script.specs.lines.Fields.{numbers_of}
use Rattle.node.specs.declared.Refusal.{Refusal}
use Rattle.node.specs.declared.Refusal.TheVariants.{BadNames, OutOfRange}
use Rattle.node.specs.Figures.{config_ok}
use Rattle.node.specs.declared.Config.{Config}
use Rattle.site.specs.declared.Table.{Table}
use Rattle.script.specs.lines.Lines.{on_line}
use Rattle.script.specs.load.Opening.{settings_names, table_names, event_names, Reading, refused, got, names_line, config_of_five}
use Rattle.script.specs.load.Opening.{settings_line, row_in}
use Rattle.script.specs.load.Opening.{row_good, row_stored, empty_table, table_lines, then, opening}
use Rattle.script.proofs.lines.Lines.{on-cut}
use Rattle.reduce.specs.Reduced.{TextLine, lines_in, joined_lines}
use Rattle.reduce.proofs.Heads.{Got, some-append, Headed, Heads, names-head, settings-head, table-head}
use Rattle.reduce.proofs.Lines.{AllClean, split-clean}
use Rattle.reduce.proofs.ReadAgain.{split-ended, split-open}

-- the pieces of the first k lines
unfoldable cut : ℕ → List (List ℕ) → List (List ℕ)
cut zero ps = [] ∷ []
cut (suc k) [] = []
cut (suc k) (l ∷ []) = l ∷ []
cut (suc k) (l ∷ m ∷ ls) = l ∷ cut k (m ∷ ls)

cut-some : (k : ℕ) (ps : List (List ℕ)) → HasPiece ps → HasPiece (cut k ps)
unfolding cut
cut-some zero ps h = tt
cut-some (suc k) [] h = absurd h
cut-some (suc k) (l ∷ []) h = tt
cut-some (suc k) (l ∷ m ∷ ls) h = tt

cut-more : (k : ℕ) (l : List ℕ) (ps : List (List ℕ)) → HasPiece ps → cut (suc k) (l ∷ ps) ≡ l ∷ cut k ps
unfolding cut
cut-more k l [] h = absurd h
cut-more k l (p ∷ ps) h = refl

cut-head : (hs ls : List (List ℕ)) (j k : ℕ) → j ≡ length hs + k → HasPiece ls → cut j (hs ++ ls) ≡ hs ++ cut k ls
cut-head [] ls j k e h =
    let z : j ≡ k = omega (arith, e) in
    ap (λ (i : ℕ). cut i ls) z
cut-head (p ∷ hs) ls j k e h =
    let z : j ≡ suc (length hs + k) = omega (arith, e) in
    ap (λ (i : ℕ). cut i (p ∷ (hs ++ ls))) z
    ∙ cut-more (length hs + k) p (hs ++ ls) (some-append hs ls h)
    ∙ ap (λ (r : List (List ℕ)). p ∷ r) (cut-head hs ls (length hs + k) k refl h)

take_none : (k : ℕ) → ◌≡◌ {A = List TextLine} (take k []) []
take_none zero = refl
take_none (suc k) = refl

split-first : (k : ℕ) (ps : List (List ℕ)) → AllClean ps → HasPiece ps → split 10 (joined_lines (take k (lines_in ps))) ≡ cut k ps
unfolding cut lines_in joined_lines split
split-first zero ps c h = refl
split-first (suc k) [] c h = absurd h
split-first (suc k) ([] ∷ []) c h = refl
split-first (suc k) ((b ∷ l) ∷ []) c h =
    ap (λ (ls : List TextLine). split 10 ((b ∷ l) ++ joined_lines ls)) (take_none k) ∙ ap (split 10) (append-nil (b ∷ l))
    ∙ split-open (b ∷ l) c.0
split-first (suc k) (l ∷ m ∷ ls) c h =
    split-ended l (joined_lines (take k (lines_in (m ∷ ls)))) c.0 ∙ ap (λ (r : List (List ℕ)). l ∷ r) (split-first k (m ∷ ls) c.1 tt)

-- what holds of a refusal
abbrev Bad : {A : Type 0} → (ℕ → Refusal → Type 0) → Reading A → Type 0
Bad Q (refused n a) = Q n a
Bad Q (got x ls) = Unit {0}

bad-map : {A : Type 0} (Q R : ℕ → Refusal → Type 0) (r : Reading A) → Bad Q r → ((n : ℕ) (a : Refusal) → Q n a → R n a) → Bad R r
bad-map Q R (refused n a) h f = f n a h
bad-map Q R (got x ls) h f = tt

-- a reading that starts at line m refuses line n again where only the lines up to it are left
abbrev CutAt : {A : Type 0} → (List (List ℕ) → Reading A) → ℕ → List (List ℕ) → ℕ → Refusal → Type 0
CutAt f m ps n x = (m ≤ n) × (f (cut (suc (n - m)) ps) ≡ refused n x)

abbrev Refuses : {A : Type 0} → (List (List ℕ) → Reading A) → ℕ → Type 0
Refuses f m = (ps : List (List ℕ)) → HasPiece ps → Bad (CutAt f m ps) (f ps)

-- a line that is tested, and the reading behind it
module _ {A : Type 0} (m : ℕ) (a b d : Refusal) (t : List ℕ → Bool) (g : List ℕ → List (List ℕ) → Reading A) where
  abbrev tested : List ℕ → List (List ℕ) → Reading A
  tested l ls = cond (t l) (g l ls) (refused m d)

  abbrev on_tested : List (List ℕ) → Reading A
  on_tested q = on_line (refused m a) (refused m b) tested q

  cut_line : (k : ℕ) (l p : List ℕ) (ls : List (List ℕ)) → on_tested (cut (suc k) (l ∷ p ∷ ls)) ≡ tested l (cut k (p ∷ ls))
  unfolding cut
  cut_line k l p ls = on-cut (refused m a) (refused m b) tested l (cut k (p ∷ ls)) (cut-some k (p ∷ ls) tt)

  refuses-behind : (h : (l : List ℕ) → Refuses (g l) (m + 1)) (l p : List ℕ) (ls : List (List ℕ))
      → Bad (CutAt on_tested m (l ∷ p ∷ ls)) (tested l (p ∷ ls))
  refuses-behind h l p ls = go (t l) refl
    where
      go : (u : Bool) → t l ≡ u → Bad (CutAt on_tested m (l ∷ p ∷ ls)) (cond u (g l (p ∷ ls)) (refused m d))
      go false e = (omega arith, cut_line (m - m) l p ls ∙ ap (λ (v : Bool). cond v (g l (cut (m - m) (p ∷ ls))) (refused m d)) e)
      go true e =
          bad-map (CutAt (g l) (m + 1) (p ∷ ls)) (CutAt on_tested m (l ∷ p ∷ ls)) (g l (p ∷ ls)) (h l (p ∷ ls) tt)
          (λ n x q.
          let z : n - m ≡ suc (n - (m + 1)) = omega (arith, q.0) in (
            omega (arith, q.0),
            cut_line (n - m) l p ls ∙ ap (λ (v : Bool). cond v (g l (cut (n - m) (p ∷ ls))) (refused m d)) e
                ∙ ap (λ (k : ℕ). g l (cut k (p ∷ ls))) z ∙ q.1,
          ))

  line-refuses : ((l : List ℕ) → Refuses (g l) (m + 1)) → Refuses on_tested m
  unfolding on_line cut
  line-refuses h [] s = absurd s
  line-refuses h ([] ∷ []) s = (omega arith, refl)
  line-refuses h ((x ∷ l) ∷ []) s = (omega arith, refl)
  line-refuses h ([] ∷ p ∷ ls) s = refuses-behind h [] p ls
  line-refuses h ((x ∷ l) ∷ p ∷ ls) s = refuses-behind h (x ∷ l) p ls

-- one reading after another
then-refuses : {A B : Type 0} (f : List (List ℕ) → Reading A) (k : A → List (List ℕ) → Reading B) (m c : ℕ) → Refuses f m → Heads f c
    → ((x : A) → Refuses (k x) (m + c)) → Refuses (λ q. then (f q) k) m
then-refuses {A} {B} f k m c hf hd hk ps s = go (f ps) (hf ps s) (hd ps s)
  where
    go : (r : Reading A) → Bad (CutAt f m ps) r → Got (Headed f c ps) r → Bad (CutAt (λ q. then (f q) k) m ps) (then r k)
    go (refused n x) p q = (p.0, ap (λ (r : Reading A). then r k) p.1)
    go (got x ls) p q =
        bad-map (CutAt (k x) (m + c) ls) (CutAt (λ r. then (f r) k) m ps) (k x ls) (hk x ls q.more)
        (λ n y z.
        let j : suc (n - m) ≡ length q.head + suc (n - (m + c)) = omega (arith, z.0, q.long) in (
          omega (arith, z.0),
          ap (λ (r : List (List ℕ)). then (f (cut (suc (n - m)) r)) k) q.is
              ∙ ap (λ (r : List (List ℕ)). then (f r) k) (cut-head q.head ls (suc (n - m)) (suc (n - (m + c))) j q.more)
              ∙ ap (λ (r : Reading A). then r k) (q.same (cut (suc (n - (m + c))) ls) (cut-some (suc (n - (m + c))) ls q.more))
              ∙ z.1,
        ))

names-refuse : {A : Type 0} (n : ℕ) (names : List ℕ) (x : A) → Refuses (names_line n names x) n
unfolding names_line
names-refuse n names x = line-refuses n BadNames BadNames BadNames (λ l. same l names) (λ l ls. got x ls) (λ l ps s. tt)

settings-refuse : (n : ℕ) → Refuses (settings_line n) n
unfolding settings_line
settings-refuse n =
    line-refuses n BadNames OutOfRange OutOfRange (λ l. config_ok (config_of_five (numbers_of 5 (split 32 l))))
    (λ l ls. got (config_of_five (numbers_of 5 (split 32 l))) ls) (λ l ps s. tt)

table-refuse : (f : Config) (left i n : ℕ) (t : Table) → Refuses (table_lines f left i n t) n
unfolding table_lines
table-refuse f zero i n t = λ ps s. tt
table-refuse f (suc left) i n t =
    line-refuses n BadNames OutOfRange OutOfRange (λ l. row_good f i (numbers_of 4 (split 32 l)))
    (λ l ls. table_lines f left (i + 1) (n + 1) (row_stored t i (row_in (numbers_of 4 (split 32 l)))) ls)
    (λ l. table-refuse f left (i + 1) (n + 1) (row_stored t i (row_in (numbers_of 4 (split 32 l)))))

-- the lines before the events
opening-refuses : Refuses opening 1
unfolding opening
opening-refuses =
    then-refuses (names_line 1 settings_names tt)
    (λ (u : Unit {0}) a.
    then (settings_line 2 a) (λ f b.
    then (names_line 3 table_names tt b) (λ (v : Unit {0}) c.
    then (table_lines f f.nodes 0 4 empty_table c) (λ t d.
    names_line (4 + f.nodes) event_names (record { config = f; table = t }) d))))
    1 1 (names-refuse 1 settings_names tt) (names-head 1 settings_names tt)
    (λ u.
    then-refuses (settings_line 2)
    (λ f b.
    then (names_line 3 table_names tt b) (λ (v : Unit {0}) c.
    then (table_lines f f.nodes 0 4 empty_table c) (λ t d.
    names_line (4 + f.nodes) event_names (record { config = f; table = t }) d)))
    2 1 (settings-refuse 2) (settings-head 2)
    (λ f.
    then-refuses (names_line 3 table_names tt)
    (λ (v : Unit {0}) c.
    then (table_lines f f.nodes 0 4 empty_table c) (λ t d.
    names_line (4 + f.nodes) event_names (record { config = f; table = t }) d))
    3 1 (names-refuse 3 table_names tt) (names-head 3 table_names tt)
    (λ v.
    then-refuses (table_lines f f.nodes 0 4 empty_table)
    (λ t d. names_line (4 + f.nodes) event_names (record { config = f; table = t }) d)
    4 f.nodes (table-refuse f f.nodes 0 4 empty_table) (table-head f f.nodes 0 4 empty_table)
    (λ t. names-refuse (4 + f.nodes) event_names (record { config = f; table = t })))))

pub refused-again : (s : List ℕ) (n : ℕ) (x : Refusal) → opening (split 10 s) ≡ refused n x
    → opening (split 10 (joined_lines (take n (lines_in (split 10 s))))) ≡ refused n x
refused-again s n x e =
    let q = subst (Bad (CutAt opening 1 (split 10 s))) e (opening-refuses (split 10 s) (split-some 10 s)) in
    let z : n ≡ suc (n - 1) = omega (arith, q.0) in
    ap opening (split-first n (split 10 s) (split-clean s) (split-some 10 s))
    ∙ ap (λ (k : ℕ). opening (cut k (split 10 s))) z
    ∙ q.1
