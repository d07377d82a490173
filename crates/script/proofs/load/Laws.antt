-- The lines before the events, one by one.
-- Assumes nothing.
use mathlib.Core.Path.{◌≡◌, refl, sym, ap, ◌∙◌, subst}
use mathlib.Core.Bool.{Bool, true, false, cond}
use mathlib.Core.List.{List, [], ◌∷◌}
use Prim.Native.Nat.{ℕ, zero, suc, ◌+◌, ◌-◌, ◌≤◌, ◌<◌}
use native.Mathlib.Omega.{arith}
use lib.Dec.{eqb}
use lib.ListN.{length, get_or, take, drop, length-drop}
use Rattle.lists.specs.All.{same}
use Rattle.text.specs.Read.{front, split}
use Rattle.text.proofs.Pieces.{HasPiece, split-some}
use Rattle.script.specs.lines.Lines.{on_line, line_at}
use Rattle.script.specs.lines.Fields.{numbers_of}
use Rattle.script.specs.declared.Line.TheVariants.{Nothing, Open}
use Rattle.std.specs.Bool.{then_some}
use Rattle.std.specs.Prelude.{Option, Some, None, Result, Ok, Err, IfOk}
use Rattle.node.specs.declared.Refusal.{Refusal}
use Rattle.node.specs.declared.Refusal.TheVariants.{BadNames, OutOfRange}
use Rattle.node.proofs.Bounds.{bounds}
use Rattle.node.specs.Figures.{config_ok, no_config}
use Rattle.node.specs.declared.Config.{Config}
use Rattle.site.specs.declared.Row.{Row}
use Rattle.site.specs.declared.Table.{Table}
use Rattle.script.specs.load.Opening.{Reading, refused, got, names_line, config_of_five, settings_line, row_in, row_good, row_stored}
use Rattle.script.specs.load.Opening.{settings_names, table_names, event_names, config_of, config_read, opening}
use Rattle.script.specs.load.Opening.{empty_table, table_lines, Opening, then, bytes_in, lines_start, script_head_of, read_back}
use Rattle.script.specs.load.Inner.{Gives, Stops, name_line, any_line, good_config, found_row}
use Rattle.script.specs.declared.RefusedHead.{RefusedHead}
use Rattle.script.specs.declared.Opened.{Opened}
use Rattle.script.proofs.lines.Lines.{Whole, on_none, on-open, on-whole}

-- a line of names that is ended
pub names-whole : {A : Type 0} (n : ℕ) (names : List ℕ) (x : A) {s : List ℕ} {at e : ℕ} (t : Bool) → Whole s at e
    → same (take (e - at) (drop at s)) names ≡ t
    → names_line n names x (split 10 (drop at s)) ≡ cond t (got x (split 10 (drop (e + 1) s))) (refused n BadNames)
unfolding names_line
names-whole n names x {s} {at} {e} t w h = on-whole _ _ _ s at w
    ∙ ap (λ (b : Bool). cond b (got x (split 10 (drop (e + 1) s))) (refused n BadNames)) h

-- the pieces of a text take as many bytes as it has
bytes-first : (ps : List (List ℕ)) → HasPiece ps → bytes_in ([] ∷ ps) ≡ suc (bytes_in ps)
unfolding bytes_in
bytes-first [] h = absurd h
bytes-first (p ∷ ps) h = omega arith

bytes-front : (b : ℕ) (ps : List (List ℕ)) → HasPiece ps → bytes_in (front b ps) ≡ suc (bytes_in ps)
unfolding bytes_in front
bytes-front b [] h = absurd h
bytes-front b (p ∷ []) h = refl
bytes-front b (p ∷ q ∷ ps) h = omega arith

bytes-split : (c : ℕ) (s : List ℕ) → bytes_in (split c s) ≡ length s
unfolding bytes_in split
bytes-split c [] = refl
bytes-split c (b ∷ s) = go (eqb b c) (bytes-split c s)
  where
    go : (t : Bool) → bytes_in (split c s) ≡ length s → bytes_in (cond t ([] ∷ split c s) (front b (split c s))) ≡ suc (length s)
    go true h = bytes-first (split c s) (split-some c s) ∙ ap suc h
    go false h = bytes-front b (split c s) (split-some c s) ∙ ap suc h

-- so the lines from a place on determine it
place-back : (s : List ℕ) (i : ℕ) → i ≤ length s → lines_start s (split 10 (drop i s)) ≡ i
place-back s i h = omega (arith, bytes-split 10 (drop i s), length-drop i s)

-- what a reading gives or refuses, the one that is the same does
pub gives_same : {A : Type 0} {s : List ℕ} {x y : Reading A} {v : A} {at : ℕ} → y ≡ x → Gives s x v at → Gives s y v at
gives_same h g = record { is = h ∙ g.is; within = g.within }

pub stops_same : {A : Type 0} {f : Config} {x y : Reading A} {e : RefusedHead} → y ≡ x → Stops f x e → Stops f y e
stops_same h g = record { is = h ∙ g.is; config = g.config }

-- a line that is refused as it stands, whatever would follow it
pub line-stops : {A : Type 0} {f : Config} (n : ℕ) (r : Refusal) (k : List ℕ → List (List ℕ) → Reading A) (ps : List (List ℕ))
    {e : RefusedHead} → Stops f (any_line n r ps) e → Stops f (on_line (refused n BadNames) (refused n r) k ps) e
unfolding on_line
line-stops {A} n r k ps {e} h = record { is = go ps h.is; config = h.config }
  where
    label : Reading (List ℕ) → Reading A
    label (refused m a) = refused m a
    label (got x ls) = refused 0 BadNames

    go : (qs : List (List ℕ)) → any_line n r qs ≡ refused e.line e.refusal
        → on_line (refused n BadNames) (refused n r) k qs ≡ refused e.line e.refusal
    go [] q = ap label q
    go ([] ∷ []) q = ap label q
    go ((b ∷ l) ∷ []) q = ap label q
    go ([] ∷ m ∷ ls) q = absurd (let z : ◌≡◌ {A = ℕ} 0 1 = cc in omega arith)
    go ((b ∷ l) ∷ m ∷ ls) q = absurd (let z : ◌≡◌ {A = ℕ} 0 1 = cc in omega arith)

-- figures that are numbers of a line
pub figures : (x : List ℕ) → length x ≡ 5 → config_of_five (Some x)
    ≡ record { nodes = get_or x 0 0; slots = get_or x 1 0; rounds = get_or x 2 0; min_heard = get_or x 3 0; split = get_or x 4 0 }
figures (a ∷ b ∷ c ∷ d ∷ e ∷ []) h = refl
figures _ h = absurd (omega arith)

pub some_when : {A : Type 0} (b : Bool) (x : A) → then_some b x ≡ cond b (Some x) None
some_when true x = refl
some_when false x = refl

-- there is a node, so no figures are none
pub no-figures : good_config None ≡ None
no-figures = go (config_ok no_config) refl
  where
    go : (t : Bool) → config_ok no_config ≡ t → cond t (Some no_config) None ≡ None
    go true e = absurd (omega (arith, (bounds no_config e).nodes-from))
    go false e = refl

-- a line of settings that is ended
module _ (n : ℕ) {s : List ℕ} {at e : ℕ} (w : Whole s at e) {x : Option (List ℕ)}
    (g : x ≡ numbers_of 5 (split 32 (take (e - at) (drop at s)))) where
  settings-whole : settings_line n (split 10 (drop at s))
      ≡ cond (config_ok (config_of_five x)) (got (config_of_five x) (split 10 (drop (e + 1) s))) (refused n OutOfRange)
  unfolding settings_line
  settings-whole = on-whole _ _ _ s at w
      ∙ ap (λ (y : Option (List ℕ)). cond (config_ok (config_of_five y)) (got (config_of_five y) (split 10 (drop (e + 1) s)))
      (refused n OutOfRange)) (sym g)

  pub settings-bad : good_config x ≡ None → settings_line n (split 10 (drop at s)) ≡ refused n OutOfRange
  settings-bad h = settings-whole ∙ go (config_ok (config_of_five x)) h
    where
      go : (b : Bool) → cond b (Some (config_of_five x)) None ≡ None
          → cond b (got (config_of_five x) (split 10 (drop (e + 1) s))) (refused n OutOfRange) ≡ refused n OutOfRange
      go true k = absurd (let z : ◌≡◌ {A = ℕ} 0 1 = cc in omega arith)
      go false k = refl

  pub settings-good : (f : Config) → good_config x ≡ Some f → settings_line n (split 10 (drop at s)) ≡ got f (split 10 (drop (e + 1) s))
  settings-good f h = settings-whole ∙ go (config_ok (config_of_five x)) h
    where
      go : (b : Bool) → cond b (Some (config_of_five x)) None ≡ Some f
          → cond b (got (config_of_five x) (split 10 (drop (e + 1) s))) (refused n OutOfRange) ≡ got f (split 10 (drop (e + 1) s))
      go true k = let y : config_of_five x ≡ f = cc in ap (λ (z : Config). got z (split 10 (drop (e + 1) s))) y
      go false k = absurd (let z : ◌≡◌ {A = ℕ} 0 1 = cc in omega arith)

-- the rows of the table: none is left
pub rows_none : (f : Config) (left i n : ℕ) (t : Table) (ls : List (List ℕ)) → left ≡ 0 → table_lines f left i n t ls ≡ got t ls
unfolding table_lines
rows_none f zero i n t ls h = refl
rows_none f (suc left) i n t ls h = absurd (omega arith)

-- one is left: a line that is refused as it stands, and one that is ended
module _ (f : Config) (all i n : ℕ) (t : Table) (more : i < all) (s : List ℕ) (at : ℕ) where
  one_less : table_lines f (all - i) i n t (split 10 (drop at s)) ≡ table_lines f (suc (all - (i + 1))) i n t (split 10 (drop at s))
  one_less =
      let k : all - i ≡ suc (all - (i + 1)) = omega arith in
      ap (λ (k : ℕ). table_lines f k i n t (split 10 (drop at s))) k

  pub rows-stop : {e : RefusedHead} → Stops f (any_line n OutOfRange (split 10 (drop at s))) e
      → Stops f (table_lines f (all - i) i n t (split 10 (drop at s))) e
  unfolding table_lines
  rows-stop h = stops_same one_less (line-stops n OutOfRange _ (split 10 (drop at s)) h)

  module _ {e : ℕ} (w : Whole s at e) {x : Option (List ℕ)} (g : x ≡ numbers_of 4 (split 32 (take (e - at) (drop at s)))) where
    rows_whole : table_lines f (all - i) i n t (split 10 (drop at s))
        ≡ cond (row_good f i x) (table_lines f (all - (i + 1)) (i + 1) (n + 1) (row_stored t i (row_in x)) (split 10 (drop (e + 1) s)))
        (refused n OutOfRange)
    unfolding table_lines
    rows_whole =
        one_less ∙ on-whole _ _ _ s at w
        ∙ ap (λ (y : Option (List ℕ)). cond (row_good f i y)
        (table_lines f (all - (i + 1)) (i + 1) (n + 1) (row_stored t i (row_in y)) (split 10 (drop (e + 1) s)))
        (refused n OutOfRange)) (sym g)

    pub rows-bad : found_row f i x ≡ None → table_lines f (all - i) i n t (split 10 (drop at s)) ≡ refused n OutOfRange
    rows-bad h = rows_whole ∙ go (row_good f i x) h
      where
        go : (b : Bool) → cond b (Some (row_in x)) None ≡ None
            → cond b (table_lines f (all - (i + 1)) (i + 1) (n + 1) (row_stored t i (row_in x)) (split 10 (drop (e + 1) s)))
            (refused n OutOfRange) ≡ refused n OutOfRange
        go true k = absurd (let z : ◌≡◌ {A = ℕ} 0 1 = cc in omega arith)
        go false k = refl

    pub rows-good : (r : Row) (m : ℕ) → found_row f i x ≡ Some r → m ≡ n + 1
        → table_lines f (all - i) i n t (split 10 (drop at s)) ≡ table_lines f (all - (i + 1)) (i + 1) m (row_stored t i r)
        (split 10 (drop (e + 1) s))
    rows-good r m h q = rows_whole ∙ go (row_good f i x) h ∙ ap (λ (k : ℕ). table_lines f (all - (i + 1)) (i + 1) k (row_stored t i r)
        (split 10 (drop (e + 1) s))) (sym q)
      where
        go : (b : Bool) → cond b (Some (row_in x)) None ≡ Some r
            → cond b (table_lines f (all - (i + 1)) (i + 1) (n + 1) (row_stored t i (row_in x)) (split 10 (drop (e + 1) s)))
            (refused n OutOfRange)
            ≡ table_lines f (all - (i + 1)) (i + 1) (n + 1) (row_stored t i r) (split 10 (drop (e + 1) s))
        go true k = let y : row_in x ≡ r = cc in ap (λ (a : Row). table_lines f (all - (i + 1)) (i + 1) (n + 1) (row_stored t i a)
            (split 10 (drop (e + 1) s))) y
        go false k = absurd (let z : ◌≡◌ {A = ℕ} 0 1 = cc in omega arith)

-- what follows a refusal, and what follows a value
module _ {A B : Type 0} {x : Reading A} (k : A → List (List ℕ) → Reading B) where
  then-stops : {f : Config} {e : RefusedHead} → Stops f x e → Stops f (then x k) e
  then-stops h = record { is = ap (λ (y : Reading A). then y k) h.is; config = h.config }

  then-got : (v : A) (ls : List (List ℕ)) → x ≡ got v ls → then x k ≡ k v ls
  then-got v ls h = ap (λ (y : Reading A). then y k) h

-- a line of names with another value
abbrev relabel : {A : Type 0} → A → Reading (Unit {0}) → Reading A
relabel x (refused m a) = refused m a
relabel x (got u ls) = got x ls

relabelled : {A : Type 0} (n : ℕ) (names : List ℕ) (x : A) (ps : List (List ℕ)) → names_line n names x ps ≡ relabel x (name_line n names ps)
unfolding names_line on_line
relabelled n names x [] = refl
relabelled n names x ([] ∷ []) = refl
relabelled n names x ((b ∷ l) ∷ []) = refl
relabelled {A} n names x ([] ∷ m ∷ ls) = go (same [] names)
  where
    go : (t : Bool) → cond t (got x (m ∷ ls)) (refused n BadNames) ≡ relabel x (cond t (got tt (m ∷ ls)) (refused n BadNames))
    go true = refl
    go false = refl
relabelled {A} n names x ((b ∷ l) ∷ m ∷ ls) = go (same (b ∷ l) names)
  where
    go : (t : Bool) → cond t (got x (m ∷ ls)) (refused n BadNames) ≡ relabel x (cond t (got tt (m ∷ ls)) (refused n BadNames))
    go true = refl
    go false = refl

-- the parts of the opening, from each of its lines on
abbrev pub from_events : Config → Table → List (List ℕ) → Reading Opening
from_events f t ls = names_line (4 + f.nodes) event_names (record { config = f; table = t }) ls

abbrev pub from_rows : Config → Unit {0} → List (List ℕ) → Reading Opening
from_rows f v ls = then (table_lines f f.nodes 0 4 empty_table ls) (from_events f)

abbrev pub from_table : Config → List (List ℕ) → Reading Opening
from_table f ls = then (name_line 3 table_names ls) (from_rows f)

abbrev pub from_settings : Unit {0} → List (List ℕ) → Reading Opening
from_settings u ls = then (settings_line 2 ls) from_table

-- r is what opening the script s comes to
pub record Told (s : List ℕ) (r : Result Opened RefusedHead) : Type 0 where
  pub value : r ≡ script_head_of s (config_read (split 10 s)) (opening (split 10 s))
  pub lines : read_back s r ≡ opening (split 10 s)
  pub within : IfOk r (λ o. o.at ≤ length s)

-- a refusal that is passed on
pub told_on : {s : List ℕ} {r q : Result Opened RefusedHead} → q ≡ r → Told s r → Told s q
told_on {s} h t = subst (Told s) (sym h) t

told-refused : (s : List ℕ) {f : Config} {e : RefusedHead} → config_read (split 10 s) ≡ f → Stops f (opening (split 10 s)) e
    → Told s (Err e)
told-refused s {f} {e} g h = record {
  value = ap (λ (k : Config). Err (record { refusal = e.refusal; line = e.line; config = k })) (h.config ∙ sym g)
      ∙ sym (ap (script_head_of s (config_read (split 10 s))) h.is);
  lines = sym h.is;
  within = tt;
}

-- line by line: a refusal of the opening, or what it gives
module _ (s : List ℕ) where
  abbrev pub first : Reading (Unit {0})
  first = name_line 1 settings_names (split 10 s)

  pub refused-names : {e : RefusedHead} → Stops no_config first e → Told s (Err e)
  unfolding opening config_read names_line
  refused-names h = told-refused s (ap config_of (then-stops (λ (u : Unit {0}) a. settings_line 2 a) h).is) (then-stops from_settings h)

  module _ {a : ℕ} (A : Gives s first tt a) where
    read : config_read (split 10 s) ≡ config_of (settings_line 2 (split 10 (drop a s)))
    unfolding config_read names_line
    read = ap config_of (then-got (λ (u : Unit {0}) a. settings_line 2 a) _ _ A.is)

    open-settings : opening (split 10 s) ≡ from_settings tt (split 10 (drop a s))
    unfolding opening names_line
    open-settings = then-got from_settings _ _ A.is

    pub refused-settings : {e : RefusedHead} → Stops no_config (settings_line 2 (split 10 (drop a s))) e → Told s (Err e)
    refused-settings h = told-refused s (read ∙ ap config_of h.is) (stops_same open-settings (then-stops from_table h))

    module _ {f : Config} {b : ℕ} (B : Gives s (settings_line 2 (split 10 (drop a s))) f b) where
      figures-read : config_read (split 10 s) ≡ f
      figures-read = read ∙ ap config_of B.is

      open-table : opening (split 10 s) ≡ from_table f (split 10 (drop b s))
      open-table = open-settings ∙ then-got from_table _ _ B.is

      pub refused-table : {e : RefusedHead} → Stops f (name_line 3 table_names (split 10 (drop b s))) e → Told s (Err e)
      refused-table h = told-refused s figures-read (stops_same open-table (then-stops (from_rows f) h))

      module _ {c : ℕ} (C : Gives s (name_line 3 table_names (split 10 (drop b s))) tt c) where
        open-rows : opening (split 10 s) ≡ from_rows f tt (split 10 (drop c s))
        open-rows = open-table ∙ then-got (from_rows f) _ _ C.is

        pub refused-rows : {e : RefusedHead} → Stops f (table_lines f f.nodes 0 4 empty_table (split 10 (drop c s))) e → Told s (Err e)
        refused-rows h = told-refused s figures-read (stops_same open-rows (then-stops (from_events f) h))

        module _ {t : Table} {d : ℕ} (D : Gives s (table_lines f f.nodes 0 4 empty_table (split 10 (drop c s))) t d) where
          open-events : opening (split 10 s) ≡ relabel (record { config = f; table = t }) (name_line (4 + f.nodes) event_names (split 10 (drop d s)))
          open-events = open-rows ∙ then-got (from_events f) _ _ D.is ∙ relabelled (4 + f.nodes) event_names _ (split 10 (drop d s))

          pub refused-events : {e : RefusedHead} → Stops f (name_line (4 + f.nodes) event_names (split 10 (drop d s))) e → Told s (Err e)
          refused-events h = told-refused s figures-read (record { is = open-events ∙ ap (relabel _) h.is; config = h.config })

          pub opens : {at : ℕ} → Gives s (name_line (4 + f.nodes) event_names (split 10 (drop d s))) tt at
              → Told s (Ok (record { at = at; config = f; table = t }))
          opens {at} h =
              let o : opening (split 10 s) ≡ got (record { config = f; table = t }) (split 10 (drop at s))
              = open-events ∙ ap (relabel _) h.is in
              record {
                value = ap (λ (k : ℕ). Ok (record { at = k; config = f; table = t })) (sym (place-back s at h.within))
                    ∙ sym (ap (script_head_of s (config_read (split 10 s))) o);
                lines = sym o;
                within = h.within;
              }

-- what good settings are
pub record Limits (f : Config) : Type 0 where
  pub nodes : f.nodes ≤ 32
  pub slots : f.slots ≤ 80

pub limits : (f : Config) → config_ok f ≡ true → Limits f
limits f h = let b = bounds f h in record { nodes = b.nodes-to; slots = b.slots-to }
