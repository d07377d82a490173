-- A line that is a close has at least nine bytes before its byte 10: the word has five, and behind it stand two numbers.
-- Assumes nothing.
use mathlib.Core.Path.{◌≡◌, refl, sym, ap}
use mathlib.Core.Bool.{Bool, true, false, cond}
use mathlib.Core.List.{List, [], ◌∷◌}
use Prim.Native.Nat.{ℕ, suc, ◌+◌, ◌≤◌}
use native.Mathlib.Omega.{arith}
use lib.Dec.{eqb}
use lib.ListN.{length}
use Rattle.words.proofs.Tests.{never, clash, read_same, and_right}
use Rattle.lists.specs.All.{same}
use Rattle.text.specs.Ascii.{ascii}
use Rattle.text.specs.Read.{front, split, number_of}
use Rattle.std.specs.Prelude.{Option, None, Some}
use Rattle.script.specs.lines.Fields.{in_front, numbers_of}
use Rattle.site.specs.Events.{is_close}
use Rattle.site.specs.declared.Event.{Event}
use Rattle.site.specs.declared.Event.TheVariants.{Send, End, Crash}
use Rattle.script.specs.events.Events.{zero_there, zeros_there, number_from, word_number, made, fields_of, event_of}

-- whether a line is a close, and two numbers are there
abbrev pub closes : Option Event → Bool
closes None = false
closes (Some e) = is_close e

abbrev is_pair : Option (List ℕ) → Bool
is_pair (Some (x ∷ y ∷ [])) = true
is_pair _ = false

-- the bytes of pieces, each with a separator behind it
unfoldable pub sized : List (List ℕ) → ℕ
sized [] = 0
sized (p ∷ ps) = suc (length p) + sized ps

front-sized : (b : ℕ) (ps : List (List ℕ)) → sized (front b ps) ≤ suc (sized ps)
unfolding sized front
front-sized b [] = omega arith
front-sized b (p ∷ ps) = omega arith

pub split-sized : (c : ℕ) (s : List ℕ) → sized (split c s) ≤ suc (length s)
unfolding sized split
split-sized c [] = omega arith
split-sized c (b ∷ s) = go (eqb b c) (split-sized c s) (front-sized b (split c s))
  where
    go : (t : Bool) → sized (split c s) ≤ suc (length s) → sized (front b (split c s)) ≤ suc (sized (split c s))
        → sized (cond t ([] ∷ split c s) (front b (split c s))) ≤ suc (suc (length s))
    go true h k = omega arith
    go false h k = omega arith

-- only the word of a close makes one
no_zero : (y : ℕ) (e : Event) → is_close e ≡ false → closes (zero_there y e) ≡ false
no_zero y e h = read_same closes (eqb y 0) (Some e) None false h refl

made-close : (a b c d e f g h : Bool) (t : Option (List ℕ))
    → closes (made (cond a 1 (cond b 2 (cond c 3 (cond d 4 (cond e 5 (cond f 6 (cond g 7 (cond h 8 0)))))))) t) ≡ true
    → (c ≡ true) × (is_pair t ≡ true)
made-close true b c d e f g h (Some (x ∷ y ∷ [])) z = clash (closes (zero_there y (Send x))) z (no_zero y (Send x) refl)
made-close false true c d e f g h (Some (x ∷ y ∷ [])) z = never (sym z)
made-close false false true d e f g h (Some (x ∷ y ∷ [])) z = (refl, refl)
made-close false false false true e f g h (Some (x ∷ y ∷ [])) z = never (sym z)
made-close false false false false true f g h (Some (x ∷ y ∷ [])) z =
    clash (closes (zeros_there x y End)) z (read_same closes (eqb x 0) (zero_there y End) None false (no_zero y End refl) refl)
made-close false false false false false true g h (Some (x ∷ y ∷ [])) z = never (sym z)
made-close false false false false false false true h (Some (x ∷ y ∷ [])) z = clash (closes (zero_there y (Crash x))) z (no_zero y (Crash x) refl)
made-close false false false false false false false true (Some (x ∷ y ∷ [])) z = never (sym z)
made-close false false false false false false false false (Some (x ∷ y ∷ [])) z = never (sym z)
made-close _ _ _ _ _ _ _ _ _ z = never (sym z)

same-long : (s t : List ℕ) → same s t ≡ true → length s ≡ length t
unfolding same
same-long [] [] h = refl
same-long [] (y ∷ t) h = never (sym h)
same-long (x ∷ s) [] h = never (sym h)
same-long (x ∷ s) (y ∷ t) h = ap suc (same-long s t (and_right (eqb x y) (same s t) h))

word-close : (w : List ℕ) (t : Option (List ℕ)) → closes (made (word_number w) t) ≡ true → (length w ≡ 5) × (is_pair t ≡ true)
unfolding number_from
word-close w t h =
    let q =
    made-close (same w (ascii "send")) (same w (ascii "hear")) (same w (ascii "close")) (same w (ascii "take"))
    (same w (ascii "end")) (same w (ascii "want")) (same w (ascii "crash")) (same w (ascii "restart")) t h in
    (same-long w (ascii "close") q.0, q.1)

-- two numbers are two fields of a byte or more
one-bad : (n : Option ℕ) → is_pair (in_front n None) ≡ false
one-bad None = refl
one-bad (Some x) = refl

two-bad : (n m : Option ℕ) → is_pair (in_front n (in_front m None)) ≡ false
two-bad n None = one-bad n
two-bad n (Some x) = one-bad n

pair-long : (r : List (List ℕ)) → is_pair (numbers_of 2 r) ≡ true → 4 ≤ sized r
unfolding numbers_of sized number_of
pair-long [] h = never (sym h)
pair-long (a ∷ []) h = clash (is_pair (in_front (number_of a) None)) h (one-bad (number_of a))
pair-long ([] ∷ b ∷ []) h = never (sym h)
pair-long ((x ∷ a) ∷ [] ∷ []) h = clash (is_pair (in_front (number_of (x ∷ a)) None)) h (one-bad (number_of (x ∷ a)))
pair-long ((x ∷ a) ∷ (y ∷ b) ∷ []) h = omega arith
pair-long (a ∷ b ∷ c ∷ r) h =
    clash (is_pair (in_front (number_of a) (in_front (number_of b) None))) h (two-bad (number_of a) (number_of b))

fields-long : (ps : List (List ℕ)) → closes (fields_of ps) ≡ true → 10 ≤ sized ps
unfolding fields_of sized
fields-long [] h = never (sym h)
fields-long (w ∷ r) h =
    let q = word-close w (numbers_of 2 r) h in
    omega (arith, q.0, pair-long r q.1)

pub close-long : (l : List ℕ) → closes (event_of l) ≡ true → 9 ≤ length l
close-long l h = omega (arith, fields-long (split 32 l) h, split-sized 32 l)
