-- Event lines (specification, 7 Script): `event node with`, an event word and two numbers. An event's number is its row in the table of
-- events, counted from 1.
-- Assumes nothing.
use Rattle.std.specs.Prelude.{cond, List, [], ◌∷◌, ℕ, ◌+◌, eqb, get_or, Option, None, Some}
use Rattle.lists.specs.All.{same}
use Rattle.text.specs.Ascii.{ascii}
use Rattle.text.specs.Read.{split}
use Rattle.script.specs.lines.Fields.{numbers_of}
use Rattle.site.specs.declared.Event.{Event}
use Rattle.site.specs.declared.Event.TheVariants.{Send, Hear, Close, Take, End, Want, Crash, Restart}

-- an event where a place that must be 0 is 0: another number there is malformed
abbrev pub zero_there : ℕ → Event → Option Event
zero_there x e = cond (eqb x 0) (Some e) None

-- an event where two places that must be 0 are 0
abbrev pub zeros_there : ℕ → ℕ → Event → Option Event
zeros_there x y e = cond (eqb x 0) (zero_there y e) None

-- a row of the table of events: the word, and the event of the two numbers behind it
pub record Kind : Type 0 where
  pub word : List ℕ
  pub event : ℕ → ℕ → Option Event

abbrev pub kind : List ℕ → (ℕ → ℕ → Option Event) → Kind
kind w e = record { word = w; event = e }

-- the table of events
abbrev pub kinds : List Kind
kinds =
    kind (ascii "send") (λ x y. zero_there y (Send x))
    ∷ kind (ascii "hear") (λ x y. Some (Hear x y))
    ∷ kind (ascii "close") (λ x y. zeros_there x y Close)
    ∷ kind (ascii "take") (λ x y. Some (Take x y))
    ∷ kind (ascii "end") (λ x y. zeros_there x y End)
    ∷ kind (ascii "want") (λ x y. Some (Want x y))
    ∷ kind (ascii "crash") (λ x y. zero_there y (Crash x))
    ∷ kind (ascii "restart") (λ x y. Some (Restart x y))
    ∷ []

-- no row: an unknown word
abbrev pub no_kind : Kind
no_kind = kind [] (λ x y. None)

-- the number of the word that the bytes are, where n is that of the first row; 0 for an unknown one
unfoldable pub number_from : ℕ → List Kind → List ℕ → ℕ
number_from n [] l = 0
number_from n (k ∷ ks) l = cond (same l k.word) n (number_from (n + 1) ks l)

abbrev pub word_number : List ℕ → ℕ
word_number l = number_from 1 kinds l

-- the event of a number and the two numbers behind it: 0 and a number above 8 are no event's
abbrev pub event_at : ℕ → ℕ → ℕ → Option Event
event_at n x y = (get_or (no_kind ∷ kinds) n no_kind).event x y

-- the event of a number and of what stands behind it
abbrev pub made : ℕ → Option (List ℕ) → Option Event
made n (Some (x ∷ y ∷ [])) = event_at n x y
made _ _ = None

-- a word and two numbers, one space between
unfoldable pub fields_of : List (List ℕ) → Option Event
fields_of [] = None
fields_of (w ∷ r) = made (word_number w) (numbers_of 2 r)

-- what an event line says
abbrev pub event_of : List ℕ → Option Event
event_of l = fields_of (split 32 l)
