-- What is written is again a script that gives the number: its lines before the events are those of the script, and its event lines are
-- those that are kept.
-- Assumes nothing.
use mathlib.Core.Path.{◌≡◌, refl, sym, ap, ap₂, ◌∙◌, subst}
use mathlib.Core.Bool.{Bool, true, false, cond}
use mathlib.Core.List.{List, [], ◌∷◌, ◌++◌, append_assoc, append-nil}
use mathlib.Core.Logic.{inl, inr}
use Prim.Native.Nat.{ℕ, zero, suc, ◌+◌, ◌<◌}
use native.Mathlib.Omega.{arith}
use lib.Dec.{eqb}
use lib.ListN.{length, take, length-append}
use lib.Seq.{take_at}
use Rattle.text.specs.Read.{front, split}
use Rattle.text.proofs.Pieces.{HasPiece, split-some}
use Rattle.script.specs.load.Opening.{got, Opening, opening, bytes_in, lines_start}
use Rattle.reduce.proofs.Kept.{weaken}
use Rattle.reduce.specs.Again.{event_lines, without_event}
use Rattle.reduce.specs.Reduced.{without, TextLine, ended, unended, lines_in, joined_lines, gives, LeftOut}
use Rattle.reduce.specs.Calls.{start_state, gives_in, KeptOf}
use Rattle.reduce.proofs.Lines.{Clean, AllClean, split-clean, joined-lines, lines_cut}
use Rattle.reduce.proofs.Heads.{Got, some-append, Read, opening-read}

clean-append : (a ps : List (List ℕ)) → AllClean (a ++ ps) → AllClean a × AllClean ps
clean-append [] ps h = (tt, h)
clean-append (l ∷ a) ps h =
    let q = clean-append a ps h.1 in
    ((h.0, q.0), q.1)

-- a line with its byte 10 in front of a text, and a line without
pub split-ended : (p t : List ℕ) → Clean p → split 10 ((p ++ (10 ∷ [])) ++ t) ≡ p ∷ split 10 t
unfolding split front
split-ended [] t h = refl
split-ended (b ∷ p) t h =
    ap (λ (x : Bool). cond x ([] ∷ split 10 ((p ++ (10 ∷ [])) ++ t)) (front b (split 10 ((p ++ (10 ∷ [])) ++ t)))) h.0
    ∙ ap (front b) (split-ended p t h.1)

pub split-open : (p : List ℕ) → Clean p → split 10 p ≡ p ∷ []
unfolding split front
split-open [] h = refl
split-open (b ∷ p) h = ap (λ (x : Bool). cond x ([] ∷ split 10 p) (front b (split 10 p))) h.0 ∙ ap (front b) (split-open p h.1)

-- lines that are kept, read again
none-again : lines_in (split 10 (joined_lines [])) ≡ []
unfolding lines_in split joined_lines
none-again = refl

ended-again : (k : TextLine) (l : List ℕ) (ks : List TextLine) → Clean l → k ≡ ended l → lines_in (split 10 (joined_lines ks)) ≡ ks
    → lines_in (split 10 (joined_lines (k ∷ ks))) ≡ k ∷ ks
unfolding joined_lines
ended-again k l ks c e h =
    ap (λ (x : TextLine). lines_in (split 10 (x.text ++ joined_lines ks))) e
    ∙ ap lines_in (split-ended l (joined_lines ks) c)
    ∙ lines_cut l (split 10 (joined_lines ks)) (split-some 10 (joined_lines ks))
    ∙ ap₂ (λ (x : TextLine) (r : List TextLine). x ∷ r) (sym e) h

unended-again : (k : TextLine) (b : ℕ) (l : List ℕ) → Clean (b ∷ l) → k ≡ unended (b ∷ l)
    → lines_in (split 10 (joined_lines (k ∷ []))) ≡ k ∷ []
unfolding joined_lines lines_in
unended-again k b l c e =
    ap (λ (x : TextLine). lines_in (split 10 (x.text ++ []))) e
    ∙ ap (λ (t : List ℕ). lines_in (split 10 t)) (append-nil (b ∷ l))
    ∙ ap lines_in (split-open (b ∷ l) c)
    ∙ ap (λ (x : TextLine). x ∷ []) (sym e)

pub kept_again : (ls : List (List ℕ)) (ks : List TextLine) → AllClean ls → LeftOut ks (lines_in ls)
    → lines_in (split 10 (joined_lines ks)) ≡ ks
unfolding lines_in
kept_again ls [] c h = none-again
kept_again [] (k ∷ ks) c h = absurd h
kept_again ([] ∷ []) (k ∷ ks) c h = absurd h
kept_again ((b ∷ l) ∷ []) (k ∷ ks) c h = last ks h
  where
    last : (ks : List TextLine) → LeftOut (k ∷ ks) (unended (b ∷ l) ∷ []) → lines_in (split 10 (joined_lines (k ∷ ks))) ≡ k ∷ ks
    last [] (inl p) = unended-again k b l c.0 p.0
    last (j ∷ ks) (inl p) = absurd p.1
    last ks (inr p) = absurd p
kept_again (l ∷ m ∷ ls) (k ∷ ks) c h = more h (λ x. kept_again (m ∷ ls) ks c.1 x) (λ x. kept_again (m ∷ ls) (k ∷ ks) c.1 x)
  where
    more : LeftOut (k ∷ ks) (ended l ∷ lines_in (m ∷ ls)) → (LeftOut ks (lines_in (m ∷ ls)) → lines_in (split 10 (joined_lines ks)) ≡ ks)
        → (LeftOut (k ∷ ks) (lines_in (m ∷ ls)) → lines_in (split 10 (joined_lines (k ∷ ks))) ≡ k ∷ ks)
        → lines_in (split 10 (joined_lines (k ∷ ks))) ≡ k ∷ ks
    more (inl p) f g = ended-again k l ks c.0 p.0 (f p.1)
    more (inr p) f g = g p

-- pieces as bytes, each with its byte 10
unfoldable closed : List (List ℕ) → List ℕ
closed [] = []
closed (p ∷ ps) = (p ++ (10 ∷ [])) ++ closed ps

split-closed : (hs : List (List ℕ)) (t : List ℕ) → AllClean hs → split 10 (closed hs ++ t) ≡ hs ++ split 10 t
unfolding closed
split-closed [] t h = refl
split-closed (p ∷ ps) t h =
    ap (split 10) (append_assoc (p ++ (10 ∷ [])) (closed ps) t)
    ∙ split-ended p (closed ps ++ t) h.0
    ∙ ap (λ (r : List (List ℕ)). p ∷ r) (split-closed ps t h.1)

joined-closed : (hs ls : List (List ℕ)) → HasPiece ls → joined_lines (lines_in (hs ++ ls)) ≡ closed hs ++ joined_lines (lines_in ls)
unfolding closed joined_lines
joined-closed [] ls h = refl
joined-closed (p ∷ ps) ls h =
    ap joined_lines (lines_cut p (ps ++ ls) (some-append ps ls h))
    ∙ ap (λ (r : List ℕ). (p ++ (10 ∷ [])) ++ r) (joined-closed ps ls h)
    ∙ sym (append_assoc (p ++ (10 ∷ [])) (closed ps) (joined_lines (lines_in ls)))

bytes-joined : (ls : List (List ℕ)) → bytes_in ls ≡ length (joined_lines (lines_in ls))
unfolding bytes_in joined_lines lines_in
bytes-joined [] = refl
bytes-joined ([] ∷ []) = refl
bytes-joined ((b ∷ l) ∷ []) = ap length (sym (append-nil (b ∷ l)))
bytes-joined (l ∷ m ∷ ls) =
    let r = joined_lines (lines_in (m ∷ ls)) in
    let k : length ((l ++ (10 ∷ [])) ++ r) ≡ length l + 1 + length r = length-append (l ++ (10 ∷ [])) r
    ∙ ap (λ (n : ℕ). n + length r) (length-append l (10 ∷ [])) in
    omega (arith, k, bytes-joined (m ∷ ls))

-- the head as bytes is that of the pieces read
head-is : (s : List ℕ) (hs ls : List (List ℕ)) → HasPiece ls → split 10 s ≡ hs ++ ls → take (lines_start s ls) s ≡ closed hs
head-is s hs ls h e =
    let r = joined_lines (lines_in ls) in
    let k : s ≡ closed hs ++ r = sym (joined-lines s) ∙ ap (λ (ps : List (List ℕ)). joined_lines (lines_in ps)) e ∙ joined-closed hs ls h in
    let z : length (closed hs) ≡ lines_start s ls = omega (arith, ap length k, length-append (closed hs) r, bytes-joined ls) in
    ap (take (lines_start s ls)) k ∙ take_at (closed hs) r (lines_start s ls) z

-- a script that opens, with its head and some of its event lines
module _ (s : List ℕ) (o : Opening) (ls : List (List ℕ)) (e : opening (split 10 s) ≡ got o ls) (text : List ℕ) (ks : List TextLine)
    (kept : LeftOut ks (lines_in ls)) (is : text ≡ take (lines_start s ls) s ++ joined_lines ks) where
  read : Read opening (split 10 s) o ls
  read = subst (Got (Read opening (split 10 s))) e (opening-read (split 10 s) (split-some 10 s))

  clean : AllClean read.head × AllClean ls
  clean = clean-append read.head ls (subst AllClean read.is (split-clean s))

  -- it opens with the same settings and table, and its event lines are those that are kept
  opens-again : opening (split 10 text) ≡ got o (split 10 (joined_lines ks))
  opens-again =
      ap (λ (t : List ℕ). opening (split 10 t))
      (is ∙ ap (λ (h : List ℕ). h ++ joined_lines ks) (head-is s read.head ls read.more read.is))
      ∙ ap opening (split-closed read.head (joined_lines ks) clean.0)
      ∙ read.same (split 10 (joined_lines ks)) (split-some 10 (joined_lines ks))

  lines-again : lines_in (split 10 (joined_lines ks)) ≡ ks
  lines-again = kept_again ls ks clean.1 kept

  -- so it gives what the kept lines give
  given-again : (a : ℕ) → gives_in a (opening (split 10 text)) ≡ gives a (start_state o) ks
  given-again a = ap (gives_in a) opens-again ∙ ap (gives a (start_state o)) lines-again

-- lines without one of them
all-out : (ks : List TextLine) → LeftOut ks ks
all-out [] = tt
all-out (k ∷ ks) = inl (refl, all-out ks)

out-without : (i : ℕ) (ks : List TextLine) → LeftOut (without i ks) ks
unfolding without
out-without i [] = tt
out-without zero (k ∷ ks) = weaken ks ks k (all-out ks)
out-without (suc i) (k ∷ ks) = inl (refl, out-without i ks)

module _ (a : ℕ) (s : List ℕ) (o : Opening) (ls : List (List ℕ)) (e : opening (split 10 s) ≡ got o ls) (text : List ℕ)
    (k : KeptOf a s o ls text) where
  abbrev ks : List TextLine
  ks = k.lines

  pub gives-again : gives_in a (opening (split 10 text)) ≡ true
  gives-again = given-again s o ls e text ks k.reduced.kept k.is a ∙ k.reduced.given

  -- without any one of its event lines, written and read once more, it does not give the number
  opens : opening (split 10 text) ≡ got o (split 10 (joined_lines ks))
  opens = opens-again s o ls e text ks k.reduced.kept k.is

  same_lines : lines_in (split 10 (joined_lines ks)) ≡ ks
  same_lines = lines-again s o ls e text ks k.reduced.kept k.is

  pub lean-again : (i : ℕ) → i < length (event_lines (opening (split 10 text)))
      → gives_in a (opening (split 10 (without_event i text (opening (split 10 text))))) ≡ false
  lean-again i = rw opens (λ h.
      given-again text o (split 10 (joined_lines ks)) opens _ (without i (lines_in (split 10 (joined_lines ks))))
      (out-without i (lines_in (split 10 (joined_lines ks)))) refl a
      ∙ ap (λ (r : List TextLine). gives a (start_state o) (without i r)) same_lines
      ∙ k.reduced.lean i (subst (λ (r : List TextLine). i < length r) same_lines h))
