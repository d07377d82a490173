-- From marks and bytes that were put to the answer.
-- Assumes nothing.
use mathlib.Core.Path.{◌≡◌, refl, sym, ap, ◌∙◌, subst}
use mathlib.Core.Bool.{Bool, true, false, cond}
use mathlib.Core.List.{List, ◌++◌}
use Prim.Native.Nat.{ℕ, ◌+◌, ◌≤◌, ◌<◌}
use native.Mathlib.Omega.{arith}
use borrow.Author.Tests.{ltb-false}
use lib.Dec.{ltb}
use lib.ListN.{length, take, drop, length-append, length-drop}
use lib.Seq.{length-take-le, drop-append_seam}
use Rattle.std.specs.Prelude.{Result, Ok, Err}
use Rattle.words.proofs.Tests.{hit, skip, or-neither}
use Rattle.lists.specs.Bytes.{written, Put, Tried}
use Rattle.lists.proofs.Chain.{put, then, length-put, front-is}
use Rattle.text.specs.Read.{split}
use Rattle.node.specs.Answers.{Done, NoRoom, NotGiven}
use Rattle.node.specs.declared.Refusal.{Refusal}
use Rattle.node.specs.declared.Refusal.TheVariants as refusal
use Rattle.site.specs.Load.{load_answer}
use Rattle.script.specs.load.Opening.{Reading, refused, got, Opening, opening, lines_start, config_read, script_head_of}
use Rattle.script.specs.declared.Opened.{Opened}
use Rattle.script.specs.declared.RefusedHead.{RefusedHead}
use Rattle.script.proofs.load.Outcome.{opening-loads}
use Rattle.desk.specs.listings.Output.{top_script}
use Rattle.reduce.specs.Reduced.{TextLine, lines_in, joined_lines, is_refusal, gives, LeftOut, Reduced}
use Rattle.reduce.specs.Calls.{start_state, gives_in, Keeps, unfit_script, reply_to, Answers, Returns}
use Rattle.reduce.specs.Inner.{Placed, placed_lines, keep, kept, kept_from, given, cleared, Settled, opening_of, lines_of}
use Rattle.reduce.specs.Inner.{Ready, Stopped}
use Rattle.reduce.proofs.Lines.{joined-lines, all_lines}
use Rattle.reduce.proofs.Kept.{keep_same, left_out, except, nth, places-rise}
use Rattle.reduce.proofs.Marks.{except-kept}
use Rattle.reduce.proofs.Writing.{kept-short, first-within, first-text}

-- behind what was put at the front every byte is as it was
drop-written : (l b : List ℕ) (n : ℕ) → n ≡ 0 + length b → drop n (written l 0 b) ≡ drop n l
drop-written l b n e =
    let z : n ≡ length b = omega arith in
    ap (λ (k : ℕ). drop k (written l 0 b)) z ∙ drop-append_seam b (drop (0 + length b) l) ∙ ap (λ (k : ℕ). drop k l) (sym e)

-- a script too long, or output too short
pub no_room : (a : ℕ) (s out : List ℕ) → unfit_script s out ≡ true → Answers a s out (Err refusal.NoRoom) out
unfolding reply_to
no_room a s out h =
    record {
      reply = sym (hit _ _ _ h);
      script = λ d. absurd (let z : ◌≡◌ {A = ℕ} 0 1 = cc in omega arith);
      within = omega arith;
      behind = refl;
    }

module _ (a : ℕ) (s out : List ℕ) (fits : unfit_script s out ≡ false) where
  pub short : length s ≤ top_script
  short = ltb-false top_script (length s) (or-neither (ltb top_script (length s)) (ltb (length out) (length s)) fits).0

  room : length s ≤ length out
  room = ltb-false (length out) (length s) (or-neither (ltb top_script (length s)) (ltb (length out) (length s)) fits).1

  -- the answer, by what the script opens with
  module _ (r : Reading Opening) (e : opening (split 10 s) ≡ r) where
    reply-is : (t : Bool) → gives_in a r ≡ t → cond t Done NotGiven ≡ reply_to a s out
    unfolding reply_to
    reply-is t g = sym (skip _ _ _ _ fits
        (ap (λ (x : Reading Opening). cond (gives_in a x) Done NotGiven) e ∙ ap (λ (b : Bool). cond b Done NotGiven) g))

    not-given : gives_in a r ≡ false → Answers a s out (Err refusal.NotGiven) out
    not-given g =
        record {
          reply = reply-is false g;
          script = λ d. absurd (let z : ◌≡◌ {A = ℕ} 0 1 = cc in omega arith);
          within = omega arith;
          behind = refl;
        }

    is-given : gives_in a r ≡ true → (text : List ℕ) → length text ≤ length s → Keeps a s text r → (n : ℕ) (after : List ℕ)
        → Put out 0 text n after → Answers a s out (Ok n) after
    is-given g text l k n after p =
        record {
          reply = reply-is true g;
          script = λ d. subst (Keeps a s (take n after)) (sym e) (subst (λ (x : List ℕ). Keeps a s x r) (sym (front-is p)) k);
          within = omega (arith, p.to, l);
          behind = ap (drop n) p.is ∙ drop-written out text n p.to;
        }

-- a script that opens
module _ (a : ℕ) (s : List ℕ) (o : Opened) (out : List ℕ) (y : Ready s o out) where
  abbrev opened : Reading Opening
  opened = got (opening_of o) (lines_of s o)

  pub loads : load_answer o.config o.table ≡ Done
  loads = opening-loads (split 10 s) (opening_of o) (lines_of s o) y.opens

  abbrev lines : List Placed
  lines = placed_lines o.at (lines_of s o)

  long-lines : length (joined_lines (lines_in (lines_of s o))) + o.at ≡ length s
  long-lines = omega (arith, ap length (joined-lines (drop o.at s)), length-drop o.at s, y.from)

  -- all lines are marked at first
  module _ (ms : List Bool) (h : kept_from s ms o.at ≡ lines_in (lines_of s o)) where
    all-given : given a s ms o ≡ gives_in a opened
    all-given = ap (gives a (start_state (opening_of o))) h

    pub events-none : given a s ms o ≡ false → Answers a s out (Err refusal.NotGiven) out
    events-none g = not-given a s out y.fits opened y.opens (sym all-given ∙ g)

    pub events-given : given a s ms o ≡ true → gives_in a opened ≡ true
    events-given g = sym all-given ∙ g

  module _ (ms : List Bool) where
    -- what is kept is reduced
    reduced : length s ≤ length ms → Settled a s o ms
        → Reduced a (start_state (opening_of o)) (lines_in (lines_of s o)) (kept_from s ms o.at)
    reduced l q =
        record {
          kept = subst (LeftOut (kept_from s ms o.at)) (all_lines o.at (lines_of s o)) (left_out (kept ms) lines);
          given = q.still;
          lean = λ i j.
              let n = nth (kept ms) o.at (o.at + length (joined_lines (lines_in (lines_of s o)))) lines
              (places-rise o.at (lines_of s o)) i j in
              let z : n.place < length s = omega (arith, n.to, long-lines) in
              ap (gives a (start_state (opening_of o)))
              (sym n.is ∙ keep_same (except (kept ms) n.place) (kept (cleared ms n.place (n.place + 1))) lines
              (λ x. except-kept ms n.place x (omega (arith, z, l))))
              ∙ q.lean n.place n.from z n.kept;
        }

    abbrev kept_text : List ℕ
    kept_text = joined_lines (kept_from s ms o.at)

    -- it is no longer than the script
    text-short : length (take o.at s ++ kept_text) ≤ length s
    text-short =
        omega (
          arith,
          length-append (take o.at s) kept_text,
          length-take-le o.at s y.from,
          kept-short (kept ms) lines,
          ap (λ (ls : List TextLine). length (joined_lines ls)) (all_lines o.at (lines_of s o)),
          long-lines,
        )

    -- head and lines are put
    module _ {m : List ℕ} {i : ℕ} (t : Tried out 0 (take o.at s) i m) where
      head-put : Put out 0 (take o.at s) i m
      head-put = put (omega (arith, length-take-le o.at s y.from, room a s out y.fits, y.from)) t

      pub lines-room : i + length kept_text ≤ length m
      lines-room =
          let l : length m ≡ length out =
          length-put {at = 0} (omega (arith, length-take-le o.at s y.from, room a s out y.fits, y.from)) head-put in
          omega (arith, l, head-put.to, text-short, length-append (take o.at s) kept_text, room a s out y.fits)

      pub events-done : gives_in a opened ≡ true → length s ≤ length ms → Settled a s o ms → (n : ℕ) (after : List ℕ)
          → Put m i kept_text n after → Answers a s out (Ok n) after
      events-done g l q n after b =
          is-given a s out y.fits opened y.opens g (take o.at s ++ kept_text) text-short
          (record { lines = kept_from s ms o.at; reduced = reduced l q; is = ap (λ (x : ℕ). take x s ++ kept_text) y.is }) n after
          (then (omega (arith, length-take-le o.at s y.from, room a s out y.fits)) head-put b)

-- a line before the events is refused
module _ (a : ℕ) (s : List ℕ) (x : RefusedHead) (out : List ℕ) (y : Stopped s x out) where
  pub head-none : is_refusal a (Err x.refusal) ≡ false → Answers a s out (Err refusal.NotGiven) out
  head-none g = not-given a s out y.fits (refused x.line x.refusal) y.stops g

  module _ (e : ℕ) (h : e ≡ length (joined_lines (take x.line (lines_in (split 10 s))))) where
    pub head-within : e ≤ length s
    head-within = omega (arith, h, first-within s x.line)

    pub head_done : is_refusal a (Err x.refusal) ≡ true → (n : ℕ) (after : List ℕ) → Tried out 0 (take e s) n after
        → Answers a s out (Ok n) after
    head_done g n after t =
        let l : length (take e s) ≡ e = length-take-le e s head-within in
        is-given a s out y.fits (refused x.line x.refusal) y.stops g (take e s) (omega (arith, l, head-within))
        (first-text s x.line e h) n after
        (put (omega (arith, l, head-within, room a s out y.fits)) t)

-- a script that opens or is refused, as it was read
pub ready : (s out : List ℕ) (o : Opened) → unfit_script s out ≡ false
    → Ok o ≡ script_head_of s (config_read (split 10 s)) (opening (split 10 s)) → got (opening_of o) (lines_of s o) ≡ opening (split 10 s)
    → o.at ≤ length s → Ready s o out
ready s out o f v l w =
    let e : Ok o ≡ script_head_of s (config_read (split 10 s)) (got (opening_of o) (lines_of s o)) =
    v ∙ ap (script_head_of s (config_read (split 10 s))) (sym l) in
    let k : o ≡ record { at = lines_start s (lines_of s o); config = o.config; table = o.table } = cc in
    record { fits = f; opens = sym l; is = ap (λ (x : Opened). x.at) k; from = w }

-- what the call for C makes of an answer
module _ (a : ℕ) (s out after : List ℕ) where
  pub refused-call : (x : Refusal) → Answers a s out (Err x) after → (n : ℕ) → Returns a s out n (Err x) after n
  refused-call x q n =
      record {
        answer = q.reply;
        done = λ e. absurd (let z : ◌≡◌ {A = ℕ} 0 1 = cc in omega arith);
        refused = λ f. (q.behind, refl);
      }

  module _ (m : ℕ) (q : Answers a s out (Ok m) after) where
    pub call-short : m ≤ top_script
    unfolding reply_to
    call-short = omega (arith, q.within, go (unfit_script s out) refl (sym q.reply))
      where
        go : (t : Bool) → unfit_script s out ≡ t → cond t NoRoom (cond (gives_in a (opening (split 10 s))) Done NotGiven) ≡ Done
            → length s ≤ top_script
        go true g k = absurd (let z : ◌≡◌ {A = ℕ} 0 1 = cc in omega arith)
        go false g k = ltb-false top_script (length s) (or-neither (ltb top_script (length s)) (ltb (length out) (length s)) g).0

    pub done-call : (n : ℕ) → Returns a s out n Done after m
    done-call n = record { answer = q.reply; done = λ e. q; refused = λ f. absurd (f refl) }
