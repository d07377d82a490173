-- A hear by places: the bytes of a packet's place are the part that the packet has in an area of the site's own.
-- Assumes nothing.
use mathlib.Core.Path.{◌≡◌, refl, sym, ap, ◌∙◌}
use mathlib.Core.Bool.{Bool, true, false, not, cond, ◌||◌}
use mathlib.Core.List.{List, []}
use Prim.Native.Nat.{ℕ, ◌+◌, ◌-◌, ◌≤◌}
use native.Mathlib.Omega.{arith}
use borrow.Author.Tests.{le-ltb, leb-true, not-false}
use lib.Dec.{ltb, leb}
use lib.ListN.{length}
use Rattle.words.proofs.Tests.{skip, past-test, at_test, and_left, and_right}
use Rattle.node.specs.Answers.{is_done}
use Rattle.node.specs.Answers.{Answer}
use Rattle.node.specs.Answers.{NoSuchNode, WrongPhase, NotLive, NoSuchPacket}
use Rattle.node.proofs.Answers.{done-is}
use Rattle.wire.specs.Reads.{part_of}
use Rattle.site.specs.Counts.{packets}
use Rattle.site.specs.Members.{header_of, member_at, outside, is_live}
use Rattle.site.specs.Answers.{is_packet, answer_part, site_hear}
use Rattle.site.specs.Model.{Site}
use Rattle.site.proofs.Accepted.{hear-accepted}
use Rattle.machine.specs.Layout.{Store, words_size, bytes_size, site_in}
use Rattle.machine.proofs.Whole.{enough}
use Rattle.machine.specs.steps.After.{heard_part, heard_store, site_heard, part_answer, part_store}
use Rattle.machine.proofs.steps.Asked.{heard-there}
use Rattle.machine.specs.combined.Kept.{first_refusal}
use Rattle.machine.proofs.combined.Laws.{first_done, first-refuses}
use Rattle.group.specs.Group.{Group, part_at}
use Rattle.group.proofs.Parts.{own-part}
use Rattle.sites.specs.many.Inner.{own_by, group_hear_answer, hear_store, heard_bytes}

-- the bytes that the code looks at
pub part-there : (s : Store) (P A : List ℕ) (a p : ℕ) → 1 ≤ p → p ≤ packets (site_in s).sent → heard_bytes (site_in s).sent P A a p
    ≡ part_of (own_by P A a s) (p - 1)
unfolding heard_bytes
part-there s P A a p h k =
    let g : Group = record { site_slots = []; places = P; area = A } in
    let e : p - 1 + 1 ≡ p = omega arith in
    skip (ltb p 1 || ltb (packets (site_in s).sent) p) _ _ _ (both_false (ltb p 1) _ (le-ltb p 1 h) (le-ltb _ _ k))
    (ap (part_at g a) (sym e))
    ∙ sym (own-part g a (packets (site_in s).sent) (p - 1) (omega arith))
  where
    both_false : (t u : Bool) → t ≡ false → u ≡ false → (t || u) ≡ false
    both_false t u x y = λ i. x i || y i

-- answers that look at the same bytes
heard-alike : (s : Site) (x y : List ℕ) (j p : ℕ) → (1 ≤ p → p ≤ packets s.sent → x ≡ y) → site_heard s x j p ≡ site_heard s y j p
unfolding site_heard
heard-alike s x y j p f =
    ap (λ (r : Answer). cond (outside s.config j) NoSuchNode
    (cond (not s.negotiates) WrongPhase (cond (not (is_live (member_at s j))) NotLive r)))
    (past-test (not (is_packet (header_of s) p)) NoSuchPacket (answer_part (header_of s) (member_at s j) x)
    (answer_part (header_of s) (member_at s j) y) (λ d.
    let e : is_packet (header_of s) p ≡ true = not-false _ d in
    ap (answer_part (header_of s) (member_at s j))
    (f (leb-true _ _ (and_left (leb 1 p) (leb p (packets s.sent)) e))
    (leb-true _ _ (and_right (leb 1 p) (leb p (packets s.sent)) e)))))

module _ (s : Store) (w : words_size ≤ length s.words) (b : bytes_size ≤ length s.bytes) (part own : List ℕ) (j p : ℕ)
    (f : 1 ≤ p → p ≤ packets (site_in s).sent → part ≡ part_of own (p - 1)) where
  pub heard-answer : part_answer s part j p ≡ site_hear (site_in s) own j p
  unfolding part_answer
  heard-answer = skip _ _ _ _ (enough s w b) (heard-alike (site_in s) part (part_of own (p - 1)) j p f ∙ heard-there (site_in s) own j p)

  heard-store : part_store s part j p ≡ cond (is_done (site_hear (site_in s) own j p)) (heard_store s own j p) s
  unfolding part_store heard_store
  heard-store =
      ap (λ (r : Answer). cond (is_done r) (heard_part s part j) s) heard-answer
      ∙ at_test (is_done (site_hear (site_in s) own j p)) _ _ _ (λ d.
      let q = hear-accepted (site_in s) own j p (done-is _ d) in
      ap (λ (x : List ℕ). heard_part s x j) (f q.from q.to))

  -- the windows are said to be right
  pub heard-done : (o : Answer) → is_done o ≡ true → (part_answer s part j p ≡ group_hear_answer s own o j p)
      × (part_store s part j p ≡ hear_store s own o j p)
  unfolding hear_store
  heard-done o h =
      let e : first_refusal (site_hear (site_in s) own j p) o ≡ site_hear (site_in s) own j p =
      ap (first_refusal (site_hear (site_in s) own j p)) (done-is o h) ∙ first_done (site_hear (site_in s) own j p) in
      (heard-answer ∙ sym e, heard-store ∙ ap (λ (r : Answer). cond (is_done r) (heard_store s own j p) s) (sym e))

  -- or wrong: nothing is written
  pub heard-refused : (o : Answer) → is_done o ≡ false → (first_refusal (part_answer s part j p) o ≡ group_hear_answer s own o j p)
      × (s ≡ hear_store s own o j p)
  unfolding hear_store
  heard-refused o h = (
    ap (λ (r : Answer). first_refusal r o) heard-answer,
    sym (skip (is_done (group_hear_answer s own o j p)) (heard_store s own j p) s s (first-refuses (site_hear (site_in s) own j p) o h) refl),
  )
