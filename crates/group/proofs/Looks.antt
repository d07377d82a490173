-- A site looks at its area only where its own packets lie: areas that are alike there give the same answers and the same site.
-- Assumes nothing.
use mathlib.Core.Path.{◌≡◌, refl, sym, ap, ◌∙◌}
use mathlib.Core.Bool.{true, not, cond, ◌&&◌}
use mathlib.Core.List.{List}
use Prim.Native.Nat.{ℕ, ◌-◌, ◌≤◌, ◌<◌}
use native.Mathlib.Omega.{arith}
use borrow.Author.Tests.{le-ltb, leb-true, not-false}
use lib.Dec.{leb}
use lib.ListN.{length}
use Rattle.words.proofs.Tests.{skip, past-test, at_test, and_left, and_right, read_same}
use Rattle.node.specs.Answers.{is_done}
use Rattle.node.specs.Answers.{Answer}
use Rattle.node.specs.Answers.{Done, NoSuchNode, WrongPhase, NotLive, NoSuchPacket, BadWindows}
use Rattle.node.proofs.Answers.{done-is}
use Rattle.wire.specs.Reads.{part_of}
use Rattle.site.specs.Counts.{packets}
use Rattle.site.specs.Members.{header_of, member_at, outside, is_live, put}
use Rattle.site.specs.Answers.{area_size, is_packet, answer_part, site_hear, event_answer, answer_of}
use Rattle.site.specs.Steps.{heard_site, heard_member, next_site, site_after}
use Rattle.site.specs.Events.{is_end}
use Rattle.site.specs.Model.{Site}
use Rattle.site.specs.declared.Event.{Event}
use Rattle.site.specs.declared.Event.TheVariants.{Send, Hear, Close, Take, End, Want, Crash, Restart}
use Rattle.site.proofs.Accepted.{answered, hear-accepted}
use Rattle.windows.specs.Windows.{list_ok}
use Rattle.windows.specs.declared.Window.{Window}
use Rattle.machine.specs.timed.Timed.{Timed, epoch_after, next_in_day, given_site, begins_epoch, timed_answer, given_before, next_timed, timed_after}

-- two areas, alike in the parts of n packets
pub record Alike (x y : List ℕ) (n : ℕ) : Type 0 where
  pub left : area_size ≤ length x
  pub right : area_size ≤ length y
  pub parts : (p : ℕ) → p < n → part_of x p ≡ part_of y p

module _ (s : Site) (x y : List ℕ) (h : Alike x y (packets s.sent)) where
  hear-alike : (j p : ℕ) → site_hear s x j p ≡ site_hear s y j p
  unfolding site_hear
  hear-alike j p =
      ap (λ (r : Answer). cond (outside s.config j) NoSuchNode
      (cond (not s.negotiates) WrongPhase (cond (not (is_live (member_at s j))) NotLive r)))
      (past-test (not (is_packet (header_of s) p)) NoSuchPacket (answer_part (header_of s) (member_at s j) (part_of x (p - 1)))
      (answer_part (header_of s) (member_at s j) (part_of y (p - 1))) (λ d.
      let e : is_packet (header_of s) p ≡ true = not-false _ d in
      let l : 1 ≤ p = leb-true _ _ (and_left (leb 1 p) (leb p (packets s.sent)) e) in
      let m : p ≤ packets s.sent = leb-true _ _ (and_right (leb 1 p) (leb p (packets s.sent)) e) in
      ap (answer_part (header_of s) (member_at s j)) (h.parts (p - 1) (omega arith))))

  event-alike : (e : Event) → event_answer s x e ≡ event_answer s y e
  event-alike (Send j) = refl
  event-alike (Hear j p) = hear-alike j p
  event-alike Close = refl
  event-alike (Take j i) = refl
  event-alike End = refl
  event-alike (Want j d) = refl
  event-alike (Crash j) = refl
  event-alike (Restart j flags) = refl

  pub answer-alike : (e : Event) → answer_of s x e ≡ answer_of s y e
  unfolding answer_of
  answer-alike e = skip _ _ _ _ (le-ltb _ _ h.left) (event-alike e ∙ sym (skip _ _ _ _ (le-ltb _ _ h.right) refl))

  next-alike : (e : Event) → answer_of s x e ≡ Done → next_site s x e ≡ next_site s y e
  unfolding heard_site
  next-alike (Send j) d = refl
  next-alike (Hear j p) d =
      let b = hear-accepted s x j p (answered s x (Hear j p) d).1 in
      ap (λ (q : List ℕ). put s j (heard_member q (member_at s j))) (h.parts (p - 1) (omega (arith, b.from, b.to)))
  next-alike Close d = refl
  next-alike (Take j i) d = refl
  next-alike End d = refl
  next-alike (Want j d) e = refl
  next-alike (Crash j) d = refl
  next-alike (Restart j flags) d = refl

  pub site-alike : (e : Event) → site_after s x e ≡ site_after s y e
  unfolding site_after
  site-alike e =
      at_test (is_done (answer_of s x e)) _ _ _ (λ d. next-alike e (done-is _ d))
      ∙ ap (λ (a : Answer). cond (is_done a) (next_site s y e) s) (answer-alike e)

module _ (t : Timed) (x y : List ℕ) (ws : List Window) (h : Alike x y (packets t.site.sent)) where
  pub timed-answer : (e : Event) → timed_answer t x ws e ≡ timed_answer t y ws e
  unfolding timed_answer
  timed-answer e = ap (λ (a : Answer). cond (is_end e && is_done a)
      (cond (list_ok t.site.config.nodes t.day.length ws) Done BadWindows) a) (answer-alike t.site x y h e)

  -- demands that are given leave the counts as they were
  before-sent : (e : Event) → packets (given_before t ws e).sent ≡ packets t.site.sent
  unfolding given_site
  before-sent e = read_same (λ (s : Site). packets s.sent) (begins_epoch t e) (given_site ws (epoch_after t.day) t.site) t.site _
      refl refl

  next-timed : (e : Event) → next_timed t x ws e ≡ next_timed t y ws e
  unfolding next_timed
  next-timed e =
      let k : Alike x y (packets (given_before t ws e).sent) =
      record { left = h.left; right = h.right; parts = λ p l. h.parts p (omega (arith, before-sent e)) } in
      let q = site-alike (given_before t ws e) x y k e in
      λ i. record { site = q i; day = cond (begins_epoch t e) (next_in_day t.day) t.day }

  pub timed-after : (e : Event) → timed_after t x ws e ≡ timed_after t y ws e
  unfolding timed_after
  timed-after e =
      ap (λ (v : Timed). cond (is_done (timed_answer t x ws e)) v t) (next-timed e)
      ∙ ap (λ (a : Answer). cond (is_done a) (next_timed t y ws e) t) (timed-answer e)
