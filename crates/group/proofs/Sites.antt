-- What a call makes of a site's packets and of an area of its own: a send is one packet more behind the others, a close leaves none, and
-- any other call leaves them as they were.
-- Assumes nothing.
use mathlib.Core.Path.{◌≡◌, refl, sym, ap, ◌∙◌}
use mathlib.Core.Bool.{Bool, true, false}
use mathlib.Core.List.{List}
use Prim.Native.Nat.{ℕ, ◌+◌}
use native.Mathlib.Omega.{arith}
use Rattle.words.proofs.Tests.{clash, hit, skip, read_same}
use Rattle.node.specs.Answers.{is_done}
use Rattle.node.specs.Negotiation.{packet_of}
use Rattle.node.specs.Answers.{Done}
use Rattle.node.proofs.Answers.{done-is}
use Rattle.wire.specs.Reads.{placed, has_part}
use Rattle.site.specs.Counts.{packets}
use Rattle.site.specs.Members.{member_at}
use Rattle.site.specs.Answers.{answer_of}
use Rattle.site.specs.Steps.{sent_site, heard_site, closed_site, taken_site, ended_site, wanted_site, crashed_site, restarted_site, next_site}
use Rattle.site.specs.Steps.{next_area, site_after, area_after}
use Rattle.site.specs.Events.{is_close, is_end}
use Rattle.site.specs.Model.{Site}
use Rattle.site.specs.declared.Event.{Event}
use Rattle.site.specs.declared.Event.TheVariants.{Send, Hear, Close, Take, End, Want, Crash, Restart}
use Rattle.site.proofs.Accepted.{Acts, answered, send-accepted, end-accepted}
use Rattle.site.proofs.Counts.{packets-none, packets-more, area-placed}
use Rattle.windows.specs.declared.Window.{Window}
use Rattle.machine.specs.timed.Timed.{Timed, epoch_after, given_site, begins_epoch, timed_answer, given_before, next_timed, timed_after}
use Rattle.machine.proofs.timed.Laws.{done-after, plain-answer, plain-after}
use Rattle.group.specs.Calls.{is_send}
use Rattle.group.proofs.Lawful.{Lawful}

-- only a send writes
pub area-kept : (s : Site) (x : List ℕ) (e : Event) → is_send e ≡ false → area_after s x e ≡ x
unfolding area_after
area-kept s x e h = read_same (λ (y : List ℕ). y) (is_done (answer_of s x e)) (next_area s x e) x x (go e h) refl
  where
    go : (e : Event) → is_send e ≡ false → next_area s x e ≡ x
    go (Send j) h = clash (is_send (Send j)) refl h
    go (Hear j p) h = refl
    go Close h = refl
    go (Take j i) h = refl
    go End h = refl
    go (Want j d) h = refl
    go (Crash j) h = refl
    go (Restart j flags) h = refl

refused-area : (s : Site) (x : List ℕ) (e : Event) → is_done (answer_of s x e) ≡ false → area_after s x e ≡ x
unfolding area_after
refused-area s x e h = skip _ _ _ _ h refl

module _ (t : Timed) (x : List ℕ) (ws : List Window) where
  -- a refused call leaves the area as it was
  pub area-refused : (e : Event) → is_done (timed_answer t x ws e) ≡ false → area_after t.site x e ≡ x
  area-refused (Send j) h = refused-area t.site x (Send j) (ap is_done (sym (plain-answer t x ws (Send j) refl)) ∙ h)
  area-refused (Hear j p) h = area-kept t.site x (Hear j p) refl
  area-refused Close h = area-kept t.site x Close refl
  area-refused (Take j i) h = area-kept t.site x (Take j i) refl
  area-refused End h = area-kept t.site x End refl
  area-refused (Want j d) h = area-kept t.site x (Want j d) refl
  area-refused (Crash j) h = area-kept t.site x (Crash j) refl
  area-refused (Restart j flags) h = area-kept t.site x (Restart j flags) refl

  -- an end that is accepted is one of the site
  end-done : timed_answer t x ws End ≡ Done → answer_of t.site x End ≡ Done
  unfolding timed_answer
  end-done h = go (is_done (answer_of t.site x End)) refl
    where
      go : (b : Bool) → is_done (answer_of t.site x End) ≡ b → answer_of t.site x End ≡ Done
      go true e = done-is _ e
      go false e = sym (skip (is_done (answer_of t.site x End)) _ _ _ e refl) ∙ h

  module _ (L : Lawful t.site) where
    -- the counts after an end: there were no packets, and there are none
    end-sent : is_done (timed_answer t x ws End) ≡ true → packets (timed_after t x ws End).site.sent ≡ packets t.site.sent
    unfolding next_timed site_after ended_site given_site
    end-sent h =
        let q = L.quiet (end-accepted t.site (answered t.site x End (end-done (done-is _ h))).1) in
        let before : packets (given_before t ws End).sent ≡ 0 =
        read_same (λ (s : Site). packets s.sent) (begins_epoch t End) (given_site ws (epoch_after t.day) t.site) t.site 0 q q
        in
        ap (λ (v : Timed). packets v.site.sent) (done-after t x ws End h)
        ∙ read_same (λ (s : Site). packets s.sent) (is_done (answer_of (given_before t ws End) x End)) (ended_site (given_before t ws End))
        (given_before t ws End) 0 packets-none before
        ∙ sym q

    -- an event of one node but a send leaves the counts
    one-sent : (e : Event) → is_end e ≡ false → (next_site t.site x e).sent ≡ t.site.sent → packets (timed_after t x ws e).site.sent
        ≡ packets t.site.sent
    unfolding site_after
    one-sent e h k =
        ap (λ (v : Timed). packets v.site.sent) (plain-after t x ws e h)
        ∙ read_same (λ (s : Site). packets s.sent) (is_done (answer_of t.site x e)) (next_site t.site x e) t.site _ (ap packets k)
        refl

    pub sent-kept : (e : Event) → is_send e ≡ false → is_close e ≡ false → is_done (timed_answer t x ws e) ≡ true
        → packets (timed_after t x ws e).site.sent ≡ packets t.site.sent
    unfolding heard_site taken_site wanted_site crashed_site restarted_site
    sent-kept (Send j) h k d = clash (is_send (Send j)) refl h
    sent-kept (Hear j p) h k d = one-sent (Hear j p) refl refl
    sent-kept Close h k d = clash (is_close Close) refl k
    sent-kept (Take j i) h k d = one-sent (Take j i) refl refl
    sent-kept End h k d = end-sent d
    sent-kept (Want j v) h k d = one-sent (Want j v) refl refl
    sent-kept (Crash j) h k d = one-sent (Crash j) refl refl
    sent-kept (Restart j flags) h k d = one-sent (Restart j flags) refl refl

  -- a close leaves none
  pub closed-sent : is_done (timed_answer t x ws Close) ≡ true → packets (timed_after t x ws Close).site.sent ≡ 0
  unfolding site_after closed_site
  closed-sent h =
      ap (λ (v : Timed). packets v.site.sent) (plain-after t x ws Close refl)
      ∙ ap (λ (s : Site). packets s.sent) (hit _ _ t.site (ap is_done (sym (plain-answer t x ws Close refl)) ∙ h))
      ∙ packets-none

  -- a send is one more
  module _ (j : ℕ) (L : Lawful t.site) (h : is_done (timed_answer t x ws (Send j)) ≡ true) where
    done : answer_of t.site x (Send j) ≡ Done
    done = sym (plain-answer t x ws (Send j) refl) ∙ done-is _ h

    pub sender : Acts t.site j
    sender = (send-accepted t.site j (answered t.site x (Send j) done).1).0

    pub sent-more : packets (timed_after t x ws (Send j)).site.sent ≡ packets t.site.sent + 1
    unfolding site_after sent_site
    sent-more =
        ap (λ (v : Timed). packets v.site.sent) (plain-after t x ws (Send j) refl)
        ∙ ap (λ (s : Site). packets s.sent) (hit _ _ t.site (ap is_done done))
        ∙ packets-more t.site.sent j (omega (arith, L.counters.long, L.site_slot j sender))

    pub sent-area : has_part x (packets t.site.sent) ≡ true → area_after t.site x (Send j)
        ≡ placed x (packets t.site.sent) (packet_of (member_at t.site j).node)
    unfolding area_after
    sent-area r = hit _ _ x (ap is_done done) ∙ area-placed t.site x j r
