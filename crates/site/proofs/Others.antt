-- The laws of specs/Others.antt.
-- Assumes nothing.
use mathlib.Core.Path.{◌≡◌, refl, sym, ap, ap₂, ◌∙◌}
use mathlib.Core.Bool.{Bool, true, false, not, cond, ◌&&◌, ◌||◌}
use mathlib.Core.List.{List, [], ◌∷◌}
use Prim.Native.Nat.{ℕ, ◌-◌, ◌≤◌}
use native.Mathlib.Omega.{arith}
use borrow.Author.Tests.{leb-true, eqb-false, not-false, not-true}
use lib.Dec.{eqb, leb}
use lib.ListN.{get_or, set}
use lib.Seq.{get_or-set_other}
use Rattle.words.proofs.Tests.{never, past-test, and_left, and_right}
use Rattle.node.specs.Answers.{is_done, number}
use Rattle.node.specs.Figures.{negotiates}
use Rattle.node.specs.Negotiation.{send_answer}
use Rattle.node.specs.Answers.{Answer}
use Rattle.node.specs.Answers.{Done, NoSuchNode, WrongPhase, NotLive, TooManyPackets}
use Rattle.node.proofs.Answers.{done-is}
use Rattle.node.proofs.Bare.{send-phase}
use Rattle.site.specs.Counts.{top_sent, sent_of, one_more}
use Rattle.site.specs.Members.{nobody, header_of, member_at, outside, is_live, put}
use Rattle.site.specs.Answers.{is_full, site_send, answer_of}
use Rattle.site.specs.Steps.{sent_site, heard_site, taken_site, wanted_site, crashed_site, restarted_site, next_site, site_after}
use Rattle.site.specs.Run.{RunState, after, run}
use Rattle.site.specs.Others.{is_others, others, OwnCount}
use Rattle.node.specs.declared.Config.{Config}
use Rattle.site.specs.Model.{Member}
use Rattle.site.specs.Model.{Site}
use Rattle.site.specs.declared.Event.{Event}
use Rattle.site.specs.declared.Event.TheVariants.{Send, Hear, Close, Take, End, Want, Crash, Restart}
use Rattle.site.proofs.Accepted.{answered, send-accepted, hear-accepted, take-accepted, want-accepted, crash-accepted}
use Rattle.site.proofs.Accepted.{restart-accepted}

-- the tests of a send in their order
told : (a b c d e : Bool) → eqb (number (cond a NoSuchNode (cond (not b) WrongPhase
    (cond (not c) NotLive (cond d TooManyPackets (cond e Done WrongPhase)))))) 7 ≡ (not a && (b && (c && d)))
told true b c d e = refl
told false false c d e = refl
told false true false d e = refl
told false true true true e = refl
told false true true false true = refl
told false true true false false = refl

seven : (s : Site) (j : ℕ) → eqb (number (site_send s j)) 7 ≡ (not (outside s.config j)
    && (s.negotiates && (is_live (member_at s j) && leb top_sent (sent_of s.sent j))))
unfolding site_send
seven s j =
    ap (λ (x : Answer). eqb (number (cond (outside s.config j) NoSuchNode
    (cond (not s.negotiates) WrongPhase (cond (not (is_live (member_at s j))) NotLive
    (cond (is_full (header_of s) j) TooManyPackets x))))) 7) (send-phase (member_at s j).node)
    ∙ told (outside s.config j) s.negotiates (is_live (member_at s j)) (leb top_sent (sent_of s.sent j))
    (negotiates (member_at s j).node.phase)

-- of a site's counts and members a send looks at its node's alone
like : (s : Site) (l : List ℕ) (ms : List Member) (j : ℕ)
    → (outside s.config j ≡ false → (get_or ms (j - 1) nobody ≡ member_at s j) × (sent_of l j ≡ sent_of s.sent j))
    → site_send (record { config = s.config; negotiates = s.negotiates; place = s.place; sent = l; members = ms }) j ≡ site_send s j
unfolding site_send
like s l ms j h =
    past-test (outside s.config j) NoSuchNode _ _
    (λ o. ap₂ (λ (m : Member) (n : ℕ). cond (not s.negotiates) WrongPhase
    (cond (not (is_live m)) NotLive (cond (leb top_sent n) TooManyPackets (send_answer m.node)))) (h o).0 (h o).1)

-- a number of a node is 1 or more
from_one : (f : Config) (j : ℕ) → outside f j ≡ false → 1 ≤ j
from_one f j o = leb-true 1 j (and_left (leb 1 j) (leb j f.nodes && leb j 32) (not-false _ o))

module _ (s : Site) (i j : ℕ) (o : outside s.config i ≡ false) (n : eqb i j ≡ false) where
  -- another node's place is another place
  apart : {X : Type 0} (d x : X) (l : List X) → outside s.config j ≡ false → get_or (set l (i - 1) x) (j - 1) d ≡ get_or l (j - 1) d
  apart d x l p =
      let a = from_one s.config i o in
      let b = from_one s.config j p in
      get_or-set_other l (i - 1) (j - 1) x d (λ q. eqb-false i j n (omega (arith, q, a, b)))

  sent-like : site_send (sent_site s i) j ≡ site_send s j
  unfolding sent_site
  sent-like = like s (one_more s.sent i) s.members j (λ p. (refl, apart 0 _ s.sent p))

  put-like : (m : Member) → site_send (put s i m) j ≡ site_send s j
  put-like m = like s s.sent (set s.members (i - 1) m) j (λ p. (apart nobody m s.members p, refl))

-- each accepted event of another node
accepted : (s : Site) (area : List ℕ) (j : ℕ) (e : Event) → answer_of s area e ≡ Done → is_others j e ≡ true
    → site_send (next_site s area e) j ≡ site_send s j
unfolding heard_site taken_site wanted_site crashed_site restarted_site
accepted s area j (Send i) d h = sent-like s i j (send-accepted s i (answered s area (Send i) d).1).0.node (not-true _ h)
accepted s area j (Hear i p) d h = put-like s i j (hear-accepted s area i p (answered s area (Hear i p) d).1).acts.node (not-true _ h) _
accepted s area j Close d h = never (sym h)
accepted s area j (Take i k) d h = put-like s i j (take-accepted s i k (answered s area (Take i k) d).1).taker (not-true _ h) _
accepted s area j End d h = never (sym h)
accepted s area j (Want i v) d h = put-like s i j (want-accepted s i v (answered s area (Want i v) d).1).0.node (not-true _ h) _
accepted s area j (Crash i) d h = put-like s i j (crash-accepted s i (answered s area (Crash i) d).1).node (not-true _ h) _
accepted s area j (Restart i flags) d h = put-like s i j (restart-accepted s i flags (answered s area (Restart i flags) d).1).node
    (not-true _ h) _

-- each event of another node, and each refused one
stepped : (w : RunState) (j : ℕ) (e : Event) → (not (is_done (answer_of w.site w.area e)) || is_others j e) ≡ true
    → site_send (after w e).site j ≡ site_send w.site j
unfolding site_after
stepped w j e h = go (is_done (answer_of w.site w.area e)) refl
  where
    go : (t : Bool) → is_done (answer_of w.site w.area e) ≡ t
        → site_send (cond t (next_site w.site w.area e) w.site) j ≡ site_send w.site j
    go true d = accepted w.site w.area j e (done-is _ d) (sym (ap (λ (t : Bool). not t || is_others j e) d) ∙ h)
    go false d = refl

kept : (w : RunState) (j : ℕ) (es : List Event) → others j w es ≡ true → site_send (run w es).site j ≡ site_send w.site j
unfolding others run
kept w j [] h = refl
kept w j (e ∷ es) h =
    let t = not (is_done (answer_of w.site w.area e)) || is_others j e in
    let u = others j (after w e) es in
    kept (after w e) j es (and_right t u h) ∙ stepped w j e (and_left t u h)

pub own-count : OwnCount
own-count = record { seven = seven; kept = kept }
