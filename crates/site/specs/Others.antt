-- A node's count is its own: 7 is answered where this very node has sent 8 packets in this phase, and nothing that another node does
-- changes it (specification, 9 Refusals).
-- Assumes nothing.
use Rattle.std.specs.Prelude.{◌≡◌, Bool, true, not, ◌&&◌, ◌||◌, List, [], ◌∷◌, ℕ, eqb, leb}
use Rattle.node.specs.Answers.{is_done, number}
use Rattle.site.specs.Counts.{top_sent, sent_of}
use Rattle.site.specs.Members.{member_at, outside, is_live}
use Rattle.site.specs.Answers.{site_send, answer_of}
use Rattle.site.specs.Events.{is_close, is_end, actor}
use Rattle.site.specs.Run.{RunState, after, run}
use Rattle.site.specs.Model.{Site}
use Rattle.site.specs.declared.Event.{Event}

-- whether an event is of another node than j: not j's own, and no close or end, which are of all
abbrev pub is_others : ℕ → Event → Bool
is_others j e = not (is_close e) && (not (is_end e) && not (eqb (actor e) j))

-- whether each event of a list is of another node than j, or refused
unfoldable pub others : ℕ → RunState → List Event → Bool
others j w [] = true
others j w (e ∷ es) = (not (is_done (answer_of w.site w.area e)) || is_others j e) && others j (after w e) es

-- the laws' statement, of any site with any area: proved in proofs/Others.antt
pub record OwnCount : Type 0 where
  -- a send of node j is refused as 7 exactly where j is a live node in negotiation that has sent 8
  pub seven : (s : Site) (j : ℕ) → eqb (number (site_send s j)) 7
      ≡ (not (outside s.config j) && (s.negotiates && (is_live (member_at s j) && leb top_sent (sent_of s.sent j))))
  -- after a list of events of other nodes, and of refused ones, a send of node j is answered as before it: 7 or any other number
  pub kept : (w : RunState) (j : ℕ) (es : List Event) → others j w es ≡ true → site_send (run w es).site j ≡ site_send w.site j
