-- What is written to the storage of a site: a member, a close, an end, a take. No other word or byte is.
-- Lent bytes may be masks that the library doesn't write; schedules are moved where they stand, so that what a move leaves or copies are
-- the same bytes.
-- Assumes nothing.
use Rattle.std.specs.Prelude.{Bool, cond, ◌&&◌, ◌||◌, List, [], ◌∷◌, ◌++◌, ℕ, min, ◌+◌, ◌-◌, eqb, set}
use Rattle.lists.specs.All.{iter}
use Rattle.lists.specs.Bytes.{written}
use Rattle.masks.specs.Bytes.{copied}
use Rattle.node.specs.Answers.{is_done}
use Rattle.node.specs.Close.{close_answer}
use Rattle.node.specs.Core.{core_of, core_closed, core_ended, take_move_by}
use Rattle.node.specs.End.{end_answer}
use Rattle.node.specs.InPlace.{moved_in}
use Rattle.node.specs.declared.Move.{Move}
use Rattle.node.specs.declared.Move.TheVariants.{Free}
use Rattle.site.specs.Counts.{none_sent}
use Rattle.site.specs.Members.{outside, is_live}
use Rattle.site.specs.Steps.{close_member, end_member, taken_member, place_after}
use Rattle.site.specs.Model.{Member}
use Rattle.machine.specs.Layout.{Store, store, too_short, node_words_at, node_bytes_at, schedules_at, at_place, at_sent, config_in, node_in}
use Rattle.machine.specs.Layout.{stored_in}
use Rattle.machine.specs.Layout.{site_in, node_words, stored_front}

-- a member's numbers at index i, without the schedules
abbrev pub written_front : Store → ℕ → Member → Store
written_front s i m = store (written s.words (node_words_at i) (node_words m.node)) (written s.bytes (node_bytes_at i) (stored_front m))

-- and its schedules moved, by the core before
abbrev pub written_moved : Store → ℕ → Member → Move → Store
written_moved s i m v = store (written s.words (node_words_at i) (node_words m.node))
    (moved_in v (core_of (node_in s i)) (written s.bytes (node_bytes_at i) (stored_front m)) (schedules_at i))

-- a member with all slots free
abbrev pub written_free : Store → ℕ → Member → Store
written_free s i m = written_moved s i m Free

-- another demand of the node at index i: one byte
abbrev pub demanded : Store → ℕ → ℕ → Store
demanded s i d = store s.words (set s.bytes (node_bytes_at i + 1) d)

-- the member of number j, with all slots free; storage that is too short, and a number of none of the N nodes, write nothing
unfoldable pub member_put : Store → ℕ → Member → Store
member_put s j m = cond (too_short s || outside (config_in s) j) s (written_free s (j - 1) m)

-- the node at index i holds the schedule of the node at index h
abbrev pub handed_on : Store → ℕ → ℕ → Store
handed_on s i h = store s.words (copied s.bytes (schedules_at h) (schedules_at i))

-- and takes its version; a determined schedule is kept over a take of its own version only
unfoldable pub taken_at : Store → ℕ → ℕ → Store
taken_at s i h =
    written_moved (handed_on s i h) i (taken_member (stored_in s i) (stored_in s h))
    (take_move_by (eqb (node_in s i).version (node_in s h).version))

-- what a step makes of the member at index i, if it passes a test, and of its schedules
unfoldable pub each : (Member → Bool) → (Member → Member) → (Member → Move) → ℕ → Store → Store
each test step change i s = cond (test (stored_in s i)) (written_moved s i (step (stored_in s i)) (change (stored_in s i))) s

-- the members that close, and those for which a round ends: no other is written
abbrev pub closes : Member → Bool
closes m = is_live m && is_done (close_answer m.node)

abbrev pub close_change : Member → Move
close_change m = (core_closed (core_of m.node)).change

abbrev pub ends : Member → Bool
ends m = m.up && is_done (end_answer m.node)

abbrev pub end_change : Member → Move
end_change m = (core_ended (core_of m.node)).change

-- the N nodes, one after another; at most 32
abbrev pub nodes_in : Store → ℕ
nodes_in s = min (config_in s).nodes 32

-- another phase: no packets, and 1 in negotiation
abbrev pub phased : List ℕ → ℕ → List ℕ
phased b phase = written b at_sent (none_sent ++ (phase ∷ []))

unfoldable pub closed_store : Store → Store
closed_store s =
    let t = iter (nodes_in s) (each closes close_member close_change) s in
    store t.words (phased t.bytes 0)

unfoldable pub ended_store : Store → Store
ended_store s =
    let t = iter (nodes_in s) (each ends end_member end_change) s in
    store (set t.words at_place (place_after (site_in s))) (phased t.bytes 1)

-- storage that is too short stays as it is
unfoldable pub store_closed : Store → Store
store_closed s = cond (too_short s) s (closed_store s)

unfoldable pub store_ended : Store → Store
store_ended s = cond (too_short s) s (ended_store s)
