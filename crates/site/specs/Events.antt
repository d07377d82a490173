-- Whose an event is (specification, 7 Script): close and end are of all live nodes, any other is of one node.
-- Assumes nothing.
use Rattle.std.specs.Prelude.{Bool, true, false, ℕ}
use Rattle.site.specs.declared.Event.{Event}
use Rattle.site.specs.declared.Event.TheVariants.{Send, Hear, Close, Take, End, Want, Crash, Restart}

-- whether an event is a close, or an end
abbrev pub is_close : Event → Bool
is_close (Send j) = false
is_close (Hear j p) = false
is_close Close = true
is_close (Take j i) = false
is_close End = false
is_close (Want j d) = false
is_close (Crash j) = false
is_close (Restart j flags) = false

abbrev pub is_end : Event → Bool
is_end (Send j) = false
is_end (Hear j p) = false
is_end Close = false
is_end (Take j i) = false
is_end End = true
is_end (Want j d) = false
is_end (Crash j) = false
is_end (Restart j flags) = false

-- the number of the node that an event is of; 0 where it is of all
abbrev pub actor : Event → ℕ
actor (Send j) = j
actor (Hear j p) = j
actor Close = 0
actor (Take j i) = j
actor End = 0
actor (Want j d) = j
actor (Crash j) = j
actor (Restart j flags) = j
