-- What each accepted event makes of the storage of a site: which words and bytes it writes. It writes no other.
-- Assumes nothing.
use Rattle.std.specs.Prelude.{cond, List, ℕ, ◌+◌, ◌-◌, get_or, set}
use Rattle.node.specs.Answers.{Answer, NoRoom, is_done}
use Rattle.node.specs.Negotiation.{packet_of}
use Rattle.site.specs.Members.{header_of, member_at, down_member}
use Rattle.site.specs.Parts.{packet_part}
use Rattle.site.specs.Answers.{answer_heard, answer_of}
use Rattle.site.specs.Steps.{stored, heard_member, restarted_member, site_after, area_after}
use Rattle.site.specs.Model.{Site}
use Rattle.site.specs.declared.Event.{Event}
use Rattle.site.specs.declared.Event.TheVariants.{Send, Hear, Close, Take, End, Want, Crash, Restart}
use Rattle.machine.specs.Layout.{Store, store, too_short, at_sent, config_in, stored_in, site_in}
use Rattle.machine.specs.Written.{written_front, demanded, written_free, taken_at, closed_store, ended_store}

-- node j has sent one more packet: one byte
unfoldable pub sent_store : Store → ℕ → Store
sent_store s j = store s.words (set s.bytes (at_sent + (j - 1)) (get_or s.bytes (at_sent + (j - 1)) 0 + 1))

-- a hear of the packet in these bytes moves no schedule
abbrev pub heard_part : Store → List ℕ → ℕ → Store
heard_part s part j = written_front s (j - 1) (heard_member part (stored_in s (j - 1)))

unfoldable pub heard_store : Store → List ℕ → ℕ → ℕ → Store
heard_store s area j p = heard_part s (packet_part (header_of (site_in s)) area p) j

unfoldable pub taken_store : Store → ℕ → ℕ → Store
taken_store s j i = taken_at s (j - 1) (i - 1)

unfoldable pub wanted_store : Store → ℕ → ℕ → Store
wanted_store s j d = demanded s (j - 1) d

unfoldable pub crashed_store : Store → ℕ → Store
crashed_store s j = written_free s (j - 1) (down_member (config_in s) j)

unfoldable pub restarted_store : Store → ℕ → ℕ → Store
restarted_store s j flags = written_free s (j - 1) (restarted_member (header_of (site_in s)) j flags)

-- the storage after an accepted event
abbrev pub next_store : Store → List ℕ → Event → Store
next_store s area (Send j) = sent_store s j
next_store s area (Hear j p) = heard_store s area j p
next_store s area Close = closed_store s
next_store s area (Take j i) = taken_store s j i
next_store s area End = ended_store s
next_store s area (Want j d) = wanted_store s j d
next_store s area (Crash j) = crashed_store s j
next_store s area (Restart j flags) = restarted_store s j flags

-- 15 for storage that is too short, before anything else
unfoldable pub storage_answer : Store → List ℕ → Event → Answer
storage_answer s area e = cond (too_short s) NoRoom (answer_of (site_in s) area e)

-- a refused event writes nothing
unfoldable pub store_after : Store → List ℕ → Event → Store
store_after s area e = cond (is_done (storage_answer s area e)) (next_store s area e) s

-- the site that the storage stands for then: proved in proofs/steps/Follows.antt
unfoldable pub site_with : Store → List ℕ → Event → Site
site_with s area e = cond (too_short s) (site_in s) (site_after (site_in s) area e)

unfoldable pub area_with : Store → List ℕ → Event → List ℕ
area_with s area e = cond (too_short s) area (area_after (site_in s) area e)

-- Where packets lie by another rule than one behind another (crates/sites): a hear of packet p whose bytes are these, and a send into the
-- part of an index.
unfoldable pub site_heard : Site → List ℕ → ℕ → ℕ → Answer
site_heard s part j p = answer_heard (header_of s) part (member_at s j) j p

-- 15 for storage that is too short, before anything else
unfoldable pub part_answer : Store → List ℕ → ℕ → ℕ → Answer
part_answer s part j p = cond (too_short s) NoRoom (site_heard (site_in s) part j p)

unfoldable pub part_store : Store → List ℕ → ℕ → ℕ → Store
part_store s part j p = cond (is_done (part_answer s part j p)) (heard_part s part j) s

-- no other byte of the area changes
unfoldable pub area_into : Store → List ℕ → ℕ → ℕ → List ℕ
area_into s area at j = cond (is_done (storage_answer s area (Send j))) (stored area at (packet_of (member_at (site_in s) j).node)) area
