-- Specification, 3.9: the calls of a group and their answers. A number outside 1 to 8, or for an event one that is not
-- loaded, is refused as 3 before anything else; then come the numbers of the site alone; and 17 for a send of a site
-- with at least 16 packets when the common 128 are in use.
-- Assumes nothing.
use Rattle.std.specs.Prelude.{Bool, true, false, not, cond, ◌&&◌, List, ℕ, ltb, leb, length}
use Rattle.node.specs.Answers.{is_done, number}
use Rattle.node.specs.Answers.{Answer}
use Rattle.node.specs.Answers.{NoSuchNode, NoRoom, Crowded}
use Rattle.site.specs.Answers.{area_size}
use Rattle.node.specs.declared.Config.{Config}
use Rattle.site.specs.declared.Table.{Table}
use Rattle.site.specs.declared.Event.{Event}
use Rattle.site.specs.declared.Event.TheVariants.{Send, Hear, Close, Take, End, Want, Crash, Restart}
use Rattle.windows.specs.declared.Window.{Window}
use Rattle.machine.specs.timed.Timed.{timed_load_answer, timed_answer}
use Rattle.machine.specs.timed.Calls.{Call}
use Rattle.group.specs.Group.{SiteSlot, Empty, Taken, Group, is_number, site_slot_of, packets_in, own_share, common_share, common, own_area}

-- a load of a number, with settings, table, day and windows; and an event of a number, with windows
pub data GroupCall : Type 0 where
  LoadSite : ℕ → Config → Table → ℕ → List Window → GroupCall
  SiteCall : ℕ → Call → GroupCall

-- the number that a call is of
abbrev pub call_number : GroupCall → ℕ
call_number (LoadSite a f t D ws) = a
call_number (SiteCall a c) = a

abbrev pub is_send : Event → Bool
is_send (Send j) = true
is_send (Hear j p) = false
is_send Close = false
is_send (Take j i) = false
is_send End = false
is_send (Want j d) = false
is_send (Crash j) = false
is_send (Restart j flags) = false

-- what the site slot of number a answers to an event: 3 where it is empty, 15 for an area under 11,520 bytes, then as
-- the site with an area of its own
abbrev pub site_slot_answer : Group → ℕ → SiteSlot → Call → Answer
site_slot_answer g a Empty c = NoSuchNode
site_slot_answer g a (Taken t) c = cond (ltb (length g.area) area_size) NoRoom
    (timed_answer t (own_area g a (packets_in (Taken t))) c.windows c.event)

-- the answer but for 17
unfoldable pub plain_answer : Group → GroupCall → Answer
plain_answer g (LoadSite a f t D ws) = cond (is_number a) (timed_load_answer f t D ws) NoSuchNode
plain_answer g (SiteCall a c) = site_slot_answer g a (site_slot_of g a) c

-- the site has its own share, and the common places are taken
abbrev pub is_short : Group → ℕ → Bool
is_short g a = leb own_share (packets_in (site_slot_of g a)) && leb common_share (common g)

-- a send that is refused as 17: nothing else is to be said against it
unfoldable pub is_crowded : Group → GroupCall → Bool
is_crowded g (LoadSite a f t D ws) = false
is_crowded g (SiteCall a c) = is_send c.event && (is_done (plain_answer g (SiteCall a c)) && is_short g a)

abbrev pub crowded : ℕ
crowded = number Crowded

-- the number that a call is answered with; 0 where it is done
unfoldable pub answer_to : Group → GroupCall → ℕ
answer_to g c = cond (is_crowded g c) crowded (number (plain_answer g c))

abbrev pub group_accepts : Group → GroupCall → Bool
group_accepts g c = is_done (plain_answer g c) && not (is_crowded g c)
