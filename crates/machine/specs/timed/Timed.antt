-- Specification, 3.7 Demands by the hour: a site with its day. As each epoch begins, at loading too, a node with
-- windows gets the demand of the one that holds, or 0, unless it is down; requests are taken after that. A list or a
-- day that breaks the rules is refused as 16.
-- Assumes nothing.
use Rattle.std.specs.Prelude.{Bool, cond, ◌&&◌, List, ℕ, ◌+◌, leb, get_or}
use Rattle.lists.specs.All.{tab}
use Rattle.node.specs.Answers.{Answer, Done, BadWindows, is_done}
use Rattle.node.specs.Figures.{is_last}
use Rattle.site.specs.Members.{nobody}
use Rattle.site.specs.Load.{no_row, load_answer, loaded_site}
use Rattle.site.specs.Answers.{answer_of}
use Rattle.site.specs.Steps.{wanted_member, site_after}
use Rattle.site.specs.Events.{is_end}
use Rattle.node.specs.declared.Config.{Config}
use Rattle.site.specs.declared.Row.{Row}
use Rattle.site.specs.declared.Table.{Table}
use Rattle.site.specs.Model.{Member}
use Rattle.site.specs.Model.{Site}
use Rattle.site.specs.declared.Event.{Event}
use Rattle.windows.specs.Windows.{list_ok, due_at}
use Rattle.windows.specs.declared.Window.{Window}
use Rattle.machine.specs.declared.Day.{Day}

-- a site with its day
pub record Timed : Type 0 where
  pub site : Site
  pub day : Day

-- a day of D epochs begins with epoch 0
abbrev pub first_epoch : ℕ → Day
first_epoch D = record { length = D; epoch = 0 }

-- after D - 1 comes 0
abbrev pub epoch_after : Day → ℕ
epoch_after d = cond (leb d.length (d.epoch + 1)) 0 (d.epoch + 1)

abbrev pub next_in_day : Day → Day
next_in_day d = record { length = d.length; epoch = epoch_after d }

-- the member of number j as epoch e begins: where the node isn't down, its demand is the one due; the request stays
abbrev pub given_member : List Window → ℕ → ℕ → Member → Member
given_member ws e j m = cond m.up (wanted_member m (due_at ws j e m.node.demand)) m

-- the demands of epoch e, given to all nodes that are not down
unfoldable pub given_site : List Window → ℕ → Site → Site
given_site ws e s =
    record {
      config = s.config;
      negotiates = s.negotiates;
      place = s.place;
      sent = s.sent;
      members = tab 32 (λ i. given_member ws e (i + 1) (get_or s.members i nobody));
    }

-- the row of node j as the first epoch begins
abbrev pub given_row : List Window → ℕ → Row → Row
given_row ws j r = record { version = r.version; flags = r.flags; want = due_at ws j 0 r.want }

-- a table with the demands of the first epoch
unfoldable pub given_table : List Window → Table → Table
given_table ws t = record { rows = tab 32 (λ i. given_row ws (i + 1) (get_or t.rows i no_row)) }

-- 2 where a figure or a row is out of range, then 16
unfoldable pub timed_load_answer : Config → Table → ℕ → List Window → Answer
timed_load_answer f t D ws = cond (is_done (load_answer f t)) (cond (list_ok f.nodes D ws) Done BadWindows) (load_answer f t)

-- a site just loaded: its nodes take their requests from the demands of the first epoch
unfoldable pub loaded_timed : Config → Table → ℕ → List Window → Timed
loaded_timed f t D ws = record { site = loaded_site f (cond (is_done (timed_load_answer f t D ws)) (given_table ws t) t); day = first_epoch D }

-- the round is the epoch's last
abbrev pub in_last_round : Site → Bool
in_last_round s = is_last s.config s.place

-- an event with which the next epoch begins, where it is accepted
abbrev pub begins_epoch : Timed → Event → Bool
begins_epoch t e = is_end e && in_last_round t.site

-- the answer to an event, by what its list of windows was found to be: to an end 16 where nothing else is refused
abbrev pub answer_by : Bool → Site → List ℕ → Event → Answer
answer_by ok s area e = cond (is_end e && is_done (answer_of s area e)) (cond ok Done BadWindows) (answer_of s area e)

unfoldable pub timed_answer : Timed → List ℕ → List Window → Event → Answer
timed_answer t area ws e = answer_by (list_ok t.site.config.nodes t.day.length ws) t.site area e

-- the demands of the next epoch are given before the end, which may take requests, and before waiting nodes begin
abbrev pub given_before : Timed → List Window → Event → Site
given_before t ws e = cond (begins_epoch t e) (given_site ws (epoch_after t.day) t.site) t.site

-- the day after an accepted event
abbrev pub next_day : Timed → Event → Day
next_day t e = cond (begins_epoch t e) (next_in_day t.day) t.day

-- the site with its day after an accepted event
unfoldable pub next_timed : Timed → List ℕ → List Window → Event → Timed
next_timed t area ws e = record { site = site_after (given_before t ws e) area e; day = next_day t e }

-- a refused call changes nothing
unfoldable pub timed_after : Timed → List ℕ → List Window → Event → Timed
timed_after t area ws e = cond (is_done (timed_answer t area ws e)) (next_timed t area ws e) t
