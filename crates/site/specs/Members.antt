-- The nodes of a site: live, waiting or down (specification, 10.1).
-- Assumes nothing.
use Rattle.std.specs.Prelude.{Bool, false, not, cond, ◌&&◌, [], ℕ, ◌-◌, leb, get_or, set}
use Rattle.allotment.specs.Allotment.{no_schedule}
use Rattle.node.specs.Figures.{no_config, is_waiting}
use Rattle.node.specs.Begin.{waiting}
use Rattle.node.specs.declared.Setup.{Setup}
use Rattle.node.specs.Model.{Node}
use Rattle.node.specs.declared.Phase.TheVariants.{Waiting as waiting_phase}
use Rattle.node.specs.declared.Config.{Config}
use Rattle.site.specs.declared.SiteHeader.{SiteHeader}
use Rattle.site.specs.Model.{Member}
use Rattle.site.specs.Model.{Site}
use Rattle.site.specs.declared.State.{State}
use Rattle.site.specs.declared.State.TheVariants.{Live, Waiting, Down}

-- what stands behind the last member of a site: nobody
abbrev pub nobody : Member
nobody =
    record {
      up = false;
      node = record {
        setup = record { node = 0; config = no_config };
        version = 0;
        schedule = no_schedule;
        demand = 0;
        request = 0;
        flags = 0;
        round = record { merged = 0; known = []; lowest = 0; highest = 0; heard = 0 };
        epoch = record { counters = []; interactions = 0; place = 0; updated = false; determined = no_schedule };
        phase = waiting_phase;
      };
    }

-- the setup of node j at a site
abbrev pub setup_of : Config → ℕ → Setup
setup_of f j = record { node = j; config = f }

-- the member of number j
abbrev pub member_at : Site → ℕ → Member
member_at s j = get_or s.members (j - 1) nobody

-- what a site holds beside its members
abbrev pub header_of : Site → SiteHeader
header_of s = record { config = s.config; negotiates = s.negotiates; place = s.place; sent = s.sent }

-- a number that is none of the N nodes'; no site has more than 32
abbrev pub outside : Config → ℕ → Bool
outside f j = not (leb 1 j && (leb j f.nodes && leb j 32))

-- up and not waiting
abbrev pub is_live : Member → Bool
is_live m = m.up && not (is_waiting m.node.phase)

-- what the listing says of a member
abbrev pub state_of : Member → State
state_of m = cond m.up (cond (is_waiting m.node.phase) Waiting Live) Down

-- a member with another node
abbrev pub with_node : Member → Node → Member
with_node m n = record { up = m.up; node = n }

-- a node that is down holds nothing
abbrev pub down_member : Config → ℕ → Member
down_member f j = record { up = false; node = waiting (setup_of f j) 0 0 0 }

-- a site with another member of number j
abbrev pub put : Site → ℕ → Member → Site
put s j m = record {
  config = s.config;
  negotiates = s.negotiates;
  place = s.place;
  sent = s.sent;
  members = set s.members (j - 1) m;
}

-- where the member of number j stands among 32; the first stands in for a number of none
abbrev pub node_index : ℕ → ℕ
node_index j = cond (leb j 32) (j - 1) 0
