-- Loading a site from settings and table (specification, 7 Script).
-- Assumes nothing.
use Rattle.std.specs.Prelude.{Bool, true, cond, ◌&&◌, ◌||◌, ℕ, ◌+◌, ltb, leb, get_or}
use Rattle.lists.specs.All.{all_below, tab}
use Rattle.node.specs.Answers.{is_done}
use Rattle.node.specs.Figures.{config_ok}
use Rattle.node.specs.Begin.{starting, start_answer}
use Rattle.node.specs.Answers.{Answer}
use Rattle.node.specs.Answers.{Done, OutOfRange}
use Rattle.site.specs.Counts.{none_sent}
use Rattle.site.specs.Members.{setup_of, down_member}
use Rattle.node.specs.declared.Config.{Config}
use Rattle.site.specs.declared.Row.{Row}
use Rattle.site.specs.declared.Table.{Table}
use Rattle.site.specs.Model.{Member}
use Rattle.site.specs.Model.{Site}

-- a row that is good for the node at index i
unfoldable pub row_ok : Config → ℕ → Row → Bool
row_ok f i r = is_done (start_answer (setup_of f (i + 1)) r.version r.flags r.want)

-- what stands behind a table's last row
abbrev pub no_row : Row
no_row = record { version = 0; flags = 0; want = 0 }

-- each of the N rows is good
unfoldable pub table_ok : Config → Table → Bool
table_ok f t = all_below 32 (λ i. leb f.nodes i || row_ok f i (get_or t.rows i no_row))

-- the member at index i: at loading all N nodes are live, and there are no others
unfoldable pub loaded_member : Config → Table → ℕ → Member
loaded_member f t i =
    cond (ltb i f.nodes)
    (record {
      up = true;
      node = starting (setup_of f (i + 1)) (get_or t.rows i no_row).version (get_or t.rows i no_row).flags (get_or t.rows i no_row).want;
    })
    (down_member f (i + 1))

-- a site is loaded in negotiation, at place 0; nobody has sent a packet
unfoldable pub loaded_site : Config → Table → Site
loaded_site f t = record { config = f; negotiates = true; place = 0; sent = none_sent; members = tab 32 (loaded_member f t) }

-- 2 where a figure or a row is out of range
unfoldable pub load_answer : Config → Table → Answer
load_answer f t = cond (config_ok f && table_ok f t) Done OutOfRange
