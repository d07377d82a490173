-- A site loaded into storage, and what is read of it.
-- Assumes nothing.
use Rattle.std.specs.Prelude.{true, cond, List, [], ◌∷◌, ℕ, min, ◌+◌, ◌-◌, eqb, leb, length}
use Rattle.words.specs.Bits.{how_many}
use Rattle.lists.specs.All.{iter}
use Rattle.lists.specs.Bytes.{written}
use Rattle.allotment.specs.Allotment.{top_slots, owner_of, owners_of}
use Rattle.node.specs.Answers.{Answer, Done, NoRoom}
use Rattle.site.specs.Load.{loaded_member, loaded_site}
use Rattle.site.specs.Counts.{none_sent}
use Rattle.node.specs.Figures.{no_config}
use Rattle.site.specs.Members.{header_of, outside, is_live, down_member}
use Rattle.site.specs.declared.SiteHeader.{SiteHeader}
use Rattle.node.specs.declared.Config.{Config}
use Rattle.site.specs.Model.{Member}
use Rattle.site.specs.declared.Table.{Table}
use Rattle.site.specs.Model.{Site}
use Rattle.machine.specs.Layout.{Store, store, too_short, at_config, config_in, stored_in, site_in}
use Rattle.machine.specs.Acts.{no_node_at}
use Rattle.machine.specs.Written.{written_free, phased}

-- the figures, and the first round
abbrev pub figured : Store → Config → Store
figured s f = store (written s.words at_config (f.nodes ∷ f.slots ∷ f.rounds ∷ f.min_heard ∷ f.split ∷ 0 ∷ []))
    (phased s.bytes 1)

unfoldable pub loaded_at : Config → Table → ℕ → Store → Store
loaded_at f t i s = written_free s i (loaded_member f t i)

-- a site just loaded, whatever the figures and the table: then the N nodes
unfoldable pub filled_store : Store → Config → Table → Store
filled_store s f t = iter (min f.nodes 32) (loaded_at f t) (figured s f)

-- 15 for storage that is too short: then nothing is written
unfoldable pub loading_answer : Store → Answer
loading_answer s = cond (too_short s) NoRoom Done

unfoldable pub loaded_store : Store → Config → Table → Store
loaded_store s f t = cond (too_short s) s (filled_store s f t)

-- the site that the storage stands for then
unfoldable pub site_loaded : Store → Config → Table → Site
site_loaded s f t = cond (too_short s) (site_in s) (loaded_site f t)

-- what the site holds beside its members; storage that is too short stands for no site
abbrev pub no_header : SiteHeader
no_header = record { config = no_config; negotiates = true; place = 0; sent = none_sent }

unfoldable pub header_read : Store → SiteHeader
header_read s = cond (too_short s) no_header (header_of (site_in s))

-- the member of number j; a number of none of the N nodes has a member that is down
unfoldable pub member_read : Store → ℕ → Member
member_read s j = cond (too_short s) (down_member no_config j) (cond (outside (config_in s) j) (down_member (config_in s) j) (stored_in s (j - 1)))

-- the slots that node j holds by its own schedule; one that is waiting or down holds none
unfoldable pub slots_read : Store → ℕ → ℕ
slots_read s j = cond (is_live (member_read s j)) (how_many top_slots (λ k. eqb (owner_of (member_read s j).node.schedule k) j)) 0

-- the owners of node j's own schedule at a place of an output; of a number of none of the N nodes, and without room, nothing changes
unfoldable pub node_owners_written : Store → ℕ → List ℕ → ℕ → List ℕ
node_owners_written s j out to =
    cond (no_node_at s j) out (cond (leb (to + 80) (length out)) (written out to (owners_of (member_read s j).node.schedule)) out)
