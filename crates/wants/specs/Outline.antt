-- A member and a site by the outlines of their nodes: without demands, requests and schedules (crates/node, specs/Outline.antt).
-- Assumes nothing.
use Rattle.std.specs.Prelude.{Bool, List, map, ℕ}
use Rattle.node.specs.Outline.{Outline, outline_of}
use Rattle.node.specs.declared.Config.{Config}
use Rattle.site.specs.Model.{Member}
use Rattle.site.specs.Model.{Site}

-- of a member of a site
pub record MemberOutline : Type 0 where
  pub up : Bool
  pub node : Outline

abbrev pub member_outline : Member → MemberOutline
member_outline m = record { up = m.up; node = outline_of m.node }

-- of a site: all else that it holds is left whole
pub record SiteOutline : Type 0 where
  pub config : Config
  pub negotiates : Bool
  pub place : ℕ
  pub sent : List ℕ
  pub members : List MemberOutline

abbrev pub site_outline : Site → SiteOutline
site_outline s =
    record { config = s.config; negotiates = s.negotiates; place = s.place; sent = s.sent; members = map member_outline s.members }
