-- Specification, 10 Lists of events: what has been, beside a site. A round's start is loading or an accepted `end`, F rounds are an epoch,
-- and at an accepted `close` a live node determines a version where that is its verdict (3.2).
-- Assumes nothing.
use Rattle.std.specs.Prelude.{cond, ◌&&◌, List, [], ◌∷◌, ◌++◌, ℕ, suc, ◌+◌}
use Rattle.allotment.specs.Model.{Schedule}
use Rattle.node.specs.Answers.{is_done}
use Rattle.node.specs.Figures.{is_last}
use Rattle.node.specs.Close.{determines, new_schedule}
use Rattle.node.specs.Model.{Node}
use Rattle.site.specs.Members.{is_live}
use Rattle.site.specs.Answers.{answer_of}
use Rattle.site.specs.Run.{RunState, after}
use Rattle.site.specs.Model.{Member}
use Rattle.site.specs.Model.{Site}
use Rattle.site.specs.declared.Event.{Event}
use Rattle.site.specs.declared.Event.TheVariants.{Send, Hear, Close, Take, End, Want, Crash, Restart}

-- a version that a node determined: in which epoch, with which site at the round's start, by which node;
-- the version v + 1, its schedule, the nodes of M' that it uses, and their requests in R'
pub record Determination : Type 0 where
  pub epoch : ℕ
  pub start : Site
  pub node : ℕ
  pub version : ℕ
  pub schedule : Schedule
  pub nodes : ℕ
  pub requests : List ℕ

-- the site at the round's start, the number of the epoch, and the versions determined so far
pub record Past : Type 0 where
  pub start : Site
  pub epoch : ℕ
  pub log : List Determination

-- what a node that determines now determines
abbrev pub determination : Past → Node → Determination
determination past n =
    record {
      epoch = past.epoch;
      start = past.start;
      node = n.setup.node;
      version = n.version + 1;
      schedule = new_schedule n;
      nodes = n.round.merged;
      requests = n.round.known;
    }

-- of one member: a live node that determines
abbrev pub determined_by_member : Past → Member → List Determination
determined_by_member past m = cond (is_live m && determines m.node) (determination past m.node ∷ []) []

-- of all members
unfoldable pub determined_at : Past → List Member → List Determination
determined_at past [] = []
determined_at past (m ∷ ms) = determined_by_member past m ++ determined_at past ms

-- an accepted close adds what is determined there
abbrev pub past_at_close : Past → Site → Past
past_at_close past s = record { start = past.start; epoch = past.epoch; log = past.log ++ determined_at past s.members }

-- an accepted end starts a round, and after the last round of an epoch the next epoch
abbrev pub past_at_end : Past → Site → Site → Past
past_at_end past s t = record {
  start = t;
  epoch = cond (is_last s.config s.place) (suc past.epoch) past.epoch;
  log = past.log;
}

-- what an accepted event adds to the past, with the site before it and after it
abbrev pub recorded : Past → Site → Event → Site → Past
recorded past s (Send j) t = past
recorded past s (Hear j p) t = past
recorded past s Close t = past_at_close past s
recorded past s (Take j i) t = past
recorded past s End t = past_at_end past s t
recorded past s (Want j d) t = past
recorded past s (Crash j) t = past
recorded past s (Restart j flags) t = past

-- a refused event adds nothing
unfoldable pub past_after : Past → RunState → Event → Past
past_after past w e = cond (is_done (answer_of w.site w.area e)) (recorded past w.site e (after w e).site) past

-- the past of a list of events
unfoldable pub trace : Past → RunState → List Event → Past
trace past w [] = past
trace past w (e ∷ es) = trace (past_after past w e) (after w e) es

-- at loading: the first round starts, in the first epoch, and nothing is determined
abbrev pub no_past : Site → Past
no_past s = record { start = s; epoch = 0; log = [] }
