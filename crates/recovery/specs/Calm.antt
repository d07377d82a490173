-- Specification, 10.4 How soon after calm: an epoch that begins with the live nodes agreed on who is live and on the version, in which none
-- of them crashes, and in one of whose rounds each hears each other. After its last end all of them have the next version, with one
-- schedule; after two such epochs with the same members and requests each holds its target.
-- With at least `heard` such rounds, and nobody who joins, the live nodes are agreed on who is live as the next epoch begins.
-- The node of number i + 1 stands at index i.
-- Assumes nothing.
use Rattle.std.specs.Prelude.{◌≡◌, Bool, true, false, not, cond, ◌||◌, ◌⊎◌, List, [], ◌∷◌, ◌++◌, ℕ, suc, ◌+◌, ◌-◌, ◌*◌, ◌≤◌, ◌<◌, get_or, set, replicate}
use Rattle.words.specs.Bits.{has_bit, with_bit, word_of, digit, size, is_in, is_inside}
use Rattle.lists.specs.All.{all_below, tab}
use Rattle.allotment.specs.Allotment.{owners_of, next, targets, count}
use Rattle.node.specs.Answers.{is_done}
use Rattle.node.specs.Figures.{top_version, is_last}
use Rattle.node.specs.Answers.{Done}
use Rattle.wire.specs.Layout.{packet_in}
use Rattle.site.specs.Parts.{packet_part}
use Rattle.site.specs.Members.{nobody, header_of, is_live}
use Rattle.site.specs.Load.{load_answer}
use Rattle.site.specs.Answers.{answer_of}
use Rattle.site.specs.Run.{RunState, after, run}
use Rattle.node.specs.declared.Config.{Config}
use Rattle.site.specs.declared.Table.{Table}
use Rattle.site.specs.Model.{Member}
use Rattle.site.specs.Model.{Site}
use Rattle.site.specs.declared.Event.{Event}
use Rattle.site.specs.declared.Event.TheVariants.{Send, Hear, Close, Take, End, Want, Crash, Restart}
use Rattle.histories.specs.Past.{Past}
use Rattle.histories.specs.Reached.{reached, past_of}

-- the member at an index, and whether it is live
abbrev pub site_member : Site → ℕ → Member
site_member s i = get_or s.members i nobody

abbrev pub live_in : Site → ℕ → Bool
live_in s i = is_live (site_member s i)

-- the nodes that are live
unfoldable pub live_set : Site → ℕ
live_set s = word_of 32 (live_in s)

-- what each node requests
unfoldable pub requests_of : Site → List ℕ
requests_of s = tab 32 (λ i. (site_member s i).node.request)

-- beside the events of an epoch: for each node the senders of the packets that it has heard in this round; in how many rounds each node of
-- a set has heard each other; whether a node of the set has crashed; whether the epoch is over
pub record Watch : Type 0 where
  pub heard : List ℕ
  pub full : ℕ
  pub crashed : Bool
  pub over : Bool

abbrev pub unwatched : Watch
unwatched = record { heard = replicate 32 0; full = 0; crashed = false; over = false }

-- each node of L has heard each other node of L
unfoldable pub all_heard : ℕ → List ℕ → Bool
all_heard L heard = all_below 32 (λ i. not (has_bit L i) || is_inside L (with_bit (get_or heard i 0) i))

-- what an accepted event adds
abbrev pub watching : ℕ → Watch → Site → List ℕ → Event → Watch
watching L r s area (Send j) = r
watching L r s area (Hear j p) =
    record {
      heard = set r.heard (j - 1) (with_bit (get_or r.heard (j - 1) 0) ((packet_in (packet_part (header_of s) area p)).sender - 1));
      full = r.full;
      crashed = r.crashed;
      over = r.over;
    }
watching L r s area Close = record {
  heard = r.heard;
  full = r.full + digit (all_heard L r.heard);
  crashed = r.crashed;
  over = r.over;
}
watching L r s area (Take j i) = r
watching L r s area End = record {
  heard = replicate 32 0;
  full = r.full;
  crashed = r.crashed;
  over = r.over || is_last s.config s.place;
}
watching L r s area (Want j d) = r
watching L r s area (Crash j) = record { heard = r.heard; full = r.full; crashed = r.crashed || is_in L j; over = r.over }
watching L r s area (Restart j flags) = r

-- a refused event adds nothing
unfoldable pub watch_after : ℕ → Watch → RunState → Event → Watch
watch_after L r w e = cond (is_done (answer_of w.site w.area e)) (watching L r w.site w.area e) r

unfoldable pub watched : ℕ → Watch → RunState → List Event → Watch
watched L r w [] = r
watched L r w (e ∷ es) = watched L (watch_after L r w e) (after w e) es

-- the live nodes have one schedule
abbrev pub OneSchedule : Site → Type 0
OneSchedule s = (i j : ℕ) → live_in s i ≡ true → live_in s j ≡ true → (site_member s i).node.schedule ≡ (site_member s j).node.schedule

-- who must be live: more than half; at a site that may split any of one schedule (S-14). Elsewhere one version is one schedule, by demand 3
abbrev pub Suffices : Site → Type 0
Suffices s = ((s.config.split ≡ 0) × (s.config.nodes < 2 * size (live_set s))) ⊎ ((s.config.split ≡ 1) × OneSchedule s)

-- as an epoch begins: the site is that of the start of the round, which is the epoch's first; the live nodes suffice, each has exactly them
-- as flags, and all have the version v
pub record Ready (past : Past) (s : Site) (v : ℕ) : Type 0 where
  pub start : past.start ≡ s
  pub place : s.place ≡ 0
  pub suffices : Suffices s
  pub flags : (i : ℕ) → live_in s i ≡ true → (site_member s i).node.flags ≡ live_set s
  pub version : (i : ℕ) → live_in s i ≡ true → (site_member s i).node.version ≡ v
  pub below : v < top_version

-- the events of the epoch before its last end: it isn't over, no node of L crashes, in some round each node of L hears each other, and the
-- last end follows
pub record Calm (L : ℕ) (w : RunState) (body : List Event) : Type 0 where
  pub within : (watched L unwatched w body).over ≡ false
  pub safe : (watched L unwatched w body).crashed ≡ false
  pub full : 0 < (watched L unwatched w body).full
  pub ends : answer_of (run w body).site (run w body).area End ≡ Done
  pub last : is_last w.site.config (run w body).site.place ≡ true

-- the site after the last end of an epoch whose other events are given
abbrev pub epoch_end : RunState → List Event → Site
epoch_end w body = (after (run w body) End).site

-- the events of an epoch with its last end
abbrev pub whole : List Event → List Event
whole body = body ++ (End ∷ [])

-- the node at index i is live, with the next version, and its schedule is what the allotment makes of the schedule that the node at index j
-- had as the epoch began
pub record Risen (s t : Site) (v i j : ℕ) : Type 0 where
  pub live : live_in t i ≡ true
  pub version : (site_member t i).node.version ≡ suc v
  pub schedule : (site_member t i).node.schedule ≡ next (site_member s j).node.schedule (live_set s) (requests_of s) s.config.nodes
      s.config.slots

-- who is live then was live before: no waiting node has begun
abbrev pub NobodyJoins : Site → Site → Type 0
NobodyJoins s t = (j : ℕ) → live_in t j ≡ true → live_in s j ≡ true

-- two sites with the same live nodes, and these with the same requests
pub record SameAsked (s t : Site) : Type 0 where
  pub live : live_set s ≡ live_set t
  pub requests : (i : ℕ) → live_in s i ≡ true → (site_member s i).node.request ≡ (site_member t i).node.request

-- from a site just loaded, by any list `before`, with any content of the packet area
pub record Recovers (f : Config) (t : Table) (area : List ℕ) : Type 0 where
  -- a calm epoch: each of its members holds the next version, all with one schedule, for j may be any of them
  pub rises : (before body : List Event) (v : ℕ)
      → Ready (past_of f t area before) (reached f t area before).site v
      → Calm (live_set (reached f t area before).site) (reached f t area before) body
      → (i j : ℕ) → live_in (reached f t area before).site i ≡ true → live_in (reached f t area before).site j ≡ true
      → Risen (reached f t area before).site (epoch_end (reached f t area before) body) v i j
  -- and if in at least `heard` of its rounds each of them heard each other, and nobody joins at its end, the flags of each are again
  -- exactly the live nodes
  pub remains : (before body : List Event) (v : ℕ)
      → Ready (past_of f t area before) (reached f t area before).site v
      → Calm (live_set (reached f t area before).site) (reached f t area before) body
      → f.min_heard ≤ (watched (live_set (reached f t area before).site) unwatched (reached f t area before) body).full
      → NobodyJoins (reached f t area before).site (epoch_end (reached f t area before) body)
      → (i : ℕ) → live_in (epoch_end (reached f t area before) body) i ≡ true
      → (site_member (epoch_end (reached f t area before) body) i).node.flags ≡ live_set (epoch_end (reached f t area before) body)
  -- two in a row with the same members and requests: each member holds exactly its target
  pub settles : (before first second : List Event) (v u : ℕ)
      → Ready (past_of f t area before) (reached f t area before).site v
      → Calm (live_set (reached f t area before).site) (reached f t area before) first
      → Ready (past_of f t area (before ++ whole first)) (reached f t area (before ++ whole first)).site u
      → Calm (live_set (reached f t area (before ++ whole first)).site) (reached f t area (before ++ whole first)) second
      → SameAsked (reached f t area before).site (reached f t area (before ++ whole first)).site
      → (i : ℕ) → live_in (reached f t area before).site i ≡ true
      → count (suc i) (owners_of (site_member (epoch_end (reached f t area (before ++ whole first)) second) i).node.schedule)
      ≡ get_or (targets f.nodes f.slots (live_set (reached f t area (before ++ whole first)).site)
      (requests_of (reached f t area (before ++ whole first)).site)) i 0

-- the theorem's statement: proved in proofs/Theorem.antt
pub record Recovery : Type 0 where
  pub recovers : (f : Config) (t : Table) → load_answer f t ≡ Done → (area : List ℕ) → Recovers f t area
