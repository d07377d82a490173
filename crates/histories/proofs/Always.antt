-- What every list of events keeps, from a site just loaded with any area: the majority is not asked for.
-- Assumes nothing.
use mathlib.Core.Path.{◌≡◌, refl, sym, ap, ◌∙◌, subst}
use mathlib.Core.Bool.{Bool, true, false, cond}
use mathlib.Core.List.Memᴰ
use mathlib.Core.List.{List, [], ◌∷◌, ◌++◌}
use Prim.Native.Nat.{ℕ, ◌-◌}
use lib.ListN.{get_or}
use Rattle.node.specs.Answers.{is_done}
use Rattle.node.specs.Figures.{is_waiting}
use Rattle.node.specs.Negotiation.{packet_of}
use Rattle.node.specs.Begin.{waiting}
use Rattle.node.specs.declared.Packet.{Packet}
use Rattle.node.specs.Answers.{Done}
use Rattle.node.proofs.Answers.{done-is}
use Rattle.node.proofs.Made.{restarted}
use Rattle.site.specs.Members.{setup_of, member_at, down_member}
use Rattle.site.specs.Load.{load_answer, loaded_site}
use Rattle.site.specs.Answers.{answer_of}
use Rattle.site.specs.Steps.{taken_site, wanted_site, crashed_site, restarted_site, ended_site, next_site, next_area, site_after, area_after}
use Rattle.site.specs.Run.{RunState, after, run}
use Rattle.node.specs.declared.Config.{Config}
use Rattle.site.specs.declared.Table.{Table}
use Rattle.site.specs.Model.{Member}
use Rattle.site.specs.Model.{Site}
use Rattle.site.specs.declared.Event.{Event}
use Rattle.site.specs.declared.Event.TheVariants.{Send, Hear, Close, Take, End, Want, Crash, Restart}
use Rattle.site.proofs.Steps.{config-kept, hear-as}
use Rattle.site.proofs.Accepted.{answered, send-accepted, hear-accepted, close-accepted, take-accepted, end-accepted, want-accepted}
use Rattle.site.proofs.Accepted.{restart-accepted}
use Rattle.histories.specs.Past.{Past, no_past, recorded, past_after, trace}
use Rattle.histories.specs.Reached.{begin, reached, past_of}
use Rattle.histories.proofs.Members.{asleep, down}
use Rattle.histories.proofs.Sound.{Sound, no_packet, hear-is, send-sound, hear-sound, close-sound, take-sound, end-sound, want-sound}
use Rattle.histories.proofs.Sound.{crash-sound, restart-sound, load-sound}
use Rattle.histories.proofs.Opens.{Opens, opens-end, opens-load}
use Rattle.histories.proofs.Sight.{Sight, away, quiet, put-sight, sight-send, sight-hear, sight-want, sight-close, sight-opens}
use Rattle.histories.proofs.Logs.{Upto, close-upto, end-upto}

-- what holds after each event, with the packets of the phase
pub record Kept (f : Config) (past : Past) (s : Site) (area : List ℕ) : Type 0 where
  pub air : List Packet
  pub sound : Sound s area air
  pub sight : Sight past.start s air
  pub opens : Opens past.start
  pub upto : Upto past
  pub config : s.config ≡ f

-- each accepted event keeps it
pub accept : {f : Config} {past : Past} {s : Site} {area : List ℕ} (e : Event) → Kept f past s area → answer_of s area e ≡ Done
    → Kept f (recorded past s e (next_site s area e)) (next_site s area e) (next_area s area e)
unfolding taken_site wanted_site crashed_site restarted_site
accept {f} {past} {s} {area} (Send j) h d =
    let a = answered s area (Send j) d in
    let b = send-accepted s j a.1 in
    record {
      air = h.air ++ (packet_of (member_at s j).node ∷ []);
      sound = send-sound j h.sound b.0 b.1 a.0;
      sight = sight-send j b.0.live b.0.phase h.sight;
      opens = h.opens;
      upto = h.upto;
      config = config-kept s area (Send j) ∙ h.config;
    }
accept {f} {past} {s} {area} (Hear j p) h d =
    let b = hear-accepted s area j p (answered s area (Hear j p) d).1 in
    let k = hear-is j p h.sound b in
    record {
      air = h.air;
      sound = hear-sound j p h.sound b;
      sight = subst (λ (x : Site). Sight past.start x h.air) (sym (hear-as s area j p (get_or h.air (p - 1) no_packet) k.1))
          (sight-hear j (p - 1) b.acts.live b.acts.phase k.0 h.sight);
      opens = h.opens;
      upto = h.upto;
      config = config-kept s area (Hear j p) ∙ h.config;
    }
accept {f} {past} {s} {area} Close h d =
    record {
      air = [];
      sound = close-sound h.sound (close-accepted s (answered s area Close d).1);
      sight = sight-close past.start s;
      opens = h.opens;
      upto = close-upto past s h.upto;
      config = config-kept s area Close ∙ h.config;
    }
accept {f} {past} {s} {area} (Take j i) h d =
    let a = take-accepted s j i (answered s area (Take j i) d).1 in
    record {
      air = h.air;
      sound = take-sound j i h.sound a;
      sight = put-sight j _ h.sight (quiet _ a.phase);
      opens = h.opens;
      upto = h.upto;
      config = config-kept s area (Take j i) ∙ h.config;
    }
accept {f} {past} {s} {area} End h d =
    let t = end-accepted s (answered s area End d).1 in
    let n = end-sound h.sound t in
    let o = opens-end h.sound t in
    record {
      air = [];
      sound = n;
      sight = sight-opens n o;
      opens = o;
      upto = end-upto past s (ended_site s) h.upto;
      config = config-kept s area End ∙ h.config;
    }
accept {f} {past} {s} {area} (Want j x) h d =
    record {
      air = h.air;
      sound = want-sound j x h.sound (want-accepted s j x (answered s area (Want j x) d).1).1;
      sight = sight-want j x h.sight;
      opens = h.opens;
      upto = h.upto;
      config = config-kept s area (Want j x) ∙ h.config;
    }
accept {f} {past} {s} {area} (Crash j) h d =
    record {
      air = h.air;
      sound = crash-sound j h.sound;
      sight = put-sight j (down_member s.config j) h.sight (away (down_member s.config j) (down (down_member s.config j) refl));
      opens = h.opens;
      upto = h.upto;
      config = config-kept s area (Crash j) ∙ h.config;
    }
accept {f} {past} {s} {area} (Restart j flags) h d =
    let a = restart-accepted s j flags (answered s area (Restart j flags) d).1 in
    let m : Member = record { up = true; node = waiting (setup_of s.config j) flags s.place 0 } in
    record {
      air = h.air;
      sound = restart-sound j flags h.sound a;
      sight = put-sight j m h.sight (away m (asleep m (ap is_waiting (restarted (setup_of s.config j) flags s.place 0).phase)));
      opens = h.opens;
      upto = h.upto;
      config = config-kept s area (Restart j flags) ∙ h.config;
    }

-- each event does, refused or not
pub step : {f : Config} {past : Past} (w : RunState) (e : Event) → Kept f past w.site w.area
    → Kept f (past_after past w e) (after w e).site (after w e).area
unfolding past_after site_after area_after
step {f} {past} w e h = go (is_done (answer_of w.site w.area e)) refl
  where
    go : (t : Bool) → is_done (answer_of w.site w.area e) ≡ t
        → Kept f (cond t (recorded past w.site e (cond t (next_site w.site w.area e) w.site)) past)
        (cond t (next_site w.site w.area e) w.site) (cond t (next_area w.site w.area e) w.area)
    go true d = accept e h (done-is _ d)
    go false d = h

-- and so does each list of events
steps : {f : Config} {past : Past} (w : RunState) (es : List Event) → Kept f past w.site w.area
    → Kept f (trace past w es) (run w es).site (run w es).area
unfolding trace run
steps w [] h = h
steps {f = f} {past = past} w (e ∷ es) h = steps {f = f} {past = past_after past w e} (after w e) es (step w e h)

config-loaded : (f : Config) (t : Table) → (loaded_site f t).config ≡ f
unfolding loaded_site
config-loaded f t = refl

-- a site just loaded
pub loaded : (f : Config) (t : Table) → load_answer f t ≡ Done → (area : List ℕ) → Kept f (no_past (loaded_site f t)) (loaded_site f t) area
loaded f t d area =
    let l = load-sound f t area d in
    let o = opens-load f t in
    record {
      air = [];
      sound = l;
      sight = sight-opens l o;
      opens = o;
      upto = record { each = λ d m. absurd (Memᴰ.not-nil m) };
      config = config-loaded f t;
    }

-- from loading on
pub always : (f : Config) (t : Table) → load_answer f t ≡ Done → (area : List ℕ) (es : List Event)
    → Kept f (past_of f t area es) (reached f t area es).site (reached f t area es).area
always f t d area es = steps (begin f t area) es (loaded f t d area)
