-- Demand 3, proved: over every list of events from a site just loaded that may not split, with any area.
-- Assumes nothing.
use mathlib.Core.Path.{◌≡◌, refl, sym, ap, subst}
use mathlib.Core.Bool.{Bool, true, false, cond}
use mathlib.Core.List.{List, [], ◌∷◌}
use Prim.Native.Nat.{ℕ, ◌-◌}
use native.Mathlib.Omega.{arith}
use lib.ListN.{get_or}
use Rattle.node.specs.Answers.{is_done}
use Rattle.node.specs.Figures.{is_waiting}
use Rattle.node.specs.Answers.{Done}
use Rattle.node.proofs.Answers.{done-is}
use Rattle.node.proofs.Made.{restarted}
use Rattle.site.specs.Members.{setup_of, header_of, member_at, down_member}
use Rattle.site.specs.Load.{load_answer}
use Rattle.site.specs.Answers.{answer_of}
use Rattle.site.specs.Steps.{sent_site, taken_site, wanted_site, crashed_site, restarted_member, restarted_site, next_site, site_after}
use Rattle.site.specs.Run.{RunState, after, run}
use Rattle.node.specs.declared.Config.{Config}
use Rattle.site.specs.declared.Table.{Table}
use Rattle.site.specs.Model.{Site}
use Rattle.site.specs.declared.Event.{Event}
use Rattle.site.specs.declared.Event.TheVariants.{Send, Hear, Close, Take, End, Want, Crash, Restart}
use Rattle.site.proofs.Accepted.{answered, hear-accepted, close-accepted, take-accepted, end-accepted}
use Rattle.site.proofs.Steps.{hear-as}
use Rattle.histories.specs.Past.{Past, recorded, past_after, trace}
use Rattle.histories.specs.Reached.{begin, reached, past_of}
use Rattle.histories.proofs.Members.{live-up, asleep, down}
use Rattle.histories.proofs.Steady.{steady-number}
use Rattle.histories.proofs.Sound.{no_packet, hear-is}
use Rattle.histories.proofs.Always as traces
use Rattle.histories.proofs.Always.{Kept}
use Rattle.agreement.specs.Demand.{Justified, Holds}
use Rattle.agreement.proofs.Invariant.{Inv}
use Rattle.agreement.proofs.Moves.{keep-none, keep-want, keep-hear, keep-take}
use Rattle.agreement.proofs.Logs.{keep-close}
use Rattle.agreement.proofs.Ends.{keep-end}
use Rattle.agreement.proofs.Begins.{load-inv}
use Rattle.agreement.proofs.Results.{agree, justified, unique}

-- what holds after each event: what every site keeps, and the invariant
pub record Holding (f : Config) (past : Past) (s : Site) (area : List ℕ) : Type 1 where
  pub kept : Kept f past s area
  pub inv : Inv past s

-- a send changes no member
send-inv : {past : Past} {s : Site} (j : ℕ) → Inv past s → Inv past (sent_site s j)
unfolding sent_site
send-inv j I =
    record {
      whole = I.whole;
      M = I.M;
      w = I.w;
      sch = I.sch;
      g = I.g;
      none = I.none;
      comp = I.comp;
      glob = I.glob;
      late = I.late;
      each = I.each;
      start = I.start;
      base = I.base;
      old = I.old;
      now = I.now;
    }

-- each accepted event keeps it
accept : {f : Config} {past : Past} {s : Site} {area : List ℕ} (e : Event) → Kept f past s area → Inv past s → answer_of s area e ≡ Done
    → Inv (recorded past s e (next_site s area e)) (next_site s area e)
unfolding taken_site wanted_site crashed_site restarted_site
accept (Send j) h I d = send-inv j I
accept {past = past} {s = s} {area = area} (Hear j p) h I d =
    let b = hear-accepted s area j p (answered s area (Hear j p) d).1 in
    let q = hear-is j p h.sound b in
    let k : (member_at s j).node.setup.node - 1 ≡ j - 1 = omega (
      arith,
      steady-number
          ((h.sound.each (j - 1)).up (live-up (member_at s j) b.acts.live)),
    ) in
    subst (Inv past) (sym (hear-as s area j p (get_or h.air (p - 1) no_packet) q.1))
    (keep-hear j (get_or h.air (p - 1) no_packet) I b.acts.live b.acts.phase k (h.sight.packets I.M I.start (p - 1) q.0))
accept {s = s} {area = area} Close h I d = keep-close h I (close-accepted s (answered s area Close d).1)
accept {s = s} {area = area} (Take j i) h I d = let a = take-accepted s j i (answered s area (Take j i) d).1 in keep-take j i I a.phase
    a.live a.other a.sends
accept {s = s} {area = area} End h I d = keep-end h.sound I (end-accepted s (answered s area End d).1) h.upto
accept (Want j x) h I d = keep-want j x I
accept {s = s} (Crash j) h I d = keep-none j (down_member s.config j) (down (down_member s.config j) refl) I
accept {s = s} (Restart j flags) h I d =
    let m = restarted_member (header_of s) j flags in
    keep-none j m (asleep m (ap is_waiting (restarted (setup_of s.config j) flags s.place 0).phase)) I

-- each event does, refused or not
pub step : {f : Config} {past : Past} (w : RunState) (e : Event) → Holding f past w.site w.area
    → Holding f (past_after past w e) (after w e).site (after w e).area
unfolding past_after site_after
step {f} {past} w e h = record { kept = traces.step w e h.kept; inv = go (is_done (answer_of w.site w.area e)) refl }
  where
    go : (t : Bool) → is_done (answer_of w.site w.area e) ≡ t
        → Inv (cond t (recorded past w.site e (cond t (next_site w.site w.area e) w.site)) past)
        (cond t (next_site w.site w.area e) w.site)
    go true d = accept e h.kept h.inv (done-is _ d)
    go false d = h.inv

-- and so does each list of events
steps : {f : Config} {past : Past} (w : RunState) (es : List Event) → Holding f past w.site w.area
    → Holding f (trace past w es) (run w es).site (run w es).area
unfolding trace run
steps w [] h = h
steps {f = f} {past = past} w (e ∷ es) h = steps {f = f} {past = past_after past w e} (after w e) es (step w e h)

-- from loading on
pub always : (f : Config) (t : Table) → load_answer f t ≡ Done → f.split ≡ 0 → (area : List ℕ) (es : List Event)
    → Holding f (past_of f t area es) (reached f t area es).site (reached f t area es).area
always f t d u area es = steps (begin f t area) es (record { kept = traces.loaded f t d area; inv = load-inv f t d u })

-- demand 3
pub holds : Holds
holds =
    record {
      demand3 = λ f t d u area es.
          let h = always f t d u area es in
          let N : (reached f t area es).site.config.nodes ≡ f.nodes = ap (λ (x : Config). x.nodes) h.kept.config in
          record {
            agreement = agree _ _ h.inv;
            justified = λ x m. subst (λ (n : ℕ). Justified n x) N (justified _ _ h.inv x m);
            unique = unique _ _ h.inv;
          };
    }
