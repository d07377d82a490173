-- Tests that a computation decides, and what they show: an epoch that begins ready, and one that is calm.
-- Assumes nothing.
use mathlib.Core.Path.{◌≡◌, ap}
use mathlib.Core.Bool.{Bool, true, not, ◌&&◌, ◌||◌}
use mathlib.Core.List.{List}
use Prim.Native.Nat.{ℕ, ◌<◌}
use native.Mathlib.Omega.{arith}
use native.Mathlib.Decide.{dec_lt}
use borrow.Author.Tests.{eqb-true, ltb-true, not-true}
use lib.Dec.{eqb, ltb}
use lib.ListN.{length, get_or-eq_default}
use Rattle.words.proofs.Tests.{clash, implied, and_left, and_right}
use Rattle.lists.specs.All.{all_below}
use Rattle.lists.proofs.Laws.{all-at}
use Rattle.node.specs.Answers.{is_done}
use Rattle.node.specs.Figures.{top_version, is_last}
use Rattle.node.proofs.Answers.{done-is}
use Rattle.site.specs.Answers.{answer_of}
use Rattle.site.specs.Members.{nobody, is_live}
use Rattle.site.specs.Run.{RunState, run}
use Rattle.site.specs.Model.{Site}
use Rattle.site.specs.declared.Event.{Event}
use Rattle.site.specs.declared.Event.TheVariants.{End}
use Rattle.histories.specs.Past.{Past}
use Rattle.recovery.specs.Calm.{site_member, live_in, live_set, unwatched, watched, Suffices, Ready, Calm}

-- each live node passes a test
abbrev pub each_live : Site → (ℕ → Bool) → Bool
each_live s p = eqb (length s.members) 32 && all_below 32 (λ i. not (live_in s i) || p i)

pub each_live_lem : (s : Site) (p : ℕ → Bool) → each_live s p ≡ true → (i : ℕ) → live_in s i ≡ true → p i ≡ true
each_live_lem s p h i l = go (dec_lt i 32)
  where
    go : Dec (i < 32) → p i ≡ true
    go (yes k) = implied (live_in s i) (p i) (all-at 32 (λ j. not (live_in s j) || p j) (and_right (eqb (length s.members) 32) _ h) i k) l
    go (no k) = clash (live_in s i) l (ap is_live (get_or-eq_default s.members nobody {n = i}
        (omega (arith, eqb-true (length s.members) 32 (and_left (eqb (length s.members) 32) _ h)))))

-- as an epoch begins
abbrev pub is_ready : Site → ℕ → Bool
is_ready s v = eqb s.place 0 && each_live s (λ i. eqb (site_member s i).node.flags (live_set s) && eqb (site_member s i).node.version v)

pub ready_by : (past : Past) (s : Site) (v : ℕ) → past.start ≡ s → Suffices s → is_ready s v ≡ true → v < top_version → Ready past s v
ready_by past s v e u h b =
    let q : ℕ → Bool = λ i. eqb (site_member s i).node.flags (live_set s) && eqb (site_member s i).node.version v in
    let each = each_live_lem s q (and_right (eqb s.place 0) _ h) in
    record {
      start = e;
      place = eqb-true s.place 0 (and_left (eqb s.place 0) _ h);
      suffices = u;
      flags = λ i l. eqb-true _ _ (and_left (eqb (site_member s i).node.flags (live_set s)) _ (each i l));
      version = λ i l. eqb-true _ _ (and_right (eqb (site_member s i).node.flags (live_set s)) _ (each i l));
      below = b;
    }

-- the events of an epoch
abbrev pub is_calm : ℕ → RunState → List Event → Bool
is_calm L w body =
    not (watched L unwatched w body).over && (not (watched L unwatched w body).crashed && (ltb 0 (watched L unwatched w body).full
    && (is_done (answer_of (run w body).site (run w body).area End) && is_last w.site.config (run w body).site.place)))

pub calm-by : (L : ℕ) (w : RunState) (body : List Event) → is_calm L w body ≡ true → Calm L w body
calm-by L w body h =
    let r = watched L unwatched w body in
    let a = and_right (not r.over) _ h in
    let b = and_right (not r.crashed) _ a in
    let c = and_right (ltb 0 r.full) _ b in
    let d = is_done (answer_of (run w body).site (run w body).area End) in
    record {
      within = not-true r.over (and_left (not r.over) _ h);
      safe = not-true r.crashed (and_left (not r.crashed) _ a);
      full = ltb-true 0 r.full (and_left (ltb 0 r.full) _ b);
      ends = done-is _ (and_left d _ c);
      last = and_right d _ c;
    }
