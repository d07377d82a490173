-- What boxes determined, beside what the nodes of the site determined.
-- Assumes nothing.
use mathlib.Core.Path.{◌≡◌, refl, sym, ap, ap₂, ◌∙◌, subst}
use mathlib.Core.Bool.{Bool, true, false, cond, ◌&&◌}
use mathlib.Core.Logic.{⊎_elim}
use mathlib.Core.List.Memᴰ
use mathlib.Core.List.{List, [], ◌∷◌, ◌++◌, Memᴰ}
use Prim.Native.Nat.{ℕ, zero, suc, ◌+◌, ◌-◌, ◌*◌, ◌≤◌, ◌<◌}
use native.Mathlib.Omega.{arith}
use native.Mathlib.Nat.{le_of_suc-le-suc, not-suc-le-zero}
use borrow.Author.Tests.{ltb-true}
use lib.Dec.{ltb}
use lib.ListN.{length, get_or}
use Rattle.words.specs.Bits.{size, is_in, has_bit}
use Rattle.words.proofs.Tests.{both, and_left, and_right}
use Rattle.membership.specs.requests.Requests.{entry_of}
use Rattle.node.specs.Answers.{is_done}
use Rattle.node.specs.Figures.{is_last}
use Rattle.node.specs.Close.{determines}
use Rattle.node.specs.Answers.{Answer}
use Rattle.area.specs.Area.{decoded}
use Rattle.area.proofs.Canon.{round_trip}
use Rattle.site.specs.Members.{nobody, member_at, is_live}
use Rattle.site.specs.Answers.{answer_of}
use Rattle.site.specs.Run.{RunState, after}
use Rattle.node.specs.declared.Config.{Config}
use Rattle.site.specs.Model.{Member}
use Rattle.site.specs.Model.{Site}
use Rattle.site.specs.declared.Event.{Event}
use Rattle.site.specs.declared.Event.TheVariants.{Send, Hear, Close, Take, End, Want, Crash, Restart}
use Rattle.node.proofs.Bounds.{bounds}
use Rattle.histories.specs.Past.{Determination, Past, determination, determined_by_member, determined_at, recorded, past_after, trace, no_past}
use Rattle.agreement.specs.Demand.{Justified, SameDetermination}
use Rattle.histories.proofs.Members.{live-up}
use Rattle.histories.proofs.Always.{Kept}
use Rattle.boxes.specs.fleet.Fleet.{Box, Fleet, Act, reading, version_in, request_in, live, fleet_after}
use Rattle.boxes.specs.fleet.Past.{BoxDetermination, BoxPast, box_determination, boxes_determined, box_noted, box_past_after, box_trace}
use Rattle.boxes.specs.fleet.Claim.{BoxJustified, SameBoxDetermination, BoxesJustified, events}
use Rattle.boxes.proofs.fleet.Together.{Beside, at, fit}
use Rattle.boxes.proofs.fleet.Reach.{Reached, answered-alike, reach}
use Rattle.boxes.proofs.fleet.Results.{is_live_lem, version_of, request-of, live-as}

-- a box as its member: both live or neither, and if live with the same request and version
pub record Seen (m : Member) (b : Box) : Type 0 where
  pub living : live b ≡ is_live m
  pub request : live b ≡ true → request_in (reading b) ≡ m.node.request
  pub version : live b ≡ true → version_in (reading b) ≡ m.node.version

-- what a box determined is what a node of the site determined
pub record Witness (log : List Determination) (d : BoxDetermination) : Type 0 where
  pub e : Determination
  pub there : Memᴰ e log
  pub epoch : d.epoch ≡ e.epoch
  pub version : d.version ≡ e.version
  pub schedule : d.schedule ≡ e.schedule
  pub nodes : d.nodes ≡ e.nodes
  pub requests : d.requests ≡ e.requests
  pub start : (j : ℕ) → 1 ≤ j → Seen (member_at e.start j) (d.start j)

pub record Parallel (past : Past) (y : BoxPast) : Type 0 where
  pub epoch : y.epoch ≡ past.epoch
  pub start : (j : ℕ) → 1 ≤ j → Seen (member_at past.start j) (y.start j)
  pub log : (d : BoxDetermination) → Memᴰ d y.log → Witness past.log d

-- a longer log
more : {log : List Determination} {d : BoxDetermination} (new : List Determination) → Witness log d → Witness (log ++ new) d
more new w = record {
  e = w.e;
  there = Memᴰ.append_left new w.there;
  epoch = w.epoch;
  version = w.version;
  schedule = w.schedule;
  nodes = w.nodes;
  requests = w.requests;
  start = w.start;
}

-- a live member that determines is noted
noted-at : (past : Past) (l : List Member) (i : ℕ) → i < length l → is_live (get_or l i nobody) ≡ true
    → determines (get_or l i nobody).node ≡ true → Memᴰ (determination past (get_or l i nobody).node) (determined_at past l)
unfolding determined_at
noted-at past [] i h v t = absurd (not-suc-le-zero h)
noted-at past (m ∷ l) zero h v t =
    Memᴰ.append_left (determined_at past l)
    (subst (λ (b : Bool). Memᴰ (determination past m.node) (cond b (determination past m.node ∷ []) [])) (sym (both v t))
    (Memᴰ.head refl))
noted-at past (m ∷ l) (suc i) h v t = Memᴰ.append_right (determined_by_member past m) (noted-at past l i (le_of_suc-le-suc h) v t)

-- what was determined among the boxes 1 to n is of one of them
record Found (n : ℕ) (y : BoxPast) (boxes : ℕ → Box) (d : BoxDetermination) : Type 0 where
  j : ℕ
  from : 1 ≤ j
  to : j ≤ n
  live : live (boxes j) ≡ true
  yes : determines (decoded (boxes j).area) ≡ true
  is : d ≡ box_determination y j (decoded (boxes j).area)

found : (n : ℕ) (y : BoxPast) (boxes : ℕ → Box) (d : BoxDetermination) → Memᴰ d (boxes_determined n y boxes) → Found n y boxes d
unfolding boxes_determined
found zero y boxes d m = absurd (Memᴰ.not-nil m)
found (suc n) y boxes d m =
    ⊎_elim
    (λ q. let r = found n y boxes d q in record {
      j = r.j;
      from = r.from;
      to = let k = r.to in omega arith;
      live = r.live;
      yes = r.yes;
      is = r.is;
    })
    (here (live (boxes (suc n)) && determines (decoded (boxes (suc n)).area)) refl)
    (Memᴰ.append_cases (boxes_determined n y boxes) m)
  where
    here : (t : Bool) → (live (boxes (suc n)) && determines (decoded (boxes (suc n)).area)) ≡ t
        → Memᴰ d (cond t (box_determination y (suc n) (decoded (boxes (suc n)).area) ∷ []) []) → Found (suc n) y boxes d
    here true e q =
        record {
          j = suc n;
          from = omega arith;
          to = omega arith;
          live = and_left _ _ e;
          yes = and_right (live (boxes (suc n))) _ e;
          is = Memᴰ.eq_of_singleton q;
        }
    here false e q = absurd (Memᴰ.not-nil q)

module _ {f : Config} {past : Past} {s : Site} {area : List ℕ} {air : List (List ℕ)} {boxes : ℕ → Box} (h : Kept f past s area)
    (B : Beside s area air boxes) where
  -- the boxes as they are are the members as they are
  pub seen : (j : ℕ) → 1 ≤ j → Seen (member_at s j) (boxes j)
  seen j l = record { living = live-as h B j l; request = λ v. request-of h B j l v; version = λ v. version_of h B j l v }

  -- an accepted close
  closes : {y : BoxPast} → Parallel past y → (d : BoxDetermination)
      → Memᴰ d (y.log ++ boxes_determined s.config.nodes y boxes) → Witness (past.log ++ determined_at past s.members) d
  closes {y} P d m = ⊎_elim (λ q. more (determined_at past s.members) (P.log d q)) (λ q. new (found s.config.nodes y boxes d q))
      (Memᴰ.append_cases y.log m)
    where
      new : Found s.config.nodes y boxes d → Witness (past.log ++ determined_at past s.members) d
      new r =
          let j = r.j in
          let v = is_live_lem h B j r.from r.live in
          let u = live-up (member_at s j) v in
          let n = (member_at s j).node in
          let k : decoded (boxes j).area ≡ n = ap decoded ((at h.sound B j r.from).area u)
          ∙ round_trip n ((fit h.sound B j).long u) ((fit h.sound B j).range u) in
          let from = r.from in
          let to = r.to in
          let here : j - 1 < length s.members = omega (arith, (bounds s.config h.sound.config).nodes-to, B.members) in
          let i : d ≡ box_determination y j n = r.is ∙ ap (box_determination y j) k in
          record {
            e = determination past n;
            there = Memᴰ.append_right past.log
                (noted-at past s.members (j - 1) here v (sym (ap determines k) ∙ r.yes));
            epoch = ap (λ (z : BoxDetermination). z.epoch) i ∙ P.epoch;
            version = ap (λ (z : BoxDetermination). z.version) i;
            schedule = ap (λ (z : BoxDetermination). z.schedule) i;
            nodes = ap (λ (z : BoxDetermination). z.nodes) i;
            requests = ap (λ (z : BoxDetermination). z.requests) i;
            start = λ x l. subst (λ (z : BoxDetermination). Seen (member_at past.start x) (z.start x)) (sym i) (P.start x l);
          }

-- the boxes of a field, seen
seen-in : {f : Config} {past : Past} {w : RunState} {x : Fleet} → Reached f past w x → (j : ℕ) → 1 ≤ j
    → Seen (member_at w.site j) (x.boxes j)
seen-in {f} {past} {w} {x} r j l = subst (λ (z : Fleet). Seen (member_at w.site j) (z.boxes j)) (sym r.together.is)
    (seen r.kept r.together.beside j l)

-- each event

accepted : {f : Config} {past : Past} {w : RunState} {x : Fleet} {y : BoxPast} (a : Act) → Reached f past w x → Parallel past y
    → Reached f (past_after past w a.event) (after w a.event) (fleet_after x a)
    → Parallel (recorded past w.site a.event (after w a.event).site) (box_noted y x a.event (fleet_after x a))
accepted {f} {past} {w} {x} {y} a r P z = go a.event (seen-in z)
  where
    -- after a close of field b each determination has its witness
    logged : Fleet → Type 0
    logged b = (d : BoxDetermination) → Memᴰ d (y.log ++ boxes_determined b.config.nodes y b.boxes)
        → Witness (past.log ++ determined_at past w.site.members) d

    go : (e : Event) → ((j : ℕ) → 1 ≤ j → Seen (member_at (after w a.event).site j) ((fleet_after x a).boxes j))
        → Parallel (recorded past w.site e (after w a.event).site) (box_noted y x e (fleet_after x a))
    go (Send j) c = P
    go (Hear j p) c = P
    go Close c =
        record {
          epoch = P.epoch;
          start = P.start;
          log = subst logged (sym r.together.is) (closes r.kept r.together.beside P);
        }
    go (Take j i) c = P
    go End c =
        record {
          epoch = ap₂ (λ (b : Fleet) (k : ℕ). cond (is_last b.config b.place) (suc k) k) r.together.is P.epoch;
          start = c;
          log = P.log;
        }
    go (Want j d) c = P
    go (Crash j) c = P
    go (Restart j flags) c = P

parallel-step : {f : Config} {past : Past} {w : RunState} {x : Fleet} {y : BoxPast} (a : Act) → Reached f past w x → Parallel past y
    → Parallel (past_after past w a.event) (box_past_after y x a)
unfolding past_after box_past_after
parallel-step {f} {past} {w} {x} {y} a r P =
    subst (λ (z : Answer). Parallel (past_after past w a.event) (cond (is_done z) (box_noted y x a.event (fleet_after x a)) y))
    (sym (answered-alike r a.event))
    (go (is_done (answer_of w.site w.area a.event)) (reach r a))
  where
    go : (t : Bool) → Reached f (past_after past w a.event) (after w a.event) (fleet_after x a)
        → Parallel (cond t (recorded past w.site a.event (after w a.event).site) past)
        (cond t (box_noted y x a.event (fleet_after x a)) y)
    go true z = accepted a r P z
    go false z = P

pub parallels : {f : Config} {past : Past} (w : RunState) (x : Fleet) (y : BoxPast) (acts : List Act) → Reached f past w x → Parallel past y
    → Parallel (trace past w (events acts)) (box_trace y x acts)
unfolding trace box_trace
parallels w x y [] r P = P
parallels {f = f} {past = past} w x y (a ∷ acts) r P =
    parallels {f = f} {past = past_after past w a.event} (after w a.event) (fleet_after x a) (box_past_after y x a) acts (reach r a)
    (parallel-step a r P)

-- at the beginning
pub begun-parallel : {f : Config} {s : Site} {area : List ℕ} {x : Fleet} → Reached f (no_past s) (record {
  site = s;
  area = area;
}) x → Parallel (no_past s) (record { start = x.boxes; epoch = 0; log = [] })
begun-parallel r = record { epoch = refl; start = seen-in r; log = λ d m. absurd (Memᴰ.not-nil m) }

-- what holds of what the nodes determined holds of what the boxes determined
pub justified : {past : Past} {y : BoxPast} (N : ℕ) → Parallel past y → ((d : Determination) → Memᴰ d past.log → Justified N d)
    → ((d e : Determination) → Memᴰ d past.log → Memᴰ e past.log → d.epoch ≡ e.epoch → SameDetermination d e)
    → BoxesJustified N y.log
justified {past} {y} N P G U =
    record {
      justified = λ d m. one d (P.log d m);
      unique = λ d e m n h. two d e (P.log d m) (P.log e n) h;
    }
  where
    one : (d : BoxDetermination) → Witness past.log d → BoxJustified N d
    one d w =
        let g = G w.e w.there in
        record {
          most = subst (λ (z : ℕ). N < 2 * size z) (sym w.nodes) g.most;
          held = λ j i.
              let l : 1 ≤ j = ltb-true 0 j (and_left (ltb 0 j) (has_bit d.nodes (j - 1)) i) in
              let q = g.held j (ap (λ (z : ℕ). is_in z j) (sym w.nodes) ∙ i) in
              let o = w.start j l in
              let v = o.living ∙ q.live in
              record {
                live = v;
                request = o.request v ∙ q.request ∙ ap (λ (z : List ℕ). entry_of z j) (sym w.requests);
                version = ap (λ (z : ℕ). z + 1) (o.version v) ∙ q.version ∙ sym w.version;
              };
        }

    two : (d e : BoxDetermination) → Witness past.log d → Witness past.log e → d.epoch ≡ e.epoch → SameBoxDetermination d e
    two d e v w h =
        let u = U v.e w.e v.there w.there (sym v.epoch ∙ h ∙ w.epoch) in
        record {
          version = v.version ∙ u.version ∙ sym w.version;
          schedule = v.schedule ∙ u.schedule ∙ sym w.schedule;
          nodes = v.nodes ∙ u.nodes ∙ sym w.nodes;
          requests = λ j i.
              ap (λ (z : List ℕ). entry_of z j) v.requests ∙ u.requests j (ap (λ (z : ℕ). is_in z j) (sym v.nodes) ∙ i)
              ∙ ap (λ (z : List ℕ). entry_of z j) (sym w.requests);
        }
