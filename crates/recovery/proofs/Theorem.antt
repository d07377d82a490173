-- How soon after calm, proved.
-- Assumes nothing.
use mathlib.Core.Path.{◌≡◌, refl, sym, ap, ap₂, ◌∙◌, subst}
use mathlib.Core.Bool.{Bool, true, false, not, cond, ◌&&◌}
use mathlib.Core.Logic.{inl, inr}
use mathlib.Core.List.{List, [], ◌∷◌, ◌++◌}
use Prim.Native.Nat.{ℕ, suc, ◌+◌, ◌-◌, ◌*◌, ◌^◌, ◌≤◌, ◌<◌}
use native.Mathlib.Omega.{arith}
use lib.ListN.{get_or, replicate}
use Rattle.words.specs.Bits.{has_bit, word_of, size}
use Rattle.words.proofs.Tests.{met?, clash, is_false, and_left}
use Rattle.words.proofs.Laws.{has_bit-word_of, word_of-lt, word_of-ext, word_of-below}
use Rattle.lists.proofs.Laws.{get_d-tab, get_d-zeros}
use Rattle.allotment.specs.Allotment.{top_request, owners_of, next, count, targets}
use Rattle.allotment.specs.Model.{Schedule}
use Rattle.allotment.proofs.Laws.{settled, same-asks}
use Rattle.node.specs.Answers.{is_done}
use Rattle.node.specs.Figures.{is_last, negotiates, sending}
use Rattle.node.specs.declared.Setup.{Setup}
use Rattle.node.specs.declared.Packet.{Packet}
use Rattle.node.specs.Answers.{Answer}
use Rattle.node.specs.Answers.{Done}
use Rattle.range.proofs.Ranges.{ranges}
use Rattle.node.proofs.Phases.{in-negotiation}
use Rattle.site.specs.Members.{setup_of}
use Rattle.site.specs.Load.{load_answer, loaded_site}
use Rattle.site.specs.Steps.{ended_site, site_after}
use Rattle.site.specs.Run.{RunState, after, run}
use Rattle.node.specs.declared.Config.{Config}
use Rattle.site.specs.declared.Table.{Table}
use Rattle.site.specs.Model.{Site}
use Rattle.site.specs.declared.Event.{Event}
use Rattle.site.specs.declared.Event.TheVariants.{End}
use Rattle.site.proofs.Accepted.{answered, end-accepted}
use Rattle.node.proofs.Bounds.{bounds}
use Rattle.histories.specs.Past.{Past, no_past, trace}
use Rattle.histories.specs.Reached.{begin, reached, past_of}
use Rattle.recovery.specs.Calm.{Recovery, whole, site_member, live_in, live_set, requests_of, unwatched, watched, NobodyJoins}
use Rattle.recovery.specs.Calm.{OneSchedule, Ready, Calm, Risen}
use Rattle.histories.proofs.Sets.{In, in-lt, in-none}
use Rattle.histories.proofs.Tests.{either}
use Rattle.histories.proofs.Members.{member, awake}
use Rattle.histories.proofs.Steady.{Steady}
use Rattle.histories.proofs.Sound.{Sound}
use Rattle.histories.proofs.Opens.{Opens}
use Rattle.histories.proofs.Always.{always}
use Rattle.recovery.proofs.Member as calm
use Rattle.recovery.proofs.Site as site
use Rattle.recovery.proofs.Majority as more
use Rattle.recovery.proofs.Events.{Going, goes_through}

-- who is in a word by its rule
in-live : (s : Site) (i : ℕ) → i < 32 → live_in s i ≡ true → In (live_set s) i
unfolding live_set
in-live s i l e = record { is = has_bit-word_of 32 (live_in s) i l ∙ e }

live-in : (s : Site) (i : ℕ) → In (live_set s) i → live_in s i ≡ true
unfolding live_set
live-in s i h = let l : i < 32 = in-lt 32 (word_of 32 (live_in s)) i (word_of-lt 32 (live_in s)) h in sym (has_bit-word_of 32 (live_in s) i l)
    ∙ h.is

live-fits : (s : Site) (n : ℕ) → n ≤ 32 → ((i : ℕ) → live_in s i ≡ true → i < n) → live_set s < 2 ^ n
unfolding live_set
live-fits s n small h = word_of-below n 32 (live_in s) small (λ i a b. is_false (live_in s i) (λ e. omega (arith, h i e)))

-- as an epoch begins, all with one schedule: the members are calm, whatever the form of the site
module _ (f : Config) (past : Past) (s : Site) (area : List ℕ) (air : List Packet) (v : ℕ) (sound : Sound s area air)
    (fig : s.config ≡ f) (o : Opens past.start) (R : Ready past s v) (S : Schedule)
    (one : (i : ℕ) → live_in s i ≡ true → (member s i).node.schedule ≡ S) where
  abbrev L : ℕ
  L = live_set s

  abbrev q : ℕ → ℕ
  q k = (member s k).node.request

  op : Opens s
  op = subst Opens R.start o

  small : f.nodes ≤ 32
  small = subst (λ (x : Config). x.nodes ≤ 32) fig (bounds s.config sound.config).nodes-to

  steady : (i : ℕ) → live_in s i ≡ true → Steady s.config s.negotiates s.place i (member s i).node
  steady i l = (sound.each i).up (and_left _ _ l)

  set-up : (i : ℕ) → live_in s i ≡ true → (member s i).node.setup ≡ setup_of f (suc i)
  set-up i l = let z : i + 1 ≡ suc i = omega arith in (steady i l).setup ∙ ap₂ setup_of fig z

  in-N : (i : ℕ) → live_in s i ≡ true → i < f.nodes
  in-N i l =
      let r = (ranges (member s i).node (steady i l).range).setting.node-to in
      let a : (member s i).node.setup.node ≡ suc i = ap (λ (x : Setup). x.node) (set-up i l) in
      let b : (member s i).node.setup.config.nodes ≡ f.nodes = ap (λ (x : Setup). x.config.nodes) (set-up i l) in
      omega arith

  fits : L < 2 ^ f.nodes
  fits = live-fits s f.nodes small in-N

  enough : calm.Enough f L
  enough = more.enough f L small fits (either R.suffices (λ k. inr (subst (λ (x : Config). x.nodes < 2 * size L) fig k.1))
      (λ k. inl (subst (λ (x : Config). x.split ≡ 1) fig k.0)))

  asks : (k : ℕ) → In L k → q k ≤ top_request
  asks k m = (ranges (member s k).node (steady k (live-in s k m)).range).request

  begins-one : (i : ℕ) → site.One f L v S q true false 0 0 i (member s i)
  begins-one i = record {
    who = λ l. in-live s i (omega (arith, in-N i l, small)) l;
    all = λ m. live-in s i m;
    still = λ m t. still (live-in s i m) m;
    sent = λ m t. clash false t refl;
  }
    where
      still : live_in s i ≡ true → In L i → calm.Still f L v S q true 0 0 i (member s i).node
      still l m =
          let n = (member s i).node in
          let p : negotiates n.phase ≡ true = (steady i l).phase (awake (member s i) l) ∙ op.talks in
          let u : n.epoch.updated ≡ false = op.mark R.place i l in
          let e = set-up i l in
          record {
            setup = e;
            flags = R.flags i l;
            version = R.version i l;
            schedule = one i l;
            request = refl;
            phase = p;
            silent = ap sending (in-negotiation n.phase p);
            mark = λ t. clash n.epoch.updated t u;
            done = λ t. absurd (omega (arith, t));
            interactions = λ t. absurd (omega (arith, t));
            seen = λ t. calm.seen-open f L v S q small fits enough R.below asks i n m (ap (λ (x : Setup). x.node) e) (R.version i l)
                (R.flags i l) refl (op.round i l);
            heard = λ t k b y. absurd (in-none k y);
            only = λ t k y. absurd (in-none k (subst (λ (x : ℕ). In x k) (op.round i l).heard y));
            often = λ k b. inl (omega arith);
            other = λ k b x. ap (λ (z : List ℕ). get_or z k 0) (op.counters R.place i l) ∙ get_d-zeros 32 k;
          }

  begins-quiet : Going f L v S q small fits enough R.below asks unwatched s area
  begins-quiet = record {
    air = air;
    sound = sound;
    quiet = record {
      config = fig;
      long = refl;
      each = λ i. subst (λ (b : Bool). site.One f L v S q b (not b && is_last f s.place) (get_or (replicate 32 0) i 0) 0 i
          (member s i)) (sym op.talks)
          (subst (λ (x : ℕ). site.One f L v S q true false x 0 i (member s i)) (sym (get_d-zeros 32 i)) (begins-one i));
      packets = λ p l. absurd (omega (arith, sound.count, op.none));
    };
  }

-- the last end of a calm epoch
module _ (f : Config) (past : Past) (w : RunState) (air : List Packet) (v : ℕ) (sound : Sound w.site w.area air)
    (fig : w.site.config ≡ f) (o : Opens past.start) (R : Ready past w.site v) (S : Schedule)
    (one : (i : ℕ) → live_in w.site i ≡ true → (member w.site i).node.schedule ≡ S) (body : List Event)
    (C : Calm (live_set w.site) w body) (i : ℕ) (li : live_in w.site i ≡ true) where
  ended : (live_in (ended_site (run w body).site) i ≡ true) × ((site_member (ended_site (run w body).site) i).node.version ≡ suc v)
      × ((site_member (ended_site (run w body).site) i).node.schedule ≡ next S (live_set w.site) (requests_of w.site) f.nodes
      f.slots)
      × (f.min_heard ≤ (watched (live_set w.site) unwatched w body).full
      → (site_member (ended_site (run w body).site) i).node.flags ≡ live_set w.site)
  unfolding requests_of
  ended =
      let s = w.site in
      let L' = live_set s in
      let rq : ℕ → ℕ = λ k. (member s k).node.request in
      let sm = small f past s w.area air v sound fig o R S one in
      let fi = fits f past s w.area air v sound fig o R S one in
      let mo = enough f past s w.area air v sound fig o R S one in
      let asked = asks f past s w.area air v sound fig o R S one in
      let G = goes_through f L' v S rq sm fi mo R.below asked w unwatched body
      (begins-quiet f past s w.area air v sound fig o R S one) (record {
        over = C.within;
        crashed = C.safe;
      }) in
      let t = end-accepted (run w body).site (answered (run w body).site (run w body).area End C.ends).1 in
      let l : is_last f (run w body).site.place ≡ true = subst
      (λ (x : Config). is_last x (run w body).site.place ≡ true) fig C.last in
      site.risen f L' v S rq sm fi mo R.below asked G.sound t l C.full G.quiet i
      (in-live s i (omega (arith, in-N f past s w.area air v sound fig o R S one i li, sm)) li)

-- as an epoch begins, the live nodes have one schedule: where the site may split it is asked for, and otherwise it follows
same-schedule : (f : Config) (t : Table) → load_answer f t ≡ Done → (area : List ℕ) (before : List Event) (v : ℕ)
    → Ready (past_of f t area before) (reached f t area before).site v → OneSchedule (reached f t area before).site
same-schedule f t d area before v R i j li lj =
    let h = always f t d area before in
    either R.suffices
    (λ k. more.one-schedule f t d (subst (λ (x : Config). x.split ≡ 0) h.config k.0) area before v
    (subst (λ (x : Site). x.negotiates ≡ true) R.start h.opens.talks) R.version i j li lj)
    (λ k. k.1 i j li lj)

-- S-7
pub calm-epoch : (f : Config) (t : Table) → load_answer f t ≡ Done → (area : List ℕ) (before body : List Event) (v : ℕ)
    → Ready (trace (no_past (loaded_site f t)) (begin f t area) before) (run (begin f t area) before).site v
    → Calm (live_set (run (begin f t area) before).site) (run (begin f t area) before) body
    → (i j : ℕ) → live_in (run (begin f t area) before).site i ≡ true → live_in (run (begin f t area) before).site j ≡ true
    → Risen (run (begin f t area) before).site (after (run (run (begin f t area) before) body) End).site v i j
unfolding site_after
calm-epoch f t d area before body v R C i j li lj =
    let b = begin f t area in
    let w = run b before in
    let past = trace (no_past (loaded_site f t)) b before in
    let h = always f t d area before in
    let o = h.opens in
    let e : site_after (run w body).site (run w body).area End ≡ ended_site (run w body).site = ap
    (λ (a : Answer). cond (is_done a) (ended_site (run w body).site) (run w body).site) C.ends in
    let r = ended f past w h.air v h.sound h.config o R (member w.site j).node.schedule
    (λ k l. same-schedule f t d area before v R k j l lj) body C i li in
    subst (λ (x : Site). Risen w.site x v i j) (sym e) (record {
      live = r.0;
      version = r.1;
      schedule = r.2 ∙ ap (λ (x : Config). next (member w.site j).node.schedule (live_set w.site) (requests_of w.site)
          x.nodes x.slots) (sym h.config);
    })

-- S-9: who is in the flags then
pub calm-again : (f : Config) (t : Table) → load_answer f t ≡ Done → (area : List ℕ) (before body : List Event) (v : ℕ)
    → Ready (trace (no_past (loaded_site f t)) (begin f t area) before) (run (begin f t area) before).site v
    → Calm (live_set (run (begin f t area) before).site) (run (begin f t area) before) body
    → f.min_heard ≤ (watched (live_set (run (begin f t area) before).site) unwatched (run (begin f t area) before) body).full
    → NobodyJoins (run (begin f t area) before).site (after (run (run (begin f t area) before) body) End).site
    → (i : ℕ) → live_in (after (run (run (begin f t area) before) body) End).site i ≡ true
    → (site_member (after (run (run (begin f t area) before) body) End).site i).node.flags
    ≡ live_set (after (run (run (begin f t area) before) body) End).site
unfolding site_after live_set
calm-again f t d area before body v R C enough nobody i li =
    let b = begin f t area in
    let w = run b before in
    let past = trace (no_past (loaded_site f t)) b before in
    let h = always f t d area before in
    let o = h.opens in
    let e : site_after (run w body).site (run w body).area End ≡ ended_site (run w body).site = ap
    (λ (a : Answer). cond (is_done a) (ended_site (run w body).site) (run w body).site) C.ends in
    let ls = nobody i li in
    let r = ended f past w h.air v h.sound h.config o R (member w.site i).node.schedule
    (λ k l. same-schedule f t d area before v R k i l ls) body C i ls in
    let x : (site_member (site_after (run w body).site (run w body).area End) i).node.flags
    ≡ live_set w.site = ap (λ (y : Site). (site_member y i).node.flags) e ∙ r.3 enough in
    x ∙ word_of-ext 32 (live_in w.site) (live_in (site_after (run w body).site (run w body).area End)) (λ k l. same_live k)
  where
    same_live : (k : ℕ) → live_in (run (begin f t area) before).site k ≡ live_in (after (run (run (begin f t area) before) body) End).site k
    same_live k = either (met? (live_in (run (begin f t area) before).site k))
        (λ l. l ∙ sym (calm-epoch f t d area before body v R C k k l l).live)
        (λ l. l ∙ sym (is_false _ (λ y. clash (live_in (run (begin f t area) before).site k) (nobody k y) l)))

-- two in a row

run-append : (w : RunState) (x y : List Event) → run w (x ++ y) ≡ run (run w x) y
unfolding run
run-append w [] y = refl
run-append w (e ∷ x) y = run-append (after w e) x y

run-one : (w : RunState) (e : Event) → run w (e ∷ []) ≡ after w e
unfolding run
run-one w e = refl

get-requests : (s : Site) (k : ℕ) → k < 32 → get_or (requests_of s) k 0 ≡ (site_member s k).node.request
unfolding requests_of
get-requests s k l = get_d-tab 0 32 (λ i. (site_member s i).node.request) k l

pub calm-twice : (f : Config) (t : Table) → load_answer f t ≡ Done → (area : List ℕ) (before first second : List Event) (v u : ℕ)
    → Ready (trace (no_past (loaded_site f t)) (begin f t area) before) (run (begin f t area) before).site v
    → Calm (live_set (run (begin f t area) before).site) (run (begin f t area) before) first
    → Ready (trace (no_past (loaded_site f t)) (begin f t area) (before ++ whole first)) (run (begin f t area) (before ++ whole first)).site
    u
    → Calm (live_set (run (begin f t area) (before ++ whole first)).site) (run (begin f t area) (before ++ whole first)) second
    → live_set (run (begin f t area) before).site ≡ live_set (run (begin f t area) (before ++ whole first)).site
    → ((i : ℕ) → live_in (run (begin f t area) before).site i ≡ true
    → (site_member (run (begin f t area) before).site i).node.request
    ≡ (site_member (run (begin f t area) (before ++ whole first)).site i).node.request)
    → (i : ℕ) → live_in (run (begin f t area) before).site i ≡ true
    → count (suc i) (owners_of (site_member (after (run (run (begin f t area) (before ++ whole first)) second) End).site i).node.schedule)
    ≡ get_or (targets f.nodes f.slots (live_set (run (begin f t area) (before ++ whole first)).site)
    (requests_of (run (begin f t area) (before ++ whole first)).site)) i 0
calm-twice f t d area before first second v u R C R' C' same asked i li =
    let b = begin f t area in
    let w0 = run b before in
    let w1 = run b (before ++ whole first) in
    let s0 = w0.site in
    let s1 = w1.site in
    let N = f.nodes in
    let K = f.slots in
    let L1 = live_set s1 in
    let link : after (run w0 first) End ≡ w1 = sym (run-append b before (whole first) ∙ run-append w0 first (End ∷ [])
    ∙ run-one (run w0 first) End) in
    let one : Risen s0 s1 v i i = subst (λ (x : RunState). Risen s0 x.site v i i) link
    (calm-epoch f t d area before first v R C i i li li)
    in
    let two = calm-epoch f t d area (before ++ whole first) second u R' C' i i one.live one.live in
    let h0 = always f t d area before in
    let h1 = always f t d area (before ++ whole first) in
    let e0 : (site_member s1 i).node.schedule ≡ next (site_member s0 i).node.schedule L1 (requests_of s0) N K = one.schedule
    ∙ ap₂ (λ (m : ℕ) (g : Config). next (site_member s0 i).node.schedule m (requests_of s0) g.nodes g.slots) same h0.config in
    let e1 : next (site_member s0 i).node.schedule L1 (requests_of s0) N K
    ≡ next (site_member s0 i).node.schedule L1 (requests_of s1) N K = same-asks (site_member s0 i).node.schedule L1 (requests_of s0)
    (requests_of s1) N K
    (λ k l m. let k32 : k < 32 = omega (
      arith,
      subst (λ (x : Config). x.nodes ≤ 32) h0.config
          (bounds (run b before).site.config h0.sound.config).nodes-to,
    ) in get-requests s0 k k32 ∙ asked k (live-in s0 k (record {
      is = ap (λ (x : ℕ). has_bit x k) same ∙ m;
    })) ∙ sym (get-requests s1 k k32)) in
    let e2 : (site_member (after (run w1 second) End).site i).node.schedule
    ≡ next (next (site_member s0 i).node.schedule L1 (requests_of s1) N K) L1 (requests_of s1) N K
    = two.schedule ∙ ap₂ (λ (x : Schedule) (g : Config). next x L1 (requests_of s1) g.nodes g.slots) (e0 ∙ e1) h1.config in
    let z : suc i - 1 ≡ i = omega arith in
    ap (λ (x : Schedule). count (suc i) (owners_of x)) e2 ∙ settled (site_member s0 i).node.schedule L1 (requests_of s1) N K (suc i)
    (omega arith) ∙ ap (λ (k : ℕ). get_or (targets N K L1 (requests_of s1)) k 0) z

-- the theorem
pub recovery : Recovery
recovery =
    record {
      recovers = λ f t d area.
          record {
            rises = calm-epoch f t d area;
            remains = calm-again f t d area;
            settles = λ before first second v u R C R' C' same. calm-twice f t d area before first second v u R C R' C' same.live
                same.requests;
          };
    }
