-- What is seen in a round, whatever the form of the site: no majority, no expiry is asked. Each live node has gathered what was so at the
-- round's start, and so has each packet.
-- Assumes nothing.
use mathlib.Core.Path.{◌≡◌, refl, sym, ap, ◌∙◌, subst}
use mathlib.Core.Bool.{Bool, true, false}
use mathlib.Core.List.{List, [], ◌∷◌, ◌++◌}
use Prim.Native.Nat.{ℕ, ◌+◌, ◌-◌, ◌^◌, ◌<◌}
use native.Mathlib.Omega.{arith}
use lib.ListN.{get_or, length}
use Rattle.words.proofs.Tests.{met?, clash, hit, skip}
use Rattle.lists.proofs.Every.{every_set, every_more}
use Rattle.node.specs.Negotiation.{packet_of, merges, heard_node}
use Rattle.node.specs.Steps.{wanted_node}
use Rattle.node.specs.declared.Setup.{Setup}
use Rattle.node.specs.Model.{Node}
use Rattle.node.specs.declared.Packet.{Packet}
use Rattle.range.proofs.Ranges.{ranges}
use Rattle.node.proofs.Laws.{hears, wants}
use Rattle.node.proofs.Made.{tells}
use Rattle.node.proofs.Tested.{merges-in}
use Rattle.site.specs.Members.{nobody, member_at, is_live, with_node, put}
use Rattle.site.specs.Steps.{sent_site, closed_site}
use Rattle.site.specs.Model.{Member}
use Rattle.site.specs.Model.{Site}
use Rattle.histories.proofs.Tests.{either}
use Rattle.histories.proofs.Sets.{in-number}
use Rattle.histories.proofs.Views.{view_of, view_in, merge, Good, merge-good}
use Rattle.histories.proofs.Starts.{start_of, Flagged, opened-good}
use Rattle.histories.proofs.Members.{member, live-up, live_same}
use Rattle.histories.proofs.Steady.{steady-number, steady-index, steady-small}
use Rattle.histories.proofs.Sound.{Sound, no_packet}
use Rattle.histories.proofs.Opens.{Opens}

-- Views

pub packet-view : (n : Node) → view_in (packet_of n) ≡ view_of n
packet-view n = let t = tells n in λ j. record {
  who = t.sender j - 1;
  m = t.flags j;
  R = t.requests j;
  lo = t.lowest j;
  hi = t.highest j;
}

hear-view : (n : Node) (q : Packet) → merges n q ≡ true → view_of (heard_node n q) ≡ merge (view_of n) (view_in q)
hear-view n q e =
    let h = hears n q in
    let m = h.merged ∙ hit (merges n q) _ _ e in
    let R = h.known ∙ hit (merges n q) _ _ e in
    let lo = h.lowest ∙ hit (merges n q) _ _ e in
    let hi = h.highest ∙ hit (merges n q) _ _ e in
    λ j. record { who = (h.setup j).node - 1; m = m j; R = R j; lo = lo j; hi = hi j }

note-view : (n : Node) (q : Packet) → merges n q ≡ false → view_of (heard_node n q) ≡ view_of n
note-view n q e =
    let h = hears n q in
    let m = h.merged ∙ skip (merges n q) _ _ _ e refl in
    let R = h.known ∙ skip (merges n q) _ _ _ e refl in
    let lo = h.lowest ∙ skip (merges n q) _ _ _ e refl in
    let hi = h.highest ∙ skip (merges n q) _ _ _ e refl in
    λ j. record { who = (h.setup j).node - 1; m = m j; R = R j; lo = lo j; hi = hi j }

want-view : (n : Node) (d : ℕ) → view_of (wanted_node n d) ≡ view_of n
want-view n d = let h = wants n d in λ j. record {
  who = (h.setup j).node - 1;
  m = (h.round j).merged;
  R = (h.round j).known;
  lo = (h.round j).lowest;
  hi = (h.round j).highest;
}

-- The members of a site, and the packets of the phase

-- a live node in negotiation, against the round's start b
pub record Sees (N : ℕ) (b : Site) (i : ℕ) (n : Node) : Type 0 where
  pub good : (M : ℕ → ℕ) → Flagged M b → Good N (start_of M b) (view_of n)
  pub version : n.version ≡ (member b i).node.version
  pub request : n.request ≡ (member b i).node.request

pub record At (N : ℕ) (b : Site) (neg : Bool) (i : ℕ) (m : Member) : Type 0 where
  pub sees : neg ≡ true → is_live m ≡ true → Sees N b i m.node

pub record Sight (b s : Site) (air : List Packet) : Type 0 where
  pub each : (i : ℕ) → At s.config.nodes b s.negotiates i (member s i)
  pub packets : (M : ℕ → ℕ) → Flagged M b → (p : ℕ) → p < length air → Good s.config.nodes (start_of M b) (view_in (get_or air p no_packet))

-- of a member that isn't live nothing is asked, and of none in distribution
pub away : {N : ℕ} {b : Site} {neg : Bool} {i : ℕ} (m : Member) → is_live m ≡ false → At N b neg i m
away m e = record { sees = λ t l. clash (is_live m) l e }

pub quiet : {N : ℕ} {b : Site} {neg : Bool} {i : ℕ} (m : Member) → neg ≡ false → At N b neg i m
quiet {neg = neg} m e = record { sees = λ t. clash neg t e }

-- one member changes
pub put-sight : {b s : Site} {air : List Packet} (j : ℕ) (m : Member) → Sight b s air → At s.config.nodes b s.negotiates (j - 1) m
    → Sight b (put s j m) air
put-sight {b} {s} j m G h = record {
  each = every_set (At s.config.nodes b s.negotiates) nobody s.members (j - 1) m G.each h;
  packets = G.packets;
}

-- The events

sees-hear : (N : ℕ) (b : Site) (i : ℕ) (n : Node) (q : Packet) → Sees N b i n
    → ((M : ℕ → ℕ) → Flagged M b → Good N (start_of M b) (view_in q)) → Sees N b i (heard_node n q)
sees-hear N b i n q A Q = record { good = good; version = (hears n q).version ∙ A.version; request = (hears n q).request ∙ A.request }
  where
    good : (M : ℕ → ℕ) → Flagged M b → Good N (start_of M b) (view_of (heard_node n q))
    good M F = either (met? (merges n q))
        (λ e. let k = merges-in n q e in rw (hear-view n q e) (merge-good N (start_of M b) (view_of n) (view_in q) (A.good M F) (Q M F)
        (in-number n.round.merged q.sender k.0) (in-number q.flags n.setup.node k.1)))
        (λ e. rw (note-view n q e) (A.good M F))

pub sight-send : {b s : Site} {air : List Packet} (j : ℕ) → is_live (member_at s j) ≡ true → s.negotiates ≡ true → Sight b s air
    → Sight b (sent_site s j) (air ++ (packet_of (member_at s j).node ∷ []))
unfolding sent_site
sight-send {b} {s} {air} j l t G = record {
  each = G.each;
  packets = λ M F. every_more (λ q. Good s.config.nodes (start_of M b) (view_in q)) no_packet air (packet_of (member_at s j).node)
      (G.packets M F) (rw (packet-view (member_at s j).node) (((G.each (j - 1)).sees t l).good M F));
}

pub sight-hear : {b s : Site} {air : List Packet} (j p : ℕ) → is_live (member_at s j) ≡ true → s.negotiates ≡ true → p < length air
    → Sight b s air
    → Sight b (put s j (with_node (member_at s j) (heard_node (member_at s j).node (get_or air p no_packet)))) air
sight-hear {b} {s} {air} j p l t k G =
    let m = member_at s j in
    let q = get_or air p no_packet in
    put-sight j (with_node m (heard_node m.node q)) G (record {
      sees = λ _ _. sees-hear s.config.nodes b (j - 1) m.node q ((G.each (j - 1)).sees t l) (λ M F. G.packets M F p k);
    })

pub sight-want : {b s : Site} {air : List Packet} (j d : ℕ) → Sight b s air
    → Sight b (put s j (with_node (member_at s j) (wanted_node (member_at s j).node d))) air
sight-want {b} {s} j d G =
    let m = member_at s j in
    let h = wants m.node d in
    put-sight j (with_node m (wanted_node m.node d)) G (record {
      sees = λ t l.
          let A = (G.each (j - 1)).sees t (sym (live_same m (wanted_node m.node d) h.phase) ∙ l) in
          record {
            good = λ M F. rw (want-view m.node d) (A.good M F);
            version = h.version ∙ A.version;
            request = h.request ∙ A.request;
          };
    })

pub sight-close : (b s : Site) → Sight b (closed_site s) []
unfolding closed_site
sight-close b s = record { each = λ i. quiet _ refl; packets = λ M F p l. absurd (omega arith) }

-- a new round: the site is that of the round's start
pub sight-opens : {s : Site} {area : List ℕ} {air : List Packet} → Sound s area air → Opens s → Sight s s []
sight-opens {s} sound o = record { each = λ i. record { sees = λ t l. opens i l }; packets = λ M F p l. absurd (omega arith) }
  where
    opens : (i : ℕ) → is_live (member s i) ≡ true → Sees s.config.nodes s i (member s i).node
    opens i l =
        let n = (member s i).node in
        let st = (sound.each i).up (live-up (member s i) l) in
        let r = ranges n st.range in
        let node = steady-number st in
        let N : n.setup.config.nodes ≡ s.config.nodes = ap (λ (x : Setup). x.config.nodes) st.setup in
        let k : n.setup.node - 1 ≡ i = omega (arith, node) in
        record {
          good = λ M F. opened-good s.config.nodes M s i (omega (arith, steady-index st, steady-small st)) node (o.round i l)
              r.request
              (subst (λ (x : ℕ). n.flags < 2 ^ x) N r.flags) (rw k at (in-number n.flags n.setup.node r.own)) F l;
          version = refl;
          request = refl;
        }
