-- The site that storage stands for, after each event: the same as the site's own step.
-- Assumes nothing.
use mathlib.Core.Path.{◌≡◌, refl, sym, ap, ap₂, ◌∙◌}
use mathlib.Core.Bool.{false}
use mathlib.Core.List.{List}
use Prim.Native.Nat.{ℕ, ◌+◌, ◌-◌, ◌≤◌, ◌<◌}
use native.Mathlib.Omega.{arith}
use lib.Dec.{eqb}
use lib.ListN.{length, get_or, set, length-set}
use lib.Seq.{ext_get_or, get_or-set_same, get_or-set_other}
use Rattle.words.proofs.Tests.{same_or_not}
use Rattle.lists.specs.Bytes.{window}
use Rattle.lists.proofs.Laws.{length-tab, get_d-tab}
use Rattle.node.proofs.Laws.{hears}
use Rattle.node.proofs.Bare.{waiting-bare}
use Rattle.node.proofs.Made.{restarted}
use Rattle.node.specs.Core.{core_of, bare}
use Rattle.node.specs.declared.Move.TheVariants.{Free}
use Rattle.node.specs.declared.Config.{Config}
use Rattle.node.specs.Model.{Node}
use Rattle.node.specs.declared.Packet.{Packet}
use Rattle.range.proofs.Lengths.{Lengths, long-hear, long-restart}
use Rattle.wire.specs.Layout.{packet_in}
use Rattle.site.specs.Parts.{packet_part}
use Rattle.site.specs.Counts.{one_more}
use Rattle.site.specs.Members.{header_of, outside, down_member, setup_of, put}
use Rattle.site.specs.Steps.{sent_site, heard_member, heard_site, taken_member, taken_site, wanted_member, wanted_site, crashed_site}
use Rattle.site.specs.Steps.{restarted_member, restarted_site}
use Rattle.site.specs.Model.{Member}
use Rattle.machine.specs.Layout.{Store, store, words_size, bytes_size, row_size, room_size, at_config, at_place, at_sent, at_phase, node_in}
use Rattle.machine.specs.Layout.{node_words_at, stored_in, config_in, site_in}
use Rattle.machine.specs.Written.{written_front, demanded, written_free}
use Rattle.machine.specs.steps.After.{sent_store, heard_store, taken_store, wanted_store, crashed_store, restarted_store}
use Rattle.lists.proofs.Places.{apart_none, apart-set}
use Rattle.machine.proofs.Laws.{setup-there, site-put}
use Rattle.machine.proofs.Takes.{taken-stored}
use Rattle.machine.proofs.Back.{moved-stored, front-stored, words-apart, half-apart, full-apart}
use Rattle.machine.proofs.Demanded.{demanded-apart, demanded-stored}
use Rattle.machine.proofs.Tail.{long-stored, tail-members}
use Rattle.machine.proofs.Seats.{inside, config-are, member_is}

module _ (s : Store) (w : words_size ≤ length s.words) (b : bytes_size ≤ length s.bytes) where
  -- one member is another
  module _ (j : ℕ) (o : outside (config_in s) j ≡ false) where
    index : j - 1 < 32
    index = let q = inside (config_in s) j o in omega (arith, q.from, q.top)

    few : j - 1 < (config_in s).nodes
    few = let q = inside (config_in s) j o in omega (arith, q.from, q.within)

    number : setup_of (config_in s) j ≡ setup_of (config_in s) (j - 1 + 1)
    number =
        let q = inside (config_in s) j o in
        let z : j ≡ j - 1 + 1 = omega (arith, q.from) in
        ap (setup_of (config_in s)) z

    pub placed-site : (m : Member) → Lengths m.node → m.node.setup ≡ setup_of (config_in s) j → bare (core_of m.node) ≡ m.node
        → site_in (written_free s (j - 1) m) ≡ put (site_in s) j m
    placed-site m l u e =
        site-put {s = s} {t = written_free s (j - 1) m} (j - 1) (words-apart m l s (j - 1) index w b)
        (full-apart m l s (j - 1) index w b Free) index m few
        (moved-stored m l s (j - 1) index w b Free (u ∙ number) e)

    pub heard-site : (area : List ℕ) (p : ℕ) → site_in (heard_store s area j p) ≡ heard_site (site_in s) area j p
    unfolding heard_store heard_site
    heard-site area p =
        let x : List ℕ = packet_part (header_of (site_in s)) area p in
        let q : Packet = packet_in x in
        let n : Node = node_in s (j - 1) in
        let m : Member = heard_member x (stored_in s (j - 1)) in
        let l : Lengths m.node = long-hear n q (long-stored s (j - 1)) in
        site-put {s = s} {t = written_front s (j - 1) m} (j - 1) (words-apart m l s (j - 1) index w b) (half-apart m l s (j - 1) index w b)
        index m few
        (front-stored m l s (j - 1) index w b ((hears n q).setup ∙ setup-there s (j - 1)) (sym (hears n q).schedule)
        (sym (hears n q).determined))
        ∙ ap (λ (y : Member). put (site_in s) j (heard_member x y)) (sym (member_is s j o))

    pub taken-site : (g : ℕ) → outside (config_in s) g ≡ false → site_in (taken_store s j g) ≡ taken_site (site_in s) j g
    unfolding taken_store taken_site
    taken-site g u =
        let q = inside (config_in s) g u in
        let h : g - 1 < 32 = omega (arith, q.from, q.top) in
        taken-stored s (j - 1) (g - 1) index h few w b
        ∙ ap₂ (λ (x y : Member). put (site_in s) j (taken_member x y)) (sym (member_is s j o)) (sym (member_is s g u))

    pub crashed-site : site_in (crashed_store s j) ≡ crashed_site (site_in s) j
    unfolding crashed_store crashed_site site_in
    crashed-site = placed-site (down_member (config_in s) j) (long-restart (setup_of (config_in s) j) 0 0 0)
        (restarted (setup_of (config_in s) j) 0 0 0).setup (waiting-bare (setup_of (config_in s) j) 0 0 0)

    pub restarted-site : (flags : ℕ) → site_in (restarted_store s j flags) ≡ restarted_site (site_in s) j flags
    unfolding restarted_store restarted_site
    restarted-site flags = placed-site (restarted_member (header_of (site_in s)) j flags)
        (long-restart (setup_of (site_in s).config j) flags (site_in s).place 0)
        ((restarted (setup_of (site_in s).config j) flags (site_in s).place 0).setup ∙ ap (λ (f : Config). setup_of f j) (config-are s))
        (waiting-bare (setup_of (site_in s).config j) flags (site_in s).place 0)

    pub wanted-site : (d : ℕ) → site_in (wanted_store s j d) ≡ wanted_site (site_in s) j d
    unfolding wanted_store wanted_site
    wanted-site d =
        site-put {s = s} {t = demanded s (j - 1) d} (j - 1) (apart_none s.words (node_words_at (j - 1)) row_size)
        (demanded-apart s (j - 1) d) index (wanted_member (stored_in s (j - 1)) d) few (demanded-stored s (j - 1) d index b)
        ∙ ap (λ (y : Member). put (site_in s) j (wanted_member y d)) (sym (member_is s j o))

  -- a want keeps storage long enough
  pub wanted-long : (j d : ℕ) → (words_size ≤ length (wanted_store s j d).words) × (bytes_size ≤ length (wanted_store s j d).bytes)
  unfolding wanted_store
  wanted-long j d = (w, omega (arith, b, (demanded-apart s (j - 1) d).long))

  pub sent-site : (j : ℕ) → outside (config_in s) j ≡ false → site_in (sent_store s j) ≡ sent_site (site_in s) j
  unfolding site_in sent_site sent_store
  sent-site j o =
      let h = index j o in
      let x = get_or s.bytes (at_sent + (j - 1)) 0 + 1 in
      let t = set s.bytes (at_sent + (j - 1)) x in
      let m = tail-members s (store s.words t) (apart_none s.words at_config row_size)
      (apart-set s.bytes (at_sent + (j - 1)) x at_sent room_size (omega arith) (omega arith)) refl in
      let phase = get_or-set_other s.bytes (at_sent + (j - 1)) at_phase x 0 (λ e. absurd (omega (arith, e))) in
      let sent : window 32 t at_sent ≡ one_more (window 32 s.bytes at_sent) j = one-sent h in
      λ y. record { config = config_in s; negotiates = eqb (phase y) 1; place = get_or s.words at_place 0; sent = sent y; members = m y }
    where
      one-sent : j - 1 < 32 → window 32 (set s.bytes (at_sent + (j - 1)) (get_or s.bytes (at_sent + (j - 1)) 0 + 1)) at_sent
          ≡ one_more (window 32 s.bytes at_sent) j
      one-sent h =
          let v = get_or s.bytes (at_sent + (j - 1)) 0 + 1 in
          let l = window 32 s.bytes at_sent in
          let z : get_or l (j - 1) 0 + 1 ≡ v = ap (λ (u : ℕ). u + 1) (get_d-tab 0 32 (λ i. get_or s.bytes (at_sent + i) 0) (j - 1) h) in
          ext_get_or 0 (window 32 (set s.bytes (at_sent + (j - 1)) v) at_sent) (set l (j - 1) (get_or l (j - 1) 0 + 1))
          (length-tab 32 _ ∙ sym (length-set l (j - 1) _ ∙ length-tab 32 _))
          (λ k g.
          let n : k < 32 = omega (arith, length-tab 32 (λ (i : ℕ). get_or (set s.bytes (at_sent + (j - 1)) v) (at_sent + i) 0)) in
          get_d-tab 0 32 (λ i. get_or (set s.bytes (at_sent + (j - 1)) v) (at_sent + i) 0) k n
          ∙ same_or_not k (j - 1)
          (λ e. ap (λ (u : ℕ). get_or (set s.bytes (at_sent + (j - 1)) v) (at_sent + u) 0) e
          ∙ get_or-set_same s.bytes (at_sent + (j - 1)) v 0 (omega arith)
          ∙ sym (ap (λ (u : ℕ). get_or (set l (j - 1) (get_or l (j - 1) 0 + 1)) u 0) e
          ∙ get_or-set_same l (j - 1) _ 0 (omega (arith, length-tab 32 (λ (i : ℕ). get_or s.bytes (at_sent + i) 0))) ∙ z))
          (λ e. get_or-set_other s.bytes (at_sent + (j - 1)) (at_sent + k) v 0 (λ f. e (omega (arith, f)))
          ∙ sym (get_or-set_other l (j - 1) k _ 0 e ∙ get_d-tab 0 32 (λ i. get_or s.bytes (at_sent + i) 0) k n)))
