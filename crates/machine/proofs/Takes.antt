-- A take in storage is the site's.
-- Assumes nothing.
use mathlib.Core.Path.{◌≡◌, sym, ap, ◌∙◌}
use Prim.Native.Nat.{ℕ, ◌+◌, ◌≤◌, ◌<◌}
use native.Mathlib.Omega.{arith}
use lib.Dec.{eqb}
use lib.ListN.{length, set}
use Rattle.lists.proofs.Places.{apart-then}
use Rattle.allotment.specs.Allotment.{owners_of}
use Rattle.allotment.specs.Model.{Schedule}
use Rattle.node.specs.Core.{core_of, moved_by, core_taken, take_move_by}
use Rattle.node.specs.Distribution.{sent_by}
use Rattle.node.specs.declared.Move.{Move}
use Rattle.node.proofs.Cores.{take-moved, take-change}
use Rattle.node.proofs.Laws.{takes}
use Rattle.node.proofs.Made.{carries}
use Rattle.range.proofs.Lengths.{Lengths, long-take}
use Rattle.masks.specs.Bytes.{masks_size}
use Rattle.site.specs.Members.{setup_of}
use Rattle.site.specs.Steps.{taken_member}
use Rattle.site.specs.Model.{Member}
use Rattle.machine.specs.Layout.{Store, words_size, bytes_size, schedules_at, node_in, stored_in, config_in, site_in}
use Rattle.machine.specs.Written.{handed_on, taken_at}
use Rattle.machine.proofs.Back.{moved-stored, words-apart, full-apart}
use Rattle.machine.proofs.Laws.{apart-within, setup-there, site-put}
use Rattle.machine.proofs.Moves.{handed-apart, handed-node}
use Rattle.machine.proofs.Tail.{long-stored}

module _ (s : Store) (i h : ℕ) (a : i < 32) (g : h < 32) (f : i < (config_in s).nodes) (w : words_size ≤ length s.words)
    (b : bytes_size ≤ length s.bytes) where
  abbrev m : Member
  m = taken_member (stored_in s i) (stored_in s h)

  abbrev v : Move
  v = take_move_by (eqb (node_in s i).version (node_in s h).version)

  abbrev t : Store
  t = handed_on s i h

  long : Lengths m.node
  long = long-take (node_in s i) (sent_by (node_in s h)) (long-stored s i)
      (ap (λ (x : Schedule). length (owners_of x)) (carries (node_in s h)).schedule ∙ (long-stored s h).schedule)

  fits : bytes_size ≤ length t.bytes
  fits = omega (arith, b, (handed-apart s i h a g b).long)

  own : m.node.setup ≡ setup_of (config_in t) (i + 1)
  own = (takes (node_in s i) (sent_by (node_in s h))).setup ∙ setup-there s i

  -- the take is what the move makes of the node with the sender's schedule
  moves : moved_by (node_in t i) (core_of m.node) v ≡ m.node
  moves =
      let n = node_in s i in
      let q = sent_by (node_in s h) in
      let version : (node_in s h).version ≡ q.version = sym (carries (node_in s h)).version in
      let change : v ≡ (core_taken (core_of n) q.version).change = ap (λ (x : ℕ). take_move_by (eqb n.version x)) version
      ∙ sym (take-change (core_of n) q.version) in
      let core : core_of m.node ≡ (core_taken (core_of n) q.version).core = sym (ap core_of (take-moved n q)) in
      (λ x. moved_by (handed-node s i h a g b x) (core x) (change x)) ∙ take-moved n q

  pub taken-stored : site_in (taken_at s i h)
      ≡ record {
        config = (site_in s).config;
        negotiates = (site_in s).negotiates;
        place = (site_in s).place;
        sent = (site_in s).sent;
        members = set (site_in s).members i m;
      }
  unfolding taken_at
  taken-stored =
      site-put {s = s} {t = taken_at s i h} i
      (words-apart m long t i a w fits)
      (apart-then (apart-within (schedules_at i) masks_size (omega arith) (omega arith) (handed-apart s i h a g b))
      (full-apart m long t i a w fits v))
      a m f (moved-stored m long t i a w fits v own moves)
