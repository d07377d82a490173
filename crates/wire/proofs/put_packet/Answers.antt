use Rattle.lists.specs.Bytes.{written}
use Rattle.wire.specs.Layout.{packet_size, packet_bytes}
use Rattle.words.proofs.Tests.{hit, skip}
use Rattle.lists.proofs.Laws.{part-written}
use lib.ListN.{length, take, drop, length-drop}
use lib.Seq.{length-take-le}
use borrow.Author.Tests.{eq-eqb, le-leb, lt-leb}
use borrow.Rule.Slice.PartMut.{put_mid}
use mathlib.Core.Path.{◌≡◌, refl, sym, ap, ◌∙◌}
use Prim.Native.Nat.{ℕ, ◌≤◌, ◌<◌, ◌-◌, ◌+◌, ◌*◌}
use native.Mathlib.Omega.{arith}
use borrow.Author.Rules.{rules}
use Rattle.wire.proofs.put_packet.Goals as goal

pub returns-then-area-e : goal.returns-then-area-e
returns-then-area-e c =
    let h : length c.args.area.now < packet_size * c.args.index + packet_size = omega
    arith in record {
      value = sym (lt-leb _ _ h);
      area_after = sym (skip _ _ _ _ (lt-leb _ _ h) refl);
    }

pub returns : goal.returns
unfolding packet_bytes
returns c =
    let l = c.args.area.now in
    let p = c.args.p in
    let a = c.part_start-a.result in
    let s = c.part_start-a.ensures in
    let r : length p.requests ≡ 32 = search rules in
    let k : length (packet_bytes p) ≡ a + packet_size - a = omega arith in
    let h : packet_size * c.args.index + packet_size ≤ length l = omega arith in
    let d : length (drop a l) ≡ length l - a = length-drop a l in
    let e : length (take (a + packet_size - a) (drop a l)) ≡ packet_size = length-take-le (a + packet_size - a) (drop a l) (omega arith)
    ∙ omega arith in record {
      value = c.write_packet.ensures.value ∙ eq-eqb _ _ e ∙ sym (le-leb _ _ h);
      area_after = ap (put_mid a (a + packet_size - a) l) (c.write_packet.ensures.part_after ∙ hit _ _ _ (eq-eqb _ _ e))
          ∙ part-written l (packet_bytes p) a (a + packet_size) (omega arith) k ∙ ap (λ (x : ℕ). written l x (packet_bytes p)) s
          ∙ sym (hit _ _ _ (le-leb _ _ h));
    }
