use mathlib.Core.List.{List, ◌∷◌, ◌++◌, append-nil}
use mathlib.Core.Path.{◌≡◌, ap, ◌∙◌}
use Prim.Native.Nat.{◌%◌}
use Prim.Native.Nat.{ℕ}
use Rattle.lists.specs.Bytes.{bytes32}
use Rattle.wire.specs.Layout.{packet_bytes}
use Rattle.wire.proofs.bytes_of.Goals as goal

pub returns : goal.returns
unfolding packet_bytes
returns c =
    let p = c.args.p in
    let low : c.copy_from_slice.new.self ≡ bytes32 p.lowest = c.copy_from_slice.ensures.after ∙ c.word_bytes.ensures in
    let high : c.copy_from_slice-2.new.self ≡ bytes32 p.highest = c.copy_from_slice-2.ensures.after ∙ c.word_bytes-2.ensures in
    let flags : c.copy_from_slice-3.new.self ≡ bytes32 p.flags = c.copy_from_slice-3.ensures.after ∙ c.word_bytes-3.ensures in
    let requests : c.copy_from_slice-4.new.self ≡ p.requests = c.copy_from_slice-4.ensures.after in
    rw (low, high, flags, requests)
    (ap (λ (t : List ℕ). (p.sender % 256) ∷ (bytes32 p.lowest ++ (bytes32 p.highest ++ (bytes32 p.flags ++ t)))) (append-nil p.requests))
