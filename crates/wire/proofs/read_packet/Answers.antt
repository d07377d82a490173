use mathlib.Core.Bool.{Bool, cond}
use mathlib.Core.List.{List}
use mathlib.Core.Path.{◌≡◌, sym, ap, ap₂, ◌∙◌}
use Prim.Native.Nat.{ℕ}
use borrow.Author.Tests.{eq-eqb, ne_eqb}
use lib.ListN.{length}
use Rattle.node.specs.declared.Packet.{Packet}
use Rattle.node.specs.Answers.{Done, BadContents, answered}
use Rattle.wire.specs.Layout.{packet_size, packet_in}
use Rattle.wire.specs.Reads.{read_answer, packet_ok, packet_answer, packet_read}
use Rattle.wire.proofs.read_packet.Goals as goal

-- bytes of the right length are judged by their contents
judged : (N : ℕ) {l b : List ℕ} {p : Packet} {t : Bool} → length l ≡ packet_size → b ≡ l → p ≡ packet_in b → t ≡ packet_ok N p
    → answered (cond t Done BadContents) p ≡ packet_read N l
unfolding packet_answer
judged N {l} {b} {p} {t} h s e k =
    let f : p ≡ packet_in l = e ∙ ap packet_in s in
    ap₂ (λ (x : Bool) (q : Packet). answered (cond x Done BadContents) q) (k ∙ ap (packet_ok N) f) f
    ∙ sym (ap (λ (x : Bool). answered (read_answer x (packet_ok N (packet_in l))) (packet_in l)) (eq-eqb (length l) packet_size h))

pub returns-in_default : goal.returns-in_default
unfolding packet_answer
returns-in_default c =
    let l = c.args.s.now in
    sym (ap (λ (x : Bool). answered (read_answer x (packet_ok c.args.n (packet_in l))) (packet_in l))
    (ne_eqb (length l) packet_size c.in_default.ensures.cases))

pub returns-then-not-packet_ok : goal.returns-then-not-packet_ok
returns-then-not-packet_ok c =
    let chunk = c.in-Some.ensures.cases in
    sym (ap (λ (x : Bool). answered (cond x Done BadContents) c.whole_packet-packet.result) c.if-not-packet_ok.true)
    ∙ judged c.args.n chunk.long chunk.same c.whole_packet-packet.ensures c.packet_ok.ensures

pub returns : goal.returns
returns c =
    let chunk = c.in-Some.ensures.cases in
    sym (ap (λ (x : Bool). answered (cond x Done BadContents) c.whole_packet-packet.result) c.if-not-packet_ok.false)
    ∙ judged c.args.n chunk.long chunk.same c.whole_packet-packet.ensures c.packet_ok.ensures
