-- The packet goes into its part, and one count grows by one: it is below 8, so it fits a byte.
use mathlib.Core.Path.{ap, ◌∙◌}
use Prim.Native.Nat.{ℕ, ◌<◌, ◌+◌}
use native.Mathlib.Omega.{arith}
use lib.ListN.{set, get_or}
use Rattle.site.specs.Steps.{stored}
use Rattle.site.specs.declared.Event.TheVariants.{Send}
use Rattle.site.proofs.Accepted.{send-accepted}
use Rattle.machine.specs.Layout.{store, config_in, site_in, at_sent}
use Rattle.machine.proofs.Seats.{at-node-index, in-config}
use Rattle.machine.specs.steps.After.{sent_store}
use Rattle.machine.proofs.steps.Acts.{sent-at, sent-packet, packet-there}
use Rattle.machine.proofs.steps.Whole.{told-long}
use Rattle.machine.proofs.events.send_into.Goals as goal

pub bounds-bytes-i : goal.bounds-bytes-i
bounds-bytes-i c =
    let a = c.args in
    let p = told-long (store a.words.now a.bytes.now) a.area.now (Send a.j) c.requires in
    omega (arith, c.node_index-i.ensures.within, p.1.0)

pub bounds-bytes-i-2 : goal.bounds-bytes-i-2
bounds-bytes-i-2 c =
    let a = c.args in
    let p = told-long (store a.words.now a.bytes.now) a.area.now (Send a.j) c.requires in
    omega (arith, c.node_index-i.ensures.within, p.1.0)

pub overflow_add-bytes : goal.overflow_add-bytes
overflow_add-bytes c =
    let a = c.args in
    let s = store a.words.now a.bytes.now in
    let q = send-accepted (site_in s) a.j (told-long s a.area.now (Send a.j) c.requires).1.1 in
    let o = in-config s a.j q.0.node in
    let e = at-node-index (config_in s) a.j c.node_index-i.ensures.value o in
    let k : get_or a.bytes.now (at_sent + c.node_index-i.result) 0 < 8 = rw (e, ← sent-at s a.j o) q.1 in
    omega arith

pub returns : goal.returns
unfolding sent_store
returns c =
    let a = c.args in
    let s = store a.words.now a.bytes.now in
    let p = told-long s a.area.now (Send a.j) c.requires in
    let o = in-config s a.j (send-accepted (site_in s) a.j p.1.1).0.node in
    let e = at-node-index (config_in s) a.j c.node_index-i.ensures.value o in
    let q = c.packet.ensures ∙ sent-packet s p.0 p.1.0 a.j o ∙ packet-there s a.j o in record {
      bytes_after = ap (λ (x : ℕ). set a.bytes.now (at_sent + x) (get_or a.bytes.now (at_sent + x) 0 + 1)) e;
      area_after = c.put_packet.ensures.area_after ∙ ap (stored a.area.now a.at) q;
    }
