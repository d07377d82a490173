use Rattle.node.specs.Model.{Node}
use Rattle.site.specs.Members.{setup_of}
use Rattle.machine.specs.Layout.{store, node_in}
use Prim.Native.Nat.{◌+◌}
use Rattle.machine.proofs.layout.Lent.core_with.Goals as goal

pub returns : goal.returns
unfolding node_in
returns c =
    let a = c.args in
    let n : Node = node_in (store a.self.words.now a.self.bytes.now) a.i in
    λ k. record {
      setup = setup_of (c.requires.1 k) (a.i + 1);
      version = n.version;
      demand = n.demand;
      request = n.request;
      flags = n.flags;
      round = record {
        merged = n.round.merged;
        known = c.short_at-known.ensures k;
        lowest = n.round.lowest;
        highest = n.round.highest;
        heard = n.round.heard;
      };
      counters = c.short_at-counters.ensures k;
      interactions = n.epoch.interactions;
      place = n.epoch.place;
      updated = n.epoch.updated;
      phase = c.phase_of.ensures k;
    }
