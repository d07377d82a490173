-- What happens as an epoch begins (at loading, and at the epoch's last end), and the plain numbers of a beginning.
-- Assumes nothing.
use Rattle.std.specs.Prelude.{false, cond, ◌&&◌, ℕ, ltb, leb, replicate}
use Rattle.allotment.specs.Allotment.{top_request, free}
use Rattle.allotment.specs.Model.{Schedule}
use Rattle.node.specs.Figures.{config_ok, is_node, flags_ok}
use Rattle.node.specs.Negotiation.{opened}
use Rattle.node.specs.Close.{lapsed}
use Rattle.node.specs.declared.Setup.{Setup}
use Rattle.node.specs.Model.{Epoch}
use Rattle.node.specs.Model.{Node}
use Rattle.node.specs.declared.Phase.TheVariants.{Waiting, Negotiation}
use Rattle.node.specs.Answers.{Answer}
use Rattle.node.specs.Answers.{Done, OutOfRange, NoSuchNode}

-- an epoch of which nothing has been but its place: C_e and I_e are empty, no mark
abbrev pub empty_epoch : ℕ → Epoch
empty_epoch f = record { counters = replicate 32 0; interactions = 0; place = f; updated = false; determined = free }

-- a node as an epoch begins, with its version, schedule, demand, request and flags, in the first round's negotiation
unfoldable pub begun : Setup → ℕ → Schedule → ℕ → ℕ → ℕ → Node
begun s v schedule demand request flags =
    record {
      setup = s;
      version = v;
      schedule = schedule;
      demand = demand;
      request = request;
      flags = flags;
      round = opened s.node v flags request;
      epoch = empty_epoch 0;
      phase = Negotiation;
    }

-- a starting node: all slots are free, the request is the demand
abbrev pub starting : Setup → ℕ → ℕ → ℕ → Node
starting s v flags demand = begun s v free demand demand flags

-- a restarted node waits until the epoch is over (the specification's own rule, 3.5) at place f, with the flags that its restart gave
unfoldable pub waiting : Setup → ℕ → ℕ → ℕ → Node
waiting s flags f demand =
    record {
      setup = s;
      version = 0;
      schedule = free;
      demand = demand;
      request = 0;
      flags = flags;
      round = lapsed;
      epoch = empty_epoch f;
      phase = Waiting;
    }

-- 2 on N, K, F, heard, split, version 0 or 1, demand, flags; then 3 on the node
unfoldable pub start_answer : Setup → ℕ → ℕ → ℕ → Answer
start_answer s v flags demand = cond (config_ok s.config && (leb v 1 && (leb demand top_request && flags_ok s flags)))
    (cond (is_node s) Done NoSuchNode) OutOfRange

-- 2 on N, K, F, heard, split, flags, place; then 3 on the node
unfoldable pub restart_answer : Setup → ℕ → ℕ → Answer
restart_answer s flags f = cond (config_ok s.config && (ltb f s.config.rounds && flags_ok s flags))
    (cond (is_node s) Done NoSuchNode) OutOfRange
