use Rattle.std.proofs.Common.{◌≡◌}
use Rattle.words.specs.Bits.{word_of}
use Rattle.membership.specs.requests.Requests.{has_request}
use Rattle.membership.proofs.requests.requesters.Given as goal

abbrev pub invariant-loop-i : goal.invariant-loop-i
invariant-loop-i l = l.w ≡ word_of l.i (has_request l.fn.l)
