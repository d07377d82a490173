-- The law of specs/Counted.antt, from what every event keeps.
-- Assumes nothing.
use mathlib.Core.Path.{◌≡◌, ap, ◌∙◌}
use mathlib.Core.Bool.{true}
use Prim.Native.Nat.{ℕ, ◌-◌}
use Rattle.words.proofs.Tests.{hit}
use Rattle.node.specs.Answers.{is_done}
use Rattle.node.specs.Answers.{Done}
use Rattle.wire.specs.Reads.{has_part}
use Rattle.site.specs.Counts.{packets}
use Rattle.site.specs.Answers.{answer_of}
use Rattle.site.specs.Steps.{area_after}
use Rattle.site.specs.Run.{RunState}
use Rattle.node.specs.declared.Config.{Config}
use Rattle.site.specs.declared.Event.TheVariants.{Send}
use Rattle.site.proofs.Accepted.{answered, send-accepted}
use Rattle.site.proofs.Counts.{packets-most, area-placed}
use Rattle.histories.specs.Past.{Past}
use Rattle.histories.specs.Counted.{Lies, Room, Counted}
use Rattle.histories.proofs.Sound.{send-room}
use Rattle.histories.proofs.Always.{Kept, always}

module _ {f : Config} {past : Past} (w : RunState) (h : Kept f past w.site w.area) where
  lies : (j : ℕ) → answer_of w.site w.area (Send j) ≡ Done → Lies w j
  unfolding area_after
  lies j d =
      let a = answered w.site w.area (Send j) d in
      let b = send-accepted w.site j a.1 in
      let r : has_part w.area (packets w.site.sent) ≡ true = send-room j h.sound b.0 b.1 a.0 in
      record {
        part = r;
        area = hit (is_done (answer_of w.site w.area (Send j))) _ _ (ap is_done d) ∙ area-placed w.site w.area j r;
      }

  room : Room w
  room = record { each = λ j. h.sound.counters.most (j - 1); all = packets-most w.site.sent h.sound.counters; lies = lies }

pub counted : Counted
counted = record { room = λ f t d area es. room _ (always f t d area es) }
