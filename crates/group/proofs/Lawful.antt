-- What is known of a site that calls lead to, from demand 3's invariant: its counts, that no packet outlives the negotiation, and that a
-- live node's packet has its 45 bytes.
-- Assumes nothing.
use mathlib.Core.Path.{◌≡◌, sym, ap, ◌∙◌, subst}
use mathlib.Core.Bool.{true, false}
use mathlib.Core.List.{List}
use Prim.Native.Nat.{ℕ, ◌-◌, ◌<◌}
use lib.ListN.{length}
use Rattle.node.specs.Negotiation.{packet_of}
use Rattle.node.specs.Answers.{Done}
use Rattle.node.specs.declared.Packet.{Packet}
use Rattle.range.proofs.Laws.{packet-long}
use Rattle.site.specs.Counts.{packets}
use Rattle.site.specs.Members.{member_at, is_live}
use Rattle.node.specs.declared.Config.{Config}
use Rattle.site.specs.declared.Table.{Table}
use Rattle.site.specs.Model.{Site}
use Rattle.site.proofs.Counts.{Counts}
use Rattle.site.proofs.Accepted.{Acts}
use Rattle.histories.proofs.Members.{live-up}
use Rattle.histories.proofs.Sound.{Sound, below-32}
use Rattle.histories.proofs.Always.{always}
use Rattle.windows.specs.declared.Window.{Window}
use Rattle.machine.specs.timed.Timed.{given_table, timed_load_answer}
use Rattle.machine.specs.timed.Calls.{Call}
use Rattle.agreement.specs.daily.Daily.{events_of_all, begin_by, final_by}
use Rattle.agreement.proofs.daily.Theorem.{daily}

pub record Lawful (s : Site) : Type 0 where
  pub counters : Counts s.sent
  pub quiet : s.negotiates ≡ false → packets s.sent ≡ 0
  pub site_slot : (j : ℕ) → Acts s j → j - 1 < 32
  pub long : (j : ℕ) → is_live (member_at s j) ≡ true → length (packet_of (member_at s j).node).requests ≡ 32

lawful-of : (s : Site) (area : List ℕ) (air : List Packet) → Sound s area air → Lawful s
lawful-of s area air h =
    record {
      counters = h.counters;
      quiet = λ e. sym h.count ∙ ap length (h.quiet e);
      site_slot = λ j a. below-32 s j h a;
      long = λ j l. packet-long (member_at s j).node ((h.each (j - 1)).up (live-up (member_at s j) l)).long;
    }

pub lawful : (f : Config) (t : Table) (D : ℕ) (ws : List Window) → timed_load_answer f t D ws ≡ Done → (own : List ℕ) (cs : List Call)
    → Lawful (final_by f t D ws own cs)
lawful f t D ws h own cs =
    let p = daily.plain f t D ws h own cs in
    let k = always f (given_table ws t) p.loads own (events_of_all (begin_by f t D ws own) cs) in
    subst Lawful (sym p.site) (lawful-of _ _ k.air k.sound)
