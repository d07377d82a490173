-- What an end leaves, whichever of the four it is: an opened round, unless the node waits on; and of an epoch's last end the version, the
-- schedule and the flags.
-- Assumes nothing.
use mathlib.Core.Path.{◌≡◌, refl, sym, ap, ◌∙◌, subst}
use mathlib.Core.Bool.{Bool, true, false, not, cond, ◌&&◌}
use Rattle.words.proofs.Tests.{clash, hit, skip}
use Rattle.membership.specs.counters.Counters.{members_of}
use Rattle.allotment.specs.Allotment.{free}
use Rattle.node.specs.Figures.{is_last, is_waiting}
use Rattle.node.specs.Begin.{begun}
use Rattle.node.specs.End.{expires, next_round, next_epoch, ended_node}
use Rattle.node.specs.Model.{Node}
use Rattle.node.specs.declared.Phase.TheVariants.{Waiting, Negotiation}
use Rattle.node.proofs.Made.{JustOpened, just-opened}
use Rattle.node.proofs.Laws.{end-next-round, end-next-epoch, end-rejoined, end-begun, end-phase}

module _ (n : Node) where
  -- who waited waits on until the epoch's last end
  pub end-asleep : is_waiting n.phase ≡ true → is_last n.setup.config n.epoch.place ≡ false → is_waiting (ended_node n).phase ≡ true
  end-asleep w l = ap is_waiting (end-phase n) ∙ ap is_waiting (hit _ Waiting Negotiation (ap₂-and w l))
    where
      ap₂-and : is_waiting n.phase ≡ true → is_last n.setup.config n.epoch.place ≡ false
          → (is_waiting n.phase && not (is_last n.setup.config n.epoch.place)) ≡ true
      ap₂-and w l = ap (λ (b : Bool). b && not (is_last n.setup.config n.epoch.place)) w ∙ ap not l

  -- who didn't wait is in negotiation
  pub end-talks : is_waiting n.phase ≡ false → (ended_node n).phase ≡ Negotiation
  end-talks w = end-phase n ∙ ap (λ (b : Bool). cond (b && not (is_last n.setup.config n.epoch.place)) Waiting Negotiation) w

  -- the round that follows is just opened
  next-opened : is_waiting n.phase ≡ false → is_last n.setup.config n.epoch.place ≡ false → JustOpened (ended_node n)
  unfolding next_round
  next-opened w l = subst JustOpened (sym (end-next-round n w l)) (just-opened (next_round n) refl)

  pub end-opened : is_waiting (ended_node n).phase ≡ false → JustOpened (ended_node n)
  end-opened a = go (is_last n.setup.config n.epoch.place) refl (is_waiting n.phase) refl
    where
      go : (l : Bool) → is_last n.setup.config n.epoch.place ≡ l → (w : Bool) → is_waiting n.phase ≡ w → JustOpened (ended_node n)
      go true l w x = just-opened (ended_node n) (end-begun n l).round
      go false l true w = clash (is_waiting (ended_node n).phase) (end-asleep w l) a
      go false l false w = next-opened w l

  module _ (l : is_last n.setup.config n.epoch.place ≡ true) where
    -- a waiting node begins at version 0
    pub end-rejoins : is_waiting n.phase ≡ true → ((ended_node n).version ≡ 0) × ((ended_node n).schedule ≡ free)
    unfolding begun
    end-rejoins w = let e = end-rejoined n w l in (ap (λ (m : Node). m.version) e, ap (λ (m : Node). m.schedule) e)

    module _ (w : is_waiting n.phase ≡ false) where
      next-version : (ended_node n).version ≡ cond (expires n) 0 n.version
      unfolding next_epoch begun
      next-version = ap (λ (m : Node). m.version) (end-next-epoch n w l)

      next-schedule : (ended_node n).schedule ≡ cond (expires n) free n.schedule
      unfolding next_epoch begun
      next-schedule = ap (λ (m : Node). m.schedule) (end-next-epoch n w l)

      -- and so does one that expires
      pub end-expires : expires n ≡ true → ((ended_node n).version ≡ 0) × ((ended_node n).schedule ≡ free)
      end-expires e = (next-version ∙ hit (expires n) _ _ e, next-schedule ∙ hit (expires n) _ _ e)

      -- any other goes on as it was
      pub end-keeps : expires n ≡ false → ((ended_node n).version ≡ n.version) × ((ended_node n).schedule ≡ n.schedule)
      end-keeps e = (next-version ∙ skip (expires n) _ _ _ e refl, next-schedule ∙ skip (expires n) _ _ _ e refl)

      -- its flags are those whom it heard often enough
      pub end-flags : (ended_node n).flags ≡ members_of n.epoch.counters n.setup.node n.setup.config.min_heard
      unfolding next_epoch begun
      end-flags = ap (λ (m : Node). m.flags) (end-next-epoch n w l)
