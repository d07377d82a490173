-- The day behind the words of the storage: the site is not moved by it, and it is read back.
-- Assumes nothing.
use mathlib.Core.Path.{◌≡◌, ap, ◌∙◌}
use mathlib.Core.List.{List}
use Prim.Native.Nat.{ℕ, ◌+◌, ◌≤◌, ◌<◌}
use native.Mathlib.Omega.{arith}
use lib.Dec.{eqb}
use lib.ListN.{length, get_or, set, length-set}
use lib.Seq.{get_or-set_same, get_or-set_other, set-get_or}
use Rattle.lists.specs.Bytes.{window}
use Rattle.machine.specs.Layout.{Store, words_size, row_size, at_config, at_place, at_sent, at_phase, config_in, site_in}
use Rattle.lists.proofs.Places.{Apart, apart_none, apart-set, apart-then}
use Rattle.machine.proofs.Tail.{tail-members}
use Rattle.machine.specs.timed.Stored.{timed_in}
use Rattle.machine.specs.declared.Day.{Day}
use Rattle.tally.specs.declared.Tally.{Tally}
use Rattle.machine.specs.combined.Stored.{kept_in}
use Rattle.sites.specs.one.Memory.{at_day, at_epoch, memory_size, day_in, day_put, with_day, timed_of, kept_of}

-- the day that stands there, written again, changes nothing
pub same-day : (s : Store) → with_day s (day_in s.words) ≡ s
same-day s =
    let w = s.words in
    let q : day_put w (day_in w) ≡ w = ap (λ (v : List ℕ). set v at_epoch (get_or w at_epoch 0)) (set-get_or w at_day 0) ∙ set-get_or w at_epoch 0 in
    λ i. record { words = q i; bytes = s.bytes }

module _ (s : Store) (d : Day) where
  abbrev moved : List ℕ
  moved = day_put s.words d

  below : (k : ℕ) → k < words_size → get_or moved k 0 ≡ get_or s.words k 0
  below k h = get_or-set_other (set s.words at_day d.length) at_epoch k d.epoch 0 (λ e. absurd (omega (arith, e, h)))
      ∙ get_or-set_other s.words at_day k d.length 0 (λ e. absurd (omega (arith, e, h)))

  apart : Apart s.words moved at_config row_size
  apart = apart-then (apart-set s.words at_day d.length at_config row_size (omega arith) (omega arith))
      (apart-set (set s.words at_day d.length) at_epoch d.epoch at_config row_size (omega arith) (omega arith))

  config-stay : config_in (with_day s d) ≡ config_in s
  config-stay =
      λ i. record {
        nodes = below at_config (omega arith) i;
        slots = below (at_config + 1) (omega arith) i;
        rounds = below (at_config + 2) (omega arith) i;
        min_heard = below (at_config + 3) (omega arith) i;
        split = below (at_config + 4) (omega arith) i;
      }

  site-stays : site_in (with_day s d) ≡ site_in s
  unfolding site_in
  site-stays =
      let m = tail-members s (with_day s d) apart (apart_none s.bytes at_sent _) config-stay in
      λ i. record {
        config = config-stay i;
        negotiates = eqb (get_or s.bytes at_phase 0) 1;
        place = below at_place (omega arith) i;
        sent = window 32 s.bytes at_sent;
        members = m i;
      }

  module _ (h : memory_size ≤ length s.words) where
    day-back : day_in moved ≡ d
    day-back =
        let one : get_or moved at_day 0 ≡ d.length =
        get_or-set_other (set s.words at_day d.length) at_epoch at_day d.epoch 0 (λ e. absurd (omega (arith, e)))
        ∙ get_or-set_same s.words at_day d.length 0 (omega (arith, h)) in
        let two : get_or moved at_epoch 0 ≡ d.epoch =
        get_or-set_same (set s.words at_day d.length) at_epoch d.epoch 0
        (omega (arith, h, length-set s.words at_day d.length)) in
        λ i. record { length = one i; epoch = two i }

    pub timed-day : timed_of (with_day s d) ≡ timed_in s d
    timed-day = λ i. record { site = site-stays i; day = day-back i }

    pub kept-day : (x : List ℕ) (t : Tally) → kept_of (with_day s d) x t ≡ kept_in s d x t
    kept-day x t = λ i. record { timed = timed-day i; area = x; tally = t }
