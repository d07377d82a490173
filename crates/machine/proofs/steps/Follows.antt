-- The site that storage stands for follows the site's own steps.
-- Assumes nothing.
use mathlib.Core.Path.{◌≡◌, refl, sym, ap, ◌∙◌}
use mathlib.Core.Bool.{Bool, true, false, cond}
use mathlib.Core.List.{List}
use Prim.Native.Nat.{ℕ, ◌≤◌}
use lib.ListN.{length}
use Rattle.words.proofs.Tests.{hit, skip}
use Rattle.node.specs.Answers.{Answer, Done, is_done}
use Rattle.node.proofs.Answers.{done-is}
use Rattle.site.specs.Answers.{event_answer, answer_of}
use Rattle.site.specs.Steps.{next_site, site_after}
use Rattle.site.specs.declared.Event.{Event}
use Rattle.site.specs.declared.Event.TheVariants.{Send, Hear, Close, Take, End, Want, Crash, Restart}
use Rattle.site.proofs.Accepted.{answered, send-accepted, hear-accepted, take-accepted, want-accepted, crash-accepted, restart-accepted}
use Rattle.machine.specs.Layout.{Store, words_size, bytes_size, too_short, site_in}
use Rattle.machine.specs.steps.After.{wanted_store, next_store, storage_answer, store_after, site_with}
use Rattle.machine.proofs.Whole.{long-enough}
use Rattle.machine.proofs.Seats.{in-config}
use Rattle.machine.proofs.steps.Sites.{heard-site, taken-site, crashed-site, restarted-site, wanted-site, wanted-long, sent-site}
use Rattle.machine.proofs.Rounds.{closed-site, ended-site}

module _ (s : Store) (w : words_size ≤ length s.words) (b : bytes_size ≤ length s.bytes) (l : List ℕ) where
  next-site : (e : Event) → event_answer (site_in s) l e ≡ Done → site_in (next_store s l e) ≡ next_site (site_in s) l e
  next-site (Send j) h = sent-site s w b j (in-config s j (send-accepted (site_in s) j h).0.node)
  next-site (Hear j p) h = heard-site s w b j (in-config s j (hear-accepted (site_in s) l j p h).acts.node) l p
  next-site Close h = closed-site s w b
  next-site (Take j g) h = let q = take-accepted (site_in s) j g h
      in taken-site s w b j (in-config s j q.taker) g (in-config s g q.sender)
  next-site End h = ended-site s w b
  next-site (Want j d) h = wanted-site s w b j (in-config s j (want-accepted (site_in s) j d h).0.node) d
  next-site (Crash j) h = crashed-site s w b j (in-config s j (crash-accepted (site_in s) j h).node)
  next-site (Restart j flags) h = restarted-site s w b j (in-config s j (restart-accepted (site_in s) j flags h).node) flags

module _ (s : Store) (l : List ℕ) (e : Event) where
  go_on : (t : Bool) → too_short s ≡ false → is_done (answer_of (site_in s) l e) ≡ t → site_in (cond t (next_store s l e) s)
      ≡ cond t (next_site (site_in s) l e) (site_in s)
  go_on true h d = let q = long-enough s h in next-site s q.0 q.1 l e (answered (site_in s) l e (done-is _ d)).1
  go_on false h d = refl

  -- a step in storage is a step of its site
  pub follows : site_in (store_after s l e) ≡ site_with s l e
  unfolding store_after site_with storage_answer site_after
  follows = go (too_short s) refl
    where
      go : (t : Bool) → too_short s ≡ t → site_in (store_after s l e) ≡ site_with s l e
      go true h =
          ap (λ (a : Answer). site_in (cond (is_done a) (next_store s l e) s)) (hit _ _ _ h) ∙ sym (hit _ _ _ h)
      go false h =
          ap (λ (a : Answer). site_in (cond (is_done a) (next_store s l e) s)) (skip _ _ _ _ h refl)
          ∙ go_on (is_done (answer_of (site_in s) l e)) h refl
          ∙ sym (skip _ _ _ _ h refl)

-- a want keeps storage long enough
pub want-long : (s : Store) (l : List ℕ) (j d : ℕ) → words_size ≤ length s.words → bytes_size ≤ length s.bytes
    → (words_size ≤ length (store_after s l (Want j d)).words) × (bytes_size ≤ length (store_after s l (Want j d)).bytes)
unfolding store_after
want-long s l j d w b = go (is_done (storage_answer s l (Want j d)))
  where
    go : (t : Bool) → (words_size ≤ length (cond t (wanted_store s j d) s).words)
        × (bytes_size ≤ length (cond t (wanted_store s j d) s).bytes)
    go true = wanted-long s w b j d
    go false = (w, b)
