-- A round's start: who was live, with which flags, version and request; and what a node has gathered in a round that was just opened.
-- Assumes nothing.
use mathlib.Core.Path.{◌≡◌, sym, ap, ◌∙◌}
use mathlib.Core.Bool.{true}
use Prim.Native.Nat.{ℕ, suc, ◌-◌, ◌^◌, ◌≤◌, ◌<◌}
use native.Mathlib.Omega.{arith}
use Rattle.allotment.specs.Allotment.{top_request}
use Rattle.membership.specs.requests.Requests.{only}
use Rattle.node.specs.Model.{Node}
use Rattle.node.proofs.Made.{JustOpened}
use Rattle.site.specs.Members.{is_live}
use Rattle.site.specs.Model.{Site}
use Rattle.histories.proofs.Sets.{In}
use Rattle.histories.proofs.Views.{View, view_of, only-known, known_only, tidy-only, Start, Good}
use Rattle.histories.proofs.Members.{member}

-- the round's start, from flags and the site at that point
abbrev pub start_of : (ℕ → ℕ) → Site → Start
start_of M b = record {
  M = M;
  was = λ k. is_live (member b k) ≡ true;
  ver = λ k. (member b k).node.version;
  req = λ k. (member b k).node.request;
}

-- flags that each live node has at that point. Of the others nothing is asked, so the flags of a whole epoch will do
pub record Flagged (M : ℕ → ℕ) (b : Site) : Type 0 where
  pub at : (k : ℕ) → is_live (member b k) ≡ true → (member b k).node.flags ≡ M k

-- the view of a node at a round's start
abbrev first-view : ℕ → ℕ → ℕ → ℕ → View
first-view i v m r = record { who = i; m = m; R = only (suc i) r; lo = v; hi = v }

first_good : (N : ℕ) (M : ℕ → ℕ) (b : Site) (i v m r : ℕ) → i < 32 → r ≤ top_request → m < 2 ^ N → m ≡ M i → In m i
    → (member b i).node.version ≡ v → (member b i).node.request ≡ r → is_live (member b i) ≡ true → Good N (start_of M b) (first-view i v m r)
first_good N M b i v m r hi hr hm e o p q l = record {
  fits = hm;
  tidy = tidy-only i r hr;
  mine = (r, only-known i r hi hr);
  req = λ h. let z = known_only i r _ _ h in z.1 ∙ sym q ∙ ap (λ (k : ℕ). (member b k).node.request) (sym z.0);
  was = λ h. let z = known_only i r _ _ h in rw z.0 l;
  inm = λ h. let z = known_only i r _ _ h in rw z.0 o;
  next = λ h y. let z = known_only i r _ _ h in rw e (rw z.0 at y);
  reach = λ C h y. C.out i _ h (rw e at y);
  conn = λ C h k y. let z = known_only i r _ _ h in let t = known_only i r _ _ k in rw t.0 (rw z.0 at y);
  lo-le = λ h. let z = known_only i r _ _ h in rw z.0 (omega (arith, p));
  hi-ge = λ h. let z = known_only i r _ _ h in rw z.0 (omega (arith, p));
  lo_at = (i, r, only-known i r hi hr, p);
  hi_at = (i, r, only-known i r hi hr, p);
}

opened_view : (i : ℕ) (n : Node) → n.setup.node ≡ suc i → JustOpened n → view_of n ≡ first-view i n.version n.flags n.request
opened_view i n e h =
    let who : n.setup.node - 1 ≡ i = omega arith in
    let known = h.known ∙ ap (λ (k : ℕ). only k n.request) e in
    λ j. record { who = who j; m = h.merged j; R = known j; lo = h.lowest j; hi = h.highest j }

-- a live node of the site in a round just opened there
pub opened-good : (N : ℕ) (M : ℕ → ℕ) (b : Site) (i : ℕ) → i < 32 → (member b i).node.setup.node ≡ suc i → JustOpened (member b i).node
    → (member b i).node.request ≤ top_request
    → (member b i).node.flags < 2 ^ N → In (member b i).node.flags i → Flagged M b → is_live (member b i) ≡ true
    → Good N (start_of M b) (view_of (member b i).node)
opened-good N M b i k e h r m o F l =
    let n = (member b i).node in
    rw (opened_view i n e h) (first_good N M b i n.version n.flags n.request k r m (F.at i l) o (λ _. n.version)
    (λ _. n.request) l)
