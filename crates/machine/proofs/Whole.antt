-- Storage that is long enough: what is read of it and put there is as the site has it.
-- Assumes nothing.
use mathlib.Core.Path.{◌≡◌, refl, sym, ap, ap₂, ◌∙◌}
use mathlib.Core.Bool.{Bool, true, false, not, cond, ◌&&◌, ◌||◌}
use Prim.Native.Nat.{ℕ, ◌+◌, ◌-◌, ◌≤◌, ◌<◌}
use native.Mathlib.Omega.{arith}
use borrow.Author.Tests.{ltb-true, ltb-false, lt-ltb, le-ltb, le-leb}
use lib.Dec.{ltb, leb}
use lib.ListN.{length}
use Rattle.words.proofs.Tests.{hit, skip, is_false, clash, both, or-front, or-back, or-neither}
use Rattle.lists.proofs.Laws.{get_d-tab}
use Rattle.allotment.specs.InPlace.{held_in}
use Rattle.node.specs.Figures.{is_waiting, no_config}
use Rattle.site.specs.Load.{loaded_site}
use Rattle.site.specs.Members.{nobody, header_of, member_at, outside, node_index, is_live, state_of, down_member}
use Rattle.node.specs.declared.Config.{Config}
use Rattle.site.specs.Model.{Member}
use Rattle.site.specs.declared.State.{State}
use Rattle.site.specs.declared.State.TheVariants.{Live, Waiting, Down}
use Rattle.site.specs.declared.Table.{Table}
use Rattle.site.proofs.Laws.{node-index-in}
use Rattle.machine.specs.Layout.{Store, words_size, bytes_size, too_short, schedules_at, up_in, phase_in}
use Rattle.machine.specs.Layout.{node_in, config_in, stored_in, member_in, site_in}
use Rattle.machine.specs.Acts.{no_node_at}
use Rattle.machine.specs.Loading.{site_loaded, header_read, member_read}
use Rattle.machine.specs.Written.{written_free, member_put, closed_store, ended_store, store_closed, store_ended}
use Rattle.machine.proofs.Seats.{member_is, live-stored}

module _ (s : Store) where
  pub few_words : length s.words < words_size → too_short s ≡ true
  few_words h = or-front (ltb (length s.words) words_size) (ltb (length s.bytes) bytes_size) (lt-ltb _ _ h)

  pub few_bytes : length s.bytes < bytes_size → too_short s ≡ true
  few_bytes h = or-back (ltb (length s.words) words_size) (ltb (length s.bytes) bytes_size) (lt-ltb _ _ h)

  pub enough : words_size ≤ length s.words → bytes_size ≤ length s.bytes → too_short s ≡ false
  enough h k = ap₂ ◌||◌ (le-ltb _ _ h) (le-ltb _ _ k)

-- storage that is long enough
pub long-enough : (s : Store) → too_short s ≡ false → (words_size ≤ length s.words) × (bytes_size ≤ length s.bytes)
long-enough s h =
    let q = or-neither (ltb (length s.words) words_size) (ltb (length s.bytes) bytes_size) h in
    (ltb-false _ _ q.0, ltb-false _ _ q.1)

pub as-loaded : (s : Store) (f : Config) (t : Table) → words_size ≤ length s.words → bytes_size ≤ length s.bytes → site_loaded s f t
    ≡ loaded_site f t
unfolding site_loaded
as-loaded s f t w b = skip _ _ _ _ (enough s w b) refl

pub as-header : (s : Store) → words_size ≤ length s.words → bytes_size ≤ length s.bytes → header_read s ≡ header_of (site_in s)
unfolding header_read
as-header s w b = skip _ _ _ _ (enough s w b) refl

-- a number up to 32 that is none of the N nodes'
beyond : (f : Config) (j : ℕ) → 1 ≤ j → j ≤ 32 → outside f j ≡ true → ltb (j - 1) f.nodes ≡ false
beyond f j h k o =
    is_false (ltb (j - 1) f.nodes)
    (λ e.
    let n = ltb-true (j - 1) f.nodes e in
    let within : (leb 1 j && (leb j f.nodes && leb j 32)) ≡ true =
    both (le-leb 1 j h) (both (le-leb j f.nodes (omega (arith, n, h))) (le-leb j 32 k)) in
    clash (outside f j) o (ap not within))

pub as_member : (s : Store) (j : ℕ) → words_size ≤ length s.words → bytes_size ≤ length s.bytes → 1 ≤ j → j ≤ 32 → member_read s j
    ≡ member_at (site_in s) j
unfolding member_read site_in member_in
as_member s j w b h k = skip _ _ _ _ (enough s w b) (go (outside (config_in s) j) refl)
  where
    go : (t : Bool) → outside (config_in s) j ≡ t → cond t (down_member (config_in s) j) (stored_in s (j - 1)) ≡ member_at (site_in s) j
    go true o =
        let z : j - 1 + 1 ≡ j = omega arith in
        ap (down_member (config_in s)) (sym z)
        ∙ sym (skip _ _ _ _ (beyond (config_in s) j h k o) refl)
        ∙ sym (get_d-tab nobody 32 (member_in s) (j - 1) (omega arith))
    go false o = sym (member_is s j o)

-- what a place tells
pub at_place : (s : Store) (j : ℕ) → no_node_at s j ≡ false → (words_size ≤ length s.words)
    × ((bytes_size ≤ length s.bytes) × (outside (config_in s) j ≡ false))
at_place s j h =
    let q = or-neither (too_short s) (outside (config_in s) j) h in
    let l = long-enough s q.0 in
    (l.0, (l.1, q.1))

pub has-place : (s : Store) (j : ℕ) → words_size ≤ length s.words → bytes_size ≤ length s.bytes → outside (config_in s) j ≡ false
    → no_node_at s j ≡ false
has-place s j w b o = ap₂ ◌||◌ (enough s w b) o

-- the state of a member that is live, of one that waits, and of one that is down
pub of_live : (u w : Bool) → (u && not w) ≡ true → ◌≡◌ {A = State} Live (cond u (cond w Waiting Live) Down)
of_live true true h = clash false h refl
of_live true false h = refl
of_live false w h = clash false h refl

pub of-waiting : (u w : Bool) → (u && not w) ≡ false → u ≡ true → ◌≡◌ {A = State} Waiting (cond u (cond w Waiting Live) Down)
of-waiting true true h e = refl
of-waiting true false h e = clash true refl h
of-waiting false w h e = clash false e refl

pub of-down : (u w : Bool) → u ≡ false → ◌≡◌ {A = State} Down (cond u (cond w Waiting Live) Down)
of-down u w e = ap (λ (x : Bool). cond x (cond w Waiting Live) Down) (sym e)

-- a number of none of them, and storage that is too short, have a member that is down
pub no_member : (s : Store) (j : ℕ) → no_node_at s j ≡ true
    → member_read s j ≡ down_member (cond (too_short s) no_config (config_in s)) j
unfolding member_read
no_member s j h = go (too_short s) h
  where
    go : (t : Bool) → (t || outside (config_in s) j) ≡ true
        → cond t (down_member no_config j) (cond (outside (config_in s) j) (down_member (config_in s) j) (stored_in s (j - 1)))
        ≡ down_member (cond t no_config (config_in s)) j
    go true e = refl
    go false e = hit _ _ _ e

pub none-up : (s : Store) (j : ℕ) → no_node_at s j ≡ true → state_of (member_read s j) ≡ Down
none-up s j h = ap state_of (no_member s j h)

pub none-live : (s : Store) (j : ℕ) → no_node_at s j ≡ true → is_live (member_read s j) ≡ false
none-live s j h = ap is_live (no_member s j h)

pub live-placed : (s : Store) (j : ℕ) → is_live (member_read s j) ≡ true → no_node_at s j ≡ false
live-placed s j h = is_false (no_node_at s j) (λ e. clash (is_live (member_read s j)) h (none-live s j e))

-- a number of one of the N nodes is read and put at its index
module _ (s : Store) (j : ℕ) (w : words_size ≤ length s.words) (b : bytes_size ≤ length s.bytes) (o : outside (config_in s) j ≡ false)
  where
    pub stored-read : member_read s j ≡ stored_in s (j - 1)
    unfolding member_read
    stored-read = skip _ _ _ _ (enough s w b) (skip _ _ _ _ o refl)

    -- and its parts are those that stand there
    pub live-read : is_live (member_read s j) ≡ (up_in s.bytes (node_index j) && not (is_waiting (phase_in s.bytes (node_index j))))
    live-read =
        ap is_live stored-read ∙ live-stored s (j - 1)
        ∙ ap (λ (i : ℕ). up_in s.bytes i && not (is_waiting (phase_in s.bytes i))) (sym (node-index-in (config_in s) j o))

    pub state-read : state_of (member_read s j)
        ≡ cond (up_in s.bytes (node_index j)) (cond (is_waiting (phase_in s.bytes (node_index j))) Waiting Live) Down
    unfolding node_in
    state-read =
        ap state_of stored-read
        ∙ ap (λ (i : ℕ). cond (up_in s.bytes i) (cond (is_waiting (phase_in s.bytes i)) Waiting Live) Down)
        (sym (node-index-in (config_in s) j o))

    pub schedule-read : (i : ℕ) → i ≡ j - 1 → (member_read s j).node.schedule ≡ held_in s.bytes (schedules_at i)
    unfolding node_in
    schedule-read i e = ap (λ (m : Member). m.node.schedule) stored-read ∙ ap (λ (x : ℕ). held_in s.bytes (schedules_at x)) (sym e)

    pub stored-member : (m : Member) → member_put s j m ≡ written_free s (j - 1) m
    unfolding member_put
    stored-member m = skip _ _ _ _ (ap₂ ◌||◌ (enough s w b) o) refl

-- a close and an end
module _ (s : Store) (w : words_size ≤ length s.words) (b : bytes_size ≤ length s.bytes) where
  pub as-closed : store_closed s ≡ closed_store s
  unfolding store_closed
  as-closed = skip _ _ _ _ (enough s w b) refl

  pub as-ended : store_ended s ≡ ended_store s
  unfolding store_ended
  as-ended = skip _ _ _ _ (enough s w b) refl
