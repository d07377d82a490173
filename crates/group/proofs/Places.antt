-- Laws of the table of places: where an entry is found, what filling and freeing change, and why a place is free.
-- Assumes nothing.
use mathlib.Core.Path.{◌≡◌, refl, sym, ap, ◌∙◌}
use mathlib.Core.Bool.{Bool, false, not}
use mathlib.Core.Logic.{◌≢◌}
use mathlib.Core.List.{List, [], ◌∷◌, map}
use Prim.Native.Nat.{ℕ, zero, suc, ◌+◌, ◌≤◌, ◌<◌}
use native.Mathlib.Omega.{arith}
use borrow.Author.Tests.{eq-eqb, ne_eqb}
use lib.Dec.{eqb}
use lib.ListN.{length, get_or, set, replicate, length-map, get_or-map}
use Rattle.words.specs.Bits.{digit}
use Rattle.words.proofs.Tests.{hit, skip, same_or_not}
use Rattle.group.specs.Places.{site_of, place, place_filled, freed_entry, freed}
use Rattle.group.specs.Fit.{how_often, used, used_by}

place_here : (c x : ℕ) (t : List ℕ) → x ≡ c → place c (x ∷ t) ≡ 0
unfolding place
place_here c x t e = hit (eqb x c) _ _ (eq-eqb x c e)

place-on : (c x : ℕ) (t : List ℕ) → x ≢ c → place c (x ∷ t) ≡ suc (place c t)
unfolding place
place-on c x t e = skip (eqb x c) _ _ _ (ne_eqb x c e) refl

-- an entry is found in its place
pub place_found : (c : ℕ) (t : List ℕ) → place c t < length t → get_or t (place c t) 0 ≡ c
place_found c [] l = absurd (omega arith)
place_found c (x ∷ t) l =
    same_or_not x c
    (λ e. ap (λ (k : ℕ). get_or (x ∷ t) k 0) (place_here c x t e) ∙ e)
    (λ e. ap (λ (k : ℕ). get_or (x ∷ t) k 0) (place-on c x t e) ∙ place_found c t (let z = place-on c x t e in omega arith))

-- where another entry becomes another, an entry stays where it is
pub place_other : (c y : ℕ) (t : List ℕ) (k : ℕ) → get_or t k 0 ≢ c → y ≢ c → place c (set t k y) ≡ place c t
place_other c y [] k a b = refl
place_other c y (x ∷ t) zero a b = place-on c y t b ∙ sym (place-on c x t a)
place_other c y (x ∷ t) (suc k) a b =
    same_or_not x c
    (λ e. place_here c x (set t k y) e ∙ sym (place_here c x t e))
    (λ e. place-on c x (set t k y) e ∙ ap suc (place_other c y t k a b) ∙ sym (place-on c x t e))

-- an entry of which there was none lies where it was put
pub place-new : (y : ℕ) (t : List ℕ) → ((k : ℕ) → get_or t k 0 ≢ y) → place 0 t < length t → place y (place_filled y t) ≡ place 0 t
place-new y [] a l = absurd (omega arith)
place-new y (x ∷ t) a l =
    same_or_not x 0
    (λ e. let z = place_here 0 x t e in ap (λ (k : ℕ). place y (set (x ∷ t) k y)) z ∙ place_here y y t refl ∙ sym z)
    (λ e. let z = place-on 0 x t e in ap (λ (k : ℕ). place y (set (x ∷ t) k y)) z ∙ place-on y x (place_filled y t) (a 0)
    ∙ ap suc (place-new y t (λ k. a (suc k)) (omega arith)) ∙ sym z)

-- where fewer are used than there are, one is free
pub free_one : (t : List ℕ) → used t < length t → place 0 t < length t
unfolding how_often
free_one [] l = absurd (omega arith)
free_one (x ∷ t) l =
    same_or_not x 0
    (λ e. let z = place_here 0 x t e in omega arith)
    (λ e.
    let z = place-on 0 x t e in
    let d : digit (not (eqb x 0)) ≡ 1 = ap (λ (b : Bool). digit (not b)) (ne_eqb x 0 e) in
    let r = free_one t (omega arith) in
    omega arith)

-- one entry becomes another
pub often-set : (p : ℕ → Bool) (t : List ℕ) (k y : ℕ) → k < length t → how_often p (set t k y) + digit (p (get_or t k 0)) ≡ how_often p t
    + digit (p y)
unfolding how_often
often-set p [] k y l = absurd (omega arith)
often-set p (x ∷ t) zero y l = omega arith
often-set p (x ∷ t) (suc k) y l = let r = often-set p t k y (omega arith) in omega arith

pub often-none : (p : ℕ → Bool) (n : ℕ) → p 0 ≡ false → how_often p (replicate n 0) ≡ 0
unfolding how_often
often-none p zero h = refl
often-none p (suc n) h = let d : digit (p 0) ≡ 0 = ap digit h in omega (arith, often-none p n h)

-- a free place is of no site
pub zero_of : (a : ℕ) → 1 ≤ a → eqb (site_of 0) a ≡ false
zero_of a l = ne_eqb (site_of 0) a (λ e. omega arith)

freed-own : (a x : ℕ) → site_of x ≡ a → freed_entry a x ≡ 0
freed-own a x e = hit _ _ _ (eq-eqb _ _ e)

freed-other : (a x : ℕ) → site_of x ≢ a → freed_entry a x ≡ x
freed-other a x e = skip _ _ _ _ (ne_eqb _ _ e) refl

-- the entries after site a is freed
pub freed-at : (a : ℕ) (t : List ℕ) (k : ℕ) → get_or (freed a t) k 0 ≡ freed_entry a (get_or t k 0)
unfolding freed
freed-at a t k = ap (get_or (map (freed_entry a) t) k) (sym zero-stays) ∙ get_or-map (freed_entry a) t k 0
  where
    zero-stays : freed_entry a 0 ≡ 0
    zero-stays = same_or_not (site_of 0) a (λ e. freed-own a 0 e) (λ e. freed-other a 0 e)

pub length-freed : (a : ℕ) (t : List ℕ) → length (freed a t) ≡ length t
unfolding freed
length-freed a t = length-map t (freed_entry a)

-- what is left was there
pub freed-from : (a : ℕ) (t : List ℕ) (k x : ℕ) → 1 ≤ x → get_or (freed a t) k 0 ≡ x → (site_of x ≢ a) × (get_or t k 0 ≡ x)
freed-from a t k x l e =
    let z = sym (freed-at a t k) ∙ e in
    same_or_not (site_of (get_or t k 0)) a
    (λ q. let w : 0 ≡ x = sym (freed-own a (get_or t k 0) q) ∙ z in absurd (omega arith))
    (λ q. let w : get_or t k 0 ≡ x = sym (freed-other a (get_or t k 0) q) ∙ z in (λ r. q (ap site_of w ∙ r), w))

-- the entries of another site stay where they are
pub place-freed : (a c : ℕ) (t : List ℕ) → site_of c ≢ a → 1 ≤ site_of c → place c (freed a t) ≡ place c t
unfolding freed
place-freed a c [] h l = refl
place-freed a c (x ∷ t) h l =
    let r : place c (map (freed_entry a) t) ≡ place c t = place-freed a c t h l in
    same_or_not x c
    (λ e. place_here c _ (map (freed_entry a) t) (freed-other a x (λ q. h (ap site_of (sym e) ∙ q)) ∙ e) ∙ sym (place_here c x t e))
    (λ e. place-on c (freed_entry a x) (map (freed_entry a) t) (differs e) ∙ ap suc r ∙ sym (place-on c x t e))
  where
    differs : x ≢ c → freed_entry a x ≢ c
    differs e q =
        same_or_not (site_of x) a
        (λ z. let y = freed-own a x z in let w : 0 ≡ c = sym y ∙ q in omega arith)
        (λ z. e (sym (freed-other a x z) ∙ q))

-- how many are used once a site is freed
pub used-freed : (a : ℕ) (t : List ℕ) → 1 ≤ a → used (freed a t) + used_by a t ≡ used t
unfolding freed how_often
used-freed a [] l = refl
used-freed a (x ∷ t) l =
    let r : used (map (freed_entry a) t) + used_by a t ≡ used t = used-freed a t l in
    same_or_not (site_of x) a
    (λ e.
    let y : digit (not (eqb (freed_entry a x) 0)) ≡ 0 = ap (λ (z : ℕ). digit (not (eqb z 0))) (freed-own a x e) in
    let d : digit (eqb (site_of x) a) ≡ 1 = ap digit (eq-eqb _ _ e) in
    let n : digit (not (eqb x 0)) ≡ 1 =
    ap (λ (b : Bool). digit (not b)) (ne_eqb x 0 (λ z. let w : site_of x ≡ site_of 0 = ap site_of z in omega arith)) in
    omega arith)
    (λ e.
    let y : digit (not (eqb (freed_entry a x) 0)) ≡ digit (not (eqb x 0)) = ap (λ (z : ℕ). digit (not (eqb z 0))) (freed-other a x e) in
    let d : digit (eqb (site_of x) a) ≡ 0 = ap digit (ne_eqb _ _ e) in
    omega arith)

pub own-freed : (a : ℕ) (t : List ℕ) → 1 ≤ a → used_by a (freed a t) ≡ 0
unfolding freed how_often
own-freed a [] l = refl
own-freed a (x ∷ t) l =
    let r : used_by a (map (freed_entry a) t) ≡ 0 = own-freed a t l in
    same_or_not (site_of x) a
    (λ e. let d : digit (eqb (site_of (freed_entry a x)) a) ≡ 0 = ap (λ (z : ℕ). digit (eqb (site_of z) a)) (freed-own a x e)
    ∙ ap digit (zero_of a l) in omega arith)
    (λ e. let d : digit (eqb (site_of (freed_entry a x)) a) ≡ 0 = ap (λ (z : ℕ). digit (eqb (site_of z) a)) (freed-other a x e)
    ∙ ap digit (ne_eqb _ _ e) in omega arith)

pub other-freed : (a b : ℕ) (t : List ℕ) → 1 ≤ b → b ≢ a → used_by b (freed a t) ≡ used_by b t
unfolding freed how_often
other-freed a b [] l h = refl
other-freed a b (x ∷ t) l h =
    let r : used_by b (map (freed_entry a) t) ≡ used_by b t = other-freed a b t l h in
    same_or_not (site_of x) a
    (λ e.
    let d : digit (eqb (site_of (freed_entry a x)) b) ≡ 0 = ap (λ (z : ℕ). digit (eqb (site_of z) b)) (freed-own a x e)
    ∙ ap digit (zero_of b l) in
    let n : digit (eqb (site_of x) b) ≡ 0 = ap digit (ne_eqb _ _ (λ q. h (sym q ∙ e))) in
    omega arith)
    (λ e. let d : digit (eqb (site_of (freed_entry a x)) b)
    ≡ digit (eqb (site_of x) b) = ap (λ (z : ℕ). digit (eqb (site_of z) b)) (freed-other a x e) in omega arith)
