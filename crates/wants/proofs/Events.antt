-- Two lists of events that differ in their wants alone, from two tables that do.
-- Assumes nothing.
use mathlib.Core.Path.{◌≡◌, sym, ap, ap₂, ◌∙◌}
use mathlib.Core.Bool.{true, cond}
use mathlib.Core.List.{List, [], map}
use Prim.Native.Nat.{ℕ, ◌+◌, ◌<◌}
use native.Mathlib.Omega.{arith}
use borrow.Author.Tests.{ltb-true}
use lib.Dec.{ltb}
use lib.ListN.{length, get_or}
use Rattle.words.proofs.Tests.{at_test, read-choice}
use Rattle.lists.specs.All.{tab}
use Rattle.lists.proofs.Laws.{tab-ext}
use Rattle.allotment.specs.Allotment.{free}
use Rattle.node.specs.Answers.{Done}
use Rattle.node.proofs.Tested.{start-asks}
use Rattle.site.specs.Answers.{area_size}
use Rattle.site.specs.Members.{setup_of, down_member}
use Rattle.site.specs.Load.{no_row, load_answer, loaded_member, loaded_site}
use Rattle.node.specs.declared.Config.{Config}
use Rattle.site.specs.declared.Table.{Table}
use Rattle.site.specs.declared.Event.{Event}
use Rattle.site.proofs.Accepted.{Loads, load-accepted}
use Rattle.histories.specs.Reached.{begin}
use Rattle.wants.specs.Outline.{MemberOutline, member_outline}
use Rattle.wants.specs.Wants.{without_wants, SameButWants, SameReports}
use Rattle.wants.proofs.Maps.{map-tab}
use Rattle.node.proofs.Outline.{begun_outline, begins}
use Rattle.wants.proofs.Scenes.{Scene, scene_of, scene_after, reports_in, answers_in}
use Rattle.wants.proofs.Lists.{start, follow}

-- Loading

-- the outline of the member of a row, by its version and flags
abbrev loaded_by : Config → ℕ → ℕ → ℕ → MemberOutline
loaded_by f i v flags =
    cond (ltb i f.nodes) (record { up = true; node = begun_outline (setup_of f (i + 1)) v flags }) (member_outline (down_member f (i + 1)))

loads-by : (f : Config) (t : Table) → Loads f t → (i : ℕ) → i < 32
    → member_outline (loaded_member f t i) ≡ loaded_by f i (get_or t.rows i no_row).version (get_or t.rows i no_row).flags
unfolding loaded_member
loads-by f t h i l =
    let r = get_or t.rows i no_row in
    read-choice member_outline (ltb i f.nodes) _ _
    ∙ at_test (ltb i f.nodes) _ _ _ (λ k j. record {
      up = true;
      node = begins (setup_of f (i + 1)) r.version free r.want r.want r.flags (omega arith) (omega arith)
          (start-asks (setup_of f (i + 1)) r.version r.flags r.want (h.row i (ltb-true i f.nodes k))).demand j;
    })

-- tables that differ in their wants alone make one scene
pub same-scene : (f : Config) (t u : Table) → load_answer f t ≡ Done → load_answer f u ≡ Done → SameButWants t u → (area : List ℕ)
    → scene_of (loaded_site f t) area [] ≡ scene_of (loaded_site f u) area []
unfolding loaded_site
same-scene f t u a b h area =
    λ k. record {
      site = record { config = f; negotiates = true; place = 0; sent = (loaded_site f t).sent; members = members k };
      air = [];
      short = ltb (length area) area_size;
    }
  where
    one : (i : ℕ) → i < 32 → member_outline (loaded_member f t i) ≡ member_outline (loaded_member f u i)
    one i l =
        loads-by f t (load-accepted f t a) i l ∙ ap₂ (loaded_by f i) (h.version i l) (h.flags i l)
        ∙ sym (loads-by f u (load-accepted f u b) i l)

    members : map member_outline (tab 32 (loaded_member f t)) ≡ map member_outline (tab 32 (loaded_member f u))
    members =
        map-tab member_outline 32 (loaded_member f t)
        ∙ tab-ext 32 _ _ one
        ∙ sym (map-tab member_outline 32 (loaded_member f u))

-- Events

pub events : (f : Config) (t u : Table) → load_answer f t ≡ Done → load_answer f u ≡ Done → SameButWants t u
    → (area : List ℕ) (es gs : List Event)
    → without_wants es ≡ without_wants gs → SameReports (begin f t area) es (begin f u area) gs
events f t u a b h area es gs e =
    let p = start f t a area in
    let q = start f u b area in
    let c = p.scene ∙ same-scene f t u a b h area ∙ sym q.scene in
    let x = follow f t a area (begin f t area) p.there es in
    let y = follow f u b area (begin f u area) q.there gs in
    record {
      told = x.told ∙ ap₂ reports_in c e ∙ sym y.told;
      answered = x.answered ∙ ap₂ answers_in c e ∙ sym y.answered;
      left = ap (λ (z : Scene). z.site) (x.moved.scene ∙ ap₂ scene_after c e ∙ sym y.moved.scene);
    }
