-- What each event makes of a site, as proofs over lists of events use it.
-- Assumes nothing.
use mathlib.Core.Path.{◌≡◌, refl, ap, ◌∙◌}
use mathlib.Core.Bool.{true, false, cond}
use mathlib.Core.List.{List}
use Prim.Native.Nat.{ℕ}
use lib.ListN.{get_or, length, length-set, length-map, get_or-map}
use Rattle.words.proofs.Tests.{hit, skip}
use Rattle.node.specs.Answers.{is_done}
use Rattle.node.specs.Figures.{negotiates}
use Rattle.node.specs.Negotiation.{heard_node}
use Rattle.node.specs.Close.{closed_node}
use Rattle.node.specs.End.{ended_node}
use Rattle.node.specs.declared.Packet.{Packet}
use Rattle.node.specs.Answers.{Answer}
use Rattle.node.specs.Answers.{Done}
use Rattle.node.proofs.Laws.{close-is, end_is}
use Rattle.wire.specs.Layout.{packet_in}
use Rattle.site.specs.Members.{nobody, header_of, member_at, is_live, with_node, put}
use Rattle.site.specs.Parts.{packet_part}
use Rattle.site.specs.Answers.{answer_of}
use Rattle.site.specs.Steps.{sent_site, heard_site, close_member, closed_site, taken_site, end_member, ended_site, wanted_site, crashed_site}
use Rattle.site.specs.Steps.{restarted_site, next_site, site_after}
use Rattle.site.specs.Model.{Member}
use Rattle.site.specs.Model.{Site}
use Rattle.site.specs.declared.Event.{Event}
use Rattle.site.specs.declared.Event.TheVariants.{Send, Hear, Close, Take, End, Want, Crash, Restart}

-- no event changes the figures
pub config-kept : (s : Site) (area : List ℕ) (e : Event) → (next_site s area e).config ≡ s.config
unfolding sent_site heard_site closed_site taken_site ended_site wanted_site crashed_site restarted_site
config-kept s area (Send j) = refl
config-kept s area (Hear j p) = refl
config-kept s area Close = refl
config-kept s area (Take j i) = refl
config-kept s area End = refl
config-kept s area (Want j d) = refl
config-kept s area (Crash j) = refl
config-kept s area (Restart j flags) = refl

-- nor how many members there are
pub members_kept : (s : Site) (area : List ℕ) (e : Event) → length (next_site s area e).members ≡ length s.members
unfolding sent_site heard_site closed_site taken_site ended_site wanted_site crashed_site restarted_site
members_kept s area (Send j) = refl
members_kept s area (Hear j p) = length-set s.members _ _
members_kept s area Close = length-map s.members close_member
members_kept s area (Take j i) = length-set s.members _ _
members_kept s area End = length-map s.members end_member
members_kept s area (Want j d) = length-set s.members _ _
members_kept s area (Crash j) = length-set s.members _ _
members_kept s area (Restart j flags) = length-set s.members _ _

-- an accepted event makes the next site
pub accepted-is : (s : Site) (area : List ℕ) (e : Event) → answer_of s area e ≡ Done → site_after s area e ≡ next_site s area e
unfolding site_after
accepted-is s area e h = ap (λ (a : Answer). cond (is_done a) (next_site s area e) s) h

-- a hearing, by the packet that its part holds
pub hear-as : (s : Site) (area : List ℕ) (j p : ℕ) (q : Packet) → packet_in (packet_part (header_of s) area p) ≡ q
    → heard_site s area j p ≡ put s j (with_node (member_at s j) (heard_node (member_at s j).node q))
unfolding heard_site
hear-as s area j p q e = ap (λ (x : Packet). put s j (with_node (member_at s j) (heard_node (member_at s j).node x))) e

-- each member after a close: a live one has closed, any other is as it was
pub member-closed : (s : Site) (i : ℕ) → get_or (closed_site s).members i nobody ≡ close_member (get_or s.members i nobody)
unfolding closed_site
member-closed s i = get_or-map close_member s.members i nobody

pub closed-live : (m : Member) → is_live m ≡ true → negotiates m.node.phase ≡ true → close_member m ≡ with_node m (closed_node m.node)
closed-live m y p = hit (is_live m) _ _ y ∙ ap (with_node m) (close-is m.node p)

pub closed-other : (m : Member) → is_live m ≡ false → close_member m ≡ m
closed-other m y = skip (is_live m) _ _ _ y refl

-- and after an end: one that is up has ended its round, waiting or not
pub member-ended : (s : Site) (i : ℕ) → get_or (ended_site s).members i nobody ≡ end_member (get_or s.members i nobody)
unfolding ended_site
member-ended s i = get_or-map end_member s.members i nobody

pub ended-up : (m : Member) → m.up ≡ true → negotiates m.node.phase ≡ false → end_member m ≡ with_node m (ended_node m.node)
ended-up m u p = hit m.up _ _ u ∙ ap (with_node m) (end_is m.node p)

pub ended-down : (m : Member) → m.up ≡ false → end_member m ≡ m
ended-down m u = skip m.up _ _ _ u refl
