-- The outcomes of a close's tests, one after another, beside the conditions of each rule: d a new schedule is sent, u an earlier round has
-- set the mark, i each node of M' has a request, m M' counts more than half, l the versions are level, t below the top version, e at the
-- highest version.
-- Assumes nothing.
use mathlib.Core.Path.{◌≡◌, refl, sym}
use mathlib.Core.Bool.{Bool, true, false, not, cond, ◌&&◌, ◌||◌}
use Rattle.words.proofs.Tests.{never, or-back}
use Rattle.node.specs.Close.{determining, repeating}
use Rattle.node.specs.declared.Verdict.{Verdict}
use Rattle.node.specs.declared.Verdict.TheVariants.{Determines, Repeats, Silent}
use Rattle.node.specs.declared.Rule.{Rule}
use Rattle.node.specs.declared.Rule.TheVariants.{RequestMissing, NoMajority, OwnLower, Repeating, AtTop, NotDue, NewSent}

-- the verdict by its tests
abbrev pub judged : Bool → Bool → Bool → Bool → Verdict
judged c l t e = cond c (cond l (cond t Determines Silent) (cond e Repeats Silent)) Silent

-- the rule by the tests
abbrev pub ruled : Bool → Bool → Bool → Bool → Bool → Bool → Bool → Rule
ruled d u i m l t e = cond d NewSent (cond u NotDue (cond i (cond m (cond l (cond t NotDue AtTop) (cond e Repeating OwnLower)) NoMajority)
    RequestMissing))

-- the conditions of a rule, by the tests
abbrev pub holds : Rule → Bool → Bool → Bool → Bool → Bool → Bool → Bool → Bool
holds RequestMissing d u i m l t e = (not d && not u) && not i
holds NoMajority d u i m l t e = (not d && not u) && (i && not m)
holds OwnLower d u i m l t e = (not d && not u) && ((i && m) && (not l && not e))
holds Repeating d u i m l t e = (not d && not u) && repeating (judged (i && m) l t e)
holds AtTop d u i m l t e = (not d && not u) && ((i && m) && (l && not t))
holds NotDue d u i m l t e = not d && (determining (judged (i && m) l t e) || u)
holds NewSent d u i m l t e = d

-- the conditions of the rule that is given are met
pub met : (d u i m l t e : Bool) → holds (ruled d u i m l t e) d u i m l t e ≡ true
met true u i m l t e = refl
met false true i m l t e = or-back (determining (judged (i && m) l t e)) true refl
met false false false m l t e = refl
met false false true false l t e = refl
met false false true true true true e = refl
met false false true true true false e = refl
met false false true true false t true = refl
met false false true true false t false = refl

-- and those of no other
pub alone : (d u i m l t e : Bool) (r : Rule) → holds r d u i m l t e ≡ true → ruled d u i m l t e ≡ r
alone true u i m l t e RequestMissing h = never (sym h)
alone true u i m l t e NoMajority h = never (sym h)
alone true u i m l t e OwnLower h = never (sym h)
alone true u i m l t e Repeating h = never (sym h)
alone true u i m l t e AtTop h = never (sym h)
alone true u i m l t e NotDue h = never (sym h)
alone true u i m l t e NewSent h = refl
alone false true i m l t e RequestMissing h = never (sym h)
alone false true i m l t e NoMajority h = never (sym h)
alone false true i m l t e OwnLower h = never (sym h)
alone false true i m l t e Repeating h = never (sym h)
alone false true i m l t e AtTop h = never (sym h)
alone false true i m l t e NotDue h = refl
alone false true i m l t e NewSent h = never (sym h)
alone false false false m l t e RequestMissing h = refl
alone false false false m l t e NoMajority h = never (sym h)
alone false false false m l t e OwnLower h = never (sym h)
alone false false false m l t e Repeating h = never (sym h)
alone false false false m l t e AtTop h = never (sym h)
alone false false false m l t e NotDue h = never (sym h)
alone false false false m l t e NewSent h = never (sym h)
alone false false true false l t e RequestMissing h = never (sym h)
alone false false true false l t e NoMajority h = refl
alone false false true false l t e OwnLower h = never (sym h)
alone false false true false l t e Repeating h = never (sym h)
alone false false true false l t e AtTop h = never (sym h)
alone false false true false l t e NotDue h = never (sym h)
alone false false true false l t e NewSent h = never (sym h)
alone false false true true true true e RequestMissing h = never (sym h)
alone false false true true true true e NoMajority h = never (sym h)
alone false false true true true true e OwnLower h = never (sym h)
alone false false true true true true e Repeating h = never (sym h)
alone false false true true true true e AtTop h = never (sym h)
alone false false true true true true e NotDue h = refl
alone false false true true true true e NewSent h = never (sym h)
alone false false true true true false e RequestMissing h = never (sym h)
alone false false true true true false e NoMajority h = never (sym h)
alone false false true true true false e OwnLower h = never (sym h)
alone false false true true true false e Repeating h = never (sym h)
alone false false true true true false e AtTop h = refl
alone false false true true true false e NotDue h = never (sym h)
alone false false true true true false e NewSent h = never (sym h)
alone false false true true false t true RequestMissing h = never (sym h)
alone false false true true false t true NoMajority h = never (sym h)
alone false false true true false t true OwnLower h = never (sym h)
alone false false true true false t true Repeating h = refl
alone false false true true false t true AtTop h = never (sym h)
alone false false true true false t true NotDue h = never (sym h)
alone false false true true false t true NewSent h = never (sym h)
alone false false true true false t false RequestMissing h = never (sym h)
alone false false true true false t false NoMajority h = never (sym h)
alone false false true true false t false OwnLower h = refl
alone false false true true false t false Repeating h = never (sym h)
alone false false true true false t false AtTop h = never (sym h)
alone false false true true false t false NotDue h = never (sym h)
alone false false true true false t false NewSent h = never (sym h)
