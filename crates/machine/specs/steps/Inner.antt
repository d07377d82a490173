-- Only the contracts of private functions cite this: no public contract and no theorem does.
-- The first tests of an answer.
-- Assumes nothing.
use Rattle.std.specs.Prelude.{not, cond, ℕ}
use Rattle.node.specs.Answers.{Answer, Done, NoSuchNode, WrongPhase, NotLive}
use Rattle.site.specs.Members.{outside, is_live}
use Rattle.site.specs.declared.SiteHeader.{SiteHeader}
use Rattle.site.specs.Model.{Member}

-- what is tested before a send or a hear of node j, whose member is m: 3, 4, 5
unfoldable pub answer_ready : SiteHeader → Member → ℕ → Answer
answer_ready k m j = cond (outside k.config j) NoSuchNode (cond (not k.negotiates) WrongPhase (cond (not (is_live m)) NotLive Done))
