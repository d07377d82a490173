use Rattle.reduce.proofs.Marks.{first-gives}
use Rattle.reduce.proofs.Search.given.Goals as goal

pub returns : goal.returns
returns c =
    let r = c.load.ensures in
    first-gives _ _ _ _ _ _ r.at r.state _ c.gives.ensures
