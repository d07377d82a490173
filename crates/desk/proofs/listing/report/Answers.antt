use Rattle.desk.proofs.listing.Laws.{report-put}
use Rattle.desk.proofs.listing.report.Goals as goal

pub returns : goal.returns
returns c =
    report-put _ _ c.requires c.put_field-a.ensures c.put_number-b.ensures
    c.put_byte.ensures
