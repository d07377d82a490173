use Rattle.sites.proofs.one.Laws.{rest_put}
use Rattle.sites.proofs.one.put_rest.Goals as goal

pub returns : goal.returns
returns c =
    rest_put c.args.up c.requires c.put_byte-a.ensures c.put_bytes.ensures
