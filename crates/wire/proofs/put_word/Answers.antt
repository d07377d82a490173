use Rattle.lists.proofs.Chain.{retry}
use Rattle.wire.proofs.put_word.Goals as goal

pub returns : goal.returns
returns c = retry c.word_bytes-b.ensures c.put_bytes.ensures
