use mathlib.Core.Path.{refl}
use Rattle.machine.specs.Layout.{node_words, node_words_at}
use Rattle.machine.proofs.Writes.{put-copy}
use Rattle.machine.proofs.write.put_row.Goals as goal

pub returns : goal.returns
unfolding node_words
returns c = put-copy c.args.words.now _ (node_words_at c.args.i) 8 c.copy_from_slice.ensures.after refl
