use Rattle.file_match.proofs.Bits.{mark_put}
use Rattle.file_match.proofs.words.mark.Goals as goal

pub returns-clause-marked : goal.returns-clause-marked
returns-clause-marked c = mark_put c.args.marks.now.items c.args.at c.requires _ c.index_mut.ensures.value
