use Rattle.flow_reach.proofs.Words.{put_there, put_others, read_word}
use Rattle.flow_reach.proofs.bits.put.Goals as goal

pub returns-clause-there : goal.returns-clause-there
returns-clause-there c = put_there c.args.set.now.items c.args.word c.requires _ (read_word _ _ _ c.requires c.index_mut.ensures.value) c.args.bits

pub returns-clause-others : goal.returns-clause-others
returns-clause-others c = put_others c.args.set.now.items c.args.word c.requires _ (read_word _ _ _ c.requires c.index_mut.ensures.value) c.args.bits
