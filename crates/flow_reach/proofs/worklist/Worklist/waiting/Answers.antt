use Rattle.flow_reach.proofs.Words.{read_word}
use Rattle.flow_reach.proofs.worklist.Worklist.waiting.Goals as goal

pub returns : goal.returns
returns c = read_word c.args.self.now.todo.items c.args.word _ c.requires c.index.ensures
