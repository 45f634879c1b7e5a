use Rattle.std.proofs.Common.{arith, refl}
use Rattle.flow_reach.proofs.Works.{listed_new, listed_old}
use Rattle.flow_reach.proofs.worklist.Worklist.list.Goals as goal

pub returns : goal.returns
returns c = listed_new c.args.self.now _ c.args.word c.requires.shaped c.requires.word refl refl c.in_ok-push.ensures.items

pub returns-then-waiting-ne0 : goal.returns-then-waiting-ne0
returns-then-waiting-ne0 c = listed_old c.args.self.now c.args.word c.waiting.result c.requires.shaped c.requires.word c.waiting.ensures c.if-waiting-ne0.true (omega (arith, c.waiting.type_inv))
