use Rattle.std.proofs.Common.{refl}
use Rattle.flow_reach.proofs.Words.{read_word}
use Rattle.flow_reach.proofs.Works.{added, all_seen}
use Rattle.flow_reach.proofs.worklist.Worklist.see.Goals as goal

pub returns-then-new-eq0 : goal.returns-then-new-eq0
returns-then-new-eq0 c = all_seen c.args.self.now c.args.word c.args.bits _ c.without-new.result c.requires.word (read_word _ _ _ c.requires.word c.index.ensures) c.without-new.ensures.bits c.requires.shaped c.if-new-eq0.true

pub returns : goal.returns
returns c =
    let p = c.put in
    let q = c.put-2 in
    added c.args.self.now c.args.word c.args.bits _ c.without-new.result c.requires.word (read_word _ _ _ c.requires.word c.index.ensures) c.without-new.ensures.bits c.list.new.self _ c.in_ok-list.ensures p.ensures.room p.ensures.there p.ensures.others q.ensures.room q.ensures.there q.ensures.others refl
