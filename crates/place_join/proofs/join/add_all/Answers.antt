use Rattle.node_match.proofs.Sets.{gathered, gathered_all}
use Rattle.place_join.proofs.Firsts.{among_step, among_end}
use Rattle.place_join.proofs.join.add_all.Goals as goal

pub loop-one-preserved : goal.loop-one-preserved
loop-one-preserved c m = gathered _ _ _ _ _ _ (c.in_ok-add.ensures m) (among_step _ _ _ m c.loop-one-test.true c.one-item.is) (c.loop-one.invariant m)

pub returns : goal.returns
returns c m = gathered_all _ _ _ (among_end _ _ m c.loop-one-test.false) (c.loop-one.invariant m)
