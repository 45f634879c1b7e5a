use Rattle.node_match.proofs.Sets.{gathered, gathered_all, plus_as}
use Rattle.sorted_sets.proofs.Searches.{any_step, any_end}
use Rattle.place_join.specs.Joined.{IsFirstThere}
use Rattle.place_join.proofs.Firsts.{anywhere}
use Rattle.place_join.proofs.join.add_firsts.Goals as goal

pub loop-one-preserved : goal.loop-one-preserved
loop-one-preserved c m =
    gathered _ _ _ _ _ _ (c.in_ok-add_first.ensures m) (any_step (IsFirstThere c.args.plain.now c.args.further.now m) _ _ _ c.loop-one-test.true c.one-item.is) (c.loop-one.invariant m)

pub returns : goal.returns
returns c m =
    plus_as _ _ _ _ (gathered_all _ _ _ (any_end (IsFirstThere c.args.plain.now c.args.further.now m) _ _ c.loop-one-test.false) (c.loop-one.invariant m)) (anywhere c.args.plain.now c.args.further.now m)
