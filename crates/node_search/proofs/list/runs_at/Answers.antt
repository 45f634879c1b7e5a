use Rattle.std.proofs.Common.{drop, arith, length-drop}
use Rattle.node_match.proofs.Sets.{gathered, plus_as, chain}
use Rattle.node_search.proofs.Steps.{runs_more, runs_last}
use Rattle.node_search.proofs.list.runs_at.Goals as goal
use Rattle.node_tree.specs.Numbers.{kids_at}
use Rattle.node_pool.specs.Spots.{seen}

pub loop-size-preserved : goal.loop-size-preserved
loop-size-preserved c k ps b =
    gathered _ _ _ _ _ _ (c.in_ok-run_at.ensures k ps b) (runs_more k (seen c.args.holder) c.args.pattern.now ps _ c.loop-size.size c.args.trail.now b) (c.loop-size.invariant k ps b)

pub returns : goal.returns
returns c k ps b =
    let ns = drop c.args.at (kids_at (seen c.args.holder)) in
    let l = length-drop c.args.at (kids_at (seen c.args.holder)) in
    chain _ _ _
    (plus_as _ _ _ _ (c.in_ok-run_at-2.ensures k ps b)
    (runs_last k (seen c.args.holder) c.args.pattern.now ps ns _ c.loop-size.size c.args.trail.now b (omega (arith, l, c.count_kids.ensures)) (omega (arith, l, c.count_kids.ensures))))
    (c.loop-size.invariant k ps b)
