use Rattle.node_pool.specs.Spots.{all_seen}
use Rattle.taint_plan.proofs.Outermost.{met}
use Rattle.taint_plan.proofs.goals.sinks_at.Goals as goal

pub returns-clause-all : goal.returns-clause-all
returns-clause-all c s listed e among = (c.in_ok-sinks.ensures s).1 (listed, met c.of-hull.result s.range (all_seen c.args.heads.now) e c.of-hull.ensures among)
