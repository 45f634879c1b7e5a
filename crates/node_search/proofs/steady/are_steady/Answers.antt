use Rattle.std.proofs.Common.{inr, arith}
use Rattle.node_search.proofs.SteadyLaws.{patterns_next, patterns_all}
use Rattle.node_search.proofs.steady.are_steady.Goals as goal

pub loop-at-init : goal.loop-at-init
loop-at-init c q a = inr a

pub loop-at-preserved : goal.loop-at-preserved
loop-at-preserved c = patterns_next _ c.args.patterns.now _ c.loop-at.at c.index-patterns-at.result (omega arith) c.index-patterns-at.is (c.in_ok-is_steady.ensures c.if-not-branch.false) c.loop-at.invariant

pub returns : goal.returns
returns c _ = patterns_all _ c.args.patterns.now _ c.loop-at.at (omega arith) c.loop-at.invariant
