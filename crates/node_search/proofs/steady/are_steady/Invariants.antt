use Rattle.std.proofs.Common.{◌⊎◌, drop}
use Rattle.node_tree.specs.declared.node.Node.{Node}
use Rattle.node_match.specs.Sets.{Among}
use Rattle.node_search.specs.Steady.{IsSteady}
use Rattle.node_search.proofs.steady.are_steady.Given as goal

abbrev pub invariant-loop-at : goal.invariant-loop-at
invariant-loop-at l = (q : Node) → Among (drop l.from l.patterns) q → IsSteady l.trail q ⊎ Among (drop l.at l.patterns) q
