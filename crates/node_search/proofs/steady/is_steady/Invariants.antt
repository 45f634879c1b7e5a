use Rattle.std.proofs.Common.{◌⊎◌}
use Rattle.node_tree.specs.declared.node.Node.{Node}
use Rattle.node_tree.specs.Tree.{kind_of, text_of, pre_of}
use Rattle.node_match.specs.Kinds.{role_of}
use Rattle.node_match.specs.Sets.{Among}
use Rattle.node_search.specs.Steady.{BindsNothing}
use Rattle.node_search.proofs.steady.is_steady.Given as goal

abbrev pub invariant-loop-node : goal.invariant-loop-node
invariant-loop-node l = (n : Node) → Among (pre_of l.fn.pattern) n → BindsNothing l.fn.trail (role_of (kind_of n)) (text_of n) ⊎ Among l.node-iterator n
