use Rattle.std.proofs.Common.{◌⊎◌, ◌+◌, ◌*◌, drop}
use Rattle.node_tree.specs.declared.node.Node.{Node}
use Rattle.node_match.specs.Sets.{Among}
use Rattle.node_match.specs.Free.{parts_of}
use Rattle.node_match.specs.Refused.{IsRefused}
use Rattle.node_match.proofs.Refused.{Reaches}
use Rattle.node_match.proofs.refusal.+refusal.Given as goal

abbrev pub decreases-is_refused : goal.decreases-is_refused
decreases-is_refused l = 8 * l.levels

abbrev pub decreases-are_arguments_refused : goal.decreases-are_arguments_refused
decreases-are_arguments_refused l = 8 * l.levels

abbrev pub decreases-is_kid_refused : goal.decreases-is_kid_refused
decreases-is_kid_refused l = 8 * l.levels + 1

abbrev pub decreases-is_front_refused : goal.decreases-is_front_refused
decreases-is_front_refused l = 8 * l.levels + 2

abbrev pub decreases-are_refused : goal.decreases-are_refused
decreases-are_refused l = 8 * l.levels + 3

abbrev pub decreases-is_none : goal.decreases-is_none
decreases-is_none l = 8 * l.levels + 1

abbrev pub decreases-is_choice_refused : goal.decreases-is_choice_refused
decreases-is_choice_refused l = 8 * l.levels + 2

abbrev pub decreases-is_named_refused : goal.decreases-is_named_refused
decreases-is_named_refused l = 8 * l.levels + 2

abbrev pub decreases-are_kids_refused : goal.decreases-are_kids_refused
decreases-are_kids_refused l = 8 * l.levels + 4

abbrev pub invariant-is_front_refused-loop-at : goal.invariant-is_front_refused-loop-at
invariant-is_front_refused-loop-at l = Reaches (parts_of l.pattern) l.nodes l.at

abbrev pub invariant-is_none-loop-node : goal.invariant-is_none-loop-node
invariant-is_none-loop-node l = (m : Node) → Among l.nodes m → IsRefused l.pattern m ⊎ Among (drop l.node-index l.nodes) m
