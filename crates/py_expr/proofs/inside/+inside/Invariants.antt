use Rattle.std.proofs.Common.{◌+◌, ◌*◌, ◌-◌}
use Rattle.py_expr.specs.Items.{AreItems}
use Rattle.py_expr.specs.Insides.{HasNodes, AreParts}
use Rattle.py_expr.proofs.Tokens.{GoesOn}
use Rattle.py_expr.proofs.inside.+inside.Given as goal

abbrev pub decreases-items : goal.decreases-items
decreases-items l = 8 * l.levels + 4

abbrev pub decreases-item : goal.decreases-item
decreases-item l = 8 * l.levels + 3

abbrev pub decreases-nodes : goal.decreases-nodes
decreases-nodes l = 8 * l.levels + 2

abbrev pub decreases-part : goal.decreases-part
decreases-part l = 8 * l.levels + 6

abbrev pub decreases-value : goal.decreases-value
decreases-value l = 8 * l.levels + 5

abbrev pub invariant-items-loop-at : goal.invariant-items-loop-at
invariant-items-loop-at l = GoesOn (AreItems (HasNodes l.fn.levels l.fn.mode) l.fn.mode) l.fn.tokens l.all l.at

abbrev pub invariant-nodes-loop-at : goal.invariant-nodes-loop-at
invariant-nodes-loop-at l = GoesOn (AreParts (HasNodes (l.fn.levels - 1) l.fn.mode) l.fn.mode) l.fn.parts l.all l.at
