-- Which parts of a pattern a search along kids asks for.
use Rattle.std.specs.Prelude.{ℕ, List, drop, Bool, true, false}
use Rattle.node_tree.specs.declared.node.Node.{Node}
use Rattle.node_tree.specs.Tree.{kids_of}
use Rattle.node_match.specs.Free.{Part, parts_of}
use Rattle.node_match.specs.Orders.{unnamed_of, all_asked}

-- those from one on: of all parts, or of the arguments without a name
abbrev pub left_parts : Bool → Node → ℕ → List Part
left_parts true p at = all_asked (unnamed_of (drop at (kids_of p)))
left_parts false p at = drop at (parts_of p)
