-- What of a node stands before its kids.
use Rattle.std.specs.Prelude.{ℕ, List, ◌++◌, length}
use Rattle.node_tree.specs.declared.node.Node.{Node}
use Rattle.node_tree.specs.Tree.{kind_of, text_of, kids_of, span_of}
use Rattle.tree_code.specs.declared.head.Head.{Head}
use Rattle.tree_code.specs.Code.{number_code, text_code, place_code}

abbrev pub head_of : Node → Head
head_of n = record { kind = kind_of n; span = span_of n; text = text_of n; kids = length (kids_of n) }

abbrev pub head_code : Head → List ℕ
head_code h = place_code h.kind h.span ++ (text_code h.text ++ number_code h.kids)
