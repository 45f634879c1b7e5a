use Rattle.std.proofs.Common.{◌≡◌, drop}
use Rattle.std.specs.List.{list_all}
use Rattle.node_tree.specs.Tree.{kids_of}
use Rattle.piece_match.specs.Pieces.{stands_alone}
use Rattle.piece_match.proofs.apart.falls_apart.Given as goal

abbrev pub invariant-loop-kid : goal.invariant-loop-kid
invariant-loop-kid l = list_all stands_alone (drop l.kid-index l.kid-items) ≡ list_all stands_alone (kids_of l.tree)
