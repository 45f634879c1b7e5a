-- Pieces that are ready for the search.
use Rattle.std.specs.Prelude.{◌≡◌, Bool}
use Rattle.node_tree.specs.declared.node.Node.{Node}
use Rattle.piece_form.specs.declared.piece.Piece.{Piece}
use Rattle.piece_match.specs.Pieces.{falls_apart}

-- the tree that is ready is that of the piece, and it is known whether it falls apart
pub record IsReadyPiece (piece : Piece) (tree : Node) (apart : Bool) : Type 0 where
  pub same : tree ≡ piece.tree
  pub falls : apart ≡ falls_apart piece.tree
