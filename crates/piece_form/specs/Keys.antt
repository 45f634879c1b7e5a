-- The keys of pieces and patterns.
use Rattle.std.specs.Prelude.{◌≡◌, length}
use Rattle.node_tree.specs.declared.view.Pattern.{Pattern}
use Rattle.tree_code.specs.Sums.{mixed}
use Rattle.piece_form.specs.declared.key.PatternKey.{PatternKey}
use Rattle.piece_form.specs.declared.key.PieceKey.{PieceKey}
use Rattle.piece_form.specs.declared.piece.Piece.{Piece}
use Rattle.piece_form.specs.Code.{piece_code, pattern_code}
use Rattle.piece_form.specs.Identity.{identity_of}

-- the key has the bytes of the piece, how many there are, and all else that counts of it written as bytes
pub record IsKeyOf (piece : Piece) (key : PieceKey) : Type 0 where
  pub size : key.size ≡ length piece.bytes
  pub bytes : key.bytes.items ≡ piece.bytes
  pub code : key.code.items ≡ piece_code (identity_of piece)

-- the key has the pattern written as bytes, and a number made from these
pub record IsPatternKeyOf (pattern : Pattern) (key : PatternKey) : Type 0 where
  pub sum : key.sum ≡ mixed 0 (pattern_code pattern)
  pub code : key.code.items ≡ pattern_code pattern
