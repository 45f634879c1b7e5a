-- What is ready to be looked up.
use Rattle.std.specs.Prelude.{◌≡◌, ℕ, List, map, Option, IfSome}
use Rattle.node_tree.specs.declared.view.Pattern.{Pattern}
use Rattle.piece_form.specs.declared.piece.Piece.{Piece}
use Rattle.piece_form.specs.Keys.{IsKeyOf}
use Rattle.file_parts.specs.Parts.{SeenPart, needed_of}
use Rattle.kept_leaves.specs.Kept.{PieceRef}
use Rattle.kept_leaves.specs.Pairs.{Pair}

-- the key is that of the piece, and what is ready is that piece
pub record IsReadyPart (part : SeenPart) (key : PieceRef) (ready : Option Piece) : Type 0 where
  pub of_piece : IsKeyOf part.placed.piece key.value
  pub same : IfSome ready (λ p. p ≡ part.placed.piece)

-- what is ready is that pattern
abbrev pub IsAskedPattern : Pattern → Option Pattern → Type 0
IsAskedPattern pattern ready = IfSome ready (λ p. p ≡ pattern)

-- the pair of a part and a pattern
abbrev pub pair_of : List ℕ → Pattern → SeenPart → Pair
pair_of path pattern part = record { path = path; piece = part.placed.piece; pattern = pattern }

-- the pairs of those of these parts that a pattern needs
abbrev pub pairs_of : List ℕ → Pattern → List SeenPart → List Pair
pairs_of path pattern parts = map (pair_of path pattern) (needed_of pattern parts)
