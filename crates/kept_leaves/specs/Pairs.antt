-- Pairs of a piece and a pattern.
use Rattle.std.specs.Prelude.{◌≡◌, ℕ, List, [], ◌∷◌}
use Rattle.node_tree.specs.declared.view.Pattern.{Pattern}
use Rattle.node_match.specs.Sets.{Among}
use Rattle.piece_form.specs.declared.piece.Piece.{Piece}
use Rattle.piece_form.specs.Identity.{IsSamePiece}

-- a path, a piece of the file there, and a pattern
pub record Pair : Type 0 where
  pub path : List ℕ
  pub piece : Piece
  pub pattern : Pattern

-- path and pattern are equal, and the pieces count as one
pub record IsSamePair (x y : Pair) : Type 0 where
  pub path : x.path ≡ y.path
  pub piece : IsSamePiece x.piece y.piece
  pub pattern : x.pattern ≡ y.pattern

-- the pair is one of these
abbrev pub IsOneOf : List Pair → Pair → Type 0
IsOneOf pairs x = (y : Pair) × Among pairs y × IsSamePair y x

-- no two of these are one pair
abbrev pub AreApart : List Pair → Type 0
AreApart [] = Unit {0}
AreApart (x ∷ xs) = (IsOneOf xs x → ⊥) × AreApart xs
