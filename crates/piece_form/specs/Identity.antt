-- What makes two pieces equal.
use Rattle.std.specs.Prelude.{◌≡◌, ℕ, List, map}
use Rattle.node_tree.specs.declared.node.Node.{Node}
use Rattle.node_tree.specs.declared.known.Known.{Known}
use Rattle.node_tree.specs.declared.view.Lang.{Lang}
use Rattle.node_tree.specs.Tree.{content_of}
use Rattle.piece_form.specs.declared.piece.Piece.{Piece}

-- a known name: its number, and what of its literal counts
abbrev pub known_content : Known → ℕ × Node
known_content k = (k.at, content_of k.literal)

abbrev pub known_contents : List Known → List (ℕ × Node)
known_contents ks = map known_content ks

-- what of a piece counts: two pieces are equal where this is equal
pub record Identity : Type 0 where
  pub lang : Lang
  pub bytes : List ℕ
  pub tree : Node
  pub known : List (ℕ × Node)

abbrev pub identity_of : Piece → Identity
identity_of p = record { lang = p.lang; bytes = p.bytes; tree = p.tree; known = known_contents p.known }

abbrev pub IsSamePiece : Piece → Piece → Type 0
IsSamePiece p q = identity_of p ≡ identity_of q
