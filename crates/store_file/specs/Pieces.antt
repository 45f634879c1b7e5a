-- The bytes of pieces and patterns, of which the file has the digests.
use Rattle.std.specs.Prelude.{ℕ, List, ◌++◌}
use denote.Enum.Declared.{tag_of}
use Rattle.node_tree.specs.declared.node.Node.{Node}
use Rattle.node_tree.specs.declared.view.Pattern.{Pattern}
use Rattle.node_tree.specs.contracts.view.Shape.{the_type as the_shapes}
use Rattle.piece_form.specs.Code.{lang_place, bool_place}
use Rattle.piece_form.specs.Identity.{Identity}
use Rattle.store_form.specs.Form.{number_bytes, text_bytes, list_bytes, node_bytes}

-- a known name: its number, and what of its literal counts
abbrev pub known_bytes : ℕ × Node → List ℕ
known_bytes k = number_bytes k.0 ++ node_bytes k.1

-- the place of the language, the bytes, the tree, and the known names
abbrev pub piece_bytes : Identity → List ℕ
piece_bytes piece = number_bytes (lang_place piece.lang) ++ (text_bytes piece.bytes ++ (node_bytes piece.tree ++ list_bytes known_bytes piece.known))

-- the places of the language and of the shape, 1 where constants count, and the tree
abbrev pub pattern_bytes : Pattern → List ℕ
pattern_bytes p = number_bytes (lang_place p.lang) ++ (number_bytes (tag_of the_shapes p.shape) ++ (number_bytes (bool_place p.constants) ++ node_bytes p.tree))
