-- Pieces and patterns written as bytes.
use Rattle.std.specs.Prelude.{ℕ, List, [], ◌∷◌, ◌++◌, length, Bool, true, false}
use denote.Enum.Declared.{tag_of}
use Rattle.node_tree.specs.declared.node.Node.{Node}
use Rattle.node_tree.specs.declared.view.Lang.{Lang}
use Rattle.node_tree.specs.contracts.view.Lang.{the_type as the_langs}
use Rattle.node_tree.specs.declared.view.Pattern.{Pattern}
use Rattle.node_tree.specs.contracts.view.Shape.{the_type as the_shapes}
use Rattle.tree_code.specs.Code.{number_code, tree_code}
use Rattle.piece_form.specs.Identity.{Identity}

-- the place of a language in the order of languages
abbrev pub lang_place : Lang → ℕ
lang_place lang = tag_of the_langs lang

-- names that are known to hold a literal: the number of each, and the literal
abbrev pub known_code : List (ℕ × Node) → List ℕ
known_code [] = []
known_code (k ∷ ks) = number_code k.0 ++ (tree_code k.1 ++ known_code ks)

-- a piece without its bytes: the language, the tree, and the known names behind their number
abbrev pub piece_code : Identity → List ℕ
piece_code i = lang_place i.lang ∷ (tree_code i.tree ++ (number_code (length i.known) ++ known_code i.known))

-- 1 for yes, 0 for no
abbrev pub bool_place : Bool → ℕ
bool_place true = 1
bool_place false = 0

-- a pattern: the language, the shape, whether constants count, and the tree
abbrev pub pattern_code : Pattern → List ℕ
pattern_code p = lang_place p.lang ∷ tag_of the_shapes p.shape ∷ bool_place p.constants ∷ tree_code p.tree
