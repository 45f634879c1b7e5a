-- Which pattern a text writes, and why it writes none.
use Rattle.std.specs.Prelude.{◌≡◌, ℕ, ◌≤◌, Bool, true, false, List, [], ◌∷◌, length, ⊤}
use Rattle.node_tree.specs.declared.node.Node.{Node}
use Rattle.node_tree.specs.declared.view.Pattern.{Pattern}
use Rattle.node_tree.specs.declared.view.Lang.{Lang}
use Rattle.node_tree.specs.declared.view.Lang.TheVariants as langs
use Rattle.node_tree.specs.declared.view.Shape.{Shape}
use Rattle.node_tree.specs.declared.view.Shape.TheVariants.{Expr, Run}
use Rattle.node_tree.specs.declared.view.Mode.TheVariants as modes
use Rattle.node_tree.specs.Tree.{kind_of, kids_of}
use Rattle.json_tree.specs.Spells.{IsTreeOf}
use Rattle.py_stmt.specs.Modules as python
use Rattle.c_unit.specs.Units as c
use Rattle.code_reader.specs.declared.fault.PatternFault.{PatternFault}
use Rattle.code_reader.specs.declared.fault.PatternFault.TheVariants as faults
use Rattle.pattern_read.specs.Dots.{is_dots, are_all_dots, DotsArePlaced}

-- the text is a JSON pattern over this value
pub record IsJsonValue (text : List ℕ) (value : Node) : Type 0 where
  pub root : Node
  pub tree : IsTreeOf modes.Pattern text root
  pub kids : kids_of root ≡ value ∷ []

-- a pattern of JSON is one value
abbrev pub IsJsonPattern : List ℕ → Shape → Node → Type 0
IsJsonPattern text shape tree = (shape ≡ Expr) × IsJsonValue text tree

-- the text has this shape and tree as a pattern of the language
abbrev pub IsPatternTree : Lang → List ℕ → Shape → Node → Type 0
IsPatternTree langs.Json text shape tree = IsJsonPattern text shape tree
IsPatternTree langs.Python text shape tree = python.IsPattern text shape tree
IsPatternTree langs.C text shape tree = c.IsPattern text shape tree
IsPatternTree _ text shape tree = ⊥

-- the text, of at most 1,000,000 bytes, writes a pattern of the language with this tree, be its dots well placed or not
pub record IsTextOf (lang : Lang) (text : List ℕ) (shape : Shape) (tree : Node) : Type 0 where
  pub small : length text ≤ 1000000
  pub is_tree : IsPatternTree lang text shape tree

-- each top item is `...` or `$...X`: the expression, or each item of the run
abbrev pub is_only_dots : Shape → Node → Bool
is_only_dots Expr tree = is_dots (kind_of tree)
is_only_dots Run tree = are_all_dots (kids_of tree)

-- the text writes the pattern
pub record IsPatternOf (lang : Lang) (text : List ℕ) (pattern : Pattern) : Type 0 where
  pub is_text : IsTextOf lang text pattern.shape pattern.tree
  pub more_than_dots : is_only_dots pattern.shape pattern.tree ≡ false
  pub placed : DotsArePlaced pattern.tree
  pub same_lang : pattern.lang ≡ lang
  pub constants : pattern.constants ≡ true

-- when each fault is given
abbrev pub IsFault : Lang → List ℕ → PatternFault → Type 0
IsFault lang text faults.Memory = ⊤
IsFault lang text faults.NoPattern = (shape : Shape) (tree : Node) → IsTextOf lang text shape tree → ⊥
IsFault lang text faults.OnlyDots = (shape : Shape) × (tree : Node) × IsTextOf lang text shape tree × (is_only_dots shape tree ≡ true)
IsFault lang text faults.DotsPlace = (shape : Shape) × (tree : Node) × IsTextOf lang text shape tree × (is_only_dots shape tree ≡ false) × (DotsArePlaced tree → ⊥)
