-- Which tree a module in Python has, and which pattern a text in Python is.
use Rattle.std.specs.Prelude.{◌≡◌, ◌≤◌, ◌-◌, ℕ, List, [], ◌∷◌, length}
use Rattle.node_tree.specs.declared.node.Node.{Node}
use Rattle.node_tree.specs.declared.kind.Kind.TheVariants as k
use Rattle.node_tree.specs.declared.view.Mode.{Mode}
use Rattle.node_tree.specs.declared.view.Mode.TheVariants as modes
use Rattle.node_tree.specs.declared.view.Shape.{Shape}
use Rattle.node_tree.specs.declared.view.Shape.TheVariants as shapes
use Rattle.node_tree.specs.Tree.{kind_of, kids_of, depth_of}
use Rattle.grammar.specs.Rule.{IsPiece}
use Rattle.py_lex.specs.declared.token.PyToken.{PyToken}
use Rattle.py_lex.specs.Lexing.{IsTokensOf}
use Rattle.py_expr.specs.declared.item.Item.{Item}
use Rattle.py_expr.specs.Items.{AreItems}
use Rattle.py_expr.specs.Insides.{HasNodes}
use Rattle.py_expr.specs.Parts.{wholes, node, depth_all}
use Rattle.py_expr.specs.Build.{token_at}
use Rattle.py_suite.specs.Table.{File, grammar}
use Rattle.py_suite.specs.Build.{end_from, source}

-- the tokens of a text in a mode, as the grammar sees them
pub record AreItemsOf (mode : Mode) (text : List ℕ) (items : List Item) : Type 0 where
  pub tokens : List PyToken
  pub lexes : IsTokensOf mode text tokens
  pub are : AreItems (HasNodes 500 mode) mode tokens items

-- all the items are these statements and the end of a text, within the limits of the grammar
abbrev pub AreStatements : List Item → List Node → Type 0
AreStatements items ns = IsPiece grammar depth_all (source items) File (wholes ns) 0 (length items)

-- ---- modules

-- The root of a module is over its statements, spans the whole text, and is at most 500 deep.
pub record IsModule (text : List ℕ) (root : Node) : Type 0 where
  pub items : List Item
  pub of_text : AreItemsOf modes.Text text items
  pub statements : List Node
  pub spelled : AreStatements items statements
  pub is_root : root ≡ node k.Root [] 0 (length text) statements
  pub shallow : depth_of root ≤ 500

-- ---- patterns

-- one statement, which is this expression
pub record IsExpression (ns : List Node) (tree : Node) : Type 0 where
  pub statement : Node
  pub one : ns ≡ statement ∷ []
  pub kind : kind_of statement ≡ k.ExprStmt
  pub kid : kids_of statement ≡ tree ∷ []

-- The block of the statements that the items are, but for the last, which ends the text: from where the first begins to where the last ends.
abbrev pub block : List Item → List Node → Node
block items [] = node k.Block [] 0 0 []
block items ns = node k.Block [] (token_at items 0).span.from (end_from items 0 (length items - 1)) ns

-- statements are an expression where they are one, else a run
pub data IsShape (items : List Item) (ns : List Node) : Shape → Node → Type 0 where
  expression : {tree : Node} → IsExpression ns tree → IsShape items ns shapes.Expr tree
  run : {tree : Node} → ((other : Node) → IsExpression ns other → ⊥) → tree ≡ block items ns → IsShape items ns shapes.Run tree

-- The tree of a pattern is that of its expression, or the block of its statements, and is at most 500 deep.
pub record IsPattern (text : List ℕ) (shape : Shape) (tree : Node) : Type 0 where
  pub items : List Item
  pub of_text : AreItemsOf modes.Pattern text items
  pub statements : List Node
  pub spelled : AreStatements items statements
  pub is_shape : IsShape items statements shape tree
  pub shallow : depth_of tree ≤ 500
