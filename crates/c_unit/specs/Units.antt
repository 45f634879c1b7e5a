-- Which tree a file in C has, and which pattern a text in C is.
-- They rest on the tokens of `c_lex` (`Lexing`), and on the grammars of `c_expr` and `c_items` (`Table`, with what the next tokens
-- settle in `Settling` and the nodes in `Build`).
use Rattle.std.specs.Prelude.{◌≡◌, ◌<◌, ◌≤◌, ℕ, List, [], ◌∷◌, length, map, eqb, cond}
use Rattle.node_tree.specs.declared.node.Node.{Node}
use Rattle.node_tree.specs.declared.kind.Kind.TheVariants as k
use Rattle.node_tree.specs.declared.span.Span.{Span}
use Rattle.node_tree.specs.declared.view.Mode.{Mode}
use Rattle.node_tree.specs.declared.view.Mode.TheVariants as modes
use Rattle.node_tree.specs.declared.view.Shape.{Shape}
use Rattle.node_tree.specs.declared.view.Shape.TheVariants as shapes
use Rattle.grammar.specs.Rule.{IsPiece}
use Rattle.c_lex.specs.declared.token.CToken.{CToken}
use Rattle.c_lex.specs.Lexing.{IsTokensOf}
use Rattle.c_expr.specs.declared.word.Token.{Token}
use Rattle.c_expr.specs.declared.word.Word.TheVariants.{End}
use Rattle.c_expr.specs.declared.part.Part.{Part}
use Rattle.c_expr.specs.Words.{class, token_of}
use Rattle.c_expr.specs.Table.{Comma}
use Rattle.c_expr.specs.Build.{token_at, tallest, source, node, nodes, span_between}
use Rattle.c_unit.specs.declared.whole.Whole.{Whole}
use Rattle.c_unit.specs.declared.whole.Whole.TheVariants as wholes
use Rattle.c_items.specs.Table.{Level, Expression, Items, File, grammar}

-- the tokens of a text, with their words in a mode
pub record AreWords (mode : Mode) (text : List ℕ) (ts : List Token) : Type 0 where
  pub tokens : List CToken
  pub lexes : IsTokensOf mode text tokens
  pub words : ts ≡ map (token_of mode) tokens

-- A level spells the tokens from the first up to the end by these parts, within the limits.
pub record IsAll (l : Level) (ts : List Token) (ps : List Part) (end : ℕ) : Type 0 where
  pub within : end ≤ length ts
  pub ends : class (token_at ts end).word ≡ class End
  pub piece : IsPiece grammar tallest (source ts) l ps 0 end

-- the level of what is read as a whole
abbrev pub level_of : Whole → Level
level_of wholes.Expression = Expression Comma
level_of wholes.Items = Items
level_of wholes.FileItems = File

-- ---- files

-- The root of a file spans the whole text, and is at most 500 deep.
pub record IsUnit (text : List ℕ) (root : Node) : Type 0 where
  pub tokens : List Token
  pub words : AreWords modes.Text text tokens
  pub items : List Part
  pub end : ℕ
  pub all : IsAll File tokens items end
  pub shallow : tallest items < 500
  pub is_root : root ≡ node k.Root [] (nodes items) (record { from = 0; to = length text })

-- ---- patterns

-- the tokens are an expression
pub record IsExpression (ts : List Token) (tree : Node) : Type 0 where
  pub depth : ℕ
  pub end : ℕ
  pub all : IsAll (Expression Comma) ts (record { node = tree; depth = depth } ∷ []) end

-- from the start of the first of so many tokens to the end of the last; of none it is the empty span at the text's start
abbrev pub run_span : List Token → ℕ → Span
run_span ts end = cond (eqb end 0) (record { from = 0; to = 0 }) (span_between ts 0 end)

-- the tokens are items of a level, and the block of them is at most 500 deep
pub record IsRun (l : Level) (ts : List Token) (block : Node) : Type 0 where
  pub items : List Part
  pub end : ℕ
  pub all : IsAll l ts items end
  pub shallow : tallest items < 500
  pub is_block : block ≡ node k.Block [] (nodes items) (run_span ts end)

-- Which pattern tokens are: an expression where they are one, else a run of the items of a block, else one of a file's.
pub data IsPatternOf (ts : List Token) : Shape → Node → Type 0 where
  expression : {tree : Node} → IsExpression ts tree → IsPatternOf ts shapes.Expr tree
  items : {block : Node} → ((tree : Node) → IsExpression ts tree → ⊥) → IsRun Items ts block → IsPatternOf ts shapes.Run block
  file_items : {block : Node} → ((tree : Node) → IsExpression ts tree → ⊥) → ((other : Node) → IsRun Items ts other → ⊥) → IsRun File ts block → IsPatternOf ts shapes.Run block

-- the same of a text
pub record IsPattern (text : List ℕ) (shape : Shape) (tree : Node) : Type 0 where
  pub tokens : List Token
  pub words : AreWords modes.Pattern text tokens
  pub is_pattern : IsPatternOf tokens shape tree
