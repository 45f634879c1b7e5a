-- The tree of a closed run of C's expressions, type names, specs and declarators.
use Rattle.std.specs.Prelude.{◌≡◌, ◌≤◌, ℕ, true, List, [], ◌∷◌, length, map}
use Rattle.node_tree.specs.declared.node.Node.{Node}
use Rattle.node_tree.specs.declared.view.Mode.{Mode}
use Rattle.grammar.specs.Rule.{IsRun, brackets_round}
use Rattle.c_lex.specs.declared.token.CToken.{CToken}
use Rattle.c_expr.specs.declared.word.Token.{Token}
use Rattle.c_expr.specs.declared.read.CLevel.{CLevel}
use Rattle.c_expr.specs.declared.read.CLevel.TheVariants as levels
use Rattle.c_expr.specs.Words.{class, of_mode, token_of}
use Rattle.c_expr.specs.Table.{Level, Comma, Assign, Cond, Or, Cast, Unary, Postfix, Prim, Tname, Spec, Declr, Var, grammar}
use Rattle.c_expr.specs.Build.{token_at, tallest, source}

-- the level of the grammar that a level names
abbrev pub level_of : CLevel → Level
level_of levels.Comma = Comma
level_of levels.Assign = Assign
level_of levels.Cond = Cond
level_of levels.Lor = Or
level_of levels.Cast = Cast
level_of levels.Unary = Unary
level_of levels.Postfix = Postfix
level_of levels.Prim = Prim
level_of levels.Tname = Tname
level_of levels.Spec = Spec
level_of levels.Declr = Declr
level_of levels.Var = Var

-- The tree of the closed run of a level between two places of the tokens, in a mode, with its depth, which counts the widths of members too.
pub record IsRunTree (mode : Mode) (ts : List Token) (l : CLevel) (from : ℕ) (tree : Node) (to : ℕ) : Type 0 where
  pub within : to ≤ length ts
  pub depth : ℕ
  pub run : IsRun grammar (of_mode mode) tallest (source ts) (level_of l) (record { node = tree; depth = depth } ∷ []) from to

-- the same of the tokens of the scanner
abbrev pub IsTree : Mode → List CToken → CLevel → ℕ → Node → ℕ → Type 0
IsTree mode ts l from tree to = IsRunTree mode (map (token_of mode) ts) l from tree to

-- how many brackets the token at a place stands inside, from another place on
unfoldable pub round_at : List Token → ℕ → ℕ → ℕ
round_at ts from n = brackets_round grammar.opens grammar.closes (source ts).cls from n

-- each token has a word of the mode
abbrev pub AreOf : Mode → List Token → Type 0
AreOf mode ts = (k : ℕ) → of_mode mode (class (token_at ts k).word) ≡ true
