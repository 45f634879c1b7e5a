-- The tree of a closed run of Python's expressions.
use Rattle.std.specs.Prelude.{◌≡◌, ◌≤◌, ℕ, Bool, true, not, List, [], ◌∷◌, length}
use Rattle.node_tree.specs.declared.node.Node.{Node}
use Rattle.node_tree.specs.declared.view.Mode.{Mode}
use Rattle.node_tree.specs.declared.view.Mode.TheVariants as modes
use Rattle.grammar.specs.Rule.{has, IsRun}
use Rattle.py_lex.specs.declared.token.PyToken.{PyToken}
use Rattle.py_expr.specs.declared.item.Item.{Item}
use Rattle.py_expr.specs.declared.word.Word.TheVariants as w
use Rattle.py_expr.specs.declared.level.PyLevel.{PyLevel}
use Rattle.py_expr.specs.declared.level.PyLevel.TheVariants as levels
use Rattle.py_expr.specs.Words.{class}
use Rattle.py_expr.specs.Items.{AreItems}
use Rattle.py_expr.specs.Insides.{HasNodes}
use Rattle.py_expr.specs.Parts.{whole, depth_all}
use Rattle.py_expr.specs.Table.{Level, Exprs, Star, Named, Test, Or, And, Not, Cmp, Bor, Unary, Power, Await, Prim, Atom, Yield, Targs, Target, Params, Args, grammar}
use Rattle.py_expr.specs.Build.{token_at, source}

-- the classes of patterns, which are all
abbrev pub of_pattern : ℕ → Bool
of_pattern c = true

-- the classes that a text may have, and not a pattern alone
abbrev pub pattern_only : List ℕ
pattern_only = class w.Meta ∷ class w.Dots ∷ class w.MetaDots ∷ class w.StrAny ∷ class w.BraceDots ∷ class w.CommaDots ∷ class w.DeepOpen ∷ class w.DeepClose ∷ []

abbrev pub of_text : ℕ → Bool
of_text c = not (has pattern_only c)

abbrev pub of_mode : Mode → ℕ → Bool
of_mode modes.Text = of_text
of_mode modes.Pattern = of_pattern

-- the level of the grammar that a level names
abbrev pub level_at : PyLevel → Level
level_at levels.Exprs = Exprs
level_at levels.Star = Star
level_at levels.Named = Named
level_at levels.Test = Test
level_at levels.Or = Or
level_at levels.And = And
level_at levels.Not = Not
level_at levels.Cmp = Cmp
level_at levels.Bor = Bor
level_at levels.Unary = Unary
level_at levels.Power = Power
level_at levels.Await = Await
level_at levels.Prim = Prim
level_at levels.Atom = Atom
level_at levels.Yield = Yield
level_at levels.Targs = Targs
level_at levels.Target = Target
level_at levels.Params = Params
level_at levels.Args = Args

-- The tree of the closed run of a level between two places of the items, in a mode.
pub record IsRunTree (mode : Mode) (ts : List Item) (l : PyLevel) (from : ℕ) (tree : Node) (to : ℕ) : Type 0 where
  pub within : to ≤ length ts
  pub run : IsRun grammar (of_mode mode) depth_all (source ts) (level_at l) (whole tree ∷ []) from to

-- The same of tokens, where at most 500 f-strings stand within one another.
pub record IsTree (mode : Mode) (ts : List PyToken) (l : PyLevel) (from : ℕ) (tree : Node) (to : ℕ) : Type 0 where
  pub items : List Item
  pub are : AreItems (HasNodes 500 mode) mode ts items
  pub reads : IsRunTree mode items l from tree to

-- each item has a word of the mode
abbrev pub AreOf : Mode → List Item → Type 0
AreOf mode ts = (k : ℕ) → of_mode mode (class (token_at ts k).word) ≡ true
