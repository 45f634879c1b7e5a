-- Steps of the reader: what it gives by the table, in the forms of its functions. No promise of `py_stmt` cites them.
use Rattle.std.specs.Prelude.{ℕ, suc, length, ◌-◌, Bool, true, false, List, [], ◌∷◌, ◌++◌, Option, Some, None}
use Rattle.node_tree.specs.declared.node.Node.{Node}
use Rattle.node_tree.specs.declared.kind.Kind.{Kind}
use Rattle.node_tree.specs.declared.kind.Kind.TheVariants as k
use Rattle.grammar.specs.Rule.{ref, word, opt, rep, make, has, ◌·◌}
use Rattle.grammar.specs.Reader.{read, read_level, choice, ◌>>=◌}
use Rattle.py_expr.specs.declared.item.Item.{Item}
use Rattle.py_expr.specs.declared.word.Word.{Word}
use Rattle.py_expr.specs.declared.word.Word.TheVariants as w
use Rattle.py_expr.specs.declared.level.PyLevel.{PyLevel}
use Rattle.py_expr.specs.Runs.{level_at}
use Rattle.py_expr.specs.Words.{class}
use Rattle.py_expr.specs.Parts.{Part, whole, wholes}
use Rattle.py_expr.specs.Build.{token_at}
use Rattle.py_expr.specs.Table as expressions
use Rattle.py_suite.specs.declared.series.Series.{Series}
use Rattle.py_suite.specs.declared.series.Series.TheVariants as series_of
use Rattle.py_suite.specs.Table as rows
use Rattle.py_suite.specs.Table.{Level, Expression, Row, Value, ValuesTail, NamesTail, AliasesTail, WithItemsTail, DecoratorsTail, DottedTail, DotsTail, MoreAliasesTail, LineTail, StmtsTail, HandlersTail, Simple, Alias, Stmt, Handler, Decorator, ElsePart, Statement, Valued, Several, Dotting, table, tok, sign, value, looped}
use Rattle.py_suite.specs.Build.{source, filled, written, pointed}
use Rattle.py_suite.specs.reader.Sets.{sets, ranks}

-- the reader of a level, by the table
unfoldable pub level : List Item → ℕ → Level → ℕ → Option (List Part × ℕ)
level ts room l i = read_level (source ts) sets (suc (length ts)) table ranks.top room l i

-- what a row reads, over the levels at hand and those one step deeper
abbrev pub row : List Item → ℕ → Row → ℕ → Option (List Part × ℕ)
row ts room r i = read (source ts) sets (suc (length ts)) (choice (level ts room) (level ts (room - 1))) (λ i. None) None r i

-- what a level reads, as the words that count and the kids of a statement that begins there
abbrev pub heads : List Item → ℕ → ℕ → Level → ℕ → Option (List ℕ × List Node × ℕ)
heads ts room from l i = level ts room l i >>= λ x. Some (written x.0, filled from x.0, x.1)

-- ---- results as parts

abbrev pub one : Node × ℕ → List Part × ℕ
one x = (whole x.0 ∷ [], x.1)

abbrev pub all : List Node × ℕ → List Part × ℕ
all x = (wholes x.0, x.1)

-- the node that was found, if one was
abbrev pub found : Option Node → List Node
found None = []
found (Some n) = n ∷ []

abbrev pub optional : Option Node × ℕ → List Part × ℕ
optional x = (wholes (found x.0), x.1)

abbrev pub headed : List ℕ × Node × ℕ → List ℕ × List Node × ℕ
headed x = (x.0, x.1 ∷ [], x.2)

-- ---- parts of rows that have functions of their own

abbrev pub some_exprs : List Item → ℕ → ℕ → Option (List Part × ℕ)
some_exprs ts room i = row ts room (opt (value expressions.Exprs)) i

abbrev pub marked : List Item → ℕ → Word → PyLevel → ℕ → Option (List Part × ℕ)
marked ts room m l i = row ts room (opt (tok m · ref (Expression (level_at l)))) i

abbrev pub assigned : List Item → ℕ → ℕ → Option (List Part × ℕ)
assigned ts room i = row ts room (opt rows.further_value) i

-- a statement of the keyword that stands there
abbrev pub keyword : List Item → Kind → ℕ → Option (List Part × ℕ)
keyword ts kind i = Some ((source ts).build (Statement kind) i (suc i) [], suc i)

abbrev pub yielded : List Item → ℕ → ℕ → Option (List Part × ℕ)
yielded ts room i = row ts room (make Valued (value expressions.Yield)) i

-- names behind the keyword that stands there
abbrev pub declared : List Item → ℕ → Kind → ℕ → Option (List Part × ℕ)
declared ts room kind i = row ts room rows.names_of (suc i) >>= λ x. Some ((source ts).build (Statement kind) i x.1 x.0, x.1)

abbrev pub everything : List Item → ℕ → Option (List Part × ℕ)
everything ts i = Some ((source ts).build Several i (suc i) ((source ts).build (Statement k.Alias) i (suc i) ((source ts).build Dotting i (suc i) (Part.sign (token_at ts i).text ∷ []))), suc i)

-- ---- items in a row

abbrev pub row_of : Series → Row
row_of series_of.Values = rows.further_value
row_of series_of.Names = rows.further_name
row_of series_of.Aliases = rows.further_alias
row_of series_of.Items = rows.further_item
row_of series_of.Decorators = ref Decorator

abbrev pub tail_of : Series → Level
tail_of series_of.Values = ValuesTail
tail_of series_of.Names = NamesTail
tail_of series_of.Aliases = AliasesTail
tail_of series_of.Items = WithItemsTail
tail_of series_of.Decorators = DecoratorsTail

-- the classes that go on with a row
abbrev pub marks_of : Series → List ℕ
marks_of series_of.Values = class w.Equal ∷ []
marks_of series_of.Decorators = class w.At ∷ []
marks_of _ = expressions.commas

abbrev pub goes_on : List Item → Series → ℕ → Bool
goes_on ts s i = has (marks_of s) (class (token_at ts i).word)

unfoldable pub further : List Item → ℕ → Series → ℕ → Option (List Part × ℕ)
further ts room s i = row ts room (rep (tail_of s) (looped (row_of s))) i

-- some nodes, and what is read behind them
abbrev pub along : List Node → Option (List Part × ℕ) → Option (List Part × ℕ)
along ns r = r >>= λ x. Some (wholes ns ++ x.0, x.1)

-- whether parts are words that count, and no nodes
abbrev pub are_signs : List Part → Bool
are_signs [] = true
are_signs (Part.sign text ∷ ps) = are_signs ps
are_signs (p ∷ ps) = false

abbrev pub signs : List ℕ × ℕ → List ℕ × Bool × ℕ
signs x = (x.0, true, x.1)

-- a text, and what parts of a name, or points, are read behind it, and that they are no nodes
abbrev pub pointed_behind : List ℕ → Option (List Part × ℕ) → Option (List ℕ × Bool × ℕ)
pointed_behind text r = r >>= λ x. Some (text ++ pointed x.0, are_signs x.0, x.1)

unfoldable pub further_parts : List Item → ℕ → ℕ → Option (List Part × ℕ)
further_parts ts room i = row ts room (rep DottedTail (looped rows.further_part)) i

abbrev pub behind : List ℕ → Option (List Part × ℕ) → Option (List ℕ × Bool × ℕ)
behind text r = r >>= λ x. Some (text ++ written x.0, are_signs x.0, x.1)

unfoldable pub further_points : List Item → ℕ → ℕ → Option (List Part × ℕ)
further_points ts room i = row ts room (rep DotsTail (looped (word expressions.Operator rows.points))) i

-- further statements of a line, names of an import, statements and handlers
unfoldable pub more_simples : List Item → ℕ → ℕ → Option (List Part × ℕ)
more_simples ts room i = row ts room (rep LineTail (rows.parted (class w.Semicolon ∷ []) Simple)) i

unfoldable pub more_aliases : List Item → ℕ → ℕ → Option (List Part × ℕ)
more_aliases ts room i = row ts room (rep MoreAliasesTail (rows.parted expressions.commas Alias)) i

unfoldable pub more_statements : List Item → ℕ → ℕ → Option (List Part × ℕ)
more_statements ts room i = row ts room (rep StmtsTail (looped (ref Stmt))) i

unfoldable pub more_handlers : List Item → ℕ → ℕ → Option (List Part × ℕ)
more_handlers ts room i = row ts room (rep HandlersTail (looped (ref Handler))) i

-- ---- parts of compound statements

-- kids alone, with no words that count
abbrev pub one_kid : Node × ℕ → List ℕ × List Node × ℕ
one_kid x = ([], x.0 ∷ [], x.1)

abbrev pub two_kids : Node × Node × ℕ → List ℕ × List Node × ℕ
two_kids x = ([], x.0 ∷ x.1 ∷ [], x.2)

abbrev pub kids_alone : List Node × ℕ → List ℕ × List Node × ℕ
kids_alone x = ([], x.0, x.1)

-- what a row reads, in the same form
abbrev pub row_heads : List Item → ℕ → ℕ → Row → ℕ → Option (List ℕ × List Node × ℕ)
row_heads ts room from r i = row ts room r i >>= λ x. Some (written x.0, filled from x.0, x.1)

-- some kids, and those that are read behind them
abbrev pub kids_behind : List Node → Option (List ℕ × List Node × ℕ) → Option (List ℕ × List Node × ℕ)
kids_behind ns r = r >>= λ x. Some (x.0, ns ++ x.1, x.2)

abbrev pub body : List Item → ℕ → ℕ → Option (List Part × ℕ)
body ts room i = row ts room rows.body i

abbrev pub condition : List Item → ℕ → ℕ → Option (List Part × ℕ)
condition ts room i = row ts room rows.condition i

abbrev pub some_else : List Item → ℕ → ℕ → Option (List Part × ℕ)
some_else ts room i = row ts room (opt (ref ElsePart)) i

abbrev pub else_or_absent : List Item → ℕ → ℕ → ℕ → Option (List ℕ × List Node × ℕ)
else_or_absent ts room from i = row_heads ts room from (rows.maybe (ref ElsePart)) i

abbrev pub caught_name : List Item → ℕ → ℕ → Option (List ℕ × List Node × ℕ)
caught_name ts from i = row_heads ts 1 from rows.caught_name i

abbrev pub returns : List Item → ℕ → ℕ → ℕ → Option (List ℕ × List Node × ℕ)
returns ts room from i = row_heads ts room from rows.returns i
