-- Steps of the reader: what its functions read, in their forms. No promise of `read_py` cites them.
use Rattle.std.specs.Prelude.{ℕ, suc, ◌+◌, ◌-◌, Bool, true, false, cond, eqb, List, [], ◌∷◌, ◌++◌, length, Option, Some, None}
use Rattle.node_tree.specs.declared.node.Node.{Node}
use Rattle.node_tree.specs.declared.kind.Kind.{Kind}
use Rattle.grammar.specs.Rule.{has, ref, deep, opt, make, ◌·◌, brackets_round}
use Rattle.grammar.specs.Reader.{read, choice, read_level, ◌>>=◌}
use Rattle.py_expr.specs.declared.item.Item.{Item}
use Rattle.py_expr.specs.declared.word.Word.TheVariants as w
use Rattle.py_expr.specs.declared.level.Binary.{Binary}
use Rattle.py_expr.specs.declared.level.Binary.TheVariants as binaries
use Rattle.py_expr.specs.declared.level.Place.{Place}
use Rattle.py_expr.specs.declared.level.Place.TheVariants as places
use Rattle.py_expr.specs.declared.build.After.{After}
use Rattle.py_expr.specs.declared.build.After.TheVariants as afters
use Rattle.py_expr.specs.declared.build.Tail.{Tail}
use Rattle.py_expr.specs.declared.build.Entries.{Entries}
use Rattle.py_expr.specs.Words.{class}
use Rattle.py_expr.specs.Parts.{Part, whole, lacking, call, more, clauses, display, sign, bounds, node, nodes_of, wholes}
use Rattle.py_expr.specs.Table.{Level, Or, And, Not, Bor, Xor, Band, Shift, Sum, Term, Unary, Star, Target, Piece, Arg, Param, LambdaParam, AfterStar, AfterItem, AfterTarget, AfterPiece, AfterArg, AfterFirstArg, AfterParam, AfterLambdaParam, Stars, Targets, Pieces, MoreArgs, MoreParams, MoreLambdaParams, FirstEntry, LaterEntry, AfterPair, AfterFirstPair, Pairs, DottedPairs, Pair, DotsLeaf, Test, Given, LambdaGiven, LambdaParams, Further, Row, Ident, tok, table, grammar, factors}
use Rattle.py_expr.specs.declared.word.Word.{Word}
use Rattle.py_expr.specs.Table as rows
use Rattle.py_expr.specs.Build.{token_at, end_of, empty_list, undecided, parameter, leaf, source}
use Rattle.py_expr.specs.reader.Sets.{sets, ranks}

-- the reader of a level, by the table
unfoldable pub level : List Item → ℕ → Level → ℕ → Option (List Part × ℕ)
level ts room l i = read_level (source ts) sets (suc (length ts)) table ranks.top room l i

-- ---- results as parts

abbrev pub one : Node × ℕ → List Part × ℕ
one x = (whole x.0 ∷ [], x.1)

abbrev pub all : List Node × ℕ → List Part × ℕ
all x = (wholes x.0, x.1)

abbrev pub further : List Node × ℕ → List Part × ℕ
further x = (more x.0 ∷ [], x.1)

abbrev pub all_clauses : List Node × ℕ → List Part × ℕ
all_clauses x = (clauses x.0 ∷ [], x.1)

abbrev pub one_sign : List ℕ × ℕ → List Part × ℕ
one_sign x = (sign x.0 ∷ [], x.1)

abbrev pub after_parts : After → List Part
after_parts afters.Nothing = []
after_parts (afters.Further ns) = more ns ∷ []
after_parts (afters.Clauses ns) = clauses ns ∷ []

abbrev pub after : After × ℕ → List Part × ℕ
after x = (after_parts x.0, x.1)

abbrev pub with_after : Node × After × ℕ → List Part × ℕ
with_after x = (whole x.0 ∷ after_parts x.1, x.2)

-- the node that was found, if one was
abbrev pub found : Option Node → List Node
found None = []
found (Some n) = n ∷ []

abbrev pub optional : Option Node × ℕ → List Part × ℕ
optional x = (more (found x.0) ∷ [], x.1)

abbrev pub one_bounds : Option Node × Option Node × ℕ → List Part × ℕ
one_bounds x = (bounds (found x.0) (found x.1) ∷ [], x.2)

abbrev pub tail_by : Tail → Option Node → Part
tail_by t None = call t.to
tail_by t (Some n) = lacking t.kind t.text t.to (n ∷ [])

abbrev pub tail_part : Tail → Part
tail_part t = tail_by t t.kid

abbrev pub one_tail : Tail × ℕ → List Part × ℕ
one_tail x = (tail_part x.0 ∷ [], x.1)

abbrev pub entries_parts : Entries → List Part
entries_parts e = display e.kind e.text e.kids ∷ []

abbrev pub one_display : Entries × ℕ → List Part × ℕ
one_display x = (entries_parts x.0, x.1)

abbrev pub appended : List Node → List Node → List Node
appended front back = front ++ back

-- ---- levels by what functions are told

abbrev pub level_of : Binary → Level
level_of binaries.Or = Or
level_of binaries.And = And
level_of binaries.Bar = Bor
level_of binaries.Caret = Xor
level_of binaries.Ampersand = Band
level_of binaries.Shift = Shift
level_of binaries.Sign = Sum
level_of binaries.Factor = Term

abbrev pub operand_of : Binary → Level
operand_of binaries.Or = And
operand_of binaries.And = Not
operand_of binaries.Bar = Xor
operand_of binaries.Caret = Band
operand_of binaries.Ampersand = Shift
operand_of binaries.Shift = Sum
operand_of binaries.Sign = Term
operand_of binaries.Factor = Unary

-- what stands between the tightest operators that may stand in a chain of the level
abbrev pub tightest_of : Binary → Level
tightest_of binaries.Or = Not
tightest_of binaries.And = Not
tightest_of _ = Unary

-- the next tighter level of operators, where there is one
abbrev pub tighter_of : Binary → Option Binary
tighter_of binaries.Or = Some binaries.And
tighter_of binaries.And = None
tighter_of binaries.Bar = Some binaries.Caret
tighter_of binaries.Caret = Some binaries.Ampersand
tighter_of binaries.Ampersand = Some binaries.Shift
tighter_of binaries.Shift = Some binaries.Sign
tighter_of binaries.Sign = Some binaries.Factor
tighter_of binaries.Factor = None

abbrev pub operators_of : Binary → List ℕ
operators_of binaries.Or = class w.Or ∷ []
operators_of binaries.And = class w.And ∷ []
operators_of binaries.Bar = class w.Bar ∷ []
operators_of binaries.Caret = class w.Caret ∷ []
operators_of binaries.Ampersand = class w.Ampersand ∷ []
operators_of binaries.Shift = class w.Shift ∷ []
operators_of binaries.Sign = class w.Sign ∷ []
operators_of binaries.Factor = factors

abbrev pub item_of : Place → Level
item_of places.Star = Star
item_of places.Item = Star
item_of places.Target = Target
item_of places.Piece = Piece
item_of places.Arg = Arg
item_of places.FirstArg = Arg
item_of places.Param = Param
item_of places.LambdaParam = LambdaParam

abbrev pub after_of : Place → Level
after_of places.Star = AfterStar
after_of places.Item = AfterItem
after_of places.Target = AfterTarget
after_of places.Piece = AfterPiece
after_of places.Arg = AfterArg
after_of places.FirstArg = AfterFirstArg
after_of places.Param = AfterParam
after_of places.LambdaParam = AfterLambdaParam

abbrev pub further_of : Place → Level
further_of places.Star = Stars
further_of places.Item = Stars
further_of places.Target = Targets
further_of places.Piece = Pieces
further_of places.Arg = MoreArgs
further_of places.FirstArg = MoreArgs
further_of places.Param = MoreParams
further_of places.LambdaParam = MoreLambdaParams

abbrev pub takes_clauses : Place → Bool
takes_clauses places.Item = true
takes_clauses places.FirstArg = true
takes_clauses _ = false

abbrev pub set_place : Bool → Place
set_place true = places.Item
set_place false = places.Star

abbrev pub entry_of : Bool → Level
entry_of true = FirstEntry
entry_of false = LaterEntry

abbrev pub after_pair_of : Bool → Level
after_pair_of true = AfterFirstPair
after_pair_of false = AfterPair

abbrev pub pairs_of : Bool → Level
pairs_of true = DottedPairs
pairs_of false = Pairs

abbrev pub pair_of : Bool → Level
pair_of true = DotsLeaf
pair_of false = Pair

abbrev pub param_of : Bool → Level
param_of true = Param
param_of false = LambdaParam

-- ---- parts of rows that have functions of their own

-- what a row reads, over the levels at hand and those one step deeper
abbrev pub row : List Item → ℕ → Row → ℕ → Option (List Part × ℕ)
row ts room r i = read (source ts) sets (suc (length ts)) (choice (level ts room) (level ts (room - 1))) (λ i. None) None r i

abbrev pub starred : List Item → ℕ → ℕ → Option (List Part × ℕ)
starred ts room i = row ts room (rows.starred Bor) i

abbrev pub double_starred : List Item → ℕ → ℕ → Option (List Part × ℕ)
double_starred ts room i = row ts room (rows.double_starred Bor) i

-- a mark and a test behind it, or nothing
abbrev pub marked : List Item → ℕ → Word → ℕ → Option (List Part × ℕ)
marked ts room mark i = row ts room (make Further (opt (tok mark · ref Test))) i

abbrev pub given_of : Bool → Level
given_of true = Given
given_of false = LambdaGiven

abbrev pub given : Node × Option Node × Option Node × ℕ → List Part × ℕ
given x = (whole x.0 ∷ more (found x.1) ∷ more (found x.2) ∷ [], x.3)

-- a closing brace behind what stands in braces
abbrev pub closed : List Item → ℕ → Entries → ℕ → Option (List Part × ℕ)
closed ts from e i = cond (eqb (class w.RightBrace) (class (token_at ts i).word)) (Some (whole (node e.kind e.text from (end_of ts (i + 1)) e.kids) ∷ [], i + 1)) None

-- what tells dots in braces apart: nothing, or an entry behind a comma
abbrev pub decided : List Item → ℕ → List Node → ℕ → Option (List Part × ℕ)
decided ts room front i =
    ◌>>=◌ {B = List Part × ℕ} (cond {A = Option (List Part × ℕ)} (eqb (class w.Comma) (class (token_at ts i).word)) (cond {A = Option (List Part × ℕ)} (has (sets.first LaterEntry) (class (token_at ts (i + 1)).word)) (level ts room LaterEntry (i + 1)) (Some ([], i + 1))) (Some ([], i))) (λ y. Some (undecided front y.0 ∷ [], y.1))

-- a name, a mark and a test behind it, as a node
abbrev pub assigned : List Item → ℕ → Kind → ℕ → Option (List Part × ℕ)
assigned ts room kind i = ◌>>=◌ {B = List Part × ℕ} (level ts room Test (i + 2)) (λ x. Some (whole (node kind [] (token_at ts i).span.from (end_of ts x.1) (nodes_of (leaf Ident (token_at ts i) ∷ x.0))) ∷ [], x.1))

-- how many brackets the token at a place stands inside, from another place on
unfoldable pub round_at : List Item → ℕ → ℕ → ℕ
round_at ts from n = brackets_round grammar.opens grammar.closes (source ts).cls from n

-- the parameters of a lambda, where there are some
abbrev pub maybe : Option Node × ℕ → List Part × ℕ
maybe x = (wholes (found x.0), x.1)

abbrev pub some_params : List Item → ℕ → ℕ → Option (List Part × ℕ)
some_params ts room i = row ts room (opt (deep LambdaParams)) i

abbrev pub lambda_kids : ℕ → Option Node → Node → List Node
lambda_kids from None value = empty_list from ∷ value ∷ []
lambda_kids from (Some n) value = n ∷ value ∷ []

abbrev pub two : Node × Node × ℕ → List Part × ℕ
two x = (whole x.0 ∷ whole x.1 ∷ [], x.2)

abbrev pub for_part : List Item → ℕ → ℕ → Option (List Part × ℕ)
for_part ts room i = row ts room rows.for_part i

abbrev pub annotation : List Item → ℕ → Bool → ℕ → Option (List Part × ℕ)
annotation ts room true i = marked ts room w.Colon i
annotation ts room false i = Some (more [] ∷ [], i)

-- a test behind a mark
abbrev pub marked_arg : List Item → ℕ → Kind → ℕ → Option (List Part × ℕ)
marked_arg ts room kind i = ◌>>=◌ {B = List Part × ℕ} (level ts room Test (i + 1)) (λ x. Some (whole (node kind [] (token_at ts i).span.from (end_of ts x.1) (nodes_of x.0)) ∷ [], x.1))

-- a parameter behind a mark
abbrev pub marked_param : List Item → ℕ → Bool → ℕ → Option (List Part × ℕ)
marked_param ts room b i = ◌>>=◌ {B = List Part × ℕ} (level ts room (given_of b) (suc i)) (λ z. Some (parameter (token_at ts i).text (token_at ts i).span.from (end_of ts z.1) z.0, z.1))
