-- The grammar of Python's expressions as a table: a row of a level for each line of the grammar, with what patterns have besides.
use Rattle.std.specs.Prelude.{ℕ, Bool, true, false, List, [], ◌∷◌}
use Rattle.node_tree.specs.declared.kind.Kind.{Kind}
use Rattle.node_tree.specs.declared.kind.Kind.TheVariants as k
use Rattle.py_expr.specs.declared.word.Word.{Word}
use Rattle.py_expr.specs.declared.word.Word.TheVariants as w
use Rattle.py_expr.specs.Words.{class}
use Rattle.grammar.specs.Rule.{Rule, done, mark, word, ref, deep, again, around, look, opt, rep, make, ◌·◌, ◌∣◌, Grammar}

pub data Level : Type 0 where
  Exprs : Level
  Star : Level
  Named : Level
  Test : Level
  LambdaTest : Level
  Or : Level
  OrTail : Level
  And : Level
  AndTail : Level
  Not : Level
  Cmp : Level
  CmpTail : Level
  Cop : Level
  Bor : Level
  BorTail : Level
  Xor : Level
  XorTail : Level
  Band : Level
  BandTail : Level
  Shift : Level
  ShiftTail : Level
  Sum : Level
  SumTail : Level
  Term : Level
  TermTail : Level
  Unary : Level
  Power : Level
  Await : Level
  Prim : Level
  PrimTail : Level
  Suffix : Level
  Attr : Level
  Call : Level
  Sub : Level
  Atom : Level
  Strings : Level
  MoreStrings : Level
  StringsTail : Level
  Paren : Level
  Inner : Level
  Items : Level
  ListLit : Level
  Braces : Level
  FirstEntry : Level
  FirstValue : Level
  LaterEntry : Level
  LaterValue : Level
  Dotted : Level
  DottedTail : Level
  DotsLeaf : Level
  Pairs : Level
  DottedPairs : Level
  PairsTail : Level
  Pair : Level
  AfterPair : Level
  AfterFirstPair : Level
  Deep : Level
  Comprehension : Level
  ClausesTail : Level
  Clause : Level
  ForClause : Level
  Yield : Level
  Targs : Level
  Target : Level
  Index : Level
  Piece : Level
  SliceEnd : Level
  Bound : Level
  Args : Level
  FirstArg : Level
  Arg : Level
  PlainArg : Level
  Params : Level
  Param : Level
  LambdaParams : Level
  LambdaParam : Level
  Given : Level
  LambdaGiven : Level
  AfterStar : Level
  Stars : Level
  StarsTail : Level
  AfterItem : Level
  AfterTarget : Level
  Targets : Level
  TargetsTail : Level
  AfterPiece : Level
  Pieces : Level
  PiecesTail : Level
  AfterArg : Level
  AfterFirstArg : Level
  MoreArgs : Level
  MoreArgsTail : Level
  AfterParam : Level
  MoreParams : Level
  MoreParamsTail : Level
  AfterLambdaParam : Level
  MoreLambdaParams : Level
  MoreLambdaParamsTail : Level

-- what a token is as a leaf: of the kind of its word, a name that is no expression, or an operator of a comparison
pub data Leaf : Type 0 where
  Own : Leaf
  Ident : Leaf
  Operator : Leaf

pub data Builder : Type 0 where
  -- a node of the kind over the nodes; `Signed` gives it the text of its first token
  Over : Kind → Builder
  Signed : Kind → Builder
  -- the same, where the first kid lacks, and is to come from the left
  Lacking : Kind → Builder
  SignedLacking : Kind → Builder
  -- what lacks its first kid takes the one that stands before it: each in turn, or the first alone
  Chain : Builder
  Joint : Builder
  -- the nodes as what comes after a first one
  Further : Builder
  Clauses : Builder
  -- a list, a tuple or a comprehension in its marks
  Grouped : Builder
  Listed : Builder
  ListOf : Builder
  Braced : Builder
  Entry : Builder
  PairEntry : Builder
  Undecided : Builder
  -- the others make what their line says
  Lambda : Builder
  Conditional : Builder
  Compared : Builder
  Joined : Builder
  Called : Builder
  Sign : Builder
  Yielded : Builder
  Bounds : Builder
  Slice : Builder
  Sliced : Builder
  Parameter : Builder
  SignedParameter : Builder

-- the builders that make a node above all that they are given
abbrev pub strong : Builder → Bool
strong (Over kind) = true
strong (Signed kind) = true
strong (Lacking kind) = true
strong (SignedLacking kind) = true
strong Lambda = true
strong _ = false

abbrev pub Row : Type 0
Row = Rule Leaf Builder Level

-- a token of this word, with no node
abbrev pub tok : Word → Row
tok c = mark (class c ∷ [])

-- commas, operators by their level, names, strings, and what else is an atom of one token; dots stand for any items of a pattern
abbrev pub commas : List ℕ
commas = class w.Comma ∷ class w.CommaDots ∷ []

abbrev pub factors : List ℕ
factors = class w.Times ∷ class w.Slash ∷ class w.Factor ∷ class w.At ∷ []

abbrev pub comparisons : List ℕ
comparisons = class w.Compare ∷ class w.In ∷ []

abbrev pub signs : List ℕ
signs = class w.Sign ∷ class w.Tilde ∷ []

abbrev pub names : List ℕ
names = class w.Name ∷ class w.Meta ∷ []

abbrev pub strings : List ℕ
strings = class w.Str ∷ class w.FStr ∷ class w.StrAny ∷ []

abbrev pub dots : List ℕ
dots = class w.Dots ∷ class w.MetaDots ∷ []

abbrev pub scalars : List ℕ
scalars = class w.Name ∷ class w.Meta ∷ class w.Number ∷ class w.Const ∷ class w.Ellipsis ∷ class w.Dots ∷ class w.MetaDots ∷ []

-- what stands in brackets
abbrev pub round : Row → Row
round = around (class w.LeftRound ∷ []) (class w.RightRound ∷ [])

abbrev pub square : Row → Row
square = around (class w.LeftSquare ∷ []) (class w.RightSquare ∷ [])

-- {op next}, from the left; a loop is the row of its own name too
abbrev pub chained : List ℕ → Level → Row
chained ops next = opt (make (SignedLacking k.Binary) (mark ops · ref next) · again)

-- {"," item} [","] behind a first item, with what its loop goes round
abbrev pub listed : Level → Row
listed item = opt (mark commas · opt (ref item · again))

abbrev pub further : Level → Row
further list = make Further (mark commas · ref list)

-- an item with a mark before it
abbrev pub starred : Level → Row
starred item = make (Over k.Star) (tok w.Times · ref item)

abbrev pub double_starred : Level → Row
double_starred item = make (Over k.Star2) (tok w.Power · ref item)

abbrev pub cmp_round : Row
cmp_round = opt (ref Cop · ref Bor · again)

abbrev pub prim_round : Row
prim_round = opt (ref Suffix · again)

abbrev pub strings_round : Row
strings_round = opt (word Own strings · again)

abbrev pub clauses_round : Row
clauses_round = opt (ref Clause · again)

abbrev pub dotted_round : Row
dotted_round = opt (tok w.CommaDots · ref DotsLeaf · again ∣ tok w.Comma · opt (ref LaterEntry))

abbrev pub pairs_round : Row
pairs_round = opt (tok w.CommaDots · ref DotsLeaf · again ∣ tok w.Comma · opt (ref Pair · again))

abbrev pub further_pairs : Row
further_pairs = make Further (tok w.CommaDots · ref DottedPairs ∣ tok w.Comma · ref Pairs)

abbrev pub for_part : Row
for_part = tok w.For · ref Targs · tok w.In · ref Or

-- an entry in braces: what may come after a first item, and after a first key
abbrev pub entry : Level → Level → Row
entry after value = make PairEntry (double_starred Bor · ref AfterPair) ∣ make Entry (starred Bor · ref AfterStar ∣ look Ident names (class w.Walrus ∷ []) Joint (make (Lacking k.Walrus) (ref Test) · ref after) (ref Test · ref value))

-- a parameter: with or without a type
abbrev pub parameter : Level → Row
parameter given = word Own dots ∣ make Parameter (ref given) ∣ make SignedParameter (tok w.Times · opt (ref given)) ∣ make SignedParameter (tok w.Power · ref given) ∣ make SignedParameter (tok w.Slash)

-- The table.
abbrev pub table : Level → Row
-- exprs = star {"," star} [","]      itself if one without comma, else Tuple[items]
table Exprs = make Grouped (ref Star · ref AfterStar)
-- star = "*" bor  Star[e] | named
table Star = starred Bor ∣ ref Named
-- named = NAME ":=" test  Walrus[Id, e] | test
table Named = look Ident names (class w.Walrus ∷ []) (Over k.Walrus) (ref Test) (ref Test)
-- test = "lambda" [params] ":" test  Lambda[List, e] | or "if" or "else" test  Cond[condition, first, last] | or
table Test = ref LambdaTest ∣ make Conditional (ref Or · opt (make (Lacking k.Cond) (tok w.If · ref Or · tok w.Else · deep Test)))
table LambdaTest = make Lambda (tok w.Lambda · opt (deep LambdaParams) · tok w.Colon · deep Test)
-- or = or "or" and  Binary(or)[a, b] | and
table Or = make Chain (ref And · rep OrTail (chained (class w.Or ∷ []) And))
table OrTail = rep OrTail (chained (class w.Or ∷ []) And)
-- and = and "and" not  Binary(and)[a, b] | not
table And = make Chain (ref Not · rep AndTail (chained (class w.And ∷ []) Not))
table AndTail = rep AndTail (chained (class w.And ∷ []) Not)
-- not = "not" not  Unary(not)[e] | cmp
table Not = make (Signed k.Unary) (tok w.Not · deep Not) ∣ ref Cmp
-- cmp = bor {cop bor}   one: itself; else Compare(operators joined by a space)[operands]
table Cmp = make Compared (ref Bor · rep CmpTail cmp_round)
table CmpTail = rep CmpTail cmp_round
-- cop = < > == >= <= != in, not in, is, is not
table Cop = word Operator comparisons ∣ make Sign (word Operator (class w.Not ∷ []) · word Operator (class w.In ∷ [])) ∣ make Sign (word Operator (class w.Is ∷ []) · opt (word Operator (class w.Not ∷ [])))
-- bor = left-associative Binary, levels | then ^ then & then << >> then + - then * @ / // %, over unary
table Bor = make Chain (ref Xor · rep BorTail (chained (class w.Bar ∷ []) Xor))
table BorTail = rep BorTail (chained (class w.Bar ∷ []) Xor)
table Xor = make Chain (ref Band · rep XorTail (chained (class w.Caret ∷ []) Band))
table XorTail = rep XorTail (chained (class w.Caret ∷ []) Band)
table Band = make Chain (ref Shift · rep BandTail (chained (class w.Ampersand ∷ []) Shift))
table BandTail = rep BandTail (chained (class w.Ampersand ∷ []) Shift)
table Shift = make Chain (ref Sum · rep ShiftTail (chained (class w.Shift ∷ []) Sum))
table ShiftTail = rep ShiftTail (chained (class w.Shift ∷ []) Sum)
table Sum = make Chain (ref Term · rep SumTail (chained (class w.Sign ∷ []) Term))
table SumTail = rep SumTail (chained (class w.Sign ∷ []) Term)
table Term = make Chain (ref Unary · rep TermTail (chained factors Unary))
table TermTail = rep TermTail (chained factors Unary)
-- unary = ("+"|"-"|"~") unary  Unary(op)[e] | power
table Unary = make (Signed k.Unary) (mark signs · deep Unary) ∣ ref Power
-- power = await "**" unary  Binary(**)[a, b] | await
table Power = make Chain (ref Await · opt (make (SignedLacking k.Binary) (tok w.Power · deep Unary)))
-- await = "await" prim  Await[e] | prim
table Await = make (Over k.Await) (tok w.Await · ref Prim) ∣ ref Prim
-- prim = prim "." NAME  Attr(.)[e, Id] | prim "(" args ")"  Call[e, List] | prim "[" subs "]"  Sub[e, index] | atom
table Prim = make Chain (ref Atom · rep PrimTail prim_round)
table PrimTail = rep PrimTail prim_round
table Suffix = ref Attr ∣ ref Call ∣ ref Sub
table Attr = make (SignedLacking k.Attr) (tok w.Dot · word Ident names)
table Call = make Called (round (opt (deep Args)))
table Sub = make (Lacking k.Sub) (square (deep Index))
-- atom = NAME Name | NUMBER Number | strings | True False None  Const | "..." Ellipsis | and what stands in brackets
table Atom = word Own scalars ∣ ref Strings ∣ ref Paren ∣ ref ListLit ∣ ref Braces ∣ ref Deep
-- strings = one or more string tokens     Str, FStr or, for several, StrJoin[..]
table Strings = make Joined (word Own strings · opt (ref MoreStrings))
table MoreStrings = make Further (word Own strings · rep StringsTail strings_round)
table StringsTail = rep StringsTail strings_round
-- "(" ")" Tuple[] | "(" exprs ")" | "(" yield ")" | "(" named comp ")" Comp(gen)
table Paren = make Grouped (round (opt (deep Inner)))
table Inner = ref Yield ∣ ref Items
table Items = starred Bor · ref AfterStar ∣ ref Named · ref AfterItem
-- "[" [items] "]" ListLit | "[" named comp "]" Comp(list)
table ListLit = make Listed (square (opt (deep Items)))
-- "{" [pairs] "}" DictLit | "{" items "}" SetLit | "{" named comp "}" Comp(set) | "{" test ":" test comp "}" Comp(dict)[Pair, ..]
table Braces = make Braced (around (class w.LeftBrace ∷ []) (class w.RightBrace ∷ []) (opt (deep FirstEntry)) ∣ around (class w.BraceDots ∷ []) (class w.RightBrace ∷ []) (deep Dotted))
table FirstEntry = entry AfterItem FirstValue
table FirstValue = opt (make (Lacking k.Pair) (tok w.Colon · ref Test) · ref AfterFirstPair ∣ ref Comprehension ∣ further Stars)
table LaterEntry = entry AfterStar LaterValue
table LaterValue = opt (make (Lacking k.Pair) (tok w.Colon · ref Test) · ref AfterPair ∣ further Stars)
-- in a pattern, braces that begin with dots: what comes behind them tells whether they are of a dictionary or of a set
table Dotted = make Undecided (ref DotsLeaf · rep DottedTail dotted_round)
table DottedTail = rep DottedTail dotted_round
table DotsLeaf = word Own dots
-- pairs = pair {"," pair} [","]
table Pairs = opt (ref Pair · rep PairsTail pairs_round)
table DottedPairs = ref DotsLeaf · rep PairsTail pairs_round
table PairsTail = rep PairsTail pairs_round
-- pair = test ":" test  Pair[k, v] | "**" bor  Star2[e]
table Pair = double_starred Bor ∣ make (Over k.Pair) (ref Test · tok w.Colon · ref Test)
table AfterPair = opt further_pairs
table AfterFirstPair = opt (ref Comprehension ∣ further_pairs)
-- in a pattern, "<..." exprs "...>"  Deep[e]
table Deep = make (Over k.Deep) (tok w.DeepOpen · deep Exprs · tok w.DeepClose)
-- comp = a for clause, and further clauses     Comp[element, clauses]
table Comprehension = make Clauses (ref ForClause · rep ClausesTail clauses_round)
table ClausesTail = rep ClausesTail clauses_round
-- clause = ["async"] "for" targs "in" or  CompFor(async or empty)[t, e] | "if" or  CompIf[e]
table Clause = make (Over k.CompIf) (tok w.If · ref Or) ∣ ref ForClause
table ForClause = make (Signed k.CompFor) (tok w.Async · for_part) ∣ make (Over k.CompFor) for_part
-- yield = "yield" [exprs]  Yield[e] | "yield" "from" test  YieldFrom[e]
table Yield = make Yielded (tok w.Yield · opt (make (Lacking k.YieldFrom) (tok w.From · ref Test) ∣ ref Exprs))
-- targs = as exprs, with items ["*"] bor
table Targs = make Grouped (ref Target · ref AfterTarget)
table Target = starred Bor ∣ ref Bor
-- subs = one sub: itself; with commas Tuple
table Index = make Grouped (ref Piece · ref AfterPiece)
-- sub = [test] ":" [test] [":" [test]]  Slice[low, high, step] | star
table Piece = starred Bor ∣ make Slice (ref SliceEnd) ∣ look Ident names (class w.Walrus ∷ []) (Over k.Walrus) (ref Test) (make Sliced (ref Test · opt (ref SliceEnd)))
table SliceEnd = make Bounds (ref Bound · opt (ref Bound))
table Bound = make Further (tok w.Colon · opt (ref Test))
-- args = nothing, one `named comp` (Comp(gen)), or arg {"," arg} [","]
table Args = make ListOf (ref FirstArg)
table FirstArg = look Ident names (class w.Equal ∷ []) Joint (make (Lacking k.Keyword) (ref Test) · ref AfterArg) (starred Test · ref AfterArg ∣ double_starred Test · ref AfterArg ∣ ref Named · ref AfterFirstArg)
-- arg = NAME "=" test  Keyword[Id, e] | "*" test Star | "**" test Star2 | named
table Arg = look Ident names (class w.Equal ∷ []) (Over k.Keyword) (ref Test) (ref PlainArg)
table PlainArg = starred Test ∣ double_starred Test ∣ ref Named
-- params = param {"," param} [","]
table Params = make ListOf (ref Param · ref AfterParam)
-- param = ["*"|"**"] NAME [":" test] ["=" test] | "*" | "/"   Param(mark)[Id, annotation, default]
table Param = parameter Given
table Given = word Ident names · make Further (opt (tok w.Colon · ref Test)) · make Further (opt (tok w.Equal · ref Test))
-- a parameter of a lambda has no annotation
table LambdaParams = make ListOf (ref LambdaParam · ref AfterLambdaParam)
table LambdaParam = parameter LambdaGiven
table LambdaGiven = word Ident names · make Further done · make Further (opt (tok w.Equal · ref Test))
-- what comes after a first item of a list
table AfterStar = opt (further Stars)
table Stars = opt (ref Star · rep StarsTail (listed Star))
table StarsTail = rep StarsTail (listed Star)
table AfterItem = opt (ref Comprehension ∣ further Stars)
table AfterTarget = opt (further Targets)
table Targets = opt (ref Target · rep TargetsTail (listed Target))
table TargetsTail = rep TargetsTail (listed Target)
table AfterPiece = opt (further Pieces)
table Pieces = opt (ref Piece · rep PiecesTail (listed Piece))
table PiecesTail = rep PiecesTail (listed Piece)
table AfterArg = opt (further MoreArgs)
table AfterFirstArg = opt (ref Comprehension ∣ further MoreArgs)
table MoreArgs = opt (ref Arg · rep MoreArgsTail (listed Arg))
table MoreArgsTail = rep MoreArgsTail (listed Arg)
table AfterParam = opt (further MoreParams)
table MoreParams = opt (ref Param · rep MoreParamsTail (listed Param))
table MoreParamsTail = rep MoreParamsTail (listed Param)
table AfterLambdaParam = opt (further MoreLambdaParams)
table MoreLambdaParams = opt (ref LambdaParam · rep MoreLambdaParamsTail (listed LambdaParam))
table MoreLambdaParamsTail = rep MoreLambdaParamsTail (listed LambdaParam)

-- A tree is at most 500 deep, and no token of its run stands inside more than 500 open brackets.
abbrev pub grammar : Grammar Leaf Builder Level
grammar = record { table = table; opens = class w.LeftRound ∷ class w.LeftSquare ∷ class w.LeftBrace ∷ class w.BraceDots ∷ []; closes = class w.RightRound ∷ class w.RightSquare ∷ class w.RightBrace ∷ []; most_depth = 500; most_brackets = 500 }
