-- The table passes the checks.
use Rattle.std.specs.Prelude.{◌≡◌, true}
use Rattle.std.proofs.Common.{refl}
use Rattle.grammar.specs.Check.{passes}
use Rattle.py_expr.specs.Words.{class}
use Rattle.py_expr.specs.Table.{Level, Exprs, Star, Named, Test, LambdaTest, Or, OrTail, And, AndTail, Not, Cmp, CmpTail, Cop, Bor, BorTail, Xor, XorTail, Band, BandTail, Shift, ShiftTail, Sum, SumTail, Term, TermTail, Unary, Power, Await, Prim, PrimTail, Suffix, Attr, Call, Sub, Atom, Strings, MoreStrings, StringsTail, Paren, Inner, Items, ListLit, Braces, FirstEntry, FirstValue, LaterEntry, LaterValue, Dotted, DottedTail, DotsLeaf, Pairs, DottedPairs, PairsTail, Pair, AfterPair, AfterFirstPair, Deep, Comprehension, ClausesTail, Clause, ForClause, Yield, Targs, Target, Index, Piece, SliceEnd, Bound, Args, FirstArg, Arg, PlainArg, Params, Param, Given, LambdaParams, LambdaParam, LambdaGiven, AfterStar, Stars, StarsTail, AfterItem, AfterTarget, Targets, TargetsTail, AfterPiece, Pieces, PiecesTail, AfterArg, AfterFirstArg, MoreArgs, MoreArgsTail, AfterParam, MoreParams, MoreParamsTail, AfterLambdaParam, MoreLambdaParams, MoreLambdaParamsTail, grammar}
use Rattle.py_expr.specs.reader.Sets.{sets, ranks}

pub pass : (l : Level) → passes grammar sets ranks l ≡ true
unfolding class
pass Exprs = refl
pass Star = refl
pass Named = refl
pass Test = refl
pass LambdaTest = refl
pass Or = refl
pass OrTail = refl
pass And = refl
pass AndTail = refl
pass Not = refl
pass Cmp = refl
pass CmpTail = refl
pass Cop = refl
pass Bor = refl
pass BorTail = refl
pass Xor = refl
pass XorTail = refl
pass Band = refl
pass BandTail = refl
pass Shift = refl
pass ShiftTail = refl
pass Sum = refl
pass SumTail = refl
pass Term = refl
pass TermTail = refl
pass Unary = refl
pass Power = refl
pass Await = refl
pass Prim = refl
pass PrimTail = refl
pass Suffix = refl
pass Attr = refl
pass Call = refl
pass Sub = refl
pass Atom = refl
pass Strings = refl
pass MoreStrings = refl
pass StringsTail = refl
pass Paren = refl
pass Inner = refl
pass Items = refl
pass ListLit = refl
pass Braces = refl
pass FirstEntry = refl
pass FirstValue = refl
pass LaterEntry = refl
pass LaterValue = refl
pass Dotted = refl
pass DottedTail = refl
pass DotsLeaf = refl
pass Pairs = refl
pass DottedPairs = refl
pass PairsTail = refl
pass Pair = refl
pass AfterPair = refl
pass AfterFirstPair = refl
pass Deep = refl
pass Comprehension = refl
pass ClausesTail = refl
pass Clause = refl
pass ForClause = refl
pass Yield = refl
pass Targs = refl
pass Target = refl
pass Index = refl
pass Piece = refl
pass SliceEnd = refl
pass Bound = refl
pass Args = refl
pass FirstArg = refl
pass Arg = refl
pass PlainArg = refl
pass Params = refl
pass Param = refl
pass Given = refl
pass LambdaParams = refl
pass LambdaParam = refl
pass LambdaGiven = refl
pass AfterStar = refl
pass Stars = refl
pass StarsTail = refl
pass AfterItem = refl
pass AfterTarget = refl
pass Targets = refl
pass TargetsTail = refl
pass AfterPiece = refl
pass Pieces = refl
pass PiecesTail = refl
pass AfterArg = refl
pass AfterFirstArg = refl
pass MoreArgs = refl
pass MoreArgsTail = refl
pass AfterParam = refl
pass MoreParams = refl
pass MoreParamsTail = refl
pass AfterLambdaParam = refl
pass MoreLambdaParams = refl
pass MoreLambdaParamsTail = refl
