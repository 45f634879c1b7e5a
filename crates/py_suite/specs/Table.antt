-- The grammar of Python's statements as a table, over the levels of its expressions: a row for each line of the grammar, with what patterns have besides.
use Rattle.std.specs.Prelude.{ℕ, Bool, true, false, if◌then◌else◌, zero, suc, List, [], ◌∷◌, eqb}
use Rattle.node_tree.specs.declared.kind.Kind.{Kind}
use Rattle.node_tree.specs.declared.kind.Kind.TheVariants as k
use Rattle.py_expr.specs.declared.word.Word.{Word}
use Rattle.py_expr.specs.declared.word.Word.TheVariants as w
use Rattle.py_expr.specs.Words.{class}
use Rattle.py_expr.specs.Table as expressions
use Rattle.py_expr.specs.Table.{Leaf, Own, Ident, Operator, names, dots, commas}
use Rattle.grammar.specs.Rule.{Rule, done, mark, word, ref, deep, again, around, choose, opt, rep, make, has, ◌·◌, ◌∣◌, Grammar}
use Rattle.grammar.specs.Renamed.{renamed}

pub data Level : Type 0 where
  -- a level of expressions
  Expression : expressions.Level → Level
  File : Level
  Stmts : Level
  StmtsTail : Level
  Stmt : Level
  Line : Level
  LineTail : Level
  Simple : Level
  Worded : Level
  Naming : Level
  Value : Level
  ValuesTail : Level
  Annotated : Level
  Evaluated : Level
  Return : Level
  Delete : Level
  Raise : Level
  Assert : Level
  Global : Level
  Nonlocal : Level
  NamesTail : Level
  Import : Level
  AliasesTail : Level
  Alias : Level
  Dotted : Level
  DottedTail : Level
  FromImport : Level
  Origin : Level
  DotsTail : Level
  Imported : Level
  Aliases : Level
  MoreAliases : Level
  MoreAliasesTail : Level
  Suite : Level
  Compound : Level
  If : Level
  Branches : Level
  ElsePart : Level
  While : Level
  For : Level
  ForRest : Level
  With : Level
  WithRest : Level
  WithItems : Level
  WithItemsTail : Level
  WithItem : Level
  Try : Level
  TryRest : Level
  Handlers : Level
  HandlersTail : Level
  Handler : Level
  Caught : Level
  FinallyPart : Level
  Def : Level
  DefRest : Level
  Parameters : Level
  Class : Level
  ClassRest : Level
  Bases : Level
  Async : Level
  AsyncRest : Level
  Decorated : Level
  Decorators : Level
  DecoratorsTail : Level
  Decorator : Level
  DecoratedRest : Level

pub data Builder : Type 0 where
  -- what expressions make
  Value_of : expressions.Builder → Builder
  -- a statement, or a part of one, of the kind, over all that its row spells, with what is absent at its end; its text is that of the words that count
  Statement : Kind → Builder
  -- the same, but dots that stand alone are no more than dots
  Item_of : Kind → Builder
  -- the same of the kind that its row tells
  Headed : Builder
  Head : Kind → Builder
  -- a value that stands alone, or is assigned
  Valued : Builder
  -- some nodes as a list, which may be empty
  Several : Builder
  -- a list, which may be empty, or lack
  Listing : Builder
  -- names with points between them, as one
  Dotting : Builder

-- the builders that make a node above all that they are given
abbrev pub strong : Builder → Bool
strong (Value_of b) = expressions.strong b
strong (Statement kind) = true
strong Headed = true
strong _ = false

abbrev pub Row : Type 0
Row = Rule Leaf Builder Level

-- a row of expressions
abbrev pub expression : expressions.Row → Row
expression = renamed Value_of Expression

-- a level of expressions
abbrev pub value : expressions.Level → Row
value l = ref (Expression l)

-- a token of this word, with no node
abbrev pub tok : Word → Row
tok c = mark (class c ∷ [])

-- a token of this word that counts
abbrev pub sign : Word → Row
sign c = word Operator (class c ∷ [])

-- the keyword that tells the kind
abbrev pub head : Kind → Word → Row
head kind c = make (Head kind) (tok c)

-- a node that may lack in the middle of others
abbrev pub maybe : Row → Row
maybe r = make (Value_of expressions.Further) (opt r)

abbrev pub round : Row → Row
round = around (class w.LeftRound ∷ []) (class w.RightRound ∷ [])

abbrev pub lacks : Row
lacks = make (Value_of expressions.Further) done

abbrev pub no_list : Row
no_list = make Several done

-- the points of a relative import; `...` is one token
abbrev pub points : List ℕ
points = class w.Dot ∷ class w.Ellipsis ∷ class w.Dots ∷ []

-- ---- whether a statement is an annotated target

-- the words of a primary outside of its brackets
abbrev pub plain : List ℕ
plain = class w.Name ∷ class w.Meta ∷ class w.Number ∷ class w.Const ∷ class w.Ellipsis ∷ class w.Dots ∷ class w.MetaDots ∷ class w.Str ∷ class w.FStr ∷ class w.StrAny ∷ class w.Dot ∷ []

abbrev pub openings : List ℕ
openings = class w.LeftRound ∷ class w.LeftSquare ∷ class w.LeftBrace ∷ class w.BraceDots ∷ class w.DeepOpen ∷ []

abbrev pub closings : List ℕ
closings = class w.RightRound ∷ class w.RightSquare ∷ class w.RightBrace ∷ class w.DeepClose ∷ []

-- Nothing but words of a primary stands before the first colon outside of brackets, of which some are open; n tokens are looked at.
unfoldable pub colon_after : ℕ → (ℕ → ℕ) → ℕ → ℕ → Bool
colon_after zero f i inner = false
colon_after (suc n) f i zero = if has openings (f i) then colon_after n f (suc i) 1 else if has plain (f i) then colon_after n f (suc i) 0 else eqb (class w.Colon) (f i)
colon_after (suc n) f i (suc inner) = if has openings (f i) then colon_after n f (suc i) (suc (suc inner)) else if has closings (f i) then colon_after n f (suc i) inner else if eqb (class w.Other) (f i) then false else colon_after n f (suc i) (suc inner)

-- more tokens than a text has
abbrev pub most : ℕ
most = 4294967296

abbrev pub annotates : (ℕ → ℕ) → ℕ → Bool
annotates f i = colon_after most f i 0

-- ---- loops

-- what a loop goes round as long as it can begin
abbrev pub looped : Row → Row
looped r = opt (r · again)

-- the same with a mark between two turns, which may also be the last
abbrev pub parted : List ℕ → Level → Row
parted cs l = opt (mark cs · opt (ref l · again))

-- a further value of an assignment, name, alias or item, and a part of a dotted name
abbrev pub further_value : Row
further_value = tok w.Equal · ref Value

abbrev pub further_name : Row
further_name = mark commas · word Ident names

abbrev pub further_alias : Row
further_alias = mark commas · ref Alias

abbrev pub further_item : Row
further_item = mark commas · ref WithItem

abbrev pub further_part : Row
further_part = tok w.Dot · sign w.Name

-- names with commas between them
abbrev pub names_of : Row
names_of = word Ident names · rep NamesTail (looped further_name)

-- a block behind a colon, and a condition before it
abbrev pub body : Row
body = tok w.Colon · ref Suite

abbrev pub condition : Row
condition = value expressions.Named · body

abbrev pub caught_name : Row
caught_name = maybe (tok w.As · word Ident names)

abbrev pub returns : Row
returns = maybe (tok w.Arrow · value expressions.Test)

-- The table.
abbrev pub table : Level → Row
table (Expression l) = expression (expressions.table l)
-- a text is statements and its end
table File = opt (ref Stmts) · tok w.End
table Stmts = ref Stmt · rep StmtsTail (looped (ref Stmt))
table StmtsTail = rep StmtsTail (looped (ref Stmt))
table Stmt = ref Compound ∣ ref Line
-- line = simple {";" simple} [";"] Newline
table Line = ref Simple · rep LineTail (parted (class w.Semicolon ∷ []) Simple) · tok w.Newline
table LineTail = rep LineTail (parted (class w.Semicolon ∷ []) Simple)
table Simple = ref Worded ∣ ref Naming ∣ make Valued (value expressions.Yield) ∣ choose annotates (ref Annotated) (ref Evaluated)
table Worded = ref Return ∣ ref Delete ∣ ref Raise ∣ ref Assert ∣ make (Statement k.Pass) (tok w.Pass) ∣ make (Statement k.Break) (tok w.Break) ∣ make (Statement k.Continue) (tok w.Continue)
table Naming = ref Global ∣ ref Nonlocal ∣ ref Import ∣ ref FromImport
-- val = exprs | yield
table Value = value expressions.Yield ∣ value expressions.Exprs
table ValuesTail = rep ValuesTail (looped further_value)
-- val ExprStmt | exprs {"=" val}, at least one, Assign[targets.., value] | exprs augop val  AugAssign(op)[t, v]
table Evaluated = make Valued (value expressions.Exprs · opt (make (Value_of expressions.Further) (further_value · rep ValuesTail (looped further_value)) ∣ make (Value_of (expressions.SignedLacking k.AugAssign)) (tok w.Augmented · ref Value)))
-- prim ":" test ["=" val]  AnnAssign[t, annotation, v]
table Annotated = make (Statement k.AnnAssign) (value expressions.Prim · tok w.Colon · value expressions.Test · opt further_value)
-- return [exprs] Return[e] | del exprs Del[e] | raise [test ["from" test]]  Raise[e, cause] | assert test ["," test] Assert[e, m]
table Return = make (Statement k.Return) (tok w.Return · opt (value expressions.Exprs))
table Delete = make (Statement k.Del) (tok w.Del · value expressions.Exprs)
table Raise = make (Statement k.Raise) (tok w.Raise · opt (value expressions.Test · opt (tok w.From · value expressions.Test)))
table Assert = make (Statement k.Assert) (tok w.Assert · value expressions.Test · opt (mark commas · value expressions.Test))
-- global NAMEs Global[Ids] | nonlocal NAMEs Nonlocal[Ids]
table Global = make (Statement k.Global) (tok w.Global · names_of)
table Nonlocal = make (Statement k.Nonlocal) (tok w.Nonlocal · names_of)
table NamesTail = rep NamesTail (looped further_name)
-- import alias {"," alias}  Import[Aliases]
table Import = make (Statement k.Import) (tok w.Import · ref Alias · rep AliasesTail (looped further_alias))
table AliasesTail = rep AliasesTail (looped further_alias)
-- alias = dotted ["as" NAME]  Alias[Id, Id], or dots of a pattern
table Alias = word Own dots ∣ make (Statement k.Alias) (ref Dotted · opt (tok w.As · word Ident names))
-- dotted = NAME {"." NAME}, one Id, or a metavariable
table Dotted = word Ident (class w.Meta ∷ []) ∣ make Dotting (sign w.Name · rep DottedTail (looped further_part))
table DottedTail = rep DottedTail (looped further_part)
-- from DOTS [dotted] import ("*" | "(" aliases [","] ")" | aliases)  FromImport(dots)[Id, List]; at least a dot or a name
table FromImport = make (Statement k.FromImport) (tok w.From · ref Origin · tok w.Import · ref Imported)
table Origin = word Operator points · rep DotsTail (looped (word Operator points)) · maybe (ref Dotted) ∣ ref Dotted
table DotsTail = rep DotsTail (looped (word Operator points))
table Imported = make Several (make (Statement k.Alias) (make Dotting (sign w.Times))) ∣ round (make Several (ref MoreAliases)) ∣ ref Aliases
table Aliases = make Several (ref Alias · rep AliasesTail (looped further_alias))
table MoreAliases = ref Alias · rep MoreAliasesTail (parted commas Alias)
table MoreAliasesTail = rep MoreAliasesTail (parted commas Alias)
-- suite = line | Newline Indent stmts Dedent        Block[statements]
table Suite = tok w.Newline · tok w.Indent · make (Statement k.Block) (deep Stmts) · tok w.Dedent ∣ make (Statement k.Block) (ref Line)
table Compound = ref If ∣ ref While ∣ ref Try ∣ ref For ∣ ref With ∣ ref Def ∣ ref Class ∣ ref Async ∣ ref Decorated
-- if named: suite {elif named: suite} [else: suite]  If[c, Block, else]; elif is an If in the else place
table If = make (Statement k.If) (tok w.If · condition · opt (ref Branches))
table Branches = make (Statement k.If) (tok w.Elif · condition · opt (deep Branches)) ∣ ref ElsePart
table ElsePart = tok w.Else · body
-- while named: suite [else: suite]                   While[c, Block, else]
table While = make (Statement k.While) (tok w.While · condition · opt (ref ElsePart))
-- [async] for targs in exprs: suite [else: suite]    For(async or empty)[t, e, Block, else]
table For = make (Statement k.For) (tok w.For · ref ForRest)
table ForRest = value expressions.Targs · tok w.In · value expressions.Exprs · body · opt (ref ElsePart)
-- [async] with item {"," item}: suite   With(async or empty)[List, Block]; WithItem[test, target]
table With = make (Statement k.With) (tok w.With · ref WithRest)
table WithRest = ref WithItems · body
table WithItems = make Several (ref WithItem · rep WithItemsTail (looped further_item))
table WithItemsTail = rep WithItemsTail (looped further_item)
table WithItem = make (Item_of k.WithItem) (value expressions.Test · opt (tok w.As · value expressions.Target))
-- try: suite {except [test ["as" NAME]]: suite} [else: suite] [finally: suite]
--     Try[Block, List of Handler[type, Id, Block], else, finally]; a handler or a finally
table Try = make (Statement k.Try) (tok w.Try · body · ref TryRest)
table TryRest = ref Handlers · maybe (ref ElsePart) · opt (ref FinallyPart) ∣ no_list · maybe (ref ElsePart) · ref FinallyPart
table Handlers = make Several (ref Handler · rep HandlersTail (looped (ref Handler)))
table HandlersTail = rep HandlersTail (looped (ref Handler))
table Handler = make (Statement k.Handler) (tok w.Except · ref Caught · ref Suite)
table Caught = value expressions.Test · caught_name · tok w.Colon ∣ lacks · lacks · tok w.Colon
table FinallyPart = tok w.Finally · body
-- {"@" named Newline} [async] def NAME "(" [params] ")" ["->" test]: suite
--     FunctionDef(async or empty)[List of decorators, Id, List, returns, Block]
-- {"@" named Newline} class NAME ["(" args ")"]: suite   ClassDef[List, Id, List, Block]
table Def = make (Statement k.FunctionDef) (no_list · tok w.Def · ref DefRest)
table DefRest = word Ident names · ref Parameters · returns · body
table Parameters = make Listing (round (opt (deep (Expression expressions.Params))))
table Class = make (Statement k.ClassDef) (no_list · tok w.Class · ref ClassRest)
table ClassRest = word Ident names · ref Bases · body
table Bases = make Listing (opt (round (opt (deep (Expression expressions.Args)))))
table Async = make Headed (sign w.Async · ref AsyncRest)
table AsyncRest = head k.For w.For · ref ForRest ∣ head k.With w.With · ref WithRest ∣ no_list · head k.FunctionDef w.Def · ref DefRest
table Decorated = make Headed (ref Decorators · ref DecoratedRest)
table Decorators = make Several (ref Decorator · rep DecoratorsTail (looped (ref Decorator)))
table DecoratorsTail = rep DecoratorsTail (looped (ref Decorator))
table Decorator = tok w.At · value expressions.Named · tok w.Newline
table DecoratedRest = sign w.Async · head k.FunctionDef w.Def · ref DefRest ∣ head k.FunctionDef w.Def · ref DefRest ∣ head k.ClassDef w.Class · ref ClassRest

-- A tree is at most 500 deep, and so is an expression below the statement that it is; no token stands inside more than 500 open brackets.
abbrev pub grammar : Grammar Leaf Builder Level
grammar = record { table = table; opens = expressions.grammar.opens; closes = expressions.grammar.closes; most_depth = 501; most_brackets = 500 }
