-- The grammar of C's declarations, statements and files as a table, over the levels of its expressions and types: a row for each line of the grammar (C11 6.7 to 6.9), with what patterns have besides. What makes nodes is what makes those of expressions.
use Rattle.std.specs.Prelude.{ℕ, List, [], ◌∷◌}
use Rattle.node_tree.specs.declared.kind.Kind.{Kind}
use Rattle.node_tree.specs.declared.kind.Kind.TheVariants as k
use Rattle.c_expr.specs.declared.word.Word.{Word}
use Rattle.c_expr.specs.declared.word.Word.TheVariants as w
use Rattle.c_expr.specs.Words.{class}
use Rattle.c_expr.specs.Settling.{names}
use Rattle.c_expr.specs.Table as e
use Rattle.c_expr.specs.Table.{Leaf, Own, AsId, Builder, Over, Named, Chain, Widened}
use Rattle.c_items.specs.Settling.{declares, marks, labels, invokes, opens_block, stands_alone, defines}
use Rattle.grammar.specs.Rule.{Rule, mark, word, ref, deep, again, around, choose, opt, must, rep, make, ◌·◌, ◌∣◌, Grammar}
use Rattle.grammar.specs.Renamed.{renamed}

pub data Level : Type 0 where
  -- a level of expressions, types and declarators
  Expression : e.Level → Level
  File : Level
  FileItem : Level
  Invocation : Level
  Invoked : Level
  External : Level
  Function : Level
  Declaration : Level
  Declared : Level
  VarsTail : Level
  Items : Level
  Item : Level
  Directive : Level
  DotsItem : Level
  Block : Level
  Sub : Level
  Labelled : Level
  Mark : Level
  Label : Level
  Case : Level
  Default : Level
  Statement : Level
  Simple : Level
  If : Level
  While : Level
  DoWhile : Level
  ForC : Level
  ForParts : Level
  ForStart : Level
  Switch : Level
  Return : Level
  Jump : Level
  Goto : Level
  Empty : Level
  Evaluated : Level

-- the same builder
abbrev pub same : Builder → Builder
same b = b

abbrev pub Row : Type 0
Row = Rule Leaf Builder Level

-- a level of expressions
abbrev pub value : e.Level → Row
value l = ref (Expression l)

-- a token of this word, with no node
abbrev pub tok : Word → Row
tok c = mark (class c ∷ [])

abbrev pub round : Row → Row
round = around (class w.OpenRound ∷ []) (class w.CloseRound ∷ [])

abbrev pub curly : Row → Row
curly = around (class w.OpenCurly ∷ []) (class w.CloseCurly ∷ [])

-- what a loop goes round as long as it can begin
abbrev pub looped : Row → Row
looped r = opt (r · again)

-- a `;` that is taken where one stands
abbrev pub ended : Row
ended = must (class w.Semicolon ∷ []) (tok w.Semicolon)

-- a condition in parentheses
abbrev pub condition : Row
condition = round (value e.Comma)

-- an expression that may be left out, and one in the middle of others
abbrev pub some_expression : Row
some_expression = opt (value e.Comma)

abbrev pub maybe : Row
maybe = make Widened some_expression

-- an `else`, which goes with the nearest `if`
abbrev pub else_part : Row
else_part = must (class w.Else ∷ []) (tok w.Else · deep Sub)

-- variables, of which there may be none
abbrev pub variables : Row
variables = opt (value e.Var · ref VarsTail)

-- ---- what each loop goes round

abbrev pub vars_round : Row
vars_round = opt (tok w.Comma · value e.Var · again)

abbrev pub labelled_round : Row
labelled_round = choose marks (ref Mark · again) (ref Statement)

-- The table.
abbrev pub table : Level → Row
table (Expression l) = renamed same Expression (e.table l)
-- ---- files
-- file = {Directive | func | decl | ";" Empty | NAME "(" args ")" [";"]}; the whole text is its Root   (6.9)
table File = rep File (looped (ref FileItem))
table FileItem = ref Directive ∣ ref Empty ∣ ref DotsItem ∣ choose invokes (ref Invocation) (ref External)
-- NAME "(" args ")" [";"]                           ExprStmt[Call[Name, List]]
table Invocation = make (Over k.ExprStmt 0) (ref Invoked · ended)
table Invoked = make Chain (word Own names · make (Over k.Call 0) (round (make (Over k.List 0) (value e.Args))))
-- func = spec declr "{" items "}"                   FuncDef[Type, declr, Block]                     (6.9.1)
table External = make Chain (value e.Spec · choose defines (ref Function) (ref Declared))
table Function = make (Over k.FuncDef 0) (value e.Declr · ref Block)
-- decl = spec [var {"," var}] ";"                   Decl[Type, List]                                (6.7)
table Declaration = make Chain (value e.Spec · ref Declared)
table Declared = make (Over k.Decl 0) (make (Over k.List 0) variables · tok w.Semicolon)
table VarsTail = rep VarsTail vars_round
-- ---- items
-- items = {Directive | decl | statement}            (6.8.2)
table Items = rep Items (looped (ref Item))
table Item = ref Directive ∣ choose declares (ref Declaration) (choose marks (ref Mark) (ref Statement))
table Directive = make (Named k.Directive 0) (tok w.Directive)
-- in a pattern Dots or MetaDots alone, with the `;` that follows
table DotsItem = make (Over k.Dots 0) (tok w.Dots · ended) ∣ make (Named k.MetaDots 0) (tok w.MetaDots · ended)
-- "{" items "}"                                     Block[..]
table Block = make (Over k.Block 0) (curly (deep Items))
-- sub = "{" items "}"  Block | {label | case | default} and a statement that is none of these, as a Block
table Sub = choose opens_block (ref Block) (make (Over k.Block 0) (ref Labelled))
table Labelled = rep Labelled labelled_round
-- ---- statements
-- the statements that stand before others
table Mark = choose labels (ref Label) (ref Case ∣ ref Default)
-- NAME ":"                                          Label[Id]                                       (6.8.1)
table Label = make (Over k.Label 0) (word AsId names · tok w.Colon)
-- "case" cond ":"  Case[e] | "default" ":"           Default
table Case = make (Over k.Case 0) (tok w.Case · value e.Cond · tok w.Colon)
table Default = make (Over k.Default 0) (tok w.Default · tok w.Colon)
-- the statements that are none of these
table Statement = choose stands_alone (ref DotsItem) (ref Block ∣ ref If ∣ ref While ∣ ref DoWhile ∣ ref ForC ∣ ref Switch ∣ ref Simple)
-- those that hold no other
table Simple = ref Return ∣ ref Jump ∣ ref Goto ∣ ref Empty ∣ ref Evaluated
-- "if" "(" comma ")" sub ["else" sub]               If[c, Block, else]; an `else` goes with the nearest `if`       (6.8.4.1)
table If = make (Over k.If 3) (tok w.If · condition · deep Sub · else_part)
-- "while" "(" comma ")" sub                         While[c, Block, Absent]                         (6.8.5.1)
table While = make (Over k.While 3) (tok w.While · condition · deep Sub)
-- "do" sub "while" "(" comma ")" ";"                DoWhile[Block, c]                               (6.8.5.2)
table DoWhile = make (Over k.DoWhile 0) (tok w.Do · deep Sub · tok w.While · condition · tok w.Semicolon)
-- "for" "(" (decl | [comma] ";") [comma] ";" [comma] ")" sub   ForC[init, c, step, Block]           (6.8.5.3)
table ForC = make (Over k.ForC 0) (tok w.For · round (ref ForParts) · deep Sub)
table ForParts = ref ForStart · maybe · tok w.Semicolon · maybe
table ForStart = choose declares (ref Declaration) (maybe · tok w.Semicolon)
-- "switch" "(" comma ")" sub                        Switch[e, Block]                                (6.8.4.2)
table Switch = make (Over k.Switch 0) (tok w.Switch · condition · deep Sub)
-- "return" [comma] ";"                              Return[e]                                       (6.8.6.4)
table Return = make (Over k.Return 1) (tok w.Return · some_expression · tok w.Semicolon)
-- "break" ";"  Break | "continue" ";"                Continue                                       (6.8.6.2, 6.8.6.3)
table Jump = make (Over k.Break 0) (tok w.Break · tok w.Semicolon) ∣ make (Over k.Continue 0) (tok w.Continue · tok w.Semicolon)
-- "goto" NAME ";"                                   Goto[Id]                                        (6.8.6.1)
table Goto = make (Over k.Goto 0) (tok w.Goto · word AsId names · tok w.Semicolon)
-- ";"  Empty | comma ";"                             ExprStmt[e]                                     (6.8.3)
table Empty = make (Over k.Empty 0) (tok w.Semicolon)
table Evaluated = make (Over k.ExprStmt 0) (value e.Comma · tok w.Semicolon)

-- A tree is at most 500 deep, and no token stands inside more than 500 open brackets.
abbrev pub grammar : Grammar Leaf Builder Level
grammar = record { table = table; opens = e.grammar.opens; closes = e.grammar.closes; most_depth = 500; most_brackets = 500 }
