-- The grammar of sums, as a table: a row of a level for each line of the grammar.
use Rattle.std.specs.Prelude.{Bool, true, false, List, [], ◌∷◌}
use Rattle.sums.specs.declared.token.Word.{Word}
use Rattle.sums.specs.declared.token.Word.TheVariants as w
use Rattle.sums.specs.declared.node.Kind.{Kind}
use Rattle.sums.specs.declared.node.Kind.TheVariants as k
use Rattle.sums.specs.Token.{class}
use Rattle.grammar.specs.Rule.{Rule, mark, word, ref, deep, again, around, look, choose, opt, must, rep, make, ◌·◌, ◌∣◌, Grammar}
use Rattle.grammar.specs.Tests.{say, go, ◌⇒◌, State, Automaton, test}

pub data Level : Type 0 where
  Text : Level
  Exprs : Level
  Inside : Level
  Sums : Level
  SumsTail : Level
  Sum : Level
  SumTail : Level
  Term : Level
  TermTail : Level
  Unary : Level
  Cast : Level
  Pointer : Level
  PointerTail : Level
  PointerName : Level
  Call : Level
  CallTail : Level
  Args : Level
  ArgsTail : Level
  Arg : Level
  Atom : Level
  Paren : Level

pub data Builder : Type 0 where
  Group : Builder
  Several : Builder
  Left : Builder
  Operation : Builder
  Negation : Builder
  Conversion : Builder
  Arguments : Builder
  Named : Builder

-- the builders that make a node above all that they are given
abbrev pub strong : Builder → Bool
strong Group = false
strong Several = true
strong Left = false
strong Operation = true
strong Negation = true
strong Conversion = true
strong Arguments = true
strong Named = true

abbrev pub Row : Type 0
Row = Rule Kind Builder Level

-- a token of this word, with no node
abbrev pub tok : Word → Row
tok c = mark (class c ∷ [])

-- a token of this word, as a leaf
abbrev pub leaf : Kind → Word → Row
leaf k c = word k (class c ∷ [])

-- what stands in parentheses
abbrev pub round : Row → Row
round = around (class w.OpenRound ∷ []) (class w.CloseRound ∷ [])

-- The tests, a state each. A "(" opens a cast where NAME, one or more "*" and ")" follow it, or NAME, ")" and then a NAME or a NUMBER.

-- 0: before the "("
abbrev pub cast_bracket : State
cast_bracket = ((class w.OpenRound ∷ []) ⇒ go 1) ∷ []

-- 1: before the NAME
abbrev pub cast_name : State
cast_name = ((class w.Name ∷ []) ⇒ go 2) ∷ []

-- 2: behind it
abbrev pub cast_behind_name : State
cast_behind_name = ((class w.Times ∷ []) ⇒ go 3) ∷ ((class w.CloseRound ∷ []) ⇒ go 4) ∷ []

-- 3: behind a "*"
abbrev pub cast_behind_star : State
cast_behind_star = ((class w.Times ∷ []) ⇒ go 3) ∷ ((class w.CloseRound ∷ []) ⇒ say true) ∷ []

-- 4: behind NAME and ")"
abbrev pub cast_operand : State
cast_operand = ((class w.Name ∷ class w.Number ∷ []) ⇒ say true) ∷ []

-- more tokens than a list has
abbrev pub automaton : Automaton
automaton = record { states = cast_bracket ∷ cast_name ∷ cast_behind_name ∷ cast_behind_star ∷ cast_operand ∷ []; most = 36893488147419103232 }

-- the levels whose closed runs are read
abbrev pub promised : List Level
promised = Text ∷ Exprs ∷ Cast ∷ []

-- what each loop goes round; a loop is the row of its own name too
abbrev pub sums_round : Row
sums_round = opt (tok w.Comma · opt (ref Sum · again))

abbrev pub sum_round : Row
sum_round = opt (make Operation (mark (class w.Plus ∷ class w.Minus ∷ []) · ref Term) · again)

abbrev pub term_round : Row
term_round = opt (make Operation (tok w.Times · ref Unary) · again)

abbrev pub pointer_round : Row
pointer_round = opt (leaf k.Star w.Times · again)

abbrev pub call_round : Row
call_round = opt (make Arguments (round (deep Args)) · again)

abbrev pub args_round : Row
args_round = opt (tok w.Comma · opt (ref Arg · again))

-- The table, a row for each line of the grammar.
abbrev pub table : Level → Row
-- text = exprs [";"]                the ";" is taken where one follows
table Text = ref Exprs · must (class w.Semicolon ∷ []) (tok w.Semicolon)
-- exprs = sum {"," sum} [","]       itself if one without comma, else Tuple[sums]
table Exprs = make Group (ref Inside)
table Inside = ref Sum · opt (make Several (tok w.Comma · ref Sums))
table Sums = opt (ref Sum · rep SumsTail sums_round)
-- sum = sum ("+" | "-") term        Binary(sign)[a, b] | term
table Sum = make Left (ref Term · rep SumTail sum_round)
-- term = term "*" unary             Binary(*)[a, b] | unary
table Term = make Left (ref Unary · rep TermTail term_round)
-- unary = "-" unary                 Negative[e] | cast
table Unary = make Negation (tok w.Minus · deep Unary) ∣ ref Cast
-- cast = "(" pointer ")" unary         Cast[NAME, stars.., e], where the test says so | call
table Cast = choose (test automaton 0) (make Conversion (round (deep Pointer) · deep Unary)) (ref Call)
-- pointer = NAME {"*"}
table Pointer = ref PointerName · rep PointerTail pointer_round
table PointerName = leaf k.Name w.Name
-- call = call "(" args ")"          Call[e, args..] | atom
table Call = make Left (ref Atom · rep CallTail call_round)
-- args = [arg {"," arg} [","]]
table Args = opt (ref Arg · rep ArgsTail args_round)
-- arg = NAME "=" sum                Keyword[name, e] | sum
table Arg = look k.Name (class w.Name ∷ []) (class w.Equal ∷ []) Named (ref Sum) (ref Sum)
-- atom = NAME | NUMBER | HOLE | "(" [exprs] ")"
table Atom = leaf k.Name w.Name ∣ leaf k.Number w.Number ∣ leaf k.Hole w.Hole ∣ ref Paren
table Paren = make Group (round (opt (deep Inside)))
table SumsTail = rep SumsTail sums_round
table SumTail = rep SumTail sum_round
table TermTail = rep TermTail term_round
table PointerTail = rep PointerTail pointer_round
table CallTail = rep CallTail call_round
table ArgsTail = rep ArgsTail args_round

abbrev pub grammar : Grammar Kind Builder Level
grammar = record { table = table; opens = class w.OpenRound ∷ []; closes = class w.CloseRound ∷ []; most_depth = 500; most_brackets = 500 }
