-- The grammar of comparisons as a table: a row of a level for each line of the grammar.
use Rattle.std.specs.Prelude.{ℕ, Bool, true, false, List, [], ◌∷◌}
use Rattle.meta_filter.specs.declared.token.Word.{Word}
use Rattle.meta_filter.specs.declared.token.Word.TheVariants as w
use Rattle.meta_filter.specs.Words.{class}
use Rattle.grammar.specs.Rule.{Rule, mark, word, ref, deep, again, opt, rep, make, ◌·◌, ◌∣◌, Grammar}

pub data Level : Type 0 where
  Either : Level
  EitherTail : Level
  Both : Level
  BothTail : Level
  Inverse : Level
  Chain : Level
  ChainTail : Level
  Sum : Level
  SumTail : Level
  Product : Level
  ProductTail : Level
  Negative : Level
  Atom : Level

-- tokens that are leaves: a number, a metavariable, one in `int( )`, an operator
pub data Leaf : Type 0 where
  Figure : Leaf
  Named : Leaf
  Inside : Leaf
  Sign : Leaf

pub data Builder : Type 0 where
  -- operators from the left
  FromLeft : Builder
  -- a chain, which is one node
  Linked : Builder
  Inverted : Builder
  Negated : Builder
  Enclosed : Builder

-- the builders that make a part deeper than all that they are given
abbrev pub strong : Builder → Bool
strong FromLeft = false
strong Linked = false
strong Inverted = true
strong Negated = true
strong Enclosed = true

abbrev pub Row : Type 0
Row = Rule Leaf Builder Level

-- a token of this word, with no node
abbrev pub tok : Word → Row
tok c = mark (class c ∷ [])

-- the operators of a level
abbrev pub compares : List ℕ
compares = class w.Less ∷ class w.LessEqual ∷ class w.Greater ∷ class w.GreaterEqual ∷ class w.Equal ∷ class w.NotEqual ∷ []

abbrev pub signs : List ℕ
signs = class w.Plus ∷ class w.Minus ∷ []

abbrev pub factors : List ℕ
factors = class w.Times ∷ class w.Divide ∷ class w.Remainder ∷ []

-- what each loop goes round: an operator and a part
abbrev pub either_round : Row
either_round = opt (word Sign (class w.Or ∷ []) · ref Both · again)

abbrev pub both_round : Row
both_round = opt (word Sign (class w.And ∷ []) · ref Inverse · again)

abbrev pub chain_round : Row
chain_round = opt (word Sign compares · ref Sum · again)

abbrev pub sum_round : Row
sum_round = opt (word Sign signs · ref Product · again)

abbrev pub product_round : Row
product_round = opt (word Sign factors · ref Negative · again)

-- The table. One token in hand tells how to go on, so each level takes truths and numbers alike, and the builders tell them apart.
abbrev pub table : Level → Row
-- either = both {"or" both}
table Either = make FromLeft (ref Both · rep EitherTail either_round)
-- both = inverse {"and" inverse}
table Both = make FromLeft (ref Inverse · rep BothTail both_round)
-- inverse = "not" inverse | chain
table Inverse = make Inverted (tok w.Not · deep Inverse) ∣ ref Chain
-- chain = sum {("<" | "<=" | ">" | ">=" | "==" | "!=") sum}
table Chain = make Linked (ref Sum · rep ChainTail chain_round)
-- sum = product {("+" | "-") product}
table Sum = make FromLeft (ref Product · rep SumTail sum_round)
-- product = negative {("*" | "//" | "%") negative}
table Product = make FromLeft (ref Negative · rep ProductTail product_round)
-- negative = "-" negative | atom
table Negative = make Negated (tok w.Minus · deep Negative) ∣ ref Atom
-- atom = DIGITS | "$NAME" | "int" "(" "$NAME" ")" | "(" either ")"
table Atom = word Figure (class w.Digits ∷ []) ∣ word Named (class w.Meta ∷ []) ∣ (tok w.Int · tok w.LeftRound · word Inside (class w.Meta ∷ []) · tok w.RightRound) ∣ make Enclosed (tok w.LeftRound · deep Either · tok w.RightRound)
table EitherTail = rep EitherTail either_round
table BothTail = rep BothTail both_round
table ChainTail = rep ChainTail chain_round
table SumTail = rep SumTail sum_round
table ProductTail = rep ProductTail product_round

-- A pair of parentheses is a node, so the depth counts it, and brackets are counted by nothing else.
abbrev pub grammar : Grammar Leaf Builder Level
grammar = record { table = table; opens = []; closes = []; most_depth = 100; most_brackets = 0 }
