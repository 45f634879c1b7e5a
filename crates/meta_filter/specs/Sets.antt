-- The sets and ranks of the table, made by tools/table_sets.py; the check of the table shows that they are right.
use Rattle.std.specs.Prelude.{ℕ, Bool, true, false, List, [], ◌∷◌}
use Rattle.meta_filter.specs.declared.token.Word.TheVariants as w
use Rattle.meta_filter.specs.Words.{class}
use Rattle.meta_filter.specs.Table.{Level, Either, Both, Inverse, Chain, Sum, Product, Negative, Atom, EitherTail, BothTail, ChainTail, SumTail, ProductTail, Builder, strong}
use Rattle.grammar.specs.Sets.{Sets}
use Rattle.grammar.specs.Check.{Ranks}

abbrev pub first : Level → List ℕ
first Either = class w.Not ∷ class w.Minus ∷ class w.Digits ∷ class w.Meta ∷ class w.Int ∷ class w.LeftRound ∷ []
first Both = class w.Not ∷ class w.Minus ∷ class w.Digits ∷ class w.Meta ∷ class w.Int ∷ class w.LeftRound ∷ []
first Inverse = class w.Not ∷ class w.Minus ∷ class w.Digits ∷ class w.Meta ∷ class w.Int ∷ class w.LeftRound ∷ []
first Chain = class w.Minus ∷ class w.Digits ∷ class w.Meta ∷ class w.Int ∷ class w.LeftRound ∷ []
first Sum = class w.Minus ∷ class w.Digits ∷ class w.Meta ∷ class w.Int ∷ class w.LeftRound ∷ []
first Product = class w.Minus ∷ class w.Digits ∷ class w.Meta ∷ class w.Int ∷ class w.LeftRound ∷ []
first Negative = class w.Minus ∷ class w.Digits ∷ class w.Meta ∷ class w.Int ∷ class w.LeftRound ∷ []
first Atom = class w.Digits ∷ class w.Meta ∷ class w.Int ∷ class w.LeftRound ∷ []
first EitherTail = class w.Or ∷ []
first BothTail = class w.And ∷ []
first ChainTail = class w.Less ∷ class w.LessEqual ∷ class w.Greater ∷ class w.GreaterEqual ∷ class w.Equal ∷ class w.NotEqual ∷ []
first SumTail = class w.Plus ∷ class w.Minus ∷ []
first ProductTail = class w.Times ∷ class w.Divide ∷ class w.Remainder ∷ []

abbrev pub more : Level → List ℕ
more Either = class w.Or ∷ class w.And ∷ class w.Less ∷ class w.LessEqual ∷ class w.Greater ∷ class w.GreaterEqual ∷ class w.Equal ∷ class w.NotEqual ∷ class w.Plus ∷ class w.Minus ∷ class w.Times ∷ class w.Divide ∷ class w.Remainder ∷ []
more Both = class w.And ∷ class w.Less ∷ class w.LessEqual ∷ class w.Greater ∷ class w.GreaterEqual ∷ class w.Equal ∷ class w.NotEqual ∷ class w.Plus ∷ class w.Minus ∷ class w.Times ∷ class w.Divide ∷ class w.Remainder ∷ []
more Inverse = class w.Less ∷ class w.LessEqual ∷ class w.Greater ∷ class w.GreaterEqual ∷ class w.Equal ∷ class w.NotEqual ∷ class w.Plus ∷ class w.Minus ∷ class w.Times ∷ class w.Divide ∷ class w.Remainder ∷ []
more Chain = class w.Less ∷ class w.LessEqual ∷ class w.Greater ∷ class w.GreaterEqual ∷ class w.Equal ∷ class w.NotEqual ∷ class w.Plus ∷ class w.Minus ∷ class w.Times ∷ class w.Divide ∷ class w.Remainder ∷ []
more Sum = class w.Plus ∷ class w.Minus ∷ class w.Times ∷ class w.Divide ∷ class w.Remainder ∷ []
more Product = class w.Times ∷ class w.Divide ∷ class w.Remainder ∷ []
more Negative = []
more Atom = []
more EitherTail = class w.Or ∷ class w.And ∷ class w.Less ∷ class w.LessEqual ∷ class w.Greater ∷ class w.GreaterEqual ∷ class w.Equal ∷ class w.NotEqual ∷ class w.Plus ∷ class w.Minus ∷ class w.Times ∷ class w.Divide ∷ class w.Remainder ∷ []
more BothTail = class w.And ∷ class w.Less ∷ class w.LessEqual ∷ class w.Greater ∷ class w.GreaterEqual ∷ class w.Equal ∷ class w.NotEqual ∷ class w.Plus ∷ class w.Minus ∷ class w.Times ∷ class w.Divide ∷ class w.Remainder ∷ []
more ChainTail = class w.Less ∷ class w.LessEqual ∷ class w.Greater ∷ class w.GreaterEqual ∷ class w.Equal ∷ class w.NotEqual ∷ class w.Plus ∷ class w.Minus ∷ class w.Times ∷ class w.Divide ∷ class w.Remainder ∷ []
more SumTail = class w.Plus ∷ class w.Minus ∷ class w.Times ∷ class w.Divide ∷ class w.Remainder ∷ []
more ProductTail = class w.Times ∷ class w.Divide ∷ class w.Remainder ∷ []

abbrev pub empty : Level → Bool
empty Either = false
empty Both = false
empty Inverse = false
empty Chain = false
empty Sum = false
empty Product = false
empty Negative = false
empty Atom = false
empty EitherTail = true
empty BothTail = true
empty ChainTail = true
empty SumTail = true
empty ProductTail = true

abbrev pub rank : Level → ℕ
rank Either = 8
rank Both = 7
rank Inverse = 6
rank Chain = 5
rank Sum = 4
rank Product = 3
rank Negative = 2
rank Atom = 1
rank EitherTail = 8
rank BothTail = 7
rank ChainTail = 5
rank SumTail = 4
rank ProductTail = 3

abbrev pub plain_level : Level → Bool
plain_level Either = true
plain_level Both = true
plain_level Inverse = true
plain_level Chain = true
plain_level Sum = true
plain_level Product = true
plain_level Negative = true
plain_level Atom = true
plain_level EitherTail = true
plain_level BothTail = true
plain_level ChainTail = true
plain_level SumTail = true
plain_level ProductTail = true

abbrev pub sets : Sets Level
sets = record { first = first; more = more; empty = empty }

abbrev pub ranks : Ranks Builder Level
ranks = record { strong = strong; rank = rank; top = 9; shut = plain_level }
