-- The sets and ranks of the table, made by tools/table_sets.py; the check of the table shows that they are right.
use Rattle.std.specs.Prelude.{ℕ, Bool, true, false, List, [], ◌∷◌, Option, Some, None, get_or}
use Rattle.sums.specs.declared.token.Word.TheVariants as w
use Rattle.sums.specs.Token.{class}
use Rattle.sums.specs.Table.{Level, Text, Exprs, Inside, Sums, Sum, Term, Unary, Cast, Pointer, PointerName, Call, Args, Arg, Atom, Paren, SumsTail, SumTail, TermTail, PointerTail, CallTail, ArgsTail, Builder, strong, automaton}
use Rattle.grammar.specs.Sets.{Sets}
use Rattle.grammar.specs.Tests.{Tests}
use Rattle.grammar.specs.Check.{Ranks}

abbrev pub first : Level → List ℕ
first Text = class w.Minus ∷ class w.OpenRound ∷ class w.Name ∷ class w.Number ∷ class w.Hole ∷ []
first Exprs = class w.Minus ∷ class w.OpenRound ∷ class w.Name ∷ class w.Number ∷ class w.Hole ∷ []
first Inside = class w.Minus ∷ class w.OpenRound ∷ class w.Name ∷ class w.Number ∷ class w.Hole ∷ []
first Sums = class w.Minus ∷ class w.OpenRound ∷ class w.Name ∷ class w.Number ∷ class w.Hole ∷ []
first Sum = class w.Minus ∷ class w.OpenRound ∷ class w.Name ∷ class w.Number ∷ class w.Hole ∷ []
first Term = class w.Minus ∷ class w.OpenRound ∷ class w.Name ∷ class w.Number ∷ class w.Hole ∷ []
first Unary = class w.Minus ∷ class w.OpenRound ∷ class w.Name ∷ class w.Number ∷ class w.Hole ∷ []
first Cast = class w.OpenRound ∷ class w.Name ∷ class w.Number ∷ class w.Hole ∷ []
first Pointer = class w.Name ∷ []
first PointerName = class w.Name ∷ []
first Call = class w.OpenRound ∷ class w.Name ∷ class w.Number ∷ class w.Hole ∷ []
first Args = class w.Minus ∷ class w.OpenRound ∷ class w.Name ∷ class w.Number ∷ class w.Hole ∷ []
first Arg = class w.Minus ∷ class w.OpenRound ∷ class w.Name ∷ class w.Number ∷ class w.Hole ∷ []
first Atom = class w.OpenRound ∷ class w.Name ∷ class w.Number ∷ class w.Hole ∷ []
first Paren = class w.OpenRound ∷ []
first SumsTail = class w.Comma ∷ []
first SumTail = class w.Plus ∷ class w.Minus ∷ []
first TermTail = class w.Times ∷ []
first PointerTail = class w.Times ∷ []
first CallTail = class w.OpenRound ∷ []
first ArgsTail = class w.Comma ∷ []

abbrev pub more : Level → List ℕ
more Text = class w.Comma ∷ class w.Plus ∷ class w.Minus ∷ class w.Times ∷ class w.OpenRound ∷ class w.Name ∷ class w.Number ∷ class w.Hole ∷ []
more Exprs = class w.Comma ∷ class w.Plus ∷ class w.Minus ∷ class w.Times ∷ class w.OpenRound ∷ class w.Name ∷ class w.Number ∷ class w.Hole ∷ []
more Inside = class w.Comma ∷ class w.Plus ∷ class w.Minus ∷ class w.Times ∷ class w.OpenRound ∷ class w.Name ∷ class w.Number ∷ class w.Hole ∷ []
more Sums = class w.Comma ∷ class w.Plus ∷ class w.Minus ∷ class w.Times ∷ class w.OpenRound ∷ class w.Name ∷ class w.Number ∷ class w.Hole ∷ []
more Sum = class w.Plus ∷ class w.Minus ∷ class w.Times ∷ class w.OpenRound ∷ []
more Term = class w.Times ∷ class w.OpenRound ∷ []
more Unary = class w.OpenRound ∷ []
more Cast = class w.OpenRound ∷ []
more Pointer = class w.Times ∷ []
more PointerName = []
more Call = class w.OpenRound ∷ []
more Args = class w.Comma ∷ class w.Plus ∷ class w.Minus ∷ class w.Times ∷ class w.OpenRound ∷ class w.Name ∷ class w.Equal ∷ class w.Number ∷ class w.Hole ∷ []
more Arg = class w.Plus ∷ class w.Minus ∷ class w.Times ∷ class w.OpenRound ∷ class w.Equal ∷ []
more Atom = []
more Paren = []
more SumsTail = class w.Comma ∷ class w.Plus ∷ class w.Minus ∷ class w.Times ∷ class w.OpenRound ∷ class w.Name ∷ class w.Number ∷ class w.Hole ∷ []
more SumTail = class w.Plus ∷ class w.Minus ∷ class w.Times ∷ class w.OpenRound ∷ []
more TermTail = class w.Times ∷ class w.OpenRound ∷ []
more PointerTail = class w.Times ∷ []
more CallTail = class w.OpenRound ∷ []
more ArgsTail = class w.Comma ∷ class w.Plus ∷ class w.Minus ∷ class w.Times ∷ class w.OpenRound ∷ class w.Name ∷ class w.Equal ∷ class w.Number ∷ class w.Hole ∷ []

abbrev pub empty : Level → Bool
empty Text = false
empty Exprs = false
empty Inside = false
empty Sums = true
empty Sum = false
empty Term = false
empty Unary = false
empty Cast = false
empty Pointer = false
empty PointerName = false
empty Call = false
empty Args = true
empty Arg = false
empty Atom = false
empty Paren = false
empty SumsTail = true
empty SumTail = true
empty TermTail = true
empty PointerTail = true
empty CallTail = true
empty ArgsTail = true

abbrev pub rank : Level → ℕ
rank Text = 11
rank Exprs = 10
rank Inside = 9
rank Sums = 8
rank Sum = 7
rank Term = 6
rank Unary = 5
rank Cast = 4
rank Pointer = 2
rank PointerName = 1
rank Call = 3
rank Args = 9
rank Arg = 8
rank Atom = 2
rank Paren = 1
rank SumsTail = 8
rank SumTail = 7
rank TermTail = 6
rank PointerTail = 1
rank CallTail = 1
rank ArgsTail = 9

abbrev pub plain_level : Level → Bool
plain_level Text = true
plain_level Exprs = true
plain_level Inside = true
plain_level Sums = true
plain_level Sum = true
plain_level Term = true
plain_level Unary = true
plain_level Cast = true
plain_level Pointer = true
plain_level PointerName = true
plain_level Call = true
plain_level Args = true
plain_level Arg = true
plain_level Atom = true
plain_level Paren = true
plain_level SumsTail = true
plain_level SumTail = true
plain_level TermTail = true
plain_level PointerTail = true
plain_level CallTail = true
plain_level ArgsTail = true

abbrev pub sets : Sets Level
sets = record { first = first; more = more; empty = empty }

abbrev pub ranks : Ranks Builder Level
ranks = record { strong = strong; rank = rank; top = 12; shut = plain_level }

abbrev pub start : Level → Option ℕ
start Text = None
start Exprs = None
start Inside = None
start Sums = None
start Sum = None
start Term = None
start Unary = None
start Cast = Some 0
start Pointer = None
start PointerName = None
start Call = None
start Args = None
start Arg = None
start Atom = None
start Paren = None
start SumsTail = None
start SumTail = None
start TermTail = None
start PointerTail = None
start CallTail = None
start ArgsTail = None

-- behind each level, the states in which a test may look on that was in state 0, 1, ..
abbrev pub after_states : Level → List (List ℕ)
after_states Text = (4 ∷ []) ∷ (2 ∷ []) ∷ [] ∷ [] ∷ [] ∷ []
after_states Exprs = (4 ∷ []) ∷ (2 ∷ []) ∷ [] ∷ [] ∷ [] ∷ []
after_states Inside = (4 ∷ []) ∷ (2 ∷ []) ∷ [] ∷ [] ∷ [] ∷ []
after_states Sums = (0 ∷ 4 ∷ []) ∷ (1 ∷ 2 ∷ []) ∷ (2 ∷ []) ∷ (3 ∷ []) ∷ (4 ∷ []) ∷ []
after_states Sum = (4 ∷ []) ∷ (2 ∷ []) ∷ [] ∷ [] ∷ [] ∷ []
after_states Term = (4 ∷ []) ∷ (2 ∷ []) ∷ [] ∷ [] ∷ [] ∷ []
after_states Unary = (4 ∷ []) ∷ (2 ∷ []) ∷ [] ∷ [] ∷ [] ∷ []
after_states Cast = (4 ∷ []) ∷ (2 ∷ []) ∷ [] ∷ [] ∷ [] ∷ []
after_states Pointer = [] ∷ (2 ∷ 3 ∷ []) ∷ [] ∷ [] ∷ [] ∷ []
after_states PointerName = [] ∷ (2 ∷ []) ∷ [] ∷ [] ∷ [] ∷ []
after_states Call = (4 ∷ []) ∷ (2 ∷ []) ∷ [] ∷ [] ∷ [] ∷ []
after_states Args = (0 ∷ 4 ∷ []) ∷ (1 ∷ 2 ∷ []) ∷ (2 ∷ []) ∷ (3 ∷ []) ∷ (4 ∷ []) ∷ []
after_states Arg = (4 ∷ []) ∷ (2 ∷ []) ∷ [] ∷ [] ∷ [] ∷ []
after_states Atom = (4 ∷ []) ∷ (2 ∷ []) ∷ [] ∷ [] ∷ [] ∷ []
after_states Paren = (4 ∷ []) ∷ [] ∷ [] ∷ [] ∷ [] ∷ []
after_states SumsTail = (0 ∷ []) ∷ (1 ∷ []) ∷ (2 ∷ []) ∷ (3 ∷ []) ∷ (4 ∷ []) ∷ []
after_states SumTail = (0 ∷ []) ∷ (1 ∷ []) ∷ (2 ∷ []) ∷ (3 ∷ []) ∷ (4 ∷ []) ∷ []
after_states TermTail = (0 ∷ []) ∷ (1 ∷ []) ∷ (2 ∷ []) ∷ (3 ∷ []) ∷ (4 ∷ []) ∷ []
after_states PointerTail = (0 ∷ []) ∷ (1 ∷ []) ∷ (2 ∷ 3 ∷ []) ∷ (3 ∷ []) ∷ (4 ∷ []) ∷ []
after_states CallTail = (0 ∷ 4 ∷ []) ∷ (1 ∷ []) ∷ (2 ∷ []) ∷ (3 ∷ []) ∷ (4 ∷ []) ∷ []
after_states ArgsTail = (0 ∷ []) ∷ (1 ∷ []) ∷ (2 ∷ []) ∷ (3 ∷ []) ∷ (4 ∷ []) ∷ []

abbrev pub follow : Level → Option (List ℕ)
follow Text = None
follow Exprs = None
follow Inside = None
follow Sums = None
follow Sum = None
follow Term = None
follow Unary = None
follow Cast = None
follow Pointer = Some (class w.CloseRound ∷ [])
follow PointerName = Some (class w.Times ∷ class w.CloseRound ∷ [])
follow Call = None
follow Args = Some (class w.CloseRound ∷ [])
follow Arg = Some (class w.Comma ∷ class w.CloseRound ∷ [])
follow Atom = None
follow Paren = None
follow SumsTail = None
follow SumTail = None
follow TermTail = None
follow PointerTail = Some (class w.CloseRound ∷ [])
follow CallTail = None
follow ArgsTail = Some (class w.CloseRound ∷ [])

abbrev pub tests : Tests Level
tests = record { automaton = automaton; states = 0 ∷ 1 ∷ 2 ∷ 3 ∷ 4 ∷ []; start = start; after = λ l a. get_or (after_states l) a []; follow = follow }
