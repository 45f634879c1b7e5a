-- The table of sums passes the checks.
use Rattle.std.specs.Prelude.{◌≡◌, true}
use Rattle.std.proofs.Common.{refl, arith}
use Rattle.grammar.specs.Tests.{Declared}
use Rattle.grammar.specs.Check.{passes, closes}
use Rattle.sums.specs.Token.{class}
use Rattle.sums.specs.Table.{Level, Text, Exprs, Inside, Sums, Sum, Term, Unary, Cast, Pointer, PointerName, Call, Args, Arg, Atom, Paren, SumsTail, SumTail, TermTail, PointerTail, CallTail, ArgsTail, grammar, automaton}
use Rattle.sums.specs.Sets.{sets, ranks, tests}
use Rattle.sums.specs.Reading.{of_text, of_pattern}

pub pass : (l : Level) → passes grammar sets ranks l ≡ true
unfolding class
pass Text = refl
pass Exprs = refl
pass Inside = refl
pass Sums = refl
pass Sum = refl
pass Term = refl
pass Unary = refl
pass Cast = refl
pass Pointer = refl
pass PointerName = refl
pass Call = refl
pass Args = refl
pass Arg = refl
pass Atom = refl
pass Paren = refl
pass SumsTail = refl
pass SumTail = refl
pass TermTail = refl
pass PointerTail = refl
pass CallTail = refl
pass ArgsTail = refl

-- closed runs are promised of each level that anything may follow, in texts and in patterns
pub close : (l : Level) → closes grammar sets ranks tests of_pattern 12 l ≡ true
unfolding class
close Text = refl
close Exprs = refl
close Inside = refl
close Sums = refl
close Sum = refl
close Term = refl
close Unary = refl
close Cast = refl
close Pointer = refl
close PointerName = refl
close Call = refl
close Args = refl
close Arg = refl
close Atom = refl
close Paren = refl
close SumsTail = refl
close SumTail = refl
close TermTail = refl
close PointerTail = refl
close CallTail = refl
close ArgsTail = refl

pub close_text : (l : Level) → closes grammar sets ranks tests of_text 12 l ≡ true
unfolding class
close_text Text = refl
close_text Exprs = refl
close_text Inside = refl
close_text Sums = refl
close_text Sum = refl
close_text Term = refl
close_text Unary = refl
close_text Cast = refl
close_text Pointer = refl
close_text PointerName = refl
close_text Call = refl
close_text Args = refl
close_text Arg = refl
close_text Atom = refl
close_text Paren = refl
close_text SumsTail = refl
close_text SumTail = refl
close_text TermTail = refl
close_text PointerTail = refl
close_text CallTail = refl
close_text ArgsTail = refl

-- each test in a row is the one that is declared of it
pub declared : (l : Level) → Declared tests l (grammar.table l)
declared Text = record {}
declared Exprs = record {}
declared Inside = record {}
declared Sums = record {}
declared Sum = record {}
declared Term = record {}
declared Unary = record {}
declared Cast = ((automaton.most, omega arith, λ f i. refl), record {})
declared Pointer = record {}
declared PointerName = record {}
declared Call = record {}
declared Args = record {}
declared Arg = record {}
declared Atom = record {}
declared Paren = record {}
declared SumsTail = record {}
declared SumTail = record {}
declared TermTail = record {}
declared PointerTail = record {}
declared CallTail = record {}
declared ArgsTail = record {}
