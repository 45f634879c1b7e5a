-- The table passes the check.
use Rattle.std.proofs.Common.{◌≡◌, true, refl}
use Rattle.grammar.specs.Check.{passes}
use Rattle.meta_filter.specs.Words.{class}
use Rattle.meta_filter.specs.Table.{Level, Either, Both, Inverse, Chain, Sum, Product, Negative, Atom, EitherTail, BothTail, ChainTail, SumTail, ProductTail, grammar}
use Rattle.meta_filter.specs.Sets.{sets, ranks}

pub pass : (l : Level) → passes grammar sets ranks l ≡ true
unfolding class
pass Either = refl
pass Both = refl
pass Inverse = refl
pass Chain = refl
pass Sum = refl
pass Product = refl
pass Negative = refl
pass Atom = refl
pass EitherTail = refl
pass BothTail = refl
pass ChainTail = refl
pass SumTail = refl
pass ProductTail = refl
