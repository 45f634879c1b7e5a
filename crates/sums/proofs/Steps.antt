-- The reader of a level, one step.
use Rattle.std.proofs.Common.{◌≡◌, ℕ, zero, suc, ◌-◌, ◌<◌, List, [], ◌++◌, length, refl, ap, ◌∙◌, Option, Some, None, cond}
use Rattle.std.specs.Prelude.{Bool}
use Rattle.sums.specs.declared.token.Token.{Token}
use Rattle.grammar.specs.Rule.{has}
use Rattle.grammar.specs.Reader.{read, choice, turns, ◌>>=◌}
use Rattle.sums.specs.Token.{class, token_at}
use Rattle.sums.specs.Tree.{Tree}
use Rattle.sums.specs.Table.{Level, Text, Exprs, Inside, Sums, Sum, Term, Unary, Cast, Pointer, PointerName, Call, Args, Arg, Atom, Paren, SumsTail, SumTail, TermTail, PointerTail, CallTail, ArgsTail, table, grammar, sums_round, sum_round, term_round, pointer_round, call_round, args_round, Row}
use Rattle.sums.specs.Build.{source, left}
use Rattle.sums.specs.Sets.{sets, ranks}
use Rattle.sums.specs.Reading.{level}
use Rattle.grammar.proofs.Rounds.{turn, turned, made}
use Rattle.grammar.proofs.Stable.{room_step}
use Rattle.sums.proofs.Passes.{pass}

pub level_zero : (ts : List Token) (room : ℕ) (l : Level) (i : ℕ) → room ≡ zero → level ts room l i ≡ None
unfolding level
level_zero ts room l i h = rw h refl

-- the levels at hand, and those one step deeper
abbrev pub rungs : List Token → ℕ → Bool → Level → ℕ → Option (List Tree × ℕ)
rungs ts room = choice (level ts room) (level ts (room - 1))

-- what a row reads, over the levels at hand
abbrev pub row : List Token → ℕ → Row → ℕ → Option (List Tree × ℕ)
row ts room r = read (source ts) sets (suc (length ts)) (rungs ts room) (λ i. None) None r

pub level_row : (ts : List Token) (room : ℕ) (l : Level) (i : ℕ) → zero < room → level ts room l i ≡ row ts room (table l) i
unfolding level
level_row ts room l i h = room_step (source ts) sets (suc (length ts)) grammar ranks pass room l i h

pub text_zero : (ts : List Token) (room i : ℕ) → room ≡ zero → level ts room Text i ≡ None
text_zero ts room i h = level_zero ts room Text i h

pub text_step : (ts : List Token) (room i : ℕ) → zero < room → level ts room Text i ≡ row ts room (table Text) i
text_step ts room i h = level_row ts room Text i h

pub exprs_zero : (ts : List Token) (room i : ℕ) → room ≡ zero → level ts room Exprs i ≡ None
exprs_zero ts room i h = level_zero ts room Exprs i h

pub exprs_step : (ts : List Token) (room i : ℕ) → zero < room → level ts room Exprs i ≡ row ts room (table Exprs) i
exprs_step ts room i h = level_row ts room Exprs i h

pub inside_zero : (ts : List Token) (room i : ℕ) → room ≡ zero → level ts room Inside i ≡ None
inside_zero ts room i h = level_zero ts room Inside i h

pub inside_step : (ts : List Token) (room i : ℕ) → zero < room → level ts room Inside i ≡ row ts room (table Inside) i
inside_step ts room i h = level_row ts room Inside i h

pub unary_zero : (ts : List Token) (room i : ℕ) → room ≡ zero → level ts room Unary i ≡ None
unary_zero ts room i h = level_zero ts room Unary i h

pub unary_step : (ts : List Token) (room i : ℕ) → zero < room → level ts room Unary i ≡ row ts room (table Unary) i
unary_step ts room i h = level_row ts room Unary i h

pub cast_zero : (ts : List Token) (room i : ℕ) → room ≡ zero → level ts room Cast i ≡ None
cast_zero ts room i h = level_zero ts room Cast i h

pub cast_step : (ts : List Token) (room i : ℕ) → zero < room → level ts room Cast i ≡ row ts room (table Cast) i
cast_step ts room i h = level_row ts room Cast i h

pub pointer_name_zero : (ts : List Token) (room i : ℕ) → room ≡ zero → level ts room PointerName i ≡ None
pointer_name_zero ts room i h = level_zero ts room PointerName i h

pub pointer_name_step : (ts : List Token) (room i : ℕ) → zero < room → level ts room PointerName i ≡ row ts room (table PointerName) i
pointer_name_step ts room i h = level_row ts room PointerName i h

pub arg_zero : (ts : List Token) (room i : ℕ) → room ≡ zero → level ts room Arg i ≡ None
arg_zero ts room i h = level_zero ts room Arg i h

pub arg_step : (ts : List Token) (room i : ℕ) → zero < room → level ts room Arg i ≡ row ts room (table Arg) i
arg_step ts room i h = level_row ts room Arg i h

pub atom_zero : (ts : List Token) (room i : ℕ) → room ≡ zero → level ts room Atom i ≡ None
atom_zero ts room i h = level_zero ts room Atom i h

pub atom_step : (ts : List Token) (room i : ℕ) → zero < room → level ts room Atom i ≡ row ts room (table Atom) i
atom_step ts room i h = level_row ts room Atom i h

pub paren_zero : (ts : List Token) (room i : ℕ) → room ≡ zero → level ts room Paren i ≡ None
paren_zero ts room i h = level_zero ts room Paren i h

pub paren_step : (ts : List Token) (room i : ℕ) → zero < room → level ts room Paren i ≡ row ts room (table Paren) i
paren_step ts room i h = level_row ts room Paren i h

-- what the loop of sum still reads, in n rounds
unfoldable pub sum_rest : List Token → ℕ → ℕ → ℕ → Option (List Tree × ℕ)
sum_rest ts room n = turns (λ i. None) (λ X. read (source ts) sets (suc (length ts)) (rungs ts room) X (Some SumTail) sum_round) n

pub sum_turn : (ts : List Token) (room n i : ℕ) → zero < n → sum_rest ts room n i ≡ read (source ts) sets (suc (length ts)) (rungs ts room) (sum_rest ts room (n - 1)) (Some SumTail) sum_round i
unfolding sum_rest
sum_turn ts room n i h = ap (λ f. f i) (turn (λ i. None) (λ X. read (source ts) sets (suc (length ts)) (rungs ts room) X (Some SumTail) sum_round) n h)

pub sum_turned : (ts : List Token) (room n i : ℕ) → n ≡ zero → sum_rest ts room n i ≡ None
unfolding sum_rest
sum_turned ts room n i h = ap (λ f. f i) (turned (λ i. None) (λ X. read (source ts) sets (suc (length ts)) (rungs ts room) X (Some SumTail) sum_round) n h)

pub sum_zero : (ts : List Token) (room i : ℕ) → room ≡ zero → level ts room Sum i ≡ None
sum_zero ts room i h = level_zero ts room Sum i h

pub sum_step : (ts : List Token) (room i : ℕ) → zero < room → level ts room Sum i ≡ ◌>>=◌ {B = List Tree × ℕ} (level ts room Term i) (λ x. ◌>>=◌ {B = List Tree × ℕ} (sum_rest ts room (suc (length ts)) x.1) (λ y. Some (left (token_at ts i).from (x.0 ++ y.0), y.1)))
unfolding sum_rest
sum_step ts room i h = level_row ts room Sum i h ∙ made (level ts room Term i) (sum_rest ts room (suc (length ts))) (λ j xs. left (token_at ts i).from xs)

-- what the loop of term still reads, in n rounds
unfoldable pub term_rest : List Token → ℕ → ℕ → ℕ → Option (List Tree × ℕ)
term_rest ts room n = turns (λ i. None) (λ X. read (source ts) sets (suc (length ts)) (rungs ts room) X (Some TermTail) term_round) n

pub term_turn : (ts : List Token) (room n i : ℕ) → zero < n → term_rest ts room n i ≡ read (source ts) sets (suc (length ts)) (rungs ts room) (term_rest ts room (n - 1)) (Some TermTail) term_round i
unfolding term_rest
term_turn ts room n i h = ap (λ f. f i) (turn (λ i. None) (λ X. read (source ts) sets (suc (length ts)) (rungs ts room) X (Some TermTail) term_round) n h)

pub term_turned : (ts : List Token) (room n i : ℕ) → n ≡ zero → term_rest ts room n i ≡ None
unfolding term_rest
term_turned ts room n i h = ap (λ f. f i) (turned (λ i. None) (λ X. read (source ts) sets (suc (length ts)) (rungs ts room) X (Some TermTail) term_round) n h)

pub term_zero : (ts : List Token) (room i : ℕ) → room ≡ zero → level ts room Term i ≡ None
term_zero ts room i h = level_zero ts room Term i h

pub term_step : (ts : List Token) (room i : ℕ) → zero < room → level ts room Term i ≡ ◌>>=◌ {B = List Tree × ℕ} (level ts room Unary i) (λ x. ◌>>=◌ {B = List Tree × ℕ} (term_rest ts room (suc (length ts)) x.1) (λ y. Some (left (token_at ts i).from (x.0 ++ y.0), y.1)))
unfolding term_rest
term_step ts room i h = level_row ts room Term i h ∙ made (level ts room Unary i) (term_rest ts room (suc (length ts))) (λ j xs. left (token_at ts i).from xs)

-- what the loop of call still reads, in n rounds
unfoldable pub call_rest : List Token → ℕ → ℕ → ℕ → Option (List Tree × ℕ)
call_rest ts room n = turns (λ i. None) (λ X. read (source ts) sets (suc (length ts)) (rungs ts room) X (Some CallTail) call_round) n

pub call_turn : (ts : List Token) (room n i : ℕ) → zero < n → call_rest ts room n i ≡ read (source ts) sets (suc (length ts)) (rungs ts room) (call_rest ts room (n - 1)) (Some CallTail) call_round i
unfolding call_rest
call_turn ts room n i h = ap (λ f. f i) (turn (λ i. None) (λ X. read (source ts) sets (suc (length ts)) (rungs ts room) X (Some CallTail) call_round) n h)

pub call_turned : (ts : List Token) (room n i : ℕ) → n ≡ zero → call_rest ts room n i ≡ None
unfolding call_rest
call_turned ts room n i h = ap (λ f. f i) (turned (λ i. None) (λ X. read (source ts) sets (suc (length ts)) (rungs ts room) X (Some CallTail) call_round) n h)

pub call_zero : (ts : List Token) (room i : ℕ) → room ≡ zero → level ts room Call i ≡ None
call_zero ts room i h = level_zero ts room Call i h

pub call_step : (ts : List Token) (room i : ℕ) → zero < room → level ts room Call i ≡ ◌>>=◌ {B = List Tree × ℕ} (level ts room Atom i) (λ x. ◌>>=◌ {B = List Tree × ℕ} (call_rest ts room (suc (length ts)) x.1) (λ y. Some (left (token_at ts i).from (x.0 ++ y.0), y.1)))
unfolding call_rest
call_step ts room i h = level_row ts room Call i h ∙ made (level ts room Atom i) (call_rest ts room (suc (length ts))) (λ j xs. left (token_at ts i).from xs)

-- what the loop of sums still reads, in n rounds
unfoldable pub sums_rest : List Token → ℕ → ℕ → ℕ → Option (List Tree × ℕ)
sums_rest ts room n = turns (λ i. None) (λ X. read (source ts) sets (suc (length ts)) (rungs ts room) X (Some SumsTail) sums_round) n

pub sums_turn : (ts : List Token) (room n i : ℕ) → zero < n → sums_rest ts room n i ≡ read (source ts) sets (suc (length ts)) (rungs ts room) (sums_rest ts room (n - 1)) (Some SumsTail) sums_round i
unfolding sums_rest
sums_turn ts room n i h = ap (λ f. f i) (turn (λ i. None) (λ X. read (source ts) sets (suc (length ts)) (rungs ts room) X (Some SumsTail) sums_round) n h)

pub sums_turned : (ts : List Token) (room n i : ℕ) → n ≡ zero → sums_rest ts room n i ≡ None
unfolding sums_rest
sums_turned ts room n i h = ap (λ f. f i) (turned (λ i. None) (λ X. read (source ts) sets (suc (length ts)) (rungs ts room) X (Some SumsTail) sums_round) n h)

pub sums_zero : (ts : List Token) (room i : ℕ) → room ≡ zero → level ts room Sums i ≡ None
sums_zero ts room i h = level_zero ts room Sums i h

pub sums_step : (ts : List Token) (room i : ℕ) → zero < room → level ts room Sums i ≡ cond (has (sets.first Sum) (class (token_at ts i).word)) (◌>>=◌ {B = List Tree × ℕ} (level ts room Sum i) (λ x. ◌>>=◌ {B = List Tree × ℕ} (sums_rest ts room (suc (length ts)) x.1) (λ y. Some (x.0 ++ y.0, y.1)))) (Some ([], i))
unfolding sums_rest
sums_step ts room i h = level_row ts room Sums i h

-- what the loop of args still reads, in n rounds
unfoldable pub args_rest : List Token → ℕ → ℕ → ℕ → Option (List Tree × ℕ)
args_rest ts room n = turns (λ i. None) (λ X. read (source ts) sets (suc (length ts)) (rungs ts room) X (Some ArgsTail) args_round) n

pub args_turn : (ts : List Token) (room n i : ℕ) → zero < n → args_rest ts room n i ≡ read (source ts) sets (suc (length ts)) (rungs ts room) (args_rest ts room (n - 1)) (Some ArgsTail) args_round i
unfolding args_rest
args_turn ts room n i h = ap (λ f. f i) (turn (λ i. None) (λ X. read (source ts) sets (suc (length ts)) (rungs ts room) X (Some ArgsTail) args_round) n h)

pub args_turned : (ts : List Token) (room n i : ℕ) → n ≡ zero → args_rest ts room n i ≡ None
unfolding args_rest
args_turned ts room n i h = ap (λ f. f i) (turned (λ i. None) (λ X. read (source ts) sets (suc (length ts)) (rungs ts room) X (Some ArgsTail) args_round) n h)

pub args_zero : (ts : List Token) (room i : ℕ) → room ≡ zero → level ts room Args i ≡ None
args_zero ts room i h = level_zero ts room Args i h

pub args_step : (ts : List Token) (room i : ℕ) → zero < room → level ts room Args i ≡ cond (has (sets.first Arg) (class (token_at ts i).word)) (◌>>=◌ {B = List Tree × ℕ} (level ts room Arg i) (λ x. ◌>>=◌ {B = List Tree × ℕ} (args_rest ts room (suc (length ts)) x.1) (λ y. Some (x.0 ++ y.0, y.1)))) (Some ([], i))
unfolding args_rest
args_step ts room i h = level_row ts room Args i h

-- what the loop of pointer still reads, in n rounds
unfoldable pub pointer_rest : List Token → ℕ → ℕ → ℕ → Option (List Tree × ℕ)
pointer_rest ts room n = turns (λ i. None) (λ X. read (source ts) sets (suc (length ts)) (rungs ts room) X (Some PointerTail) pointer_round) n

pub pointer_turn : (ts : List Token) (room n i : ℕ) → zero < n → pointer_rest ts room n i ≡ read (source ts) sets (suc (length ts)) (rungs ts room) (pointer_rest ts room (n - 1)) (Some PointerTail) pointer_round i
unfolding pointer_rest
pointer_turn ts room n i h = ap (λ f. f i) (turn (λ i. None) (λ X. read (source ts) sets (suc (length ts)) (rungs ts room) X (Some PointerTail) pointer_round) n h)

pub pointer_turned : (ts : List Token) (room n i : ℕ) → n ≡ zero → pointer_rest ts room n i ≡ None
unfolding pointer_rest
pointer_turned ts room n i h = ap (λ f. f i) (turned (λ i. None) (λ X. read (source ts) sets (suc (length ts)) (rungs ts room) X (Some PointerTail) pointer_round) n h)

pub pointer_zero : (ts : List Token) (room i : ℕ) → room ≡ zero → level ts room Pointer i ≡ None
pointer_zero ts room i h = level_zero ts room Pointer i h

pub pointer_step : (ts : List Token) (room i : ℕ) → zero < room → level ts room Pointer i ≡ ◌>>=◌ {B = List Tree × ℕ} (level ts room PointerName i) (λ x. ◌>>=◌ {B = List Tree × ℕ} (pointer_rest ts room (suc (length ts)) x.1) (λ y. Some (x.0 ++ y.0, y.1)))
unfolding pointer_rest
pointer_step ts room i h = level_row ts room Pointer i h
