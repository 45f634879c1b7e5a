-- Brackets, counted step by step.
use Rattle.std.proofs.Common.{◌≡◌, ℕ, ◌+◌, ◌≤◌, List, refl, add-one}
use Rattle.grammar.specs.Rule.{open_at, behind, smaller}
use Rattle.grammar.proofs.Counts.{count_step, count_start}
use Rattle.c_expr.specs.declared.word.Token.{Token}
use Rattle.c_expr.specs.Words.{class}
use Rattle.c_expr.specs.Table.{grammar}
use Rattle.c_expr.specs.Build.{token_at, source}
use Rattle.c_expr.specs.Runs.{round_at}

-- how many brackets are open before a token
unfoldable pub open_before : List Token → ℕ → ℕ → ℕ
open_before ts from n = open_at grammar.opens grammar.closes (source ts).cls from n

pub open_start : (ts : List Token) (from : ℕ) → open_before ts from from ≡ 0
unfolding open_before
open_start ts from = count_start grammar.opens grammar.closes (source ts).cls from

pub open_next : (ts : List Token) (from n : ℕ) → from ≤ n → open_before ts from (n + 1) ≡ behind grammar.opens grammar.closes (class (token_at ts n).word) (open_before ts from n)
unfolding open_before
open_next ts from n h = rw add-one (count_step grammar.opens grammar.closes (source ts).cls from n h)

pub round_is : (ts : List Token) (from n : ℕ) → round_at ts from n ≡ smaller (open_before ts from n) (open_before ts from (n + 1))
unfolding open_before round_at
round_is ts from n = rw add-one refl
