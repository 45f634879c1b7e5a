use Rattle.std.proofs.Common.{◌≡◌, length, map}
use Rattle.std.specs.Prelude.{IsTrue}
use Rattle.grammar.specs.Rule.{has}
use Rattle.c_expr.specs.Words.{class, none_is_end}
use Rattle.c_expr.specs.Build.{token_at}
use Rattle.c_expr.proofs.look.is_among.Given as goal

abbrev pub invariant-loop-words : goal.invariant-loop-words
invariant-loop-words l = record {
  some : IsTrue (none_is_end l.words);
  same : has (map class l.words) (class (token_at l.tokens l.at).word) ≡ has (map class l.initial.words) (class (token_at l.tokens l.at).word);
}

abbrev pub decreases-loop-words : goal.decreases-loop-words
decreases-loop-words l = length l.words
