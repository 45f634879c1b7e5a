use Rattle.std.proofs.Common.{◌≡◌, suc, length, ◌≤◌, ◌-◌, ◌+◌, ◌*◌, ◌++◌, ◌∷◌, Some}
use Rattle.sums.specs.Token.{token_at}
use Rattle.sums.specs.Tree.{view, views}
use Rattle.sums.specs.Build.{left}
use Rattle.sums.specs.Table.{Sums, Sum, Term, Call, Args}
use Rattle.sums.specs.Reading.{level}
use Rattle.grammar.specs.Reader.{◌>>=◌}
use Rattle.sums.proofs.Steps.{sums_rest, sum_rest, term_rest, call_rest, args_rest}
use Rattle.sums.proofs.reader.+reader.Given as goal

abbrev pub decreases-arg : goal.decreases-arg
decreases-arg l = 16 * l.room + 8

abbrev pub decreases-args : goal.decreases-args
decreases-args l = 16 * l.room + 9

abbrev pub decreases-atom : goal.decreases-atom
decreases-atom l = 16 * l.room + 2

abbrev pub decreases-call : goal.decreases-call
decreases-call l = 16 * l.room + 3

abbrev pub decreases-cast : goal.decreases-cast
decreases-cast l = 16 * l.room + 4

abbrev pub decreases-inside : goal.decreases-inside
decreases-inside l = 16 * l.room + 9

abbrev pub decreases-paren : goal.decreases-paren
decreases-paren l = 16 * l.room + 1

abbrev pub decreases-sum : goal.decreases-sum
decreases-sum l = 16 * l.room + 7

abbrev pub decreases-sums : goal.decreases-sums
decreases-sums l = 16 * l.room + 8

abbrev pub decreases-term : goal.decreases-term
decreases-term l = 16 * l.room + 6

abbrev pub decreases-unary : goal.decreases-unary
decreases-unary l = 16 * l.room + 5

abbrev pub invariant-sum-loop-turn : goal.invariant-sum-loop-turn
invariant-sum-loop-turn l = record {
  within : l.end ≤ length l.tokens;
  turns : l.turn ≤ suc (length l.tokens);
  rest : level l.fn.tokens l.fn.room Sum l.fn.at ≡ (sum_rest l.fn.tokens l.fn.room (suc (length l.fn.tokens) - l.turn) l.end >>= λ y. Some (left (token_at l.fn.tokens l.fn.at).from (view l.node ∷ y.0), y.1));
}

abbrev pub invariant-term-loop-turn : goal.invariant-term-loop-turn
invariant-term-loop-turn l = record {
  within : l.end ≤ length l.tokens;
  turns : l.turn ≤ suc (length l.tokens);
  rest : level l.fn.tokens l.fn.room Term l.fn.at ≡ (term_rest l.fn.tokens l.fn.room (suc (length l.fn.tokens) - l.turn) l.end >>= λ y. Some (left (token_at l.fn.tokens l.fn.at).from (view l.node ∷ y.0), y.1));
}

abbrev pub invariant-call-loop-turn : goal.invariant-call-loop-turn
invariant-call-loop-turn l = record {
  within : l.end ≤ length l.tokens;
  turns : l.turn ≤ suc (length l.tokens);
  rest : level l.fn.tokens l.fn.room Call l.fn.at ≡ (call_rest l.fn.tokens l.fn.room (suc (length l.fn.tokens) - l.turn) l.end >>= λ y. Some (left (token_at l.fn.tokens l.fn.at).from (view l.node ∷ y.0), y.1));
}

abbrev pub invariant-sums-loop-turn : goal.invariant-sums-loop-turn
invariant-sums-loop-turn l = record {
  within : l.end ≤ length l.tokens;
  turns : l.turn ≤ suc (length l.tokens);
  rest : level l.fn.tokens l.fn.room Sums l.fn.at ≡ (sums_rest l.fn.tokens l.fn.room (suc (length l.fn.tokens) - l.turn) l.end >>= λ y. Some (views l.kids.items ++ y.0, y.1));
}

abbrev pub invariant-args-loop-turn : goal.invariant-args-loop-turn
invariant-args-loop-turn l = record {
  within : l.end ≤ length l.tokens;
  turns : l.turn ≤ suc (length l.tokens);
  rest : level l.fn.tokens l.fn.room Args l.fn.at ≡ (args_rest l.fn.tokens l.fn.room (suc (length l.fn.tokens) - l.turn) l.end >>= λ y. Some (views l.kids.items ++ y.0, y.1));
}
