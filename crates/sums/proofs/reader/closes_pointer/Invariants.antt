use Rattle.std.proofs.Common.{◌≡◌, ◌≤◌, ◌-◌, ◌+◌, length}
use Rattle.sums.specs.Table.{automaton}
use Rattle.sums.specs.Reading.{says_at}
use Rattle.sums.proofs.reader.closes_pointer.Given as goal

abbrev pub invariant-loop-turn : goal.invariant-loop-turn
invariant-loop-turn l = record {
  within : l.end ≤ length l.tokens;
  place : l.end ≡ l.fn.at + l.turn;
  rest : says_at l.fn.tokens (automaton.most - 3) 3 l.fn.at ≡ says_at l.fn.tokens (automaton.most - 3 - l.turn) 3 l.end;
}
