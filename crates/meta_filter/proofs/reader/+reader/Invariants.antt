use Rattle.std.proofs.Common.{◌≡◌, ℕ, suc, true, length, ◌<◌, ◌≤◌, ◌-◌, ◌+◌, ◌*◌, Some}
use Rattle.grammar.specs.Reader.{◌>>=◌}
use Rattle.meta_filter.specs.declared.layer.Layer.{Layer}
use Rattle.meta_filter.specs.declared.layer.Layer.TheVariants as layers
use Rattle.grammar.specs.Rule.{has}
use Rattle.meta_filter.specs.Words.{class}
use Rattle.meta_filter.specs.Table.{Chain, compares}
use Rattle.meta_filter.specs.Build.{token_at, from_left, linked}
use Rattle.meta_filter.specs.Reading.{level, level_of}
use Rattle.meta_filter.proofs.Steps.{left_rest, chain_rest}
use Rattle.meta_filter.proofs.reader.+reader.Given as goal

-- how far the operands of a layer are above the atoms
abbrev pub of_operand : Layer → ℕ
of_operand layers.Either = 11
of_operand layers.Both = 9
of_operand layers.Sum = 5
of_operand layers.Product = 3

abbrev pub decreases-from_left : goal.decreases-from_left
decreases-from_left l = 16 * l.room + of_operand l.layer + 1

abbrev pub decreases-operand : goal.decreases-operand
decreases-operand l = 16 * l.room + of_operand l.layer

abbrev pub decreases-inverted : goal.decreases-inverted
decreases-inverted l = 16 * l.room + 8

abbrev pub decreases-chain : goal.decreases-chain
decreases-chain l = 16 * l.room + 7

abbrev pub decreases-negated : goal.decreases-negated
decreases-negated l = 16 * l.room + 2

abbrev pub decreases-atom : goal.decreases-atom
decreases-atom l = 16 * l.room + 1

abbrev pub invariant-from_left-loop-turn : goal.invariant-from_left-loop-turn
invariant-from_left-loop-turn l = record {
  within : l.end ≤ length l.tokens;
  shallow : l.fn.at + l.left.depth ≤ l.end;
  turns : l.turn ≤ suc (length l.tokens);
  rest : level l.fn.tokens l.fn.room (level_of l.fn.layer) l.fn.at ≡ (left_rest l.fn.tokens l.fn.room l.fn.layer (suc (length l.fn.tokens) - l.turn) l.end >>= λ y. Some (from_left l.left y.0, y.1));
}

abbrev pub invariant-chain-loop-turn : goal.invariant-chain-loop-turn
invariant-chain-loop-turn l = record {
  within : l.end ≤ length l.tokens;
  shallow : l.fn.at + l.depth ≤ l.end;
  begun : l.turn ≡ 0 → has compares (class (token_at l.fn.tokens l.end).word) ≡ true;
  deeper : 0 < l.turn → l.fn.at + l.depth < l.end;
  turns : l.turn ≤ suc (length l.tokens);
  rest : level l.fn.tokens l.fn.room Chain l.fn.at ≡ (chain_rest l.fn.tokens l.fn.room (suc (length l.fn.tokens) - l.turn) l.end >>= λ y. Some (linked l.depth l.links y.0, y.1));
}
