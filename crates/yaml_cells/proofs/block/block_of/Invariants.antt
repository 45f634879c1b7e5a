use Rattle.std.proofs.Common.{◌≡◌, ◌≤◌, drop}
use Rattle.yaml_cells.specs.Block.{block_from, block_of, before}
use Rattle.yaml_cells.proofs.block.block_of.Given as goal

abbrev pub invariant-loop-at : goal.invariant-loop-at
invariant-loop-at l = record {
  said : block_of l.header l.ended l.body ≡ before l.content (block_from l.header l.column l.ended l.last l.gap (drop l.at l.body));
  gap : l.gap ≤ l.at;
}
