use Rattle.std.proofs.Common.{◌≡◌, length}
use Rattle.held_values.specs.Merged.{AreOwn}
use Rattle.held_values.proofs.merging.own.Given as goal

abbrev pub invariant-loop-name : goal.invariant-loop-name
invariant-loop-name l = record {
  size : length l.sources.items ≡ l.name;
  own : AreOwn l.sources.items;
}
