use Rattle.std.proofs.Common.{◌≡◌, length, take}
use Rattle.held_values.proofs.Nodes.{AreReset}
use Rattle.held_values.proofs.merging.reset.Given as goal

abbrev pub invariant-loop-name : goal.invariant-loop-name
invariant-loop-name l = record {
  size : length l.sources.items ≡ length l.initial.sources.items;
  reset : AreReset l.sources.items l.names (take l.name-index l.names);
}
