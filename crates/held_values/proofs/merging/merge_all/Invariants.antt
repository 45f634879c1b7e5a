use Rattle.std.proofs.Common.{◌≡◌, length}
use Rattle.held_values.specs.Merged.{AreOwn}
use Rattle.held_values.proofs.Gathering.{AreMergedTo}
use Rattle.held_values.proofs.merging.merge_all.Given as goal

abbrev pub invariant-loop-nodes : goal.invariant-loop-nodes
invariant-loop-nodes l = record {
  room : length l.sources.items ≡ length l.effects.start;
  own : AreOwn l.sources.items;
  merged : AreMergedTo l.effects l.nodes-index l.all.items;
}
