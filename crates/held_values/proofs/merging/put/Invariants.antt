use Rattle.std.proofs.Common.{◌≡◌, length, drop}
use Rattle.held_values.specs.Merged.{put_all}
use Rattle.held_values.proofs.merging.put.Given as goal

abbrev pub invariant-loop-assign : goal.invariant-loop-assign
invariant-loop-assign l = record {
  size : length l.sources.items ≡ length l.initial.sources.items;
  rest : put_all l.sources.items (drop l.assign-index l.taken) ≡ put_all l.initial.sources.items l.taken;
}
