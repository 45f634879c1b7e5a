use Rattle.std.proofs.Common.{◌≡◌, length}
use Rattle.flow_reach.specs.Worklist.{IsShaped}
use Rattle.flow_reach.proofs.worklist.Worklist.take.Given as goal

abbrev pub invariant-loop-word : goal.invariant-loop-word
invariant-loop-word l = record {
  shaped : IsShaped l.self;
  seen : l.self.seen ≡ l.initial.self.seen;
  todo : l.self.todo ≡ l.initial.self.todo;
}

abbrev pub decreases-loop-word : goal.decreases-loop-word
decreases-loop-word l = length l.self.words.items
