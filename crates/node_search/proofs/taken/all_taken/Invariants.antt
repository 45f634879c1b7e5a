use Rattle.std.proofs.Common.{◌↔◌, drop}
use Rattle.node_match.specs.Choices.{all_taken}
use Rattle.node_search.proofs.taken.all_taken.Given as goal

abbrev pub invariant-loop-one : goal.invariant-loop-one
invariant-loop-one l = all_taken l.taken ↔ all_taken (drop l.one-index l.taken)
