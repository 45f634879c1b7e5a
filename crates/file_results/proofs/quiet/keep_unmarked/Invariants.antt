use Rattle.std.proofs.Common.{◌≡◌, ◌++◌, reverse, drop}
use Rattle.file_results.specs.Quieted.{unmarked}
use Rattle.file_results.proofs.quiet.keep_unmarked.Given as goal

abbrev pub invariant-loop-mark : goal.invariant-loop-mark
invariant-loop-mark l = l.kept ++ unmarked (drop l.mark-index l.marks) (reverse l.found) ≡ unmarked l.marks l.fn.found
