use Rattle.std.proofs.Common.{length, reverse, ◌+◌}
use Rattle.file_results.specs.Reports.{reported_cmp}
use Rattle.seen_files.proofs.Merges.{Merging}
use Rattle.seen_files.proofs.merging.merged.Given as goal

abbrev pub invariant-loop-all : goal.invariant-loop-all
invariant-loop-all l = Merging reported_cmp (reverse l.initial.first) (reverse l.initial.second) l.all l.first l.second

abbrev pub decreases-loop-all : goal.decreases-loop-all
decreases-loop-all l = length l.first + length l.second
