use Rattle.tree_match.specs.Members.{known_tree}
use Rattle.file_results.proofs.Followed.{NoneBefore}
use Rattle.file_results.proofs.tracing.trace_by.Given as goal

abbrev pub invariant-loop-part : goal.invariant-loop-part
invariant-loop-part l = NoneBefore l.file.lang l.file.bytes (known_tree l.file) l.rule l.finding l.part-index
