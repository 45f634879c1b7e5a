use Rattle.std.proofs.Common.{drop}
use Rattle.node_match.specs.Sets.{Among}
use Rattle.file_results.proofs.tracing.has.Given as goal

abbrev pub invariant-loop-one : goal.invariant-loop-one
invariant-loop-one l = Among l.one-items l.finding → Among (drop l.one-index l.one-items) l.finding
