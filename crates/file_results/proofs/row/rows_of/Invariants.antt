use Rattle.std.proofs.Common.{drop}
use Rattle.file_results.proofs.Hits.{AllGather}
use Rattle.file_results.proofs.row.rows_of.Given as goal

abbrev pub invariant-loop-one : goal.invariant-loop-one
invariant-loop-one l = AllGather l.running l.rows.items l.judged (drop l.one-index l.judged)
