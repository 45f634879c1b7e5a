use Rattle.std.proofs.Common.{drop}
use Rattle.file_results.proofs.Hits.{HitsGather}
use Rattle.file_results.proofs.row.add_rows.Given as goal

abbrev pub invariant-loop-finding : goal.invariant-loop-finding
invariant-loop-finding l = HitsGather l.number l.id l.fn.rows.items l.rows.items l.findings (drop l.finding-index l.findings)
