use Rattle.std.proofs.Common.{drop}
use Rattle.file_results.proofs.Hits.{ReportLeads}
use Rattle.file_results.proofs.reporting.placed_rows.Given as goal

abbrev pub invariant-loop-row : goal.invariant-loop-row
invariant-loop-row l = ReportLeads l.path l.view.bytes l.running l.rows l.results (drop l.row-index l.rows)
