use Rattle.std.proofs.Common.{drop}
use Rattle.file_results.proofs.Followed.{WantedLeads}
use Rattle.file_results.proofs.tracing.wanted_rules.Given as goal

abbrev pub invariant-loop-row : goal.invariant-loop-row
invariant-loop-row l = WantedLeads l.rows l.wanted (drop l.row-index l.rows)
