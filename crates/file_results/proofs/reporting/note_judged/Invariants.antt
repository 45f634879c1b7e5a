use Rattle.std.proofs.Common.{◌≡◌, ◌++◌, drop}
use Rattle.std.specs.List.{flat_map}
use Rattle.file_results.specs.Judging.{judged_notices}
use Rattle.file_results.proofs.reporting.note_judged.Given as goal

abbrev pub invariant-loop-one : goal.invariant-loop-one
invariant-loop-one l = l.notices.items ++ flat_map (judged_notices l.path l.running) (drop l.one-index l.judged) ≡ l.fn.notices.items ++ flat_map (judged_notices l.path l.running) l.judged
