use Rattle.std.proofs.Common.{◌≡◌, ◌++◌, map, drop}
use Rattle.file_results.specs.Quieted.{is_quieted_by}
use Rattle.file_results.proofs.quiet.marks_of.Given as goal

abbrev pub invariant-loop-one : goal.invariant-loop-one
invariant-loop-one l = l.marks.items ++ map (is_quieted_by l.quiets) (drop l.one-index l.found) ≡ map (is_quieted_by l.quiets) l.found
