use Rattle.std.proofs.Common.{◌≡◌, take, map}
use Rattle.part_judge.specs.Findings.{finding_of}
use Rattle.part_judge.proofs.judging.findings_of.Given as goal

abbrev pub invariant-loop-at : goal.invariant-loop-at
invariant-loop-at l = l.findings ≡ map finding_of (take l.at l.members)
