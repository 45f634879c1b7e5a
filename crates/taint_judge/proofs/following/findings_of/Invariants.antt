use Rattle.std.proofs.Common.{◌≡◌, take}
use Rattle.std.specs.List.{flat_map}
use Rattle.taint_judge.specs.Follows.{finding_of}
use Rattle.taint_judge.proofs.following.findings_of.Given as goal

abbrev pub invariant-loop-hit : goal.invariant-loop-hit
invariant-loop-hit l = l.findings ≡ flat_map (finding_of l.sinks) (take l.hit-index l.hits)
