use Rattle.std.proofs.Common.{◌≡◌, take}
use Rattle.seen_files.proofs.more_rules.copied.Given as goal

abbrev pub invariant-loop-runner : goal.invariant-loop-runner
invariant-loop-runner l = l.rules ≡ take l.runner-index l.running
