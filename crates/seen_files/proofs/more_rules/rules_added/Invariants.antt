use Rattle.seen_files.proofs.More.{Walked}
use Rattle.seen_files.proofs.more_rules.rules_added.Given as goal

abbrev pub invariant-loop-runner : goal.invariant-loop-runner
invariant-loop-runner l = Walked l.before l.running l.next l.runner-index l.added
