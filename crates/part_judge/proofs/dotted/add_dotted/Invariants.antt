use Rattle.std.proofs.Common.{◌≡◌, ◌++◌, take}
use Rattle.std.specs.List.{flat_map}
use Rattle.part_judge.specs.Findings.{after_dot}
use Rattle.part_judge.proofs.dotted.add_dotted.Given as goal

abbrev pub invariant-loop-number : goal.invariant-loop-number
invariant-loop-number l = l.text ≡ l.initial.text ++ flat_map after_dot (take l.number-index l.numbers)
