use Rattle.std.proofs.Common.{◌≡◌, take, map}
use Rattle.assignments.specs.Seen.{all_assignments}
use Rattle.unit_effects.specs.Numbering as nums
use Rattle.unit_effects.proofs.effects.Tables.point.Given as goal

abbrev pub invariant-loop-one : goal.invariant-loop-one
invariant-loop-one l = l.nodes ≡ map (nums.one_assigns l.self.names.now l.self.literals.now (nums.hides l.entry)) (all_assignments (take l.one-index l.one-items))
