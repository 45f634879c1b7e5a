use Rattle.std.proofs.Common.{◌≡◌, take, map}
use Rattle.unit_effects.specs.Numbering as nums
use Rattle.assignments.specs.Assignments.{assigned_of}
use Rattle.unit_effects.proofs.effects.Tables.effects.Given as goal

abbrev pub invariant-loop-point : goal.invariant-loop-point
invariant-loop-point l = l.points ≡ map (λ p. map (nums.one_assigns l.self.names.now l.self.literals.now (nums.hides l.entry)) (assigned_of l.tree p)) (take l.point-index l.point-items)
