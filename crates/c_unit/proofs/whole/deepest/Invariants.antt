use Rattle.std.proofs.Common.{◌≡◌, length}
use Rattle.std.specs.Prelude.{max}
use Rattle.c_expr.specs.Build.{tallest}
use Rattle.c_unit.proofs.whole.deepest.Given as goal

abbrev pub invariant-loop-parts : goal.invariant-loop-parts
invariant-loop-parts l = record { depth : max l.depth (tallest l.parts) ≡ tallest l.initial.parts }

abbrev pub decreases-loop-parts : goal.decreases-loop-parts
decreases-loop-parts l = length l.parts
