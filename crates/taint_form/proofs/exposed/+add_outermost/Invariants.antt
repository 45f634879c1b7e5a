use Rattle.std.proofs.Common.{◌≡◌, ◌++◌, take}
use Rattle.std.specs.List.{flat_map}
use Rattle.taint_form.specs.Expressions.{outermost, nodes_now}
use Rattle.taint_form.proofs.exposed.+add_outermost.Given as goal

abbrev pub invariant-loop-kid : goal.invariant-loop-kid
invariant-loop-kid l = nodes_now l.into ≡ nodes_now l.initial.into ++ flat_map (outermost l.range) (take l.kid-index l.kid-items)
