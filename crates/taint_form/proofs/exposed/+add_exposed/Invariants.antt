use Rattle.std.proofs.Common.{◌≡◌, ◌++◌, take, List}
use Rattle.std.specs.List.{flat_map}
use Rattle.node_tree.specs.declared.span.Span.{Span}
use Rattle.taint_form.specs.Expressions.{exposed, nodes_now}
use Rattle.taint_form.specs.Tables.{Holds}
use Rattle.taint_form.proofs.exposed.+add_exposed.Given as goal

abbrev pub invariant-loop-kid : goal.invariant-loop-kid
invariant-loop-kid l = (spans : List Span) → Holds l.sanitizers spans → nodes_now l.into ≡ nodes_now l.initial.into ++ flat_map (exposed spans) (take l.kid-index l.kid-items)
