use Rattle.std.proofs.Common.{◌↔◌, ◌⊎◌, ℕ, List, take}
use Rattle.node_tree.specs.declared.span.Span.{Span}
use Rattle.node_pool.specs.Spots.{all_seen}
use Rattle.graph_form.specs.Sets.{Among}
use Rattle.taint_form.specs.Tables.{Holds}
use Rattle.taint_tables.specs.Numbers.{numbers_of}
use Rattle.taint_plan.specs.RowFacts.{TaintsOne}
use Rattle.taint_plan.proofs.carrying.add_sources.Given as goal

abbrev pub invariant-loop-spot : goal.invariant-loop-spot
invariant-loop-spot l = (spans : List Span) → Holds l.look.sanitizers.now spans → (fact : ℕ) →
    Among l.into.items fact ↔ (Among l.initial.into.items fact ⊎ TaintsOne spans (numbers_of l.look.census.now) (all_seen (take l.spot-index l.spots)) l.range fact)
