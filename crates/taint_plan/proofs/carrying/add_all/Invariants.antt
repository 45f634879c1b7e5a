use Rattle.std.proofs.Common.{◌↔◌, ◌⊎◌, ℕ, List, take}
use Rattle.node_tree.specs.declared.span.Span.{Span}
use Rattle.node_pool.specs.Spots.{all_seen}
use Rattle.graph_form.specs.Sets.{Among}
use Rattle.taint_form.specs.Tables.{Holds}
use Rattle.taint_tables.specs.Numbers.{numbers_of}
use Rattle.taint_plan.specs.RowFacts.{CarriesAt}
use Rattle.taint_plan.proofs.carrying.add_all.Given as goal

abbrev pub invariant-loop-carry : goal.invariant-loop-carry
invariant-loop-carry l = (spans : List Span) → Holds l.look.sanitizers.now spans → (from to : ℕ) →
    Among l.into.items (from, to) ↔ (Among l.initial.into.items (from, to) ⊎ CarriesAt spans (numbers_of l.look.census.now) (all_seen l.spots) (take l.carry-index l.carries) l.range from to)
