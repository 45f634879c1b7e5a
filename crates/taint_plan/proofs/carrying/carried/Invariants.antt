use Rattle.std.proofs.Common.{◌≡◌, ◌↔◌, ℕ, List, Some, take}
use Rattle.node_tree.specs.declared.span.Span.{Span}
use Rattle.node_pool.specs.Spots.{all_seen}
use Rattle.graph_form.specs.Sets.{Among}
use Rattle.taint_form.specs.Tables.{Holds}
use Rattle.taint_tables.specs.Numbers.{numbers_of}
use Rattle.taint_plan.specs.RowFacts.{Stands, CarriesWithin}
use Rattle.taint_plan.proofs.carrying.carried.Given as goal

abbrev pub invariant-loop-spot : goal.invariant-loop-spot
invariant-loop-spot l = record {
  last : (span : Span) → l.last ≡ Some span → Stands (all_seen (take l.spot-index l.spots)) span;
  pairs : (spans : List Span) → Holds l.look.sanitizers.now spans → (from to : ℕ) →
      Among l.pairs.items (from, to) ↔ CarriesWithin spans (numbers_of l.look.census.now) (all_seen l.spots) l.carries (all_seen (take l.spot-index l.spots)) from to;
}
