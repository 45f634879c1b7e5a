use Rattle.std.proofs.Common.{◌↔◌, ℕ, List, take}
use Rattle.node_tree.specs.declared.span.Span.{Span}
use Rattle.assignments.specs.Seen.{all_assignments}
use Rattle.taint_form.specs.Origins.{Comes, IsListed}
use Rattle.taint_form.specs.Tables.{Holds}
use Rattle.taint_plan.specs.Facts.{AfterFacts, Same}
use Rattle.taint_tables.specs.Numbers.{numbers_of}
use Rattle.taint_plan.proofs.rows.origins_of.Given as goal

abbrev pub invariant-loop-one : goal.invariant-loop-one
invariant-loop-one l = record {
  listed : IsListed l.origins;
  after : (spans : List Span) → Holds l.look.sanitizers.now spans → (from to : ℕ) → Comes l.origins from to ↔ AfterFacts spans (numbers_of l.look.census.now) Same (all_assignments (take l.one-index l.given)) from to;
}
