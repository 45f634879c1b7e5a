use Rattle.std.proofs.Common.{◌↔◌, ◌⊎◌, ℕ, take}
use Rattle.node_pool.specs.Spots.{all_seen}
use Rattle.graph_form.specs.Sets.{Among}
use Rattle.taint_tables.specs.Numbers.{numbers_of}
use Rattle.taint_plan.specs.RowFacts.{HasBaseFact}
use Rattle.taint_plan.proofs.carrying.add_targets.Given as goal

abbrev pub invariant-loop-spot : goal.invariant-loop-spot
invariant-loop-spot l = (fact : ℕ) →
    Among l.into.items fact ↔ (Among l.initial.into.items fact ⊎ HasBaseFact (numbers_of l.look.census.now) (all_seen (take l.spot-index l.spots)) l.range fact)
