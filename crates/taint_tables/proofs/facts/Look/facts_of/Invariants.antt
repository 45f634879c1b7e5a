use Rattle.std.proofs.Common.{◌↔◌, ℕ, take}
use Rattle.graph_form.specs.Sets.{Among}
use Rattle.taint_form.specs.Expressions.{nodes_now}
use Rattle.taint_tables.specs.Taints.{DenotesAny}
use Rattle.taint_tables.specs.Numbers.{numbers_of}
use Rattle.taint_tables.proofs.facts.Look.facts_of.Given as goal

abbrev pub invariant-loop-one : goal.invariant-loop-one
invariant-loop-one l = (fact : ℕ) → Among l.facts.items fact ↔ DenotesAny (numbers_of l.self.census.now) (nodes_now (take l.one-index l.nodes)) fact
