use Rattle.std.proofs.Common.{◌↔◌, ℕ, take}
use Rattle.std.specs.Global.{Vec}
use Rattle.graph_form.specs.Sets.{Among}
use Rattle.taint_plan.proofs.plan.all_begins.Given as goal

abbrev pub invariant-loop-facts : goal.invariant-loop-facts
invariant-loop-facts l = (fact : ℕ) → Among l.all.items fact ↔ ((x : Vec ℕ) × Among (take l.facts-index l.begins) x × Among x.items fact)
