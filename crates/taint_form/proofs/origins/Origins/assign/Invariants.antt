use Rattle.std.proofs.Common.{◌↔◌, ℕ, take}
use Rattle.graph_form.specs.Sets.{Among}
use Rattle.taint_form.specs.Origins.{Comes, AfterOne, IsListed}
use Rattle.taint_form.proofs.origins.Origins.assign.Given as goal

abbrev pub invariant-loop-aim : goal.invariant-loop-aim
invariant-loop-aim l = record {
  listed : IsListed l.self;
  after : (from to : ℕ) → Comes l.self from to ↔ AfterOne (Among l.value.items) (Comes l.initial.self) (take l.aim-index l.aims) from to;
}
