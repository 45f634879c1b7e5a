use Rattle.taint_trace.proofs.Standings.{stands}
use Rattle.taint_trace.proofs.tracer.Tracer.of.Goals as goal

pub invariant_of-result : goal.invariant_of-result
invariant_of-result c = record {
  exact = λ s. (
      let sorted = c.in_ok-standings.ensures.same s in
      let found = c.in_ok-found.ensures s in
      let there = stands c.args.flow.now c.nodes.result.now c.units.result.now c.nodes.ensures c.units.ensures s in
      (λ h. there.0 (found.0 (sorted.0 h)), λ h. sorted.1 (found.1 (there.1 h)))
      );
  ordered = c.in_ok-standings.ensures.order;
}
