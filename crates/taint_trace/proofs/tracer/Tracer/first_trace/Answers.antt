use Rattle.std.proofs.Common.{sym, subst}
use Rattle.std.specs.Prelude.{IfOk, MatchOption}
use Rattle.node_tree.specs.declared.node.Node.{Node}
use Rattle.taint_flow.specs.Sizes.{NoneLarge}
use Rattle.taint_trace.specs.Trace.{IsTraceBy, HasNoTrace}
use Rattle.taint_trace.proofs.tracer.Tracer.first_trace.Goals as goal

pub first_trace-requires-clause-fits : goal.first_trace-requires-clause-fits
first_trace-requires-clause-fits c =
    let P : Node → Type 0 = λ root. NoneLarge root c.args.sets.now.ranges in
    subst P (sym c.self.view_is) c.requires.fits

pub returns : goal.returns
returns c range at =
    let sets = c.args.sets.now.ranges in
    let source = c.args.source in
    let P : Node → Type 0 = λ root. IfOk c.first_trace.result (λ found. MatchOption found (HasNoTrace root sets source range) (IsTraceBy root sets source range)) in
    subst P c.self.view_is (c.first_trace.ensures range at)
