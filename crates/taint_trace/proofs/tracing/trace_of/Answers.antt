use Rattle.std.proofs.Common.{◌≡◌, sym, ◌∙◌, subst}
use Rattle.std.specs.Prelude.{IfOk}
use Rattle.node_tree.specs.declared.node.Node.{Node}
use Rattle.taint_judge.specs.Follows.{IsRead}
use Rattle.taint_trace.specs.Findings.{IsTraceOf}
use Rattle.taint_trace.proofs.tracing.trace_of.Goals as goal

pub returns-clause-exact : goal.returns-clause-exact
returns-clause-exact c =
    let view = c.args.view.now in
    let sets = c.in_ok-sets.sets in
    let same : c.in_ok-tracer.tracer ≡ view.tree = c.in_ok-tracer.ensures ∙ c.in_ok-flow.ensures in
    let Read : Node → Type 0 = λ root. IsRead c.args.leaves.now c.args.rx.now view.bytes root c.args.rule.now sets.sinks sets.ranges in
    let Traced : Node → Type 0 = λ root. IfOk c.trace.result (IsTraceOf c.args.leaves.now c.args.rx.now view.bytes root c.args.rule.now c.args.finding.now) in
    subst Traced same (c.trace.ensures.exact c.args.leaves.now c.args.rx.now view.bytes c.args.rule.now (subst Read (sym same) c.in_ok-sets.ensures.read))
