use Rattle.std.proofs.Common.{ap, sym, ◌∙◌}
use Rattle.node_tree.specs.declared.node.Node.{Node}
use Rattle.node_tree.specs.declared.span.Span.{Span}
use Rattle.node_tree.specs.Tree.{span_of}
use Rattle.node_search.proofs.Steps.{span_is}
use Rattle.node_search.proofs.list.span_of_run.Goals as goal

pub returns-in-len1-up : goal.returns-in-len1-up
returns-in-len1-up c =
    let f : Node → Span = λ m. record { from = (span_of c.first-item.result).from; to = (span_of m).to } in
    ap f (sym c.index-run-run.is) ∙ span_is c.args.holder.now c.args.run.now c.first-item.result c.index-run-run.result c.in-len1-up.len_at_least c.first-item.is c.index-run-run.is
