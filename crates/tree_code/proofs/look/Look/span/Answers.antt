use Rattle.std.proofs.Common.{◌∙◌, sym, ap}
use Rattle.node_tree.specs.Tree.{span_of}
use Rattle.tree_code.specs.declared.look.Look.{Look}
use Rattle.tree_code.specs.Looks.{seen_by}
use Rattle.tree_code.proofs.Parts.{content_span_is}
use Rattle.tree_code.proofs.look.Look.span.Goals as goal

pub returns-in-Content : goal.returns-in-Content
returns-in-Content c =
    let n = c.args.node.now in
    sym (content_span_is n) ∙ ap (λ (look : Look). span_of (seen_by look n)) (sym c.in-Content.is)
