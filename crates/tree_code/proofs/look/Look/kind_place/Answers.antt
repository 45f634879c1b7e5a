use Rattle.std.proofs.Common.{◌∙◌, sym, ap}
use Rattle.node_tree.specs.Order.{kind_place}
use Rattle.node_tree.specs.Tree.{kind_of}
use Rattle.tree_code.specs.declared.look.Look.{Look}
use Rattle.tree_code.specs.Looks.{seen_by}
use Rattle.tree_code.proofs.Parts.{content_kind_is}
use Rattle.tree_code.proofs.look.Look.kind_place.Goals as goal

pub returns-in-Content : goal.returns-in-Content
returns-in-Content c =
    let n = c.args.node.now in
    c.place-in-Content.ensures ∙ ap kind_place (c.content.ensures ∙ sym (content_kind_is n)) ∙ ap (λ (look : Look). kind_place (kind_of (seen_by look n))) (sym c.in-Content.is)
