use Rattle.std.proofs.Common.{◌≡◌, rules, ◌∙◌}
use Rattle.node_tree.specs.declared.kind.Kind.TheVariants.{Str}
use Rattle.node_tree.specs.Tree.{kind_of, text_of}
use Rattle.meta_filter.proofs.Contents.{quoted}
use Rattle.meta_filter.proofs.holds.string_number.Goals as goal

pub returns : goal.returns
returns c =
    let k : kind_of c.args.node.now ≡ Str = search rules in
    c.written.ensures ∙ quoted (kind_of c.args.node.now) (text_of c.args.node.now) c.behind.result.now k (search rules) (search rules)
