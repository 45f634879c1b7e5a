use Rattle.std.proofs.Common.{sym, subst}
use Rattle.node_tree.specs.Tree.{kind_of}
use Rattle.store_form.specs.declared.head.Head.{Head}
use Rattle.store_form.specs.Form.{head_bytes, IsHead, IsKind}
use Rattle.store_form.specs.Adds.{Adds}
use Rattle.store_form.proofs.NodeLaws.{kind_is, content_parts}
use Rattle.store_form.proofs.written.add_head.Goals as goal

pub add_parts-requires : goal.add_parts-requires
add_parts-requires c = subst IsKind (sym c.content.ensures) (kind_is (kind_of c.args.node.now))

pub returns : goal.returns
returns c =
    subst (λ (h : Head). Adds IsHead head_bytes h c.args.out.now c.add_parts.result c.add_parts.new.out) (content_parts c.args.node.now c.content.result c.as_str.result.now c.len.result c.content.ensures c.as_str.ensures c.len.ensures)
    c.add_parts.ensures
