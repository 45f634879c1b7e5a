use Rattle.std.proofs.Common.{arith, ◌≡◌, refl, ap, sym, ◌∙◌, length, List}
use Rattle.std.proofs.lemmas.List.{take_all}
use denote.Enum.Bare.{differs_false}
use Rattle.node_tree.specs.contracts.kind.Kind.{the_type}
use Rattle.node_tree.specs.declared.node.Node.{Node}
use Rattle.node_tree.specs.Tree.{kids_of}
use Rattle.node_tree.proofs.Trees.{to_equal, spans_equal}
use Rattle.node_tree.proofs.node.Node.+same.Goals as goal

pub returns : goal.returns
returns t c =
    let whole : c.as_slice-kids.result.now ≡ c.as_slice-others.result.now = sym (take_all c.loop-i.i c.as_slice-kids.result.now c.loop-i-test.false) ∙ c.loop-i.invariant ∙ take_all c.loop-i.i c.as_slice-others.result.now (omega arith) in (
      λ _. to_equal c.args.self.now c.args.other.now (record {
        kind = differs_false the_type tt _ _ (sym c.ne.ensures ∙ c.if-ne.false);
        span = spans_equal _ _ (sym c.ne-2.ensures ∙ c.if-ne-2.false);
        text = c.is_same.ensures.0 c.if-not-is_same.false;
        kids = sym c.as_slice-kids.ensures ∙ whole ∙ c.as_slice-others.ensures;
      }),
      λ h. refl,
    )
