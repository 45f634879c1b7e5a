use Rattle.std.proofs.Common.{◌≡◌, sym, ap, ◌∙◌}
use denote.Enum.Bare.{tag_one, differs_false, differs_true}
use Rattle.node_tree.specs.contracts.kind.Kind.{the_type}
use Rattle.node_tree.specs.Tree.{content_kind}
use Rattle.store_form.specs.Form.{IsKind}
use Rattle.store_form.proofs.head.kind_at.Goals as goal

pub returns-then-ne : goal.returns-then-ne
unfolding IsKind
returns-then-ne c = λ k is at.
    let same : k ≡ c.in_ok-kind.kind = tag_one the_type tt k c.in_ok-kind.kind (at ∙ sym c.in-Ok.ensures.1 ∙ sym c.in_ok-kind.ensures) in
    differs_true the_type c.content.result c.in_ok-kind.kind (sym c.ne.ensures ∙ c.if-ne.true) (c.content.ensures ∙ sym (ap content_kind same) ∙ is ∙ same)

pub returns : goal.returns
unfolding IsKind
returns c = (sym c.content.ensures ∙ differs_false the_type tt _ _ (sym c.ne.ensures ∙ c.if-ne.false), c.in_ok-kind.ensures ∙ c.in-Ok.ensures.1)
