use Rattle.std.proofs.Common.{◌≡◌, ℕ, ◌≤◌, List, length, sym, ◌∙◌, subst}
use Rattle.std.specs.Str.{IsUtf8}
use Rattle.node_tree.specs.declared.node.Node.{Node}
use Rattle.node_tree.specs.KnownNames.{AreNames}
use Rattle.node_tree.specs.Spans.{SpansLieIn}
use Rattle.packed_view.proofs.view.PackedView.of.Goals as goal

pub invariant_of-result : goal.invariant_of-result
invariant_of-result c =
    let v = c.args.view in
    let text = c.in_ok-clone.field-0.value in
    let e : v.bytes ≡ text = c.requires ∙ sym c.in_ok-clone.ensures.cases in
    let U : List ℕ → Type 0 = λ b. ∥ IsUtf8 b ∥₁ in
    let S : List ℕ → Type 0 = λ b. length b ≤ 1000000 in
    let B : List ℕ → Type 0 = λ b. SpansLieIn b v.tree in
    let T : Node → Type 0 = SpansLieIn text in
    let N : Node → Type 0 = λ t. AreNames t v.known in
    (subst U e v.utf8, (subst S e v.small, (subst T (sym c.in_ok-tree.ensures) (subst B e v.placed), (subst N (sym c.in_ok-tree.ensures) v.names, (v.in_order, tt)))))
