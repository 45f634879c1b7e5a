use Rattle.std.proofs.Common.{ℕ, ◌≤◌, List, length, sym, ◌∙◌, subst}
use Rattle.std.specs.Str.{IsUtf8}
use Rattle.node_tree.specs.declared.node.Node.{Node}
use Rattle.node_tree.specs.declared.known.Known.{Known}
use Rattle.node_tree.specs.KnownNames.{AreNames, AreInOrder}
use Rattle.node_tree.specs.Spans.{SpansLieIn}
use Rattle.packed_view.proofs.view.PackedView.view.Goals as goal

pub invariant_of-result : goal.invariant_of-result
invariant_of-result c =
    let p = c.self.inside in
    let e = sym (c.in_ok-copy.ensures ∙ c.as_ref.ensures) in
    let t = sym c.in_ok-tree.ensures in
    let k = sym c.in_ok-copy-2.ensures in
    let U : List ℕ → Type 0 = λ b. ∥ IsUtf8 b ∥₁ in
    let S : List ℕ → Type 0 = λ b. length b ≤ 1000000 in
    let B : List ℕ → Type 0 = λ b. SpansLieIn b p.tree in
    let T : Node → Type 0 = SpansLieIn c.in_ok-copy.field-0 in
    let N : Node → Type 0 = λ n. AreNames n p.known in
    let K : List Known → Type 0 = AreNames c.in_ok-tree.field-0 in
    record {
      utf8 = subst U e p.utf8;
      small = subst S e p.small;
      placed = subst T t (subst B e p.placed);
      names = subst K k (subst N t p.names);
      in_order = subst AreInOrder k p.in_order;
    }
