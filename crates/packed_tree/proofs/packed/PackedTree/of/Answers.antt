use Rattle.std.proofs.Common.{◌≡◌, ◌∙◌, ap, List, ℕ, ◌++◌}
use Rattle.tree_code.specs.Code.{tree_code}
use Rattle.packed_tree.proofs.OneTree.{one_tree}
use Rattle.packed_tree.proofs.packed.PackedTree.of.Goals as goal

pub returns : goal.returns
returns c =
    let bytes : c.shrink_to_fit.new.self.items ≡ tree_code c.args.tree.now = c.shrink_to_fit.ensures.items ∙ c.in_ok-add_tree.ensures ∙ ap (λ (v : List ℕ). v ++ tree_code c.args.tree.now) c.new-bytes.ensures.items in
    search one_tree
