-- The root of a tree is its first node.
use Rattle.std.proofs.Common.{◌≡◌, List, ap, ◌∙◌}
use Rattle.std.specs.Prelude.{None, Some}
use Rattle.node_tree.specs.declared.node.Node.{Node}
use Rattle.node_tree.specs.Numbers.{Numbered, root_of}
use Rattle.node_tree.specs.Tree.{pre_of}
use Rattle.node_tree.proofs.Trees.{pre_is}
use Rattle.point_nodes.specs.Tops.{node_at}

same_some : (x y : Numbered) → Some x ≡ Some y → x ≡ y
same_some x y e = cc

pub root_is : (tree : Node) (nodes : List Node) (root : Numbered) → nodes ≡ pre_of tree → Some root ≡ node_at nodes 0 → root ≡ root_of tree
root_is tree nodes root all e = same_some root (root_of tree) (e ∙ ap (λ ns. node_at ns 0) (all ∙ pre_is tree))

pub root_there : (tree : Node) (nodes : List Node) → nodes ≡ pre_of tree → None ≡ node_at nodes 0 → ⊥
root_there tree nodes all e = absurd (let f : None ≡ Some (root_of tree) = e ∙ ap (λ ns. node_at ns 0) (all ∙ pre_is tree) in cc)
