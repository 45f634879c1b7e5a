-- Whether what a pattern has in a file can depend on which names are known to hold literals.
use Rattle.std.specs.Prelude.{◌≡◌, ◌↔◌, Bool, true, ◌&&◌}
use Rattle.node_tree.specs.declared.node.Node.{Node}
use Rattle.node_tree.specs.declared.kind.Kind.{Kind}
use Rattle.node_tree.specs.declared.kind.Kind.TheVariants as kinds
use Rattle.node_tree.specs.declared.view.Pattern.{Pattern}
use Rattle.node_tree.specs.Kinds.{is_literal}
use Rattle.node_tree.specs.Tree.{kind_of, pre_of}
use Rattle.node_match.specs.Orders.{some_is}
use Rattle.tree_match.specs.declared.leaf.Leaf.{Leaf}
use Rattle.tree_match.specs.Leaf.{IsLeaf}
use Rattle.tree_match.specs.Members.{Member, KnownTree, IsMember}

-- a pattern node of that kind, a literal or `"..."`, also takes a name that is known to hold a literal
abbrev pub takes_names : Kind → Bool
takes_names kinds.StrAny = true
takes_names kind = is_literal kind

-- some node of the pattern is a literal or `"..."`
abbrev pub has_literal : Node → Bool
has_literal p = some_is (λ (n : Node). takes_names (kind_of n)) (pre_of p)

-- the pattern knows of constants, and has a literal or `"..."`
abbrev pub uses_literals : Pattern → Bool
uses_literals pattern = pattern.constants && has_literal pattern.tree

-- whatever is known of names, files with the same tree have the same members of the pattern
abbrev pub MembersNeedNoNames : Pattern → Type 0
MembersNeedNoNames pattern = (file other : KnownTree) → file.tree ≡ other.tree → (m : Member) → IsMember pattern file m ↔ IsMember pattern other m

-- so what a search finds in the one is what there is in the other
abbrev pub LeavesNeedNoNames : Pattern → Type 0
LeavesNeedNoNames pattern = (file other : KnownTree) → file.tree ≡ other.tree → (leaf : Leaf) → IsLeaf (IsMember pattern file) leaf → IsLeaf (IsMember pattern other) leaf
