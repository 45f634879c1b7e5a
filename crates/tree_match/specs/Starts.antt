-- Where a pattern may begin.
use Rattle.std.specs.Prelude.{◌≡◌, ℕ, List, map, false}
use Rattle.node_tree.specs.declared.node.Node.{Node}
use Rattle.node_tree.specs.Tree.{kind_of}
use Rattle.node_tree.specs.Order.{kind_place}
use Rattle.node_tree.specs.Numbers.{Numbered, pre_at}
use Rattle.node_match.specs.declared.class.Role.TheVariants as roles
use Rattle.node_tree.specs.Kinds.{is_literal}
use Rattle.node_match.specs.Kinds.{role_of}

abbrev pub kind_at : Numbered → ℕ
kind_at s = kind_place (kind_of s.node)

-- the kinds of the nodes of a tree in preorder
abbrev pub kinds_at : Numbered → List ℕ
kinds_at s = map kind_at (pre_at s)

-- the pattern matches nodes of one kind alone, and this is another
pub record IsElsewhere (p : Node) (kind : ℕ) : Type 0 where
  pub plain : role_of (kind_of p) ≡ roles.Plain
  pub fixed : is_literal (kind_of p) ≡ false
  pub other : kind_place (kind_of p) ≡ kind → ⊥
