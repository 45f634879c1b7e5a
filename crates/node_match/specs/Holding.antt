-- What a name is known to hold.
use Rattle.std.specs.Prelude.{◌≡◌, List, true}
use Rattle.node_tree.specs.declared.node.Node.{Node}
use Rattle.node_tree.specs.declared.kind.Kind.TheVariants as kinds
use Rattle.node_tree.specs.declared.known.Known.{Known}
use Rattle.node_tree.specs.Tree.{kind_of, content_of}
use Rattle.node_tree.specs.Numbers.{Numbered}
use Rattle.node_tree.specs.Kinds.{is_literal}
use Rattle.node_match.specs.Relation.{Holds, MatchesKids}
use Rattle.node_match.specs.Free.{HasText}
use Rattle.meta_bind.specs.declared.bound.Bound.{Bound}

-- the node is a name that is known to hold a string
abbrev pub HoldsString : List Known → Numbered → Type 0
HoldsString C n = (literal : Node) × Holds C n literal × (kind_of literal ≡ kinds.Str)

-- the pattern is a literal, and the node a name that is known to hold one of the same content
abbrev pub HoldsSame : List Known → Node → Numbered → Type 0
HoldsSame C p n = (literal : Node) × (is_literal (kind_of p) ≡ true) × Holds C n literal × (content_of literal ≡ content_of p)

-- a plain pattern takes a node of its own kind and text
abbrev pub Same : List Known → Node → Numbered → List Bound → List Bound → Type 0
Same C p n b c = (kind_of p ≡ kind_of n.node) × HasText p n.node × MatchesKids C p n b c

-- a literal takes a name that holds it
abbrev pub Held : List Known → Node → Numbered → List Bound → List Bound → Type 0
Held C p n b c = HoldsSame C p n × (b ≡ c)
