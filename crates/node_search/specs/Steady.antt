-- Patterns whose names stand for something already.
use Rattle.std.specs.Prelude.{◌≡◌, ◌⊎◌, ℕ, List, Some}
use Rattle.node_tree.specs.declared.node.Node.{Node}
use Rattle.node_tree.specs.Tree.{kind_of, text_of, pre_of}
use Rattle.meta_bind.specs.declared.bound.Bound.{Bound}
use Rattle.meta_bind.specs.Bounds.{bound_at}
use Rattle.node_match.specs.declared.class.Role.{Role}
use Rattle.node_match.specs.declared.class.Role.TheVariants as roles
use Rattle.node_match.specs.Kinds.{role_of}
use Rattle.node_match.specs.Sets.{Among}
use Rattle.node_match.specs.Relation.{wild, MatchesKid}
use Rattle.node_tree.specs.declared.known.Known.{Known}
use Rattle.node_tree.specs.Numbers.{Numbered}

-- the name is bound
abbrev pub IsBound : List Bound → List ℕ → Type 0
IsBound b name = (old : Bound) × (bound_at name b ≡ Some old)

-- a pattern node with that role and name binds nothing new
abbrev pub BindsNothing : List Bound → Role → List ℕ → Type 0
BindsNothing b roles.Meta name = (name ≡ wild) ⊎ IsBound b name
BindsNothing b roles.MetaDots name = IsBound b name
BindsNothing b _ name = Unit {0}

-- no name of the pattern is new
abbrev pub IsSteady : List Bound → Node → Type 0
IsSteady b q = (m : Node) → Among (pre_of q) m → BindsNothing b (role_of (kind_of m)) (text_of m)

-- the pattern matches the kid of that holder with some binding that this one is taken to
abbrev pub IsMatched : List Known → Numbered → Node → Numbered → List Bound → Type 0
IsMatched C h p n b = (c : List Bound) × MatchesKid C h p n b c
