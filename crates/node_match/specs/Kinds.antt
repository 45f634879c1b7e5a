-- What pattern nodes do.
use Rattle.node_tree.specs.declared.kind.Kind.{Kind}
use Rattle.node_tree.specs.declared.kind.Kind.TheVariants as kinds
use Rattle.node_match.specs.declared.class.Role.{Role}
use Rattle.node_match.specs.declared.class.Role.TheVariants as roles

-- what a pattern node of that kind does
abbrev pub role_of : Kind → Role
role_of kinds.Meta = roles.Meta
role_of kinds.MetaDots = roles.MetaDots
role_of kinds.Dots = roles.Dots
role_of kinds.Deep = roles.Deep
role_of kinds.StrAny = roles.StrAny
role_of _ = roles.Plain

-- a pattern that matches one node, and not a run
abbrev pub IsOne : Role → Type 0
IsOne roles.Dots = ⊥
IsOne roles.MetaDots = ⊥
IsOne _ = Unit {0}
