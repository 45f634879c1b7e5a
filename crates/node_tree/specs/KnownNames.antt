-- Names that are known to hold a literal.
use Rattle.std.specs.Prelude.{◌≡◌, ℕ, List, All, Some, map, slice_get}
use Rattle.std.specs.List.Sorted.{IsStrictlyIncreasing}
use Rattle.std.specs.Option.{option_map}
use Rattle.node_tree.specs.declared.node.Node.{Node}
use Rattle.node_tree.specs.declared.kind.Kind.TheVariants.{Name}
use Rattle.node_tree.specs.declared.known.Known.{Known}
use Rattle.node_tree.specs.Tree.{pre_of, kind_of}

-- the node of that number is a name
abbrev pub IsNameAt : Node → ℕ → Type 0
IsNameAt tree at = option_map kind_of (slice_get (pre_of tree) at) ≡ Some Name

-- each number is that of a name in the tree
abbrev pub AreNames : Node → List Known → Type 0
AreNames tree ks = All (λ k. IsNameAt tree k.at) ks

-- they stand in order of number, each once
abbrev pub AreInOrder : List Known → Type 0
AreInOrder ks = IsStrictlyIncreasing (map (λ k. k.at) ks)
